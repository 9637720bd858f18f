use Rattle.std.proofs.Common.{◌≡◌, ℕ, List, sym, subst}
use Rattle.std.specs.Prelude.{Option, MatchOption, slice_get}
use Rattle.std.specs.declared.option.Option.TheVariants.{Some}
use Rattle.orc_call.specs.declared.call.Call.{Call}
use Rattle.orc_datastore.specs.Legal.{AnswersAtOnce, IsNew, IsSame}
use Rattle.orc_state.proofs.state.State.repeated.Goals as goal

pub answer_at-requires : goal.answer_at-requires
answer_at-requires c =
    let history = c.args.self.now.history in
    let call = c.args.call.now in
    subst (λ (l : List Call). (entry : Call) × (slice_get l c.in-Some.place ≡ Some entry) × IsSame entry call) (sym c.history.ensures)
    (subst (λ (o : Option ℕ). MatchOption o (IsNew history call) (λ place. (entry : Call) × (slice_get history place ≡ Some entry) × IsSame entry call)) c.in-Some.is c.in_ok-place.ensures)

pub returns-in-Some : goal.returns-in-Some
returns-in-Some c = λ decls. subst (λ (l : List Call). AnswersAtOnce decls l c.args.call.now c.answer_at.result) c.history.ensures (c.answer_at.ensures decls)

pub returns-in-None : goal.returns-in-None
returns-in-None c =
    let history = c.args.self.now.history in
    let call = c.args.call.now in
    subst (λ (o : Option ℕ). MatchOption o (IsNew history call) (λ place. (entry : Call) × (slice_get history place ≡ Some entry) × IsSame entry call)) c.in-None.is c.in_ok-place.ensures
