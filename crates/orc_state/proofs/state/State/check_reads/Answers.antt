use Rattle.std.proofs.Common.{ℕ, List, length, ap, subst, ◌∙◌, arith}
use Rattle.orc_state.specs.States.{State}
use Rattle.std.specs.Prelude.{MatchOption, Option}
use Rattle.orc_path.specs.declared.item.Write.{Write}
use Rattle.orc_datastore.specs.States.{opening}
use Rattle.orc_state.specs.Checks.{reads_of}
use Rattle.orc_state.specs.inside.Firsts.{AreUntouched, IsFirstIn}
use Rattle.orc_state.proofs.Conflicts.{along_count, answer_is, unread_whole}
use Rattle.orc_state.proofs.state.State.check_reads.Goals as goal

pub first_conflict-requires : goal.first_conflict-requires
first_conflict-requires c =
    omega (
      arith,
      c.requires.plan.front,
      along_count c.args.decls.now (opening c.args.decls.now) c.args.self.now.history c.args.self.now.writes c.requires.state.writes,
      ap (λ (l : List (List Write)). length l) c.as_slice.ensures,
      ap (λ (s : State). length s.writes) c.self.view_is,
    )

pub check_stores-requires-clause-unread : goal.check_stores-requires-clause-unread
check_stores-requires-clause-unread c =
    let reads = reads_of c.args.plan.now in
    let front = c.args.plan.now.front in
    let rows = c.as_slice.result.now in
    unread_whole c.args.decls.now c.args.self.now.history c.args.self.now.writes c.requires.state.writes c.args.plan.now
    (subst (λ (l : List (List Write)). AreUntouched reads l front (length l)) (c.as_slice.ensures ∙ ap (λ (s : State). s.writes) c.self.view_is)
    (subst (λ (o : Option (ℕ × ℕ)). MatchOption o (AreUntouched reads rows front (length rows)) (IsFirstIn reads rows front)) c.in-None.is c.first_conflict.ensures))

pub returns-in_ok-conflict-in-Some : goal.returns-in_ok-conflict-in-Some
returns-in_ok-conflict-in-Some c =
    let reads = reads_of c.args.plan.now in
    let front = c.args.plan.now.front in
    let rows = c.as_slice.result.now in
    answer_is c.args.decls.now c.args.self.now.history c.args.self.now.writes c.requires.state.writes c.args.plan.now c.args.call.now c.args.self.now.datastore
    c.in-Some.at c.in_ok-conflict-in-Some.field-0 c.requires.state.datastore c.requires.early
    (subst (λ (l : List (List Write)). IsFirstIn reads l front c.in-Some.at) (c.as_slice.ensures ∙ ap (λ (s : State). s.writes) c.self.view_is)
    (subst (λ (o : Option (ℕ × ℕ)). MatchOption o (AreUntouched reads rows front (length rows)) (IsFirstIn reads rows front)) c.in-Some.is c.first_conflict.ensures))
    c.in_ok-conflict-in-Some.ensures
