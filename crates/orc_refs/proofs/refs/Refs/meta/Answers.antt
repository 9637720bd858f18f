use Rattle.std.proofs.Common.{◌≡◌, ◌<◌, length, ap, sym, refl, ◌∙◌, arith}
use Rattle.std.proofs.lemmas.Bool.{false≢true}
use Rattle.orc_refs.specs.Stores.{Store, ids_at}
use Rattle.orc_refs.proofs.RowLaws.{no_id, some_id}
use Rattle.orc_refs.proofs.refs.Refs.meta.Goals as goal

pub returns-then-is_empty-clause-none : goal.returns-then-is_empty-clause-none
returns-then-is_empty-clause-none c =
    let ids : c.ids_of-back.result.now ≡ ids_at c.args.self.now c.args.path.now = c.ids_of-back.ensures ∙ ap (λ (s : Store). ids_at s c.args.path.now) c.self.view_is in
    (λ h. sym ids ∙ no_id c.ids_of-back.result.now (sym c.if-is_empty.ensures), λ e. refl)

pub returns-clause-none : goal.returns-clause-none
returns-clause-none c =
    let ids : c.ids_of-back.result.now ≡ ids_at c.args.self.now c.args.path.now = c.ids_of-back.ensures ∙ ap (λ (s : Store). ids_at s c.args.path.now) c.self.view_is in
    let some : 0 < length c.ids_of-back.result.now = some_id c.ids_of-back.result.now (sym c.if-is_empty.ensures) in
    (λ h. absurd (false≢true h), λ e. absurd (omega (arith, some, ap length (ids ∙ e))))

pub returns-clause-count : goal.returns-clause-count
returns-clause-count c =
    ap length (c.ids_of-back.ensures ∙ ap (λ (s : Store). ids_at s c.args.path.now) c.self.view_is)

pub returns-clause-back : goal.returns-clause-back
returns-clause-back c = c.ids_of-back.ensures ∙ ap (λ (s : Store). ids_at s c.args.path.now) c.self.view_is
