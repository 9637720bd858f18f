use Rattle.std.proofs.Common.{◌≡◌, List, All, Some, Option, slice_get, ap, inr, subst, sym, ◌∙◌}
use Rattle.std.specs.Prelude.{MatchOption}
use Rattle.orc_hub_parts.specs.Due.{IsDueAs}
use Rattle.orc_rules.specs.declared.duty.Duty.{Duty}
use Rattle.orc_rules.specs.declared.transaction.Transaction.{Transaction}
use Rattle.orc_hub.specs.Decisions.{DecidesOn}
use Rattle.orc_hub.proofs.Dues.{is_found}
use Rattle.orc_hub.proofs.hub.Hub.decide_on.Goals as goal

pub unreachable-requires : goal.unreachable-requires
unreachable-requires g c =
    let hub = c.args.self.now in
    is_found hub.duties hub.active c.args.t
    (subst (λ (d : List Duty). All (λ it. IsDueAs d c.args.t it → ⊥) hub.active) c.as_slice.ensures
    (subst (λ (l : List Transaction). All (λ it. IsDueAs c.as_slice.result.now c.args.t it → ⊥) l) c.as_slice-2.ensures c.in-None.ensures))
    c.requires.due

pub returns : goal.returns
returns g c =
    let hub = c.args.self.now in
    let it = c.in-Some.ensures.0 in
    let at : slice_get hub.active c.in-Some.place ≡ Some it =
    subst (λ (l : List Transaction). slice_get l c.in-Some.place ≡ Some it) c.as_slice-2.ensures c.in-Some.ensures.1 in
    let on =
    subst (λ (o : Option Transaction). MatchOption o ⊥ (λ one. DecidesOn g.D.Disk.disk hub one c.decide_at.result c.decide_at.new.self)) at
    c.decide_at.ensures in
    inr (inr (c.requires.up, (c.in-Some.place, it, at, c.requires.due ∙ ap Some (sym c.in-Some.ensures.2.0), on)))
