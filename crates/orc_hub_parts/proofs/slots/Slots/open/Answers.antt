use Rattle.std.proofs.Common.{◌≡◌, ◌<◌, List, length, sym, ap, subst, ◌∙◌}
use Rattle.std.specs.Prelude.{MatchOption, slice_get}
use Rattle.orc_rules.specs.Asked.{open_of}
use Rattle.orc_rules.specs.declared.asked.Asked.{Asked}
use Rattle.orc_hub_parts.proofs.Indexed.{named_known, named_within, opened_indexed}
use Rattle.orc_hub_parts.specs.inside.Indexed.{AreIndexed}
use Rattle.orc_hub_parts.proofs.slots.Slots.open.Goals as goal

pub set_open-requires-clause-known : goal.set_open-requires-clause-known
set_open-requires-clause-known c =
    named_known c.self.inside.rows c.self.inside.index c.args.place c.args.caller.now c.self.invariant
    (subst (λ (l : List Asked). MatchOption (slice_get l c.args.place) ⊥ (λ slot. slot.caller ≡ c.args.caller.now)) (sym c.self.view_is) c.requires.caller)

pub open_in-requires : goal.open_in-requires
open_in-requires c =
    subst (λ (l : List Asked). c.args.place < length l) (sym c.self.view_is) (named_within c.args.self.now c.args.place c.args.caller.now c.requires.caller)

pub invariant_of-self : goal.invariant_of-self
invariant_of-self c =
    subst (λ (l : List Asked). AreIndexed l c.set_open.new.self) (sym c.open_in.ensures)
    (opened_indexed c.self.inside.rows c.self.inside.index c.set_open.new.self c.args.place c.args.last c.args.caller.now c.self.invariant
    (subst (λ (l : List Asked). MatchOption (slice_get l c.args.place) ⊥ (λ slot. slot.caller ≡ c.args.caller.now)) (sym c.self.view_is) c.requires.caller)
    (ap (λ (l : List Asked). open_of l c.args.caller.now) c.self.view_is ∙ c.requires.closed) c.set_open.ensures.paired c.set_open.ensures.opens)
