use Rattle.std.proofs.Common.{◌≡◌, Some, List, sym, ap, subst, ◌∙◌}
use Rattle.orc_rules.specs.Asked.{slot_of, with_answer}
use Rattle.orc_rules.specs.declared.asked.Asked.{Asked}
use Rattle.orc_hub_parts.proofs.CallSlots.{noted_slot, still_slot}
use Rattle.orc_hub_parts.proofs.Named.{noted_named}
use Rattle.orc_hub_parts.specs.inside.Named.{AreNamed}
use Rattle.orc_hub_parts.proofs.askers.Askers.put.Goals as goal

pub returns-in-Some-clause-put : goal.returns-in-Some-clause-put
returns-in-Some-clause-put c =
    let call = c.args.call.now in
    let slot : slot_of c.self.inside.slots call ≡ Some c.in-Some.place = sym c.place_of.ensures ∙ c.in-Some.is in
    c.note-last.ensures.slots ∙ noted_slot c.self.inside.slots call c.in-Some.place c.args.answer slot
    ∙ ap (λ (l : List Asked). with_answer call c.args.answer l) c.self.view_is

pub returns-in-Some-clause-place : goal.returns-in-Some-clause-place
returns-in-Some-clause-place c =
    let call = c.args.call.now in
    let slot : slot_of c.self.inside.slots call ≡ Some c.in-Some.place = sym c.place_of.ensures ∙ c.in-Some.is in
    ap (λ (l : List Asked). slot_of l call) c.note-last.ensures.slots ∙ still_slot c.self.inside.slots call c.in-Some.place c.args.answer slot

pub invariant_of-self : goal.invariant_of-self
invariant_of-self c =
    subst (λ (l : List Asked). AreNamed l c.self.inside.names) (sym c.note-last.ensures.slots)
    (noted_named c.self.inside.slots c.self.inside.names c.in-Some.place c.args.answer c.self.invariant)
