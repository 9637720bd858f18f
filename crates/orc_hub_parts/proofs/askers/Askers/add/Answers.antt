use Rattle.std.proofs.Common.{◌≡◌, Some, None, ℕ, List, [], ◌∷◌, ◌++◌, false, sym, ap, ◌∙◌}
use Rattle.orc_rules.specs.Asked.{new_slot, slot_of}
use Rattle.orc_rules.specs.declared.asked.Asked.{Asked}
use Rattle.orc_hub_parts.proofs.CallSlots.{new_place}
use Rattle.orc_hub_parts.proofs.askers.Askers.add.Goals as goal

pub returns-in-Ok-clause-place : goal.returns-in-Ok-clause-place
returns-in-Ok-clause-place c =
    let call = c.args.call.now in
    let none : slot_of c.self.inside.slots call ≡ None = ap (λ (l : List Asked). slot_of l call) c.self.view_is ∙ c.requires in
    let pushed : c.push-2.new.self ≡ c.self.inside.slots ++ new_slot call (Some c.args.answer) false ∷ [] =
    c.in-Ok.ensures.ok
    ∙ ap (λ (caller : List ℕ). c.self.inside.slots ++ record { caller = caller; number = call.number; last = Some c.args.answer; is_open = false } ∷ []) c.in_ok-caller.ensures in
    ap (λ (l : List Asked). slot_of l call) pushed ∙ new_place c.self.inside.slots call (Some c.args.answer) false none ∙ ap Some (sym c.len-place.ensures)
