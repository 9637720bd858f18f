use Rattle.std.proofs.Common.{List, ap, ◌∙◌}
use Rattle.std.specs.List.{position}
use Rattle.orc_rules.specs.Asked.{is_of}
use Rattle.orc_rules.specs.declared.asked.Asked.{Asked}
use Rattle.orc_hub_parts.proofs.Indexed.{slot_place}
use Rattle.orc_hub_parts.proofs.slots.Slots.place_of.Goals as goal

pub returns : goal.returns
returns c = c.place.ensures ∙ slot_place c.self.inside.rows c.self.inside.index c.args.caller.now c.args.number c.self.invariant
    ∙ ap (λ (l : List Asked). position (is_of c.args.caller.now c.args.number) l) c.self.view_is
