use Rattle.std.proofs.Common.{List, ap, ◌∙◌}
use Rattle.std.specs.List.{position}
use Rattle.orc_rules.specs.Asked.{is_of}
use Rattle.orc_rules.specs.declared.asked.Asked.{Asked}
use Rattle.orc_hub_parts.proofs.Indexed.{pushed_indexed, unpushed_indexed}
use Rattle.orc_hub_parts.proofs.slots.Slots.push.Goals as goal

pub invariant_of-self-in-Ok : goal.invariant_of-self-in-Ok
invariant_of-self-in-Ok c =
    pushed_indexed c.self.inside.rows c.push.new.self c.as_slice.result.now c.self.inside.index c.note.new.self c.args.slot c.index-as_slice-place.result
    c.len-place.result c.self.invariant c.requires.closed
    (ap (λ (l : List Asked). position (is_of c.args.slot.caller c.args.slot.number) l) c.self.view_is ∙ c.requires.new)
    c.in_ok-push.ensures.ok c.len-place.ensures c.as_slice.ensures c.note.ensures.paired c.in-Ok.ensures.ok

pub invariant_of-self-in-Err : goal.invariant_of-self-in-Err
invariant_of-self-in-Err c =
    unpushed_indexed c.self.inside.rows c.push.new.self c.cut.new.rows c.self.inside.index c.note.new.self c.args.slot c.len-place.result c.self.invariant
    c.in_ok-push.ensures.ok c.len-place.ensures c.cut.ensures c.note.ensures.paired c.in-Err.ensures.err
