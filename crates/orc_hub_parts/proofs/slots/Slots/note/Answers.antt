use Rattle.std.proofs.Common.{List, sym, subst}
use Rattle.orc_rules.specs.declared.asked.Asked.{Asked}
use Rattle.orc_hub_parts.proofs.Indexed.{noted_indexed}
use Rattle.orc_hub_parts.specs.inside.Indexed.{AreIndexed}
use Rattle.orc_hub_parts.proofs.slots.Slots.note.Goals as goal

pub invariant_of-self : goal.invariant_of-self
invariant_of-self c =
    subst (λ (l : List Asked). AreIndexed l c.self.inside.index) (sym c.note_in.ensures.slots)
    (noted_indexed c.self.inside.rows c.self.inside.index c.args.place c.args.answer c.self.invariant)
