use Rattle.orc_lines.proofs.NumberedNames.{has_none}
use Rattle.orc_lines.proofs.names.SortedNames.new.Goals as goal

pub invariant_of-result : goal.invariant_of-result
invariant_of-result c = has_none c.new.result.items c.new-2.result c.new-2.ensures.empty c.new.ensures.items
