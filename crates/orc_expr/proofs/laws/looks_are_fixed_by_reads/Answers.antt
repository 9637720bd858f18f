use Rattle.orc_expr.proofs.Sound.{texts_sound, nodes_sound, judged_sound}
use Rattle.orc_expr.proofs.laws.looks_are_fixed_by_reads.Goals as goal

pub returns-clause-texts : goal.returns-clause-texts
returns-clause-texts c = texts_sound

pub returns-clause-nodes : goal.returns-clause-nodes
returns-clause-nodes c = nodes_sound

pub returns-clause-conditions : goal.returns-clause-conditions
returns-clause-conditions c = judged_sound
