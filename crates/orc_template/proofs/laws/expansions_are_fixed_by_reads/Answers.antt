use Rattle.orc_template.proofs.Fixed.{expansion_sound}
use Rattle.orc_template.proofs.laws.expansions_are_fixed_by_reads.Goals as goal

pub returns : goal.returns
returns c = expansion_sound
