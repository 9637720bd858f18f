use Rattle.orc_template.specs.TheReaders.{the_readers}
use Rattle.orc_template.proofs.ReadBack.{readers_read}
use Rattle.orc_template.proofs.laws.the_readers_read_back.Goals as goal

pub returns : goal.returns
unfolding the_readers
returns c = readers_read
