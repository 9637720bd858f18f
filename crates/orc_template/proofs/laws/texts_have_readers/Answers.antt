use Rattle.orc_template.specs.inside.Machine.{the_readers}
use Rattle.orc_template.proofs.ReadBack.{readers_read}
use Rattle.orc_template.proofs.laws.texts_have_readers.Goals as goal

pub returns : goal.returns
returns c = (the_readers, readers_read)
