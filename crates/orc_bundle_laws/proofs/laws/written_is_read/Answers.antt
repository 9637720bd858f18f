use Rattle.orc_bundle_laws.proofs.WrittenBundle.{written_is_read}
use Rattle.orc_bundle_laws.proofs.laws.written_is_read.Goals as goal

pub returns : goal.returns
returns c = written_is_read
