use Rattle.orc_bundle_laws.proofs.WrittenBundle.{spelled_is_read}
use Rattle.orc_bundle_laws.proofs.laws.spelled_is_read.Goals as goal

pub returns : goal.returns
returns c = spelled_is_read
