use Rattle.orc_datastore.proofs.Literals.{literal_is_expansion}
use Rattle.orc_datastore.proofs.laws.literal_is_expansion.Goals as goal

pub returns : goal.returns
returns c = literal_is_expansion c.written_is_typed.ensures
