use Rattle.orc_schema.proofs.SoundTables.{schemas_are_sound}
use Rattle.orc_schema.proofs.laws.schemas_are_sound.Goals as goal

pub returns-clause-modules : goal.returns-clause-modules
returns-clause-modules c = schemas_are_sound
