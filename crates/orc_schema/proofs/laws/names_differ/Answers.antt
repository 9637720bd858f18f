use Rattle.orc_schema.proofs.Lawful.{names_differ}
use Rattle.orc_schema.proofs.laws.names_differ.Goals as goal

pub returns : goal.returns
returns c = names_differ
