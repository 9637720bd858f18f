use Rattle.orc_schema.proofs.Lawful.{nodes_stand_for_statements}
use Rattle.orc_schema.proofs.laws.nodes_stand_for_statements.Goals as goal

pub returns : goal.returns
returns c = nodes_stand_for_statements
