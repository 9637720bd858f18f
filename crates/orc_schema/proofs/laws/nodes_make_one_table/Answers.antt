use Rattle.orc_schema.proofs.Orders.{nodes_make_one_table}
use Rattle.orc_schema.proofs.laws.nodes_make_one_table.Goals as goal

pub returns : goal.returns
returns c = nodes_make_one_table
