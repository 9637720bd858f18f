use Rattle.orc_datastore.proofs.Trees.{trees_are_configs}
use Rattle.orc_datastore.proofs.laws.tree_is_configuration.Goals as goal

pub returns : goal.returns
returns c = trees_are_configs c.written_is_typed.ensures
