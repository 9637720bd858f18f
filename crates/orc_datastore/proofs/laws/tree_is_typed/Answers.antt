use Rattle.orc_datastore.proofs.TypedTrees.{trees_are_typed}
use Rattle.orc_datastore.proofs.laws.tree_is_typed.Goals as goal

pub returns : goal.returns
returns c = trees_are_typed c.written_is_typed.ensures
