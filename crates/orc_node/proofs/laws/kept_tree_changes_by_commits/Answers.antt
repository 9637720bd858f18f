use Rattle.orc_node.proofs.Kept.{kept_always}
use Rattle.orc_node.proofs.laws.kept_tree_changes_by_commits.Goals as goal

pub returns : goal.returns
returns c = kept_always
