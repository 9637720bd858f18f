use Rattle.orc_node.proofs.Kept.{running_always}
use Rattle.orc_node.proofs.laws.running_changes_by_commits.Goals as goal

pub returns : goal.returns
returns c = running_always
