use Rattle.orc_path.proofs.PathOrder.{path_cmp_total}
use Rattle.orc_path.proofs.path.Path.cmp.Goals as goal

pub returns-clause-total : goal.returns-clause-total
returns-clause-total c = path_cmp_total
