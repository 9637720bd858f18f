use Rattle.std.proofs.Common.{◌==◌}
use Rattle.std.specs.Bool.{one_answer}
use Rattle.std.specs.FinMap.{len}
use Rattle.orc_datastore.proofs.Residents.{bare}
use Rattle.orc_datastore.proofs.service.is_blank.Goals as goal

pub returns : goal.returns
returns c = one_answer c.is_empty.result (len c.args.tree.now == 0) c.is_empty.ensures (bare c.args.tree.now)
