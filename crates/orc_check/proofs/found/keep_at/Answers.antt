use Rattle.std.proofs.Common.{refl}
use Rattle.orc_check.proofs.Folds.{bare}
use Rattle.orc_check.proofs.found.keep_at.Goals as goal

pub returns : goal.returns
returns c = bare _ _ c.args.broken c.args.broken c.args.path.now c.args.rule c.keep_if.ensures refl
