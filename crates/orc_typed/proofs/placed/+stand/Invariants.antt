use Rattle.std.specs.Prelude.{length}
use Rattle.orc_typed.proofs.placed.+stand.Given as goal

abbrev pub decreases-stand : goal.decreases-stand
decreases-stand l = length l.steps.now
