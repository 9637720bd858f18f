use Rattle.std.specs.Prelude.{length}
use Rattle.orc_typed.proofs.canonical.+canonical_steps.Given as goal

abbrev pub decreases-canonical_steps : goal.decreases-canonical_steps
decreases-canonical_steps l = length l.steps.now
