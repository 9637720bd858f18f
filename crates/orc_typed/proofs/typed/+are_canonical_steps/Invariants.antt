use Rattle.std.specs.Prelude.{length}
use Rattle.orc_typed.proofs.typed.+are_canonical_steps.Given as goal

abbrev pub decreases-are_canonical_steps : goal.decreases-are_canonical_steps
decreases-are_canonical_steps l = length l.steps.now
