use Rattle.std.specs.Prelude.{length}
use Rattle.orc_typed.proofs.canonical.+with_keys.Given as goal

abbrev pub decreases-with_keys : goal.decreases-with_keys
decreases-with_keys l = length l.keys.now
