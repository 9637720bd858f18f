use Rattle.std.proofs.Common.{length}
use Rattle.orc_revalidate.proofs.led.+end_in_keys.Given as goal

abbrev pub decreases-end_in_keys : goal.decreases-end_in_keys
decreases-end_in_keys l = length l.steps.now
