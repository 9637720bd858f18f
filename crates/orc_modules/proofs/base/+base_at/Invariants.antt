-- Each call has one typedef fewer to go.
use Rattle.orc_modules.proofs.base.+base_at.Given as goal

abbrev pub decreases-base_at : goal.decreases-base_at
decreases-base_at l = l.depth
