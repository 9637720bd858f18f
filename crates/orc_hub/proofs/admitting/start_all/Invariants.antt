use Rattle.std.proofs.Common.{◌≡◌, ◌<◌, All, length}
use Rattle.orc_rules.specs.Admissions.{started}
use Rattle.orc_hub.proofs.admitting.start_all.Given as goal

abbrev pub invariant-loop-sets : goal.invariant-loop-sets
invariant-loop-sets l = (started l.t l.sets.items l.duties ≡ started l.t l.fn.sets.items l.fn.duties) × All (λ one. one.0 < length l.duties) l.sets.items

abbrev pub decreases-loop-sets : goal.decreases-loop-sets
decreases-loop-sets l = length l.sets.items
