use Rattle.std.proofs.Common.{◌≡◌, drop}
use Rattle.std.specs.List.{fold, flat_map}
use Rattle.orc_check.specs.Validity.{lesser_breach, least_breach}
use Rattle.orc_revalidate.specs.inside.Looked.{target_breaches, change_breaches}
use Rattle.orc_revalidate.proofs.looks.least_looked.Given as goal

-- the best so far goes on to the least over the targets that are left
abbrev pub invariant-loop-target : goal.invariant-loop-target
invariant-loop-target l =
    fold lesser_breach l.kept (flat_map (target_breaches l.schema l.old l.new) (drop l.target-index l.targets))
    ≡ least_breach (change_breaches l.schema l.old l.new l.targets)
