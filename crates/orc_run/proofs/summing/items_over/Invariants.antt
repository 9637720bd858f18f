use Rattle.std.proofs.Common.{◌≡◌, take}
use Rattle.orc_text.specs.Counts.{capped}
use Rattle.orc_run.specs.inside.Sums.{items_over}
use Rattle.orc_run.proofs.summing.items_over.Given as goal

abbrev pub invariant-loop-link : goal.invariant-loop-link
invariant-loop-link l = l.count ≡ capped (items_over (take l.link-index l.links))
