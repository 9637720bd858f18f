use Rattle.std.proofs.Common.{◌≡◌, None, drop}
use Rattle.std.specs.List.{fold}
use Rattle.orc_rules.specs.Due.{due_with}
use Rattle.orc_hub_parts.proofs.due.least_due.Given as goal

abbrev pub invariant-loop-it : goal.invariant-loop-it
invariant-loop-it l = fold (due_with l.duties) l.found (drop l.it-index l.active) ≡ fold (due_with l.duties) None l.active
