use Rattle.std.proofs.Common.{◌≡◌, ◌++◌, drop}
use Rattle.orc_datastore.specs.inside.Sights.{all_expansions}
use Rattle.orc_datastore.proofs.plan.all_expansions.Given as goal

-- those so far, and those of the actions that are left
abbrev pub invariant-loop-one : goal.invariant-loop-one
invariant-loop-one l =
    l.expansions ++ all_expansions l.decls.names l.left (drop l.one-index l.made) ≡ all_expansions l.decls.names l.actions l.made
