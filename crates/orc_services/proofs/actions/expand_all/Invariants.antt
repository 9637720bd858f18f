use Rattle.std.proofs.Common.{drop}
use Rattle.orc_services.specs.Fitting.{FitActions}
use Rattle.orc_services.specs.Services.{serving}
use Rattle.orc_services.proofs.Turns.{Stands}
use Rattle.orc_services.proofs.actions.expand_all.Given as goal

-- what was expanded, before what is left, is all
abbrev pub invariant-loop-action : goal.invariant-loop-action
invariant-loop-action l =
    Stands (serving l.lists l.devices l.view) l.fn.reads.reads l.actions l.expanded l.reads.reads (drop l.action-index l.actions)
    × FitActions l.expanded
