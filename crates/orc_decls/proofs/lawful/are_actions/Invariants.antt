use Rattle.std.proofs.Common.{◌≡◌, length}
use Rattle.std.specs.List.{list_all}
use Rattle.orc_decls.specs.Calls.{is_action}
use Rattle.orc_decls.proofs.lawful.are_actions.Given as goal

-- those that are left decide
abbrev pub invariant-loop-rest : goal.invariant-loop-rest
invariant-loop-rest l = list_all (is_action l.decls) l.rest ≡ list_all (is_action l.decls) l.actions

abbrev pub decreases-loop-rest : goal.decreases-loop-rest
decreases-loop-rest l = length l.rest
