use Rattle.std.proofs.Common.{sym, subst}
use Rattle.std.specs.Prelude.{Err, option_map}
use Rattle.orc_types.specs.Types.{type_fault}
use Rattle.orc_statements.specs.Faults.{of_type_fault}
use Rattle.orc_statements.specs.Meeting.{Meets}
use Rattle.orc_statements.proofs.TypeFaults.{no_fault, same_fault}
use Rattle.orc_statements.proofs.type_faults.plain_fault.Goals as goal

pub returns-in-Ok : goal.returns-in-Ok
returns-in-Ok c = no_fault c.args.base.now c.args.stmt.now _ c.in-Ok.ensures

pub returns : goal.returns
returns c = subst (λ f. Meets (option_map of_type_fault (type_fault c.args.base.now c.args.stmt.now)) (Err f)) (sym c.of_type.ensures)
    (same_fault c.args.base.now c.args.stmt.now c.in-Err.fault c.in-Err.ensures)
