-- What an answer says of the fault that is due.
use Rattle.std.specs.Prelude.{◌≡◌, Option, Some, None, Result, Ok, Err}
use Rattle.orc_statements.specs.declared.fault.SchemaFault.{SchemaFault}
use Rattle.orc_statements.specs.declared.fault.SchemaFault.TheVariants.{Memory}

-- Ok where no fault is due, and else that fault; or memory runs out
abbrev pub Meets : Option SchemaFault → Result (Unit {0}) SchemaFault → Type 0
Meets due (Ok done) = due ≡ None
Meets due (Err Memory) = Unit {0}
Meets due (Err fault) = due ≡ Some fault
