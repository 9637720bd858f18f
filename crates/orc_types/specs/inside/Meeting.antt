-- What an answer says of the fault that is due.
use Rattle.std.specs.Prelude.{◌≡◌, List, Option, Some, None, Result, Ok, Err}
use Rattle.orc_types.specs.declared.fault.TypeFault.{TypeFault}
use Rattle.orc_types.specs.declared.fault.TypeFault.TheVariants.{Memory}
use Rattle.orc_types.specs.declared.types.EnumName.{EnumName}

-- Ok where no fault is due, and else that fault; or memory runs out
abbrev pub Meets : Option TypeFault → Result (Unit {0}) TypeFault → Type 0
Meets due (Ok done) = due ≡ None
Meets due (Err Memory) = Unit {0}
Meets due (Err fault) = due ≡ Some fault

-- the enums of the block where no fault is due, and else that fault; or memory runs out
abbrev pub Finds : Option TypeFault → List EnumName → Result (List EnumName) TypeFault → Type 0
Finds due enums (Ok found) = (due ≡ None) × (found ≡ enums)
Finds due enums (Err Memory) = Unit {0}
Finds due enums (Err fault) = due ≡ Some fault
