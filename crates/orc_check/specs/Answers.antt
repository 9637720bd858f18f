-- What is answered of a configuration.
use Rattle.std.specs.Prelude.{◌≡◌, Option, Some, None, Result, Ok, Err}
use Rattle.orc_check.specs.declared.fault.CheckFault.{CheckFault}
use Rattle.orc_check.specs.declared.fault.CheckFault.TheVariants.{Broken, Memory}
use Rattle.orc_check.specs.Validity.{Breach}

-- Ok where there is no breach, and else that breach; or that memory ran out
abbrev pub AnswersBreach : Option Breach → Result (Unit {0}) CheckFault → Type 0
AnswersBreach due (Ok done) = due ≡ None
AnswersBreach due (Err (Broken path rule)) = due ≡ Some (record { path = path; rule = rule })
AnswersBreach due (Err Memory) = Unit {0}
