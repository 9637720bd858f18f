-- A canonical text as `orc_value` answers it.
use Rattle.std.specs.Prelude.{◌≡◌, ℕ, List, Result}
use Rattle.std.specs.declared.result.Result.TheVariants.{Ok, Err}
use Rattle.orc_value.specs.declared.fault.ValueFault.{ValueFault}
use Rattle.orc_value.specs.declared.fault.ValueFault.TheVariants as value
use Rattle.orc_template.specs.Values.{fitted, GivesValue}
use Rattle.orc_template.specs.declared.fault.Halt.{Halt}
use Rattle.orc_template.specs.declared.fault.Halt.TheVariants as halt

-- what is made of an answer: a text is within the limit, and running out of memory is handed on
abbrev pub FitsAnswer : Result (List ℕ) ValueFault → Result (List ℕ) Halt → Type 0
FitsAnswer (Ok text) result = GivesValue (fitted (Ok text)) result
FitsAnswer (Err (value.BadValue rule)) result = GivesValue (fitted (Err rule)) result
FitsAnswer (Err value.Memory) result = result ≡ Err halt.Memory
