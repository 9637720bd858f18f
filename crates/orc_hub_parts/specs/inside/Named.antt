-- The names that answers hand out.
use Rattle.std.specs.Prelude.{◌≡◌, ℕ, true, List, Option, length, slice_get}
use Rattle.std.specs.declared.option.Option.TheVariants.{Some}
use Rattle.orc_rules.specs.declared.asked.Asked.{Asked}

-- beside each slot stands a name or none, and beside each open one the name of its caller
pub record AreNamed (slots : List Asked) (names : List (Option (List ℕ))) : Type 0 where
  pub count : length names ≡ length slots
  pub named : (place : ℕ) (slot : Asked) → slice_get slots place ≡ Some slot → slot.is_open ≡ true
      → slice_get names place ≡ Some (Some slot.caller)
