-- Texts that grow.
use Rattle.std.specs.Prelude.{◌≡◌, ℕ, List, ◌++◌, OnOk, Result, String}
use Rattle.std.specs.String.{string_bytes}

-- where it went well, this text was added
abbrev pub Adds : {A T E : Type 0} → Result T E → String A → String A → List ℕ → Type 0
Adds result old new text = OnOk result (string_bytes new ≡ string_bytes old ++ text)
