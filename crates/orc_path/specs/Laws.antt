-- What reading a text gives.
use Rattle.std.specs.Prelude.{◌≡◌, ◌↔◌, ℕ, List, IsTrue}
use Rattle.std.specs.declared.option.Option.TheVariants.{Some}
use Rattle.orc_path.specs.Alphabet.{is_value}
use Rattle.orc_path.specs.Steps.{PathStep, is_path}
use Rattle.orc_path.specs.Texts.{path_text, value_text}
use Rattle.orc_path.specs.Reading.{path_of}
use Rattle.orc_path.specs.Values.{value_of}

-- A text is read as a path exactly where it is the text of that path.
abbrev pub PathsAreRead : Type 0
PathsAreRead =
    (text : List ℕ) (path : List PathStep)
    → (path_of text ≡ Some path) ↔ (IsTrue (is_path path) × (path_text path ≡ text))

-- A text is read as a value exactly where it is the text of that value.
abbrev pub ValuesAreRead : Type 0
ValuesAreRead =
    (text value : List ℕ) → (value_of text ≡ Some value) ↔ (IsTrue (is_value value) × (value_text value ≡ text))
