-- The path of a text.
use Rattle.std.specs.Prelude.{ℕ, ◌==◌, ◌&&◌, nat_eq, List, [], ◌∷◌, drop, codes, Option, if◌then◌else◌}
use Rattle.std.specs.declared.option.Option.TheVariants.{None, Some}
use Rattle.std.specs.Cmp.Lexicographic.{pointwise}
use Rattle.orc_path.specs.Steps.{PathStep, is_path}
use Rattle.orc_path.specs.Texts.{path_text}
use Rattle.orc_path.specs.Values.{meant}

-- the part of a path's text in which a byte stands: a name, a key, or after a backslash in a key
pub data TextPart : Type 0 where
  InName : TextPart
  InKey : TextPart
  Escaped : TextPart

abbrev pub blank_step : PathStep
blank_step = record { node = []; keys = [] }

-- the byte, put before the first step's name
abbrev pub onto_name : ℕ → List PathStep → List PathStep
onto_name byte [] = []
onto_name byte (step ∷ steps) = record step { node = byte ∷ step.node } ∷ steps

-- the byte, put before the first of the keys
abbrev pub onto_first_key : ℕ → List (List ℕ) → List (List ℕ)
onto_first_key byte [] = []
onto_first_key byte (key ∷ keys) = (byte ∷ key) ∷ keys

-- the byte, put before the first step's first key
abbrev pub onto_key : ℕ → List PathStep → List PathStep
onto_key byte [] = []
onto_key byte (step ∷ steps) = record step { keys = onto_first_key byte step.keys } ∷ steps

-- with an empty key before the first step's keys
abbrev pub with_key : List PathStep → List PathStep
with_key [] = []
with_key (step ∷ steps) = record step { keys = [] ∷ step.keys } ∷ steps

-- the steps that bytes mean: each slash outside a key begins one, and brackets hold a key
abbrev pub steps_of : TextPart → List ℕ → List PathStep
steps_of part [] = blank_step ∷ []
steps_of InName (byte ∷ rest) =
    if byte == 47 then blank_step ∷ steps_of InName rest else
    if byte == 91 then steps_of InKey rest else onto_name byte (steps_of InName rest)
steps_of InKey (byte ∷ rest) =
    if byte == 93 then with_key (steps_of InName rest) else
    if byte == 92 then steps_of Escaped rest else onto_key byte (steps_of InKey rest)
steps_of Escaped (byte ∷ rest) = onto_key (meant byte) (steps_of InKey rest)

-- the path that a text means: a slash alone is the root, and nothing stands before the first slash
abbrev pub steps_in : List ℕ → List PathStep
steps_in text = if pointwise nat_eq text (codes "/") then [] else drop 1 (steps_of InName text)

-- the path, where it is one and this is its text
abbrev pub path_with : List ℕ → List PathStep → Option (List PathStep)
path_with text path = if is_path path && pointwise nat_eq (path_text path) text then Some path else None

-- the path of a text, where it is the text of one
unfoldable pub path_of : List ℕ → Option (List PathStep)
path_of text = path_with text (steps_in text)
