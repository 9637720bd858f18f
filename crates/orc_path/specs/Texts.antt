-- The texts of paths and values, and which texts are one.
use Rattle.std.specs.Prelude.{◌≡◌, ℕ, ◌<◌, ◌≤◌, ◌==◌, List, [], ◌∷◌, ◌++◌, length, take, codes, IsTrue, if◌then◌else◌}
use Rattle.std.specs.List.{flat_map}
use Rattle.orc_path.specs.Alphabet.{is_node_name}
use Rattle.orc_path.specs.Steps.{PathStep, is_path}

-- a byte of a key: backslash, ], space, tab, line feed and carriage return stand after a backslash
abbrev pub escape : ℕ → List ℕ
escape byte =
    if byte == 92 then codes "\\\\" else
    if byte == 93 then codes "\\]" else
    if byte == 32 then codes "\\s" else
    if byte == 9 then codes "\\t" else
    if byte == 10 then codes "\\n" else
    if byte == 13 then codes "\\r" else byte ∷ []

abbrev pub key_text : List ℕ → List ℕ
key_text key = codes "[" ++ flat_map escape key ++ codes "]"

abbrev pub step_text : PathStep → List ℕ
step_text step = codes "/" ++ step.node ++ flat_map key_text step.keys

-- a slash before each step; the root is a slash alone
abbrev pub path_text : List PathStep → List ℕ
path_text [] = codes "/"
path_text (first ∷ later) = step_text first ++ flat_map step_text later

-- a byte of a value: backslash, tab, line feed and carriage return stand after a backslash
abbrev pub value_escape : ℕ → List ℕ
value_escape byte =
    if byte == 92 then codes "\\\\" else
    if byte == 9 then codes "\\t" else
    if byte == 10 then codes "\\n" else
    if byte == 13 then codes "\\r" else byte ∷ []

abbrev pub value_text : List ℕ → List ℕ
value_text value = flat_map value_escape value

-- the bytes are the text of some path
abbrev pub IsPathText : List ℕ → Type 0
IsPathText bytes = (path : List PathStep) × (IsTrue (is_path path) × (path_text path ≡ bytes))

-- the bytes are the text of some node's name
abbrev pub IsNameText : List ℕ → Type 0
IsNameText bytes = IsTrue (is_node_name bytes)

-- some text of the kind begins with the bytes
abbrev pub CanBegin : (List ℕ → Type 0) → List ℕ → Type 0
CanBegin IsText bytes = (rest : List ℕ) × IsText (bytes ++ rest)

-- the bytes are no text of the kind, and their longest prefix with which some text of the kind begins has this length
pub record IsBadAt (IsText : List ℕ → Type 0) (bytes : List ℕ) (at : ℕ) : Type 0 where
  pub within : at ≤ length bytes
  pub begins : CanBegin IsText (take at bytes)
  pub longest : (len : ℕ) → at < len → len ≤ length bytes → CanBegin IsText (take len bytes) → ⊥
  pub none : IsText bytes → ⊥

-- a prefix of the bytes that are due stands after what stood there before, and nothing else
pub record AddsFront (due before now : List ℕ) : Type 0 where
  pub front : List ℕ
  pub rest : List ℕ
  pub is_due : due ≡ front ++ rest
  pub added : now ≡ before ++ front
