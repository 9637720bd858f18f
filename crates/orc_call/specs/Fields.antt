-- What an encoding is made of: fields, one after another, each with its bytes and its lawful values.
use Rattle.std.specs.Prelude.{◌≡◌, ℕ, ◌<◌, ◌≤◌, ◌^◌, List, [], ◌∷◌, ◌++◌, length, IsTrue, IsUtf8, Option, IfSome}
use Rattle.std.specs.declared.cmp.Ordering.TheVariants.{Less}
use Rattle.std.specs.Int.{w16, w32, w64, to_be_bytes}
use Rattle.std.specs.List.{flat_map, AllByRecursion}
use Rattle.orc_path.specs.Steps.{PathStep, is_path}
use Rattle.orc_path.specs.Order.{path_cmp}
use Rattle.orc_path.specs.Texts.{path_text}
use Rattle.orc_path.specs.Items.{fits}
use Rattle.orc_path.specs.declared.item.Item.{Item}
use Rattle.orc_path.specs.declared.item.Item.TheVariants.{Entry, Leaf}
use Rattle.orc_call.specs.declared.call.TheConstants.{MOST_ACTIONS}

-- a value where it stands: a path may stand after another one in a list in path order, and an item belongs to a path
pub data Field : Type 0 where
  a_text : List ℕ → Field
  a_number : ℕ → Field
  a_count_of_actions : ℕ → Field
  a_count_of_items : ℕ → Field
  a_kind : ℕ → Field
  a_path : Option (List PathStep) → List PathStep → Field
  an_item : List PathStep → Item → Field

-- the length in four bytes, and the bytes
abbrev pub text_bytes : List ℕ → List ℕ
text_bytes text = to_be_bytes w32 (length text) ++ text

-- the byte 0, or 1 and the text of a leaf
abbrev pub item_bytes : Item → List ℕ
item_bytes Entry = 0 ∷ []
item_bytes (Leaf text) = 1 ∷ text_bytes text

-- numbers are big-endian; a path is spelled as its text
abbrev pub field_bytes : Field → List ℕ
field_bytes (a_text text) = text_bytes text
field_bytes (a_number number) = to_be_bytes w64 number
field_bytes (a_count_of_actions count) = to_be_bytes w16 count
field_bytes (a_count_of_items count) = to_be_bytes w32 count
field_bytes (a_kind byte) = byte ∷ []
field_bytes (a_path before path) = text_bytes (path_text path)
field_bytes (an_item path item) = item_bytes item

-- the bytes of fields, one after another
abbrev pub spelled : List Field → List ℕ
spelled fields = flat_map field_bytes fields

-- UTF-8 whose length fits four bytes
abbrev pub IsText : List ℕ → Type 0
IsText text = (length text < 2 ^ 32) × IsUtf8 text

-- the bytes begin with a text of these bytes, and the rest follows
pub record HasText (bytes text rest : List ℕ) : Type 0 where
  pub is_text : IsText text
  pub parts : bytes ≡ text_bytes text ++ rest

-- the bytes begin with a text
abbrev pub HasSomeText : List ℕ → Type 0
HasSomeText bytes = (text rest : List ℕ) × HasText bytes text rest

-- an entry, or a leaf with a text
abbrev pub IsItem : Item → Type 0
IsItem Entry = Unit {0}
IsItem (Leaf text) = IsText text

-- a path that follows the one before it, where there is one
abbrev pub IsPathAfter : Option (List PathStep) → List PathStep → Type 0
IsPathAfter before path =
    IsTrue (is_path path) × IsText (path_text path) × IfSome before (λ earlier. path_cmp earlier path ≡ Less)

-- the field's value may stand there
abbrev pub IsLawful : Field → Type 0
IsLawful (a_text text) = IsText text
IsLawful (a_number number) = number < 2 ^ 64
IsLawful (a_count_of_actions count) = (1 ≤ count) × (count ≤ MOST_ACTIONS)
IsLawful (a_count_of_items count) = count < 2 ^ 32
IsLawful (a_kind byte) = (1 ≤ byte) × (byte ≤ 9)
IsLawful (a_path before path) = IsPathAfter before path
IsLawful (an_item path item) = IsTrue (fits path item) × IsItem item

abbrev pub AreLawful : List Field → Type 0
AreLawful fields = AllByRecursion IsLawful fields
