-- What a canonical form is and keeps.
use Rattle.std.specs.Prelude.{◌≡◌, Bool, true, List, IsTrue, Some}
use Rattle.std.specs.Option.{option_map_or}
use Rattle.orc_path.specs.Alphabet.{is_value}
use Rattle.orc_path.specs.Codes.{leaf_text}
use Rattle.orc_path.specs.Items.{fits}
use Rattle.orc_path.specs.Steps.{PathStep, is_path}
use Rattle.orc_path.specs.declared.item.Item.{Item}
use Rattle.orc_schema_nodes.specs.Schemas.{SchemaTable, path_names}
use Rattle.orc_typed.specs.Typed.{is_in_schema, canonical_path, canonical_item, is_typed}

-- a path and an item are the canonical forms of a path and an item
pub record AreCanonicalOf (s : SchemaTable) (path : List PathStep) (it : Item) (own : List PathStep) (own_it : Item)
    : Type 0 where
  pub at : canonical_path s path ≡ Some own
  pub item : canonical_item s path it ≡ Some own_it

-- The canonical form of what is in the schema may stand in a configuration.
abbrev pub CanonicalIsTyped : Type 0
CanonicalIsTyped =
    (s : SchemaTable) (path own : List PathStep) (it own_it : Item)
    → IsTrue (is_in_schema s path it) → AreCanonicalOf s path it own own_it → IsTrue (is_typed s own own_it)

-- What may stand in a configuration is its own canonical form.
abbrev pub TypedIsCanonical : Type 0
TypedIsCanonical =
    (s : SchemaTable) (path : List PathStep) (it : Item)
    → IsTrue (is_typed s path it) → AreCanonicalOf s path it path it

-- the text of an item is one of a value
abbrev pub has_plain_text : Item → Bool
has_plain_text it = option_map_or is_value (leaf_text it) true

-- What a canonical form keeps: the names; whether it is in the schema and fits; and that it is a path of keys, and a
-- value.
pub record KeepsPlace (s : SchemaTable) (path : List PathStep) (it : Item) (own : List PathStep) (own_it : Item)
    : Type 0 where
  pub names : path_names own ≡ path_names path
  pub in_schema : is_in_schema s own own_it ≡ is_in_schema s path it
  pub is_one : IsTrue (is_path path) → IsTrue (is_path own)
  pub fit : fits own own_it ≡ fits path it
  pub value : IsTrue (has_plain_text it) → IsTrue (has_plain_text own_it)

abbrev pub CanonicalKeeps : Type 0
CanonicalKeeps =
    (s : SchemaTable) (path own : List PathStep) (it own_it : Item)
    → AreCanonicalOf s path it own own_it → KeepsPlace s path it own own_it
