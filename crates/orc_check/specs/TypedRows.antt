-- What validity says of the types of a configuration's rows.
use Rattle.std.specs.Prelude.{◌≡◌, ℕ, Bool, false, ◌||◌, nat_eq, List, All, IsTrue, Some, None}
use Rattle.std.specs.FinMap.{get, entries}
use Rattle.orc_path.specs.Steps.{PathStep}
use Rattle.orc_path.specs.Configurations.{Config, IsConfig}
use Rattle.orc_path.specs.declared.item.Item.{Item}
use Rattle.orc_schema_nodes.specs.Schemas.{SchemaTable}
use Rattle.orc_typed.specs.Typed.{is_typed}
use Rattle.orc_check.specs.Validity.{row_breaches, broken_of}
use Rattle.orc_check.specs.declared.rules.TheConstants.{KIND, KEY}

-- the two rules on the types of what stands in a row: that of its node and its text, and that of its keys
abbrev pub is_type_rule : ℕ → Bool
is_type_rule rule = nat_eq rule KIND || nat_eq rule KEY

-- a row breaks neither of the two
abbrev pub KeepsTypes : SchemaTable → Config → (List PathStep × Item) → Type 0
KeepsTypes schema config row = All (λ breach. is_type_rule breach.rule ≡ false) (row_breaches schema config row)

-- a row may stand in a configuration under the schema
abbrev pub IsTypedRow : SchemaTable → (List PathStep × Item) → Type 0
IsTypedRow schema row = IsTrue (is_typed schema row.0 row.1)

-- Where no row breaks the rule of kinds or that of keys, each row is typed, and the other way round; so is each item
-- that is found. Where nothing is broken, no row breaks either.
pub record TypesAreKept (schema : SchemaTable) (config : Config) : Type 0 where
  pub typed : All (KeepsTypes schema config) (entries config) → All (IsTypedRow schema) (entries config)
  pub kept : All (IsTypedRow schema) (entries config) → All (KeepsTypes schema config) (entries config)
  pub found : All (KeepsTypes schema config) (entries config) → (path : List PathStep) (item : Item)
      → get config path ≡ Some item → IsTrue (is_typed schema path item)
  pub valid : broken_of schema config ≡ None → All (KeepsTypes schema config) (entries config)

-- That is so of each configuration under a schema of modules. A row shows the keys of its last step alone; the keys in
-- the steps before it are those of entries on the way, which are rows of their own.
abbrev pub ValidIsTyped : Type 0
ValidIsTyped =
    (schema : SchemaTable) (config : Config) → schema.plain ≡ false → IsConfig config → TypesAreKept schema config
