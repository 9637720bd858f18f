-- What the contracts on templates rest on.
use Rattle.std.specs.Prelude.{◌≡◌, ℕ, ◌≤◌, Bool, true, false, not, ◌&&◌, List, Ok, Err, Some, IsTrue, length, slice_get}
use Rattle.std.specs.FinMap.{get}
use Rattle.serde_json.specs.Data.{Data}
use Rattle.orc_path.specs.Alphabet.{is_value}
use Rattle.orc_path.specs.Configurations.{Config, IsConfig}
use Rattle.orc_path.specs.Limits.{is_long_path, is_long_value}
use Rattle.orc_path.specs.Steps.{PathStep}
use Rattle.orc_path.specs.Views.{Viewed}
use Rattle.orc_path.specs.declared.item.Item.{Item}
use Rattle.orc_path.specs.declared.item.Item.TheVariants.{Entry, Leaf}
use Rattle.orc_expr.specs.Reads.{IsFixedByReads}
use Rattle.orc_schema_nodes.specs.Schemas.{SchemaTable}
use Rattle.orc_typed.specs.Typed.{is_typed}
use Rattle.orc_template.specs.Readers.{Readers, AreReaders}
use Rattle.orc_template.specs.Devices.{DeviceTable, schema_of_device}
use Rattle.orc_template.specs.Blocks.{Blocks, block_count, blocks_inside}
use Rattle.orc_template.specs.Expansions.{Expanding, Failed, expanded, reads_expanded}
use Rattle.orc_template.specs.declared.fault.TheConstants.{NO_VALUE, SELF_CLASH}

-- There are readers that give the expression, and the condition, of each text that has one.
abbrev pub TextsHaveReaders : Type 0
TextsHaveReaders = (readers : Readers) × AreReaders readers

-- Each two of them give the same of each text.
abbrev pub ReadersAreOne : Type 0
ReadersAreOne =
    (one other : Readers) → AreReaders one → AreReaders other → (text : List ℕ)
    → (one.expression text ≡ other.expression text) × (one.condition text ≡ other.condition text)

-- Two views that share what an expansion read give the same expansion and the same reads.
abbrev pub ExpansionsAreFixed : Type 0
ExpansionsAreFixed =
    (readers : Readers) (devices : DeviceTable) (instance : List PathStep) (template : Data) (view : Viewed)
    → IsFixedByReads (expanded readers devices instance template) reads_expanded view

-- what a leaf can hold: a value that keeps the limit
abbrev pub is_short_value : Item → Bool
is_short_value Entry = true
is_short_value (Leaf text) = is_value text && not (is_long_value text)

-- An item may stand at a path: the path keeps the limits, the schema has the item there in its canonical
-- form, and the text of a leaf is a value that keeps the limit.
pub record MayStand (schema : SchemaTable) (path : List PathStep) (it : Item) : Type 0 where
  pub short : is_long_path path ≡ false
  pub typed : IsTrue (is_typed schema path it)
  pub value : IsTrue (is_short_value it)

-- a configuration of such items
pub record IsConfigUnder (schema : SchemaTable) (config : Config) : Type 0 where
  pub whole : IsConfig config
  pub items : (path : List PathStep) (it : Item) → get config path ≡ Some it → MayStand schema path it

-- one for each device, under the schema of the device
pub record AreDeviceTrees (devices : DeviceTable) (trees : List Config) : Type 0 where
  pub one_each : length trees ≡ length devices.names
  pub written :
      (number : ℕ) (config : Config) (schema : SchemaTable)
      → slice_get trees number ≡ Some config → schema_of_device devices number ≡ Some schema
      → IsConfigUnder schema config

-- What an expansion writes on a device is a configuration of items that may stand under the device's schema.
abbrev pub WrittenIsTyped : Type 0
WrittenIsTyped =
    (readers : Readers) (devices : DeviceTable) (instance : List PathStep) (template : Data) (view : Viewed)
    (expanding : Expanding) → expanded readers devices instance template view ≡ Ok expanding
    → AreDeviceTrees devices expanding.written

-- The rule is one of the five of an expansion, and the block one of these blocks.
pub record IsFaultIn (blocks : Blocks) (failed : Failed) : Type 0 where
  pub first_rule : NO_VALUE ≤ failed.rule
  pub last_rule : failed.rule ≤ SELF_CLASH
  pub first_block : 1 ≤ failed.block
  pub last_block : failed.block ≤ block_count blocks

-- An expansion that fails names one of its rules, and one of the template's blocks.
abbrev pub FaultsAreNamed : Type 0
FaultsAreNamed =
    (readers : Readers) (devices : DeviceTable) (instance : List PathStep) (template : Data) (view : Viewed)
    (failed : Failed) → expanded readers devices instance template view ≡ Err failed
    → IsFaultIn (blocks_inside template) failed
