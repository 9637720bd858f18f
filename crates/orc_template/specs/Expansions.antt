-- The expansion of a service under a template: what its blocks write, in their order, and what their expressions read.
use Rattle.std.specs.Prelude.{◌≡◌, ℕ, ◌+◌, Bool, true, false, List, [], ◌∷◌, ◌++◌, map, codes, Option, Result, slice_get, slice_set, if◌then◌else◌}
use Rattle.std.specs.declared.option.Option.TheVariants.{None, Some}
use Rattle.std.specs.declared.result.Result.TheVariants.{Ok, Err}
use Rattle.std.specs.Option.{option_and_then, unwrap_or}
use Rattle.std.specs.FinMap.{empty, entries}
use Rattle.serde_json.specs.Data.{Data, null}
use Rattle.serde_json.specs.Find.{get}
use Rattle.orc_path.specs.Configurations.{Config}
use Rattle.orc_path.specs.Steps.{PathStep}
use Rattle.orc_path.specs.Views.{Viewed}
use Rattle.orc_path.specs.declared.item.Item.{Item}
use Rattle.orc_call.specs.declared.call.Put.{Put}
use Rattle.orc_expr.specs.Expressions.{Expression, Condition}
use Rattle.orc_expr.specs.Looks.{nodes_of, judged}
use Rattle.orc_expr.specs.declared.read.Read.{Read}
use Rattle.orc_schema_nodes.specs.Schemas.{SchemaTable}
use Rattle.orc_template.specs.Readers.{Readers}
use Rattle.orc_template.specs.Values.{Scene, Done, done, string_done}
use Rattle.orc_template.specs.Writing.{Ended, ends, object_done}
use Rattle.orc_template.specs.Devices.{DeviceTable, device_of, schema_of_device}
use Rattle.orc_template.specs.Blocks.{Blocks, no_block, block, block_count, blocks_inside, text_of_member}
use Rattle.orc_template.specs.declared.writing.Writing.{Writing}
use Rattle.orc_template.specs.declared.fault.TheConstants.{MANY_VALUES, UNKNOWN_DEVICE, BAD_LEAF}
use Rattle.orc_template.specs.declared.fault.ExpandFault.{ExpandFault}
use Rattle.orc_template.specs.declared.fault.ExpandFault.TheVariants.{At, Memory}

-- what is written so far on each device, in the order of their numbers, and all that was read so far
pub record Expanding : Type 0 where
  pub written : List Config
  pub reads : List Read

-- the block at fault, the rule, and what was read up to there
pub record Failed : Type 0 where
  pub block : ℕ
  pub rule : ℕ
  pub reads : List Read

abbrev pub fails : {X : Type 0} → ℕ → Result X Ended → Result X Failed
fails number (Ok value) = Ok value
fails number (Err ended) = Err (record { block = number; rule = ended.rule; reads = ended.reads })

-- one thing after another
abbrev pub go_further : {X Y : Type 0} → Result X Failed → (X → Result Y Failed) → Result Y Failed
go_further (Ok value) more = more value
go_further (Err failed) more = Err failed

-- what an expansion stands on: how texts are read, what is seen, and the devices
pub record Ground : Type 0 where
  pub readers : Readers
  pub view : Viewed
  pub devices : DeviceTable

abbrev pub scene_at : Ground → List PathStep → Scene
scene_at grounds here = record { readers = grounds.readers; view = grounds.view; here = here }

-- `when` -------------------------------------------------------------------------------------------------------------

abbrev pub told : Option Bool → Result Bool ℕ
told None = Err MANY_VALUES
told (Some met) = Ok met

-- whether the condition of a block holds, which has none or one
abbrev pub condition_done : Scene → Option Condition → List Read → Done Bool
condition_done scene None reads = done (Ok true) reads
condition_done scene (Some condition) reads =
    done (told (judged condition scene.here scene.view).is_met)
    (reads ++ (judged condition scene.here scene.view).reads)

abbrev pub when_done : Scene → Data → List Read → Done Bool
when_done scene json reads =
    condition_done scene (option_and_then scene.readers.condition (text_of_member (codes "when") json)) reads

-- `device` and `config` ----------------------------------------------------------------------------------------------

-- what was written on a device is put in its place
abbrev pub put_written : ℕ → List Config → Result Writing Ended → Result Expanding Ended
put_written number written (Ok writing) =
    Ok (record { written = slice_set written number writing.tree; reads = writing.reads.reads })
put_written number written (Err ended) = Err ended

-- what is written on a device that has a schema
abbrev pub on_tree : Scene → ℕ → Data → SchemaTable → Option Config → Expanding → Result Expanding Ended
on_tree scene number config schema None expanding = ends UNKNOWN_DEVICE expanding.reads
on_tree scene number config schema (Some tree) expanding = put_written number expanding.written
    (object_done scene schema [] [] config (record { tree = tree; reads = record { reads = expanding.reads } }))

-- a plain device has no leaf
abbrev pub on_schema : Scene → ℕ → Data → Option SchemaTable → Option Config → Expanding → Result Expanding Ended
on_schema scene number config None tree expanding = ends UNKNOWN_DEVICE expanding.reads
on_schema scene number config (Some schema) tree expanding =
    if schema.plain then ends BAD_LEAF expanding.reads else on_tree scene number config schema tree expanding

abbrev pub on_device : Ground → List PathStep → Data → Option ℕ → Expanding → Result Expanding Ended
on_device grounds here config None expanding = ends UNKNOWN_DEVICE expanding.reads
on_device grounds here config (Some number) expanding =
    on_schema (scene_at grounds here) number config (schema_of_device grounds.devices number)
    (slice_get expanding.written number) expanding

abbrev pub on_name : Ground → List PathStep → Data → Result (List ℕ) ℕ → Expanding → Result Expanding Ended
on_name grounds here config (Ok name) expanding =
    on_device grounds here config (device_of name grounds.devices.names) expanding
on_name grounds here config (Err rule) expanding = ends rule expanding.reads

abbrev pub target_by : Ground → List PathStep → Data → Option (List ℕ) → Expanding → Result Expanding Ended
target_by grounds here json None expanding = Ok expanding
target_by grounds here json (Some text) expanding =
    on_name grounds here (unwrap_or (get (codes "config") json) null)
    (string_done (scene_at grounds here) text expanding.reads).value
    (record expanding { reads = (string_done (scene_at grounds here) text expanding.reads).reads })

-- the device of a block and what its `config` writes there, where it has them
abbrev pub target_done : Ground → List PathStep → Data → Expanding → Result Expanding Ended
target_done grounds here json expanding = target_by grounds here json (text_of_member (codes "device") json) expanding

-- Blocks -------------------------------------------------------------------------------------------------------------

-- a block at a node: its target and then the blocks inside, where its condition holds
abbrev pub met_by : Ground → ℕ → Data → (List PathStep → Expanding → Result Expanding Failed) → List PathStep
    → Result Bool ℕ → Expanding → Result Expanding Failed
met_by grounds block_number json inside here (Ok true) expanding =
    go_further (fails block_number (target_done grounds here json expanding)) (inside here)
met_by grounds block_number json inside here (Ok false) expanding = Ok expanding
met_by grounds block_number json inside here (Err rule) expanding = fails block_number (ends rule expanding.reads)

abbrev pub node_expanded : Ground → ℕ → Data → (List PathStep → Expanding → Result Expanding Failed)
    → List PathStep → Expanding → Result Expanding Failed
node_expanded grounds block_number json inside here expanding =
    met_by grounds block_number json inside here (when_done (scene_at grounds here) json expanding.reads).value
    (record expanding { reads = (when_done (scene_at grounds here) json expanding.reads).reads })

abbrev pub nodes_expanded : Ground → ℕ → Data → (List PathStep → Expanding → Result Expanding Failed)
    → List (List PathStep) → Expanding → Result Expanding Failed
nodes_expanded grounds block_number json inside [] expanding = Ok expanding
nodes_expanded grounds block_number json inside (node ∷ more) expanding =
    go_further (node_expanded grounds block_number json inside node expanding)
    (nodes_expanded grounds block_number json inside more)

-- where `for` leads
abbrev pub found_expanded : Ground → ℕ → Data → (List PathStep → Expanding → Result Expanding Failed)
    → Option (List (List PathStep)) → Expanding → Result Expanding Failed
found_expanded grounds block_number json inside None expanding = fails block_number (ends MANY_VALUES expanding.reads)
found_expanded grounds block_number json inside (Some nodes) expanding =
    nodes_expanded grounds block_number json inside nodes expanding

abbrev pub look_expanded : Ground → ℕ → Data → (List PathStep → Expanding → Result Expanding Failed)
    → Option (List (List PathStep)) → List Read → Expanding → Result Expanding Failed
look_expanded grounds block_number json inside found read expanding =
    found_expanded grounds block_number json inside found (record expanding { reads = expanding.reads ++ read })

-- a block is done once at its context, or with `for` once for each node, which is then the context
abbrev pub each_expanded : Ground → List PathStep → ℕ → Data → (List PathStep → Expanding → Result Expanding Failed)
    → Option Expression → Expanding → Result Expanding Failed
each_expanded grounds here block_number json inside None expanding =
    node_expanded grounds block_number json inside here expanding
each_expanded grounds here block_number json inside (Some each) expanding =
    look_expanded grounds block_number json inside (nodes_of each here grounds.view).found
    (nodes_of each here grounds.view).reads expanding

abbrev pub block_expanded : Ground → List PathStep → ℕ → Data
    → (List PathStep → Expanding → Result Expanding Failed) → Expanding → Result Expanding Failed
block_expanded grounds here block_number json inside expanding =
    each_expanded grounds here block_number json inside
    (option_and_then grounds.readers.expression (text_of_member (codes "for") json)) expanding

-- blocks in their order, numbered in the order of the text from `first` on, the outer before the inner
abbrev pub blocks_expanded : Ground → List PathStep → ℕ → Blocks → Expanding → Result Expanding Failed
blocks_expanded grounds here first no_block expanding = Ok expanding
blocks_expanded grounds here first (block json inner later) expanding = go_further
    (block_expanded grounds here first json (λ node. blocks_expanded grounds node (first + 1) inner) expanding)
    (blocks_expanded grounds here (first + 1 + block_count inner) later)

-- nothing is written on any device
abbrev pub nothing_written : DeviceTable → Expanding
nothing_written devices = record { written = map (λ name. empty) devices.names; reads = [] }

-- the expansion of a template, which is its JSON, at an instance of its list
abbrev pub expanded : Readers → DeviceTable → List PathStep → Data → Viewed → Result Expanding Failed
expanded readers devices instance template view =
    blocks_expanded (record { readers = readers; view = view; devices = devices }) instance 1 (blocks_inside template)
    (nothing_written devices)

-- what it read
abbrev pub reads_expanded : Result Expanding Failed → List Read
reads_expanded (Ok expanding) = expanding.reads
reads_expanded (Err failed) = failed.reads

-- the items of each device on which one is written: devices by their numbers, items in path order
abbrev pub row_put : List PathStep × Item → Put
row_put row = record { path = row.0; item = row.1 }

abbrev pub device_part : ℕ → List (List PathStep × Item) → List (ℕ × List Put)
device_part number [] = []
device_part number (row ∷ rows) = (number, map row_put (row ∷ rows)) ∷ []

abbrev pub device_parts : ℕ → List Config → List (ℕ × List Put)
device_parts number [] = []
device_parts number (config ∷ later) = device_part number (entries config) ++ device_parts (number + 1) later

-- The answer of an expansion: what is written, or the first fault; the reads are added, and none where memory runs out.
abbrev pub AnswersExpansion : Result Expanding Failed → List Read → List Read
    → Result (List (ℕ × List Put)) ExpandFault → Type 0
AnswersExpansion due old new (Ok parts) =
    (expanding : Expanding) × (due ≡ Ok expanding) × (parts ≡ device_parts 0 expanding.written)
    × (new ≡ old ++ expanding.reads)
AnswersExpansion due old new (Err (At number rule)) =
    (reads : List Read) × (due ≡ Err (record { block = number; rule = rule; reads = reads })) × (new ≡ old ++ reads)
AnswersExpansion due old new (Err Memory) = new ≡ old

-- The answer with what is written on each device, by the devices' numbers, or the first fault; the reads are added.
abbrev pub AnswersWriting : Result Expanding Failed → List Read → List Read → Result (List Config) ExpandFault → Type 0
AnswersWriting due old new (Ok trees) =
    (expanding : Expanding) × (due ≡ Ok expanding) × (trees ≡ expanding.written) × (new ≡ old ++ expanding.reads)
AnswersWriting due old new (Err (At number rule)) =
    (reads : List Read) × (due ≡ Err (record { block = number; rule = rule; reads = reads })) × (new ≡ old ++ reads)
AnswersWriting due old new (Err Memory) = new ≡ old
