-- The configuration that JSON gives, or its least fault.
use Rattle.std.specs.Prelude.{ℕ, ◌≡◌, List, [], ◌∷◌, Option, Some, None, Result, Ok, Err, is_some, if◌then◌else◌, IsUtf8, ◌&&◌, nat_lt, length}
use Rattle.std.specs.FinMap.{empty, get, entries}
use Rattle.std.specs.List.{filter}
use Rattle.std.specs.Option.{option_map_or}
use Rattle.std.specs.Ordering.{nat_cmp, ordering_then, is_lt}
use Rattle.std.specs.declared.cmp.Ordering.{Ordering}
use Rattle.serde_json.specs.Data.{Data}
use Rattle.serde_json.specs.Read.{read}
use Rattle.orc_path.specs.Configurations.{Config, put_item}
use Rattle.orc_path.specs.Order.{path_cmp, is_prefix}
use Rattle.orc_path.specs.Steps.{PathStep}
use Rattle.orc_path.specs.declared.item.Item.{Item}
use Rattle.orc_schema_nodes.specs.Schemas.{SchemaTable}
use Rattle.orc_json.specs.Findings.{Finding, states, breaks, object_at}
use Rattle.orc_json.specs.declared.fault.JsonFault.{JsonFault}
use Rattle.orc_json.specs.declared.fault.JsonFault.TheVariants.{Syntax, Bad, Memory}
use Rattle.orc_json.specs.declared.fault.TheConstants.{DUPLICATE}
use Rattle.orc_json.specs.declared.reading.Breach.{Breach}
use Rattle.orc_json.specs.declared.reading.Reading.{Reading}

-- Faults are ordered by their paths, and at one path by their rules.
abbrev pub fault_cmp : Breach → Breach → Ordering
fault_cmp one other = ordering_then (path_cmp one.path other.path) (nat_cmp one.rule other.rule)

-- the lesser of two
abbrev pub lesser_fault : Breach → Option Breach → Breach
lesser_fault one None = one
lesser_fault one (Some other) = if is_lt (fault_cmp one other) then one else other

-- a rule is broken at a path
abbrev pub with_fault : List PathStep → ℕ → Reading → Reading
with_fault path rule reading = record {
  tree = reading.tree;
  breach = Some (lesser_fault (record { path = path; rule = rule }) reading.breach);
}

-- One thing more is found. Where something stands at the path of an item, its second statement breaks DUPLICATE.
abbrev pub find : Finding → Reading → Reading
find (states path item) reading = record {
  tree = put_item reading.tree path item;
  breach = if is_some (get reading.tree path) then (with_fault path DUPLICATE reading).breach else reading.breach;
}
find (breaks path rule) reading = with_fault path rule reading

abbrev pub find_all : List Finding → Reading → Reading
find_all [] reading = reading
find_all (finding ∷ later) reading = find_all later (find finding reading)

abbrev pub nothing_read : Reading
nothing_read = record { tree = empty; breach = None }

-- the object of the JSON at a path
abbrev pub reading : SchemaTable → List PathStep → Data → Reading
reading schema at json = find_all (object_at schema [] at json) nothing_read

-- A configuration where no rule is broken, and else the least of the faults.
abbrev pub outcome : Reading → Result Config Breach
outcome reading = option_map_or Err reading.breach (Ok reading.tree)

-- Bytes ---------------------------------------------------------------------------------------------------------------

-- the bytes are the JSON text of a value
pub record IsJson (bytes : List ℕ) (json : Data) : Type 0 where
  pub utf8 : IsUtf8 bytes
  pub value : read bytes ≡ Some json

-- the bytes are no JSON text
abbrev pub IsNoJson : List ℕ → Type 0
IsNoJson bytes = (json : Data) → IsJson bytes json → ⊥

-- the bytes are read as the configuration
pub record IsReadAs (schema : SchemaTable) (bytes : List ℕ) (config : Config) : Type 0 where
  pub json : Data
  pub text : IsJson bytes json
  pub gives : outcome (reading schema [] json) ≡ Ok config

-- what stands below a path
abbrev pub rows_below : List PathStep → Config → List (List PathStep × Item)
rows_below at config = filter (λ row. is_prefix at row.0 && nat_lt (length at) (length row.0)) (entries config)

-- An answer: what a configuration is answered with, or the least fault of the JSON, or that there is no JSON;
-- running out of memory is free.
abbrev pub JsonGives : {X : Type 0} → (Config → X → Type 0) → SchemaTable → List PathStep → List ℕ
    → Result X JsonFault → Type 0
JsonGives Is schema at bytes (Ok answer) =
    (json : Data) × (config : Config) × IsJson bytes json × (outcome (reading schema at json) ≡ Ok config)
    × Is config answer
JsonGives Is schema at bytes (Err Syntax) = IsNoJson bytes
JsonGives Is schema at bytes (Err (Bad path rule)) =
    (json : Data) × IsJson bytes json × (outcome (reading schema at json) ≡ Err (record { path = path; rule = rule }))
JsonGives Is schema at bytes (Err Memory) = Unit {0}

-- An answer for a value: its configuration, or its least fault.
abbrev pub IsOutcome : Result Config Breach → Result Config JsonFault → Type 0
IsOutcome due (Ok config) = due ≡ Ok config
IsOutcome due (Err Syntax) = ⊥
IsOutcome due (Err (Bad path rule)) = due ≡ Err (record { path = path; rule = rule })
IsOutcome due (Err Memory) = ⊥
