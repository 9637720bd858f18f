-- Which schema a device has.
use Rattle.std.proofs.Common.{◌≡◌, ◌+◌, ℕ, suc, List, [], ◌∷◌, Bool, true, false, not, cond, nat_lt, length, slice_get, Option, Some, None, option_and_then, refl, ap, sym, ◌∙◌, arith, lt-ltb}
use Rattle.std.specs.List.{position_or_len}
use Rattle.std.specs.Option.{option_map_or}
use Rattle.orc_schema_nodes.specs.Schemas.{SchemaTable, plain_table}
use Rattle.orc_decls.specs.Devices.{is_same_text, names_of}
use Rattle.orc_decls.specs.Names.{place_of}
use Rattle.orc_decls.specs.Calls.{device_named, schema_in, schema_named}
use Rattle.orc_decls.specs.declared.declarations.Device.{Device}

-- the schema of the device of a place
abbrev pub schema_at : List SchemaTable → List Device → ℕ → SchemaTable
schema_at schemas ds n = option_map_or (λ (d : Device). schema_in schemas d.schema) (slice_get ds n) plain_table

-- the device of a name stands at the name's place

pub one_more : (n : ℕ) → 1 + n ≡ suc n
one_more n = omega arith

pub within_more : (k n : ℕ) → nat_lt (1 + k) (suc n) ≡ nat_lt k n
within_more k n = grind arith

pub some_first : (n : ℕ) → nat_lt 0 (suc n) ≡ true
some_first n = lt-ltb 0 (suc n) (omega arith)

pub named_at : (name : List ℕ) (ds : List Device) → device_named ds name ≡ option_and_then (slice_get ds) (place_of (names_of ds) name)
named_at name [] = refl
named_at name (d ∷ ds) = on (is_same_text name d.name) (named_at name ds) where
  k : ℕ
  k = position_or_len (is_same_text name) (names_of ds)

  m : ℕ
  m = length (names_of ds)

  all : List Device
  all = d ∷ ds

  behind : (t : Bool) → option_and_then (slice_get ds) (cond t (Some k) None) ≡ option_and_then (slice_get all) (cond t (Some (1 + k)) None)
  behind true = sym (ap (slice_get all) (one_more k))
  behind false = refl

  on : (b : Bool) → device_named ds name ≡ option_and_then (slice_get ds) (cond (nat_lt k m) (Some k) None)
      → cond b (Some d) (device_named ds name)
      ≡ option_and_then (slice_get all) (cond (nat_lt (cond (not b) (1 + k) 0) (suc m)) (Some (cond (not b) (1 + k) 0)) None)
  on true more = sym (ap (λ (t : Bool). option_and_then (slice_get all) (cond t (Some 0) None)) (some_first m))
  on false more =
      more ∙ behind (nat_lt k m)
      ∙ sym (ap (λ (t : Bool). option_and_then (slice_get all) (cond t (Some (1 + k)) None)) (within_more k m))

pub schema_placed : (schemas : List SchemaTable) (ds : List Device) (name : List ℕ) (o : Option ℕ) → place_of (names_of ds) name ≡ o
    → schema_named schemas ds name ≡ option_map_or (schema_at schemas ds) o plain_table
schema_placed schemas ds name o is =
    ap (λ (x : Option Device). option_map_or (λ (d : Device). schema_in schemas d.schema) x plain_table)
    (named_at name ds ∙ ap (option_and_then (slice_get ds)) is)
    ∙ on o where
      on : (o : Option ℕ) → option_map_or (λ (d : Device). schema_in schemas d.schema) (option_and_then (slice_get ds) o) plain_table
          ≡ option_map_or (schema_at schemas ds) o plain_table
      on None = refl
      on (Some n) = refl

pub schema_found : (schemas : List SchemaTable) (ds : List Device) (name : List ℕ) (n : ℕ) (device : Device) → place_of (names_of ds) name ≡ Some n
    → slice_get ds n ≡ Some device → schema_named schemas ds name ≡ schema_in schemas device.schema
schema_found schemas ds name n device is there =
    schema_placed schemas ds name (Some n) is
    ∙ ap (λ (o : Option Device). option_map_or (λ (d : Device). schema_in schemas d.schema) o plain_table) there
