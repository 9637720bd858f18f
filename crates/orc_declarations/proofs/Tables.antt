-- What was declared of devices is a table of them.
use Rattle.std.proofs.Common.{◌≡◌, ℕ, Bool, true, false, not, cond, Option, Some, None, ◌&&◌, ◌==◌, nat_lt, List, [], ◌∷◌, length, map, refl, ap, sym, ◌∙◌, arith}
use Rattle.std.specs.List.{AllByRecursion, IsDistinct, list_all, list_any}
use Rattle.std.proofs.lemmas.Bool.{and_parts, and_from, or_from}
use Rattle.std.proofs.lemmas.List.{length-map}
use Rattle.orc_value.specs.Canon.{same_text}
use Rattle.orc_schema_nodes.specs.Schemas.{SchemaTable}
use Rattle.orc_template.specs.Devices.{DeviceTable, all_differ, is_device_table}
use Rattle.orc_decls.specs.Devices.{is_same_text, names_of}
use Rattle.orc_decls.specs.Calls.{is_device, is_device_under, is_lawful_name, schema_in}
use Rattle.orc_decls.specs.declared.declarations.Device.{Device}
use Rattle.orc_lines.specs.Lawful.{AreDeclared, decls_with}
use Rattle.orc_lines.specs.declared.declared.Declared.{Declared}

-- tables of a known type
abbrev pub some : DeviceTable → Option DeviceTable
some t = Some t

abbrev pub none_of : Option DeviceTable
none_of = None

none_same : (name : List ℕ) (later : List (List ℕ)) → AllByRecursion (λ (n : List ℕ). is_same_text name n ≡ false) later → list_any (same_text name) later ≡ false
none_same name [] h = refl
none_same name (n ∷ ns) h = or_from (same_text name n) (list_any (same_text name) ns) h.0 (none_same name ns h.1)

differ : (names : List (List ℕ)) → IsDistinct is_same_text names → all_differ names ≡ true
unfolding IsDistinct
differ [] h = refl
differ (name ∷ later) h =
    and_from (not (list_any (same_text name) later)) (all_differ later) (ap not (none_same name later h.0)) (differ later h.1)

-- the place of each device's schema is one
placed : (schemas : List SchemaTable) (devices : List Device) → list_all (is_device schemas) devices ≡ true
    → list_all (λ place. nat_lt place (length schemas)) (map (λ (device : Device). device.schema) devices) ≡ true
placed schemas [] h = refl
placed schemas (d ∷ ds) h =
    let parts = and_parts (is_device schemas d) (list_all (is_device schemas) ds) h in
    let front = (and_parts (is_lawful_name d.name && nat_lt d.schema (length schemas)) (is_device_under (schema_in schemas d.schema) d) parts.0).0 in
    and_from (nat_lt d.schema (length schemas)) _ (and_parts (is_lawful_name d.name) (nat_lt d.schema (length schemas)) front).1 (placed schemas ds parts.1)

equal : (m n : ℕ) → m ≡ n → (m == n) ≡ true
equal m n h = grind arith

pub table_is : (d : Declared) → AreDeclared d → IsDistinct is_same_text d.names → is_device_table (decls_with [] d).table ≡ true
table_is d known distinct =
    let places = map (λ (device : Device). device.schema) d.devices in
    let size : length places ≡ length d.names =
    length-map d.devices (λ (device : Device). device.schema) ∙ sym (length-map d.devices (λ (device : Device). device.name)) ∙ sym (ap length known.named) in
    and_from (all_differ d.names) _ (differ d.names distinct)
    (and_from (length places == length d.names) _ (equal (length places) (length d.names) size) (placed d.schemas d.devices known.devices))

-- what is made of equal parts is that table
pub made : (d : Declared) (names : List (List ℕ)) (schemas : List SchemaTable) (places : List ℕ) (found : Option DeviceTable) → AreDeclared d → IsDistinct is_same_text d.names
    → names ≡ d.names → schemas ≡ d.schemas → places ≡ map (λ (device : Device). device.schema) d.devices
    → found ≡ cond (is_device_table (record { names = names; schemas = schemas; of = places })) (Some (record { names = names; schemas = schemas; of = places })) None
    → found ≡ Some (decls_with [] d).table
made d names schemas places found known distinct one two three is =
    is
    ∙ ap (λ (ns : List (List ℕ)). built (record { names = ns; schemas = schemas; of = places })) one
    ∙ ap (λ (ss : List SchemaTable). built (record { names = d.names; schemas = ss; of = places })) two
    ∙ ap (λ (ps : List ℕ). built (record { names = d.names; schemas = d.schemas; of = ps })) three
    ∙ ap (λ (b : Bool). cond b (Some (decls_with [] d).table) None) (table_is d known distinct)
  where
    built : DeviceTable → Option DeviceTable
    built t = cond (is_device_table t) (Some t) None

pub some_same : (a b : DeviceTable) → some a ≡ Some b → a ≡ b
some_same a b h = cc

pub not_none : (b : DeviceTable) → none_of ≡ Some b → ⊥
not_none b h = cc
