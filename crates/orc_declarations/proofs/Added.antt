-- A device or a type more stays lawful.
use Rattle.std.proofs.Common.{◌≡◌, ◌<◌, ◌+◌, ℕ, zero, suc, List, [], ◌∷◌, ◌++◌, codes, Bool, true, false, cond, ◌&&◌, nat_lt, length, length-append, slice_get, Option, Some, None, option_map, refl, ap, sym, ◌∙◌, subst, arith, lt-ltb, ltb-true}
use Rattle.std.specs.List.{list_all}
use Rattle.std.specs.Option.{option_map_or}
use Rattle.std.proofs.lemmas.Bool.{and_from, and_parts}
use Rattle.std.proofs.lemmas.List.Elements.{All-push}
use Rattle.orc_schema_nodes.specs.Schemas.{SchemaTable, plain_table}
use Rattle.orc_schema_nodes.specs.Sound.{IsSound}
use Rattle.orc_decls.specs.Calls.{is_device, is_lawful_name, schema_in, is_device_under}
use Rattle.orc_decls.specs.declared.declarations.Device.{Device}
use Rattle.orc_declarations.specs.Declarations.{schema_place, with_type}
use Rattle.orc_lines.specs.Names.{is_among, place_of, with_name}
use Rattle.orc_lines.specs.Words.{is_text}
use Rattle.orc_lines.specs.declared.declared.Declared.{Declared}
use Rattle.orc_lines.specs.Lawful.{AreDeclared}
use Rattle.orc_lines.proofs.SchemaPlaces.{some_same, no_some, place_within}

kind_within : (d : Declared) (t : Bool) (o : Option ℕ) (place : ℕ) → length d.schemas ≡ suc (length d.types)
    → ((n : ℕ) → o ≡ Some n → n < length d.types) → cond t (Some 0) (option_map suc o) ≡ Some place → place < length d.schemas
kind_within d true o place size within h = let first = some_same 0 place h in omega arith
kind_within d false None place size within h = absurd (no_some place h)
kind_within d false (Some n) place size within h =
    let here = within n refl in let behind = some_same (suc n) place h in omega arith

pub placed_within : (d : Declared) (kind : List ℕ) (place : ℕ) → AreDeclared d → schema_place d kind ≡ Some place → place < length d.schemas
placed_within d kind place known h =
    kind_within d (is_text kind (codes "plain")) (place_of d.types kind) place known.typed (place_within d.types kind) h

-- a type more

get_more : (schemas : List SchemaTable) (schema : SchemaTable) (n : ℕ) → n < length schemas → slice_get (schemas ++ schema ∷ []) n ≡ slice_get schemas n
get_more [] schema n h = absurd (omega arith)
get_more (s ∷ ss) schema zero h = refl
get_more (s ∷ ss) schema (suc n) h = get_more ss schema n (omega arith)

device_kept : (schemas : List SchemaTable) (schema : SchemaTable) (d : Device) → is_device schemas d ≡ true → is_device (schemas ++ schema ∷ []) d ≡ true
device_kept schemas schema d h =
    let more = schemas ++ schema ∷ [] in
    let two = and_parts (is_lawful_name d.name && nat_lt d.schema (length schemas)) (is_device_under (schema_in schemas d.schema) d) h in
    let one = and_parts (is_lawful_name d.name) (nat_lt d.schema (length schemas)) two.0 in
    let within = ltb-true d.schema (length schemas) one.1 in
    let size = length-append schemas (schema ∷ []) in
    let same : schema_in schemas d.schema ≡ schema_in more d.schema =
    ap (λ (o : Option SchemaTable). option_map_or (λ s. s) o plain_table) (sym (get_more schemas schema d.schema within)) in
    and_from (is_lawful_name d.name && nat_lt d.schema (length more)) (is_device_under (schema_in more d.schema) d)
    (and_from (is_lawful_name d.name) (nat_lt d.schema (length more)) one.0 (lt-ltb d.schema (length more) (omega arith)))
    (subst (λ (s : SchemaTable). is_device_under s d ≡ true) same two.1)

devices_kept : (schemas : List SchemaTable) (schema : SchemaTable) (ds : List Device) → list_all (is_device schemas) ds ≡ true
    → list_all (is_device (schemas ++ schema ∷ [])) ds ≡ true
devices_kept schemas schema [] h = refl
devices_kept schemas schema (d ∷ ds) h =
    let parts = and_parts (is_device schemas d) (list_all (is_device schemas) ds) h in
    and_from (is_device (schemas ++ schema ∷ []) d) (list_all (is_device (schemas ++ schema ∷ [])) ds)
    (device_kept schemas schema d parts.0) (devices_kept schemas schema ds parts.1)

pub type_more : (d : Declared) (name : List ℕ) (schema : SchemaTable) → AreDeclared d → IsSound schema → AreDeclared (with_type d name schema)
type_more d name schema known sound =
    let types = length-append d.types (name ∷ []) in
    let schemas = length-append d.schemas (schema ∷ []) in
    let size = known.typed in
    record {
      named = known.named;
      plain = get_more d.schemas schema 0 (omega arith) ∙ known.plain;
      typed = omega arith;
      devices = devices_kept d.schemas schema d.devices known.devices;
      few = known.few;
      items = known.items;
      served = known.served;
      services = known.services;
      apart = known.apart;
      sound = All-push IsSound d.schemas schema known.sound sound;
    }

-- a type more, with the names and the schemas that its reader then has

with_new : (names : List (List ℕ)) (name : List ℕ) → is_among names name ≡ false → with_name names name ≡ names ++ name ∷ []
with_new names name new = ap (λ (b : Bool). cond b names (names ++ name ∷ [])) new

pub type_added : (d : Declared) (name copy : List ℕ) (schema : SchemaTable) (types : List (List ℕ)) (schemas : List SchemaTable)
    → AreDeclared d → IsSound schema → is_among d.types name ≡ false → copy ≡ name → types ≡ with_name d.types copy
    → schemas ≡ d.schemas ++ schema ∷ [] → AreDeclared (record d { types = types; schemas = schemas })
type_added d name copy schema types schemas known sound new copied named grown =
    let all : types ≡ d.types ++ name ∷ [] = named ∙ ap (with_name d.types) copied ∙ with_new d.types name new in
    subst (λ (ts : List (List ℕ)). AreDeclared (record d { types = ts; schemas = schemas })) (sym all)
    (subst (λ (ss : List SchemaTable). AreDeclared (record d { types = d.types ++ name ∷ []; schemas = ss })) (sym grown)
    (type_more d name schema known sound))
