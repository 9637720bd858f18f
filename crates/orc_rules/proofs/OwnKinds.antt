-- Devices as they are declared: what the nodes of their acceptances say of configurations.
use Rattle.std.proofs.Common.{◌≡◌, ◌<◌, ℕ, arith, lt-ltb, Bool, true, false, ◌&&◌, cond, nat_lt, zero, suc, List, [], ◌∷◌, Option, Some, None, IsTrue, length, refl, sym, ap, subst, ◌∙◌}
use Rattle.std.specs.Cmp.Lexicographic.{bytes_decides}
use Rattle.std.specs.FinMap.{empty}
use Rattle.std.specs.List.{AllByRecursion, IsDistinct, find, list_all, slice_get}
use Rattle.std.specs.Option.{option_map_or}
use Rattle.std.specs.Prelude.{is_none, map}
use Rattle.std.proofs.lemmas.Bool.{false≢true}
use Rattle.orc_path.specs.Configurations.{Config, IsConfig}
use Rattle.orc_check.specs.Acceptance.{accepts}
use Rattle.orc_check.specs.TypedRows.{TypesAreKept, ValidIsTyped}
use Rattle.orc_check.specs.Validity.{broken_of}
use Rattle.orc_datastore.specs.States.{config_of}
use Rattle.orc_decls.specs.Calls.{device_named, is_device, is_device_under, is_lawful_name, schema_in, schema_named}
use Rattle.orc_decls.specs.Declarations.{AreDecls, accept_of, accepts_base}
use Rattle.orc_decls.specs.Devices.{is_same_text, name_of, names_of}
use Rattle.orc_decls.specs.Openings.{declared_base}
use Rattle.orc_decls.specs.declared.declarations.Decls.{Decls}
use Rattle.orc_decls.specs.declared.declarations.Device.{Device}
use Rattle.orc_node.specs.Kinds.{device_kind, set_stands}
use Rattle.orc_node.specs.Laws.{IsTypedTree}
use Rattle.orc_schema_nodes.specs.Schemas.{SchemaTable, plain_table}
use Rattle.orc_rules.specs.Acceptance.{IsOfSchema, declared_kind, node_kind, plain_accept}
use Rattle.orc_rules.specs.UnderHub.{IsOfHub}
use Rattle.orc_rules.specs.Worlds.{over}

pub own_is_of_hub : (decls : Decls) (device : ℕ) → IsOfHub (declared_kind decls device)
own_is_of_hub decls device = on (slice_get decls.devices device)
  where
    on : (one : Option Device) → IsOfHub (node_kind decls.schemas one)
    on None = record { same = refl; between = refl; changed = λ set config. refl }
    on (Some d) = record { same = refl; between = refl; changed = λ set config. refl }

-- names

same_text : (a : List ℕ) → is_same_text a a ≡ true
same_text a = (bytes_decides a a).1 refl

apart_again : (a b : List ℕ) → is_same_text a b ≡ false → is_same_text b a ≡ false
apart_again a b h = on (is_same_text b a) refl
  where
    on : (c : Bool) → is_same_text b a ≡ c → is_same_text b a ≡ false
    on true e = absurd (false≢true (sym h ∙ (bytes_decides a b).1 (sym ((bytes_decides b a).0 e))))
    on false e = e

apart_at : (name : List ℕ) (devices : List Device) → AllByRecursion (λ other. is_same_text name other ≡ false) (names_of devices) → (place : ℕ) (d : Device)
    → slice_get devices place ≡ Some d → is_same_text name d.name ≡ false
apart_at name [] all place d is = absurd cc
apart_at name (x ∷ devices) all zero d is = let same : x ≡ d = cc in ap (λ (y : Device). is_same_text name y.name) (sym same) ∙ all.0
apart_at name (x ∷ devices) all (suc place) d is = apart_at name devices all.1 place d is

name_at : (devices : List Device) (place : ℕ) (d : Device) → slice_get devices place ≡ Some d → name_of (names_of devices) place ≡ d.name
name_at [] place d is = absurd cc
name_at (x ∷ devices) zero d is = let same : x ≡ d = cc in ap (λ (y : Device). y.name) same
name_at (x ∷ devices) (suc place) d is = name_at devices place d is

named_at : (devices : List Device) → IsDistinct is_same_text (names_of devices) → (place : ℕ) (d : Device) → slice_get devices place ≡ Some d
    → device_named devices d.name ≡ Some d
unfolding IsDistinct
named_at [] apart place d is = absurd cc
named_at (x ∷ devices) apart zero d is =
    let same : x ≡ d = cc in
    ap (λ (b : Bool). cond b (Some x) (device_named devices d.name)) (ap (λ (y : Device). is_same_text d.name y.name) same ∙ same_text d.name) ∙ ap (λ y. Some y) same
named_at (x ∷ devices) apart (suc place) d is =
    ap (λ (b : Bool). cond b (Some x) (device_named devices d.name)) (apart_again x.name d.name (apart_at x.name devices apart.0 place d is))
    ∙ named_at devices apart.1 place d is

no_name : (devices : List Device) (place : ℕ) → slice_get devices place ≡ None → name_of (names_of devices) place ≡ []
no_name [] place is = refl
no_name (x ∷ devices) zero is = absurd cc
no_name (x ∷ devices) (suc place) is = no_name devices place is

-- lists of which each element passes a test

first_so : (a b : Bool) → (a && b) ≡ true → a ≡ true
first_so true b h = refl
first_so false b h = absurd (false≢true h)

later_so : (a b : Bool) → (a && b) ≡ true → b ≡ true
later_so true b h = h
later_so false b h = absurd (false≢true h)

passes_at : (test : Device → Bool) (devices : List Device) → list_all test devices ≡ true → (place : ℕ) (d : Device) → slice_get devices place ≡ Some d → test d ≡ true
passes_at test [] all place d is = absurd cc
passes_at test (x ∷ devices) all zero d is = let same : x ≡ d = cc in ap test (sym same) ∙ first_so (test x) (list_all test devices) all
passes_at test (x ∷ devices) all (suc place) d is = passes_at test devices (later_so (test x) (list_all test devices) all) place d is

-- nobody has the empty name
unnamed : (schemas : List SchemaTable) (devices : List Device) → list_all (is_device schemas) devices ≡ true → device_named devices [] ≡ None
unnamed schemas [] all = refl
unnamed schemas (x ∷ devices) all =
    ap (λ (b : Bool). cond b (Some x) (device_named devices [])) (on x.name refl) ∙ unnamed schemas devices (later_so (is_device schemas x) (list_all (is_device schemas) devices) all)
  where
    lawful : is_lawful_name x.name ≡ true
    lawful = first_so (is_lawful_name x.name) (nat_lt x.schema (length schemas))
        (first_so (is_lawful_name x.name && nat_lt x.schema (length schemas)) (is_device_under (schema_in schemas x.schema) x)
        (first_so (is_device schemas x) (list_all (is_device schemas) devices) all))

    on : (name : List ℕ) → x.name ≡ name → is_same_text [] x.name ≡ false
    on [] e = absurd (false≢true (sym (ap is_lawful_name e) ∙ lawful))
    on (byte ∷ name) e = ap (is_same_text []) e

none_is : {X : Type 0} (o : Option X) → is_none o ≡ true → o ≡ None
none_is None h = refl
none_is (Some x) h = absurd (false≢true h)

-- bases

base_at : (devices : List Device) (place : ℕ) (d : Device) → slice_get devices place ≡ Some d → config_of (map declared_base devices) place ≡ declared_base d
base_at [] place d is = absurd cc
base_at (x ∷ devices) zero d is = let same : x ≡ d = cc in ap declared_base same
base_at (x ∷ devices) (suc place) d is = base_at devices place d is

no_base : (devices : List Device) (place : ℕ) → slice_get devices place ≡ None → config_of (map declared_base devices) place ≡ empty
no_base [] place is = refl
no_base (x ∷ devices) zero is = absurd cc
no_base (x ∷ devices) (suc place) is = no_base devices place is

within_names : (devices : List Device) (place : ℕ) (d : Device) → slice_get devices place ≡ Some d → place < length (names_of devices)
within_names [] place d is = absurd cc
within_names (x ∷ devices) zero d is = omega arith
within_names (x ∷ devices) (suc place) d is = let below = within_names devices place d is in omega (arith, below)

module _ (decls : Decls) (are : AreDecls decls) where
  -- the schema of the device that is declared there, or the plain one where none is
  schema_is : (device : ℕ) (one : Option Device) → slice_get decls.devices device ≡ one
      → schema_named decls.schemas decls.devices (name_of decls.names device) ≡ option_map_or (λ d. schema_in decls.schemas d.schema) one plain_table
  schema_is device None is = named [] (no_name decls.devices device is) None (unnamed decls.schemas decls.devices are.devices)
    where
      named : (name : List ℕ) → name_of (names_of decls.devices) device ≡ name → (o : Option Device) → device_named decls.devices name ≡ o
          → schema_named decls.schemas decls.devices (name_of decls.names device) ≡ option_map_or (λ d. schema_in decls.schemas d.schema) o plain_table
      named name is o there =
          ap (λ (n : List ℕ). schema_named decls.schemas decls.devices n) (ap (λ (l : List (List ℕ)). name_of l device) are.named ∙ is)
          ∙ ap (λ (x : Option Device). option_map_or (λ d. schema_in decls.schemas d.schema) x plain_table) there
  schema_is device (Some d) is =
      ap (λ (n : List ℕ). schema_named decls.schemas decls.devices n) (ap (λ (l : List (List ℕ)). name_of l device) are.named ∙ name_at decls.devices device d is)
      ∙ ap (λ (x : Option Device). option_map_or (λ e. schema_in decls.schemas e.schema) x plain_table)
      (named_at decls.devices (subst (λ (l : List (List ℕ)). IsDistinct is_same_text l) are.named are.distinct) device d is)

  pub own_is_of_schema : (device : ℕ) → IsOfSchema decls device (declared_kind decls device)
  own_is_of_schema device = on (slice_get decls.devices device) refl
    where
      on : (one : Option Device) → slice_get decls.devices device ≡ one
          → (node_kind decls.schemas one).fits ≡ set_stands (schema_named decls.schemas decls.devices (name_of decls.names device))
      on None is = ap set_stands (sym (schema_is device None is))
      on (Some d) is = ap set_stands (sym (schema_is device (Some d) is))

  -- before any call the base is due
  pub own_base : (device : ℕ) (one : Device) → slice_get decls.devices device ≡ Some one → over decls device [] ≡ declared_base one
  own_base device one is =
      ap (λ (b : Bool). cond b (config_of (map declared_base decls.devices) device) empty)
      (ap (λ (l : List (List ℕ)). nat_lt device (length l)) are.named ∙ lt-ltb device (length (names_of decls.devices)) (within_names decls.devices device one is))
      ∙ base_at decls.devices device one is

  -- what the device accepts is typed by its schema
  pub own_is_typed : ValidIsTyped → (device : ℕ) (config : Config) → (schema_named decls.schemas decls.devices (name_of decls.names device)).plain ≡ false → IsConfig config
      → (declared_kind decls device).accepts config ≡ true → IsTypedTree (schema_named decls.schemas decls.devices (name_of decls.names device)) config
  own_is_typed valid device config modules is_config = on (slice_get decls.devices device) refl
    where
      on : (one : Option Device) → slice_get decls.devices device ≡ one → (node_kind decls.schemas one).accepts config ≡ true
          → IsTypedTree (schema_named decls.schemas decls.devices (name_of decls.names device)) config
      on None is accepted = absurd (false≢true (sym modules ∙ ap (λ (s : SchemaTable). s.plain) (schema_is device None is)))
      on (Some d) is accepted =
          subst (λ (s : SchemaTable). IsTypedTree s config) (sym (schema_is device (Some d) is)) (λ path item there. kept.found (kept.valid unbroken) path item there)
        where
          own : SchemaTable
          own = schema_in decls.schemas d.schema

          kept : TypesAreKept own config
          kept = valid own config (ap (λ (s : SchemaTable). s.plain) (sym (schema_is device (Some d) is)) ∙ modules) is_config

          unbroken : broken_of own config ≡ None
          unbroken = none_is (broken_of own config) (first_so (is_none (broken_of own config)) _ accepted)

  pub own_accepts : (device : ℕ) → (declared_kind decls device).accepts (over decls device []) ≡ true
  own_accepts device = on (slice_get decls.devices device) refl (nat_lt device (length decls.names)) refl
    where
      on : (one : Option Device) → slice_get decls.devices device ≡ one → (b : Bool) → nat_lt device (length decls.names) ≡ b
          → (node_kind decls.schemas one).accepts (cond b (config_of (map declared_base decls.devices) device) empty) ≡ true
      on None is true h = ap (accepts plain_accept) (no_base decls.devices device is)
      on None is false h = refl
      on (Some d) is true h = ap (accepts (accept_of decls.schemas d)) (base_at decls.devices device d is) ∙ passes_at (accepts_base decls.schemas) decls.devices are.accepted device d is
      on (Some d) is false h = absurd (false≢true (sym h ∙ ap (λ (l : List (List ℕ)). nat_lt device (length l)) are.named ∙ lt-ltb device (length (names_of decls.devices)) (within_names decls.devices device d is)))
