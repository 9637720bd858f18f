-- What the actions of a call come to writes only what may stand on its devices.
use Rattle.std.proofs.Common.{◌≡◌, ℕ, zero, suc, ◌<◌, Bool, true, false, not, ◌&&◌, nat_lt, List, [], ◌∷◌, ◌++◌, map, length, All, Some, None, is_some, refl, sym, ap, subst, ◌∙◌, arith}
use Rattle.std.specs.Prelude.{Option, option_map, slice_get, if◌then◌else◌}
use Rattle.std.specs.Option.{option_and_then, option_map_or}
use Rattle.std.specs.declared.result.Result.{Result}
use Rattle.std.specs.declared.result.Result.TheVariants.{Ok, Err}
use Rattle.std.specs.List.{list_all, AllByRecursion, IsDistinct}
use Rattle.std.specs.Cmp.{first_so, second_so}
use Rattle.std.specs.Cmp.Lexicographic.{bytes_decides}
use Rattle.std.specs.FinMap.{entries}
use Rattle.std.proofs.lemmas.Bool.{and_from, ltb-true}
use Rattle.std.proofs.lemmas.List.Elements.{All-nil, All-cons, All-head, All-tail}
use Rattle.std.proofs.lemmas.Option.{same_Some, slice_get-map}
use Rattle.orc_path.specs.Steps.{PathStep, is_path}
use Rattle.orc_path.specs.Limits.{is_long_path}
use Rattle.orc_path.specs.Items.{fits}
use Rattle.orc_path.specs.Configurations.{Config}
use Rattle.orc_path.specs.declared.item.Item.{Item}
use Rattle.orc_schema_nodes.specs.Schemas.{SchemaTable, plain_table}
use Rattle.orc_typed.specs.Typed.{is_typed}
use Rattle.orc_change.specs.inside.Held.{AreHeld}
use Rattle.orc_change.proofs.Exact.{entries_are}
use Rattle.orc_call.specs.declared.answer.Answer.{Answer}
use Rattle.orc_call.specs.declared.call.Action.{Action}
use Rattle.orc_call.specs.declared.call.Action.TheVariants.{Create, Modify, Redeploy, Literal, Delete, Set, Unset, BasePut, BaseRemove}
use Rattle.orc_call.specs.declared.call.DevicePut.{DevicePut}
use Rattle.orc_template.specs.Devices.{schema_of_device}
use Rattle.orc_template.specs.Expansions.{Expanding, Failed}
use Rattle.orc_template.specs.Laws.{AreDeviceTrees, IsConfigUnder, MayStand, WrittenIsTyped}
use Rattle.orc_services.specs.Services.{Instance, Serving, expansion_at, instance_of}
use Rattle.orc_services.specs.Expanded.{as_literal, expanded_actions, expanded_action, write_of, writes_of, writes_to}
use Rattle.orc_decls.specs.Devices.{is_same_text, names_of}
use Rattle.orc_datastore.specs.Next.{serving_on, expanded_to}
use Rattle.orc_decls.specs.Calls.{device_named, is_action, is_device, is_device_under, is_item_at, is_item_under, is_lawful_item, is_lawful_name, is_write, schema_in, schema_named}
use Rattle.orc_decls.specs.Declarations.{AreDecls}
use Rattle.orc_decls.specs.declared.declarations.Decls.{Decls}
use Rattle.orc_decls.specs.declared.declarations.Device.{Device}
use Rattle.orc_datastore.proofs.Expanded.{parted}
use Rattle.orc_datastore.proofs.Named.{other_way}

-- what is asked of an expanded action: its items may stand where it writes them
abbrev pub is_expanded : Decls → Action → Bool
is_expanded decls (Literal id writes) = list_all (is_write decls) writes
is_expanded decls (BasePut write) = is_write decls write
is_expanded decls other = true

-- the device at a place is the first of its name

apart : (devices : List Device) (n : ℕ) (d : Device) (name : List ℕ) → slice_get devices n ≡ Some d
    → AllByRecursion (λ other. is_same_text name other ≡ false) (names_of devices) → is_same_text name d.name ≡ false
apart [] n d name e h = let not_so : None ≡ Some d = e in absurd cc
apart (first ∷ rest) zero d name e h =
    let same : first ≡ d = same_Some first d e in subst (λ (x : Device). is_same_text name x.name ≡ false) same h.0
apart (first ∷ rest) (suc n) d name e h = apart rest n d name e h.1

pub named_there : (devices : List Device) (n : ℕ) (d : Device) → IsDistinct is_same_text (names_of devices) → slice_get devices n ≡ Some d
    → device_named devices d.name ≡ Some d
unfolding IsDistinct
named_there [] n d h e = let not_so : None ≡ Some d = e in absurd cc
named_there (first ∷ rest) zero d h e =
    let same : first ≡ d = same_Some first d e in
    ap (λ t. if t then Some first else device_named rest d.name) ((bytes_decides d.name first.name).1 (sym (ap (λ (x : Device). x.name) same))) ∙ ap Some same
named_there (first ∷ rest) (suc n) d h e =
    ap (λ t. if t then Some first else device_named rest d.name) (other_way first.name d.name (apart rest n d first.name e h.0))
    ∙ named_there rest n d h.1 e

pub declared_there : (schemas : List SchemaTable) (devices : List Device) (n : ℕ) (x : Device) → list_all (is_device schemas) devices ≡ true
    → slice_get devices n ≡ Some x → is_device schemas x ≡ true
declared_there schemas [] n x h e = let not_so : None ≡ Some x = e in absurd cc
declared_there schemas (first ∷ rest) zero x h e =
    subst (λ (y : Device). is_device schemas y ≡ true) (same_Some first x e) (first_so (is_device schemas first) (list_all (is_device schemas) rest) h)
declared_there schemas (first ∷ rest) (suc n) x h e =
    declared_there schemas rest n x (second_so (is_device schemas first) (list_all (is_device schemas) rest) h) e

-- a place below the length has what is looked up there
schema_there : (schemas : List SchemaTable) (n : ℕ) → n < length schemas → slice_get schemas n ≡ Some (schema_in schemas n)
schema_there [] n lt = absurd (omega (arith, lt))
schema_there (s ∷ schemas) zero lt = refl
schema_there (s ∷ schemas) (suc n) lt = schema_there schemas n (omega (arith, lt))

module _ (decls : Decls) (is : AreDecls decls) where
  -- an item that may stand under a device's schema may be written on the device
  item_may : (s : SchemaTable) (path : List PathStep) (it : Item) → is_path path ≡ true → fits path it ≡ true → MayStand s path it → is_item_under s path it ≡ true
  item_may s path it named fit may =
      let short : (is_path path && not (is_long_path path)) ≡ true = and_from (is_path path) (not (is_long_path path)) named (ap not may.short) in
      and_from (is_item_at path it) (is_typed s path it)
      (and_from (is_path path && not (is_long_path path) && is_lawful_item it) (fits path it)
      (and_from (is_path path && not (is_long_path path)) (is_lawful_item it) short may.value) fit) may.typed

  rows_may : (s : SchemaTable) (name : List ℕ) (config : Config) (rows : List (List PathStep × Item)) → is_some (device_named decls.devices name) ≡ true
      → schema_named decls.schemas decls.devices name ≡ s → IsConfigUnder s config → AreHeld config rows
      → list_all (is_write decls) (map (write_of name) rows) ≡ true
  rows_may s name config [] there schema under held = refl
  rows_may s name config (row ∷ rows) there schema under held =
      and_from (is_write decls (write_of name row)) (list_all (is_write decls) (map (write_of name) rows))
      (and_from (is_some (device_named decls.devices name)) (is_item_under (schema_named decls.schemas decls.devices name) row.0 row.1) there
      (subst (λ (t : SchemaTable). is_item_under t row.0 row.1 ≡ true) (sym schema)
      (item_may s row.0 row.1 (under.whole.paths row.0 (ap is_some held.0)) (under.whole.fit row.0 row.1 held.0) (under.items row.0 row.1 held.0))))
      (rows_may s name config rows there schema under held.1)

  pairs_may : (names : List (List ℕ)) (configs : List Config)
      → ((n : ℕ) (name : List ℕ) (config : Config) → slice_get names n ≡ Some name → slice_get configs n ≡ Some config
      → list_all (is_write decls) (writes_to name config) ≡ true) → list_all (is_write decls) (writes_of names configs) ≡ true
  pairs_may [] configs h = refl
  pairs_may (name ∷ names) [] h = refl
  pairs_may (name ∷ names) (config ∷ configs) h =
      all_append (writes_to name config) (writes_of names configs) (h 0 name config refl refl)
      (pairs_may names configs (λ n other c at there. h (suc n) other c at there))
    where
      all_append : (xs ys : List DevicePut) → list_all (is_write decls) xs ≡ true → list_all (is_write decls) ys ≡ true
          → list_all (is_write decls) (xs ++ ys) ≡ true
      all_append [] ys x y = y
      all_append (w ∷ xs) ys x y =
          and_from (is_write decls w) (list_all (is_write decls) (xs ++ ys)) (first_so (is_write decls w) (list_all (is_write decls) xs) x)
          (all_append xs ys (second_so (is_write decls w) (list_all (is_write decls) xs) x) y)

  -- the schema of a declared device is that of its place in the table
  pub own_schema : (n : ℕ) (device : Device) → slice_get decls.devices n ≡ Some device
      → schema_of_device decls.table n ≡ Some (schema_in decls.schemas device.schema)
  own_schema n device found =
      let declared = declared_there decls.schemas decls.devices n device is.devices found in
      let within : nat_lt device.schema (length decls.schemas) ≡ true =
      second_so (is_lawful_name device.name) (nat_lt device.schema (length decls.schemas))
      (first_so _ (is_device_under (schema_in decls.schemas device.schema) device) declared) in
      let place : slice_get decls.table.of n ≡ Some device.schema =
      ap (λ t. slice_get t.of n) is.table ∙ slice_get-map (λ (x : Device). x.schema) decls.devices n
      ∙ ap (option_map (λ (x : Device). x.schema)) found in
      ap (option_and_then (slice_get decls.table.schemas)) place
      ∙ ap (λ t. slice_get t.schemas device.schema) is.table ∙ schema_there decls.schemas device.schema (ltb-true device.schema (length decls.schemas) within)

  -- so may all that is written on the declared devices
  trees_may : (trees : List Config) → AreDeviceTrees decls.table trees → list_all (is_write decls) (writes_of decls.table.names trees) ≡ true
  trees_may trees are = pairs_may decls.table.names trees (λ n name config at there. on n name config at there (slice_get decls.devices n) refl)
    where
      on : (n : ℕ) (name : List ℕ) (config : Config) → slice_get decls.table.names n ≡ Some name → slice_get trees n ≡ Some config
          → (o : Option Device) → slice_get decls.devices n ≡ o → list_all (is_write decls) (writes_to name config) ≡ true
      on n name config at there None gone =
          let none : slice_get decls.table.names n ≡ None =
          ap (λ (l : List (List ℕ)). slice_get l n) (ap (λ t. t.names) is.table ∙ is.named)
          ∙ slice_get-map (λ (x : Device). x.name) decls.devices n ∙ ap (option_map (λ (x : Device). x.name)) gone in
          let not_so : None ≡ Some name = sym none ∙ at in absurd cc
      on n name config at there (Some device) found =
          let named : Some device.name ≡ Some name =
          sym (ap (λ (l : List (List ℕ)). slice_get l n) (ap (λ t. t.names) is.table ∙ is.named)
          ∙ slice_get-map (λ (x : Device). x.name) decls.devices n ∙ ap (option_map (λ (x : Device). x.name)) found) ∙ at in
          let same : device.name ≡ name = same_Some device.name name named in
          let distinct = subst (λ (names : List (List ℕ)). IsDistinct is_same_text names) is.named is.distinct in
          let first : device_named decls.devices name ≡ Some device =
          subst (λ (x : List ℕ). device_named decls.devices x ≡ Some device) same (named_there decls.devices n device distinct found) in
          let s = schema_in decls.schemas device.schema in
          let schema : schema_named decls.schemas decls.devices name ≡ s =
          ap (λ o. option_map_or (λ (x : Device). schema_in decls.schemas x.schema) o plain_table) first in
          let own = own_schema n device found in
          rows_may s name config (entries config) (ap is_some first) schema (are.written n config s there own) (entries_are config)

  module _ (law : WrittenIsTyped) (config : Config) where
    abbrev s : Serving
    s = serving_on decls config

    pub literal_may : (id : List ℕ) (o : Option Instance) (a : Action)
        → (as_literal decls.table.names id (option_map (expansion_at s) o)).outcome ≡ Ok a → is_expanded decls a ≡ true
    literal_may id None a h =
        let same : Literal id [] ≡ a = cc in ap (is_expanded decls) (sym same)
    literal_may id (Some it) a h = on (expansion_at s it) refl h
      where
        on : (due : Result Expanding Failed) → expansion_at s it ≡ due → (as_literal decls.table.names id (Some due)).outcome ≡ Ok a → is_expanded decls a ≡ true
        on (Ok e) due k =
            let same : Literal id (writes_of decls.table.names e.written) ≡ a = cc in
            ap (is_expanded decls) (sym same) ∙ trees_may e.written (law _ decls.table it.path it.template s.view e due)
        on (Err failed) due k = absurd cc

    one_may : (action a : Action) → is_action decls action ≡ true → (expanded_action s action).outcome ≡ Ok a → is_expanded decls a ≡ true
    one_may (Create id body) a h k = literal_may id (instance_of decls.services id) a k
    one_may (Modify id body) a h k = literal_may id (instance_of decls.services id) a k
    one_may (Redeploy id) a h k = literal_may id (instance_of decls.services id) a k
    one_may (Literal id writes) a h k =
        let same : Literal id writes ≡ a = cc in ap (is_expanded decls) (sym same) ∙ second_so _ (list_all (is_write decls) writes) h
    one_may (BasePut write) a h k = let same : BasePut write ≡ a = cc in ap (is_expanded decls) (sym same) ∙ h
    one_may (Delete id) a h k = let same : Delete id ≡ a = cc in ap (is_expanded decls) (sym same)
    one_may (Set put) a h k = let same : Set put ≡ a = cc in ap (is_expanded decls) (sym same)
    one_may (Unset path) a h k = let same : Unset path ≡ a = cc in ap (is_expanded decls) (sym same)
    one_may (BaseRemove device path) a h k = let same : BaseRemove device path ≡ a = cc in ap (is_expanded decls) (sym same)

    all_may : (actions acts : List Action) → All (λ a. is_action decls a ≡ true) actions → (expanded_actions s actions).outcome ≡ Ok acts
        → All (λ a. is_expanded decls a ≡ true) acts
    all_may [] acts h k =
        let same : [] ≡ acts = cc in subst (All (λ (a : Action). is_expanded decls a ≡ true)) same (All-nil (λ (a : Action). is_expanded decls a ≡ true))
    all_may (action ∷ actions) acts h k =
        let p = parted (expanded_action s action).outcome (expanded_action s action).reads (expanded_actions s actions) acts k in
        subst (All (λ (a : Action). is_expanded decls a ≡ true)) (sym p.whole)
        (All-cons (λ (a : Action). is_expanded decls a ≡ true) p.one p.rest
        (one_may action p.one (All-head (λ (a : Action). is_action decls a ≡ true) action actions h) p.first_is)
        (all_may actions p.rest (All-tail (λ (a : Action). is_action decls a ≡ true) action actions h) p.later_is))

    -- what the actions of a call come to, if anything
    pub expanded_may : (actions : List Action) → All (λ a. is_action decls a ≡ true) actions
        → All (λ a. is_expanded decls a ≡ true) (expanded_to (expanded_actions s actions).outcome)
    expanded_may actions h = on (expanded_actions s actions).outcome refl
      where
        on : (o : Result (List Action) Answer) → (expanded_actions s actions).outcome ≡ o → All (λ a. is_expanded decls a ≡ true) (expanded_to o)
        on (Ok acts) due = all_may actions acts h due
        on (Err answer) due = All-nil (λ (a : Action). is_expanded decls a ≡ true)
