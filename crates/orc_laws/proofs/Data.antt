-- The data after histories: it is a configuration, it is valid, and the list of the devices in it stays.
use Rattle.std.proofs.Common.{◌≡◌, ℕ, ◌==◌, Bool, true, false, cond, ◌&&◌, ◌||◌, not, List, [], ◌∷◌, length, take, All, IsTrue, None, Some, refl, sym, ap, ◌∙◌, arith}
use Rattle.std.specs.declared.option.Option.{Option}
use Rattle.std.specs.Option.{option_map_or}
use Rattle.std.specs.Prelude.{codes}
use Rattle.std.specs.List.{list_all}
use Rattle.std.specs.Cmp.{first_so, second_so}
use Rattle.std.specs.Cmp.Lexicographic.{bytes_decides}
use Rattle.std.specs.Ordering.{eq_by_cmp}
use Rattle.std.specs.FinMap.{empty, get}
use Rattle.std.proofs.lemmas.List.Elements.{All-head, All-tail}
use Rattle.std.proofs.lemmas.List.Sums.{list_all-from_AllPass}
use Rattle.orc_path.specs.Alphabet.{is_identifier, is_name_byte, is_name_start}
use Rattle.orc_path.specs.Limits.{is_long_name}
use Rattle.orc_path.specs.Order.{is_prefix, path_cmp, step_eq}
use Rattle.orc_path.specs.Steps.{PathStep, ends_in_keys}
use Rattle.orc_path.specs.Configurations.{Config, IsConfig, IsWay, is_removed_with, put_item}
use Rattle.orc_path.specs.declared.item.Item.TheVariants.{Entry}
use Rattle.orc_path.proofs.ConfigurationLaws.{IsConfig-empty, IsConfig-put_item, IsConfig-drop_item, get-drop_item, get-put_item-elsewhere, same_path}
use Rattle.orc_schema_nodes.specs.Schemas.{SchemaTable}
use Rattle.orc_check.specs.Validity.{broken_of}
use Rattle.orc_call.specs.declared.call.Put.{Put}
use Rattle.orc_call.specs.declared.call.Call.{Call}
use Rattle.orc_call.specs.declared.call.Action.{Action}
use Rattle.orc_call.specs.declared.call.Action.TheVariants.{Create, Modify, Delete, Set, Unset}
use Rattle.orc_decls.specs.Devices.{device_entry, is_same_text}
use Rattle.orc_decls.specs.Openings.{enter_devices, opening_data, put_all}
use Rattle.orc_datastore.specs.States.{opening, Datastore}
use Rattle.orc_datastore.specs.Actions.{data_after, data_step, enter_service, leave_service}
use Rattle.orc_path.specs.Reading.{path_of}
use Rattle.orc_datastore.specs.Next.{after}
use Rattle.orc_datastore.specs.Histories.{fold_from, IsUnrefused}
use Rattle.orc_decls.specs.Calls.{has_body, is_action, is_body, is_body_item, is_data_item, is_data_path, is_kept, is_lawful_name, is_path_under, is_put, is_served, is_service, is_service_path}
use Rattle.orc_datastore.specs.Laws.{AreActions}
use Rattle.orc_laws.specs.Histories.{DataIsConfiguration, DataIsValid, DevicesStay}
use Rattle.orc_decls.specs.declared.declarations.Decls.{Decls}
use Rattle.orc_decls.proofs.Fits.{data-item, item-under, list_all_weaker, service_entry}
use Rattle.orc_decls.proofs.Lists.{not_true, true_not_false}
use Rattle.orc_datastore.proofs.Trees.{IsConfig-put_all, is_put_somewhere}
use Rattle.orc_datastore.proofs.DataLaws.{no_slash_no_path, after_valid}
use Rattle.orc_decls.proofs.NameTexts.{device_path}

start_no_slash : (b : ℕ) → is_name_start b ≡ true → (b == 47) ≡ false
start_no_slash b h = grind arith

pub name_no_path : (id : List ℕ) → is_lawful_name id ≡ true → path_of id ≡ None
name_no_path [] h = cc
name_no_path (b ∷ bs) h =
    no_slash_no_path (b ∷ bs)
    (start_no_slash b (first_so (is_name_start b) (list_all is_name_byte bs) (first_so (is_identifier (b ∷ bs)) (not (is_long_name (b ∷ bs))) h)))

-- the data is a configuration

enter_configs : (names : List (List ℕ)) (config : Config) → All (λ name. IsTrue (is_lawful_name name)) names → IsConfig config
    → IsConfig (enter_devices names config)
enter_configs [] config h c = c
enter_configs (name ∷ names) config h c =
    let lawful : List ℕ → Type 0 = λ n. IsTrue (is_lawful_name n) in
    enter_configs names (put_item config (device_entry name) Entry) (All-tail lawful name names h)
    (IsConfig-put_item config (device_entry name) Entry c (device_path name (All-head lawful name names h)) refl)

opening_config : (schema : SchemaTable) (names : List (List ℕ)) (puts : List Put)
    → All (λ put. IsTrue (is_data_item schema put)) puts → All (λ name. IsTrue (is_lawful_name name)) names
    → IsConfig (opening_data names puts)
opening_config schema names puts h lawful =
    enter_configs names (put_all puts empty) lawful
    (IsConfig-put_all puts empty
    (list_all_weaker (is_data_item schema) is_put_somewhere (λ p q. item-under schema p.path p.item (data-item schema p q)) puts
    (list_all-from_AllPass (is_data_item schema) puts h)) IsConfig-empty)

body_somewhere : (decls : Decls) (entry : List PathStep) (body : List Put) → is_body decls.data_schema entry body ≡ true
    → list_all is_put_somewhere body ≡ true
body_somewhere decls entry body h =
    list_all_weaker (is_body_item decls.data_schema entry) is_put_somewhere
    (λ put is. item-under decls.data_schema put.path put.item (first_so (is_put decls.data_schema put) _ is)) body
    (second_so _ (list_all (is_body_item decls.data_schema entry) body) (first_so _ _ h))

-- the data with a service's entry and its body, and without the entry
enter_config : (decls : Decls) (o : Option (List PathStep)) (body : List Put) (config : Config)
    → option_map_or (is_service_path decls) o false ≡ true → option_map_or (λ entry. is_body decls.data_schema entry body) o false ≡ true
    → IsConfig config → IsConfig (enter_service o body config)
enter_config decls None body config h k c = c
enter_config decls (Some path) body config h k c =
    let entry = service_entry decls path h in
    IsConfig-put_all body (put_item config path Entry) (body_somewhere decls path body k) (IsConfig-put_item config path Entry c entry.0 entry.1)

leave_config : (o : Option (List PathStep)) (config : Config) → IsConfig config → IsConfig (leave_service o config)
leave_config None config c = c
leave_config (Some path) config c = IsConfig-drop_item config path c

step_config : (decls : Decls) (config : Config) (action : Action) → is_action decls action ≡ true → IsConfig config → IsConfig (data_step config action)
step_config decls config (Create id body) h c =
    enter_config decls (path_of id) body config (first_so (is_service decls id) (has_body decls id body) h) (second_so (is_service decls id) (has_body decls id body) h) c
step_config decls config (Modify id body) h c =
    enter_config decls (path_of id) body (leave_service (path_of id) config) (first_so (is_service decls id) (has_body decls id body) h)
    (second_so (is_service decls id) (has_body decls id body) h) (leave_config (path_of id) config c)
step_config decls config (Delete id) h c = leave_config (path_of id) config c
step_config decls config (Set put) h c =
    let item = item-under decls.data_schema put.path put.item
    (data-item decls.data_schema put (first_so (is_data_item decls.data_schema put) (not (is_served decls.services put.path)) h)) in
    IsConfig-put_item config put.path put.item c (first_so _ _ (first_so _ _ (first_so _ _ item))) (second_so _ _ item)
step_config decls config (Unset path) h c = IsConfig-drop_item config path c
step_config decls config other h c = c

behind_config : (decls : Decls) (actions : List Action) (config : Config) → All (λ action. is_action decls action ≡ true) actions
    → IsConfig config → IsConfig (data_after actions config)
behind_config decls [] config h c = c
behind_config decls (action ∷ actions) config h c =
    behind_config decls actions (data_step config action) (All-tail (λ (a : Action). is_action decls a ≡ true) action actions h)
    (step_config decls config action (All-head (λ (a : Action). is_action decls a ≡ true) action actions h) c)

fold_config : (decls : Decls) (s : Datastore) (calls : List Call) → AreActions decls calls → IsConfig s.data → IsConfig (fold_from decls s calls).data
fold_config decls s [] h c = c
fold_config decls s (call ∷ calls) h c =
    let lawful : Call → Type 0 = λ x. All (λ action. is_action decls action ≡ true) x.actions in
    fold_config decls (after decls s call) calls (All-tail lawful call calls h)
    (behind_config decls call.actions s.data (All-head lawful call calls h) c)

pub data_is_config : DataIsConfiguration
data_is_config decls history items names h =
    fold_config decls (opening decls) history h (opening_config decls.data_schema decls.names decls.data items names)

fold_valid : (decls : Decls) (s : Datastore) (calls : List Call) → broken_of decls.data_schema s.data ≡ None → IsUnrefused decls s calls
    → broken_of decls.data_schema (fold_from decls s calls).data ≡ None
fold_valid decls s [] valid h = valid
fold_valid decls s (call ∷ calls) valid h = fold_valid decls (after decls s call) calls (after_valid decls s call h.0) h.1

pub data_valid : DataIsValid
data_valid decls history valid h = fold_valid decls (opening decls) history valid h

-- the list of the devices stays

-- the first step of a kept path is that of the list
kept_first : (step : PathStep) (later : List PathStep) → is_kept (step ∷ later) ≡ is_same_text step.node (codes "orc:device")
kept_first step later = on (is_same_text step.node (codes "orc:device"))
  where
    on : (t : Bool) → (t && true) ≡ t
    on true = refl
    on false = refl

-- a kept path and one that isn't have first steps of different names
apart : (step own : PathStep) (later below : List PathStep) → is_kept (own ∷ below) ≡ false → is_kept (step ∷ later) ≡ true → step.node ≡ own.node → ⊥
apart step own later below un kept same =
    true_not_false (sym kept ∙ kept_first step later ∙ ap (λ node. is_same_text node (codes "orc:device")) same ∙ sym (kept_first own below) ∙ un)

first_same : {A : Type 0} (a b : A) (xs ys : List A) → a ∷ xs ≡ b ∷ ys → a ≡ b
first_same a b xs ys h = cc

-- so the one isn't on the way to the other
not_on_way : (kept path : List PathStep) → is_kept path ≡ false → is_kept kept ≡ true → IsWay kept path → ⊥
not_on_way [] path un is way = true_not_false (sym way.keyed)
not_on_way (step ∷ later) [] un is way = true_not_false un
not_on_way (step ∷ later) (own ∷ below) un is way =
    apart step own later below un is (ap (λ (s : PathStep). s.node) (first_same step own later (take (length later) below) way.begins))

-- nor goes when the other is removed
not_below : (path kept : List PathStep) → is_kept path ≡ false → is_kept kept ≡ true → is_prefix path kept ≡ true → ⊥
not_below [] kept un is h = true_not_false un
not_below (own ∷ below) [] un is h = true_not_false (sym h)
not_below (own ∷ below) (step ∷ later) un is h =
    let steps = first_so (step_eq own step) _ h in
    apart step own later below un is (sym ((bytes_decides own.node step.node).0 (first_so (is_same_text own.node step.node) _ steps)))

not_removed : (path kept : List PathStep) → is_kept path ≡ false → is_kept kept ≡ true → is_removed_with path kept ≡ false
not_removed path kept un is = on (ends_in_keys path)
  where
    falls : (t : Bool) → (t ≡ true → ⊥) → t ≡ false
    falls true h = absurd (h refl)
    falls false h = refl

    on : (t : Bool) → cond t (is_prefix path kept) (eq_by_cmp path_cmp path kept) ≡ false
    on true = falls (is_prefix path kept) (not_below path kept un is)
    on false = falls (eq_by_cmp path_cmp path kept) (λ h. true_not_false (sym is ∙ sym (ap is_kept (same_path path kept h)) ∙ un))

-- what stands below a path that isn't kept isn't either
below_apart : (path other : List PathStep) → is_kept path ≡ false → is_prefix path other ≡ true → is_kept other ≡ false
below_apart path other un h = falls (is_kept other) (λ is. not_below path other un is h)
  where
    falls : (t : Bool) → (t ≡ true → ⊥) → t ≡ false
    falls true h = absurd (h refl)
    falls false h = refl

puts_stay : (puts : List Put) (config : Config) (path : List PathStep) → list_all (λ put. not (is_kept put.path)) puts ≡ true → is_kept path ≡ true
    → get (put_all puts config) path ≡ get config path
puts_stay [] config path h is = refl
puts_stay (put ∷ puts) config path h is =
    let un : is_kept put.path ≡ false = not_true (is_kept put.path) (first_so (not (is_kept put.path)) _ h) in
    puts_stay puts (put_item config put.path put.item) path (second_so (not (is_kept put.path)) _ h) is
    ∙ get-put_item-elsewhere config put.path put.item path (λ same. true_not_false (sym is ∙ ap is_kept same ∙ un)) (not_on_way path put.path un is)

enter_stays : (decls : Decls) (o : Option (List PathStep)) (body : List Put) (config : Config) (path : List PathStep)
    → option_map_or (is_service_path decls) o false ≡ true → option_map_or (λ entry. is_body decls.data_schema entry body) o false ≡ true
    → is_kept path ≡ true → get (enter_service o body config) path ≡ get config path
enter_stays decls None body config path h k is = refl
enter_stays decls (Some entry) body config path h k is =
    let un = (service_entry decls entry h).2 in
    puts_stay body (put_item config entry Entry) path
    (list_all_weaker (is_body_item decls.data_schema entry) (λ put. not (is_kept put.path))
    (λ put item. ap not (below_apart entry put.path un (first_so (is_prefix entry put.path) _ (second_so (is_put decls.data_schema put) _ item)))) body
    (second_so _ (list_all (is_body_item decls.data_schema entry) body) (first_so _ _ k)))
    is
    ∙ get-put_item-elsewhere config entry Entry path (λ same. true_not_false (sym is ∙ ap is_kept same ∙ un)) (not_on_way path entry un is)

leave_stays : (o : Option (List PathStep)) (config : Config) (path : List PathStep) → ((entry : List PathStep) → o ≡ Some entry → is_kept entry ≡ false)
    → is_kept path ≡ true → get (leave_service o config) path ≡ get config path
leave_stays None config path h is = refl
leave_stays (Some entry) config path h is =
    get-drop_item config entry path ∙ ap (λ t. cond t None (get config path)) (not_removed entry path (h entry refl) is)

service_unkept : (decls : Decls) (id : List ℕ) → is_service decls id ≡ true → (entry : List PathStep) → path_of id ≡ Some entry → is_kept entry ≡ false
service_unkept decls id h entry is =
    (service_entry decls entry (sym (ap (λ o. option_map_or (is_service_path decls) o false) is) ∙ h)).2

step_stays : (decls : Decls) (config : Config) (action : Action) (path : List PathStep) → is_action decls action ≡ true → is_kept path ≡ true
    → get (data_step config action) path ≡ get config path
step_stays decls config (Create id body) path h is =
    enter_stays decls (path_of id) body config path (first_so (is_service decls id) (has_body decls id body) h) (second_so (is_service decls id) (has_body decls id body) h) is
step_stays decls config (Modify id body) path h is =
    enter_stays decls (path_of id) body (leave_service (path_of id) config) path (first_so (is_service decls id) (has_body decls id body) h)
    (second_so (is_service decls id) (has_body decls id body) h) is
    ∙ leave_stays (path_of id) config path (service_unkept decls id (first_so (is_service decls id) (has_body decls id body) h)) is
step_stays decls config (Delete id) path h is = on (is_lawful_name id) refl h
  where
    on : (t : Bool) → is_lawful_name id ≡ t → (t || is_service decls id) ≡ true → get (leave_service (path_of id) config) path ≡ get config path
    on true named e =
        ap (λ o. get (leave_service o config) path) (name_no_path id named)
    on false named e = leave_stays (path_of id) config path (service_unkept decls id e) is
step_stays decls config (Set put) path h is =
    let item = first_so (is_data_item decls.data_schema put) (not (is_served decls.services put.path)) h in
    let un : is_kept put.path ≡ false = not_true (is_kept put.path) (second_so (is_put decls.data_schema put) (not (is_kept put.path)) item) in
    get-put_item-elsewhere config put.path put.item path (λ same. true_not_false (sym is ∙ ap is_kept same ∙ un)) (not_on_way path put.path un is)
step_stays decls config (Unset other) path h is =
    let named = first_so (is_data_path decls.data_schema other) (not (is_served decls.services other)) h in
    let un : is_kept other ≡ false = not_true (is_kept other) (second_so (is_path_under decls.data_schema other) (not (is_kept other)) named) in
    get-drop_item config other path ∙ ap (λ t. cond t None (get config path)) (not_removed other path un is)
step_stays decls config other path h is = refl

behind_stays : (decls : Decls) (actions : List Action) (config : Config) (path : List PathStep) → All (λ action. is_action decls action ≡ true) actions
    → is_kept path ≡ true → get (data_after actions config) path ≡ get config path
behind_stays decls [] config path h is = refl
behind_stays decls (action ∷ actions) config path h is =
    behind_stays decls actions (data_step config action) path (All-tail (λ (a : Action). is_action decls a ≡ true) action actions h) is
    ∙ step_stays decls config action path (All-head (λ (a : Action). is_action decls a ≡ true) action actions h) is

fold_stays : (decls : Decls) (s : Datastore) (calls : List Call) (path : List PathStep) → AreActions decls calls → is_kept path ≡ true
    → get (fold_from decls s calls).data path ≡ get s.data path
fold_stays decls s [] path h is = refl
fold_stays decls s (call ∷ calls) path h is =
    let lawful : Call → Type 0 = λ x. All (λ action. is_action decls action ≡ true) x.actions in
    fold_stays decls (after decls s call) calls path (All-tail lawful call calls h) is
    ∙ behind_stays decls call.actions s.data path (All-head lawful call calls h) is

pub devices_stay : DevicesStay
devices_stay decls history path h is = fold_stays decls (opening decls) history path h is
