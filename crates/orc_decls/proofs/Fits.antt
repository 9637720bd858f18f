-- Tests of all elements of a list, and what the tests of a bundle say.
use Rattle.std.proofs.Common.{◌≡◌, ℕ, ◌<◌, Bool, true, false, not, cond, ◌&&◌, nat_lt, List, [], ◌∷◌, length, get_or, All, IsTrue, None, Some, is_some, sym, subst, refl, ap, ◌∙◌}
use Rattle.std.specs.Prelude.{if◌then◌else◌}
use Rattle.std.specs.List.{list_all}
use Rattle.std.specs.Cmp.{first_so, second_so}
use Rattle.std.proofs.lemmas.List.Elements.{All-get_or, All-weaker}
use Rattle.std.proofs.lemmas.List.Sums.{AllPass-from_list_all, list_all-from_AllPass}
use Rattle.orc_path.specs.Items.{fits}
use Rattle.orc_path.specs.Steps.{PathStep, ends_in_keys, is_path}
use Rattle.orc_path.specs.declared.item.Item.TheVariants.{Entry, Leaf}
use Rattle.std.specs.declared.option.Option.{Option}
use Rattle.std.specs.Option.{option_map_or}
use Rattle.std.proofs.lemmas.Bool.{and_from}
use Rattle.orc_decls.proofs.Lists.{not_true}
use Rattle.orc_path.specs.declared.item.Item.{Item}
use Rattle.orc_schema_nodes.specs.Schemas.{SchemaTable}
use Rattle.orc_typed.specs.Typed.{is_typed}
use Rattle.orc_decls.specs.Openings.{fits_puts}
use Rattle.orc_path.specs.Reading.{path_of}
use Rattle.orc_path.specs.Configurations.{is_entry_of}
use Rattle.orc_services.specs.Services.{list_with}
use Rattle.orc_services.specs.declared.list.ServiceList.{ServiceList}
use Rattle.orc_decls.specs.Calls.{services_once}
use Rattle.orc_decls.specs.Calls.{blank_item, has_body, is_action, is_body, is_body_item, is_call, is_data_item, is_data_path, is_path_under, is_served, is_service, is_service_path, is_device, is_device_under, is_forbid_rule, is_item_at, is_item_under, is_kept, is_lawful_name, is_max_rule, is_put, is_write, schema_in, schema_named}
use Rattle.orc_services.specs.Fitting.{fits_action, fits_body, is_entry_id, FitActions}
use Rattle.orc_decls.specs.declared.declarations.Decls.{Decls}
use Rattle.orc_decls.specs.declared.declarations.Device.{Device}
use Rattle.orc_call.specs.declared.call.Put.{Put}
use Rattle.orc_call.specs.declared.call.Call.{Call}
use Rattle.orc_call.specs.declared.call.Action.{Action}
use Rattle.orc_call.specs.declared.call.Action.TheVariants.{Create, Modify, Literal, Set, BasePut}
use Rattle.orc_call.specs.declared.call.DevicePut.{DevicePut}

-- what all elements pass, one passes
pub list_all-read : {X : Type 0} (p : X → Bool) (xs : List X) (i : ℕ) (x : X) → i < length xs → x ≡ get_or xs i x → IsTrue (list_all p xs) → IsTrue (p x)
list_all-read p xs i x within is h =
    subst (λ y. IsTrue (p y)) (sym is) (All-get_or (λ y. p y ≡ true) xs i x within (AllPass-from_list_all p xs h))

pub list_all_weaker : {X : Type 0} (p q : X → Bool) → ((x : X) → IsTrue (p x) → IsTrue (q x)) → (xs : List X) → IsTrue (list_all p xs) → IsTrue (list_all q xs)
list_all_weaker p q weaker xs h =
    list_all-from_AllPass q xs (All-weaker (λ x. p x ≡ true) (λ x. q x ≡ true) weaker xs (AllPass-from_list_all p xs h))

-- what may stand there under a schema may stand there
pub item-under : (s : SchemaTable) (p : List PathStep) (item : Item) → IsTrue (is_item_under s p item) → IsTrue (is_item_at p item)
item-under s p item h = first_so (is_item_at p item) (is_typed s p item) h

pub item-fits : (s : SchemaTable) (p : List PathStep) (item : Item) → IsTrue (is_item_under s p item) → IsTrue (fits p item)
item-fits s p item h = second_so _ (fits p item) (item-under s p item h)

-- the name of a declared device is lawful
pub device-name : (schemas : List SchemaTable) (device : Device) → IsTrue (is_device schemas device) → IsTrue (is_lawful_name device.name)
device-name schemas device h =
    let placed = nat_lt device.schema (length schemas) in
    first_so (is_lawful_name device.name) placed (first_so (is_lawful_name device.name && placed) (is_device_under (schema_in schemas device.schema) device) h)

-- the items of the base of a declared device
pub base-items : (schemas : List SchemaTable) (device : Device) → IsTrue (is_device schemas device) → IsTrue (list_all (is_put (schema_in schemas device.schema)) device.base)
base-items schemas device h =
    let schema = schema_in schemas device.schema in
    let base = list_all (is_put schema) device.base in
    let most = list_all (is_max_rule schema) device.max in
    let never = list_all (is_forbid_rule schema) device.forbid in
    first_so base most (first_so (base && most) never (second_so _ (is_device_under schema device) h))

-- a write's item may stand there under the schema of its device
pub write-item : (decls : Decls) (w : DevicePut) → IsTrue (is_write decls w) → IsTrue (is_item_under (schema_named decls.schemas decls.devices w.device) w.path w.item)
write-item decls w h = second_so _ (is_item_under (schema_named decls.schemas decls.devices w.device) w.path w.item) h

-- an item of the data may stand there under the data schema
pub data-item : (schema : SchemaTable) (put : Put) → IsTrue (is_data_item schema put) → IsTrue (is_item_under schema put.path put.item)
data-item schema put h = first_so (is_put schema put) (not (is_kept put.path)) h

-- the items of the base of a declared device fit their paths
base-fits : (schemas : List SchemaTable) (device : Device) → IsTrue (is_device schemas device) → IsTrue (fits_puts device.base)
base-fits schemas device h =
    list_all_weaker (is_put (schema_in schemas device.schema)) (λ p. fits p.path p.item)
    (λ p q. item-fits (schema_in schemas device.schema) p.path p.item q) device.base (base-items schemas device h)

pub devices-fit : (schemas : List SchemaTable) (devices : List Device) → IsTrue (list_all (is_device schemas) devices) → All (λ device. IsTrue (fits_puts device.base)) devices
devices-fit schemas devices h =
    All-weaker (λ device. is_device schemas device ≡ true) (λ device. IsTrue (fits_puts device.base)) (base-fits schemas) devices
    (AllPass-from_list_all (is_device schemas) devices h)

-- so do those of the data
pub data-fits : (schema : SchemaTable) (puts : List Put) → IsTrue (list_all (is_data_item schema) puts) → IsTrue (fits_puts puts)
data-fits schema puts h =
    list_all_weaker (is_data_item schema) (λ p. fits p.path p.item) (λ p q. item-fits schema p.path p.item (data-item schema p q)) puts h

-- a path of a list's entry ends in keys
pub listed_keyed : (lists : List ServiceList) (path : List PathStep) → is_some (list_with lists path) ≡ true → ends_in_keys path ≡ true
listed_keyed [] path h = cc
listed_keyed (it ∷ lists) path h = on (is_entry_of it.list path) refl h (listed_keyed lists path)
  where
    on : (t : Bool) → is_entry_of it.list path ≡ t → is_some (cond t (Some it) (list_with lists path)) ≡ true
        → (is_some (list_with lists path) ≡ true → ends_in_keys path ≡ true) → ends_in_keys path ≡ true
    on true is e rest = first_so (ends_in_keys path) _ is
    on false is e rest = rest e

-- the entry of a service is a path that an entry fits, and isn't kept
pub service_entry : (decls : Decls) (path : List PathStep) → is_service_path decls path ≡ true
    → (is_path path ≡ true) × (fits path Entry ≡ true) × (is_kept path ≡ false)
service_entry decls path h =
    let named = first_so (is_data_path decls.data_schema path) (is_some (list_with decls.services path)) h in
    let keyed = listed_keyed decls.services path (second_so (is_data_path decls.data_schema path) (is_some (list_with decls.services path)) h) in
    let under = first_so (is_path_under decls.data_schema path) (not (is_kept path)) named in
    let item = first_so (is_item_at path (blank_item path)) _ under in
    let blank : blank_item path ≡ Entry = ap (λ t. if t then Entry else Leaf []) keyed in
    let here : is_item_at path Entry ≡ true = ap (is_item_at path) (sym blank) ∙ item in (
      first_so (is_path path) _ (first_so _ _ (first_so _ _ here)),
      second_so _ (fits path Entry) here,
      not_true (is_kept path) (second_so (is_path_under decls.data_schema path) (not (is_kept path)) named),
    )

-- the items of a body fit their paths
pub body-fits : (schema : SchemaTable) (entry : List PathStep) (body : List Put) → IsTrue (list_all (is_body_item schema entry) body) → IsTrue (fits_puts body)
body-fits schema entry body h =
    list_all_weaker (is_body_item schema entry) (λ put. fits put.path put.item)
    (λ put item. item-fits schema put.path put.item (first_so (is_put schema put) _ item)) body h

service-fits : (decls : Decls) (id : List ℕ) (body : List Put) → is_service decls id ≡ true → has_body decls id body ≡ true
    → (is_entry_id id && fits_body body) ≡ true
service-fits decls id body is has = on (path_of id) is has
  where
    on : (o : Option (List PathStep)) → option_map_or (is_service_path decls) o false ≡ true
        → option_map_or (λ entry. is_body decls.data_schema entry body) o false ≡ true
        → (option_map_or (λ path. fits path Entry) o true && fits_body body) ≡ true
    on None i h = cc
    on (Some path) i h =
        and_from (fits path Entry) (fits_body body) (service_entry decls path i).1
        (body-fits decls.data_schema path body (second_so _ (list_all (is_body_item decls.data_schema path) body) (first_so _ _ h)))

-- the items that an action of a bundle writes fit their paths
pub action-fits : (decls : Decls) (action : Action) → IsTrue (is_action decls action) → IsTrue (fits_action action)
action-fits decls (Create id body) h = service-fits decls id body (first_so (is_service decls id) (has_body decls id body) h) (second_so (is_service decls id) (has_body decls id body) h)
action-fits decls (Modify id body) h = service-fits decls id body (first_so (is_service decls id) (has_body decls id body) h) (second_so (is_service decls id) (has_body decls id body) h)
action-fits decls (Literal id writes) h =
    list_all_weaker (is_write decls) (λ w. fits w.path w.item)
    (λ w q. item-fits (schema_named decls.schemas decls.devices w.device) w.path w.item (write-item decls w q)) writes (second_so _ (list_all (is_write decls) writes) h)
action-fits decls (Set put) h =
    item-fits decls.data_schema put.path put.item
    (data-item decls.data_schema put (first_so (is_data_item decls.data_schema put) (not (is_served decls.services put.path)) h))
action-fits decls (BasePut put) h =
    item-fits (schema_named decls.schemas decls.devices put.device) put.path put.item (write-item decls put h)
action-fits decls other h = refl

-- the actions of a call that a call block gives are ones that it can give
pub call-actions : (decls : Decls) (call : Call) → IsTrue (is_call decls call) → IsTrue (list_all (is_action decls) call.actions)
call-actions decls call h =
    let actions = list_all (is_action decls) call.actions in
    let once = services_once call.actions in
    first_so actions once (second_so _ (actions && once) h)

pub call-fits : (decls : Decls) (call : Call) → IsTrue (is_call decls call) → FitActions call.actions
call-fits decls call h =
    All-weaker (λ action. is_action decls action ≡ true) (λ action. IsTrue (fits_action action)) (action-fits decls) call.actions
    (AllPass-from_list_all (is_action decls) call.actions (call-actions decls call h))

-- and name each service at most once
pub call-once : (decls : Decls) (call : Call) → IsTrue (is_call decls call) → IsTrue (services_once call.actions)
call-once decls call h =
    let actions = list_all (is_action decls) call.actions in
    let once = services_once call.actions in
    second_so actions once (second_so _ (actions && once) h)
