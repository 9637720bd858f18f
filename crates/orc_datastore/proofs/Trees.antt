-- The trees of devices are configurations.
use Rattle.std.proofs.Common.{◌≡◌, ℕ, zero, suc, Bool, true, false, List, [], ◌∷◌, map, All, refl, arith}
use Rattle.std.specs.Prelude.{if◌then◌else◌}
use Rattle.std.specs.List.{list_all}
use Rattle.std.specs.Cmp.{first_so, second_so}
use Rattle.std.specs.FinMap.{empty}
use Rattle.std.proofs.lemmas.Bool.{and_from}
use Rattle.std.proofs.lemmas.List.Elements.{All-nil, All-cons, All-head, All-tail, All-append, All-filter, All-weaker}
use Rattle.orc_path.specs.Configurations.{Config, IsConfig, drop_item, put_item}
use Rattle.orc_path.proofs.ConfigurationLaws.{IsConfig-empty, IsConfig-put_item, IsConfig-drop_item, IsConfig-overlay}
use Rattle.orc_refs.specs.Live.{overlaid}
use Rattle.orc_decls.specs.Devices.{is_same_text, name_of}
use Rattle.orc_decls.specs.Openings.{declared_base, put_all}
use Rattle.orc_datastore.specs.States.{config_of, part, puts_on, expansion, opening, Datastore}
use Rattle.orc_datastore.specs.Actions.{bases_after, data_after, live_after, live_step, new_services, names}
use Rattle.orc_datastore.specs.Next.{after, expanded_call, expanded_to}
use Rattle.orc_decls.specs.Declarations.{AreDecls}
use Rattle.orc_template.specs.Laws.{WrittenIsTyped}
use Rattle.orc_datastore.proofs.Written.{is_expanded, expanded_may}
use Rattle.std.proofs.lemmas.List.Sums.{AllPass-from_list_all}
use Rattle.orc_datastore.specs.Histories.{fold_from}
use Rattle.orc_schema_nodes.specs.Schemas.{SchemaTable}
use Rattle.orc_decls.specs.Calls.{is_item_at, is_put, is_write, is_device, is_action, schema_in, schema_named}
use Rattle.orc_decls.specs.declared.declarations.Decls.{Decls}
use Rattle.orc_datastore.specs.Legal.{state_of}
use Rattle.orc_datastore.specs.Laws.{AreActions, TreeIsConfiguration}
use Rattle.orc_datastore.proofs.Bases.{KeepsBase, base_kept}
use Rattle.orc_decls.proofs.Fits.{base-items, item-under, list_all_weaker, write-item}
use Rattle.orc_call.specs.declared.call.Put.{Put}
use Rattle.orc_decls.specs.declared.declarations.Device.{Device}
use Rattle.orc_call.specs.declared.call.Call.{Call}
use Rattle.orc_call.specs.declared.call.Action.{Action}
use Rattle.orc_call.specs.declared.call.Action.TheVariants.{Literal, BasePut, BaseRemove}
use Rattle.orc_call.specs.declared.call.DevicePut.{DevicePut}
use Rattle.orc_datastore.specs.declared.service.Service.{Service}

-- an item that may stand somewhere, whatever the schema
abbrev pub is_put_somewhere : Put → Bool
is_put_somewhere put = is_item_at put.path put.item

pub IsConfig-put_all : (puts : List Put) (m : Config) → list_all is_put_somewhere puts ≡ true → IsConfig m → IsConfig (put_all puts m)
IsConfig-put_all [] m h c = c
IsConfig-put_all (p ∷ ps) m h c =
    let item = first_so _ _ h in
    IsConfig-put_all ps (put_item m p.path p.item) (second_so _ _ h)
    (IsConfig-put_item m p.path p.item c (first_so _ _ (first_so _ _ (first_so _ _ item))) (second_so _ _ item))

are_puts : (decls : Decls) (name : List ℕ) (writes : List DevicePut) → list_all (is_write decls) writes ≡ true → list_all is_put_somewhere (puts_on name writes) ≡ true
are_puts decls name [] h = refl
are_puts decls name (w ∷ ws) h =
    on (item-under (schema_named decls.schemas decls.devices w.device) w.path w.item (write-item decls w (first_so (is_write decls w) (list_all (is_write decls) ws) h)))
    (are_puts decls name ws (second_so (is_write decls w) (list_all (is_write decls) ws) h)) (is_same_text w.device name)
  where
    on : is_item_at w.path w.item ≡ true → list_all is_put_somewhere (puts_on name ws) ≡ true → (t : Bool)
        → list_all is_put_somewhere (if t then record { path = w.path; item = w.item } ∷ puts_on name ws else puts_on name ws) ≡ true
    on item rest true = and_from _ _ item rest
    on item rest false = rest

IsConfig-config_of : (configs : List Config) (d : ℕ) → All IsConfig configs → IsConfig (config_of configs d)
IsConfig-config_of [] d h = IsConfig-empty
IsConfig-config_of (m ∷ ms) zero h = h 0 m (omega arith)
IsConfig-config_of (m ∷ ms) (suc d) h = IsConfig-config_of ms d (All-tail IsConfig m ms h)

expansion_configs : (decls : Decls) (names : List (List ℕ)) (writes : List DevicePut) → list_all (is_write decls) writes ≡ true → All IsConfig (expansion names writes)
expansion_configs decls [] writes h = All-nil IsConfig
expansion_configs decls (name ∷ names) writes h =
    All-cons IsConfig _ _ (IsConfig-put_all (puts_on name writes) empty (are_puts decls name writes h) IsConfig-empty) (expansion_configs decls names writes h)

are_puts_of_base : (schemas : List SchemaTable) (device : Device) → is_device schemas device ≡ true → list_all is_put_somewhere device.base ≡ true
are_puts_of_base schemas device h =
    let schema = schema_in schemas device.schema in
    list_all_weaker (is_put schema) is_put_somewhere (λ p q. item-under schema p.path p.item q) device.base (base-items schemas device h)

opening_configs : (schemas : List SchemaTable) (devices : List Device) → All (λ device. is_device schemas device ≡ true) devices → All IsConfig (map declared_base devices)
opening_configs schemas [] h = All-nil IsConfig
opening_configs schemas (device ∷ devices) h =
    All-cons IsConfig _ _ (IsConfig-put_all device.base empty (are_puts_of_base schemas device (h 0 device (omega arith))) IsConfig-empty)
    (opening_configs schemas devices (All-tail (λ device. is_device schemas device ≡ true) device devices h))

-- a service writes a configuration on each device
abbrev WritesConfigs : Service → Type 0
WritesConfigs service = All IsConfig service.parts

overlaid_config : (live : List Service) (d : ℕ) (base : Config) → All WritesConfigs live → IsConfig base
    → IsConfig (overlaid (map (λ service. part service d) live) base)
overlaid_config [] d base h c = c
overlaid_config (a ∷ rest) d base h c =
    overlaid_config rest d _ (All-tail WritesConfigs a rest h)
    (IsConfig-overlay (part a d) base (IsConfig-config_of a.parts d (h 0 a (omega arith))) c)

made_configs : (decls : Decls) (action : Action) → is_expanded decls action ≡ true → All WritesConfigs (new_services decls.names action)
made_configs decls (Literal id writes) h =
    All-cons WritesConfigs (record { id = id; parts = expansion decls.names writes }) []
    (expansion_configs decls decls.names writes h) (All-nil WritesConfigs)
made_configs decls other h = All-nil WritesConfigs

behind_configs : (decls : Decls) (actions : List Action) (live : List Service) → All (λ action. is_expanded decls action ≡ true) actions
    → All WritesConfigs live → All WritesConfigs (live_after decls.names actions live)
behind_configs decls [] live h c = c
behind_configs decls (action ∷ actions) live h c =
    behind_configs decls actions (live_step decls.names live action) (All-tail (λ (a : Action). is_expanded decls a ≡ true) action actions h)
    (All-append WritesConfigs _ _ (All-filter (λ x. _) WritesConfigs live c)
    (made_configs decls action (All-head (λ (a : Action). is_expanded decls a ≡ true) action actions h)))

-- an edit of a base leaves a configuration
edited_config : (decls : Decls) (name : List ℕ) (action : Action) → is_expanded decls action ≡ true → KeepsBase IsConfig name action
edited_config decls name (BasePut put) h base c = on (is_same_text put.device name)
  where
    item : is_item_at put.path put.item ≡ true
    item = item-under (schema_named decls.schemas decls.devices put.device) put.path put.item (write-item decls put h)

    on : (t : Bool) → IsConfig (if t then put_item base put.path put.item else base)
    on true = IsConfig-put_item base put.path put.item c (first_so _ _ (first_so _ _ (first_so _ _ item))) (second_so _ _ item)
    on false = c
edited_config decls name (BaseRemove device path) h base c = on (is_same_text device name)
  where
    on : (t : Bool) → IsConfig (if t then drop_item base path else base)
    on true = IsConfig-drop_item base path c
    on false = c
edited_config decls name other h base c = c

-- the base of each device is a configuration
abbrev AreConfigs : List Config → Type 0
AreConfigs bases = (d : ℕ) → IsConfig (config_of bases d)

edited_configs : (decls : Decls) (actions : List Action) (bases : List Config) → All (λ action. is_expanded decls action ≡ true) actions
    → AreConfigs bases → AreConfigs (bases_after decls.names actions bases)
edited_configs decls actions bases h c d =
    let name = name_of decls.names d in
    base_kept IsConfig decls.names actions bases d
    (All-weaker (λ (a : Action). is_expanded decls a ≡ true) (KeepsBase IsConfig name) (λ a is. edited_config decls name a is) actions h) (c d)

module _ (law : WrittenIsTyped) (decls : Decls) (is : AreDecls decls) where
  fold_configs : (s : Datastore) (calls : List Call) → AreActions decls calls → All WritesConfigs s.live → AreConfigs s.bases
      → All WritesConfigs (fold_from decls s calls).live × AreConfigs (fold_from decls s calls).bases
  fold_configs s [] h live bases = (live, bases)
  fold_configs s (call ∷ calls) h live bases =
      let lawful : Call → Type 0 = λ c. All (λ action. is_action decls action ≡ true) c.actions in
      let acts = expanded_to (expanded_call decls s call) in
      let now = expanded_may decls is law (data_after call.actions s.data) call.actions (All-head lawful call calls h) in
      fold_configs (after decls s call) calls (All-tail lawful call calls h)
      (behind_configs decls acts s.live now live) (edited_configs decls acts s.bases now bases)

pub trees_are_configs : WrittenIsTyped → TreeIsConfiguration
trees_are_configs law decls history d is calls_are =
    let s = state_of decls history in
    let devices_are : All (λ device. is_device decls.schemas device ≡ true) decls.devices = AllPass-from_list_all (is_device decls.schemas) decls.devices is.devices in
    let both =
    fold_configs law decls is (opening decls) history calls_are (All-nil WritesConfigs)
    (λ n. IsConfig-config_of (map declared_base decls.devices) n (opening_configs decls.schemas decls.devices devices_are)) in
    overlaid_config s.live d (config_of s.bases d) both.0 (both.1 d)
