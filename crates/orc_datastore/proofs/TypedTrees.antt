-- What stands in the trees of devices is typed.
use Rattle.std.proofs.Common.{◌≡◌, ℕ, zero, suc, Bool, true, false, cond, List, [], ◌∷◌, inl, inr, map, All, None, Some, refl, sym, ap, subst, ◌∙◌}
use Rattle.std.specs.Prelude.{Option, option_map, slice_get, if◌then◌else◌}
use Rattle.std.specs.Option.{option_map_or, option_or}
use Rattle.std.specs.List.{list_all, IsDistinct}
use Rattle.std.specs.Cmp.{first_so, second_so}
use Rattle.std.specs.Cmp.Lexicographic.{bytes_decides}
use Rattle.std.specs.FinMap.{empty, get, get-empty}
use Rattle.std.proofs.lemmas.Bool.{and_from}
use Rattle.std.proofs.lemmas.List.Elements.{All-nil, All-cons, All-head, All-tail, All-append, All-filter, All-weaker}
use Rattle.orc_path.specs.Steps.{PathStep}
use Rattle.orc_path.specs.Order.{path_cmp}
use Rattle.orc_path.specs.Configurations.{Config, drop_item, is_removed_with, overlay, put_item}
use Rattle.orc_path.specs.declared.item.Item.{Item}
use Rattle.orc_path.specs.declared.item.Item.TheVariants.{Entry}
use Rattle.orc_path.proofs.ConfigurationLaws.{get-drop_item, get-overlay, put_item_cases}
use Rattle.orc_schema_nodes.specs.Schemas.{SchemaTable, plain_table}
use Rattle.orc_typed.specs.Typed.{is_typed}
use Rattle.orc_call.specs.declared.call.Put.{Put}
use Rattle.orc_call.specs.declared.call.Call.{Call}
use Rattle.orc_call.specs.declared.call.Action.{Action}
use Rattle.orc_call.specs.declared.call.Action.TheVariants.{Literal, BasePut, BaseRemove}
use Rattle.orc_call.specs.declared.call.DevicePut.{DevicePut}
use Rattle.orc_refs.specs.Live.{overlaid}
use Rattle.orc_datastore.specs.States.{config_of, expansion, opening, part, puts_on, Datastore}
use Rattle.orc_decls.specs.Openings.{declared_base, put_all}
use Rattle.orc_decls.specs.Devices.{is_same_text, name_of}
use Rattle.orc_datastore.specs.Actions.{bases_after, data_after, live_after, live_step, new_services}
use Rattle.orc_datastore.specs.Next.{after, expanded_call, expanded_to}
use Rattle.orc_template.specs.Laws.{WrittenIsTyped}
use Rattle.orc_template.proofs.TypedWays.{way_typed}
use Rattle.orc_datastore.proofs.Written.{is_expanded, declared_there, named_there, expanded_may}
use Rattle.orc_datastore.specs.Histories.{fold_from}
use Rattle.orc_datastore.specs.Legal.{state_of}
use Rattle.orc_decls.specs.Calls.{is_action, is_device, is_put, is_write, schema_in, schema_named}
use Rattle.orc_decls.specs.Declarations.{AreDecls}
use Rattle.orc_datastore.specs.Laws.{AreActions, TreeIsTyped}
use Rattle.orc_decls.specs.declared.declarations.Decls.{Decls}
use Rattle.orc_decls.specs.declared.declarations.Device.{Device}
use Rattle.orc_datastore.specs.declared.service.Service.{Service}
use Rattle.orc_datastore.proofs.Bases.{KeepsBase, base_kept}
use Rattle.orc_decls.proofs.Fits.{base-items, list_all_weaker, write-item}
use Rattle.std.proofs.lemmas.Option.{same_Some, slice_get-map}

-- ---- configurations of what is typed

abbrev IsTypedUnder : SchemaTable → Config → Type 0
IsTypedUnder s c = (path : List PathStep) (item : Item) → get c path ≡ Some item → is_typed s path item ≡ true

typed-empty : (s : SchemaTable) → IsTypedUnder s empty
typed-empty s path item e = let not_so : None ≡ Some item = sym (get-empty path_cmp path) ∙ e in absurd cc

typed-put_item : (s : SchemaTable) (m : Config) (p : List PathStep) (put : Item) → IsTypedUnder s m → is_typed s p put ≡ true → IsTypedUnder s (put_item m p put)
typed-put_item s m p put typed here path item e = elim (put_item_cases m p put path) [
  | inl at ↦ subst (λ (q : List PathStep). is_typed s q item ≡ true) (sym at.0) (subst (λ (x : Item). is_typed s p x ≡ true) (same_Some put item (sym at.1 ∙ e)) here)
  | inr away ↦ elim away [
    | inl way ↦ subst (λ (x : Item). is_typed s path x ≡ true) (same_Some Entry item (sym way.1 ∙ e)) (way_typed s p put path here way.0)
    | inr same ↦ typed path item (sym same ∙ e)
  ]
]

typed-drop_item : (s : SchemaTable) (m : Config) (p : List PathStep) → IsTypedUnder s m → IsTypedUnder s (drop_item m p)
typed-drop_item s m p typed path item e = on (is_removed_with p path) (sym (get-drop_item m p path) ∙ e)
  where
    on : (t : Bool) → cond t None (get m path) ≡ Some item → is_typed s path item ≡ true
    on true h = let not_so : None ≡ Some item = h in absurd cc
    on false h = typed path item h

abbrev is_typed_put : SchemaTable → Put → Bool
is_typed_put s put = is_typed s put.path put.item

typed-put_all : (s : SchemaTable) (puts : List Put) (m : Config) → list_all (is_typed_put s) puts ≡ true → IsTypedUnder s m → IsTypedUnder s (put_all puts m)
typed-put_all s [] m h typed = typed
typed-put_all s (p ∷ ps) m h typed =
    typed-put_all s ps (put_item m p.path p.item) (second_so (is_typed_put s p) (list_all (is_typed_put s) ps) h)
    (typed-put_item s m p.path p.item typed (first_so (is_typed_put s p) (list_all (is_typed_put s) ps) h))

typed-overlay : (s : SchemaTable) (top base : Config) → IsTypedUnder s top → IsTypedUnder s base → IsTypedUnder s (overlay top base)
typed-overlay s top base above below path item e = on (get top path) refl (sym (get-overlay top base path) ∙ e)
  where
    on : (o : Option Item) → get top path ≡ o → option_or (get top path) (get base path) ≡ Some item → is_typed s path item ≡ true
    on (Some x) is h = above path item (is ∙ sym (ap (λ (o : Option Item). option_or o (get base path)) is) ∙ h)
    on None is h = below path item (sym (ap (λ (o : Option Item). option_or o (get base path)) is) ∙ h)

-- ---- the devices of declarations

module _ (decls : Decls) where
  -- the schema of the device of a number
  abbrev own : ℕ → SchemaTable
  own d = schema_named decls.schemas decls.devices (name_of decls.names d)

  -- ---- services

  writes_on : (name : List ℕ) (writes : List DevicePut) → list_all (is_write decls) writes ≡ true
      → list_all (is_typed_put (schema_named decls.schemas decls.devices name)) (puts_on name writes) ≡ true
  writes_on name [] h = refl
  writes_on name (w ∷ ws) h = on (is_same_text w.device name) refl (writes_on name ws (second_so (is_write decls w) (list_all (is_write decls) ws) h))
    where
      s : SchemaTable
      s = schema_named decls.schemas decls.devices name

      own_schema : SchemaTable
      own_schema = schema_named decls.schemas decls.devices w.device

      here : is_typed own_schema w.path w.item ≡ true
      here = second_so _ (is_typed own_schema w.path w.item) (write-item decls w (first_so (is_write decls w) (list_all (is_write decls) ws) h))

      on : (t : Bool) → is_same_text w.device name ≡ t → list_all (is_typed_put s) (puts_on name ws) ≡ true
          → list_all (is_typed_put s) (if t then record { path = w.path; item = w.item } ∷ puts_on name ws else puts_on name ws) ≡ true
      on true is rest =
          and_from (is_typed s w.path w.item) (list_all (is_typed_put s) (puts_on name ws))
          (subst (λ (n : List ℕ). is_typed (schema_named decls.schemas decls.devices n) w.path w.item ≡ true) ((bytes_decides w.device name).0 is) here) rest
      on false is rest = rest

  expansion_typed : (names : List (List ℕ)) (writes : List DevicePut) → list_all (is_write decls) writes ≡ true → (d : ℕ)
      → IsTypedUnder (schema_named decls.schemas decls.devices (name_of names d)) (config_of (expansion names writes) d)
  expansion_typed [] writes h d = typed-empty _
  expansion_typed (name ∷ names) writes h zero = typed-put_all _ (puts_on name writes) empty (writes_on name writes h) (typed-empty _)
  expansion_typed (name ∷ names) writes h (suc d) = expansion_typed names writes h d

  abbrev WritesTyped : Service → Type 0
  WritesTyped service = (d : ℕ) → IsTypedUnder (own d) (part service d)

  made_typed : (action : Action) → is_expanded decls action ≡ true → All WritesTyped (new_services decls.names action)
  made_typed (Literal id writes) h =
      All-cons WritesTyped (record { id = id; parts = expansion decls.names writes }) []
      (expansion_typed decls.names writes h) (All-nil WritesTyped)
  made_typed other h = All-nil WritesTyped

  abbrev IsAction : Action → Type 0
  IsAction action = is_expanded decls action ≡ true

  behind_typed : (actions : List Action) (live : List Service) → All IsAction actions → All WritesTyped live → All WritesTyped (live_after decls.names actions live)
  behind_typed [] live h typed = typed
  behind_typed (action ∷ actions) live h typed =
      behind_typed actions (live_step decls.names live action) (All-tail IsAction action actions h)
      (All-append WritesTyped _ _ (All-filter (λ x. _) WritesTyped live typed) (made_typed action (All-head IsAction action actions h)))

  abbrev BasesTyped : List Config → Type 0
  BasesTyped bases = (d : ℕ) → IsTypedUnder (own d) (config_of bases d)

  -- an edit of the base of the device of a name
  edited_typed : (name : List ℕ) (action : Action) → is_expanded decls action ≡ true
      → KeepsBase (IsTypedUnder (schema_named decls.schemas decls.devices name)) name action
  edited_typed name (BasePut put) h base typed = on (is_same_text put.device name) refl
    where
      s : SchemaTable
      s = schema_named decls.schemas decls.devices name

      own_schema : SchemaTable
      own_schema = schema_named decls.schemas decls.devices put.device

      here : is_typed own_schema put.path put.item ≡ true
      here = second_so _ (is_typed own_schema put.path put.item) (write-item decls put h)

      on : (t : Bool) → is_same_text put.device name ≡ t → IsTypedUnder s (if t then put_item base put.path put.item else base)
      on true is =
          typed-put_item s base put.path put.item typed
          (subst (λ (n : List ℕ). is_typed (schema_named decls.schemas decls.devices n) put.path put.item ≡ true) ((bytes_decides put.device name).0 is) here)
      on false is = typed
  edited_typed name (BaseRemove device path) h base typed = on (is_same_text device name)
    where
      s : SchemaTable
      s = schema_named decls.schemas decls.devices name

      on : (t : Bool) → IsTypedUnder s (if t then drop_item base path else base)
      on true = typed-drop_item s base path typed
      on false = typed
  edited_typed name other h base typed = typed

  bases_typed : (actions : List Action) (bases : List Config) → All IsAction actions → BasesTyped bases → BasesTyped (bases_after decls.names actions bases)
  bases_typed actions bases h typed d =
      let name = name_of decls.names d in
      base_kept (IsTypedUnder (own d)) decls.names actions bases d
      (All-weaker IsAction (KeepsBase (IsTypedUnder (own d)) name) (λ action is. edited_typed name action is) actions h) (typed d)

  fold_typed : AreDecls decls → WrittenIsTyped → (state : Datastore) (calls : List Call) → AreActions decls calls → All WritesTyped state.live → BasesTyped state.bases
      → All WritesTyped (fold_from decls state calls).live × BasesTyped (fold_from decls state calls).bases
  fold_typed is law state [] h live bases = (live, bases)
  fold_typed is law state (call ∷ calls) h live bases =
      let lawful : Call → Type 0 = λ c. All (λ (action : Action). is_action decls action ≡ true) c.actions in
      let acts = expanded_to (expanded_call decls state call) in
      let now = expanded_may decls is law (data_after call.actions state.data) call.actions (All-head lawful call calls h) in
      fold_typed is law (after decls state call) calls (All-tail lawful call calls h)
      (behind_typed acts state.live now live) (bases_typed acts state.bases now bases)

  overlaid_typed : (live : List Service) (d : ℕ) (base : Config) → All WritesTyped live → IsTypedUnder (own d) base
      → IsTypedUnder (own d) (overlaid (map (λ service. part service d) live) base)
  overlaid_typed [] d base h typed = typed
  overlaid_typed (a ∷ rest) d base h typed =
      overlaid_typed rest d (overlay (part a d) base) (All-tail WritesTyped a rest h)
      (typed-overlay (own d) (part a d) base (All-head WritesTyped a rest h d) typed)

-- ---- bases

module _ (decls : Decls) (is : AreDecls decls) where
  base_typed : (d : ℕ) → IsTypedUnder (own decls d) (config_of (map declared_base decls.devices) d)
  base_typed d = on (slice_get decls.devices d) refl
    where
      on : (o : Option Device) → slice_get decls.devices d ≡ o → IsTypedUnder (own decls d) (config_of (map declared_base decls.devices) d)
      on None at =
          subst (λ (o : Option Config). IsTypedUnder (own decls d) (option_map_or (λ config. config) o empty))
          (sym (slice_get-map declared_base decls.devices d ∙ ap (option_map declared_base) at)) (typed-empty (own decls d))
      on (Some device) at =
          let name : name_of decls.names d ≡ device.name =
          ap (λ (names : List (List ℕ)). name_of names d) is.named
          ∙ ap (λ (o : Option (List ℕ)). option_map_or (λ own_name. own_name) o []) (slice_get-map (λ (x : Device). x.name) decls.devices d ∙ ap (option_map (λ (x : Device). x.name)) at) in
          let distinct = subst (λ (names : List (List ℕ)). IsDistinct is_same_text names) is.named is.distinct in
          let schema : own decls d ≡ schema_in decls.schemas device.schema =
          ap (λ (n : List ℕ). schema_named decls.schemas decls.devices n) name
          ∙ ap (λ (o : Option Device). option_map_or (λ (x : Device). schema_in decls.schemas x.schema) o plain_table) (named_there decls.devices d device distinct at) in
          subst (λ (o : Option Config). IsTypedUnder (own decls d) (option_map_or (λ config. config) o empty))
          (sym (slice_get-map declared_base decls.devices d ∙ ap (option_map declared_base) at))
          (subst (λ (s : SchemaTable). IsTypedUnder s (declared_base device)) (sym schema)
          (typed-put_all (schema_in decls.schemas device.schema) device.base empty (items device (declared_there decls.schemas decls.devices d device is.devices at)) (typed-empty _)))
        where
          items : (x : Device) → is_device decls.schemas x ≡ true → list_all (is_typed_put (schema_in decls.schemas x.schema)) x.base ≡ true
          items x h =
              let s = schema_in decls.schemas x.schema in
              list_all_weaker (is_put s) (is_typed_put s) (λ p q. second_so _ (is_typed_put s p) q) x.base (base-items decls.schemas x h)

pub trees_are_typed : WrittenIsTyped → TreeIsTyped
trees_are_typed law decls history d is calls =
    let state = state_of decls history in
    let both = fold_typed decls is law (opening decls) history calls (All-nil (WritesTyped decls)) (base_typed decls is) in
    overlaid_typed decls state.live d (config_of state.bases d) both.0 (both.1 d)
