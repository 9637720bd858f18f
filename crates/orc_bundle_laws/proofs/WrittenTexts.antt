-- No line of a written bundle has a line feed or a carriage return.
use Rattle.std.proofs.Common.{◌≡◌, ℕ, ◌<◌, ◌≤◌, ◌^◌, Bool, true, false, not, ◌&&◌, ◌||◌, List, [], ◌∷◌, ◌++◌, codes, length, map, refl, ap, sym, ◌∙◌, nat_le, nat_lt, decimal, Option, Some, None, is_some, arith}
use Rattle.std.specs.Option.{option_map_or}
use Rattle.std.specs.List.{AllByRecursion, flat_map, list_all}
use Rattle.std.proofs.lemmas.Bool.{and_parts, and_from, false≢true, ltb-true}
use Rattle.std.proofs.lemmas.List.Folds.{list_all-append}
use Rattle.orc_path.specs.Items.{item_text}
use Rattle.orc_path.specs.Steps.{PathStep}
use Rattle.orc_path.specs.Texts.{path_text}
use Rattle.orc_call.specs.declared.call.Action.{Action}
use Rattle.orc_call.specs.declared.call.Action.TheVariants as action
use Rattle.orc_call.specs.declared.call.DevicePut.{DevicePut}
use Rattle.orc_call.specs.declared.call.Put.{Put}
use Rattle.orc_decls.specs.Devices.{name_of}
use Rattle.orc_lines.specs.Lines.{is_skipped}
use Rattle.orc_schema_nodes.specs.Schemas.{SchemaTable}
use Rattle.orc_path.specs.Reading.{path_of}
use Rattle.orc_services.specs.Services.{list_with}
use Rattle.orc_services.specs.declared.list.ServiceList.{ServiceList}
use Rattle.orc_decls.specs.Calls.{has_body, is_data_path, is_served, is_service, is_service_path, is_action, is_data_item, is_forbid_rule, is_lawful_name, is_max_rule, is_put, is_write, schema_in, schema_named}
use Rattle.orc_decls.specs.declared.declarations.Decls.{Decls}
use Rattle.orc_decls.specs.declared.declarations.Device.{Device}
use Rattle.orc_decls.specs.declared.lawful.TheConstants.{MOST_WRITES}
use Rattle.orc_script.specs.Steps.{is_step}
use Rattle.orc_decls.specs.declared.declarations.Decls.{Decls}
use Rattle.orc_bundle_laws.specs.Laws.{Preamble}
use Rattle.orc_bundle_laws.specs.Written.{SpellsAction, SpellsStep, base_line, data_line, device_lines, failing_text, forbid_line, line_of_write, lines_of_action, max_line, no_json, step_lines}
use Rattle.orc_script.specs.declared.step.ScriptStep.{ScriptStep}
use Rattle.orc_script.specs.declared.step.ScriptStep.TheVariants.{Begin, Admit, Step, Decide, Settle, Tick, Restart, Fault, Stop, StopAt, Recover, Reconcile, Show, Json, Log, Meta, ShowData, History}
use Rattle.orc_script.specs.declared.step.ScriptStep.TheVariants as script_step
use Rattle.orc_bundle_laws.proofs.Texts.{IsLawfulName, is_line_byte, lawful_name, lawful_under}
use Rattle.orc_bundle_laws.proofs.WrittenBases.{AreKnown}
use Rattle.orc_bundle_laws.proofs.WrittenCalls.{AreNamed, base_path_known, delete_text, literal_text, set_text, unbase_text, unset_text, write_known, write_text}
use Rattle.orc_bundle_laws.proofs.WrittenDevices.{base_text, data_text, device_line, device_text, forbid_text, max_text}
use Rattle.orc_script.specs.Places.{is_node_path}
use Rattle.orc_bundle_laws.proofs.WrittenItems.{node_known}
use Rattle.orc_bundle_laws.proofs.WrittenLines.{IsText}
use Rattle.orc_bundle_laws.proofs.WrittenScript.{fault_line_text, meta_text, named_text, stop_at_text, tick_text}
use Rattle.orc_bundle_laws.proofs.WrittenSteps.{call_text, known, name_lawful, tick_fits}

and_false : (b : Bool) → (b && false) ≡ false
and_false true = refl
and_false false = refl

or_false : (a b : Bool) → b ≡ false → (a || b) ≡ true → a ≡ true
or_false true b h k = refl
or_false false b h k = absurd (false≢true (sym h ∙ k))

abbrev pub is_clean : List ℕ → Bool
is_clean t = list_all is_line_byte t

pub clean_append : (a b : List (List ℕ)) → list_all is_clean a ≡ true → list_all is_clean b ≡ true → list_all is_clean (a ++ b) ≡ true
clean_append a b h k = list_all-append is_clean a b ∙ and_from _ _ h k

clean_more : (t : List ℕ) (ts : List (List ℕ)) → IsText t → list_all is_clean ts ≡ true → list_all is_clean (t ∷ ts) ≡ true
clean_more t ts is h = and_from (is_clean t) (list_all is_clean ts) is.part.bytes h

bases_clean : (s : SchemaTable) (name : List ℕ) (base : List Put) → IsLawfulName name → list_all (is_put s) base ≡ true → list_all is_clean (map (base_line name) base) ≡ true
bases_clean s name [] l h = refl
bases_clean s name (put ∷ base) l h =
    let parts = and_parts (is_put s put) (list_all (is_put s) base) h in
    clean_more (base_line name put) (map (base_line name) base) (base_text name put l (lawful_under s put.path put.item parts.0)) (bases_clean s name base l parts.1)

limits_clean : (s : SchemaTable) (name : List ℕ) (max : List (List PathStep × ℕ)) → IsLawfulName name → list_all (is_max_rule s) max ≡ true → list_all is_clean (map (max_line name) max) ≡ true
limits_clean s name [] l h = refl
limits_clean s name (limit ∷ max) l h =
    let parts = and_parts (is_max_rule s limit) (list_all (is_max_rule s) max) h in
    clean_more (max_line name limit) (map (max_line name) max) (max_text s name limit l parts.0) (limits_clean s name max l parts.1)

forbids_clean : (s : SchemaTable) (name : List ℕ) (forbid : List (List PathStep × List ℕ)) → IsLawfulName name → list_all (is_forbid_rule s) forbid ≡ true
    → list_all is_clean (map (forbid_line name) forbid) ≡ true
forbids_clean s name [] l h = refl
forbids_clean s name (leaf ∷ forbid) l h =
    let parts = and_parts (is_forbid_rule s leaf) (list_all (is_forbid_rule s) forbid) h in
    clean_more (forbid_line name leaf) (map (forbid_line name) forbid) (forbid_text s name leaf l parts.0) (forbids_clean s name forbid l parts.1)

pub devices_clean : (h : Preamble) (kind : ℕ → List ℕ) (devices : List Device) → AreKnown h kind devices → list_all is_clean (flat_map (device_lines kind) devices) ≡ true
devices_clean h kind [] known = refl
devices_clean h kind (d ∷ ds) known =
    let parts = known.0 in
    let l = parts.name in
    let s = schema_in h.schemas d.schema in
    let line = device_line d.name (kind d.schema) in
    let front = line ∷ map (base_line d.name) d.base in
    clean_append (device_lines kind d) (flat_map (device_lines kind) ds)
    (clean_append (front ++ map (max_line d.name) d.max) (map (forbid_line d.name) d.forbid)
    (clean_append front (map (max_line d.name) d.max)
    (clean_more line (map (base_line d.name) d.base) (device_text d.name (kind d.schema) l parts.of_kind) (bases_clean s d.name d.base l parts.base))
    (limits_clean s d.name d.max l parts.limits)) (forbids_clean s d.name d.forbid l parts.leaves))
    (devices_clean h kind ds known.1)

pub data_clean : (s : SchemaTable) (puts : List Put) → list_all (is_data_item s) puts ≡ true → list_all is_clean (map data_line puts) ≡ true
data_clean s [] h = refl
data_clean s (put ∷ puts) h =
    let parts = and_parts (is_data_item s put) (list_all (is_data_item s) puts) h in
    clean_more (data_line put) (map data_line puts) (data_text s put parts.0) (data_clean s puts parts.1)

-- where no list has a template
module _ (d : Decls) (known_names : AreNamed d) (unserved : d.services ≡ []) where
  abbrev decls : Decls
  decls = d

  writes_clean : (writes : List DevicePut) → list_all (is_write decls) writes ≡ true → list_all is_clean (map line_of_write writes) ≡ true
  writes_clean [] h = refl
  writes_clean (w ∷ ws) h =
      let parts = and_parts (is_write decls w) (list_all (is_write decls) ws) h in
      let one = write_known d w known_names parts.0 in
      clean_more (line_of_write w) (map line_of_write ws) (write_text w one.device one.at) (writes_clean ws parts.1)

  no_service : (id : List ℕ) → is_service decls id ≡ false
  no_service id = on (path_of id)
    where
      none : (p : List PathStep) → (is_data_path d.data_schema p && is_some (list_with d.services p)) ≡ false
      none p = ap (λ (lists : List ServiceList). is_data_path d.data_schema p && is_some (list_with lists p)) unserved ∙ and_false (is_data_path d.data_schema p)

      on : (o : Option (List PathStep)) → option_map_or (is_service_path decls) o false ≡ false
      on None = refl
      on (Some p) = none p

  -- no action names a service of a list
  not_served : (id : List ℕ) → is_service decls id ≡ true → ⊥
  not_served id h = false≢true (sym (no_service id) ∙ h)

  action_clean : (a : Action) → is_action decls a ≡ true → list_all is_clean (lines_of_action no_json a) ≡ true
  action_clean (action.Literal id writes) h =
      let two = and_parts (is_lawful_name id && nat_le (length writes) MOST_WRITES) (list_all (is_write decls) writes) h in
      let one = and_parts (is_lawful_name id) (nat_le (length writes) MOST_WRITES) two.0 in
      clean_more (codes "literal " ++ id) (map line_of_write writes) (literal_text id (lawful_name id one.0)) (writes_clean writes two.1)
  action_clean (action.Delete id) h =
      let name = or_false (is_lawful_name id) (is_service decls id) (no_service id) h in
      clean_more (codes "delete " ++ id) [] (delete_text id (lawful_name id name)) refl
  action_clean (action.Create id body) h = absurd (not_served id (and_parts (is_service decls id) (has_body decls id body) h).0)
  action_clean (action.Modify id body) h = absurd (not_served id (and_parts (is_service decls id) (has_body decls id body) h).0)
  action_clean (action.Redeploy id) h = absurd (not_served id h)
  action_clean (action.Set put) h =
      let item = (and_parts (is_data_item d.data_schema put) (not (is_served d.services put.path)) h).0 in
      clean_more (codes "set " ++ item_text put.path put.item) [] (set_text d.data_schema put item) refl
  action_clean (action.Unset path) h =
      let named = (and_parts (is_data_path d.data_schema path) (not (is_served d.services path)) h).0 in
      clean_more (codes "unset " ++ path_text path) [] (unset_text d.data_schema path named) refl
  action_clean (action.BasePut w) h =
      let k = write_known d w known_names h in
      clean_more (codes "base " ++ w.device ++ codes " " ++ item_text w.path w.item) [] (base_text w.device (record { path = w.path; item = w.item }) k.device k.at) refl
  action_clean (action.BaseRemove name path) h =
      let k = base_path_known d name path known_names h in
      clean_more (codes "unbase " ++ name ++ codes " " ++ path_text path) [] (unbase_text (schema_named d.schemas d.devices name) name path k.device k.under) refl

  actions_clean : (actions : List Action) → list_all (is_action decls) actions ≡ true → list_all is_clean (flat_map (lines_of_action no_json) actions) ≡ true
  actions_clean [] h = refl
  actions_clean (a ∷ ys) h =
      let parts = and_parts (is_action decls a) (list_all (is_action decls) ys) h in
      clean_append (lines_of_action no_json a) (flat_map (lines_of_action no_json) ys) (action_clean a parts.0) (actions_clean ys parts.1)

  named_clean : (word : List ℕ) (device : ℕ) → is_clean word ≡ true → list_all (λ b. nat_lt b 128) word ≡ true → is_skipped (word ++ name_of d.names device) ≡ false → length word ≤ 10
      → device < length d.names → list_all is_clean ((word ++ name_of d.names device) ∷ []) ≡ true
  named_clean word device bytes low kept few within =
      let name = name_of d.names device in
      clean_more (word ++ name) [] (named_text word name bytes low kept few (lawful_name name (name_lawful d.names device known_names.lawful within))) refl

  step_clean : (step : ScriptStep) → is_step decls step ≡ true → list_all is_clean (step_lines no_json d.names step) ≡ true
  step_clean (Begin caller) h = clean_more (codes "begin " ++ caller) [] (named_text (codes "begin ") caller refl refl refl (omega arith) (lawful_name caller h)) refl
  step_clean Admit h = refl
  step_clean (Step device) h = named_clean (codes "step ") device refl refl refl (omega arith) (ltb-true device (length d.names) h)
  step_clean Decide h = refl
  step_clean (Tick seconds) h = clean_more (codes "tick " ++ decimal seconds) [] (tick_text seconds (tick_fits seconds h)) refl
  step_clean (Restart device) h = named_clean (codes "restart ") device refl refl refl (omega arith) (ltb-true device (length d.names) h)
  step_clean (Fault device operation at) h =
      let name = name_of d.names device in
      clean_more (codes "fault " ++ name ++ codes " " ++ failing_text operation at) []
      (fault_line_text name operation at (lawful_name name (name_lawful d.names device known_names.lawful (ltb-true device (length d.names) h)))) refl
  step_clean Reconcile h = refl
  step_clean (Show device) h = named_clean (codes "show ") device refl refl refl (omega arith) (ltb-true device (length d.names) h)
  step_clean (Json device) h =
      let fits = and_parts (nat_lt device (length d.names)) (not (schema_named d.schemas d.devices (name_of d.names device)).plain) h in
      named_clean (codes "json ") device refl refl refl (omega arith) (ltb-true device (length d.names) fits.0)
  step_clean (Log device) h = named_clean (codes "log ") device refl refl refl (omega arith) (ltb-true device (length d.names) h)
  step_clean (Meta device path) h =
      let schema = schema_named d.schemas d.devices (name_of d.names device) in
      let fits = and_parts (nat_lt device (length d.names)) (is_node_path schema path) h in
      let within = ltb-true device (length d.names) fits.0 in
      let k = node_known schema path fits.1 in
      let l = lawful_name (name_of d.names device) (name_lawful d.names device known_names.lawful within) in
      clean_more (codes "meta " ++ name_of d.names device ++ codes " " ++ path_text path) [] (meta_text (name_of d.names device) path l k.path k.short) refl
  step_clean ShowData h = refl
  step_clean (script_step.Call call) h =
      let k = known decls call h in
      let actions = flat_map (lines_of_action no_json) call.actions in
      clean_more (codes "call " ++ call.caller ++ codes " " ++ decimal call.number) (actions ++ codes "end" ∷ []) (call_text call.caller call.number k.caller k.number)
      (clean_append actions (codes "end" ∷ []) (actions_clean call.actions k.actions) refl)
  step_clean Settle h = refl
  step_clean Stop h = refl
  step_clean (StopAt count bytes) h =
      let fit = and_parts (nat_lt count (2 ^ 64)) (nat_lt bytes (2 ^ 64)) h in
      clean_more (codes "stop " ++ decimal count ++ codes " " ++ decimal bytes) [] (stop_at_text count bytes (ltb-true count (2 ^ 64) fit.0) (ltb-true bytes (2 ^ 64) fit.1)) refl
  step_clean Recover h = refl
  step_clean History h = refl

  -- no body is spelled
  action_spells : (a : Action) → is_action decls a ≡ true → SpellsAction d.data_schema no_json a
  action_spells (action.Create id body) h = absurd (not_served id (and_parts (is_service decls id) (has_body decls id body) h).0)
  action_spells (action.Modify id body) h = absurd (not_served id (and_parts (is_service decls id) (has_body decls id body) h).0)
  action_spells other h = tt

  actions_spell : (actions : List Action) → list_all (is_action decls) actions ≡ true → AllByRecursion (SpellsAction d.data_schema no_json) actions
  actions_spell [] h = tt
  actions_spell (a ∷ ys) h =
      let parts = and_parts (is_action decls a) (list_all (is_action decls) ys) h in
      (action_spells a parts.0, actions_spell ys parts.1)

  step_spells : (step : ScriptStep) → is_step decls step ≡ true → SpellsStep d.data_schema no_json step
  step_spells (script_step.Call call) h = actions_spell call.actions (known decls call h).actions
  step_spells other h = tt

  pub steps_spell : (steps : List ScriptStep) → list_all (is_step decls) steps ≡ true → AllByRecursion (SpellsStep d.data_schema no_json) steps
  steps_spell [] h = tt
  steps_spell (step ∷ steps) h =
      let parts = and_parts (is_step decls step) (list_all (is_step decls) steps) h in
      (step_spells step parts.0, steps_spell steps parts.1)

  pub steps_clean : (steps : List ScriptStep) → list_all (is_step decls) steps ≡ true → list_all is_clean (flat_map (step_lines no_json d.names) steps) ≡ true
  steps_clean [] h = refl
  steps_clean (step ∷ steps) h =
      let parts = and_parts (is_step decls step) (list_all (is_step decls) steps) h in
      clean_append (step_lines no_json d.names step) (flat_map (step_lines no_json d.names) steps) (step_clean step parts.0) (steps_clean steps parts.1)
