-- Calls that are written are read.
use Rattle.std.proofs.Common.{◌≡◌, ℕ, ◌≤◌, Bool, true, false, not, ◌&&◌, ◌||◌, nat_eq, cond, List, [], ◌∷◌, ◌++◌, codes, length, length-append, map, refl, ap, sym, ◌∙◌, subst, arith, tests, append_assoc, append-nil, Result, Ok, Err, Option, Some, None, is_some, nat_le, nat_lt, ◌==◌}
use Rattle.std.specs.List.{AllByRecursion, flat_map, list_all, list_any}
use Rattle.std.specs.Option.{option_map_or}
use Rattle.std.specs.Cmp.Lexicographic.{bytes_decides}
use Rattle.std.proofs.lemmas.Bool.{and_parts, false≢true, lt-leb, or_from, or_parts}
use Rattle.std.specs.FinMap.{empty, entries}
use Rattle.std.proofs.lemmas.Str.{IsUtf8-from_is_utf8}
use Rattle.orc_path.specs.Alphabet.{is_identifier, is_name_byte, is_name_start, is_value}
use Rattle.orc_path.specs.Items.{fits, item_text}
use Rattle.orc_path.specs.Limits.{is_long_path, is_long_value}
use Rattle.orc_path.specs.Reading.{path_of}
use Rattle.orc_path.specs.declared.item.Item.{Item}
use Rattle.orc_path.specs.declared.item.Item.TheVariants.{Entry, Leaf}
use Rattle.orc_path.proofs.PathOf.{text_of_path}
use Rattle.orc_services.specs.Services.{list_with}
use Rattle.orc_path.specs.Steps.{PathStep, is_path}
use Rattle.orc_path.specs.Texts.{path_text}
use Rattle.orc_path.specs.declared.limits.TheConstants.{PATH_LEN}
use Rattle.orc_call.specs.declared.call.Action.{Action}
use Rattle.orc_call.specs.declared.call.Action.TheVariants as action
use Rattle.orc_call.specs.declared.call.DevicePut.{DevicePut}
use Rattle.orc_call.specs.declared.call.Put.{Put}
use Rattle.orc_call.specs.declared.call.TheConstants.{MOST_ACTIONS}
use Rattle.orc_schema_nodes.specs.Schemas.{SchemaTable}
use Rattle.orc_typed.specs.Typed.{are_canonical_steps, is_in_schema, is_typed}
use Rattle.orc_decls.specs.Calls.{is_service_among, service_of, services_once}
use Rattle.orc_decls.specs.Devices.{is_same_text, names_of}
use Rattle.orc_decls.specs.Openings.{put_all}
use Rattle.orc_decls.specs.Calls.{are_below, blank_item, device_named, has_body, is_body, is_body_item, is_lawful_item, is_put, is_service, is_service_path, is_action, is_base_path, is_data_item, is_data_path, is_served, is_item_at, is_item_under, is_kept, is_lawful_name, is_path_under, is_write, schema_named}
use Rattle.orc_decls.specs.declared.lawful.TheConstants.{MOST_WRITES}
use Rattle.orc_decls.specs.declared.rule.Rule.{Rule}
use Rattle.orc_decls.specs.declared.rule.Rule.TheVariants as rule
use Rattle.orc_decls.specs.declared.declarations.Decls.{Decls}
use Rattle.orc_lines.specs.Items.{data_path_of, is_long_item, put_of, service_path_of}
use Rattle.orc_lines.specs.Keywords.{keyword_of}
use Rattle.orc_lines.specs.declared.keyword.Keyword.TheVariants as keyword
use Rattle.orc_lines.specs.Names.{is_among}
use Rattle.orc_lines.specs.Rules.{on_ok}
use Rattle.orc_script.specs.Places.{device_item_of, device_item_words, device_path_of, device_path_words}
use Rattle.orc_script.specs.Bodies.{is_long_body, is_long_put}
use Rattle.orc_script.specs.Scripts.{after_base_put, after_base_remove, after_bodied, after_redeploy, begins_as_path, on_service, service_body_of, service_id_of, after_delete, after_end, after_literal, after_set, after_step, after_unset, after_write, an_action, behind_literal, call_end, with_action, with_write, word_at, words_at}
use Rattle.orc_lines.specs.Words.{cut_at}
use Rattle.orc_bundle_laws.specs.Written.{SpellsAction, SpellsBody, lines_of_action, line_of_write}
use Rattle.orc_script.specs.declared.step.ScriptStep.{ScriptStep}
use Rattle.orc_script.specs.declared.step.ScriptStep.TheVariants as script_step
use Rattle.orc_script.specs.declared.script.Script.{Script}
use Rattle.orc_script.specs.declared.script.Part.TheVariants as part
use Rattle.orc_lines.proofs.LinesOf.{untrue}
use Rattle.orc_bundle_laws.proofs.Texts.{IsPart, IsLawfulAt, IsLawfulName, IsWord, item_short, lawful_at, lawful_name, lawful_under, part_append, part_known, part_of_item, part_of_word, path_short, word_of_path}
use Rattle.orc_script.proofs.Lawful.{named_same}
use Rattle.orc_bundle_laws.proofs.WrittenDevices.{base_text, data_again, same_back}
use Rattle.orc_bundle_laws.proofs.WrittenItems.{base_path_again, carrying, data_path_again, item_again, service_path_again}
use Rattle.orc_bundle_laws.proofs.WrittenLines.{IsText, cut_alone, cut_word}
use Rattle.orc_bundle_laws.proofs.WrittenScript.{Ends, one_line, resting}
use Rattle.orc_script.proofs.CallLines.{names}

-- a name among lawful ones is lawful
pub lawful_among : (names : List (List ℕ)) (name : List ℕ) → list_all is_lawful_name names ≡ true → is_among names name ≡ true → is_lawful_name name ≡ true
lawful_among [] name h named = absurd (false≢true named)
lawful_among (n ∷ ns) name h named =
    let parts = and_parts (is_lawful_name n) (list_all is_lawful_name ns) h in
    on (is_same_text name n) refl parts (lawful_among ns name parts.1) named where
      on : (b : Bool) → is_same_text name n ≡ b → (is_lawful_name n ≡ true) × (list_all is_lawful_name ns ≡ true) → (is_among ns name ≡ true → is_lawful_name name ≡ true) → (b || is_among ns name) ≡ true → is_lawful_name name ≡ true
      on true is parts more h = subst (λ (x : List ℕ). is_lawful_name x ≡ true) (sym ((bytes_decides name n).0 is)) parts.0
      on false is parts more h = more h

-- what is known of the devices' names
pub record AreNamed (d : Decls) : Type 0 where
  pub lawful : list_all is_lawful_name d.names ≡ true
  pub named : d.names ≡ names_of d.devices

-- what is known of a lawful write
pub record IsWrittenOn (d : Decls) (w : DevicePut) : Type 0 where
  pub device : IsLawfulName w.device
  pub declared : is_among d.names w.device ≡ true
  pub item : is_item_under (schema_named d.schemas d.devices w.device) w.path w.item ≡ true
  pub at : IsLawfulAt w.path w.item

pub write_known : (d : Decls) (w : DevicePut) → AreNamed d → is_write d w ≡ true → IsWrittenOn d w
write_known d w known h =
    let schema = schema_named d.schemas d.devices w.device in
    let parts = and_parts (is_some (device_named d.devices w.device)) (is_item_under schema w.path w.item) h in
    let there : is_among d.names w.device ≡ true = ap (λ (ns : List (List ℕ)). is_among ns w.device) known.named ∙ sym (named_same w.device d.devices) ∙ parts.0 in
    record {
      device = lawful_name w.device (lawful_among d.names w.device known.lawful there);
      declared = there;
      item = parts.1;
      at = lawful_under schema w.path w.item parts.1;
    }

-- an item of a declared device is read again
pub device_item_again : (d : Decls) (w : DevicePut) → IsWrittenOn d w → device_item_of d (w.device ++ codes " " ++ item_text w.path w.item) ≡ Ok w
unfolding device_item_of
device_item_again d w k =
    let item = item_text w.path w.item in
    let ident = k.device.identifier in
    let short = k.device.short in
    let reads = item_again None (schema_named d.schemas d.devices w.device) w.path w.item k.item refl in
    let declared = k.declared in
    ap (λ (x : List ℕ). device_item_words d (cut_at 32 x)) (append_assoc w.device (codes " ") item)
    ∙ ap (device_item_words d) (cut_word w.device item k.device.word)
    ∙ rw ident (rw short (rw reads (rw declared refl)))

-- what is known of a path of a declared device that can carry an item
pub record IsPathOn (d : Decls) (name : List ℕ) (p : List PathStep) : Type 0 where
  pub device : IsLawfulName name
  pub declared : is_among d.names name ≡ true
  pub under : is_path_under (schema_named d.schemas d.devices name) p ≡ true

pub base_path_known : (d : Decls) (name : List ℕ) (p : List PathStep) → AreNamed d → is_base_path d name p ≡ true → IsPathOn d name p
base_path_known d name p known h =
    let parts = and_parts (is_some (device_named d.devices name)) (is_path_under (schema_named d.schemas d.devices name) p) h in
    let there : is_among d.names name ≡ true = ap (λ (ns : List (List ℕ)). is_among ns name) known.named ∙ sym (named_same name d.devices) ∙ parts.0 in
    record { device = lawful_name name (lawful_among d.names name known.lawful there); declared = there; under = parts.1 }

-- the text of a path on a device is read as that name and path
device_path_again : (d : Decls) (name : List ℕ) (p : List PathStep) → IsPathOn d name p → device_path_of d (name ++ codes " " ++ path_text p) ≡ Ok (name, p)
unfolding device_path_of
device_path_again d name p k =
    let ident = k.device.identifier in
    let short = k.device.short in
    let reads = base_path_again (schema_named d.schemas d.devices name) p k.under in
    let declared = k.declared in
    ap (λ (x : List ℕ). device_path_words d (cut_at 32 x)) (append_assoc name (codes " ") (path_text p))
    ∙ ap (device_path_words d) (cut_word name (path_text p) k.device.word)
    ∙ rw ident (rw short (rw reads (rw declared refl)))

-- what is known of a lawful path of the data
pub record IsPathWord (p : List PathStep) : Type 0 where
  pub word : IsWord (path_text p)
  pub size : length (path_text p) ≤ PATH_LEN

pub path_known : (s : SchemaTable) (p : List PathStep) → is_data_path s p ≡ true → IsPathWord p
path_known s p h =
    let two = and_parts (is_path_under s p) (not (is_kept p)) h in
    let one = and_parts (is_item_at p (blank_item p)) (is_in_schema s p (blank_item p) && (s.plain || are_canonical_steps s [] p)) two.0 in
    let l = lawful_at p (blank_item p) one.0 in
    record { word = word_of_path p l.path; size = path_short p l.short }

-- services of lists

not_slash : (b : ℕ) → is_name_start b ≡ true → (b == 47) ≡ false
not_slash b h = grind (arith, tests)

no_slash : (id : List ℕ) → is_identifier id ≡ true → begins_as_path id ≡ false
no_slash [] h = refl
no_slash (b ∷ bs) h = not_slash b (and_parts (is_name_start b) (list_all is_name_byte bs) h).0

path_slash : (p : List PathStep) → begins_as_path (path_text p) ≡ true
path_slash [] = refl
path_slash (step ∷ steps) = refl

-- what is known of the id of a service of a list
pub record IsServiceOn (d : Decls) (id : List ℕ) : Type 0 where
  pub path : List PathStep
  pub read : path_of id ≡ Some path
  pub spelled : path_text path ≡ id
  pub word : IsWord id
  pub size : length id ≤ PATH_LEN
  pub slash : begins_as_path id ≡ true
  pub again : service_path_of d.services d.data_schema id ≡ Ok path

pub service_known : (d : Decls) (id : List ℕ) → is_service d id ≡ true → IsServiceOn d id
service_known d id h = on (path_of id) refl h
  where
    on : (o : Option (List PathStep)) → path_of id ≡ o → option_map_or (is_service_path d) o false ≡ true → IsServiceOn d id
    on None is k = absurd (false≢true k)
    on (Some p) is k =
        let parts = and_parts (is_data_path d.data_schema p) (is_some (list_with d.services p)) k in
        let known = path_known d.data_schema p parts.0 in
        let spelled = (text_of_path p id is).1 in
        record {
          path = p;
          read = is;
          spelled = spelled;
          word = subst (λ (t : List ℕ). IsWord t) spelled known.word;
          size = subst (λ (t : List ℕ). length t ≤ PATH_LEN) spelled known.size;
          slash = subst (λ (t : List ℕ). begins_as_path t ≡ true) spelled (path_slash p);
          again = subst (λ (t : List ℕ). service_path_of d.services d.data_schema t ≡ Ok p) spelled (service_path_again d.services d.data_schema p parts.0 parts.1);
        }

-- a body of one is one of its entry
body_known : (d : Decls) (id : List ℕ) (k : IsServiceOn d id) (body : List Put) → has_body d id body ≡ true → is_body d.data_schema k.path body ≡ true
body_known d id k body h =
    sym (ap (λ (o : Option (List PathStep)). option_map_or (λ entry. is_body d.data_schema entry body) o false) k.read) ∙ h

short_item : (item : Item) → is_lawful_item item ≡ true → is_long_item item ≡ false
short_item Entry h = refl
short_item (Leaf value) h = untrue (is_long_value value) (and_parts (is_value value) (not (is_long_value value)) h).1

-- no item of a body passes a limit
short_put : (s : SchemaTable) (entry : List PathStep) (put : Put) → is_body_item s entry put ≡ true → is_long_put put ≡ false
short_put s entry put h =
    let item = (and_parts (is_item_at put.path put.item) (is_typed s put.path put.item) (and_parts (is_put s put) _ h).0).0 in
    let three = and_parts (is_path put.path && not (is_long_path put.path) && is_lawful_item put.item) (fits put.path put.item) item in
    let two = and_parts (is_path put.path && not (is_long_path put.path)) (is_lawful_item put.item) three.0 in
    let one = and_parts (is_path put.path) (not (is_long_path put.path)) two.0 in
    or_from (is_long_path put.path) (is_long_item put.item) (untrue (is_long_path put.path) one.1) (short_item put.item two.1)

short_puts : (s : SchemaTable) (entry : List PathStep) (body : List Put) → list_all (is_body_item s entry) body ≡ true → list_any is_long_put body ≡ false
short_puts s entry [] h = refl
short_puts s entry (put ∷ body) h =
    let parts = and_parts (is_body_item s entry put) (list_all (is_body_item s entry) body) h in
    or_from (is_long_put put) (list_any is_long_put body) (short_put s entry put parts.0) (short_puts s entry body parts.1)

few_items : (n most : ℕ) → nat_le n most ≡ true → nat_lt most n ≡ false
few_items n most h = grind arith

body_short : (s : SchemaTable) (entry : List PathStep) (body : List Put) → is_body s entry body ≡ true → is_long_body body ≡ false
body_short s entry body h =
    let items = list_all (is_body_item s entry) body in
    let few = nat_le (length body) MOST_WRITES in
    let two = (and_parts (few && items) (are_below entry (entries (put_all body empty)) body) h).0 in
    let parts = and_parts few items two in
    or_from (nat_lt MOST_WRITES (length body)) (list_any is_long_put body) (few_items (length body) MOST_WRITES parts.0) (short_puts s entry body parts.1)

-- a service that actions name once

named_seam : (xs : List Action) (a : Action) (ys : List Action) (id : List ℕ) → is_service_among (xs ++ a ∷ ys) id ≡ false → names a id ≡ false
named_seam [] a ys id h = (or_parts (names a id) (is_service_among ys id) h).0
named_seam (x ∷ xs) a ys id h = named_seam xs a ys id (or_parts (names x id) (is_service_among (xs ++ a ∷ ys) id) h).1

-- the actions before one don't name the service that it names
new_name : (xs : List Action) (a : Action) (ys : List Action) (id : List ℕ) → service_of a ≡ Some id → services_once (xs ++ a ∷ ys) ≡ true → is_service_among xs id ≡ false
new_name [] a ys id is h = refl
new_name (x ∷ xs) a ys id is h =
    let parts = and_parts (option_map_or (λ own. not (is_service_among (xs ++ a ∷ ys) own)) (service_of x) true) (services_once (xs ++ a ∷ ys)) h in
    or_from (names x id) (is_service_among xs id) (on (service_of x) parts.0) (new_name xs a ys id is parts.1) where
      on : (o : Option (List ℕ)) → option_map_or (λ own. not (is_service_among (xs ++ a ∷ ys) own)) o true ≡ true → option_map_or (λ own. is_same_text id own) o false ≡ false
      on None once = refl
      on (Some own) once =
          let seam = named_seam xs a ys own (untrue (is_service_among (xs ++ a ∷ ys) own) once) in
          same_back own id (sym (ap (λ (o : Option (List ℕ)). option_map_or (λ x. is_same_text own x) o false) is) ∙ seam)

-- texts of calls

pub end_text : IsText (codes "end")
end_text = record { part = part_known (codes "end") refl refl; kept = refl; short = omega arith }

pub literal_text : (id : List ℕ) → IsLawfulName id → IsText (codes "literal " ++ id)
literal_text id l =
    let size = l.size in
    let whole = length-append (codes "literal ") id in
    record { part = part_append (codes "literal ") id (part_known (codes "literal ") refl refl) (part_of_word id l.word); kept = refl; short = omega arith }

pub delete_text : (id : List ℕ) → IsLawfulName id → IsText (codes "delete " ++ id)
delete_text id l =
    let size = l.size in
    let whole = length-append (codes "delete ") id in
    record { part = part_append (codes "delete ") id (part_known (codes "delete ") refl refl) (part_of_word id l.word); kept = refl; short = omega arith }

pub redeploy_text : (d : Decls) (id : List ℕ) → IsServiceOn d id → IsText (codes "redeploy " ++ id)
redeploy_text d id k =
    let size = k.size in
    let whole = length-append (codes "redeploy ") id in
    record { part = part_append (codes "redeploy ") id (part_known (codes "redeploy ") refl refl) (part_of_word id k.word); kept = refl; short = omega arith }

pub delete_service_text : (d : Decls) (id : List ℕ) → IsServiceOn d id → IsText (codes "delete " ++ id)
delete_service_text d id k =
    let size = k.size in
    let whole = length-append (codes "delete ") id in
    record { part = part_append (codes "delete ") id (part_known (codes "delete ") refl refl) (part_of_word id k.word); kept = refl; short = omega arith }

-- a word, the id of a service and its body
body_part : (d : Decls) (word id : List ℕ) (body : List Put) (json : List ℕ) → IsPart word → IsServiceOn d id → SpellsBody d.data_schema id body json → IsPart (word ++ id ++ codes " " ++ json)
body_part d word id body json begins k spells =
    part_append (word ++ id ++ codes " ") json (part_append (word ++ id) (codes " ") (part_append word id begins (part_of_word id k.word)) (part_known (codes " ") refl refl))
    (record { bytes = spells.alone; utf8 = IsUtf8-from_is_utf8 json spells.utf8 })

pub create_text : (d : Decls) (id : List ℕ) (body : List Put) (json : List ℕ) → IsServiceOn d id → SpellsBody d.data_schema id body json → IsText (codes "create " ++ id ++ codes " " ++ json)
create_text d id body json k spells =
    record { part = body_part d (codes "create ") id body json (part_known (codes "create ") refl refl) k spells; kept = refl; short = spells.short }

pub modify_text : (d : Decls) (id : List ℕ) (body : List Put) (json : List ℕ) → IsServiceOn d id → SpellsBody d.data_schema id body json → IsText (codes "modify " ++ id ++ codes " " ++ json)
modify_text d id body json k spells =
    let most = spells.short in
    let one = length-append (codes "create " ++ id ++ codes " ") json in
    let two = length-append (codes "create " ++ id) (codes " ") in
    let three = length-append (codes "create ") id in
    let four = length-append (codes "modify " ++ id ++ codes " ") json in
    let five = length-append (codes "modify " ++ id) (codes " ") in
    let six = length-append (codes "modify ") id in
    record { part = body_part d (codes "modify ") id body json (part_known (codes "modify ") refl refl) k spells; kept = refl; short = omega arith }

pub write_text : (w : DevicePut) → IsLawfulName w.device → IsLawfulAt w.path w.item → IsText (line_of_write w)
write_text w l at =
    let item = item_text w.path w.item in
    let one = length-append (codes "write ") w.device in
    let two = length-append (codes "write " ++ w.device) (codes " ") in
    let three = length-append (codes "write " ++ w.device ++ codes " ") item in
    let size = l.size in
    let most = item_short w.path w.item at in
    record {
      part = part_append (codes "write " ++ w.device ++ codes " ") item
          (part_append (codes "write " ++ w.device) (codes " ") (part_append (codes "write ") w.device (part_known (codes "write ") refl refl) (part_of_word w.device l.word)) (part_known (codes " ") refl refl))
          (part_of_item w.path w.item at);
      kept = refl;
      short = omega arith;
    }

pub set_text : (s : SchemaTable) (put : Put) → is_data_item s put ≡ true → IsText (codes "set " ++ item_text put.path put.item)
set_text s put h =
    let item = item_text put.path put.item in
    let at = lawful_under s put.path put.item (and_parts (is_item_under s put.path put.item) (not (is_kept put.path)) h).0 in
    let most = item_short put.path put.item at in
    let whole = length-append (codes "set ") item in
    record { part = part_append (codes "set ") item (part_known (codes "set ") refl refl) (part_of_item put.path put.item at); kept = refl; short = omega arith }

pub unset_text : (s : SchemaTable) (p : List PathStep) → is_data_path s p ≡ true → IsText (codes "unset " ++ path_text p)
unset_text s p h =
    let k = path_known s p h in
    let most = k.size in
    let whole = length-append (codes "unset ") (path_text p) in
    record { part = part_append (codes "unset ") (path_text p) (part_known (codes "unset ") refl refl) (part_of_word (path_text p) k.word); kept = refl; short = omega arith }

pub unbase_text : (s : SchemaTable) (name : List ℕ) (p : List PathStep) → IsLawfulName name → is_path_under s p ≡ true
    → IsText (codes "unbase " ++ name ++ codes " " ++ path_text p)
unbase_text s name p l h =
    let k = carrying s p h in
    let one = length-append (codes "unbase ") name in
    let two = length-append (codes "unbase " ++ name) (codes " ") in
    let three = length-append (codes "unbase " ++ name ++ codes " ") (path_text p) in
    let size = l.size in
    let most = path_short p k.lawful.short in
    record {
      part = part_append (codes "unbase " ++ name ++ codes " ") (path_text p)
          (part_append (codes "unbase " ++ name) (codes " ") (part_append (codes "unbase ") name (part_known (codes "unbase ") refl refl) (part_of_word name l.word)) (part_known (codes " ") refl refl))
          (part_of_word (path_text p) (word_of_path p k.lawful.path));
      kept = refl;
      short = omega arith;
    }

-- the places inside a call
module _ (callers : List (List ℕ)) (done : List ScriptStep) (caller : List ℕ) (number : ℕ) where
  -- the open call has these actions
  abbrev pub opened : List Action → Script
  opened actions = record { part = part.Call; callers = callers; steps = done; caller = caller; number = number; actions = actions; name = []; writes = [] }

  -- the open call has these actions and after them a literal, whose writes may go on
  abbrev literal : List Action → List ℕ → List DevicePut → Script
  literal actions id writes =
      record { part = part.Literal; callers = callers; steps = done; caller = caller; number = number; actions = actions; name = id; writes = writes }

  abbrev pub served : List Action → Script
  served actions = resting callers (done ++ script_step.Call (record { caller = caller; number = number; actions = actions }) ∷ []) number

  -- the call has these actions, where a literal that is open is the last of them
  data HasActions : Script → List Action → Type 0 where
    closed : (actions : List Action) → HasActions (opened actions) actions
    begun : (actions : List Action) (id : List ℕ) (writes : List DevicePut) → HasActions (literal actions id writes) (actions ++ action.Literal id writes ∷ [])

  -- a line of an action closes the literal that is open

  at_literal : (d : Decls) (s : Script) (actions : List Action) (id : List ℕ) (later : List (List ℕ)) → HasActions s actions
      → after_step d s (codes "literal " ++ id) later ≡ after_literal (opened actions) id
  unfolding after_step words_at an_action behind_literal keyword_of
  at_literal d _ _ id later (closed actions) = refl
  at_literal d _ _ id later (begun actions other writes) = refl

  at_create : (d : Decls) (s : Script) (actions : List Action) (rest : List ℕ) (later : List (List ℕ)) → HasActions s actions
      → after_step d s (codes "create " ++ rest) later ≡ after_bodied keyword.Create d (opened actions) rest
  unfolding after_step words_at an_action behind_literal keyword_of
  at_create d _ _ rest later (closed actions) = refl
  at_create d _ _ rest later (begun actions other writes) = refl

  at_modify : (d : Decls) (s : Script) (actions : List Action) (rest : List ℕ) (later : List (List ℕ)) → HasActions s actions
      → after_step d s (codes "modify " ++ rest) later ≡ after_bodied keyword.Modify d (opened actions) rest
  unfolding after_step words_at an_action behind_literal keyword_of
  at_modify d _ _ rest later (closed actions) = refl
  at_modify d _ _ rest later (begun actions other writes) = refl

  at_redeploy : (d : Decls) (s : Script) (actions : List Action) (rest : List ℕ) (later : List (List ℕ)) → HasActions s actions
      → after_step d s (codes "redeploy " ++ rest) later ≡ after_redeploy d (opened actions) rest
  unfolding after_step words_at an_action behind_literal keyword_of
  at_redeploy d _ _ rest later (closed actions) = refl
  at_redeploy d _ _ rest later (begun actions other writes) = refl

  at_delete : (d : Decls) (s : Script) (actions : List Action) (id : List ℕ) (later : List (List ℕ)) → HasActions s actions
      → after_step d s (codes "delete " ++ id) later ≡ after_delete d (opened actions) id
  unfolding after_step words_at an_action behind_literal keyword_of
  at_delete d _ _ id later (closed actions) = refl
  at_delete d _ _ id later (begun actions other writes) = refl

  at_set : (d : Decls) (s : Script) (actions : List Action) (rest : List ℕ) (later : List (List ℕ)) → HasActions s actions
      → after_step d s (codes "set " ++ rest) later ≡ after_set d (opened actions) rest
  unfolding after_step words_at an_action behind_literal keyword_of
  at_set d _ _ rest later (closed actions) = refl
  at_set d _ _ rest later (begun actions other writes) = refl

  at_unset : (d : Decls) (s : Script) (actions : List Action) (rest : List ℕ) (later : List (List ℕ)) → HasActions s actions
      → after_step d s (codes "unset " ++ rest) later ≡ after_unset d (opened actions) rest
  unfolding after_step words_at an_action behind_literal keyword_of
  at_unset d _ _ rest later (closed actions) = refl
  at_unset d _ _ rest later (begun actions other writes) = refl

  at_base : (d : Decls) (s : Script) (actions : List Action) (rest : List ℕ) (later : List (List ℕ)) → HasActions s actions
      → after_step d s (codes "base " ++ rest) later ≡ after_base_put d (opened actions) rest
  unfolding after_step words_at an_action behind_literal keyword_of
  at_base d _ _ rest later (closed actions) = refl
  at_base d _ _ rest later (begun actions other writes) = refl

  at_unbase : (d : Decls) (s : Script) (actions : List Action) (rest : List ℕ) (later : List (List ℕ)) → HasActions s actions
      → after_step d s (codes "unbase " ++ rest) later ≡ after_base_remove d (opened actions) rest
  unfolding after_step words_at an_action behind_literal keyword_of
  at_unbase d _ _ rest later (closed actions) = refl
  at_unbase d _ _ rest later (begun actions other writes) = refl

  at_end : (d : Decls) (s : Script) (actions : List Action) (later : List (List ℕ)) → HasActions s actions
      → after_step d s (codes "end") later ≡ after_end (opened actions)
  unfolding after_step word_at call_end keyword_of
  at_end d _ _ later (closed actions) = refl
  at_end d _ _ later (begun actions other writes) = refl

  -- what an action makes
  module _ (actions : List Action) (room : nat_le MOST_ACTIONS (length actions) ≡ false) where
    literal_made : (id : List ℕ) → IsLawfulName id → is_service_among actions id ≡ false → after_literal (opened actions) id ≡ Ok (literal actions id [])
    unfolding after_literal
    literal_made id l new = let ident = l.identifier in let short = l.short in rw ident (rw room (rw short (rw new refl)))

    delete_made : (d : Decls) (id : List ℕ) → IsLawfulName id → is_service_among actions id ≡ false
        → after_delete d (opened actions) id ≡ Ok (opened (actions ++ action.Delete id ∷ []))
    unfolding after_delete
    delete_made d id l new =
        let name = no_slash id l.identifier in
        let ident = l.identifier in
        let short = l.short in
        rw name (rw ident (rw room (rw short (rw new refl))))

    -- the id of a service of a list that is named alone
    id_made : (d : Decls) (id : List ℕ) → IsServiceOn d id → is_service_among actions id ≡ false → service_id_of d (opened actions) id ≡ Ok id
    id_made d id k new =
        let one : (nat_le MOST_ACTIONS (length actions) || is_some (cut_at 32 id)) ≡ false =
        or_from (nat_le MOST_ACTIONS (length actions)) (is_some (cut_at 32 id)) room
        (ap (λ (o : Option (List ℕ × List ℕ)). is_some o) (cut_alone id k.word)) in
        let next : List PathStep → Result (List ℕ) Rule = λ p. on_service (opened actions) (path_text p) (Ok (path_text p)) in
        ap (λ (b : Bool). cond b (Err rule.Line) (on_ok (service_path_of d.services d.data_schema id) next)) one
        ∙ ap (λ (r : Result (List PathStep) Rule). on_ok r next) k.again
        ∙ ap (λ (i : List ℕ). on_service (opened actions) i (Ok i)) k.spelled
        ∙ ap (λ (b : Bool). cond b (Err rule.Duplicate) (Ok id)) new

    redeploy_made : (d : Decls) (id : List ℕ) → IsServiceOn d id → is_service_among actions id ≡ false
        → after_redeploy d (opened actions) id ≡ Ok (opened (actions ++ action.Redeploy id ∷ []))
    unfolding after_redeploy
    redeploy_made d id k new = ap (λ (r : Result (List ℕ) Rule). on_ok r (λ i. Ok (with_action (opened actions) (action.Redeploy i)))) (id_made d id k new)

    delete_service_made : (d : Decls) (id : List ℕ) → IsServiceOn d id → is_service_among actions id ≡ false
        → after_delete d (opened actions) id ≡ Ok (opened (actions ++ action.Delete id ∷ []))
    unfolding after_delete
    delete_service_made d id k new =
        let path = k.slash in
        rw path (ap (λ (r : Result (List ℕ) Rule). on_ok r (λ i. Ok (with_action (opened actions) (action.Delete i)))) (id_made d id k new))

    -- the id of a service of a list, and its body
    bodied_made : (d : Decls) (id : List ℕ) (body : List Put) (json : List ℕ) → IsServiceOn d id → is_service_among actions id ≡ false
        → has_body d id body ≡ true → SpellsBody d.data_schema id body json
        → service_body_of d (opened actions) (id ++ codes " " ++ json) ≡ Ok (id, body)
    bodied_made d id body json k new has spells =
        let is = body_known d id k body has in
        let some = spells.some in
        let again = k.again in
        let reads = spells.read k.path k.read in
        let short = body_short d.data_schema k.path body is in
        let cuts : cut_at 32 (id ++ codes " " ++ json) ≡ Some (id, json) = ap (cut_at 32) (append_assoc id (codes " ") json) ∙ cut_word id json k.word in
        let spelled = k.spelled in
        rw room (rw cuts (rw some (rw again (rw reads (rw short (rw spelled (rw new (rw is refl))))))))

    create_made : (d : Decls) (id : List ℕ) (body : List Put) (json : List ℕ) → IsServiceOn d id → is_service_among actions id ≡ false
        → has_body d id body ≡ true → SpellsBody d.data_schema id body json
        → after_bodied keyword.Create d (opened actions) (id ++ codes " " ++ json) ≡ Ok (opened (actions ++ action.Create id body ∷ []))
    unfolding after_bodied
    create_made d id body json k new has spells =
        ap (λ (r : Result (List ℕ × List Put) Rule). on_ok r (λ made. Ok (with_action (opened actions) (action.Create made.0 made.1)))) (bodied_made d id body json k new has spells)

    modify_made : (d : Decls) (id : List ℕ) (body : List Put) (json : List ℕ) → IsServiceOn d id → is_service_among actions id ≡ false
        → has_body d id body ≡ true → SpellsBody d.data_schema id body json
        → after_bodied keyword.Modify d (opened actions) (id ++ codes " " ++ json) ≡ Ok (opened (actions ++ action.Modify id body ∷ []))
    unfolding after_bodied
    modify_made d id body json k new has spells =
        ap (λ (r : Result (List ℕ × List Put) Rule). on_ok r (λ made. Ok (with_action (opened actions) (action.Modify made.0 made.1)))) (bodied_made d id body json k new has spells)

    set_made : (d : Decls) (put : Put) → is_data_item d.data_schema put ≡ true → is_served d.services put.path ≡ false
        → after_set d (opened actions) (item_text put.path put.item) ≡ Ok (opened (actions ++ action.Set put ∷ []))
    unfolding after_set
    set_made d put h apart =
        ap (λ (b : Bool). cond b (Err rule.Line) (on_ok (put_of (Some d.services) d.data_schema false (item_text put.path put.item)) (λ p. Ok (with_action (opened actions) (action.Set p))))) room
        ∙ ap (λ (r : Result Put Rule). on_ok r (λ p. Ok (with_action (opened actions) (action.Set p)))) (data_again d.services d.data_schema put h apart)

    unset_made : (d : Decls) (p : List PathStep) → is_data_path d.data_schema p ≡ true → is_served d.services p ≡ false
        → after_unset d (opened actions) (path_text p) ≡ Ok (opened (actions ++ action.Unset p ∷ []))
    unfolding after_unset
    unset_made d p h apart =
        let one : (nat_le MOST_ACTIONS (length actions) || is_some (cut_at 32 (path_text p))) ≡ false =
        or_from (nat_le MOST_ACTIONS (length actions)) (is_some (cut_at 32 (path_text p))) room
        (ap (λ (o : Option (List ℕ × List ℕ)). is_some o) (cut_alone (path_text p) (path_known d.data_schema p h).word)) in
        ap (λ (b : Bool). cond b (Err rule.Line) (on_ok (data_path_of d.services d.data_schema (path_text p)) (λ q. Ok (with_action (opened actions) (action.Unset q))))) one
        ∙ ap (λ (r : Result (List PathStep) Rule). on_ok r (λ q. Ok (with_action (opened actions) (action.Unset q)))) (data_path_again d.services d.data_schema p h apart)

    base_made : (d : Decls) (w : DevicePut) → IsWrittenOn d w
        → after_base_put d (opened actions) (w.device ++ codes " " ++ item_text w.path w.item) ≡ Ok (opened (actions ++ action.BasePut w ∷ []))
    unfolding after_base_put
    base_made d w k =
        ap (λ (b : Bool). cond b (Err rule.Line) (on_ok (device_item_of d (w.device ++ codes " " ++ item_text w.path w.item)) (λ p. Ok (with_action (opened actions) (action.BasePut p))))) room
        ∙ ap (λ (o : Result DevicePut Rule). on_ok o (λ p. Ok (with_action (opened actions) (action.BasePut p)))) (device_item_again d w k)

    unbase_made : (d : Decls) (name : List ℕ) (p : List PathStep) → IsPathOn d name p
        → after_base_remove d (opened actions) (name ++ codes " " ++ path_text p) ≡ Ok (opened (actions ++ action.BaseRemove name p ∷ []))
    unfolding after_base_remove
    unbase_made d name p k =
        ap (λ (b : Bool). cond b (Err rule.Line) (on_ok (device_path_of d (name ++ codes " " ++ path_text p)) (λ n. Ok (with_action (opened actions) (action.BaseRemove n.0 n.1))))) room
        ∙ ap (λ (o : Result (List ℕ × List PathStep) Rule). on_ok o (λ n. Ok (with_action (opened actions) (action.BaseRemove n.0 n.1)))) (device_path_again d name p k)

  module _ (d : Decls) (rest : List (List ℕ)) (r : Result (List ScriptStep) (ℕ × Rule)) where
    end_made : (actions : List Action) → nat_eq (length actions) 0 ≡ false → after_end (opened actions) ≡ Ok (served actions)
    unfolding after_end
    end_made actions some = rw some refl

    end_line : (s : Script) (actions : List Action) → HasActions s actions → nat_eq (length actions) 0 ≡ false
        → Ends d (served actions) rest r → Ends d s (codes "end" ∷ rest) r
    end_line s actions has some =
        one_line d s (served actions) (codes "end") rest r end_text (λ later are. at_end d s actions later has ∙ end_made actions some)

    write_reads : (later : List (List ℕ)) (actions : List Action) (id : List ℕ) (writes : List DevicePut) (w : DevicePut) → IsWrittenOn d w
        → after_step d (literal actions id writes) (line_of_write w) later ≡ Ok (literal actions id (writes ++ w ∷ []))
    unfolding after_step words_at behind_literal keyword_of after_write
    write_reads later actions id writes w k =
        ap (λ (o : Result DevicePut Rule). on_ok o (λ v. Ok (with_write (literal actions id writes) v))) (device_item_again d w k)

    write_line : (actions : List Action) (id : List ℕ) (writes : List DevicePut) (w : DevicePut) → IsWrittenOn d w
        → Ends d (literal actions id (writes ++ w ∷ [])) rest r → Ends d (literal actions id writes) (line_of_write w ∷ rest) r
    write_line actions id writes w k =
        one_line d (literal actions id writes) (literal actions id (writes ++ w ∷ [])) (line_of_write w) rest r (write_text w k.device k.at)
        (λ later are. write_reads later actions id writes w k)

  -- all writes of a literal
  writes_read : (d : Decls) (actions : List Action) (id : List ℕ) (before todo : List DevicePut) (rest : List (List ℕ)) (r : Result (List ScriptStep) (ℕ × Rule))
      → AreNamed d → list_all (is_write d) todo ≡ true
      → Ends d (literal actions id (before ++ todo)) rest r → Ends d (literal actions id before) (map line_of_write todo ++ rest) r
  writes_read d actions id before [] rest r known all behind = subst (λ (ws : List DevicePut). Ends d (literal actions id ws) rest r) (append-nil before) behind
  writes_read d actions id before (w ∷ ws) rest r known all behind =
      let decls = d in
      let parts = and_parts (is_write decls w) (list_all (is_write decls) ws) all in
      write_line d (map line_of_write ws ++ rest) r actions id before w (write_known d w known parts.0)
      (writes_read d actions id (before ++ w ∷ []) ws rest r known parts.1
      (subst (λ (all : List DevicePut). Ends d (literal actions id all) rest r) (sym (append_assoc before (w ∷ []) ws)) behind))

  -- an action before what is read after it
  module _ (json : List ℕ → List Put → List ℕ) (d : Decls) (known : AreNamed d) (before : List Action) (room : nat_le MOST_ACTIONS (length before) ≡ false) (s : Script) (has : HasActions s before)
      (rest : List (List ℕ)) (r : Result (List ScriptStep) (ℕ × Rule)) where
    -- wherever the call stands after the action
    abbrev Behind : Action → Type 0
    Behind a = (u : Script) → HasActions u (before ++ a ∷ []) → Ends d u rest r

    action_read : (a : Action) → is_action d a ≡ true → SpellsAction d.data_schema json a
        → ((id : List ℕ) → service_of a ≡ Some id → is_service_among before id ≡ false) → Behind a
        → Ends d s (lines_of_action json a ++ rest) r
    action_read (action.Create id body) is spells new behind =
        let both_so = and_parts (is_service d id) (has_body d id body) is in
        let k = service_known d id both_so.0 in
        let words = id ++ codes " " ++ json id body in
        one_line d s (opened (before ++ action.Create id body ∷ [])) (codes "create " ++ id ++ codes " " ++ json id body) rest r (create_text d id body (json id body) k spells)
        (λ later are. at_create d s before words later has ∙ create_made before room d id body (json id body) k (new id refl) both_so.1 spells)
        (behind (opened (before ++ action.Create id body ∷ [])) (closed (before ++ action.Create id body ∷ [])))
    action_read (action.Modify id body) is spells new behind =
        let both_so = and_parts (is_service d id) (has_body d id body) is in
        let k = service_known d id both_so.0 in
        let words = id ++ codes " " ++ json id body in
        one_line d s (opened (before ++ action.Modify id body ∷ [])) (codes "modify " ++ id ++ codes " " ++ json id body) rest r (modify_text d id body (json id body) k spells)
        (λ later are. at_modify d s before words later has ∙ modify_made before room d id body (json id body) k (new id refl) both_so.1 spells)
        (behind (opened (before ++ action.Modify id body ∷ [])) (closed (before ++ action.Modify id body ∷ [])))
    action_read (action.Redeploy id) is spells new behind =
        let k = service_known d id is in
        one_line d s (opened (before ++ action.Redeploy id ∷ [])) (codes "redeploy " ++ id) rest r (redeploy_text d id k)
        (λ later are. at_redeploy d s before id later has ∙ redeploy_made before room d id k (new id refl))
        (behind (opened (before ++ action.Redeploy id ∷ [])) (closed (before ++ action.Redeploy id ∷ [])))
    action_read (action.Literal id writes) is spells new behind =
        let two = and_parts (is_lawful_name id && nat_le (length writes) MOST_WRITES) (list_all (is_write d) writes) is in
        let first = and_parts (is_lawful_name id) (nat_le (length writes) MOST_WRITES) two.0 in
        let l = lawful_name id first.0 in
        one_line d s (literal before id []) (codes "literal " ++ id) (map line_of_write writes ++ rest) r (literal_text id l)
        (λ later are. at_literal d s before id later has ∙ literal_made before room id l (new id refl))
        (writes_read d before id [] writes rest r known two.1 (behind (literal before id writes) (begun before id writes)))
    action_read (action.Delete id) is spells new behind = on (is_lawful_name id) refl is
      where
        last : Ends d (opened (before ++ action.Delete id ∷ [])) rest r
        last = behind (opened (before ++ action.Delete id ∷ [])) (closed (before ++ action.Delete id ∷ []))

        on : (b : Bool) → is_lawful_name id ≡ b → (b || is_service d id) ≡ true → Ends d s ((codes "delete " ++ id) ∷ rest) r
        on true name either =
            let l = lawful_name id name in
            one_line d s (opened (before ++ action.Delete id ∷ [])) (codes "delete " ++ id) rest r (delete_text id l)
            (λ later are. at_delete d s before id later has ∙ delete_made before room d id l (new id refl)) last
        on false name either =
            let k = service_known d id either in
            one_line d s (opened (before ++ action.Delete id ∷ [])) (codes "delete " ++ id) rest r (delete_service_text d id k)
            (λ later are. at_delete d s before id later has ∙ delete_service_made before room d id k (new id refl)) last
    action_read (action.Set put) is spells new behind =
        let both_so = and_parts (is_data_item d.data_schema put) (not (is_served d.services put.path)) is in
        one_line d s (opened (before ++ action.Set put ∷ [])) (codes "set " ++ item_text put.path put.item) rest r (set_text d.data_schema put both_so.0)
        (λ later are. at_set d s before (item_text put.path put.item) later has ∙ set_made before room d put both_so.0 (untrue (is_served d.services put.path) both_so.1))
        (behind (opened (before ++ action.Set put ∷ [])) (closed (before ++ action.Set put ∷ [])))
    action_read (action.Unset path) is spells new behind =
        let both_so = and_parts (is_data_path d.data_schema path) (not (is_served d.services path)) is in
        one_line d s (opened (before ++ action.Unset path ∷ [])) (codes "unset " ++ path_text path) rest r (unset_text d.data_schema path both_so.0)
        (λ later are. at_unset d s before (path_text path) later has ∙ unset_made before room d path both_so.0 (untrue (is_served d.services path) both_so.1))
        (behind (opened (before ++ action.Unset path ∷ [])) (closed (before ++ action.Unset path ∷ [])))
    action_read (action.BasePut w) is spells new behind =
        let k = write_known d w known is in
        let words = w.device ++ codes " " ++ item_text w.path w.item in
        let line = codes "base " ++ w.device ++ codes " " ++ item_text w.path w.item in
        one_line d s (opened (before ++ action.BasePut w ∷ [])) line rest r (base_text w.device (record { path = w.path; item = w.item }) k.device k.at)
        (λ later are. at_base d s before words later has ∙ base_made before room d w k)
        (behind (opened (before ++ action.BasePut w ∷ [])) (closed (before ++ action.BasePut w ∷ [])))
    action_read (action.BaseRemove name path) is spells new behind =
        let k = base_path_known d name path known is in
        let words = name ++ codes " " ++ path_text path in
        let line = codes "unbase " ++ name ++ codes " " ++ path_text path in
        one_line d s (opened (before ++ action.BaseRemove name path ∷ [])) line rest r (unbase_text (schema_named d.schemas d.devices name) name path k.device k.under)
        (λ later are. at_unbase d s before words later has ∙ unbase_made before room d name path k)
        (behind (opened (before ++ action.BaseRemove name path ∷ [])) (closed (before ++ action.BaseRemove name path ∷ [])))

  -- the rest of a call's actions, and the line that ends it
  actions_read : (json : List ℕ → List Put → List ℕ) (d : Decls) (before todo : List Action) (s : Script) (rest : List (List ℕ)) (r : Result (List ScriptStep) (ℕ × Rule))
      → AreNamed d → HasActions s before → list_all (is_action d) todo ≡ true → AllByRecursion (SpellsAction d.data_schema json) todo → services_once (before ++ todo) ≡ true
      → length (before ++ todo) ≤ MOST_ACTIONS → nat_eq (length (before ++ todo)) 0 ≡ false
      → Ends d (served (before ++ todo)) rest r → Ends d s (flat_map (lines_of_action json) todo ++ codes "end" ∷ rest) r
  actions_read json d before [] s rest r known has all spells once few some behind =
      let same = append-nil before in
      end_line d rest r s before has (subst (λ (ys : List Action). nat_eq (length ys) 0 ≡ false) same some)
      (subst (λ (ys : List Action). Ends d (served ys) rest r) same behind)
  actions_read json d before (a ∷ ys) s rest r known has all spells once few some behind =
      let decls = d in
      let parts = and_parts (is_action decls a) (list_all (is_action decls) ys) all in
      let size = length-append before (a ∷ ys) in
      let room = lt-leb MOST_ACTIONS (length before) (omega arith) in
      let seam : before ++ a ∷ ys ≡ (before ++ a ∷ []) ++ ys = sym (append_assoc before (a ∷ []) ys) in
      let more = flat_map (lines_of_action json) ys ++ codes "end" ∷ rest in
      subst (λ (ts : List (List ℕ)). Ends d s ts r) (sym (append_assoc (lines_of_action json a) (flat_map (lines_of_action json) ys) (codes "end" ∷ rest)))
      (action_read json d known before room s has more r a parts.0 spells.0 (λ id is. new_name before a ys id is once)
      (λ u now. actions_read json d (before ++ a ∷ []) ys u rest r known now parts.1 spells.1
      (subst (λ (xs : List Action). services_once xs ≡ true) seam once)
      (subst (λ (xs : List Action). length xs ≤ MOST_ACTIONS) seam few)
      (subst (λ (xs : List Action). nat_eq (length xs) 0 ≡ false) seam some)
      (subst (λ (xs : List Action). Ends d (served xs) rest r) seam behind)))

  -- all of them
  pub call_read : (json : List ℕ → List Put → List ℕ) (d : Decls) (actions : List Action) (rest : List (List ℕ)) (r : Result (List ScriptStep) (ℕ × Rule))
      → AreNamed d → list_all (is_action d) actions ≡ true → AllByRecursion (SpellsAction d.data_schema json) actions → services_once actions ≡ true
      → length actions ≤ MOST_ACTIONS → nat_eq (length actions) 0 ≡ false
      → Ends d (served actions) rest r → Ends d (opened []) (flat_map (lines_of_action json) actions ++ codes "end" ∷ rest) r
  call_read json d actions rest r known all spells once few some behind =
      actions_read json d [] actions (opened []) rest r known (closed []) all spells once few some behind
