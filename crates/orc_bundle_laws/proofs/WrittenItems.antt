-- Items and paths that are written are read.
use Rattle.std.proofs.Common.{◌≡◌, ℕ, ◌<◌, ◌-◌, Bool, true, false, not, ◌&&◌, ◌||◌, cond, nat_lt, List, [], ◌∷◌, ◌++◌, codes, length, take, Option, refl, ap, sym, ◌∙◌, arith, append_assoc, Some, None, Ok, nat_eq, option_map, option_and_then, is_some}
use Rattle.std.specs.Result.{result_ok}
use Rattle.std.proofs.lemmas.Bool.{and_parts, and_from, or_from, false≢true}
use Rattle.orc_path.specs.Alphabet.{is_value}
use Rattle.orc_path.specs.Items.{fits, item_text}
use Rattle.orc_path.specs.Limits.{is_long_path}
use Rattle.orc_path.specs.Reading.{path_of}
use Rattle.orc_path.specs.Steps.{PathStep, ends_in_keys, is_path}
use Rattle.orc_path.specs.Texts.{path_text, value_text}
use Rattle.orc_path.specs.Values.{value_of}
use Rattle.orc_path.specs.declared.item.Item.{Item}
use Rattle.orc_path.specs.declared.item.Item.TheVariants.{Entry, Leaf}
use Rattle.orc_path.proofs.PathOf.{path_of_text}
use Rattle.orc_path.proofs.Values.{values_are_read}
use Rattle.orc_value.specs.declared.kind.Kind.{Kind}
use Rattle.orc_value.proofs.CanonLaws.{is_canonical-Decides}
use Rattle.orc_call.specs.declared.call.Put.{Put}
use Rattle.orc_schema_nodes.specs.Schemas.{SchemaTable, kind_at_path, node_at, path_names}
use Rattle.orc_typed.specs.Typed.{are_canonical_keys, are_canonical_steps, canonical_item, canonical_keys, canonical_path, canonical_steps, canonical_text, has_canonical_keys, is_canonical_text, is_canonical_value, is_in_schema, is_typed, kinds_at, stand}
use Rattle.orc_typed.proofs.Kept.{own_of_typed}
use Rattle.orc_decls.specs.Calls.{blank_item, has_entries, is_data_path, is_item_at, is_item_under, is_kept, is_list_path, is_path_under, is_served}
use Rattle.orc_services.specs.Services.{list_with}
use Rattle.orc_lines.specs.Items.{can_carry, data_path_of, forbidden_of, forbidden_words, is_barred, is_past_path, is_past_value, is_service_at, item_words, leaf_of, list_path_of, names_list, names_service, put_of, service_path_of}
use Rattle.orc_lines.proofs.CanonicalItems.{carries_same}
use Rattle.orc_script.specs.Places.{base_path_of, is_no_word, is_node_path, names_node, node_path_of}
use Rattle.orc_lines.specs.Words.{cut_at}
use Rattle.orc_lines.proofs.LinesOf.{untrue}
use Rattle.orc_bundle_laws.proofs.Texts.{IsLawfulAt, IsWord, lawful_at, lawful_value, word_of_path}
use Rattle.orc_bundle_laws.proofs.WrittenLines.{cut_alone, cut_word}
use Rattle.orc_services.specs.declared.list.ServiceList.{ServiceList}

not_zero : (n : ℕ) → 0 < n → nat_eq n 0 ≡ false
not_zero n h = grind arith

-- a path's text is not empty
path_some : (p : List PathStep) → nat_eq (length (path_text p)) 0 ≡ false
path_some [] = refl
path_some (s ∷ ss) = not_zero (length (path_text (s ∷ ss))) (omega arith)

path_kept : (p : List PathStep) → is_path p ≡ true → is_long_path p ≡ false → is_past_path (path_of (path_text p)) ≡ false
path_kept p is short = ap is_past_path (path_of_text p is) ∙ short

-- canonical forms

text_own : (kind : Option Kind) (text : List ℕ) → is_canonical_text kind text ≡ true → canonical_text kind text ≡ Some text
text_own None text h = absurd (false≢true h)
text_own (Some kind) text h = ap result_ok ((is_canonical-Decides kind text).0 h)

keys_own : (kinds : List (Option Kind)) (keys : List (List ℕ)) → are_canonical_keys kinds keys ≡ true → canonical_keys kinds keys ≡ Some keys
keys_own kinds [] h = refl
keys_own [] (key ∷ later) h = absurd (false≢true h)
keys_own (kind ∷ kinds) (key ∷ later) h =
    let parts = and_parts (is_canonical_text kind key) (are_canonical_keys kinds later) h in
    ap (λ (o : Option (List ℕ)). option_and_then (λ t. option_map (λ ts. t ∷ ts) (canonical_keys kinds later)) o) (text_own kind key parts.0)
    ∙ ap (λ (o : Option (List (List ℕ))). option_map (λ ts. key ∷ ts) o) (keys_own kinds later parts.1)

steps_own : (s : SchemaTable) (above : List (List ℕ)) (steps : List PathStep) → are_canonical_steps s above steps ≡ true → canonical_steps s above steps ≡ Some steps
steps_own s above [] h = refl
steps_own s above (step ∷ later) h =
    let names = above ++ step.node ∷ [] in
    let parts = and_parts (has_canonical_keys s names step) (are_canonical_steps s names later) h in
    ap (λ (o : Option (List (List ℕ))). option_and_then (λ first. option_map (λ more. first ∷ more) (canonical_steps s names later)) (option_map (λ ks. record { node = step.node; keys = ks }) o))
    (keys_own (kinds_at s names) step.keys parts.0)
    ∙ ap (λ (o : Option (List PathStep)). option_map (λ more. step ∷ more) o) (steps_own s names later parts.1)

-- a path whose keys are canonical is its own canonical form
path_own : (s : SchemaTable) (p : List PathStep) → (s.plain || are_canonical_steps s [] p) ≡ true → canonical_path s p ≡ Some p
path_own s p h = on s.plain h where
  on : (b : Bool) → (b || are_canonical_steps s [] p) ≡ true → cond b (Some p) (canonical_steps s [] p) ≡ Some p
  on true h = refl
  on false h = steps_own s [] p h

-- what may stand in a configuration is in the schema
typed_in : (s : SchemaTable) (p : List PathStep) (item : Item) → is_typed s p item ≡ true → is_in_schema s p item ≡ true
typed_in s p item h = on s.plain refl where
  tests : Bool
  tests = is_in_schema s p item && (are_canonical_steps s [] p && is_canonical_value (kind_at_path s p) item)

  on : (b : Bool) → s.plain ≡ b → is_in_schema s p item ≡ true
  on true is = rw is refl
  on false is = (and_parts (is_in_schema s p item) (are_canonical_steps s [] p && is_canonical_value (kind_at_path s p) item) (sym (ap (λ (b : Bool). b || tests) is) ∙ h)).0

-- what is known of an item that may stand there
pub record IsOwnAt (s : SchemaTable) (p : List PathStep) (item : Item) : Type 0 where
  pub lawful : IsLawfulAt p item
  pub carried : can_carry s p item ≡ true
  pub own : canonical_path s p ≡ Some p
  pub own_item : canonical_item s p item ≡ Some item

pub own_at : (s : SchemaTable) (p : List PathStep) (item : Item) → is_item_under s p item ≡ true → IsOwnAt s p item
own_at s p item h =
    let parts = and_parts (is_item_at p item) (is_typed s p item) h in
    let lawful = lawful_at p item parts.0 in
    let own = own_of_typed s p item parts.1 in
    record {
      lawful = lawful;
      carried = and_from (fits p item) (is_in_schema s p item) lawful.fit (typed_in s p item parts.1);
      own = own.at;
      own_item = own.item;
    }

-- items

-- what is put
abbrev pub put : List PathStep → Item → Put
put p item = record { path = p; item = item }

entry_again : (lists : Option (List ServiceList)) (s : SchemaTable) (p : List PathStep) → IsOwnAt s p Entry → is_barred lists p ≡ false → put_of lists s false (path_text p) ≡ Ok (put p Entry)
entry_again lists s p is free =
    let l = is.lawful in
    let some = path_some p in
    let kept = path_kept p l.path l.short in
    let again = path_of_text p l.path in
    let carries = is.carried in
    let own = is.own in
    let own_item = is.own_item in
    let short = l.short in
    ap (item_words lists s false (path_text p)) (cut_alone (path_text p) (word_of_path p l.path))
    ∙ rw some (rw kept (rw again (rw free (rw carries (rw own (rw own_item (rw short refl)))))))

value_again : (v : List ℕ) → is_value v ≡ true → value_of (value_text v) ≡ Some v
value_again v h = (values_are_read (value_text v) v).1 (h, refl)

leaf_found : (lists : Option (List ServiceList)) (s : SchemaTable) (p : List PathStep) (v : List ℕ) → IsOwnAt s p (Leaf v) → is_barred lists p ≡ false
    → leaf_of lists s false (path_text p) (value_text v) ≡ Ok (put p (Leaf v))
leaf_found lists s p v is free =
    let l = is.lawful in
    let some = path_some p in
    let value = lawful_value v l.lawful in
    let kept = path_kept p l.path l.short in
    let reads = value_again v value.value in
    let value_kept : is_past_value (value_of (value_text v)) ≡ false = ap is_past_value reads ∙ value.short in
    let again = path_of_text p l.path in
    let carries : can_carry s p (Leaf []) ≡ true = carries_same s p [] v ∙ is.carried in
    let own = is.own in
    let own_item = is.own_item in
    let short = l.short in
    let fits_too = value.short in
    rw some (rw kept (rw value_kept (rw again (rw free (rw carries (rw reads (rw own (rw own_item (rw short (rw fits_too refl))))))))))

-- a leaf's item is cut into its path and its value
leaf_cut : (p : List PathStep) (v : List ℕ) → is_path p ≡ true → cut_at 32 (item_text p (Leaf v)) ≡ Some (path_text p, 61 ∷ 32 ∷ value_text v)
leaf_cut p v is = ap (cut_at 32) (append_assoc (path_text p) (codes " = ") (value_text v)) ∙ cut_word (path_text p) (61 ∷ 32 ∷ value_text v) (word_of_path p is)

-- an item and where it stands
pub item_again : (lists : Option (List ServiceList)) (s : SchemaTable) (p : List PathStep) (item : Item) → is_item_under s p item ≡ true → is_barred lists p ≡ false
    → put_of lists s false (item_text p item) ≡ Ok (put p item)
item_again lists s p Entry h free = entry_again lists s p (own_at s p Entry h) free
item_again lists s p (Leaf v) h free =
    let is = own_at s p (Leaf v) h in
    ap (item_words lists s false (item_text p (Leaf v))) (leaf_cut p v is.lawful.path) ∙ leaf_found lists s p v is free

-- a leaf, and a text that it may not have
pub forbidden_again : (s : SchemaTable) (p : List PathStep) (v : List ℕ) → is_item_under s p (Leaf v) ≡ true → forbidden_of s false (item_text p (Leaf v)) ≡ Ok (p, v)
unfolding forbidden_of
forbidden_again s p v h =
    let is = own_at s p (Leaf v) h in
    let found = leaf_found None s p v is refl in
    ap (forbidden_words s false) (leaf_cut p v is.lawful.path) ∙ rw found refl

-- paths

-- what is known of a lawful path that can carry an item
pub record IsCarrying (s : SchemaTable) (p : List PathStep) : Type 0 where
  pub lawful : IsLawfulAt p (blank_item p)
  pub carries : can_carry s p (blank_item p) ≡ true
  pub own : (s.plain || are_canonical_steps s [] p) ≡ true

pub carrying : (s : SchemaTable) (p : List PathStep) → is_path_under s p ≡ true → IsCarrying s p
carrying s p h =
    let one = and_parts (is_item_at p (blank_item p)) (is_in_schema s p (blank_item p) && (s.plain || are_canonical_steps s [] p)) h in
    let parts = and_parts (is_in_schema s p (blank_item p)) (s.plain || are_canonical_steps s [] p) one.1 in
    let lawful = lawful_at p (blank_item p) one.0 in
    record { lawful = lawful; carries = and_from (fits p (blank_item p)) (is_in_schema s p (blank_item p)) lawful.fit parts.0; own = parts.1 }

-- one of the data that can carry an item
pub data_path_again : (lists : List ServiceList) (s : SchemaTable) (p : List PathStep) → is_data_path s p ≡ true → is_served lists p ≡ false
    → data_path_of lists s (path_text p) ≡ Ok p
data_path_again lists s p h apart =
    let two = and_parts (is_path_under s p) (not (is_kept p)) h in
    let k = carrying s p two.0 in
    let l = k.lawful in
    let some = path_some p in
    let kept = path_kept p l.path l.short in
    let again = path_of_text p l.path in
    let free = or_from (is_kept p) (is_served lists p) (untrue (is_kept p) two.1) apart in
    let carries = k.carries in
    let own = path_own s p k.own in
    rw some (rw kept (rw again (rw free (rw carries (rw own (rw h refl))))))

-- the entry of a service
pub service_path_again : (lists : List ServiceList) (s : SchemaTable) (p : List PathStep) → is_data_path s p ≡ true → is_some (list_with lists p) ≡ true
    → service_path_of lists s (path_text p) ≡ Ok p
service_path_again lists s p h listed =
    let two = and_parts (is_path_under s p) (not (is_kept p)) h in
    let k = carrying s p two.0 in
    let l = k.lawful in
    let some = path_some p in
    let kept = path_kept p l.path l.short in
    let again = path_of_text p l.path in
    let carries = k.carries in
    let names : names_service lists s p ≡ true =
    and_from (is_some (list_with lists p)) (not (is_kept p) && can_carry s p (blank_item p)) listed (and_from (not (is_kept p)) (can_carry s p (blank_item p)) two.1 carries) in
    let at : is_service_at lists s p ≡ true = and_from (is_data_path s p) (is_some (list_with lists p)) h listed in
    let own = path_own s p k.own in
    rw some (rw kept (rw again (rw names (rw own (rw at refl)))))

-- one of a list
pub list_path_again : (s : SchemaTable) (p : List PathStep) → is_list_path s p ≡ true → list_path_of s false (path_text p) ≡ Ok p
list_path_again s p h =
    let stands = stand s [] (take (length p - 1) p) in
    let steps = are_canonical_steps s [] p in
    let entries = has_entries (node_at s (path_names p)) in
    let four = and_parts (is_path p && not (is_long_path p) && nat_lt 0 (length p) && not (ends_in_keys p)) (s.plain || (stands && (steps && entries))) h in
    let three = and_parts (is_path p && not (is_long_path p) && nat_lt 0 (length p)) (not (ends_in_keys p)) four.0 in
    let two = and_parts (is_path p && not (is_long_path p)) (nat_lt 0 (length p)) three.0 in
    let one = and_parts (is_path p) (not (is_long_path p)) two.0 in
    let some = path_some p in
    let kept = path_kept p one.0 (untrue (is_long_path p) one.1) in
    let again = path_of_text p one.0 in
    let parts = of_list s.plain stands steps entries four.1 in
    let names : names_list s p ≡ true =
    and_from (nat_lt 0 (length p) && not (ends_in_keys p)) (s.plain || (stands && entries)) (and_from (nat_lt 0 (length p)) (not (ends_in_keys p)) two.1 three.1) parts.0 in
    let own = path_own s p parts.1 in
    rw some (rw kept (rw again (rw names (rw own (rw h refl))))) where
      of_list : (plain stands steps entries : Bool) → (plain || (stands && (steps && entries))) ≡ true → ((plain || (stands && entries)) ≡ true) × ((plain || steps) ≡ true)
      of_list true stands steps entries h = (refl, refl)
      of_list false stands steps entries h =
          let one = and_parts stands (steps && entries) h in
          let two = and_parts steps entries one.1 in
          (and_from stands entries one.0 two.1, two.0)

-- a word that is there alone
word_alone : (w : List ℕ) → IsWord w → nat_eq (length w) 0 ≡ false → is_no_word w ≡ false
word_alone w is some = or_from (nat_eq (length w) 0) (is_some (cut_at 32 w)) some (ap (λ (o : Option (List ℕ × List ℕ)). is_some o) (cut_alone w is))

-- one of a device that can carry an item
pub base_path_again : (s : SchemaTable) (p : List PathStep) → is_path_under s p ≡ true → base_path_of s false (path_text p) ≡ Ok p
base_path_again s p h =
    let k = carrying s p h in
    let l = k.lawful in
    let alone = word_alone (path_text p) (word_of_path p l.path) (path_some p) in
    let kept = path_kept p l.path l.short in
    let again = path_of_text p l.path in
    let carries = k.carries in
    let own = path_own s p k.own in
    rw alone (rw kept (rw again (rw carries (rw own (rw h refl)))))

-- what is known of a path of a schema
pub record IsNode (s : SchemaTable) (p : List PathStep) : Type 0 where
  pub path : is_path p ≡ true
  pub short : is_long_path p ≡ false
  pub names : names_node s p ≡ true
  pub own : (s.plain || are_canonical_steps s [] p) ≡ true

pub node_known : (s : SchemaTable) (p : List PathStep) → is_node_path s p ≡ true → IsNode s p
node_known s p h =
    let stands = stand s [] p || names_list s p in
    let two = and_parts (is_path p && not (is_long_path p)) (s.plain || (stands && are_canonical_steps s [] p)) h in
    let one = and_parts (is_path p) (not (is_long_path p)) two.0 in
    let parts = of_node s.plain stands (are_canonical_steps s [] p) two.1 in
    record { path = one.0; short = untrue (is_long_path p) one.1; names = parts.0; own = parts.1 } where
      of_node : (plain stands steps : Bool) → (plain || (stands && steps)) ≡ true → ((plain || stands) ≡ true) × ((plain || steps) ≡ true)
      of_node true stands steps h = (refl, refl)
      of_node false stands steps h = and_parts stands steps h

-- any one of a device
pub node_path_again : (s : SchemaTable) (p : List PathStep) → is_node_path s p ≡ true → node_path_of s false (path_text p) ≡ Ok p
node_path_again s p h =
    let k = node_known s p h in
    let alone = word_alone (path_text p) (word_of_path p k.path) (path_some p) in
    let kept = path_kept p k.path k.short in
    let again = path_of_text p k.path in
    let names = k.names in
    let own = path_own s p k.own in
    rw alone (rw kept (rw again (rw names (rw own (rw h refl)))))
