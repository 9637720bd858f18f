-- What an expansion writes on a device is a configuration of items that may be written under its schema.
use Rattle.std.proofs.Common.{◌≡◌, ℕ, ℤ, zero, suc, ◌+◌, ◌<◌, Bool, true, false, cond, not, ◌&&◌, ◌||◌, nat_eq, List, [], ◌∷◌, ◌++◌, ◌⊎◌, inl, inr, length, map, Option, Some, None, Result, Ok, Err, codes, is_some, slice_get, slice_set, refl, sym, ap, subst, ◌∙◌, arith, append_assoc, append-nil}
use Rattle.std.specs.Prelude.{option_map, is_none}
use Rattle.std.specs.Option.{option_map_or, option_and_then, unwrap_or}
use Rattle.std.specs.List.{list_all}
use Rattle.std.specs.Cmp.{first_so, second_so}
use Rattle.std.specs.FinMap.{empty, get as get_item}
use Rattle.std.proofs.lemmas.Bool.{and_from, eq-eqb}
use Rattle.std.proofs.lemmas.List.{map-append, length-map, length-set}
use Rattle.std.proofs.lemmas.List.Folds.{list_all-append}
use Rattle.std.proofs.lemmas.Option.{same_Some, slice_get-map}
use Rattle.serde_json.specs.Data.{Data, null, boolean, number, string, array, object, Items, no_items, item, Members, no_members, member}
use Rattle.serde_json.specs.Find.{get, as_str, as_bool, as_number, as_array, as_integer}
use Rattle.orc_path.specs.Alphabet.{is_key, is_value}
use Rattle.orc_path.specs.Configurations.{Config, put_item}
use Rattle.orc_path.specs.Items.{fits}
use Rattle.orc_path.specs.Limits.{is_long_path, is_long_value}
use Rattle.orc_path.specs.Steps.{PathStep, is_first_step, is_later_step, is_name_behind, is_path}
use Rattle.orc_path.specs.Views.{Viewed}
use Rattle.orc_path.specs.declared.item.Item.{Item}
use Rattle.orc_path.specs.declared.item.Item.TheVariants.{Entry, Leaf}
use Rattle.orc_value.specs.Canon.{canon_of, is_canonical}
use Rattle.orc_value.specs.Integers.{has_integer, int_text}
use Rattle.orc_value.specs.Json.{canon_of_json, canon_of_string, canon_of_integer, canon_of_boolean, canon_of_items}
use Rattle.orc_value.specs.declared.kind.Kind.{Kind}
use Rattle.orc_value.specs.declared.kind.Kind.TheVariants as kind
use Rattle.orc_value.specs.declared.kind.IntKind.{IntKind}
use Rattle.orc_value.proofs.CanonLaws.{number_of, int_text_canonical, canon_of-again, is_canonical-Decides}
use Rattle.orc_expr.specs.Expressions.{Expression}
use Rattle.orc_expr.specs.Looks.{nodes_of}
use Rattle.orc_expr.specs.declared.read.Read.{Read}
use Rattle.orc_schema_nodes.specs.Schemas.{SchemaTable, kind_in, kind_at_path, node_at, path_names}
use Rattle.orc_schema_nodes.specs.declared.line.Node.{Node}
use Rattle.orc_schema_nodes.specs.declared.line.Node.TheVariants as node
use Rattle.orc_schema_nodes.specs.declared.line.ListNode.{ListNode}
use Rattle.orc_schema_nodes.specs.declared.line.LeafNode.{LeafNode}
use Rattle.orc_schema_nodes.specs.declared.line.ValueListNode.{ValueListNode}
use Rattle.orc_typed.specs.Typed.{are_canonical_keys, are_canonical_steps, carries, has_canonical_keys, is_canonical_text, is_canonical_value, is_carried, is_typed, kind_of_names, stand, stands_at, step_kinds}
use Rattle.orc_typed.proofs.Steps.{each_step-push}
use Rattle.orc_json.specs.Findings.{below, node_below, is_key_name, key_kind}
use Rattle.orc_template.specs.Readers.{Readers}
use Rattle.orc_template.specs.Values.{Scene, Done, done, then_by, string_done, fitted, lexical, value_done, key_value, key_done, more_keys, keys_done}
use Rattle.orc_template.specs.Writing.{Ended, ends, go_on, with_value, differs_from, write_at, bad_leaf, leaf_written, leaf_done, entry_value_done, values_done, leaf_list_done, node_done, entry_written, member_done, object_done, members_done, list_done, entries_done, entry_done}
use Rattle.orc_template.specs.Devices.{DeviceTable, device_of, schema_of_device}
use Rattle.orc_template.specs.Blocks.{Blocks, no_block, block, block_count, blocks_inside, text_of_member}
use Rattle.orc_template.specs.Expansions.{Expanding, Failed, fails, go_further, Ground, scene_at, when_done, put_written, on_tree, on_schema, on_device, on_name, target_by, target_done, met_by, node_expanded, nodes_expanded, found_expanded, each_expanded, block_expanded, blocks_expanded, nothing_written, expanded}
use Rattle.orc_template.specs.Laws.{IsConfigUnder, AreDeviceTrees, WrittenIsTyped, is_short_value}
use Rattle.orc_template.specs.declared.fault.TheConstants.{BAD_LEAF, SELF_CLASH}
use Rattle.orc_template.specs.declared.writing.Writing.{Writing}
use Rattle.orc_template.proofs.Entries.{keyed_fits}
use Rattle.orc_json.proofs.Found.{entry_fits, leaf_fits}
use Rattle.orc_template.proofs.TypedPuts.{nothing_written as nothing_yet, put_written as put_more}

-- Values --------------------------------------------------------------------------------------------------------------

-- the canonical text of a JSON value is its own canonical text
string_again : (k : Kind) (o : Option (List ℕ)) (t : List ℕ) → canon_of_string k o ≡ Ok t → canon_of k t ≡ Ok t
string_again k None t h = let never : ⊥ = cc in absurd never
string_again k (Some text) t h = canon_of-again k text t h

integer_again : (k : IntKind) (o : Option ℤ) (t : List ℕ) → canon_of_integer k o ≡ Ok t → canon_of (kind.Int k) t ≡ Ok t
integer_again k None t h = let never : ⊥ = cc in absurd never
integer_again k (Some z) t h =
    let found = number_of int_text (has_integer k) (Some z) t h in
    int_text_canonical k found.0 t found.2 found.3

boolean_again : (o : Option Bool) (t : List ℕ) → canon_of_boolean o ≡ Ok t → canon_of kind.Bool t ≡ Ok t
boolean_again None t h = let never : ⊥ = cc in absurd never
boolean_again (Some true) t h = let same : codes "true" ≡ t = cc in subst (λ (x : List ℕ). canon_of kind.Bool x ≡ Ok x) same refl
boolean_again (Some false) t h = let same : codes "false" ≡ t = cc in subst (λ (x : List ℕ). canon_of kind.Bool x ≡ Ok x) same refl

items_again : (o : Option Items) (t : List ℕ) → canon_of_items o ≡ Ok t → canon_of kind.Empty t ≡ Ok t
items_again (Some (item null no_items)) t h = let same : [] ≡ t = cc in subst (λ (x : List ℕ). canon_of kind.Empty x ≡ Ok x) same refl
items_again other t h = let never : ⊥ = cc in absurd never

json_again : (k : Kind) (d : Data) (t : List ℕ) → canon_of_json k d ≡ Ok t → canon_of k t ≡ Ok t
json_again (kind.Int k) d t h = on k.quoted h
  where
    on : (quoted : Bool) → cond quoted (canon_of_string (kind.Int k) (as_str d)) (canon_of_integer k (option_and_then as_integer (as_number d))) ≡ Ok t → canon_of (kind.Int k) t ≡ Ok t
    on true h = string_again (kind.Int k) (as_str d) t h
    on false h = integer_again k (option_and_then as_integer (as_number d)) t h
json_again (kind.Decimal n) d t h = string_again (kind.Decimal n) (as_str d) t h
json_again (kind.Str lengths) d t h = string_again (kind.Str lengths) (as_str d) t h
json_again kind.Bool d t h = boolean_again (as_bool d) t h
json_again (kind.Enum names) d t h = string_again (kind.Enum names) (as_str d) t h
json_again kind.Empty d t h = items_again (as_array d) t h

-- a text is canonical, may be a key, and is within the limit
abbrev IsOne : Kind → List ℕ → Type 0
IsOne k text = (canon_of k text ≡ Ok text) × (is_key text ≡ true) × (is_long_value text ≡ false)

fitted_one : (r : Result (List ℕ) ℕ) (t : List ℕ) → fitted r ≡ Ok t → (r ≡ Ok t) × (is_key t ≡ true) × (is_long_value t ≡ false)
fitted_one (Ok text) t h =
    let found = on (is_key text) (is_long_value text) refl refl h in
    (ap Ok found.0, subst (λ (x : List ℕ). is_key x ≡ true) found.0 found.1, subst (λ (x : List ℕ). is_long_value x ≡ false) found.0 found.2)
  where
    on : (key long : Bool) → is_key text ≡ key → is_long_value text ≡ long → cond (key && not long) (Ok text) (Err BAD_LEAF) ≡ Ok t
        → (text ≡ t) × (is_key text ≡ true) × (is_long_value text ≡ false)
    on true false is short h = let same : text ≡ t = cc in (same, is, short)
    on true true is long h = let never : ⊥ = cc in absurd never
    on false long is at h = let never : ⊥ = cc in absurd never
fitted_one (Err rule) t h = let never : ⊥ = cc in absurd never

lexical_one : (k : Kind) (text t : List ℕ) → lexical k text ≡ Ok t → IsOne k t
lexical_one k text t h = on (is_long_value text) h
  where
    on : (long : Bool) → cond long (Err BAD_LEAF) (fitted (canon_of k text)) ≡ Ok t → IsOne k t
    on true h = let never : ⊥ = cc in absurd never
    on false h = let found = fitted_one (canon_of k text) t h in (canon_of-again k text t found.0, found.1, found.2)

plain_one : (k : Kind) (d : Data) (t : List ℕ) → fitted (canon_of_json k d) ≡ Ok t → IsOne k t
plain_one k d t h = let found = fitted_one (canon_of_json k d) t h in (json_again k d t found.0, found.1, found.2)

-- what was done before gave something
then_value : {X Y : Type 0} (v : Result X ℕ) (reads : List Read) (more : X → List Read → Done Y) (y : Y) → (then_by v reads more).value ≡ Ok y
    → (x : X) × (v ≡ Ok x) × ((more x reads).value ≡ Ok y)
then_value (Ok x) reads more y h = (x, refl, h)
then_value (Err rule) reads more y h = let never : ⊥ = cc in absurd never

value_one : (scene : Scene) (k : Kind) (d : Data) (reads : List Read) (t : List ℕ) → (value_done scene k d reads).value ≡ Ok t → IsOne k t
value_one scene k null reads t h = plain_one k null t h
value_one scene k (boolean b) reads t h = plain_one k (boolean b) t h
value_one scene k (number n) reads t h = plain_one k (number n) t h
value_one scene k (string x) reads t h =
    let found = then_value (string_done scene x reads).value (string_done scene x reads).reads (λ text. done (lexical k text)) t h in
    lexical_one k found.0 t found.2
value_one scene k (array ds) reads t h = plain_one k (array ds) t h
value_one scene k (object ms) reads t h = plain_one k (object ms) t h

canonical : (k : Kind) (t : List ℕ) → canon_of k t ≡ Ok t → is_canonical k t ≡ true
canonical k t h = (is_canonical-Decides k t).1 h

-- Keys of an entry ----------------------------------------------------------------------------------------------------

key_one : (scene : Scene) (k : Option Kind) (value : Option Data) (reads : List Read) (t : List ℕ) → (key_value scene k value reads).value ≡ Ok t
    → (is_canonical_text k t ≡ true) × (is_key t ≡ true)
key_one scene None value reads t h = let never : ⊥ = cc in absurd never
key_one scene (Some k) None reads t h = let never : ⊥ = cc in absurd never
key_one scene (Some k) (Some value) reads t h = let one = value_one scene k value reads t h in (canonical k t one.0, one.1)

-- the texts of the keys of an entry, as many as there are keys
record AreKeys (s : SchemaTable) (names keys texts : List (List ℕ)) : Type 0 where
  count : length texts ≡ length keys
  canonical : are_canonical_keys (map (λ key. kind_of_names s (names ++ key ∷ [])) keys) texts ≡ true
  plain : list_all is_key texts ≡ true

module _ (s : SchemaTable) (scene : Scene) where
  more_are_keys : (names : List (List ℕ)) (entry : Data) (front keys : List (List ℕ)) (reads : List Read) (texts : List (List ℕ))
      → (more_keys scene s names entry front keys reads).value ≡ Ok texts → (rest : List (List ℕ)) × (texts ≡ front ++ rest) × AreKeys s names keys rest
  more_are_keys names entry front [] reads texts h =
      let same : front ≡ texts = cc in ([], sym same ∙ sym (append-nil front), record { count = refl; canonical = refl; plain = refl })
  more_are_keys names entry front (key ∷ later) reads texts h =
      let one = key_done scene s names entry key reads in
      let found = then_value one.value one.reads (λ text. more_keys scene s names entry (front ++ text ∷ []) later) texts h in
      let key_is = key_one scene (key_kind s names key) (get key entry) reads found.0 found.1 in
      let rest = more_are_keys names entry (front ++ found.0 ∷ []) later one.reads texts found.2 in (
        found.0 ∷ rest.0,
        rest.1 ∙ append_assoc front (found.0 ∷ []) rest.0,
        record {
          count = ap suc rest.2.count;
          canonical = and_from _ _ key_is.0 rest.2.canonical;
          plain = and_from _ _ key_is.1 rest.2.plain;
        },
      )

  keys_are : (names : List (List ℕ)) (entry : Data) (keys : List (List ℕ)) (reads : List Read) (texts : List (List ℕ))
      → (keys_done scene s names entry keys reads).value ≡ Ok texts → AreKeys s names keys texts × (0 < length texts)
  keys_are names entry [] reads texts h = let never : ⊥ = cc in absurd never
  keys_are names entry (key ∷ later) reads texts h =
      let found = more_are_keys names entry [] (key ∷ later) reads texts h in
      let are : AreKeys s names (key ∷ later) texts = subst (AreKeys s names (key ∷ later)) (sym found.1) found.2 in
      let some : length texts ≡ length (key ∷ later) = are.count in
      (are, omega (arith, some))

-- Places --------------------------------------------------------------------------------------------------------------

-- what is below these steps may stand in a configuration, as far as they go
record Stands (s : SchemaTable) (at : List PathStep) : Type 0 where
  steps : stand s [] at ≡ true
  keys : are_canonical_steps s [] at ≡ true
  path : is_path at ≡ true

root_stands : (s : SchemaTable) → Stands s []
root_stands s = record { steps = refl; keys = refl; path = refl }

names_at : (at : List PathStep) (name : List ℕ) (keys : List (List ℕ)) → path_names (below at name keys) ≡ path_names at ++ name ∷ []
names_at at name keys = map-append (λ (step : PathStep). step.node) at _

path_behind : (at : List PathStep) (step : PathStep) → is_path at ≡ true → is_name_behind at step.node ≡ true → list_all is_key step.keys ≡ true → is_path (at ++ step ∷ []) ≡ true
path_behind [] step h named keys = and_from _ _ (and_from _ _ named keys) refl
path_behind (first ∷ later) step h named keys =
    and_from _ _ (first_so (is_first_step first) (list_all is_later_step later) h)
    (list_all-append is_later_step later (step ∷ []) ∙ and_from _ _ (second_so (is_first_step first) (list_all is_later_step later) h) (and_from _ _ (and_from _ _ named keys) refl))

typed_from : (plain a b c d : Bool) → a ≡ true → b ≡ true → c ≡ true → d ≡ true → (plain || ((plain || (a && b)) && (c && d))) ≡ true
typed_from true a b c d h k l m = refl
typed_from false a b c d h k l m = and_from (a && b) (c && d) (and_from a b h k) (and_from c d l m)

no_key : {X : Type 0} (o : Option X) → is_some o ≡ false → is_none o ≡ true
no_key None h = refl
no_key (Some x) h = let never : ⊥ = cc in absurd never

module _ (s : SchemaTable) where
  -- a step after others, of a node with these keys
  module _ (at : List PathStep) (name : List ℕ) (keys : List (List ℕ)) (n : Node) (is : node_below s at name ≡ Some n) where
    abbrev kinds : List (Option Kind)
    kinds = step_kinds s (path_names at ++ name ∷ []) n

    below_stands : Stands s at → is_name_behind at name ≡ true → length keys ≡ length kinds → are_canonical_keys kinds keys ≡ true → list_all is_key keys ≡ true
        → Stands s (below at name keys)
    below_stands above named count are plain =
        let step : PathStep = record { node = name; keys = keys } in
        let names = path_names at ++ name ∷ [] in record {
          steps = each_step-push (stands_at s) [] at step ∙ and_from _ _ above.steps
              (ap (λ ns. stands_at s ns step) (names_at at name keys)
              ∙ ap (λ (o : Option Node). is_some o && nat_eq (length keys) (length (option_map_or (step_kinds s names) o []))) is ∙ eq-eqb (length keys) (length kinds) count);
          keys = each_step-push (has_canonical_keys s) [] at step ∙ and_from _ _ above.keys
              (ap (λ ns. has_canonical_keys s ns step) (names_at at name keys)
              ∙ ap (λ (o : Option Node). are_canonical_keys (option_map_or (step_kinds s names) o []) keys) is ∙ are);
          path = path_behind at step above.path named plain;
        }

    carried : (it : Item) → carries n it ≡ true → is_carried s (below at name keys) it ≡ true
    carried it h = on at is (names_at at name keys)
      where
        on : (above : List PathStep) → node_below s above name ≡ Some n → path_names (below above name keys) ≡ path_names above ++ name ∷ [] → is_carried s (below above name keys) it ≡ true
        on [] found names = ap (λ (o : Option Node). option_map_or (λ x. carries x it) o false) found ∙ h
        on (first ∷ later) found names =
            ap (λ ns. option_map_or (λ x. carries x it) (node_at s ns) false) names ∙ ap (λ (o : Option Node). option_map_or (λ x. carries x it) o false) found ∙ h

    typed_below : (it : Item) → Stands s (below at name keys) → carries n it ≡ true → is_canonical_value (kind_at_path s (below at name keys)) it ≡ true → is_typed s (below at name keys) it ≡ true
    typed_below it stands h value =
        typed_from s.plain (stand s [] (below at name keys)) (is_carried s (below at name keys) it) (are_canonical_steps s [] (below at name keys)) (is_canonical_value (kind_at_path s (below at name keys)) it)
        stands.steps (carried it h) stands.keys value

  -- Items -------------------------------------------------------------------------------------------------------------

  abbrev Good : Result Writing Ended → Type 0
  Good (Ok w) = IsConfigUnder s w.tree
  Good (Err ended) = Unit {0}

  abbrev Step : Type 0
  Step = Writing → Result Writing Ended

  abbrev StepGood : Step → Type 0
  StepGood f = (w : Writing) → IsConfigUnder s w.tree → Good (f w)

  goes_on : (p : Result Writing Ended) (f : Step) → Good p → StepGood f → Good (go_on p f)
  goes_on (Ok w) f h g = g w h
  goes_on (Err ended) f h g = tt

  with_good : {X : Type 0} (P : X → Type 0) (v : Result X ℕ) (reads : List Read) (tree : Config) (more : X → Step) → ((x : X) → v ≡ Ok x → P x) → ((x : X) → P x → StepGood (more x))
      → IsConfigUnder s tree → Good (with_value v reads tree more)
  with_good P (Ok x) reads tree more told goes h = goes x (told x refl) (record { tree = tree; reads = record { reads = reads } }) h
  with_good P (Err rule) reads tree more told goes h = tt

  write_good : (path : List PathStep) (it : Item) → is_path path ≡ true → fits path it ≡ true → is_typed s path it ≡ true → is_short_value it ≡ true → StepGood (write_at path it)
  write_good path it is_one fit here value w c = on (is_long_path path) (differs_from (get_item w.tree path) it) refl
    where
      on : (long other : Bool) → is_long_path path ≡ long → Good (cond long (ends BAD_LEAF w.reads.reads) (cond other (ends SELF_CLASH w.reads.reads) (Ok (record w { tree = put_item w.tree path it }))))
      on true other is = tt
      on false true is = tt
      on false false is = put_more s w.tree path it c is_one fit (record { short = is; typed = here; value = value })

  module _ (scene : Scene) where
    module _ (at : List PathStep) (name : List ℕ) (above : Stands s at) (named : is_name_behind at name ≡ true) where
      leaf_good : (l : LeafNode) (d : Data) → node_below s at name ≡ Some (node.Leaf l) → StepGood (leaf_done scene l (below at name []) d)
      leaf_good l d is w c = on (is_some l.key) refl
        where
          path : List PathStep
          path = below at name []

          stands : Stands s (below at name [])
          stands = below_stands at name [] (node.Leaf l) is above named refl refl refl

          kind_is : kind_at_path s (below at name []) ≡ Some l.kind
          kind_is = ap (λ ns. option_and_then kind_in (node_at s ns)) (names_at at name []) ∙ ap (option_and_then kind_in) is

          on : (key : Bool) → is_some l.key ≡ key → Good (cond key (bad_leaf w) (leaf_written scene l.kind (below at name []) d w))
          on true key = tt
          on false key =
              with_good (IsOne l.kind) (value_done scene l.kind d w.reads.reads).value (value_done scene l.kind d w.reads.reads).reads w.tree (λ text. write_at (below at name []) (Leaf text))
              (λ text h. value_one scene l.kind d w.reads.reads text h)
              (λ text one. write_good (below at name []) (Leaf text) stands.path (leaf_fits at name text)
              (typed_below at name [] (node.Leaf l) is (Leaf text) stands (no_key l.key key) (ap (λ k. is_canonical_text k text) kind_is ∙ canonical l.kind text one.0))
              (and_from (is_value text) (not (is_long_value text)) one.1 (ap not one.2))) c

      value_good : (l : ValueListNode) (d : Data) → node_below s at name ≡ Some (node.LeafList l) → StepGood (entry_value_done scene l.kind at name d)
      value_good l d is w c =
          with_good (IsOne l.kind) (value_done scene l.kind d w.reads.reads).value (value_done scene l.kind d w.reads.reads).reads w.tree (λ text. write_at (below at name (text ∷ [])) Entry)
          (λ text h. value_one scene l.kind d w.reads.reads text h)
          (λ text one.
          let stands = below_stands at name (text ∷ []) (node.LeafList l) is above named refl (and_from _ _ (canonical l.kind text one.0) refl) (and_from _ _ one.1 refl) in
          write_good (below at name (text ∷ [])) Entry stands.path (entry_fits at name text []) (typed_below at name (text ∷ []) (node.LeafList l) is Entry stands refl refl) refl) c

      values_good : (l : ValueListNode) (ds : Items) → node_below s at name ≡ Some (node.LeafList l) → StepGood (values_done scene l.kind at name ds)
      values_good l no_items is w c = c
      values_good l (item d ds) is w c = goes_on (entry_value_done scene l.kind at name d w) (values_done scene l.kind at name ds) (value_good l d is w c) (values_good l ds is)

      leaf_list_good : (l : ValueListNode) (ds : Option Items) → node_below s at name ≡ Some (node.LeafList l) → StepGood (leaf_list_done scene l.kind at name ds)
      leaf_list_good l (Some ds) is w c = values_good l ds is w c
      leaf_list_good l None is w c = tt

      node_good : (d : Data) (inside : Step) (entries : List (List ℕ) → Step) → (node_below s at name ≡ Some node.Container → StepGood inside)
          → ((l : ListNode) → node_below s at name ≡ Some (node.List l) → StepGood (entries l.keys)) → (n : Option Node) → node_below s at name ≡ n → StepGood (node_done scene at name d inside entries n)
      node_good d inside entries here each None is w c = tt
      node_good d inside entries here each (Some node.Container) is w c = here is w c
      node_good d inside entries here each (Some (node.List l)) is w c = each l is w c
      node_good d inside entries here each (Some (node.Leaf l)) is w c = leaf_good l d is w c
      node_good d inside entries here each (Some (node.LeafList l)) is w c = leaf_list_good l (as_array d) is w c

      list_stands : (l : ListNode) (texts : List (List ℕ)) → node_below s at name ≡ Some (node.List l) → AreKeys s (path_names at ++ name ∷ []) l.keys texts → Stands s (below at name texts)
      list_stands l texts is are =
          below_stands at name texts (node.List l) is above named
          (are.count ∙ sym (length-map l.keys (λ key. kind_of_names s ((path_names at ++ name ∷ []) ++ key ∷ [])))) are.canonical are.plain

      entry_written_good : (l : ListNode) (d : Data) (inside : List PathStep → Step) → node_below s at name ≡ Some (node.List l)
          → ((texts : List (List ℕ)) → AreKeys s (path_names at ++ name ∷ []) l.keys texts → StepGood (inside (below at name texts)))
          → StepGood (entry_written scene s at name l.keys d inside)
      entry_written_good l d inside is same w c =
          let keys = keys_done scene s (path_names at ++ name ∷ []) d l.keys w.reads.reads in
          with_good (λ texts. AreKeys s (path_names at ++ name ∷ []) l.keys texts × (0 < length texts)) keys.value keys.reads w.tree
          (λ texts v. go_on (write_at (below at name texts) Entry v) (inside (below at name texts)))
          (λ texts h. keys_are s scene (path_names at ++ name ∷ []) d l.keys w.reads.reads texts h)
          (λ texts are v typed.
          let stands = list_stands l texts is are.0 in
          goes_on (write_at (below at name texts) Entry v) (inside (below at name texts))
          (write_good (below at name texts) Entry stands.path (keyed_fits at name texts are.1) (typed_below at name texts (node.List l) is Entry stands refl refl) refl v typed) (same texts are.0)) c

    member_good : (keys : List (List ℕ)) (at : List PathStep) (name : List ℕ) (d : Data) (inside : Step) (entries : List (List ℕ) → Step) → Stands s at
        → (is_name_behind at name ≡ true → node_below s at name ≡ Some node.Container → StepGood inside)
        → (is_name_behind at name ≡ true → (l : ListNode) → node_below s at name ≡ Some (node.List l) → StepGood (entries l.keys))
        → StepGood (member_done scene s keys at name d inside entries)
    member_good keys at name d inside entries above here each w c = on (is_key_name keys name) (is_name_behind at name) refl
      where
        on : (key named : Bool) → is_name_behind at name ≡ named → Good (cond key (Ok w) (cond named (node_done scene at name d inside entries (node_below s at name) w) (bad_leaf w)))
        on true named h = c
        on false true h = node_good at name above h d inside entries (here h) (each h) (node_below s at name) refl w c
        on false false h = tt

    mutual
      object_good : (keys : List (List ℕ)) (at : List PathStep) (d : Data) → Stands s at → StepGood (object_done scene s keys at d)
      object_good keys at null above w c = tt
      object_good keys at (boolean b) above w c = tt
      object_good keys at (number n) above w c = tt
      object_good keys at (string t) above w c = tt
      object_good keys at (array ds) above w c = tt
      object_good keys at (object ms) above w c = members_good keys at ms above w c

      members_good : (keys : List (List ℕ)) (at : List PathStep) (ms : Members) → Stands s at → StepGood (members_done scene s keys at ms)
      members_good keys at no_members above w c = c
      members_good keys at (member name d ms) above w c =
          goes_on
          (member_done scene s keys at name d (object_done scene s [] (below at name []) d) (λ names. list_done scene s names at name d) w)
          (members_done scene s keys at ms)
          (member_good keys at name d (object_done scene s [] (below at name []) d) (λ names. list_done scene s names at name d) above
          (λ named is. object_good [] (below at name []) d (below_stands at name [] node.Container is above named refl refl refl))
          (λ named l is. list_good at name l d above named is) w c)
          (members_good keys at ms above)

      list_good : (at : List PathStep) (name : List ℕ) (l : ListNode) (d : Data) → Stands s at → is_name_behind at name ≡ true → node_below s at name ≡ Some (node.List l)
          → StepGood (list_done scene s l.keys at name d)
      list_good at name l null above named is w c = tt
      list_good at name l (boolean b) above named is w c = tt
      list_good at name l (number n) above named is w c = tt
      list_good at name l (string t) above named is w c = tt
      list_good at name l (array ds) above named is w c = entries_good at name l ds above named is w c
      list_good at name l (object ms) above named is w c = tt

      entries_good : (at : List PathStep) (name : List ℕ) (l : ListNode) (ds : Items) → Stands s at → is_name_behind at name ≡ true → node_below s at name ≡ Some (node.List l)
          → StepGood (entries_done scene s l.keys at name ds)
      entries_good at name l no_items above named is w c = c
      entries_good at name l (item d ds) above named is w c =
          goes_on (entry_done scene s l.keys at name d w) (entries_done scene s l.keys at name ds) (entry_good at name l d above named is w c) (entries_good at name l ds above named is)

      entry_good : (at : List PathStep) (name : List ℕ) (l : ListNode) (d : Data) → Stands s at → is_name_behind at name ≡ true → node_below s at name ≡ Some (node.List l)
          → StepGood (entry_done scene s l.keys at name d)
      entry_good at name l null above named is w c = tt
      entry_good at name l (boolean b) above named is w c = tt
      entry_good at name l (number n) above named is w c = tt
      entry_good at name l (string t) above named is w c = tt
      entry_good at name l (array ds) above named is w c = tt
      entry_good at name l (object ms) above named is w c =
          entry_written_good at name above named l (object ms) (λ entry. members_done scene s l.keys entry ms) is
          (λ texts are. members_good l.keys (below at name texts) ms (list_stands at name above named l texts is are)) w c

-- Devices and blocks --------------------------------------------------------------------------------------------------

-- what stands at a place where one was put
get_put : (written : List Config) (n m : ℕ) (tree found : Config) → slice_get (slice_set written n tree) m ≡ Some found → ((m ≡ n) × (tree ≡ found)) ⊎ (slice_get written m ≡ Some found)
get_put [] n m tree found h = inr h
get_put (x ∷ xs) zero zero tree found h = let same : tree ≡ found = cc in inl (refl, same)
get_put (x ∷ xs) zero (suc m) tree found h = inr h
get_put (x ∷ xs) (suc n) zero tree found h = inr h
get_put (x ∷ xs) (suc n) (suc m) tree found h = elim (get_put xs n m tree found h) [
  | inl here ↦ inl (ap suc here.0, here.1)
  | inr away ↦ inr away
]

module _ (devices : DeviceTable) where
  abbrev Trees : List Config → Type 0
  Trees = AreDeviceTrees devices

  put_trees : (written : List Config) (n : ℕ) (tree : Config) (s : SchemaTable) → schema_of_device devices n ≡ Some s → Trees written → IsConfigUnder s tree → Trees (slice_set written n tree)
  put_trees written n tree s is h c = record { one_each = length-set written n tree ∙ h.one_each; written = at_each }
    where
      at_each : (m : ℕ) (found : Config) (t : SchemaTable) → slice_get (slice_set written n tree) m ≡ Some found → schema_of_device devices m ≡ Some t → IsConfigUnder t found
      at_each m found t at of = elim (get_put written n m tree found at) [
        | inl here ↦ subst (λ (x : Config). IsConfigUnder t x) here.1
            (subst (λ (x : SchemaTable). IsConfigUnder x tree) (same_Some s t (sym is ∙ ap (schema_of_device devices) (sym here.0) ∙ of)) c)
        | inr away ↦ h.written m found t away of
      ]

  abbrev EndsGood : Result Expanding Ended → Type 0
  EndsGood (Ok e) = Trees e.written
  EndsGood (Err ended) = Unit {0}

  abbrev AllGood : Result Expanding Failed → Type 0
  AllGood (Ok e) = Trees e.written
  AllGood (Err failed) = Unit {0}

  abbrev Further : Type 0
  Further = Expanding → Result Expanding Failed

  abbrev FurtherGood : Further → Type 0
  FurtherGood f = (e : Expanding) → Trees e.written → AllGood (f e)

  fails_good : (n : ℕ) (r : Result Expanding Ended) → EndsGood r → AllGood (fails n r)
  fails_good n (Ok e) h = h
  fails_good n (Err ended) h = tt

  goes_further : (p : Result Expanding Failed) (f : Further) → AllGood p → FurtherGood f → AllGood (go_further p f)
  goes_further (Ok e) f h g = g e h
  goes_further (Err failed) f h g = tt

  put_good : (n : ℕ) (written : List Config) (s : SchemaTable) (r : Result Writing Ended) → schema_of_device devices n ≡ Some s → Trees written → Good s r → EndsGood (put_written n written r)
  put_good n written s (Ok w) is h c = put_trees written n w.tree s is h c
  put_good n written s (Err ended) is h c = tt

  tree_good : (scene : Scene) (n : ℕ) (config : Data) (s : SchemaTable) (tree : Option Config) (e : Expanding) → schema_of_device devices n ≡ Some s → slice_get e.written n ≡ tree → Trees e.written
      → EndsGood (on_tree scene n config s tree e)
  tree_good scene n config s None e is at h = tt
  tree_good scene n config s (Some tree) e is at h =
      put_good n e.written s (object_done scene s [] [] config (record { tree = tree; reads = record { reads = e.reads } })) is h
      (object_good s scene [] [] config (root_stands s) (record { tree = tree; reads = record { reads = e.reads } }) (h.written n tree s at is))

  schema_good : (scene : Scene) (n : ℕ) (config : Data) (s : Option SchemaTable) (e : Expanding) → schema_of_device devices n ≡ s → Trees e.written
      → EndsGood (on_schema scene n config s (slice_get e.written n) e)
  schema_good scene n config None e is h = tt
  schema_good scene n config (Some s) e is h = on s.plain
    where
      on : (plain : Bool) → EndsGood (cond plain (ends BAD_LEAF e.reads) (on_tree scene n config s (slice_get e.written n) e))
      on true = tt
      on false = tree_good scene n config s (slice_get e.written n) e is refl h

  module _ (readers : Readers) (v : Viewed) where
    abbrev g : Ground
    g = record { readers = readers; view = v; devices = devices }

    device_good : (here : List PathStep) (config : Data) (n : Option ℕ) (e : Expanding) → Trees e.written → EndsGood (on_device g here config n e)
    device_good here config None e h = tt
    device_good here config (Some n) e h = schema_good (scene_at g here) n config (schema_of_device devices n) e refl h

    name_good : (here : List PathStep) (config : Data) (name : Result (List ℕ) ℕ) (e : Expanding) → Trees e.written → EndsGood (on_name g here config name e)
    name_good here config (Ok name) e h = device_good here config (device_of name devices.names) e h
    name_good here config (Err rule) e h = tt

    target_good : (here : List PathStep) (d : Data) (text : Option (List ℕ)) (e : Expanding) → Trees e.written → EndsGood (target_by g here d text e)
    target_good here d None e h = h
    target_good here d (Some text) e h =
        let x = string_done (scene_at g here) text e.reads in
        name_good here (unwrap_or (get (codes "config") d) null) x.value (record { written = e.written; reads = x.reads }) h

    abbrev Inside : Type 0
    Inside = List PathStep → Further

    module _ (n : ℕ) (d : Data) (inside : Inside) (inside_good : (here : List PathStep) → FurtherGood (inside here)) where
      met_good : (here : List PathStep) (met : Result Bool ℕ) (e : Expanding) → Trees e.written → AllGood (met_by g n d inside here met e)
      met_good here (Ok true) e h =
          goes_further (fails n (target_done g here d e)) (inside here) (fails_good n (target_done g here d e) (target_good here d (text_of_member (codes "device") d) e h)) (inside_good here)
      met_good here (Ok false) e h = h
      met_good here (Err rule) e h = tt

      node_at_good : (here : List PathStep) → FurtherGood (node_expanded g n d inside here)
      node_at_good here e h =
          let x = when_done (scene_at g here) d e.reads in
          met_good here x.value (record { written = e.written; reads = x.reads }) h

      nodes_good : (nodes : List (List PathStep)) → FurtherGood (nodes_expanded g n d inside nodes)
      nodes_good [] e h = h
      nodes_good (here ∷ more) e h = goes_further (node_expanded g n d inside here e) (nodes_expanded g n d inside more) (node_at_good here e h) (nodes_good more)

      found_good : (found : Option (List (List PathStep))) → FurtherGood (found_expanded g n d inside found)
      found_good None e h = tt
      found_good (Some nodes) e h = nodes_good nodes e h

      each_good : (here : List PathStep) (each : Option Expression) → FurtherGood (each_expanded g here n d inside each)
      each_good here None e h = node_at_good here e h
      each_good here (Some each) e h =
          let x = nodes_of each here v in
          found_good x.found (record { written = e.written; reads = e.reads ++ x.reads }) h

    blocks_good : (here : List PathStep) (n : ℕ) (blocks : Blocks) → FurtherGood (blocks_expanded g here n blocks)
    blocks_good here n no_block e h = h
    blocks_good here n (block d inner later) e h =
        goes_further (block_expanded g here n d (λ at. blocks_expanded g at (n + 1) inner) e) (blocks_expanded g here (n + 1 + block_count inner) later)
        (each_good n d (λ at. blocks_expanded g at (n + 1) inner) (λ at. blocks_good at (n + 1) inner) here (option_and_then readers.expression (text_of_member (codes "for") d)) e h)
        (blocks_good here (n + 1 + block_count inner) later)

  -- nothing is written yet
  nothing_at : (o : Option (List ℕ)) (tree : Config) (s : SchemaTable) → option_map (λ (name : List ℕ). empty) o ≡ Some tree → IsConfigUnder s tree
  nothing_at None tree s h = let never : ⊥ = cc in absurd never
  nothing_at (Some name) tree s h = let same : empty ≡ tree = cc in subst (λ (x : Config). IsConfigUnder s x) same (nothing_yet s)

  nothing_good : Trees (nothing_written devices).written
  nothing_good = record {
    one_each = length-map devices.names (λ name. empty);
    written = λ n tree s at is. nothing_at (slice_get devices.names n) tree s (sym (slice_get-map (λ (name : List ℕ). empty) devices.names n) ∙ at);
  }

-- the trees of a whole expansion
told_good : (devices : DeviceTable) (r : Result Expanding Failed) (e : Expanding) → AllGood devices r → r ≡ Ok e → AreDeviceTrees devices e.written
told_good devices (Ok made) e h is = let same : made ≡ e = cc in subst (λ (x : Expanding). AreDeviceTrees devices x.written) same h
told_good devices (Err failed) e h is = let never : ⊥ = cc in absurd never

pub written_typed : WrittenIsTyped
written_typed readers devices instance template view e is =
    told_good devices (expanded readers devices instance template view) e
    (blocks_good devices readers view instance 1 (blocks_inside template) (nothing_written devices) (nothing_good devices)) is
