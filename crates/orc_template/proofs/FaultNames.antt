-- A rule that ends an expansion is one of the five, and the block one of the template's.
use Rattle.std.proofs.Common.{◌≡◌, ℕ, ◌+◌, ◌<◌, ◌≤◌, Bool, true, false, cond, not, ◌&&◌, List, [], ◌∷◌, ◌++◌, Option, Some, None, Result, Ok, Err, codes, is_some, slice_get, subst, arith}
use Rattle.std.specs.Option.{option_and_then, unwrap_or}
use Rattle.std.specs.FinMap.{get as get_item}
use Rattle.serde_json.specs.Data.{Data, null, boolean, number, string, array, object, Items, no_items, item, Members, no_members, member}
use Rattle.serde_json.specs.Find.{get, as_array}
use Rattle.orc_path.specs.Alphabet.{is_key}
use Rattle.orc_path.specs.Configurations.{Config, put_item}
use Rattle.orc_path.specs.Limits.{is_long_path, is_long_value}
use Rattle.orc_path.specs.Steps.{PathStep, is_name_behind}
use Rattle.orc_path.specs.declared.item.Item.{Item}
use Rattle.orc_path.specs.declared.item.Item.TheVariants.{Entry, Leaf}
use Rattle.orc_value.specs.Canon.{canon_of}
use Rattle.orc_value.specs.Json.{canon_of_json}
use Rattle.orc_value.specs.declared.kind.Kind.{Kind}
use Rattle.orc_expr.specs.Expressions.{Expression, Condition}
use Rattle.orc_expr.specs.Looks.{nodes_of, texts_of, judged}
use Rattle.orc_expr.specs.declared.read.Read.{Read}
use Rattle.orc_schema_nodes.specs.Schemas.{SchemaTable, path_names}
use Rattle.orc_schema_nodes.specs.declared.line.Node.{Node}
use Rattle.orc_schema_nodes.specs.declared.line.Node.TheVariants as node
use Rattle.orc_schema_nodes.specs.declared.line.LeafNode.{LeafNode}
use Rattle.orc_json.specs.Findings.{below, node_below, is_key_name, key_kind}
use Rattle.orc_template.specs.Strings.{cut_parts}
use Rattle.orc_template.specs.Values.{Scene, Done, done, then_by, one_found, expression_done, part_done, parts_done, string_by, string_done, fitted, lexical, value_done, key_value, key_done, more_keys, keys_done}
use Rattle.orc_template.specs.Writing.{Ended, ends, go_on, with_value, differs_from, write_at, bad_leaf, leaf_written, leaf_done, entry_value_done, values_done, leaf_list_done, node_done, entry_written, member_done, object_done, members_done, list_done, entries_done, entry_done}
use Rattle.orc_template.specs.Devices.{device_of, schema_of_device}
use Rattle.orc_template.specs.Blocks.{Blocks, no_block, block, block_count, blocks_inside, text_of_member}
use Rattle.orc_template.specs.Expansions.{Expanding, Failed, fails, go_further, Ground, scene_at, told, condition_done, when_done, put_written, on_tree, on_schema, on_device, on_name, target_by, target_done, met_by, node_expanded, nodes_expanded, found_expanded, each_expanded, block_expanded, blocks_expanded, nothing_written, expanded}
use Rattle.orc_template.specs.Laws.{IsFaultIn, FaultsAreNamed}
use Rattle.orc_template.specs.declared.strings.Part.{Part}
use Rattle.orc_template.specs.declared.strings.Part.TheVariants.{Written, Braced}
use Rattle.orc_template.specs.declared.fault.TheConstants.{NO_VALUE, MANY_VALUES, UNKNOWN_DEVICE, BAD_LEAF, SELF_CLASH}
use Rattle.orc_template.specs.declared.writing.Writing.{Writing}

abbrev IsRule : ℕ → Type 0
IsRule rule = (1 ≤ rule) × (rule ≤ 5)

no_value : IsRule NO_VALUE
no_value = (omega arith, omega arith)

many_values : IsRule MANY_VALUES
many_values = (omega arith, omega arith)

unknown_device : IsRule UNKNOWN_DEVICE
unknown_device = (omega arith, omega arith)

bad : IsRule BAD_LEAF
bad = (omega arith, omega arith)

self_clash : IsRule SELF_CLASH
self_clash = (omega arith, omega arith)

-- Values --------------------------------------------------------------------------------------------------------------

abbrev Ruled : {X : Type 0} → Result X ℕ → Type 0
Ruled (Ok x) = Unit {0}
Ruled (Err rule) = IsRule rule

then_ruled : {X Y : Type 0} (v : Result X ℕ) (reads : List Read) (more : X → List Read → Done Y) → Ruled v → ((x : X) (rs : List Read) → Ruled (more x rs).value) → Ruled (then_by v reads more).value
then_ruled (Ok x) reads more h k = k x reads
then_ruled (Err rule) reads more h k = h

one_ruled : (found : Option (List (List ℕ))) → Ruled (one_found found)
one_ruled None = many_values
one_ruled (Some []) = no_value
one_ruled (Some (text ∷ [])) = tt
one_ruled (Some (text ∷ other ∷ more)) = many_values

told_ruled : (o : Option Bool) → Ruled (told o)
told_ruled None = many_values
told_ruled (Some met) = tt

fitted_ruled : (r : Result (List ℕ) ℕ) → Ruled (fitted r)
fitted_ruled (Ok text) = on (is_key text && not (is_long_value text))
  where
    on : (t : Bool) → Ruled (cond t (Ok text) (Err BAD_LEAF))
    on true = tt
    on false = bad
fitted_ruled (Err rule) = bad

lexical_ruled : (k : Kind) (text : List ℕ) → Ruled (lexical k text)
lexical_ruled k text = on (is_long_value text)
  where
    on : (t : Bool) → Ruled (cond t (Err BAD_LEAF) (fitted (canon_of k text)))
    on true = bad
    on false = fitted_ruled (canon_of k text)

module _ (scene : Scene) where
  expression_ruled : (e : Option Expression) (reads : List Read) → Ruled (expression_done scene e reads).value
  expression_ruled None reads = no_value
  expression_ruled (Some e) reads = one_ruled (texts_of e scene.here scene.view).found

  part_ruled : (part : Part) (reads : List Read) → Ruled (part_done scene part reads).value
  part_ruled (Written text) reads = tt
  part_ruled (Braced text) reads = expression_ruled (scene.readers.expression text) reads

  parts_ruled : (parts : List Part) (front : List ℕ) (reads : List Read) → Ruled (parts_done scene front parts reads).value
  parts_ruled [] front reads = tt
  parts_ruled (part ∷ later) front reads =
      then_ruled (part_done scene part reads).value (part_done scene part reads).reads (λ text. parts_done scene (front ++ text) later) (part_ruled part reads) (λ text rs. parts_ruled later (front ++ text) rs)

  string_by_ruled : (parts : Option (List Part)) (reads : List Read) → Ruled (string_by scene parts reads).value
  string_by_ruled None reads = no_value
  string_by_ruled (Some parts) reads = parts_ruled parts [] reads

  string_ruled : (text : List ℕ) (reads : List Read) → Ruled (string_done scene text reads).value
  string_ruled text reads = string_by_ruled (cut_parts text) reads

  value_ruled : (k : Kind) (d : Data) (reads : List Read) → Ruled (value_done scene k d reads).value
  value_ruled k null reads = fitted_ruled (canon_of_json k null)
  value_ruled k (boolean b) reads = fitted_ruled (canon_of_json k (boolean b))
  value_ruled k (number n) reads = fitted_ruled (canon_of_json k (number n))
  value_ruled k (string t) reads =
      then_ruled (string_done scene t reads).value (string_done scene t reads).reads (λ text. done (lexical k text)) (string_ruled t reads) (λ text rs. lexical_ruled k text)
  value_ruled k (array ds) reads = fitted_ruled (canon_of_json k (array ds))
  value_ruled k (object ms) reads = fitted_ruled (canon_of_json k (object ms))

  key_value_ruled : (k : Option Kind) (d : Option Data) (reads : List Read) → Ruled (key_value scene k d reads).value
  key_value_ruled None d reads = bad
  key_value_ruled (Some k) None reads = bad
  key_value_ruled (Some k) (Some d) reads = value_ruled k d reads

  module _ (s : SchemaTable) (names : List (List ℕ)) (entry : Data) where
    key_ruled : (key : List ℕ) (reads : List Read) → Ruled (key_done scene s names entry key reads).value
    key_ruled key reads = key_value_ruled (key_kind s names key) (get key entry) reads

    more_ruled : (keys : List (List ℕ)) (front : List (List ℕ)) (reads : List Read) → Ruled (more_keys scene s names entry front keys reads).value
    more_ruled [] front reads = tt
    more_ruled (key ∷ later) front reads =
        then_ruled (key_done scene s names entry key reads).value (key_done scene s names entry key reads).reads (λ text. more_keys scene s names entry (front ++ text ∷ []) later)
        (key_ruled key reads) (λ text rs. more_ruled later (front ++ text ∷ []) rs)

    keys_ruled : (keys : List (List ℕ)) (reads : List Read) → Ruled (keys_done scene s names entry keys reads).value
    keys_ruled [] reads = bad
    keys_ruled (key ∷ later) reads = more_ruled (key ∷ later) [] reads

-- Members -------------------------------------------------------------------------------------------------------------

abbrev EndRuled : {X : Type 0} → Result X Ended → Type 0
EndRuled (Ok x) = Unit {0}
EndRuled (Err ended) = IsRule ended.rule

abbrev Step : Type 0
Step = Writing → Result Writing Ended

abbrev StepRuled : Step → Type 0
StepRuled f = (w : Writing) → EndRuled (f w)

goes_on : (p : Result Writing Ended) (f : Step) → EndRuled p → StepRuled f → EndRuled (go_on p f)
goes_on (Ok w) f h k = k w
goes_on (Err ended) f h k = h

with_ruled : {X : Type 0} (v : Result X ℕ) (reads : List Read) (tree : Config) (more : X → Step) → Ruled v → ((x : X) → StepRuled (more x)) → EndRuled (with_value v reads tree more)
with_ruled (Ok x) reads tree more h k = k x (record { tree = tree; reads = record { reads = reads } })
with_ruled (Err rule) reads tree more h k = h

write_ruled : (path : List PathStep) (it : Item) → StepRuled (write_at path it)
write_ruled path it w = on (is_long_path path) (differs_from (get_item w.tree path) it)
  where
    on : (long other : Bool) → EndRuled (cond long (ends BAD_LEAF w.reads.reads) (cond other (ends SELF_CLASH w.reads.reads) (Ok (record w { tree = put_item w.tree path it }))))
    on true other = bad
    on false true = self_clash
    on false false = tt

module _ (scene : Scene) where
  leaf_ruled : (l : LeafNode) (path : List PathStep) (d : Data) → StepRuled (leaf_done scene l path d)
  leaf_ruled l path d w = on (is_some l.key)
    where
      on : (key : Bool) → EndRuled (cond key (bad_leaf w) (leaf_written scene l.kind path d w))
      on true = bad
      on false =
          with_ruled (value_done scene l.kind d w.reads.reads).value (value_done scene l.kind d w.reads.reads).reads w.tree (λ text. write_at path (Leaf text))
          (value_ruled scene l.kind d w.reads.reads) (λ text. write_ruled path (Leaf text))

  value_entry_ruled : (k : Kind) (at : List PathStep) (name : List ℕ) (d : Data) → StepRuled (entry_value_done scene k at name d)
  value_entry_ruled k at name d w =
      with_ruled (value_done scene k d w.reads.reads).value (value_done scene k d w.reads.reads).reads w.tree (λ text. write_at (below at name (text ∷ [])) Entry)
      (value_ruled scene k d w.reads.reads) (λ text. write_ruled (below at name (text ∷ [])) Entry)

  values_ruled : (k : Kind) (at : List PathStep) (name : List ℕ) (ds : Items) → StepRuled (values_done scene k at name ds)
  values_ruled k at name no_items w = tt
  values_ruled k at name (item d ds) w = goes_on (entry_value_done scene k at name d w) (values_done scene k at name ds) (value_entry_ruled k at name d w) (values_ruled k at name ds)

  leaf_list_ruled : (k : Kind) (at : List PathStep) (name : List ℕ) (ds : Option Items) → StepRuled (leaf_list_done scene k at name ds)
  leaf_list_ruled k at name (Some ds) w = values_ruled k at name ds w
  leaf_list_ruled k at name None w = bad

  node_ruled : (at : List PathStep) (name : List ℕ) (d : Data) (inside : Step) (entries : List (List ℕ) → Step) → StepRuled inside → ((keys : List (List ℕ)) → StepRuled (entries keys))
      → (n : Option Node) → StepRuled (node_done scene at name d inside entries n)
  node_ruled at name d inside entries here each None w = bad
  node_ruled at name d inside entries here each (Some node.Container) w = here w
  node_ruled at name d inside entries here each (Some (node.List l)) w = each l.keys w
  node_ruled at name d inside entries here each (Some (node.Leaf l)) w = leaf_ruled l (below at name []) d w
  node_ruled at name d inside entries here each (Some (node.LeafList l)) w = leaf_list_ruled l.kind at name (as_array d) w

  module _ (s : SchemaTable) where
    entry_written_ruled : (at : List PathStep) (name : List ℕ) (keys : List (List ℕ)) (d : Data) (inside : List PathStep → Step) → ((entry : List PathStep) → StepRuled (inside entry))
        → StepRuled (entry_written scene s at name keys d inside)
    entry_written_ruled at name keys d inside same w =
        let texts = keys_done scene s (path_names at ++ name ∷ []) d keys w.reads.reads in
        with_ruled texts.value texts.reads w.tree (λ texts v. go_on (write_at (below at name texts) Entry v) (inside (below at name texts)))
        (keys_ruled scene s (path_names at ++ name ∷ []) d keys w.reads.reads)
        (λ texts v. goes_on (write_at (below at name texts) Entry v) (inside (below at name texts)) (write_ruled (below at name texts) Entry v) (same (below at name texts)))

    member_ruled : (keys : List (List ℕ)) (at : List PathStep) (name : List ℕ) (d : Data) (inside : Step) (entries : List (List ℕ) → Step) → StepRuled inside
        → ((keys : List (List ℕ)) → StepRuled (entries keys)) → StepRuled (member_done scene s keys at name d inside entries)
    member_ruled keys at name d inside entries here each w = on (is_key_name keys name) (is_name_behind at name)
      where
        on : (key named : Bool) → EndRuled (cond key (Ok w) (cond named (node_done scene at name d inside entries (node_below s at name) w) (bad_leaf w)))
        on true named = tt
        on false true = node_ruled at name d inside entries here each (node_below s at name) w
        on false false = bad

    mutual
      object_ruled : (keys : List (List ℕ)) (at : List PathStep) (d : Data) → StepRuled (object_done scene s keys at d)
      object_ruled keys at null w = bad
      object_ruled keys at (boolean b) w = bad
      object_ruled keys at (number n) w = bad
      object_ruled keys at (string t) w = bad
      object_ruled keys at (array ds) w = bad
      object_ruled keys at (object ms) w = members_ruled keys at ms w

      members_ruled : (keys : List (List ℕ)) (at : List PathStep) (ms : Members) → StepRuled (members_done scene s keys at ms)
      members_ruled keys at no_members w = tt
      members_ruled keys at (member name d ms) w =
          goes_on (member_done scene s keys at name d (object_done scene s [] (below at name []) d) (λ names. list_done scene s names at name d) w) (members_done scene s keys at ms)
          (member_ruled keys at name d (object_done scene s [] (below at name []) d) (λ names. list_done scene s names at name d) (object_ruled [] (below at name []) d)
          (λ names. list_ruled names at name d) w)
          (members_ruled keys at ms)

      list_ruled : (keys : List (List ℕ)) (at : List PathStep) (name : List ℕ) (d : Data) → StepRuled (list_done scene s keys at name d)
      list_ruled keys at name null w = bad
      list_ruled keys at name (boolean b) w = bad
      list_ruled keys at name (number n) w = bad
      list_ruled keys at name (string t) w = bad
      list_ruled keys at name (array ds) w = entries_ruled keys at name ds w
      list_ruled keys at name (object ms) w = bad

      entries_ruled : (keys : List (List ℕ)) (at : List PathStep) (name : List ℕ) (ds : Items) → StepRuled (entries_done scene s keys at name ds)
      entries_ruled keys at name no_items w = tt
      entries_ruled keys at name (item d ds) w = goes_on (entry_done scene s keys at name d w) (entries_done scene s keys at name ds) (entry_ruled keys at name d w) (entries_ruled keys at name ds)

      entry_ruled : (keys : List (List ℕ)) (at : List PathStep) (name : List ℕ) (d : Data) → StepRuled (entry_done scene s keys at name d)
      entry_ruled keys at name null w = bad
      entry_ruled keys at name (boolean b) w = bad
      entry_ruled keys at name (number n) w = bad
      entry_ruled keys at name (string t) w = bad
      entry_ruled keys at name (array ds) w = bad
      entry_ruled keys at name (object ms) w = entry_written_ruled at name keys (object ms) (λ entry. members_done scene s keys entry ms) (λ entry. members_ruled keys entry ms) w

-- Devices and blocks --------------------------------------------------------------------------------------------------

put_ruled : (n : ℕ) (written : List Config) (r : Result Writing Ended) → EndRuled r → EndRuled (put_written n written r)
put_ruled n written (Ok w) h = tt
put_ruled n written (Err ended) h = h

tree_ruled : (scene : Scene) (n : ℕ) (config : Data) (s : SchemaTable) (tree : Option Config) (e : Expanding) → EndRuled (on_tree scene n config s tree e)
tree_ruled scene n config s None e = unknown_device
tree_ruled scene n config s (Some tree) e =
    put_ruled n e.written (object_done scene s [] [] config (record { tree = tree; reads = record { reads = e.reads } })) (object_ruled scene s [] [] config (record { tree = tree; reads = record { reads = e.reads } }))

schema_ruled : (scene : Scene) (n : ℕ) (config : Data) (s : Option SchemaTable) (tree : Option Config) (e : Expanding) → EndRuled (on_schema scene n config s tree e)
schema_ruled scene n config None tree e = unknown_device
schema_ruled scene n config (Some s) tree e = on s.plain
  where
    on : (plain : Bool) → EndRuled (cond plain (ends BAD_LEAF e.reads) (on_tree scene n config s tree e))
    on true = bad
    on false = tree_ruled scene n config s tree e

-- a fault's block is one from a first number on, up to a last one
abbrev Within : ℕ → ℕ → Result Expanding Failed → Type 0
Within first end (Ok e) = Unit {0}
Within first end (Err failed) = IsRule failed.rule × (first ≤ failed.block) × (failed.block < end)

abbrev Further : Type 0
Further = Expanding → Result Expanding Failed

module _ (first end : ℕ) where
  fails_within : (n : ℕ) → first ≤ n → n < end → (r : Result Expanding Ended) → EndRuled r → Within first end (fails n r)
  fails_within n from to (Ok e) h = tt
  fails_within n from to (Err ended) h = (h, from, to)

  goes_further : (p : Result Expanding Failed) (f : Further) → Within first end p → ((e : Expanding) → Within first end (f e)) → Within first end (go_further p f)
  goes_further (Ok e) f h k = k e
  goes_further (Err failed) f h k = h

  module _ (g : Ground) where
    device_ruled : (here : List PathStep) (config : Data) (n : Option ℕ) (e : Expanding) → EndRuled (on_device g here config n e)
    device_ruled here config None e = unknown_device
    device_ruled here config (Some n) e = schema_ruled (scene_at g here) n config (schema_of_device g.devices n) (slice_get e.written n) e

    name_ruled : (here : List PathStep) (config : Data) (name : Result (List ℕ) ℕ) (e : Expanding) → Ruled name → EndRuled (on_name g here config name e)
    name_ruled here config (Ok name) e h = device_ruled here config (device_of name g.devices.names) e
    name_ruled here config (Err rule) e h = h

    target_ruled : (here : List PathStep) (d : Data) (text : Option (List ℕ)) (e : Expanding) → EndRuled (target_by g here d text e)
    target_ruled here d None e = tt
    target_ruled here d (Some text) e =
        let x = string_done (scene_at g here) text e.reads in
        name_ruled here (unwrap_or (get (codes "config") d) null) x.value (record { written = e.written; reads = x.reads }) (string_ruled (scene_at g here) text e.reads)

    condition_ruled : (scene : Scene) (c : Option Condition) (reads : List Read) → Ruled (condition_done scene c reads).value
    condition_ruled scene None reads = tt
    condition_ruled scene (Some c) reads = told_ruled (judged c scene.here scene.view).is_met

    module _ (n : ℕ) (from : first ≤ n) (to : n < end) (d : Data) (inside : List PathStep → Further) (within : (here : List PathStep) (e : Expanding) → Within first end (inside here e)) where
      met_within : (here : List PathStep) (met : Result Bool ℕ) (e : Expanding) → Ruled met → Within first end (met_by g n d inside here met e)
      met_within here (Ok true) e h =
          goes_further (fails n (target_done g here d e)) (inside here) (fails_within n from to (target_done g here d e) (target_ruled here d (text_of_member (codes "device") d) e)) (within here)
      met_within here (Ok false) e h = tt
      met_within here (Err rule) e h = (h, from, to)

      node_within : (here : List PathStep) (e : Expanding) → Within first end (node_expanded g n d inside here e)
      node_within here e =
          let x = when_done (scene_at g here) d e.reads in
          met_within here x.value (record { written = e.written; reads = x.reads })
          (condition_ruled (scene_at g here) (option_and_then g.readers.condition (text_of_member (codes "when") d)) e.reads)

      nodes_within : (nodes : List (List PathStep)) (e : Expanding) → Within first end (nodes_expanded g n d inside nodes e)
      nodes_within [] e = tt
      nodes_within (here ∷ more) e = goes_further (node_expanded g n d inside here e) (nodes_expanded g n d inside more) (node_within here e) (nodes_within more)

      found_within : (found : Option (List (List PathStep))) (e : Expanding) → Within first end (found_expanded g n d inside found e)
      found_within None e = (many_values, from, to)
      found_within (Some nodes) e = nodes_within nodes e

      each_within : (here : List PathStep) (each : Option Expression) (e : Expanding) → Within first end (each_expanded g here n d inside each e)
      each_within here None e = node_within here e
      each_within here (Some each) e =
          let x = nodes_of each here g.view in
          found_within x.found (record { written = e.written; reads = e.reads ++ x.reads })

    blocks_within : (blocks : Blocks) (here : List PathStep) (n : ℕ) → first ≤ n → n + block_count blocks ≤ end → (e : Expanding) → Within first end (blocks_expanded g here n blocks e)
    blocks_within no_block here n from to e = tt
    blocks_within (block d inner later) here n from to e =
        goes_further (block_expanded g here n d (λ at. blocks_expanded g at (n + 1) inner) e) (blocks_expanded g here (n + 1 + block_count inner) later)
        (each_within n from (omega (arith, to)) d (λ at. blocks_expanded g at (n + 1) inner) (λ at. blocks_within inner at (n + 1) (omega (arith, from)) (omega (arith, to))) here
        (option_and_then g.readers.expression (text_of_member (codes "for") d)) e)
        (blocks_within later here (n + 1 + block_count inner) (omega (arith, from)) (omega (arith, to)))

named : (blocks : Blocks) (r : Result Expanding Failed) (failed : Failed) → Within 1 (1 + block_count blocks) r → r ≡ Err failed → IsFaultIn blocks failed
named blocks (Ok e) failed h is = let never : ⊥ = cc in absurd never
named blocks (Err found) failed h is =
    let same : found ≡ failed = cc in
    subst (IsFaultIn blocks) same (record { first_rule = h.0.0; last_rule = h.0.1; first_block = h.1; last_block = omega (arith, h.2) })

pub faults_named : FaultsAreNamed
faults_named readers devices instance template view failed is =
    named (blocks_inside template) (expanded readers devices instance template view) failed
    (blocks_within 1 (1 + block_count (blocks_inside template)) (record { readers = readers; view = view; devices = devices }) (blocks_inside template) instance 1 (omega arith) (omega arith) (nothing_written devices)) is
