-- Two views that share what an expansion read give the same.
use Rattle.std.proofs.Common.{◌≡◌, ℕ, ◌+◌, Bool, true, false, cond, List, [], ◌∷◌, ◌++◌, Option, Some, None, Result, Ok, Err, codes, is_some, slice_get, refl, sym, ap, subst, ◌∙◌, append_assoc, append-nil}
use Rattle.std.specs.Option.{option_and_then, unwrap_or}
use Rattle.std.specs.List.{All}
use Rattle.std.specs.FinMap.{get as get_item}
use Rattle.serde_json.specs.Data.{Data, null, boolean, number, string, array, object, Items, no_items, item, Members, no_members, member}
use Rattle.serde_json.specs.Find.{get, as_array}
use Rattle.orc_path.specs.Configurations.{Config, put_item}
use Rattle.orc_path.specs.Limits.{is_long_path}
use Rattle.orc_path.specs.Steps.{PathStep, is_name_behind}
use Rattle.orc_path.specs.Views.{Viewed}
use Rattle.orc_path.specs.declared.item.Item.{Item}
use Rattle.orc_path.specs.declared.item.Item.TheVariants.{Entry, Leaf}
use Rattle.orc_value.specs.declared.kind.Kind.{Kind}
use Rattle.orc_expr.specs.Expressions.{Expression, Condition}
use Rattle.orc_expr.specs.Looks.{texts_of, nodes_of, judged, Judged}
use Rattle.orc_expr.specs.Reads.{SharesRead, Shares, IsFixedByReads}
use Rattle.orc_expr.specs.declared.read.Read.{Read}
use Rattle.orc_expr.proofs.Sound.{All-front, All-back, texts_sound, nodes_sound, judged_sound}
use Rattle.orc_schema_nodes.specs.Schemas.{SchemaTable, path_names}
use Rattle.orc_schema_nodes.specs.declared.line.Node.{Node}
use Rattle.orc_schema_nodes.specs.declared.line.Node.TheVariants as node
use Rattle.orc_schema_nodes.specs.declared.line.LeafNode.{LeafNode}
use Rattle.orc_json.specs.Findings.{below, node_below, is_key_name, key_kind}
use Rattle.orc_template.specs.Readers.{Readers}
use Rattle.orc_template.specs.Strings.{cut_parts}
use Rattle.orc_template.specs.Values.{Scene, Done, done, then_by, then_done, one_text, expression_done, part_done, parts_done, string_by, string_done, lexical, value_done, key_value, key_done, more_keys, keys_done}
use Rattle.orc_template.specs.Writing.{Ended, ends, go_on, with_value, with_done, differs_from, write_at, bad_leaf, leaf_written, leaf_done, entry_value_done, values_done, leaf_list_done, node_done, entry_written, member_done, object_done, members_done, list_done, entries_done, entry_done}
use Rattle.orc_template.specs.Devices.{DeviceTable, device_of, schema_of_device}
use Rattle.orc_template.specs.Blocks.{Blocks, no_block, block, block_count, blocks_inside, text_of_member}
use Rattle.orc_template.specs.Expansions.{Expanding, Failed, fails, go_further, Ground, told, condition_done, when_done, put_written, on_tree, on_schema, on_device, on_name, target_by, target_done, met_by, node_expanded, nodes_expanded, found_expanded, look_expanded, each_expanded, block_expanded, blocks_expanded, nothing_written, expanded, reads_expanded}
use Rattle.orc_template.specs.declared.strings.Part.{Part}
use Rattle.orc_template.specs.declared.strings.Part.TheVariants.{Written, Braced}
use Rattle.orc_template.specs.declared.fault.TheConstants.{BAD_LEAF, SELF_CLASH, MANY_VALUES, UNKNOWN_DEVICE, NO_VALUE}
use Rattle.orc_template.specs.declared.writing.Writing.{Writing}

-- what is made of equal things
along : {L R : Type 0} (x y : L) → x ≡ y → (make : L → R) → make x ≡ make y
along x y is make = ap make is

abbrev Longer : List Read → List Read → Type 0
Longer first reads = (more : List Read) × (reads ≡ first ++ more)

abbrev done_reads : {X : Type 0} → Done X → List Read
done_reads d = d.reads

abbrev writing_reads : Result Writing Ended → List Read
writing_reads (Ok w) = w.reads.reads
writing_reads (Err ended) = ended.reads

abbrev ended_reads : Result Expanding Ended → List Read
ended_reads (Ok e) = e.reads
ended_reads (Err ended) = ended.reads

module _ (v w : Viewed) (shapes : (parent : List PathStep) (name : List ℕ) → v.shapes parent name ≡ w.shapes parent name) (readers : Readers) where
  abbrev Shared : List Read → Type 0
  Shared reads = All (SharesRead v w) reads

  shares : (reads : List Read) → Shared reads → Shares v w reads
  shares reads h = record { shapes = shapes; read = h }

  -- what was done after these reads: it reads more, and is the same where all its reads are shared
  record Fixed {R : Type 0} (reads_of : R → List Read) (first : List Read) (p q : R) : Type 0 where
    longer : Longer first (reads_of p)
    same : Shared (reads_of p) → q ≡ p

  -- nothing is read
  still : {R : Type 0} (reads_of : R → List Read) (first : List Read) (p : R) → reads_of p ≡ first → Fixed reads_of first p p
  still reads_of first p is = record { longer = ([], is ∙ sym (append-nil first)); same = λ h. refl }

  front_shared : (first reads : List Read) → Longer first reads → Shared reads → Shared first
  front_shared first reads longer h = All-front (SharesRead v w) first longer.0 (subst Shared longer.1 h)

  -- one thing after another
  joins : (first next : List Read) → Longer first next → {R : Type 0} (reads_of : R → List Read) (p q total : R)
      → Fixed reads_of next p q → (Shared next → total ≡ q) → Fixed reads_of first p total
  joins first next longer reads_of p q total more is = record {
    longer = (longer.0 ++ more.longer.0, more.longer.1 ∙ ap (λ xs. xs ++ more.longer.0) longer.1 ∙ append_assoc first longer.0 more.longer.0);
    same = λ h. is (front_shared next (reads_of p) more.longer h) ∙ more.same h;
  }

  module _ {X Y : Type 0} (first : List Read) (q : Done X) (f g : X → List Read → Done Y) (more : (x : X) (reads : List Read) → Fixed done_reads reads (f x reads) (g x reads)) where
    then_by_fixed : (value : Result X ℕ) (reads : List Read) → Longer first reads → (Shared reads → q ≡ done value reads)
        → Fixed done_reads first (then_by value reads f) (then_done q g)
    then_by_fixed (Ok x) reads longer same = joins first reads longer done_reads (f x reads) (g x reads) (then_done q g) (more x reads) (λ h. ap (λ (d : Done X). then_done d g) (same h))
    then_by_fixed (Err rule) reads longer same = record { longer = longer; same = λ h. ap (λ (d : Done X). then_done d g) (same h) }

    then_fixed : (p : Done X) → Fixed done_reads first p q → Fixed done_reads first (then_done p f) (then_done q g)
    then_fixed p before = then_by_fixed p.value p.reads before.longer before.same

  module _ {X : Type 0} (first : List Read) (q : Done X) (tree : Config) (f g : X → Writing → Result Writing Ended) (more : (x : X) (at : Writing) → Fixed writing_reads at.reads.reads (f x at) (g x at)) where
    with_value_fixed : (value : Result X ℕ) (reads : List Read) → Longer first reads → (Shared reads → q ≡ done value reads)
        → Fixed writing_reads first (with_value value reads tree f) (with_done q tree g)
    with_value_fixed (Ok x) reads longer same =
        joins first reads longer writing_reads (f x (record { tree = tree; reads = record { reads = reads } })) (g x (record { tree = tree; reads = record { reads = reads } })) (with_done q tree g)
        (more x (record { tree = tree; reads = record { reads = reads } })) (λ h. ap (λ (d : Done X). with_done d tree g) (same h))
    with_value_fixed (Err rule) reads longer same = record { longer = longer; same = λ h. ap (λ (d : Done X). with_done d tree g) (same h) }

    with_fixed : (p : Done X) → Fixed done_reads first p q → Fixed writing_reads first (with_done p tree f) (with_done q tree g)
    with_fixed p before = with_value_fixed p.value p.reads before.longer before.same

  go_on_fixed : (first : List Read) (p q : Result Writing Ended) (f g : Writing → Result Writing Ended) → Fixed writing_reads first p q
      → ((at : Writing) → Fixed writing_reads at.reads.reads (f at) (g at)) → Fixed writing_reads first (go_on p f) (go_on q g)
  go_on_fixed first (Ok at) q f g before more =
      joins first at.reads.reads before.longer writing_reads (f at) (g at) (go_on q g) (more at) (λ h. ap (λ r. go_on r g) (before.same h))
  go_on_fixed first (Err ended) q f g before more = record { longer = before.longer; same = λ h. ap (λ r. go_on r g) (before.same h) }

  behind_fixed : (first : List Read) (p q : Result Expanding Failed) (f g : Expanding → Result Expanding Failed) → Fixed reads_expanded first p q
      → ((e : Expanding) → Fixed reads_expanded e.reads (f e) (g e)) → Fixed reads_expanded first (go_further p f) (go_further q g)
  behind_fixed first (Ok e) q f g before more =
      joins first e.reads before.longer reads_expanded (f e) (g e) (go_further q g) (more e) (λ h. ap (λ r. go_further r g) (before.same h))
  behind_fixed first (Err failed) q f g before more = record { longer = before.longer; same = λ h. ap (λ r. go_further r g) (before.same h) }

  fails_fixed : (first : List Read) (n : ℕ) (p q : Result Expanding Ended) → Fixed ended_reads first p q → Fixed reads_expanded first (fails n p) (fails n q)
  fails_fixed first n (Ok e) q before = record { longer = before.longer; same = λ h. ap (fails n) (before.same h) }
  fails_fixed first n (Err ended) q before = record { longer = before.longer; same = λ h. ap (fails n) (before.same h) }

  -- Strings and values
  module _ (here : List PathStep) where
    abbrev sv : Scene
    sv = record { readers = readers; view = v; here = here }

    abbrev sw : Scene
    sw = record { readers = readers; view = w; here = here }

    expression_fixed : (e : Option Expression) (reads : List Read) → Fixed done_reads reads (expression_done sv e reads) (expression_done sw e reads)
    expression_fixed None reads = still done_reads reads (done (Err NO_VALUE) reads) refl
    expression_fixed (Some e) reads = record {
      longer = ((texts_of e here v).reads, refl);
      same = λ h. along (texts_of e here w) (texts_of e here v)
          (texts_sound e here v w (shares _ (All-back (SharesRead v w) reads (texts_of e here v).reads h))) (λ look. one_text look.found look.reads reads);
    }

    part_fixed : (part : Part) (reads : List Read) → Fixed done_reads reads (part_done sv part reads) (part_done sw part reads)
    part_fixed (Written text) reads = still done_reads reads (done (Ok text) reads) refl
    part_fixed (Braced text) reads = expression_fixed (readers.expression text) reads

    parts_fixed : (front : List ℕ) (parts : List Part) (reads : List Read) → Fixed done_reads reads (parts_done sv front parts reads) (parts_done sw front parts reads)
    parts_fixed front [] reads = still done_reads reads (done (Ok front) reads) refl
    parts_fixed front (part ∷ later) reads =
        then_fixed reads (part_done sw part reads) (λ text. parts_done sv (front ++ text) later) (λ text. parts_done sw (front ++ text) later)
        (λ text. parts_fixed (front ++ text) later) (part_done sv part reads) (part_fixed part reads)

    string_by_fixed : (parts : Option (List Part)) (reads : List Read) → Fixed done_reads reads (string_by sv parts reads) (string_by sw parts reads)
    string_by_fixed None reads = still done_reads reads (done (Err NO_VALUE) reads) refl
    string_by_fixed (Some parts) reads = parts_fixed [] parts reads

    string_fixed : (text : List ℕ) (reads : List Read) → Fixed done_reads reads (string_done sv text reads) (string_done sw text reads)
    string_fixed text reads = string_by_fixed (cut_parts text) reads

    value_fixed : (kind : Kind) (d : Data) (reads : List Read) → Fixed done_reads reads (value_done sv kind d reads) (value_done sw kind d reads)
    value_fixed kind null reads = still done_reads reads (value_done sv kind null reads) refl
    value_fixed kind (boolean b) reads = still done_reads reads (value_done sv kind (boolean b) reads) refl
    value_fixed kind (number n) reads = still done_reads reads (value_done sv kind (number n) reads) refl
    value_fixed kind (string t) reads =
        then_fixed reads (string_done sw t reads) (λ text. done (lexical kind text)) (λ text. done (lexical kind text))
        (λ text next. still done_reads next (done (lexical kind text) next) refl) (string_done sv t reads) (string_fixed t reads)
    value_fixed kind (array ds) reads = still done_reads reads (value_done sv kind (array ds) reads) refl
    value_fixed kind (object ms) reads = still done_reads reads (value_done sv kind (object ms) reads) refl

    key_value_fixed : (kind : Option Kind) (value : Option Data) (reads : List Read) → Fixed done_reads reads (key_value sv kind value reads) (key_value sw kind value reads)
    key_value_fixed None value reads = still done_reads reads (done (Err BAD_LEAF) reads) refl
    key_value_fixed (Some kind) None reads = still done_reads reads (done (Err BAD_LEAF) reads) refl
    key_value_fixed (Some kind) (Some value) reads = value_fixed kind value reads

    module _ (s : SchemaTable) where
      more_keys_fixed : (names : List (List ℕ)) (entry : Data) (front keys : List (List ℕ)) (reads : List Read)
          → Fixed done_reads reads (more_keys sv s names entry front keys reads) (more_keys sw s names entry front keys reads)
      more_keys_fixed names entry front [] reads = still done_reads reads (done (Ok front) reads) refl
      more_keys_fixed names entry front (key ∷ later) reads =
          then_fixed reads (key_done sw s names entry key reads) (λ text. more_keys sv s names entry (front ++ text ∷ []) later) (λ text. more_keys sw s names entry (front ++ text ∷ []) later)
          (λ text. more_keys_fixed names entry (front ++ text ∷ []) later) (key_done sv s names entry key reads)
          (key_value_fixed (key_kind s names key) (get key entry) reads)

      keys_fixed : (names : List (List ℕ)) (entry : Data) (keys : List (List ℕ)) (reads : List Read)
          → Fixed done_reads reads (keys_done sv s names entry keys reads) (keys_done sw s names entry keys reads)
      keys_fixed names entry [] reads = still done_reads reads (done (Err BAD_LEAF) reads) refl
      keys_fixed names entry (key ∷ later) reads = more_keys_fixed names entry [] (key ∷ later) reads

      -- Items and members
      write_reads : (path : List PathStep) (it : Item) (at : Writing) → writing_reads (write_at path it at) ≡ at.reads.reads
      write_reads path it at = by (is_long_path path) (differs_from (get_item at.tree path) it)
        where
          by : (long other : Bool) → writing_reads (cond long (ends BAD_LEAF at.reads.reads) (cond other (ends SELF_CLASH at.reads.reads) (Ok (record at { tree = put_item at.tree path it })))) ≡ at.reads.reads
          by true other = refl
          by false true = refl
          by false false = refl

      write_fixed : (path : List PathStep) (it : Item) (at : Writing) → Fixed writing_reads at.reads.reads (write_at path it at) (write_at path it at)
      write_fixed path it at = still writing_reads at.reads.reads (write_at path it at) (write_reads path it at)

      bad_fixed : (at : Writing) → Fixed writing_reads at.reads.reads (bad_leaf at) (bad_leaf at)
      bad_fixed at = still writing_reads at.reads.reads (bad_leaf at) refl

      leaf_fixed : (l : LeafNode) (path : List PathStep) (d : Data) (at : Writing) → Fixed writing_reads at.reads.reads (leaf_done sv l path d at) (leaf_done sw l path d at)
      leaf_fixed l path d at = by (is_some l.key)
        where
          by : (key : Bool) → Fixed writing_reads at.reads.reads (cond key (bad_leaf at) (leaf_written sv l.kind path d at)) (cond key (bad_leaf at) (leaf_written sw l.kind path d at))
          by true = bad_fixed at
          by false =
              with_fixed at.reads.reads (value_done sw l.kind d at.reads.reads) at.tree (λ text. write_at path (Leaf text)) (λ text. write_at path (Leaf text))
              (λ text. write_fixed path (Leaf text)) (value_done sv l.kind d at.reads.reads) (value_fixed l.kind d at.reads.reads)

      values_fixed : (kind : Kind) (above : List PathStep) (name : List ℕ) (ds : Items) (at : Writing) → Fixed writing_reads at.reads.reads (values_done sv kind above name ds at) (values_done sw kind above name ds at)
      values_fixed kind above name no_items at = still writing_reads at.reads.reads (Ok at) refl
      values_fixed kind above name (item d ds) at =
          go_on_fixed at.reads.reads (entry_value_done sv kind above name d at) (entry_value_done sw kind above name d at) (values_done sv kind above name ds) (values_done sw kind above name ds)
          (with_fixed at.reads.reads (value_done sw kind d at.reads.reads) at.tree (λ text. write_at (below above name (text ∷ [])) Entry) (λ text. write_at (below above name (text ∷ [])) Entry)
          (λ text. write_fixed (below above name (text ∷ [])) Entry) (value_done sv kind d at.reads.reads) (value_fixed kind d at.reads.reads))
          (values_fixed kind above name ds)

      leaf_list_fixed : (kind : Kind) (above : List PathStep) (name : List ℕ) (ds : Option Items) (at : Writing) → Fixed writing_reads at.reads.reads (leaf_list_done sv kind above name ds at) (leaf_list_done sw kind above name ds at)
      leaf_list_fixed kind above name (Some ds) at = values_fixed kind above name ds at
      leaf_list_fixed kind above name None at = bad_fixed at

      abbrev Step : Type 0
      Step = Writing → Result Writing Ended

      abbrev StepFixed : Step → Step → Type 0
      StepFixed f g = (at : Writing) → Fixed writing_reads at.reads.reads (f at) (g at)

      node_fixed : (above : List PathStep) (name : List ℕ) (d : Data) (inside other : Step) (entries others : List (List ℕ) → Step) → StepFixed inside other
          → ((names : List (List ℕ)) → StepFixed (entries names) (others names)) → (n : Option Node) → StepFixed (node_done sv above name d inside entries n) (node_done sw above name d other others n)
      node_fixed above name d inside other entries others same all None at = bad_fixed at
      node_fixed above name d inside other entries others same all (Some node.Container) at = same at
      node_fixed above name d inside other entries others same all (Some (node.List l)) at = all l.keys at
      node_fixed above name d inside other entries others same all (Some (node.Leaf l)) at = leaf_fixed l (below above name []) d at
      node_fixed above name d inside other entries others same all (Some (node.LeafList l)) at = leaf_list_fixed l.kind above name (as_array d) at

      member_fixed : (keys : List (List ℕ)) (above : List PathStep) (name : List ℕ) (d : Data) (inside other : Step) (entries others : List (List ℕ) → Step) → StepFixed inside other
          → ((names : List (List ℕ)) → StepFixed (entries names) (others names)) → StepFixed (member_done sv s keys above name d inside entries) (member_done sw s keys above name d other others)
      member_fixed keys above name d inside other entries others same all at = by (is_key_name keys name) (is_name_behind above name)
        where
          by : (key named : Bool) → Fixed writing_reads at.reads.reads
              (cond key (Ok at) (cond named (node_done sv above name d inside entries (node_below s above name) at) (bad_leaf at)))
              (cond key (Ok at) (cond named (node_done sw above name d other others (node_below s above name) at) (bad_leaf at)))
          by true named = still writing_reads at.reads.reads (Ok at) refl
          by false true = node_fixed above name d inside other entries others same all (node_below s above name) at
          by false false = bad_fixed at

      entry_written_fixed : (above : List PathStep) (name : List ℕ) (keys : List (List ℕ)) (d : Data) (inside other : List PathStep → Step)
          → ((entry : List PathStep) → StepFixed (inside entry) (other entry)) → StepFixed (entry_written sv s above name keys d inside) (entry_written sw s above name keys d other)
      entry_written_fixed above name keys d inside other same at =
          with_fixed at.reads.reads (keys_done sw s (path_names above ++ name ∷ []) d keys at.reads.reads) at.tree
          (λ texts u. go_on (write_at (below above name texts) Entry u) (inside (below above name texts)))
          (λ texts u. go_on (write_at (below above name texts) Entry u) (other (below above name texts)))
          (λ texts u. go_on_fixed u.reads.reads (write_at (below above name texts) Entry u) (write_at (below above name texts) Entry u) (inside (below above name texts)) (other (below above name texts))
          (write_fixed (below above name texts) Entry u) (same (below above name texts)))
          (keys_done sv s (path_names above ++ name ∷ []) d keys at.reads.reads) (keys_fixed (path_names above ++ name ∷ []) d keys at.reads.reads)

      mutual
        object_fixed : (keys : List (List ℕ)) (above : List PathStep) (d : Data) → StepFixed (object_done sv s keys above d) (object_done sw s keys above d)
        object_fixed keys above null at = bad_fixed at
        object_fixed keys above (boolean b) at = bad_fixed at
        object_fixed keys above (number n) at = bad_fixed at
        object_fixed keys above (string t) at = bad_fixed at
        object_fixed keys above (array ds) at = bad_fixed at
        object_fixed keys above (object ms) at = members_fixed keys above ms at

        members_fixed : (keys : List (List ℕ)) (above : List PathStep) (ms : Members) → StepFixed (members_done sv s keys above ms) (members_done sw s keys above ms)
        members_fixed keys above no_members at = still writing_reads at.reads.reads (Ok at) refl
        members_fixed keys above (member name d ms) at =
            go_on_fixed at.reads.reads
            (member_done sv s keys above name d (object_done sv s [] (below above name []) d) (λ names. list_done sv s names above name d) at)
            (member_done sw s keys above name d (object_done sw s [] (below above name []) d) (λ names. list_done sw s names above name d) at)
            (members_done sv s keys above ms) (members_done sw s keys above ms)
            (member_fixed keys above name d (object_done sv s [] (below above name []) d) (object_done sw s [] (below above name []) d) (λ names. list_done sv s names above name d) (λ names. list_done sw s names above name d)
            (object_fixed [] (below above name []) d) (λ names. list_fixed names above name d) at)
            (members_fixed keys above ms)

        list_fixed : (keys : List (List ℕ)) (above : List PathStep) (name : List ℕ) (d : Data) → StepFixed (list_done sv s keys above name d) (list_done sw s keys above name d)
        list_fixed keys above name null at = bad_fixed at
        list_fixed keys above name (boolean b) at = bad_fixed at
        list_fixed keys above name (number n) at = bad_fixed at
        list_fixed keys above name (string t) at = bad_fixed at
        list_fixed keys above name (array ds) at = entries_fixed keys above name ds at
        list_fixed keys above name (object ms) at = bad_fixed at

        entries_fixed : (keys : List (List ℕ)) (above : List PathStep) (name : List ℕ) (ds : Items) → StepFixed (entries_done sv s keys above name ds) (entries_done sw s keys above name ds)
        entries_fixed keys above name no_items at = still writing_reads at.reads.reads (Ok at) refl
        entries_fixed keys above name (item d ds) at =
            go_on_fixed at.reads.reads (entry_done sv s keys above name d at) (entry_done sw s keys above name d at) (entries_done sv s keys above name ds) (entries_done sw s keys above name ds)
            (entry_fixed keys above name d at) (entries_fixed keys above name ds)

        entry_fixed : (keys : List (List ℕ)) (above : List PathStep) (name : List ℕ) (d : Data) → StepFixed (entry_done sv s keys above name d) (entry_done sw s keys above name d)
        entry_fixed keys above name null at = bad_fixed at
        entry_fixed keys above name (boolean b) at = bad_fixed at
        entry_fixed keys above name (number n) at = bad_fixed at
        entry_fixed keys above name (string t) at = bad_fixed at
        entry_fixed keys above name (array ds) at = bad_fixed at
        entry_fixed keys above name (object ms) at =
            entry_written_fixed above name keys (object ms) (λ entry. members_done sv s keys entry ms) (λ entry. members_done sw s keys entry ms) (λ entry. members_fixed keys entry ms) at

    -- `when`
    condition_fixed : (c : Option Condition) (reads : List Read) → Fixed done_reads reads (condition_done sv c reads) (condition_done sw c reads)
    condition_fixed None reads = still done_reads reads (done (Ok true) reads) refl
    condition_fixed (Some c) reads = record {
      longer = ((judged c here v).reads, refl);
      same = λ h. ap (λ (made : Judged). done (told made.is_met) (reads ++ made.reads))
          (judged_sound c here v w (shares _ (All-back (SharesRead v w) reads (judged c here v).reads h)));
    }

    when_fixed : (d : Data) (reads : List Read) → Fixed done_reads reads (when_done sv d reads) (when_done sw d reads)
    when_fixed d reads = condition_fixed (option_and_then readers.condition (text_of_member (codes "when") d)) reads

    put_fixed : (first : List Read) (n : ℕ) (written : List Config) (p q : Result Writing Ended) → Fixed writing_reads first p q
        → Fixed ended_reads first (put_written n written p) (put_written n written q)
    put_fixed first n written (Ok at) q before = record { longer = before.longer; same = λ h. ap (put_written n written) (before.same h) }
    put_fixed first n written (Err ended) q before = record { longer = before.longer; same = λ h. ap (put_written n written) (before.same h) }

    tree_fixed : (n : ℕ) (config : Data) (s : SchemaTable) (tree : Option Config) (e : Expanding)
        → Fixed ended_reads e.reads (on_tree sv n config s tree e) (on_tree sw n config s tree e)
    tree_fixed n config s None e = still ended_reads e.reads (ends UNKNOWN_DEVICE e.reads) refl
    tree_fixed n config s (Some tree) e =
        put_fixed e.reads n e.written (object_done sv s [] [] config (record { tree = tree; reads = record { reads = e.reads } })) (object_done sw s [] [] config (record { tree = tree; reads = record { reads = e.reads } }))
        (object_fixed s [] [] config (record { tree = tree; reads = record { reads = e.reads } }))

    schema_fixed : (n : ℕ) (config : Data) (s : Option SchemaTable) (tree : Option Config) (e : Expanding)
        → Fixed ended_reads e.reads (on_schema sv n config s tree e) (on_schema sw n config s tree e)
    schema_fixed n config None tree e = still ended_reads e.reads (ends UNKNOWN_DEVICE e.reads) refl
    schema_fixed n config (Some s) tree e = by s.plain
      where
        by : (plain : Bool) → Fixed ended_reads e.reads (cond plain (ends BAD_LEAF e.reads) (on_tree sv n config s tree e)) (cond plain (ends BAD_LEAF e.reads) (on_tree sw n config s tree e))
        by true = still ended_reads e.reads (ends BAD_LEAF e.reads) refl
        by false = tree_fixed n config s tree e

  -- Blocks
  module _ (devices : DeviceTable) where
    abbrev gv : Ground
    gv = record { readers = readers; view = v; devices = devices }

    abbrev gw : Ground
    gw = record { readers = readers; view = w; devices = devices }

    device_fixed : (here : List PathStep) (config : Data) (n : Option ℕ) (e : Expanding) → Fixed ended_reads e.reads (on_device gv here config n e) (on_device gw here config n e)
    device_fixed here config None e = still ended_reads e.reads (ends UNKNOWN_DEVICE e.reads) refl
    device_fixed here config (Some n) e = schema_fixed here n config (schema_of_device devices n) (slice_get e.written n) e

    -- the name of the device, and what is written there
    module _ (here : List PathStep) (config : Data) (first : List Read) (written : List Config) (q : Done (List ℕ)) where
      abbrev on_done : Ground → Done (List ℕ) → Result Expanding Ended
      on_done g d = on_name g here config d.value (record { written = written; reads = d.reads })

      name_by_fixed : (value : Result (List ℕ) ℕ) (reads : List Read) → Longer first reads → (Shared reads → q ≡ done value reads)
          → Fixed ended_reads first (on_name gv here config value (record { written = written; reads = reads })) (on_done gw q)
      name_by_fixed (Ok name) reads longer same =
          joins first reads longer ended_reads (on_device gv here config (device_of name devices.names) (record { written = written; reads = reads })) (on_device gw here config (device_of name devices.names) (record { written = written; reads = reads }))
          (on_done gw q) (device_fixed here config (device_of name devices.names) (record { written = written; reads = reads })) (λ h. ap (on_done gw) (same h))
      name_by_fixed (Err rule) reads longer same = record { longer = longer; same = λ h. ap (on_done gw) (same h) }

      name_fixed : (p : Done (List ℕ)) → Fixed done_reads first p q → Fixed ended_reads first (on_done gv p) (on_done gw q)
      name_fixed p before = name_by_fixed p.value p.reads before.longer before.same

    target_by_fixed : (here : List PathStep) (d : Data) (text : Option (List ℕ)) (e : Expanding) → Fixed ended_reads e.reads (target_by gv here d text e) (target_by gw here d text e)
    target_by_fixed here d None e = still ended_reads e.reads (Ok e) refl
    target_by_fixed here d (Some text) e =
        name_fixed here (unwrap_or (get (codes "config") d) null) e.reads e.written (string_done (sw here) text e.reads) (string_done (sv here) text e.reads) (string_fixed here text e.reads)

    target_fixed : (here : List PathStep) (d : Data) (e : Expanding) → Fixed ended_reads e.reads (target_done gv here d e) (target_done gw here d e)
    target_fixed here d e = target_by_fixed here d (text_of_member (codes "device") d) e

    abbrev Inside : Type 0
    Inside = List PathStep → Expanding → Result Expanding Failed

    module _ (n : ℕ) (d : Data) (inside other : Inside) (same : (here : List PathStep) (e : Expanding) → Fixed reads_expanded e.reads (inside here e) (other here e)) where
      module _ (here : List PathStep) (first : List Read) (written : List Config) (q : Done Bool) where
        abbrev met_done : Ground → Inside → Done Bool → Result Expanding Failed
        met_done g ins p = met_by g n d ins here p.value (record { written = written; reads = p.reads })

        met_fixed : (value : Result Bool ℕ) (reads : List Read) → Longer first reads → (Shared reads → q ≡ done value reads)
            → Fixed reads_expanded first (met_by gv n d inside here value (record { written = written; reads = reads })) (met_done gw other q)
        met_fixed (Ok true) reads longer is =
            joins first reads longer reads_expanded (met_by gv n d inside here (Ok true) (record { written = written; reads = reads })) (met_by gw n d other here (Ok true) (record { written = written; reads = reads })) (met_done gw other q)
            (behind_fixed reads (fails n (target_done gv here d (record { written = written; reads = reads }))) (fails n (target_done gw here d (record { written = written; reads = reads }))) (inside here) (other here)
            (fails_fixed reads n (target_done gv here d (record { written = written; reads = reads })) (target_done gw here d (record { written = written; reads = reads })) (target_fixed here d (record { written = written; reads = reads })))
            (same here))
            (λ h. ap (met_done gw other) (is h))
        met_fixed (Ok false) reads longer is = record { longer = longer; same = λ h. ap (met_done gw other) (is h) }
        met_fixed (Err rule) reads longer is = record { longer = longer; same = λ h. ap (met_done gw other) (is h) }

      at_node_fixed : (here : List PathStep) (e : Expanding) → Fixed reads_expanded e.reads (node_expanded gv n d inside here e) (node_expanded gw n d other here e)
      at_node_fixed here e =
          met_fixed here e.reads e.written (when_done (sw here) d e.reads) (when_done (sv here) d e.reads).value (when_done (sv here) d e.reads).reads
          (when_fixed here d e.reads).longer (when_fixed here d e.reads).same

      nodes_fixed : (nodes : List (List PathStep)) (e : Expanding) → Fixed reads_expanded e.reads (nodes_expanded gv n d inside nodes e) (nodes_expanded gw n d other nodes e)
      nodes_fixed [] e = still reads_expanded e.reads (Ok e) refl
      nodes_fixed (node ∷ more) e =
          behind_fixed e.reads (node_expanded gv n d inside node e) (node_expanded gw n d other node e) (nodes_expanded gv n d inside more) (nodes_expanded gw n d other more)
          (at_node_fixed node e) (nodes_fixed more)

      found_fixed : (found : Option (List (List PathStep))) (e : Expanding) → Fixed reads_expanded e.reads (found_expanded gv n d inside found e) (found_expanded gw n d other found e)
      found_fixed None e = still reads_expanded e.reads (fails n (ends MANY_VALUES e.reads)) refl
      found_fixed (Some nodes) e = nodes_fixed nodes e

      each_fixed : (here : List PathStep) (each : Option Expression) (e : Expanding) → Fixed reads_expanded e.reads (each_expanded gv here n d inside each e) (each_expanded gw here n d other each e)
      each_fixed here None e = at_node_fixed here e
      each_fixed here (Some each) e =
          let x = nodes_of each here v in
          let at = found_fixed x.found (record { written = e.written; reads = e.reads ++ x.reads }) in
          joins e.reads (e.reads ++ x.reads) (x.reads, refl) reads_expanded (look_expanded gv n d inside x.found x.reads e) (look_expanded gw n d other x.found x.reads e) (look_expanded gw n d other (nodes_of each here w).found (nodes_of each here w).reads e) at
          (λ h. along (nodes_of each here w) x (nodes_sound each here v w (shares _ (All-back (SharesRead v w) e.reads x.reads h))) (λ look. look_expanded gw n d other look.found look.reads e))

    blocks_fixed : (here : List PathStep) (n : ℕ) (blocks : Blocks) (e : Expanding) → Fixed reads_expanded e.reads (blocks_expanded gv here n blocks e) (blocks_expanded gw here n blocks e)
    blocks_fixed here n no_block e = still reads_expanded e.reads (Ok e) refl
    blocks_fixed here n (block d inner later) e =
        behind_fixed e.reads
        (block_expanded gv here n d (λ node. blocks_expanded gv node (n + 1) inner) e) (block_expanded gw here n d (λ node. blocks_expanded gw node (n + 1) inner) e)
        (blocks_expanded gv here (n + 1 + block_count inner) later) (blocks_expanded gw here (n + 1 + block_count inner) later)
        (each_fixed n d (λ node. blocks_expanded gv node (n + 1) inner) (λ node. blocks_expanded gw node (n + 1) inner) (λ node. blocks_fixed node (n + 1) inner) here
        (option_and_then readers.expression (text_of_member (codes "for") d)) e)
        (blocks_fixed here (n + 1 + block_count inner) later)

-- an expansion is fixed by what it read
pub expansion_sound : (readers : Readers) (devices : DeviceTable) (instance : List PathStep) (template : Data) (v : Viewed)
    → IsFixedByReads (expanded readers devices instance template) reads_expanded v
expansion_sound readers devices instance template v w shared =
    (blocks_fixed v w shared.shapes readers devices instance 1 (blocks_inside template) (nothing_written devices)).same shared.read
