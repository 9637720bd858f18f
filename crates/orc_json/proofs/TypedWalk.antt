-- Rows of a typed configuration are the members of an object: a walk from row to row, and down where they go on.
use Rattle.std.proofs.Common.{◌≡◌, ◌≢◌, ⊎_elim, ℕ, zero, suc, ◌≤◌, true, false, T, List, [], ◌∷◌, ◌++◌, length, Option, Some, None, Ok, refl, sym, ap, subst, ◌∙◌, arith}
use Rattle.std.specs.Prelude.{is_some, option_and_then}
use Rattle.std.specs.Option.{option_map_or}
use Rattle.std.specs.FinMap.{is_sorted}
use Rattle.std.specs.FinMap.Entries.{below_all}
use Rattle.std.specs.Ordering.{is_lt, is_le, ordering_then}
use Rattle.std.specs.declared.cmp.Ordering.{Ordering}
use Rattle.std.specs.declared.cmp.Ordering.TheVariants.{Less, Equal, Greater}
use Rattle.std.specs.Cmp.Lexicographic.{slice_cmp}
use Rattle.std.proofs.lemmas.Bool.{and_parts, cases_Bool, false≢true, lt-ltb}
use Rattle.std.proofs.lemmas.List.{nil_from_length, length-map}
use Rattle.serde_json.specs.Data.{Members, no_members, object}
use Rattle.orc_path.specs.Configurations.{IsWay, is_entry}
use Rattle.orc_path.specs.Order.{text_cmp, path_cmp}
use Rattle.orc_path.specs.Steps.{PathStep, is_name_behind, has_keys}
use Rattle.orc_path.specs.declared.item.Item.{Item}
use Rattle.orc_path.specs.declared.item.Item.TheVariants.{Entry, Leaf as LeafItem}
use Rattle.orc_path.proofs.Bools.{first_of_both, second_of_both}
use Rattle.orc_value.specs.Canon.{canon_of, is_canonical}
use Rattle.orc_value.specs.Json.{json_of}
use Rattle.orc_schema_nodes.specs.Schemas.{SchemaTable, path_names, node_at, kind_in}
use Rattle.orc_schema_nodes.specs.declared.line.Node.{Node}
use Rattle.orc_schema_nodes.specs.declared.line.Node.TheVariants.{Container, List as ListOf, Leaf, LeafList}
use Rattle.orc_schema_nodes.specs.declared.line.LeafNode.{LeafNode}
use Rattle.orc_schema_nodes.specs.declared.line.ListNode.{ListNode}
use Rattle.orc_schema_nodes.specs.declared.line.ValueListNode.{ValueListNode}
use Rattle.orc_typed.specs.Typed.{kind_of_names, carries, is_canonical_value, are_canonical_keys}
use Rattle.orc_json.specs.Findings.{below, node_below, is_key_name}
use Rattle.orc_schema_nodes.specs.Sound.{IsSound, HasItsKeys, is_list_key, holds_nodes}
use Rattle.orc_json.specs.Written.{Rows, AreMembers, IsNode, are_keys}
use Rattle.orc_json.specs.Written.AreMembers.{no_member}
use Rattle.orc_json.specs.Written.IsNode.{container, leaf}
use Rattle.orc_json.proofs.TypedRows.{Path, look, with_step, below_path, below_path-append, below_path-step, filled, none_from, look-head, look-above, sorted-front, sorted-back, sorted-step, weight, weight-parted, is_after, AreAfter, Parted, part, way-first, way-step, look-later, look-inner}
use Rattle.orc_json.proofs.TypedPlaces.{names-below, some_names, StepLies, EndLies, Lies, first_lies, named-behind, leaf_carries, container_carries, list_carries, leaf_list_carries, keys-counted, keys-canonical, some_node, none_below}
use Rattle.orc_json.proofs.TypedKeys.{canonical-is, key_is_one, are_keys-typed}
use Rattle.orc_json.proofs.TypedEntries.{first_name, is_less, is_not_past, text_tied, Begun, in-front, added, entry-alone, entry-joined, value-alone, value-joined}

-- Rows below a path: in order, each in its place, with the entries on their ways among them. `keys` are the names of
-- the keys that an entry of a list has at the path.
pub record Level (s : SchemaTable) (keys : List (List ℕ)) (at : Path) (rows : Rows) : Type 0 where
  pub sorted : T (is_sorted path_cmp rows)
  pub lies : (p : Path) (it : Item) → look rows p ≡ Some it → Lies s (path_names at) p it
  pub ways : (p w : Path) → is_some (look rows p) ≡ true → IsWay w p → is_entry (look rows w) ≡ true
  pub own : (key : List ℕ) → is_key_name keys key ≡ true → is_list_key (node_below s at key) ≡ true

abbrev pub first_node : Rows → Option (List ℕ)
first_node [] = None
first_node (([], it) ∷ rows) = None
first_node ((step ∷ later, it) ∷ rows) = Some step.node

-- their members
pub record Built (s : SchemaTable) (keys : List (List ℕ)) (at : Path) (rows : Rows) : Type 0 where
  pub ms : Members
  pub are : AreMembers s keys at (below_path at rows) ms
  pub first : first_name ms ≡ first_node rows

abbrev pub Walk : SchemaTable → ℕ → Type 0
Walk s n = (keys : List (List ℕ)) (at : Path) (rows : Rows) → Level s keys at rows → weight rows ≤ n → Built s keys at rows

-- two steps whose order is settled
lt_then : (o r : Ordering) → is_lt (ordering_then o r) ≡ true → is_le o ≡ true
lt_then Less r h = refl
lt_then Equal r h = refl
lt_then Greater r h = absurd (false≢true h)

no_keys : (a b : List (List ℕ)) → a ≡ [] → b ≡ [] → is_lt (slice_cmp text_cmp a b) ≡ true → ⊥
no_keys a b ea eb h = false≢true (sym (ap (λ (x : List (List ℕ)). is_lt (slice_cmp text_cmp x b)) ea ∙ ap (λ (x : List (List ℕ)). is_lt (slice_cmp text_cmp [] x)) eb) ∙ h)

module _ (s : SchemaTable) (sound : IsSound s) (n : ℕ) (walk : Walk s n) (keys : List (List ℕ)) (at : Path) (st : PathStep) (rest : Path) (it : Item) (inner later : Rows)
    (level : Level s keys at (with_step st ((rest, it) ∷ inner) ++ later)) (after : AreAfter st later) (small : weight (with_step st ((rest, it) ∷ inner) ++ later) ≤ suc n) where
  abbrev first : Rows
  first = (rest, it) ∷ inner

  abbrev rows : Rows
  rows = with_step st first ++ later

  abbrev names : List (List ℕ)
  names = path_names at ++ st.node ∷ []

  abbrev place : Path
  place = at ++ st ∷ []

  abbrev above : List (List ℕ)
  above = path_names at

  -- After the rows that begin with the step

  later-level : Level s keys at later
  later-level = record {
    sorted = sorted-back (with_step st first) later level.sorted;
    lies = λ p it h. level.lies p it (look-later st first later after p (after p (ap is_some h)) ∙ h);
    ways = λ p w h way.
        let behind : is_after st p ≡ true = after p h in
        ap is_entry (sym (look-later st first later after w (way-first st w p way ∙ behind)))
        ∙ level.ways p w (ap is_some (look-later st first later after p behind) ∙ h) way;
    own = level.own;
  }

  laters : Built s keys at later
  laters = walk keys at later later-level (omega (arith, small, weight-parted st first later))

  -- Rows that begin with the step

  looks : (x : Path) → look rows (st ∷ x) ≡ look first x
  looks x = look-inner st first later after x

  here : Lies s above (st ∷ rest) it
  here = level.lies (st ∷ rest) it (looks rest ∙ look-head rest it inner)

  step : StepLies s names st
  step = first_lies s above st rest it here

  first-sorted : T (is_sorted path_cmp first)
  first-sorted = sorted-step st first (sorted-front (with_step st first) later level.sorted)

  first-below : T (below_all path_cmp rest inner)
  first-below = first_of_both (below_all path_cmp rest inner) (is_sorted path_cmp inner) first-sorted

  inner-sorted : T (is_sorted path_cmp inner)
  inner-sorted = second_of_both (below_all path_cmp rest inner) (is_sorted path_cmp inner) first-sorted

  inner-lies : (y : PathStep) (ys : Path) (i : Item) → look first (y ∷ ys) ≡ Some i → Lies s names (y ∷ ys) i
  inner-lies y ys i h = (level.lies (st ∷ y ∷ ys) i (looks (y ∷ ys) ∙ h)).1

  place-lies : (y : PathStep) (ys : Path) (i : Item) → look first (y ∷ ys) ≡ Some i → Lies s (path_names place) (y ∷ ys) i
  place-lies y ys i h = subst (λ (x : List (List ℕ)). Lies s x (y ∷ ys) i) (sym (names-below at st)) (inner-lies y ys i h)

  inner-ends : (i : Item) → look first [] ≡ Some i → EndLies s names i
  inner-ends i h = (level.lies (st ∷ []) i (looks [] ∙ h)).1

  inner-ways : (p w : Path) → is_some (look first p) ≡ true → IsWay w p → is_entry (look first w) ≡ true
  inner-ways p w h way = ap is_entry (sym (looks w)) ∙ level.ways (st ∷ p) (st ∷ w) (ap is_some (looks p) ∙ h) (way-step st w p way)

  -- nothing stands at the path of the rows' step but the first
  none-here : look inner [] ≡ None
  none-here = none_from (look inner []) (λ some. lost rest (look-above rest inner [] first-below some))
    where
      lost : (p : Path) → path_cmp p [] ≡ Less → ⊥
      lost [] h = false≢true (ap is_lt h)
      lost (y ∷ ys) h = false≢true (ap is_lt h)

  -- nothing stands below a leaf or a leaf-list
  ends : holds_nodes (node_at s names) ≡ false → (p : Path) (i : Item) → look first p ≡ Some i → p ≡ []
  ends holds [] i h = refl
  ends holds (y ∷ ys) i h = absurd (none_below s sound names y (some_names above st.node) holds (first_lies s names y ys i (inner-lies y ys i h)))

  ended : holds_nodes (node_at s names) ≡ false → rest ≡ []
  ended holds = ends holds rest it (look-head rest it inner)

  alone : holds_nodes (node_at s names) ≡ false → inner ≡ []
  alone holds = on inner refl
    where
      on : (x : Rows) → inner ≡ x → inner ≡ []
      on [] e = e
      on ((p, i) ∷ more) e =
          let found : look inner p ≡ Some i = ap (λ (r : Rows). look r p) e ∙ look-head p i more in
          absurd (stands p found)
        where
          -- it is not the first, and so it would stand deeper
          stands : (p : Path) → look inner p ≡ Some i → ⊥
          stands [] found = false≢true (sym (ap is_some none-here) ∙ ap is_some found)
          stands (y ∷ ys) found = deeper rest refl
            where
              deeper : (r : Path) → rest ≡ r → ⊥
              deeper [] is =
                  let at_first : look first (y ∷ ys) ≡ Some i = ap (λ (x : Path). look ((x, it) ∷ inner) (y ∷ ys)) is ∙ found in
                  none_below s sound names y (some_names above st.node) holds (first_lies s names y ys i (inner-lies y ys i at_first))
              deeper (z ∷ zs) is = filled z zs (sym is ∙ ended holds)

  -- Names

  named-so : (node : Node) → node_at s names ≡ Some node → is_name_behind at st.node ≡ true
  named-so node is = named-behind at st.node (sound.named names node is)

  not_key : is_list_key (node_at s names) ≡ false → is_key_name keys st.node ≡ false
  not_key no_leaf = ⊎_elim (λ among. absurd (false≢true (sym no_leaf ∙ level.own st.node among))) (λ other. other) (cases_Bool (is_key_name keys st.node))

  not-past : (x : Rows) → later ≡ x → is_not_past st.node (first_node x) ≡ true
  not-past [] e = refl
  not-past (([], i) ∷ more) e = refl
  not-past ((next ∷ p, i) ∷ more) e =
      lt_then (text_cmp st.node next.node) (slice_cmp text_cmp st.keys next.keys)
      (after (next ∷ p) (ap is_some (ap (λ (r : Rows). look r (next ∷ p)) e ∙ look-head (next ∷ p) i more)))

  begun-later : is_not_past st.node (first_name laters.ms) ≡ true
  begun-later = ap (is_not_past st.node) laters.first ∙ not-past later refl

  -- where the step has no keys, the next name is another
  module _ (node : Node) (is : node_at s names ≡ Some node) (single : (u : PathStep) → StepLies s names u → u.keys ≡ []) where
    less-first : (x : Rows) → later ≡ x → is_less st.node (first_node x) ≡ true
    less-first [] e = refl
    less-first (([], i) ∷ more) e = refl
    less-first ((next ∷ p, i) ∷ more) e =
        let found : look later (next ∷ p) ≡ Some i = ap (λ (r : Rows). look r (next ∷ p)) e ∙ look-head (next ∷ p) i more in
        on (text_cmp st.node next.node) refl (after (next ∷ p) (ap is_some found)) (first_lies s above next p i (later-level.lies (next ∷ p) i found))
      where
        on : (o : Ordering) → text_cmp st.node next.node ≡ o → is_lt (ordering_then o (slice_cmp text_cmp st.keys next.keys)) ≡ true
            → StepLies s (above ++ next.node ∷ []) next → is_lt (text_cmp st.node next.node) ≡ true
        on Less is h lies = ap is_lt is
        on Equal is h lies =
            let same : next.node ≡ st.node = sym (text_tied st.node next.node is) in
            absurd (no_keys st.keys next.keys (single st step) (single next (subst (λ (x : List ℕ). StepLies s (above ++ x ∷ []) next) same lies)) h)
        on Greater is h lies = absurd (false≢true h)

    less-later : is_less st.node (first_name laters.ms) ≡ true
    less-later = ap (is_less st.node) laters.first ∙ less-first later refl

  -- The members, by the node of the step's names

  carried-as : (node : Node) → node_at s names ≡ Some node → (i : Item) → EndLies s names i → carries node i ≡ true
  carried-as node is i ended = ap (λ (o : Option Node). option_map_or (λ x. carries x i) o false) (sym is) ∙ ended.carried

  value-as : (node : Node) → node_at s names ≡ Some node → (i : Item) → EndLies s names i → is_canonical_value (kind_in node) i ≡ true
  value-as node is i ended = ap (λ (o : Option Node). is_canonical_value (option_and_then kind_in o) i) (sym is) ∙ ended.value

  finish : (group : Rows) → below_path at (with_step st first) ≡ group → Begun s keys at (group ++ below_path at later) st.node → Built s keys at rows
  finish group e begun = record {
    ms = begun.ms;
    are = subst (λ (r : Rows). AreMembers s keys at r begun.ms)
        (sym (below_path-append at (with_step st first) later ∙ ap (λ (r : Rows). r ++ below_path at later) e)) begun.are;
    first = begun.first;
  }

  as-container : node_at s names ≡ Some Container → Built s keys at rows
  as-container is =
      finish (below_path place first) (below_path-step at st first)
      (in-front s keys at st.node (not_key (ap is_list_key is)) (named-so Container is) (below_path place first) (below_path at later) laters.ms
      (record { json = object within.ms; is = as_node }) laters.are (less-later Container is single))
    where
      single : (u : PathStep) → StepLies s names u → u.keys ≡ []
      single u lies = nil_from_length u.keys (keys-counted s names u Container is lies)

      lies : (p : Path) (i : Item) → look first p ≡ Some i → Lies s (path_names place) p i
      lies [] i h = absurd (container_carries i (carried-as Container is i (inner-ends i h)))
      lies (y ∷ ys) i h = place-lies y ys i h

      within : Built s [] place first
      within = walk [] place first (record { sorted = first-sorted; lies = lies; ways = inner-ways; own = λ key h. absurd (false≢true h) }) (omega (arith, small, weight-parted st first later))

      inside : AreMembers s [] (below at st.node []) (below_path place first) within.ms
      inside = subst (λ (p : Path). AreMembers s [] p (below_path place first) within.ms)
          (ap (λ (k : List (List ℕ)). at ++ record { node = st.node; keys = k } ∷ []) (single st step)) within.are

      some : below_path place first ≢ []
      some e = let not_so : ⊥ = cc in absurd not_so

      as_node : IsNode s at st.node (node_below s at st.node) (below_path place first) (object within.ms)
      as_node = subst (λ (o : Option Node). IsNode s at st.node o (below_path place first) (object within.ms)) (sym is)
          (container (below_path place first) within.ms some inside)

  -- where the first row is that of the step itself
  module _ (is_end : rest ≡ []) where
    past-first : (y : PathStep) (ys : Path) → look first (y ∷ ys) ≡ look inner (y ∷ ys)
    past-first y ys = ap (λ (x : Path). look ((x, it) ∷ inner) (y ∷ ys)) is_end

    first-ends : EndLies s names it
    first-ends = inner-ends it (ap (λ (x : Path). look ((x, it) ∷ inner) []) is_end ∙ look-head [] it inner)

    module _ (l : ListNode) (is : node_at s names ≡ Some (ListOf l)) where
      have : HasItsKeys s names l
      have = sound.keys names l is

      entry-level : Level s l.keys place inner
      entry-level = record { sorted = inner-sorted; lies = lies; ways = ways; own = own }
        where
          lies : (p : Path) (i : Item) → look inner p ≡ Some i → Lies s (path_names place) p i
          lies [] i h = absurd (false≢true (sym (ap is_some none-here) ∙ ap is_some h))
          lies (y ∷ ys) i h = place-lies y ys i (past-first y ys ∙ h)

          ways : (p w : Path) → is_some (look inner p) ≡ true → IsWay w p → is_entry (look inner w) ≡ true
          ways p [] h way = absurd (false≢true way.keyed)
          ways [] (a ∷ w) h way = absurd (omega (arith, way.shorter))
          ways (y ∷ ys) (a ∷ w) h way = ap is_entry (sym (past-first a w)) ∙ inner-ways (y ∷ ys) (a ∷ w) (ap is_some (past-first y ys) ∙ h) way

          own : (key : List ℕ) → is_key_name l.keys key ≡ true → is_list_key (node_below s place key) ≡ true
          own key h = ap (λ (x : List (List ℕ)). is_list_key (node_at s (x ++ key ∷ []))) (names-below at st) ∙ have.leaves key (key_is_one l.keys key h)

      as-entry : Built s keys at rows
      as-entry =
          let within : Built s l.keys place inner = walk l.keys place inner entry-level (omega (arith, small, weight-parted st first later)) in
          let well : are_keys s names l.keys st.keys ≡ true =
          are_keys-typed s names l.keys st.keys (keys-counted s names st (ListOf l) is step ∙ length-map l.keys (λ (key : List ℕ). kind_of_names s (names ++ key ∷ [])))
          (keys-canonical s names st (ListOf l) is step) in
          let group : Rows = (place, Entry) ∷ below_path place inner in
          let is_entry_row : it ≡ Entry = list_carries l it (carried-as (ListOf l) is it first-ends) in
          finish group (λ i. (at ++ st ∷ is_end i, is_entry_row i) ∷ below_path-step at st inner i)
          (added s keys at st.node (not_key (ap is_list_key is)) (named-so (ListOf l) is) group
          (entry-alone s at st.node l is have.any have.differ st.keys (below_path place inner) within.ms well within.are)
          (entry-joined s at st.node l is have.any have.differ st.keys (below_path place inner) within.ms well within.are)
          (below_path at later) laters.ms laters.are begun-later)

  -- an entry on the way to what is below it is present, and so the first of its rows is its own
  keyed-end : has_keys st ≡ true → rest ≡ []
  keyed-end keyed = on rest refl
    where
      on : (r : Path) → rest ≡ r → rest ≡ []
      on [] e = e
      on (y ∷ ys) e =
          let way : IsWay (st ∷ []) (st ∷ y ∷ ys) = record { shorter = omega arith; begins = refl; keyed = keyed } in
          let found : is_some (look rows (st ∷ y ∷ ys)) ≡ true =
          ap is_some (looks (y ∷ ys) ∙ ap (λ (x : Path). look ((x, it) ∷ inner) (y ∷ ys)) e ∙ look-head (y ∷ ys) it inner) in
          let none : look first [] ≡ None = ap (λ (x : Path). look ((x, it) ∷ inner) []) e ∙ none-here in
          absurd (false≢true (sym (ap is_entry (looks [] ∙ none)) ∙ level.ways (st ∷ y ∷ ys) (st ∷ []) found way))

  as-list : (l : ListNode) → node_at s names ≡ Some (ListOf l) → Built s keys at rows
  as-list l is = as-entry (keyed-end (keyed st.keys refl)) l is
    where
      counted : length st.keys ≡ length l.keys
      counted = keys-counted s names st (ListOf l) is step ∙ length-map l.keys (λ (key : List ℕ). kind_of_names s (names ++ key ∷ []))

      keyed : (k : List (List ℕ)) → st.keys ≡ k → has_keys st ≡ true
      keyed [] e = absurd ((sound.keys names l is).any (nil_from_length l.keys (sym counted ∙ ap length e)))
      keyed (text ∷ texts) e = lt-ltb 0 (length st.keys) (omega (arith, ap length e))

  as-leaf : (l : LeafNode) → node_at s names ≡ Some (Leaf l) → Built s keys at rows
  as-leaf l is =
      finish group (λ i. (at ++ record { node = st.node; keys = single st step i } ∷ end i, carried.1 i) ∷ below_path at (with_step st (alone holds i)))
      (in-front s keys at st.node (not_key (ap is_list_key is ∙ ap is_some carried.2)) (named-so (Leaf l) is) group (below_path at later) laters.ms
      (record { json = json_of l.kind carried.0; is = as_node }) laters.are (less-later (Leaf l) is single))
    where
      single : (u : PathStep) → StepLies s names u → u.keys ≡ []
      single u lies = nil_from_length u.keys (keys-counted s names u (Leaf l) is lies)

      holds : holds_nodes (node_at s names) ≡ false
      holds = ap holds_nodes is

      end : rest ≡ []
      end = ended holds

      carried : (text : List ℕ) × (it ≡ LeafItem text) × (l.key ≡ None)
      carried = leaf_carries l it (carried-as (Leaf l) is it (first-ends end))

      group : Rows
      group = (below at st.node [], LeafItem carried.0) ∷ []

      own : canon_of l.kind carried.0 ≡ Ok carried.0
      own = canonical-is l.kind carried.0 (ap (is_canonical_value (Some l.kind)) (sym carried.1) ∙ value-as (Leaf l) is it (first-ends end))

      as_node : IsNode s at st.node (node_below s at st.node) group (json_of l.kind carried.0)
      as_node = subst (λ (o : Option Node). IsNode s at st.node o group (json_of l.kind carried.0)) (sym is) (leaf l carried.0 carried.2 own)

  as-leaf_list : (l : ValueListNode) → node_at s names ≡ Some (LeafList l) → Built s keys at rows
  as-leaf_list l is =
      finish group (λ i. (at ++ record { node = st.node; keys = key.1 i } ∷ end i, is_entry_row i) ∷ below_path at (with_step st (alone holds i)))
      (added s keys at st.node (not_key (ap is_list_key is)) (named-so (LeafList l) is) group
      (value-alone s at st.node l is key.0 own) (value-joined s at st.node l is key.0 own) (below_path at later) laters.ms laters.are begun-later)
    where
      holds : holds_nodes (node_at s names) ≡ false
      holds = ap holds_nodes is

      end : rest ≡ []
      end = ended holds

      is_entry_row : it ≡ Entry
      is_entry_row = leaf_list_carries l it (carried-as (LeafList l) is it (first-ends end))

      one : (k : List (List ℕ)) → length k ≡ 1 → (text : List ℕ) × (k ≡ text ∷ [])
      one [] e = absurd (omega (arith, e))
      one (text ∷ []) e = (text, refl)
      one (text ∷ other ∷ more) e = absurd (omega (arith, e))

      key : (text : List ℕ) × (st.keys ≡ text ∷ [])
      key = one st.keys (keys-counted s names st (LeafList l) is step)

      group : Rows
      group = (below at st.node (key.0 ∷ []), Entry) ∷ []

      own : canon_of l.kind key.0 ≡ Ok key.0
      own = canonical-is l.kind key.0
          (and_parts (is_canonical l.kind key.0) true (ap (are_canonical_keys (Some l.kind ∷ [])) (sym key.1) ∙ keys-canonical s names st (LeafList l) is step)).0

  grown : Built s keys at rows
  grown = on (node_at s names) refl
    where
      on : (o : Option Node) → node_at s names ≡ o → Built s keys at rows
      on None is = absurd (false≢true (sym (ap is_some is) ∙ some_node s names st step))
      on (Some Container) is = as-container is
      on (Some (ListOf l)) is = as-list l is
      on (Some (Leaf l)) is = as-leaf l is
      on (Some (LeafList l)) is = as-leaf_list l is

walk-step : (s : SchemaTable) → IsSound s → (n : ℕ) → Walk s n → Walk s (suc n)
walk-step s sound n walk keys at [] level small = record { ms = no_members; are = no_member; first = refl }
walk-step s sound n walk keys at (([], it) ∷ more) level small = absurd (level.lies [] it (look-head [] it more))
walk-step s sound n walk keys at ((st ∷ rest, it) ∷ more) level small =
    let parted : Parted st more =
    part st rest more (first_of_both (below_all path_cmp (st ∷ rest) more) (is_sorted path_cmp more) level.sorted)
    (second_of_both (below_all path_cmp (st ∷ rest) more) (is_sorted path_cmp more) level.sorted) in
    let whole : (st ∷ rest, it) ∷ more ≡ with_step st ((rest, it) ∷ parted.inner) ++ parted.later = ap (λ (r : Rows). (st ∷ rest, it) ∷ r) parted.whole in
    subst (Built s keys at) (sym whole)
    (grown s sound n walk keys at st rest it parted.inner parted.later (subst (Level s keys at) whole level) parted.after
    (subst (λ (r : Rows). weight r ≤ suc n) whole small))

-- rows in their places have members
pub walked : (s : SchemaTable) → IsSound s → (n : ℕ) → Walk s n
walked s sound zero keys at [] level small = record { ms = no_members; are = no_member; first = refl }
walked s sound zero keys at (row ∷ more) level small = absurd (omega (arith, small))
walked s sound (suc n) keys at all level small = walk-step s sound n (walked s sound n) keys at all level small
