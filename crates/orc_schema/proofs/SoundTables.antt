-- The schema of modules without fault is sound.
use Rattle.std.proofs.Common.{◌≡◌, refl, sym, ◌∙◌, ap, subst, List, [], ◌∷◌, ◌++◌, ℕ, inl, inr, Bool, true, false}
use Rattle.std.specs.Prelude.{◌⊎◌, ◌≢◌, Option, Some, None, codes, option_map}
use Rattle.std.specs.List.{find, AllByRecursion, IsDistinct}
use Rattle.std.proofs.lemmas.Bool.{false≢true}
use Rattle.std.proofs.lemmas.List.{same_from_push}
use Rattle.std.proofs.lemmas.List.Elements.{All-from_recursion, recursion_from_All, All-contains}
use Rattle.std.proofs.lemmas.List.Sorted.{All-permutation, IsPermutation-sym}
use Rattle.orc_value.specs.Canon.{same_text}
use Rattle.orc_yang.specs.declared.statement.Stmt.{Stmt}
use Rattle.orc_types.specs.Statements.{argument, is_a}
use Rattle.orc_modules.specs.declared.word.Word.{Word}
use Rattle.orc_modules.specs.declared.word.Word.TheVariants.{Container, List as ListOf, Leaf, LeafList}
use Rattle.orc_modules.specs.Statements.{word, is_state, module_places}
use Rattle.orc_modules.specs.Scopes.{Modules, the_modules}
use Rattle.orc_schema.specs.declared.draft.Draft.{Draft}
use Rattle.orc_schema.specs.declared.draft.DraftNode.{DraftNode}
use Rattle.orc_schema.specs.declared.draft.DraftNode.TheVariants as draft
use Rattle.orc_schema_nodes.specs.declared.line.SchemaLine.{SchemaLine}
use Rattle.orc_schema_nodes.specs.declared.line.ListNode.{ListNode}
use Rattle.orc_schema_nodes.specs.declared.line.Node as line
use Rattle.orc_schema_nodes.specs.declared.line.Node.TheVariants as node
use Rattle.orc_statements.specs.Arguments.{keys_of}
use Rattle.orc_statements.specs.Faults.{fault_here, module_fault}
use Rattle.orc_schema.specs.Drafts.{Where, name_behind, draft as draft_at, draft_node, inside_node}
use Rattle.orc_schema.specs.Links.{chain, node_in, first_link_fault}
use Rattle.orc_schema_nodes.specs.Schemas.{SchemaTable, node_at, is_line_at}
use Rattle.orc_schema.specs.Schemas.{schema_line, schema_lines, drafts, node_of, IsTableOf, IsWhole}
use Rattle.orc_schema_nodes.specs.Sound.{are_node_names, holds_nodes, is_list_key, HasItsKeys, IsKeyedBy, IsSound}
use Rattle.orc_schema.specs.Laws.{SchemasAreSound}
use Rattle.orc_schema_nodes.proofs.Ordered.{find_sorted, sorted_alone}
use Rattle.orc_schema.proofs.SoundLists.{In, and_left, and_right, some_same, none_some, none_first, all_in, in_all, in_map, from_map, found_in, none_found, first_none, contains_in, position_in, in_position, same_text-is, same_names-is, same_names-itself}
use Rattle.orc_schema.proofs.SoundWords.{nodes, word_is, Free}
use Rattle.orc_schema.proofs.SoundNodes.{Opens, Within, Inside, Placed, named_at, node_name, all_placed}
use Rattle.orc_schema.proofs.SoundKeys.{moved, children_in, some_key, keys_differ, leaf_of}

-- Look-ups in the schema of nodes -------------------------------------------------------------------------------------
abbrev names_in : SchemaLine → List (List ℕ)
names_in l = l.names

mapped_some : {X Y : Type 0} (f : X → Y) (o : Option X) (y : Y) → option_map f o ≡ Some y → (x : X) × (o ≡ Some x) × (f x ≡ y)
mapped_some f None y h = absurd (none_some y h)
mapped_some f (Some x) y h = (x, refl, some_same (f x) y h)

module _ (D : List Draft) (s : SchemaTable) (table : IsTableOf D s) where
  abbrev pub of_draft : Draft → line.Node
  of_draft d = node_of chain (node_in D) d d.node

  abbrev line_of : Draft → SchemaLine
  line_of d = schema_line chain (node_in D) d

  same_find : (names : List (List ℕ)) → find (is_line_at names) (schema_lines D) ≡ find (is_line_at names) s.lines
  same_find names = find_sorted names_in names (schema_lines D) s.lines table.lines table.order

  pub node_from : (names : List (List ℕ)) (n : line.Node) → node_at s names ≡ Some n → (d : Draft) × In D d × (d.names ≡ names) × (of_draft d ≡ n)
  node_from names n h =
      let l = mapped_some (λ (x : SchemaLine). x.node) (find (is_line_at names) s.lines) n h in
      let f = found_in (is_line_at names) (schema_lines D) l.0 (same_find names ∙ l.1) in
      let d = from_map line_of D l.0 f.0 in
      (d.0, d.1, ap names_in d.2 ∙ same_names-is l.0.names names f.1, ap (λ (x : SchemaLine). x.node) d.2 ∙ l.2)

  alone : (names : List (List ℕ)) (l : SchemaLine) → find (is_line_at names) s.lines ≡ Some l → AllByRecursion (λ (x : SchemaLine). is_line_at names x ≡ true → x ≡ l) (schema_lines D)
  alone names l h = recursion_from_All (λ (x : SchemaLine). is_line_at names x ≡ true → x ≡ l) (schema_lines D)
      (All-permutation (λ (x : SchemaLine). is_line_at names x ≡ true → x ≡ l) s.lines (schema_lines D) (IsPermutation-sym (schema_lines D) s.lines table.lines)
      (All-from_recursion (λ (x : SchemaLine). is_line_at names x ≡ true → x ≡ l) s.lines (sorted_alone names_in names s.lines table.order l h)))

  pub node_there : (d : Draft) → In D d → node_at s d.names ≡ Some (of_draft d)
  node_there d i = on (find (is_line_at d.names) s.lines) refl
    where
      itself : is_line_at d.names (line_of d) ≡ true
      itself = same_names-itself d.names

      on : (o : Option SchemaLine) → find (is_line_at d.names) s.lines ≡ o → node_at s d.names ≡ Some (of_draft d)
      on None is = absurd (false≢true (sym (none_found (is_line_at d.names) (schema_lines D) (same_find d.names ∙ is) (line_of d) (in_map line_of D d i)) ∙ itself))
      on (Some l) is = ap (option_map (λ (x : SchemaLine). x.node)) is
          ∙ ap (λ (x : SchemaLine). Some x.node) (sym (all_in (λ (x : SchemaLine). is_line_at d.names x ≡ true → x ≡ l) (schema_lines D) (alone d.names l is) (line_of d) (in_map line_of D d i) itself))

-- Names ---------------------------------------------------------------------------------------------------------------
name_below : (owner name x : List ℕ) (names : List (List ℕ)) → name_behind owner (names ++ x ∷ []) name ≡ name
name_below owner name x [] = refl
name_below owner name x (n ∷ ns) = refl

name_inside : (owner name : List ℕ) (names : List (List ℕ)) → are_node_names names ≡ true → name_behind owner names name ≡ name
name_inside owner name [] h = absurd (false≢true h)
name_inside owner name (n ∷ ns) h = refl

-- What a node says of its draft
abbrev is_list : line.Node → Bool
is_list (node.List l) = true
is_list n = false

abbrev keys_in : line.Node → List (List ℕ)
keys_in (node.List l) = l.keys
keys_in n = []

module _ (modules : List Stmt) (s : SchemaTable) (free : Free (the_modules modules) (module_places [] modules)) (whole : IsWhole modules) (table : IsTableOf (drafts modules) s) where
  abbrev ms : Modules
  ms = the_modules modules

  abbrev D : List Draft
  D = drafts modules

  abbrev of : Draft → line.Node
  of d = of_draft D s table d

  placed : (d : Draft) → In D d → Placed ms free D d
  placed d i = all_placed ms free whole.nodes d i

  named : (names : List (List ℕ)) (n : line.Node) → node_at s names ≡ Some n → are_node_names names ≡ true
  named names n h =
      let d = node_from D s table names n h in
      let p = placed d.0 d.1 in
      subst (λ ns. are_node_names ns ≡ true) (sym (ap (λ (x : Draft). x.names) p.made) ∙ d.2)
      (named_at ms free D p.at p.statement p.around (node_name ms p.at.above p.statement p.well p.is_node))

  -- the node around
  holds : (d : Draft) (n : DraftNode) (keys : List (List ℕ)) → Opens n keys → holds_nodes (Some (node_of chain (node_in D) d n)) ≡ true
  holds d draft.Container keys h = refl
  holds d (draft.List l) keys h = refl
  holds d (draft.Leaf l) keys h = absurd h
  holds d (draft.LeafList l) keys h = absurd h

  parents : (names : List (List ℕ)) (name : List ℕ) (n : line.Node) → names ≢ [] → node_at s (names ++ name ∷ []) ≡ Some n → holds_nodes (node_at s names) ≡ true
  parents names name n inner h = on p.around.outer
    where
      d : (d : Draft) × In D d × (d.names ≡ names ++ name ∷ []) × (of d ≡ n)
      d = node_from D s table (names ++ name ∷ []) n h

      p : Placed ms free D d.0
      p = placed d.0 d.1

      front : p.at.names ≡ names
      front = (same_from_push p.at.names names (name_behind p.at.owner p.at.names (argument p.statement)) name (sym (ap (λ (x : Draft). x.names) p.made) ∙ d.2)).0

      on : ((p.at.names ≡ []) × (p.at.keys ≡ [])) ⊎ Within ms free D p.at → holds_nodes (node_at s names) ≡ true
      on (inl top) = absurd (inner (sym front ∙ top.0))
      on (inr w) = ap holds_nodes (ap (node_at s) (sym (w.names ∙ front)) ∙ node_there D s table w.node w.here) ∙ holds w.node w.node.node p.at.keys w.opens

  -- Keys ----------------------------------------------------------------------------------------------------------------
  leaf_key : (w : Where) (c : Stmt) (name : List ℕ) → In w.keys name → same_text (argument c) name ≡ true → word c ≡ Leaf → (d : Draft)
      → is_list_key (Some (node_of chain (node_in D) d (draft_node ms w c (word c)))) ≡ true
  leaf_key w c name i is leaf d = ap (λ v. is_list_key (Some (node_of chain (node_in D) d (draft_node ms w c v)))) leaf ∙ in_position (same_text (argument c)) w.keys name i is

  module _ (d : Draft) (i : In D d) where
    abbrev p : Placed ms free D d
    p = placed d i

    abbrev inside : Where
    inside = inside_node p.at p.statement

    module _ (is : word p.statement ≡ ListOf) where
      abbrev in_it : Inside ms free D p.depth inside p.statement
      in_it = p.inside is

      key_there : (name : List ℕ) → In (keys_of p.statement) name → is_list_key (node_at s (d.names ++ name ∷ [])) ≡ true
      key_there name j =
          let c = leaf_of ms free p.at.above p.statement p.well is p.depth p.most in_it.good in_it.shallow name j in
          let e : Draft = draft_at ms (moved inside c.0) c.0.here in
          let e_in : In D e = in_it.each e (children_in ms p.depth ms.most inside p.statement in_it.shallow c.0 c.1) in
          let leaf : word c.0.here ≡ Leaf = word_is c.0.here (codes "leaf") (and_left (is_a (codes "leaf") c.0.here) (same_text (argument c.0.here) name) c.2) in
          let same : same_text (argument c.0.here) name ≡ true = and_right (is_a (codes "leaf") c.0.here) (same_text (argument c.0.here) name) c.2 in
          let called : e.names ≡ d.names ++ name ∷ [] =
          ap (λ n. inside.names ++ n ∷ []) (name_below p.at.owner (argument c.0.here) (name_behind p.at.owner p.at.names (argument p.statement)) p.at.names ∙ same_text-is (argument c.0.here) name same)
          ∙ ap (λ (x : Draft). x.names ++ name ∷ []) (sym p.made) in
          ap is_list_key (ap (node_at s) (sym called) ∙ node_there D s table e e_in) ∙ leaf_key (moved inside c.0) c.0.here name j same leaf e

      has_keys : (l : ListNode) → l.keys ≡ keys_of p.statement → HasItsKeys s d.names l
      has_keys l same = record {
        any = λ none. some_key ms free p.at.above p.statement p.well is (sym same ∙ none);
        differ = subst (λ (ks : List (List ℕ)). IsDistinct same_text ks) (sym same) (keys_differ ms free p.at.above p.statement p.well is);
        leaves = λ key j. All-contains (λ (k : List ℕ). is_list_key (node_at s (d.names ++ k ∷ [])) ≡ true) l.keys key
            (All-from_recursion (λ (k : List ℕ). is_list_key (node_at s (d.names ++ k ∷ [])) ≡ true) l.keys
            (in_all (λ (k : List ℕ). is_list_key (node_at s (d.names ++ k ∷ [])) ≡ true) l.keys (λ k m. key_there k (subst (λ (ks : List (List ℕ)). In ks k) same m)))) j;
      }

    -- what the node is, by its word
    made_of : (v : Word) → word p.statement ≡ v → of d ≡ node_of chain (node_in D) d (draft_node ms p.at p.statement v)
    made_of v is = ap (λ (x : Draft). node_of chain (node_in D) d x.node) p.made ∙ ap (λ u. node_of chain (node_in D) d (draft_node ms p.at p.statement u)) is

    keys_at : (l : ListNode) → of d ≡ node.List l → HasItsKeys s d.names l
    keys_at l is = nodes (λ v state. word p.statement ≡ v → HasItsKeys s d.names l)
        (λ e. absurd (false≢true (ap is_list (sym (made_of Container e) ∙ is))))
        (λ e. has_keys e l (sym (ap keys_in (sym (made_of ListOf e) ∙ is))))
        (λ e. absurd (false≢true (ap is_list (sym (made_of Leaf e) ∙ is))))
        (λ e. absurd (false≢true (ap is_list (sym (made_of LeafList e) ∙ is))))
        (word p.statement) (is_state p.statement) p.is_node refl

    -- a key's list
    module _ (names : List (List ℕ)) (name : List ℕ) (called : d.names ≡ names ++ name ∷ []) where
      parts : (p.at.names ≡ names) × (name_behind p.at.owner p.at.names (argument p.statement) ≡ name)
      parts = same_from_push p.at.names names (name_behind p.at.owner p.at.names (argument p.statement)) name (sym (ap (λ (x : Draft). x.names) p.made) ∙ called)

      module _ (x : List ℕ) (x_in : In p.at.keys x) (same : same_text (argument p.statement) x ≡ true) where
        keyed_in : (w : Within ms free D p.at) (n : DraftNode) → w.node.node ≡ n → Opens n p.at.keys → IsKeyedBy s names name
        keyed_in w draft.Container is opens = absurd (subst (λ (ks : List (List ℕ)). In ks x) opens x_in)
        keyed_in w (draft.List l) is opens = record {
          keyed = l;
          here = ap (node_at s) (sym (w.names ∙ parts.0)) ∙ node_there D s table w.node w.here ∙ ap (λ n. Some (node_of chain (node_in D) w.node n)) is;
          key = contains_in l.keys name (subst (λ (k : List ℕ). In l.keys k)
              (sym (same_text-is (argument p.statement) x same) ∙ sym (name_inside p.at.owner (argument p.statement) p.at.names w.named) ∙ parts.1)
              (subst (λ (ks : List (List ℕ)). In ks x) (sym opens) x_in));
        }
        keyed_in w (draft.Leaf l) is opens = absurd opens
        keyed_in w (draft.LeafList l) is opens = absurd opens

        keyed_by : ((p.at.names ≡ []) × (p.at.keys ≡ [])) ⊎ Within ms free D p.at → IsKeyedBy s names name
        keyed_by (inl top) = absurd (subst (λ (ks : List (List ℕ)). In ks x) top.1 x_in)
        keyed_by (inr w) = keyed_in w w.node.node refl w.opens

      its_list : is_list_key (Some (of d)) ≡ true → IsKeyedBy s names name
      its_list is = nodes (λ v state. word p.statement ≡ v → IsKeyedBy s names name)
          (λ e. absurd (false≢true (ap (λ n. is_list_key (Some n)) (sym (made_of Container e)) ∙ is)))
          (λ e. absurd (false≢true (ap (λ n. is_list_key (Some n)) (sym (made_of ListOf e)) ∙ is)))
          (λ e. let r = position_in (same_text (argument p.statement)) p.at.keys [] (ap (λ n. is_list_key (Some n)) (sym (made_of Leaf e)) ∙ is) in
          keyed_by r.0 r.1 r.2 p.around.outer)
          (λ e. absurd (false≢true (ap (λ n. is_list_key (Some n)) (sym (made_of LeafList e)) ∙ is)))
          (word p.statement) (is_state p.statement) p.is_node refl

  keys : (names : List (List ℕ)) (l : ListNode) → node_at s names ≡ Some (node.List l) → HasItsKeys s names l
  keys names l h =
      let d = node_from D s table names (node.List l) h in
      subst (λ (ns : List (List ℕ)). HasItsKeys s ns l) d.2 (keys_at d.0 d.1 l d.3)

  no_other_key : (names : List (List ℕ)) (name : List ℕ) → is_list_key (node_at s (names ++ name ∷ [])) ≡ true → IsKeyedBy s names name
  no_other_key names name h = on (node_at s (names ++ name ∷ [])) refl h
    where
      on : (o : Option line.Node) → node_at s (names ++ name ∷ []) ≡ o → is_list_key o ≡ true → IsKeyedBy s names name
      on None is key = absurd (false≢true key)
      on (Some n) is key =
          let d = node_from D s table (names ++ name ∷ []) n is in
          its_list d.0 d.1 names name d.2 (ap (λ m. is_list_key (Some m)) d.3 ∙ key)

  pub sound : IsSound s
  sound = record { named = named; parents = parents; keys = keys; no_other_key = no_other_key }

pub schemas_are_sound : SchemasAreSound
schemas_are_sound modules s builds whole = sound modules s
    (first_none (fault_here (the_modules modules)) (module_places [] modules) (none_first (module_fault modules) (first_link_fault (drafts modules)) builds.0)) whole builds.1
