-- Where the nodes of modules without fault come to stand: each but the top ones in a container or a list.
use Rattle.std.proofs.Common.{◌≡◌, refl, sym, ◌∙◌, ap, subst, List, [], ◌∷◌, ◌++◌, ℕ, zero, suc, ◌≤◌, inl, inr, Bool, true, false, cond, arith}
use Rattle.std.specs.Prelude.{◌⊎◌, ◌&&◌, not, Option, Some, None, codes, ◌==◌, unwrap_or, option_map}
use Rattle.std.specs.List.{list_all, list_any}
use Rattle.std.specs.Option.{option_map_or}
use Rattle.std.proofs.lemmas.Bool.{false≢true, eqb-true}
use Rattle.orc_path.specs.Alphabet.{is_identifier, is_qualified, is_qualified_rest, is_name_byte, is_name_start}
use Rattle.orc_yang.specs.declared.statement.Stmt.{Stmt}
use Rattle.orc_types.specs.Statements.{subs, argument, is_a, has, first_of}
use Rattle.orc_modules.specs.declared.word.Word.{Word}
use Rattle.orc_modules.specs.declared.word.Word.TheVariants.{Module, Container, List as ListOf, Leaf, LeafList, Uses, Key}
use Rattle.orc_modules.specs.declared.parts.Part.{Part}
use Rattle.orc_modules.specs.declared.parts.Part.TheVariants.{Node as node, Uses as uses, Nothing as nothing}
use Rattle.orc_modules.specs.Statements.{word, is_state, reads, is_read, module_places}
use Rattle.orc_modules.specs.Children.{block_part, grouping, is_deeper, deeper_at, deeper_in}
use Rattle.orc_modules.specs.Scopes.{Modules, Found}
use Rattle.orc_schema.specs.declared.draft.Draft.{Draft}
use Rattle.orc_schema.specs.declared.draft.DraftNode.{DraftNode}
use Rattle.orc_schema.specs.declared.draft.DraftNode.TheVariants as draft
use Rattle.orc_statements.specs.Placement.{stands_in, is_module}
use Rattle.orc_statements.specs.Cuts.{words}
use Rattle.orc_statements.specs.Arguments.{is_well, is_typed_well, keys_of, inherits_well}
use Rattle.orc_schema.specs.Drafts.{Where, name_behind, names_at, draft as draft_at, draft_node, inside_node, in_grouping, drafts_at, drafts_in, drafts_below, drafts_of, inside_module}
use Rattle.orc_schema.specs.Schemas.{is_deep_module}
use Rattle.orc_schema_nodes.specs.Sound.{are_node_names}
use Rattle.orc_schema.proofs.SoundLists.{In, and_left, and_right, and_both, not_false, in_left, in_right, in_either, all_pass-push, found_in, any_fails}
use Rattle.orc_schema.proofs.SoundWords.{is_scope, nodes, used, word_is, node_read, uses_read, fault_none, Free, Well, Good, at, placed, formed, well_below, module_well, module_good, grouping_good}

-- Names ---------------------------------------------------------------------------------------------------------------
no_colon : (byte : ℕ) → is_name_byte byte ≡ true → (byte == 58) ≡ false
no_colon byte h = on (byte == 58) refl
  where
    on : (b : Bool) → (byte == 58) ≡ b → (byte == 58) ≡ false
    on true is = absurd (false≢true (subst (λ n. is_name_byte n ≡ true) (eqb-true byte 58 is) h))
    on false is = is

qualified_rest : (rest name : List ℕ) → list_all is_name_byte rest ≡ true → is_identifier name ≡ true → is_qualified_rest (rest ++ 58 ∷ name) ≡ true
qualified_rest [] name h is = is
qualified_rest (byte ∷ rest) name h is =
    let b : is_name_byte byte ≡ true = and_left (is_name_byte byte) (list_all is_name_byte rest) h in
    ap (λ c. cond c (is_identifier (rest ++ 58 ∷ name)) (is_name_byte byte && is_qualified_rest (rest ++ 58 ∷ name))) (no_colon byte b)
    ∙ and_both (is_name_byte byte) (is_qualified_rest (rest ++ 58 ∷ name)) b (qualified_rest rest name (and_right (is_name_byte byte) (list_all is_name_byte rest) h) is)

qualified : (owner name : List ℕ) → is_identifier owner ≡ true → is_identifier name ≡ true → is_qualified (owner ++ 58 ∷ name) ≡ true
qualified [] name h is = absurd (false≢true h)
qualified (byte ∷ rest) name h is = and_both (is_name_start byte) (is_qualified_rest (rest ++ 58 ∷ name)) (and_left (is_name_start byte) (list_all is_name_byte rest) h)
    (qualified_rest rest name (and_right (is_name_start byte) (list_all is_name_byte rest) h) is)

first_name : (owner name : List ℕ) (names : List (List ℕ)) → names ≡ [] → is_identifier owner ≡ true → is_identifier name ≡ true → are_node_names (names ++ name_behind owner names name ∷ []) ≡ true
first_name owner name names e h is = subst (λ ns. are_node_names (ns ++ name_behind owner ns name ∷ []) ≡ true) (sym e) (and_both (is_qualified (owner ++ 58 ∷ name)) true (qualified owner name h is) refl)

later_name : (owner name : List ℕ) (names : List (List ℕ)) → are_node_names names ≡ true → is_identifier name ≡ true → are_node_names (names ++ name_behind owner names name ∷ []) ≡ true
later_name owner name [] h is = absurd (false≢true h)
later_name owner name (first ∷ later) h is = and_both (is_qualified first) (list_all is_identifier (later ++ name ∷ [])) (and_left (is_qualified first) (list_all is_identifier later) h)
    (all_pass-push is_identifier later name (and_right (is_qualified first) (list_all is_identifier later) h) is)

-- A block's statements ------------------------------------------------------------------------------------------------
module _ (ms : Modules) (below : Where → Stmt → List Draft) (w : Where) where
  abbrev of_one : Stmt → List Draft
  of_one t = drafts_at ms below w t (block_part t)

  pub from_block : (ss : List Stmt) (d : Draft) → In (drafts_in ms below w ss) d → (t : Stmt) × In ss t × In (of_one t) d
  from_block [] d h = absurd h
  from_block (t ∷ ss) d h = on (in_either (of_one t) (drafts_in ms below w ss) d h) (from_block ss d)
    where
      on : In (of_one t) d ⊎ In (drafts_in ms below w ss) d → (In (drafts_in ms below w ss) d → (u : Stmt) × In ss u × In (of_one u) d) → (u : Stmt) × In (t ∷ ss) u × In (of_one u) d
      on (inl here) rest = (t, inl refl, here)
      on (inr later) rest = let r = rest later in (r.0, inr r.1, r.2)

  pub to_block : (ss : List Stmt) (t : Stmt) → In ss t → (d : Draft) → In (of_one t) d → In (drafts_in ms below w ss) d
  to_block [] t i d h = absurd i
  to_block (s ∷ ss) t (inl e) d h = in_left (of_one s) (drafts_in ms below w ss) d (subst (λ u. In (of_one u) d) (sym e) h)
  to_block (s ∷ ss) t (inr i) d h = in_right (of_one s) (drafts_in ms below w ss) d (to_block ss t i d h)

-- What keys a node gives to the leaves in it: a leaf has none in it.
abbrev pub Opens : DraftNode → List (List ℕ) → Type 0
Opens draft.Container keys = keys ≡ []
Opens (draft.List l) keys = l.keys ≡ keys
Opens (draft.Leaf l) keys = ⊥
Opens (draft.LeafList l) keys = ⊥

module _ (ms : Modules) where
  -- the names of statements
  module _ (above : List Stmt) (s : Stmt) (w : Well ms above s) where
    pub well : is_well ms (at ms above s w) (word s) ≡ true
    well = not_false (is_well ms (at ms above s w) (word s)) (fault_none (not (is_well ms (at ms above s w) (word s))) _ (formed ms above s w))

    pub well_at : (v : Word) → word s ≡ v → is_well ms (at ms above s w) v ≡ true
    well_at v is = ap (is_well ms (at ms above s w)) (sym is) ∙ well

    pub node_name : block_part s ≡ node → is_identifier (argument s) ≡ true
    node_name is = nodes (λ v state. word s ≡ v → is_identifier (argument s) ≡ true)
        (well_at Container)
        (well_at ListOf)
        (λ h. and_left (is_identifier (argument s)) (has (codes "type") (subs s)) (and_left (is_typed_well s) (inherits_well ms (at ms above s w)) (well_at Leaf h)))
        (λ h. and_left (is_identifier (argument s)) (has (codes "type") (subs s)) (well_at LeafList h))
        (word s) (is_state s) is refl

    pub module_name : word s ≡ Module → is_identifier (argument s) ≡ true
    module_name is = and_left (is_identifier (argument s)) (has (codes "namespace") (subs s) && has (codes "prefix") (subs s)) (well_at Module is)

    -- what brings nodes into a block is read there, and placed
    pub brought_well : is_scope (word s) ≡ true → (t : Stmt) → In (subs s) t → (block_part t ≡ node) ⊎ (block_part t ≡ uses) → Well ms (s ∷ above) t
    brought_well scope t i (inl is) = well_below ms above s w t i (node_read (word s) scope (word t) (is_state t) is)
    brought_well scope t i (inr is) = well_below ms above s w t i (uses_read (word s) scope (word t) (is_state t) is)

    -- a leaf and a leaf-list bring nothing
    module _ (v : Word) (is : word s ≡ v) (scope : is_scope v ≡ true)
        (no_container : stands_in v Container ≡ false) (no_list : stands_in v ListOf ≡ false) (no_leaf : stands_in v Leaf ≡ false) (no_values : stands_in v LeafList ≡ false) (no_uses : stands_in v Uses ≡ false) where
      there : (t : Stmt) → In (subs s) t → (block_part t ≡ node) ⊎ (block_part t ≡ uses) → stands_in v (word t) ≡ true
      there t i h = ap (λ u. stands_in u (word t)) (sym is) ∙ placed ms (s ∷ above) t (brought_well (ap is_scope is ∙ scope) t i h)

      no_node : (t : Stmt) → In (subs s) t → block_part t ≡ node → ⊥
      no_node t i h = false≢true (sym (nodes (λ u state. stands_in v u ≡ false) no_container no_list no_leaf no_values (word t) (is_state t) h) ∙ there t i (inl h))

      no_use : (t : Stmt) → In (subs s) t → block_part t ≡ uses → ⊥
      no_use t i h = false≢true (sym (used (λ u. stands_in v u ≡ false) no_uses (word t) (is_state t) h) ∙ there t i (inr h))

      nothing_at : (below : Where → Stmt → List Draft) (v' : Where) (t : Stmt) → In (subs s) t → (d : Draft) (p : Part) → block_part t ≡ p → In (drafts_at ms below v' t p) d → ⊥
      nothing_at below v' t i d node is h = no_node t i is
      nothing_at below v' t i d uses is h = no_use t i is
      nothing_at below v' t i d nothing is h = h

      nothing_in : (n : ℕ) (v' : Where) (d : Draft) → In (drafts_below n ms v' s) d → ⊥
      nothing_in zero v' d h = h
      nothing_in (suc n) v' d h = let r = from_block ms (drafts_below n ms) v' (subs s) d h in
          nothing_at (drafts_below n ms) v' r.0 r.1 d (block_part r.0) refl r.2

    leaf_empty : word s ≡ Leaf → (n : ℕ) (v' : Where) (d : Draft) → In (drafts_below n ms v' s) d → ⊥
    leaf_empty is = nothing_in Leaf is refl refl refl refl refl refl

    values_empty : word s ≡ LeafList → (n : ℕ) (v' : Where) (d : Draft) → In (drafts_below n ms v' s) d → ⊥
    values_empty is = nothing_in LeafList is refl refl refl refl refl refl

    -- a container has no keys
    no_keys : word s ≡ Container → keys_of s ≡ []
    no_keys is = on (first_of (codes "key") (subs s)) refl
      where
        on : (o : Option Stmt) → first_of (codes "key") (subs s) ≡ o → keys_of s ≡ []
        on None none = ap (λ (o : Option Stmt). words (unwrap_or (option_map argument o) [])) none
        on (Some k) some =
            let f = found_in (is_a (codes "key")) (subs s) k some in
            let key : word k ≡ Key = word_is k (codes "key") f.1 in
            let read : is_read (word s) k ≡ true = ap (λ v. reads v (word k) (is_state k)) is ∙ ap (λ v. reads Container v (is_state k)) key in
            absurd (false≢true (ap (λ v. stands_in Container v) (sym key) ∙ ap (λ u. stands_in u (word k)) (sym is) ∙ placed ms (s ∷ above) k (well_below ms above s w k f.0 read)))

  -- Where nodes come to stand -------------------------------------------------------------------------------------------
  module _ (free : Free ms (module_places [] ms.all)) (D : List Draft) where
    -- the node in which a block stands
    pub record Within (w : Where) : Type 0 where
      pub node : Draft
      pub here : In D node
      pub names : node.names ≡ w.names
      pub named : are_node_names w.names ≡ true
      pub opens : Opens node.node w.keys

    pub record Around (w : Where) : Type 0 where
      pub owner : is_identifier w.owner ≡ true
      pub outer : ((w.names ≡ []) × (w.keys ≡ [])) ⊎ Within w

    -- what stands in a statement, whole
    pub record Inside (n : ℕ) (w : Where) (s : Stmt) : Type 0 where
      pub outer : List Stmt
      pub head : w.above ≡ s ∷ outer
      pub good : Good ms w.above
      pub shallow : is_deeper n ms.all w.above s ≡ false
      pub around : Around w
      pub each : (d : Draft) → In (drafts_below n ms w s) d → In D d

    pub record Placed (d : Draft) : Type 0 where
      pub at : Where
      pub statement : Stmt
      pub is_node : block_part statement ≡ node
      pub made : d ≡ draft_at ms at statement
      pub well : Well ms at.above statement
      pub around : Around at
      pub depth : ℕ
      pub most : depth ≤ ms.most
      pub inside : word statement ≡ ListOf → Inside depth (inside_node at statement) statement

    pub named_at : (w : Where) (s : Stmt) → Around w → is_identifier (argument s) ≡ true → are_node_names (names_at w s) ≡ true
    named_at w s a is = on a.outer
      where
        on : ((w.names ≡ []) × (w.keys ≡ [])) ⊎ Within w → are_node_names (names_at w s) ≡ true
        on (inl top) = first_name w.owner (argument s) w.names top.0 a.owner is
        on (inr inner) = later_name w.owner (argument s) w.names inner.named is

    -- one statement of a block
    module _ (n : ℕ) (le : suc n ≤ ms.most) (ih : (w : Where) (s : Stmt) → Inside n w s → (d : Draft) → In (drafts_below n ms w s) d → Placed d)
        (w : Where) (s : Stmt) (i : Inside (suc n) w s) (t : Stmt) (t_in : In (subs s) t) where
      good_head : Good ms (s ∷ i.outer)
      good_head = subst (λ a. Good ms a) i.head i.good

      well_t : (block_part t ≡ node) ⊎ (block_part t ≡ uses) → Well ms w.above t
      well_t h = subst (λ a. Well ms a t) (sym i.head) (brought_well i.outer s good_head.0 good_head.1 t t_in h)

      shallow_t : (p : Part) → block_part t ≡ p → deeper_at (is_deeper n ms.all) ms.all w.above t p ≡ false
      shallow_t p is = ap (deeper_at (is_deeper n ms.all) ms.all w.above t) (sym is) ∙ any_fails (λ u. deeper_at (is_deeper n ms.all) ms.all w.above u (block_part u)) (subs s) i.shallow t t_in

      each_t : (p : Part) → block_part t ≡ p → (d : Draft) → In (drafts_at ms (drafts_below n ms) w t p) d → In D d
      each_t p is d h = i.each d (to_block ms (drafts_below n ms) w (subs s) t t_in d (subst (λ q. In (drafts_at ms (drafts_below n ms) w t q) d) (sym is) h))

      -- a node that holds others
      held : (is : block_part t ≡ node) → is_scope (word t) ≡ true → Opens (draft_node ms w t (word t)) (keys_of t) → Inside n (inside_node w t) t
      held is scope opens = record {
        outer = w.above;
        head = refl;
        good = (well_t (inl is), scope, i.good);
        shallow = shallow_t node is;
        around = record {
          owner = i.around.owner;
          outer = inr (record {
            node = draft_at ms w t;
            here = each_t node is (draft_at ms w t) (inl refl);
            names = refl;
            named = named_at w t i.around (node_name w.above t (well_t (inl is)) is);
            opens = opens;
          });
        };
        each = λ d h. each_t node is d (inr h);
      }

      list_opens : word t ≡ ListOf → Opens (draft_node ms w t (word t)) (keys_of t)
      list_opens is = subst (λ v. Opens (draft_node ms w t v) (keys_of t)) (sym is) refl

      container_opens : block_part t ≡ node → word t ≡ Container → Opens (draft_node ms w t (word t)) (keys_of t)
      container_opens node_is is = subst (λ v. Opens (draft_node ms w t v) (keys_of t)) (sym is) (no_keys w.above t (well_t (inl node_is)) is)

      in_node : (is : block_part t ≡ node) (d : Draft) → In (drafts_below n ms (inside_node w t) t) d → Placed d
      in_node is d h = nodes (λ v state. word t ≡ v → Placed d)
          (λ e. ih (inside_node w t) t (held is (ap is_scope e) (container_opens is e)) d h)
          (λ e. ih (inside_node w t) t (held is (ap is_scope e) (list_opens e)) d h)
          (λ e. absurd (leaf_empty w.above t (well_t (inl is)) e n (inside_node w t) d h))
          (λ e. absurd (values_empty w.above t (well_t (inl is)) e n (inside_node w t) d h))
          (word t) (is_state t) is refl

      itself : (is : block_part t ≡ node) (d : Draft) → draft_at ms w t ≡ d → Placed d
      itself is d e = record {
        at = w;
        statement = t;
        is_node = is;
        made = sym e;
        well = well_t (inl is);
        around = i.around;
        depth = n;
        most = omega (arith, le);
        inside = λ e. held is (ap is_scope e) (list_opens e);
      }

      in_uses : (is : block_part t ≡ uses) (o : Option Found) → grouping ms.all w.above t ≡ o → (d : Draft) → In (option_map_or (λ g. drafts_below n ms (in_grouping w g) g.here) o []) d → Placed d
      in_uses is None found d h = absurd h
      in_uses is (Some g) found d h = ih (in_grouping w g) g.here (record {
        outer = g.above;
        head = refl;
        good = grouping_good ms free w.above t g i.good found;
        shallow = ap (λ o. option_map_or (deeper_in (is_deeper n ms.all)) o false) (sym found) ∙ shallow_t uses is;
        around = record { owner = i.around.owner; outer = outer i.around.outer };
        each = λ e k. each_t uses is e (subst (λ o. In (option_map_or (λ x. drafts_below n ms (in_grouping w x) x.here) o []) e) (sym found) k);
      }) d h
        where
          outer : ((w.names ≡ []) × (w.keys ≡ [])) ⊎ Within w → ((w.names ≡ []) × (w.keys ≡ [])) ⊎ Within (in_grouping w g)
          outer (inl top) = inl top
          outer (inr inner) = inr (record { node = inner.node; here = inner.here; names = inner.names; named = inner.named; opens = inner.opens })

      at_statement : (p : Part) → block_part t ≡ p → (d : Draft) → In (drafts_at ms (drafts_below n ms) w t p) d → Placed d
      at_statement node is d (inl e) = itself is d e
      at_statement node is d (inr h) = in_node is d h
      at_statement uses is d h = in_uses is (grouping ms.all w.above t) refl d h
      at_statement nothing is d h = absurd h

    walk : (n : ℕ) → n ≤ ms.most → (w : Where) (s : Stmt) → Inside n w s → (d : Draft) → In (drafts_below n ms w s) d → Placed d
    walk zero le w s i d h = absurd h
    walk (suc n) le w s i d h =
        let r = from_block ms (drafts_below n ms) w (subs s) d h in
        at_statement n le (λ v u j e k. walk n (omega (arith, le)) v u j e k) w s i r.0 r.1 (block_part r.0) refl d r.2

    module_is : (w : Word) → is_module w ≡ true → w ≡ Module
    module_is Module h = refl
    module_is w h = absurd (false≢true h)

    of_module : (m : Stmt) → In ms.all m → is_deep_module ms m ≡ false → ((d : Draft) → In (drafts_below ms.most ms (inside_module m) m) d → In D d) → (d : Draft) → In (drafts_below ms.most ms (inside_module m) m) d → Placed d
    of_module m i shallow each d h =
        let w = module_well ms free m i in
        walk ms.most (omega arith) (inside_module m) m (record {
          outer = [];
          head = refl;
          good = module_good ms free m i;
          shallow = shallow;
          around = record { owner = module_name [] m w (module_is (word m) (placed ms [] m w)); outer = inl (refl, refl) };
          each = each;
        }) d h

    of_modules : (modules : List Stmt) → ((m : Stmt) → In modules m → In ms.all m) → ((m : Stmt) → In modules m → is_deep_module ms m ≡ false)
        → ((d : Draft) → In (drafts_of ms modules) d → In D d) → (d : Draft) → In (drafts_of ms modules) d → Placed d
    of_modules [] known shallow each d h = absurd h
    of_modules (m ∷ rest) known shallow each d h = on (in_either (drafts_below ms.most ms (inside_module m) m) (drafts_of ms rest) d h)
        (of_modules rest (λ x i. known x (inr i)) (λ x i. shallow x (inr i)) (λ e k. each e (in_right (drafts_below ms.most ms (inside_module m) m) (drafts_of ms rest) e k)) d)
      where
        on : In (drafts_below ms.most ms (inside_module m) m) d ⊎ In (drafts_of ms rest) d → (In (drafts_of ms rest) d → Placed d) → Placed d
        on (inl here) later = of_module m (known m (inl refl)) (shallow m (inl refl)) (λ e k. each e (in_left (drafts_below ms.most ms (inside_module m) m) (drafts_of ms rest) e k)) d here
        on (inr there) later = later there

  pub all_placed : (free : Free ms (module_places [] ms.all)) → list_any (is_deep_module ms) ms.all ≡ false → (d : Draft) → In (drafts_of ms ms.all) d → Placed free (drafts_of ms ms.all) d
  all_placed free shallow = of_modules free (drafts_of ms ms.all) ms.all (λ m i. i) (λ m i. any_fails (is_deep_module ms) ms.all shallow m i) (λ d h. h)
