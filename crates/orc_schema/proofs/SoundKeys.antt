-- The keys of a list in modules without fault: each is a leaf that the list has, also by its groupings.
use Rattle.std.proofs.Common.{◌≡◌, refl, sym, ◌∙◌, ap, subst, List, [], ◌∷◌, ℕ, zero, suc, ◌≤◌, inl, inr, Bool, true, false, cond, arith}
use Rattle.std.specs.Prelude.{◌⊎◌, not, nat_lt, length, Option, Some, None, codes, is_some, unwrap_or, option_map}
use Rattle.std.specs.List.{find, list_all, IsDistinct}
use Rattle.std.specs.Option.{option_map_or}
use Rattle.std.proofs.lemmas.Bool.{false≢true}
use Rattle.orc_path.specs.Alphabet.{is_identifier}
use Rattle.orc_value.specs.Canon.{same_text}
use Rattle.orc_yang.specs.declared.statement.Stmt.{Stmt}
use Rattle.orc_types.specs.Statements.{subs, argument, is_a, has}
use Rattle.orc_types.specs.Paths.{is_reference}
use Rattle.orc_modules.specs.declared.word.Word.TheVariants.{List as ListOf, Uses, Key}
use Rattle.orc_modules.specs.declared.parts.Part.{Part}
use Rattle.orc_modules.specs.declared.parts.Part.TheVariants.{Node as node, Uses as uses, Nothing as nothing}
use Rattle.orc_modules.specs.Statements.{word, is_state, reads, module_places}
use Rattle.orc_modules.specs.Children.{block_part, grouping, is_deeper, deeper_at, deeper_in, child, children_by, brought, brought_by, children, is_leaf_named}
use Rattle.orc_modules.specs.Scopes.{Modules, Found}
use Rattle.orc_statements.specs.declared.fault.SchemaFault.TheVariants.{Unknown, Duplicate}
use Rattle.orc_statements.specs.Cuts.{words}
use Rattle.orc_statements.specs.Gaps.{gap_in, gap_at, is_incomplete}
use Rattle.orc_statements.specs.Names.{is_unknown_grouping, is_unknown_key, is_complete, unknown, unknown_key, duplicate, repeated, repeated_among, leaf_around}
use Rattle.orc_statements.specs.Arguments.{keys_of, are_identifiers}
use Rattle.orc_statements.specs.Faults.{no_key}
use Rattle.orc_schema.specs.Drafts.{Where, draft as draft_at, in_grouping, drafts_at, drafts_below}
use Rattle.orc_schema.proofs.SoundLists.{In, and_left, and_right, and_not, not_false, none_second, none_mapped, some_there, in_either, found_in, none_found, any_fails, none_passes, any_found, all_pass, none_repeated}
use Rattle.orc_schema.proofs.SoundWords.{used, word_is, fault_none, Free, Well, Good, at, known, new, keyed, well_below, grouping_good}
use Rattle.orc_schema.proofs.SoundNodes.{to_block, well_at, brought_well}

-- the place of a block, for what stands elsewhere
abbrev pub moved : Where → Found → Where
moved w c = record { above = c.above; owner = w.owner; names = w.names; keys = w.keys }

from_children : (inner : Found → List Found) (modules above ss : List Stmt) (c : Found) → In (children_by inner modules above ss) c → (t : Stmt) × In ss t × In (child inner modules above t (block_part t)) c
from_children inner modules above [] c h = absurd h
from_children inner modules above (t ∷ ss) c h = on (in_either (child inner modules above t (block_part t)) (children_by inner modules above ss) c h) (from_children inner modules above ss c)
  where
    on : In (child inner modules above t (block_part t)) c ⊎ In (children_by inner modules above ss) c → (In (children_by inner modules above ss) c → (u : Stmt) × In ss u × In (child inner modules above u (block_part u)) c)
        → (u : Stmt) × In (t ∷ ss) u × In (child inner modules above u (block_part u)) c
    on (inl here) rest = (t, inl refl, here)
    on (inr later) rest = let r = rest later in (r.0, inr r.1, r.2)

module _ (ms : Modules) where
  -- What a block has, also by its groupings, are nodes there ------------------------------------------------------------
  module _ (n : ℕ) (inner : Found → List Found) (w : Where) (s : Stmt) (shallow : is_deeper (suc n) ms.all w.above s ≡ false)
      (ih : (g : Found) → is_deeper n ms.all (g.here ∷ g.above) g.here ≡ false → (c : Found) → In (inner g) c → In (drafts_below n ms (in_grouping w g) g.here) (draft_at ms (moved w c) c.here)) where
    by_uses : (o : Option Found) → option_map_or (deeper_in (is_deeper n ms.all)) o false ≡ false → (c : Found) → In (option_map_or inner o []) c
        → In (option_map_or (λ g. drafts_below n ms (in_grouping w g) g.here) o []) (draft_at ms (moved w c) c.here)
    by_uses None h c i = absurd i
    by_uses (Some g) h c i = ih g h c i

    by_one : (t : Stmt) (p : Part) → deeper_at (is_deeper n ms.all) ms.all w.above t p ≡ false → (c : Found) → In (child inner ms.all w.above t p) c → In (drafts_at ms (drafts_below n ms) w t p) (draft_at ms (moved w c) c.here)
    by_one t node h c (inl e) = subst (λ (x : Found). In (drafts_at ms (drafts_below n ms) w t node) (draft_at ms (moved w x) x.here)) e (inl refl)
    by_one t node h c (inr i) = absurd i
    by_one t uses h c i = by_uses (grouping ms.all w.above t) h c i
    by_one t nothing h c i = absurd i

    by_block : (c : Found) → In (children_by inner ms.all w.above (subs s)) c → In (drafts_below (suc n) ms w s) (draft_at ms (moved w c) c.here)
    by_block c h =
        let r = from_children inner ms.all w.above (subs s) c h in
        to_block ms (drafts_below n ms) w (subs s) r.0 r.1 (draft_at ms (moved w c) c.here)
        (by_one r.0 (block_part r.0) (any_fails (λ u. deeper_at (is_deeper n ms.all) ms.all w.above u (block_part u)) (subs s) shallow r.0 r.1) c r.2)

  pub brought_in : (n k : ℕ) (w : Where) (s : Stmt) → is_deeper n ms.all w.above s ≡ false → (c : Found) → In (brought k ms.all w.above (subs s)) c → In (drafts_below n ms w s) (draft_at ms (moved w c) c.here)
  brought_in zero k w s h c i = absurd (false≢true (sym h))
  brought_in (suc n) zero w s h c i = absurd i
  brought_in (suc n) (suc k) w s h c i = by_block n (λ g. brought k ms.all (g.here ∷ g.above) (subs g.here)) w s h
      (λ g shallow x j. brought_in n k (in_grouping w g) g.here shallow x j) c i

  from_grouping : (k : ℕ) (g c : Found) (b : Bool) → In (cond b [] (brought k ms.all (g.here ∷ g.above) (subs g.here))) c → In (brought k ms.all (g.here ∷ g.above) (subs g.here)) c
  from_grouping k g c true i = absurd i
  from_grouping k g c false i = i

  pub children_in : (n k : ℕ) (w : Where) (s : Stmt) → is_deeper n ms.all w.above s ≡ false → (c : Found) → In (children k ms.all w.above (subs s)) c → In (drafts_below n ms w s) (draft_at ms (moved w c) c.here)
  children_in zero k w s h c i = absurd (false≢true (sym h))
  children_in (suc n) k w s h c i = by_block n (brought_by k ms.all) w s h
      (λ g shallow x j. brought_in n k (in_grouping w g) g.here shallow x (from_grouping k g x (deeper_in (is_deeper k ms.all) g) j)) c i

  -- Each `uses` leads to a grouping -------------------------------------------------------------------------------------
  module _ (free : Free ms (module_places [] ms.all)) where
    uses_found : (above : List Stmt) (s : Stmt) (w : Well ms above s) → word s ≡ Uses → (g : Found) × (grouping ms.all above s ≡ Some g)
    uses_found above s w is = some_there (grouping ms.all above s)
        (and_not (is_reference (argument s)) (is_some (grouping ms.all above s))
        (fault_none (is_unknown_grouping ms (at ms above s w)) _ (ap (unknown ms (at ms above s w)) (sym is) ∙ known ms above s w))
        (well_at ms above s w Uses is))

    module _ (n k : ℕ) (ih : (outer : List Stmt) (s : Stmt) → Good ms (s ∷ outer) → is_deeper n ms.all (s ∷ outer) s ≡ false → is_incomplete k ms.all (s ∷ outer) s ≡ false)
        (outer : List Stmt) (s : Stmt) (good : Good ms (s ∷ outer)) (shallow : is_deeper (suc n) ms.all (s ∷ outer) s ≡ false) (t : Stmt) (t_in : In (subs s) t) where
      no_gap : (p : Part) → block_part t ≡ p → gap_at (is_incomplete k ms.all) ms.all (s ∷ outer) t p ≡ false
      no_gap node is = refl
      no_gap nothing is = refl
      no_gap uses is =
          let w : Well ms (s ∷ outer) t = brought_well ms outer s good.0 good.1 t t_in (inr is) in
          let g = uses_found (s ∷ outer) t w (used (λ v. v ≡ Uses) refl (word t) (is_state t) is) in
          let deep : deeper_at (is_deeper n ms.all) ms.all (s ∷ outer) t uses ≡ false
          = ap (deeper_at (is_deeper n ms.all) ms.all (s ∷ outer) t) (sym is) ∙ any_fails (λ u. deeper_at (is_deeper n ms.all) ms.all (s ∷ outer) u (block_part u)) (subs s) shallow t t_in in
          ap (λ o. option_map_or (gap_in (is_incomplete k ms.all)) o true) g.1
          ∙ ih g.0.above g.0.here (grouping_good ms free (s ∷ outer) t g.0 good g.1) (ap (λ o. option_map_or (deeper_in (is_deeper n ms.all)) o false) (sym g.1) ∙ deep)

    complete : (n k : ℕ) → n ≤ k → (outer : List Stmt) (s : Stmt) → Good ms (s ∷ outer) → is_deeper n ms.all (s ∷ outer) s ≡ false → is_incomplete k ms.all (s ∷ outer) s ≡ false
    complete zero k le outer s good shallow = absurd (false≢true (sym shallow))
    complete (suc n) zero le outer s good shallow = absurd (omega (arith, le))
    complete (suc n) (suc k) le outer s good shallow = none_passes (λ t. gap_at (is_incomplete k ms.all) ms.all (s ∷ outer) t (block_part t)) (subs s)
        (λ t i. no_gap n k (λ o u g h. complete n k (omega (arith, le)) o u g h) outer s good shallow t i (block_part t) refl)

    -- The keys of a list ------------------------------------------------------------------------------------------------
    module _ (above : List Stmt) (l : Stmt) (w : Well ms above l) (is : word l ≡ ListOf) where
      has_key : (k : Stmt) × (find (is_a (codes "key")) (subs l) ≡ Some k)
      has_key = any_found (is_a (codes "key")) (subs l)
          (not_false (has (codes "key") (subs l)) (fault_none (not (has (codes "key") (subs l))) _ (ap (no_key (at ms above l w)) (sym is) ∙ keyed ms above l w)))

      abbrev key : Stmt
      key = has_key.0

      key_found : In (subs l) key × (is_a (codes "key") key ≡ true)
      key_found = found_in (is_a (codes "key")) (subs l) key has_key.1

      key_word : word key ≡ Key
      key_word = word_is key (codes "key") key_found.1

      key_well : Well ms (l ∷ above) key
      key_well = well_below ms above l w key key_found.0 (ap (λ v. reads v (word key) (is_state key)) is ∙ ap (λ v. reads ListOf v (is_state key)) key_word)

      keys_are : keys_of l ≡ words (argument key)
      keys_are = ap (λ (o : Option Stmt). words (unwrap_or (option_map argument o) [])) has_key.1

      identifiers : are_identifiers (words (argument key)) ≡ true
      identifiers = and_left (are_identifiers (words (argument key))) _ (well_at ms (l ∷ above) key key_well Key key_word)

      not_empty : (names : List (List ℕ)) → nat_lt 0 (length names) ≡ true → names ≡ [] → ⊥
      not_empty names h e = false≢true (subst (λ (ns : List (List ℕ)). nat_lt 0 (length ns) ≡ true) e h)

      pub some_key : keys_of l ≡ [] → ⊥
      some_key e = not_empty (words (argument key)) (and_left (nat_lt 0 (length (words (argument key)))) (list_all is_identifier (words (argument key))) identifiers) (sym keys_are ∙ e)

      pub keys_differ : IsDistinct same_text (keys_of l)
      keys_differ = subst (λ (ks : List (List ℕ)). IsDistinct same_text ks) (sym keys_are) (none_repeated (words (argument key))
          (none_mapped Duplicate (repeated_among [] (words (argument key)))
          (none_second (repeated (at ms (l ∷ above) key key_well)) (option_map Duplicate (repeated_among [] (words (argument key))))
          (ap (duplicate ms (at ms (l ∷ above) key key_well)) (sym key_word) ∙ new ms (l ∷ above) key key_well))))

      -- where it is seen whole
      module _ (n : ℕ) (most : n ≤ ms.most) (good : Good ms (l ∷ above)) (shallow : is_deeper n ms.all (l ∷ above) l ≡ false) where
        whole : is_complete ms (l ∷ above) ≡ true
        whole = ap not (complete n ms.most most above l good shallow)

        all_known : find (is_unknown_key ms (l ∷ above)) (words (argument key)) ≡ None
        all_known = sym (ap (λ b. cond b (find (is_unknown_key ms (l ∷ above)) (words (argument key))) None) whole)
            ∙ none_mapped Unknown (unknown_key ms (at ms (l ∷ above) key key_well)) (ap (unknown ms (at ms (l ∷ above) key key_well)) (sym key_word) ∙ known ms (l ∷ above) key key_well)

        pub leaf_of : (name : List ℕ) → In (keys_of l) name → (c : Found) × In (children ms.most ms.all (l ∷ above) (subs l)) c × (is_leaf_named name c ≡ true)
        leaf_of name i =
            let j : In (words (argument key)) name = subst (λ (ks : List (List ℕ)). In ks name) keys_are i in
            let identifier : is_identifier name ≡ true = all_pass is_identifier (words (argument key)) (and_right (nat_lt 0 (length (words (argument key)))) (list_all is_identifier (words (argument key))) identifiers) name j in
            let c = some_there (leaf_around ms (l ∷ above) name) (and_not (is_identifier name) (is_some (leaf_around ms (l ∷ above) name)) (none_found (is_unknown_key ms (l ∷ above)) (words (argument key)) all_known name j) identifier) in
            let f = found_in (is_leaf_named name) (children ms.most ms.all (l ∷ above) (subs l)) c.0 c.1 in
            (c.0, f.0, f.1)
