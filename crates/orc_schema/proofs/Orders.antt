-- The order of statements and of nodes.
use Rattle.std.proofs.Common.{◌≡◌, refl, sym, ◌∙◌, ap, subst, List, [], ◌∷◌, ◌++◌, map, ℕ, ◌+◌, ◌≤◌, Bool, true, false, cond, arith}
use Rattle.std.specs.Prelude.{Some}
use Rattle.std.specs.List.{find, AllByRecursion, sum_by}
use Rattle.std.specs.List.Sorted.{IsPermutation}
use Rattle.std.proofs.lemmas.Bool.{false≢true}
use Rattle.std.proofs.lemmas.List.{append_assoc}
use Rattle.std.proofs.lemmas.List.Sums.{sum_by-cons}
use Rattle.std.proofs.lemmas.List.Sorted.{IsPermutation-trans, IsPermutation-sym, IsPermutation-map, IsPermutation-append_left, IsPermutation-append_right, IsPermutation-append_comm, sum_by-IsPermutation}
use Rattle.orc_yang.specs.declared.statement.Stmt.{Stmt}
use Rattle.orc_modules.specs.Scopes.{Modules}
use Rattle.orc_modules.specs.Children.{block_part}
use Rattle.orc_schema.specs.declared.draft.Draft.{Draft}
use Rattle.orc_schema.specs.Drafts.{Where, drafts_at, drafts_in, drafts_below}
use Rattle.orc_schema.specs.Links.{Lookup, chain, node_in, has_names}
use Rattle.orc_schema_nodes.specs.Schemas.{SchemaTable}
use Rattle.orc_schema.specs.Schemas.{schema_line, schema_lines, IsTableOf}
use Rattle.orc_schema.specs.Laws.{OrderIsFree, NodesMakeOneTable}
use Rattle.orc_schema_nodes.proofs.Ordered.{Names, find_shuffled, fail_alone, some_is}
use Rattle.orc_schema.proofs.InOrder.{one_at, count, one_most}

-- statements that change places
module _ (ms : Modules) (below : Where → Stmt → List Draft) (w : Where) where
  abbrev of_block : List Stmt → List Draft
  of_block ss = drafts_in ms below w ss

  abbrev of_one : Stmt → List Draft
  of_one s = drafts_at ms below w s (block_part s)

  of_block-append : (xs ys : List Stmt) → of_block (xs ++ ys) ≡ of_block xs ++ of_block ys
  of_block-append [] ys = refl
  of_block-append (x ∷ xs) ys = ap (λ r. of_one x ++ r) (of_block-append xs ys) ∙ sym (append_assoc (of_one x) (of_block xs) (of_block ys))

  swapped : (s t : Stmt) (back : List Stmt) → IsPermutation (of_block (s ∷ t ∷ back)) (of_block (t ∷ s ∷ back))
  swapped s t back = subst (λ l. IsPermutation l (of_block (t ∷ s ∷ back))) (append_assoc (of_one s) (of_one t) (of_block back))
      (subst (λ l. IsPermutation ((of_one s ++ of_one t) ++ of_block back) l) (append_assoc (of_one t) (of_one s) (of_block back))
      (IsPermutation-append_left (of_block back) (of_one s ++ of_one t) (of_one t ++ of_one s) (IsPermutation-append_comm (of_one s) (of_one t))))

  places_change : (front : List Stmt) (s t : Stmt) (back : List Stmt) → IsPermutation (of_block (front ++ s ∷ t ∷ back)) (of_block (front ++ t ∷ s ∷ back))
  places_change front s t back = subst (λ l. IsPermutation l (of_block (front ++ t ∷ s ∷ back))) (sym (of_block-append front (s ∷ t ∷ back)))
      (subst (λ l. IsPermutation (of_block front ++ of_block (s ∷ t ∷ back)) l) (sym (of_block-append front (t ∷ s ∷ back)))
      (IsPermutation-append_right (of_block front) (of_block (s ∷ t ∷ back)) (of_block (t ∷ s ∷ back)) (swapped s t back)))

pub order_is_free : OrderIsFree
order_is_free n ms w front s t back = places_change ms (drafts_below n ms) w front s t back

-- one that passes at most
module _ {X : Type 0} (p : X → Bool) where
  abbrev one : X → ℕ
  one x = cond (p x) 1 0

  none_pass : (xs : List X) → sum_by one xs ≡ 0 → AllByRecursion (λ x. p x ≡ false) xs
  none_pass [] h = tt
  none_pass (x ∷ xs) h = on (p x) refl (none_pass xs)
    where
      on : (b : Bool) → p x ≡ b → (sum_by one xs ≡ 0 → AllByRecursion (λ y. p y ≡ false) xs) → AllByRecursion (λ y. p y ≡ false) (x ∷ xs)
      on true is rest =
          let c : sum_by one (x ∷ xs) ≡ one x + sum_by one xs = sum_by-cons one x xs in
          let passes : one x ≡ 1 = ap (λ b. cond b 1 0) is in
          absurd (omega (arith, c, passes, h))
      on false is rest =
          let c : sum_by one (x ∷ xs) ≡ one x + sum_by one xs = sum_by-cons one x xs in
          (is, rest (omega (arith, c, h)))

  one_passes : (y : X) (xs : List X) → sum_by one xs ≤ 1 → find p xs ≡ Some y → AllByRecursion (λ x. p x ≡ true → x ≡ y) xs
  one_passes y [] few h = tt
  one_passes y (x ∷ xs) few h = on (p x) refl h (one_passes y xs)
    where
      on : (b : Bool) → p x ≡ b → cond b (Some x) (find p xs) ≡ Some y → (sum_by one xs ≤ 1 → find p xs ≡ Some y → AllByRecursion (λ z. p z ≡ true → z ≡ y) xs)
          → AllByRecursion (λ z. p z ≡ true → z ≡ y) (x ∷ xs)
      on true is first rest =
          let c : sum_by one (x ∷ xs) ≡ one x + sum_by one xs = sum_by-cons one x xs in
          let passes : one x ≡ 1 = ap (λ b. cond b 1 0) is in
          ((λ t. some_is x x y first), fail_alone p y xs (none_pass xs (omega (arith, c, passes, few))))
      on false is later rest =
          let c : sum_by one (x ∷ xs) ≡ one x + sum_by one xs = sum_by-cons one x xs in
          ((λ t. absurd (false≢true (sym is ∙ t))), rest (omega (arith, c, few)) later)

-- nodes that change places
module _ (look : Lookup) (k : Names) where
  abbrev here : Draft → ℕ
  here d = cond (has_names k d) 1 0

  as_many : (ds : List Draft) → sum_by here ds ≡ count k (map (schema_line chain look) ds)
  as_many [] = refl
  as_many (d ∷ ds) =
      let c : sum_by here (d ∷ ds) ≡ here d + sum_by here ds = sum_by-cons here d ds in
      let e : count k (map (schema_line chain look) (d ∷ ds)) ≡ here d + count k (map (schema_line chain look) ds) = sum_by-cons (one_at k) (schema_line chain look d) (map (schema_line chain look) ds) in
      omega (arith, c, e, as_many ds)

module _ (ds es : List Draft) (s : SchemaTable) (shuffled : IsPermutation ds es) (h : IsTableOf ds s) where
  one_most_has : (k : Names) → sum_by (λ d. cond (has_names k d) 1 0) ds ≤ 1
  one_most_has k = subst (λ n. n ≤ 1) (sum_by-IsPermutation (one_at k) (schema_lines ds) s.lines h.lines ∙ sym (as_many (node_in ds) k ds)) (one_most k s.lines h.order)

  found_same : (k : Names) → node_in es k ≡ node_in ds k
  found_same k = find_shuffled (has_names k) es ds (IsPermutation-sym ds es shuffled) (λ y found. one_passes (has_names k) y ds (one_most_has k) found)

  looks_alike : node_in es ≡ node_in ds
  looks_alike = λ i k. found_same k i

  same_table : IsTableOf es s
  same_table = record {
    typed = h.typed;
    lines = IsPermutation-trans (schema_lines es) (schema_lines ds) s.lines
        (subst (λ look. IsPermutation (map (schema_line chain look) es) (schema_lines ds)) (sym looks_alike) (IsPermutation-map (schema_line chain (node_in ds)) es ds (IsPermutation-sym ds es shuffled)))
        h.lines;
    order = h.order;
  }

pub nodes_make_one_table : NodesMakeOneTable
nodes_make_one_table ds es s shuffled h = same_table ds es s shuffled h
