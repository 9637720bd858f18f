-- The changes of a plan are exactly the difference of the trees before and after it.
use Rattle.std.proofs.Common.{◌≡◌, Bool, true, false, cond, ◌&&◌, T, List, [], ◌∷◌, ◌++◌, Some, None, refl, sym, ap, ◌∙◌, is_some}
use Rattle.std.specs.Prelude.{is_none}
use Rattle.std.specs.declared.option.Option.{Option}
use Rattle.std.specs.Ordering.{eq_by_cmp, is_lt}
use Rattle.std.specs.FinMap.{get, entries, entries_sorted, find, is_sorted, get-entries}
use Rattle.std.specs.FinMap.Entries.{below_all, same_entries}
use Rattle.std.proofs.lemmas.Bool.{cond-true, cond-false}
use Rattle.orc_path.specs.Steps.{PathStep}
use Rattle.orc_path.specs.Order.{path_cmp}
use Rattle.orc_path.proofs.Bools.{first_of_both, second_of_both}
use Rattle.orc_path.proofs.PathOrder.{path_cmp_total, path_cmp_exact}
use Rattle.orc_path.specs.Configurations.{Config}
use Rattle.orc_path.proofs.ConfigurationLaws.{same_path}
use Rattle.orc_path.specs.declared.item.Item.{Item}
use Rattle.orc_tree.specs.declared.change.Change.{Change}
use Rattle.orc_tree.specs.declared.change.Change.TheVariants.{Put, Remove}
use Rattle.orc_change.specs.Differences.{has_item, removals, new_puts, difference}
use Rattle.orc_change.specs.inside.Held.{AreHeld}
use Rattle.orc_change.proofs.Exact.{entries_are, has_itself}
use Rattle.orc_refs.specs.Stores.{Backs}
use Rattle.orc_refs.specs.inside.Plans.{gone, come, due, removals_due, puts_due, changes_due}
use Rattle.orc_refs.specs.declared.moves.Move.{Move}

abbrev pub Paths : Type 0
Paths = List (List PathStep × Unit {0})

-- Rows picked by path

abbrev pub Items : Type 0
Items = List (List PathStep × Item)

both : (a b : Bool) → T a → T b → T (a && b)
both true b p q = q
both false b p q = absurd p

cond_none : {A : Type 0} (b : Bool) → ◌≡◌ {A = Option A} (cond b None None) None
cond_none true = refl
cond_none false = refl

module _ {X : Type 0} (f : List PathStep → Option Item) where
  -- of the paths of these rows those at which the function has an item, with it
  abbrev pub picked : List (List PathStep × X) → Items
  picked [] = []
  picked (e ∷ es) = elim (f e.0) [ None ↦ picked es | Some item ↦ (e.0, item) ∷ picked es ]

  below-picked : (x : List PathStep) (es : List (List PathStep × X)) → T (below_all path_cmp x es) → T (below_all path_cmp x (picked es))
  below-picked x [] h = tt
  below-picked x (e ∷ es) h =
      let first = first_of_both (is_lt (path_cmp x e.0)) (below_all path_cmp x es) h in
      let rest = below-picked x es (second_of_both (is_lt (path_cmp x e.0)) (below_all path_cmp x es) h) in
      elim (f e.0) as (λ o. T (below_all path_cmp x (elim o [ None ↦ picked es | Some item ↦ (e.0, item) ∷ picked es ]))) [ None ↦ rest | Some item ↦ both _ _ first rest ]

  pub sorted-picked : (es : List (List PathStep × X)) → T (is_sorted path_cmp es) → T (is_sorted path_cmp (picked es))
  sorted-picked [] h = tt
  sorted-picked (e ∷ es) h =
      let below = below-picked e.0 es (first_of_both (below_all path_cmp e.0 es) (is_sorted path_cmp es) h) in
      let rest = sorted-picked es (second_of_both (below_all path_cmp e.0 es) (is_sorted path_cmp es) h) in
      elim (f e.0) as (λ o. T (is_sorted path_cmp (elim o [ None ↦ picked es | Some item ↦ (e.0, item) ∷ picked es ]))) [ None ↦ rest | Some item ↦ both _ _ below rest ]

  pub find-picked : (es : List (List PathStep × X)) (q : List PathStep) → find path_cmp q (picked es) ≡ cond (is_some (find path_cmp q es)) (f q) None
  find-picked [] q = refl
  find-picked (e ∷ es) q = by (find-picked es q) (eq_by_cmp path_cmp q e.0) refl
    where
      none_here : (o : Option Item) → f q ≡ o → o ≡ None → find path_cmp q (picked es) ≡ cond (is_some (find path_cmp q es)) (f q) None → find path_cmp q (picked es) ≡ f q
      none_here o is none rest = rest ∙ ap (λ (x : Option Item). cond (is_some (find path_cmp q es)) x None) (is ∙ none) ∙ cond_none (is_some (find path_cmp q es)) ∙ sym (is ∙ none)

      by : find path_cmp q (picked es) ≡ cond (is_some (find path_cmp q es)) (f q) None → (t : Bool) → eq_by_cmp path_cmp q e.0 ≡ t
          → find path_cmp q (elim (f e.0) [ None ↦ picked es | Some item ↦ (e.0, item) ∷ picked es ]) ≡ cond (is_some (cond t (Some e.1) (find path_cmp q es))) (f q) None
      by rest true h =
          elim (f e.0) as (λ o. f e.0 ≡ o → find path_cmp q (elim o [ None ↦ picked es | Some item ↦ (e.0, item) ∷ picked es ]) ≡ f q) [
            | None ↦ λ is. none_here (f q) refl (ap f (same_path q e.0 h) ∙ is) rest
            | Some item ↦ λ is. cond-true _ _ _ h ∙ sym is ∙ ap f (sym (same_path q e.0 h))
          ] refl
      by rest false h =
          elim (f e.0) as (λ o. find path_cmp q (elim o [ None ↦ picked es | Some item ↦ (e.0, item) ∷ picked es ]) ≡ cond (is_some (find path_cmp q es)) (f q) None) [
            | None ↦ rest
            | Some item ↦ cond-false _ _ _ h ∙ rest
          ]

-- two picks of equal items are equal
picked_same : {X Y : Type 0} (f g : List PathStep → Option Item) (es : List (List PathStep × X)) (ds : List (List PathStep × Y)) → T (is_sorted path_cmp es) → T (is_sorted path_cmp ds)
    → ((q : List PathStep) → cond (is_some (find path_cmp q es)) (f q) None ≡ cond (is_some (find path_cmp q ds)) (g q) None) → picked f es ≡ picked g ds
picked_same f g es ds s t same =
    same_entries path_cmp path_cmp_total path_cmp_exact (picked f es) (picked g ds) (sorted-picked f es s) (sorted-picked g ds t) (λ q. find-picked f es q ∙ same q ∙ sym (find-picked g ds q))

-- What is put, and what is removed, as picks

abbrev as_puts : Items → List Change
as_puts [] = []
as_puts (e ∷ es) = Put e.0 e.1 ∷ as_puts es

abbrev as_removals : Items → List Change
as_removals [] = []
as_removals (e ∷ es) = Remove e.0 ∷ as_removals es

-- the item that is to stand somewhere, where it doesn't
abbrev new_at : Option Item → Option Item → Option Item
new_at here None = None
new_at here (Some item) = cond (has_item here item) None (Some item)

-- the item that stands somewhere, where none is to
abbrev old_at : Option Item → Option Item → Option Item
old_at here None = here
old_at here (Some item) = None

new_at-same : (o : Option Item) → new_at o o ≡ None
new_at-same None = refl
new_at-same (Some item) = cond-true _ _ _ (has_itself item)

old_at-same : (o : Option Item) → old_at o o ≡ None
old_at-same None = refl
old_at-same (Some item) = refl

puts_due-picked : (b : Backs) (tree base : Config) (ms : List Move) (es : Paths) → puts_due b tree base ms es ≡ as_puts (picked (λ q. new_at (get tree q) (due b tree base ms q)) es)
puts_due-picked b tree base ms [] = refl
puts_due-picked b tree base ms (e ∷ es) = by (puts_due-picked b tree base ms es) (due b tree base ms e.0)
  where
    rest_of : Items
    rest_of = picked (λ q. new_at (get tree q) (due b tree base ms q)) es

    by : puts_due b tree base ms es ≡ as_puts rest_of → (o : Option Item)
        → (come (get tree e.0) o e.0 ++ puts_due b tree base ms es) ≡ as_puts (elim (new_at (get tree e.0) o) [ None ↦ rest_of | Some item ↦ (e.0, item) ∷ rest_of ])
    by rest None = rest
    by rest (Some item) =
        elim (has_item (get tree e.0) item) as (λ t. (cond t [] (Put e.0 item ∷ []) ++ puts_due b tree base ms es)
        ≡ as_puts (elim (cond t None (Some item)) [ None ↦ rest_of | Some item ↦ (e.0, item) ∷ rest_of ])) [ true ↦ rest | false ↦ ap (λ l. Put e.0 item ∷ l) rest ]

removals_due-picked : (b : Backs) (tree base : Config) (ms : List Move) (es : Paths) → removals_due b tree base ms es ≡ as_removals (picked (λ q. old_at (get tree q) (due b tree base ms q)) es)
removals_due-picked b tree base ms [] = refl
removals_due-picked b tree base ms (e ∷ es) = by (removals_due-picked b tree base ms es) (get tree e.0) (due b tree base ms e.0)
  where
    rest_of : Items
    rest_of = picked (λ q. old_at (get tree q) (due b tree base ms q)) es

    by : removals_due b tree base ms es ≡ as_removals rest_of → (h o : Option Item)
        → (gone h o e.0 ++ removals_due b tree base ms es) ≡ as_removals (elim (old_at h o) [ None ↦ rest_of | Some item ↦ (e.0, item) ∷ rest_of ])
    by rest h (Some item) = rest
    by rest None None = rest
    by rest (Some item) None = ap (λ l. Remove e.0 ∷ l) rest

puts-picked : (from to : Config) (es : Items) → AreHeld to es → new_puts es from ≡ as_puts (picked (λ q. new_at (get from q) (get to q)) es)
puts-picked from to [] are = refl
puts-picked from to (e ∷ es) are =
    by (puts-picked from to es are.1)
    ∙ sym (ap (λ (o : Option Item). as_puts (elim (new_at (get from e.0) o) [ None ↦ rest_of | Some item ↦ (e.0, item) ∷ rest_of ])) are.0)
  where
    rest_of : Items
    rest_of = picked (λ q. new_at (get from q) (get to q)) es

    by : new_puts es from ≡ as_puts rest_of → cond (has_item (get from e.0) e.1) (new_puts es from) (Put e.0 e.1 ∷ new_puts es from)
        ≡ as_puts (elim (cond (has_item (get from e.0) e.1) None (Some e.1)) [ None ↦ rest_of | Some item ↦ (e.0, item) ∷ rest_of ])
    by rest = elim (has_item (get from e.0) e.1) as (λ t. cond t (new_puts es from) (Put e.0 e.1 ∷ new_puts es from) ≡ as_puts (elim (cond t None (Some e.1)) [ None ↦ rest_of | Some item ↦ (e.0, item) ∷ rest_of ])) [
      | true ↦ rest
      | false ↦ ap (λ l. Put e.0 e.1 ∷ l) rest
    ]

removals-picked : (from to : Config) (es : Items) → AreHeld from es → removals es to ≡ as_removals (picked (λ q. old_at (get from q) (get to q)) es)
removals-picked from to [] are = refl
removals-picked from to (e ∷ es) are =
    by (removals-picked from to es are.1) (get to e.0)
    ∙ sym (ap (λ (h : Option Item). as_removals (elim (old_at h (get to e.0)) [ None ↦ rest_of | Some item ↦ (e.0, item) ∷ rest_of ])) are.0)
  where
    rest_of : Items
    rest_of = picked (λ q. old_at (get from q) (get to q)) es

    by : removals es to ≡ as_removals rest_of → (o : Option Item) → cond (is_none o) (Remove e.0 ∷ removals es to) (removals es to)
        ≡ as_removals (elim (old_at (Some e.1) o) [ None ↦ rest_of | Some item ↦ (e.0, item) ∷ rest_of ])
    by rest None = ap (λ l. Remove e.0 ∷ l) rest
    by rest (Some item) = rest

-- the changes of a plan are exactly the difference, where the tree after it has what is due and nothing else changes
pub changes_exact : (b : Backs) (tree base new : Config) (ms : List Move) (es : Paths) → T (is_sorted path_cmp es)
    → ((q : List PathStep) → get new q ≡ due b tree base ms q) → ((q : List PathStep) → is_some (find path_cmp q es) ≡ false → due b tree base ms q ≡ get tree q)
    → changes_due b tree base ms es ≡ difference tree new
changes_exact b tree base new ms es sorted is outside =
    ap (λ l. l ++ puts_due b tree base ms es) (removals_due-picked b tree base ms es ∙ ap as_removals same_removals ∙ sym (removals-picked tree new (entries tree) (entries_are tree)))
    ∙ ap (λ l. removals (entries tree) new ++ l) (puts_due-picked b tree base ms es ∙ ap as_puts same_puts ∙ sym (puts-picked tree new (entries new) (entries_are new)))
  where
    n : List PathStep → Option Item
    n = due b tree base ms

    find_of : (m : Config) (q : List PathStep) → is_some (find path_cmp q (entries m)) ≡ is_some (get m q)
    find_of m q = ap is_some (sym (get-entries m q))

    same_removals : picked (λ q. old_at (get tree q) (n q)) es ≡ picked (λ q. old_at (get tree q) (get new q)) (entries tree)
    same_removals = picked_same _ _ es (entries tree) sorted (entries_sorted tree) (λ q. at q (is_some (find path_cmp q es)) refl ∙ sym (all q))
      where
        none_old : (h o : Option Item) → cond (is_some h) (old_at h o) None ≡ old_at h o
        none_old None None = refl
        none_old None (Some item) = refl
        none_old (Some item) o = refl

        all : (q : List PathStep) → cond (is_some (find path_cmp q (entries tree))) (old_at (get tree q) (get new q)) None ≡ old_at (get tree q) (n q)
        all q = ap (λ t. cond t (old_at (get tree q) (get new q)) None) (find_of tree q) ∙ none_old (get tree q) (get new q) ∙ ap (old_at (get tree q)) (is q)

        at : (q : List PathStep) (t : Bool) → is_some (find path_cmp q es) ≡ t → cond t (old_at (get tree q) (n q)) None ≡ old_at (get tree q) (n q)
        at q true e = refl
        at q false e = sym (ap (old_at (get tree q)) (outside q e) ∙ old_at-same (get tree q))

    same_puts : picked (λ q. new_at (get tree q) (n q)) es ≡ picked (λ q. new_at (get tree q) (get new q)) (entries new)
    same_puts = picked_same _ _ es (entries new) sorted (entries_sorted new) (λ q. at q (is_some (find path_cmp q es)) refl ∙ sym (all q))
      where
        none_new : (h o : Option Item) → cond (is_some o) (new_at h o) None ≡ new_at h o
        none_new h None = refl
        none_new h (Some item) = refl

        all : (q : List PathStep) → cond (is_some (find path_cmp q (entries new))) (new_at (get tree q) (get new q)) None ≡ new_at (get tree q) (n q)
        all q = ap (λ t. cond t (new_at (get tree q) (get new q)) None) (find_of new q) ∙ none_new (get tree q) (get new q) ∙ ap (new_at (get tree q)) (is q)

        at : (q : List PathStep) (t : Bool) → is_some (find path_cmp q es) ≡ t → cond t (new_at (get tree q) (n q)) None ≡ new_at (get tree q) (n q)
        at q true e = refl
        at q false e = sym (ap (new_at (get tree q)) (outside q e) ∙ new_at-same (get tree q))
