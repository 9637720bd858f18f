-- What a plan makes of a store.
use Rattle.std.proofs.Common.{◌≡◌, ◌≢◌, ◌⊎◌, inl, inr, ⊎_elim, ℕ, zero, suc, ◌+◌, ◌<◌, length, take, drop, get_or, T, arith, Bool, true, false, cond, ◌&&◌, List, [], ◌∷◌, ◌++◌, Some, None, refl, sym, ap, subst, ◌∙◌, is_some}
use Rattle.std.specs.declared.option.Option.{Option}
use Rattle.std.specs.List.{list_all}
use Rattle.std.specs.Option.{option_map_or}
use Rattle.std.specs.declared.cmp.Ordering.TheVariants.{Less}
use Rattle.std.specs.Ordering.{eq_by_cmp, is_eq, is_lt}
use Rattle.std.specs.FinMap.Entries.{below_all}
use Rattle.std.proofs.lemmas.List.{append_assoc, drop_more, take_more}
use Rattle.std.specs.Cmp.{first_so, second_so}
use Rattle.std.specs.FinMap.{get, find, is_sorted, get-insert, get-remove}
use Rattle.std.proofs.lemmas.Bool.{false≢true, cases_Bool, cond-true, cond-false}
use Rattle.std.proofs.lemmas.Option.{none-some, same_Some}
use Rattle.orc_path.specs.Steps.{PathStep}
use Rattle.orc_path.specs.Order.{path_cmp}
use Rattle.orc_path.proofs.Bools.{first_of_both, second_of_both}
use Rattle.orc_path.proofs.PathOrder.{path_cmp_total}
use Rattle.orc_path.specs.Items.{fits}
use Rattle.orc_path.specs.Configurations.{Config, IsConfig}
use Rattle.orc_path.proofs.ConfigurationLaws.{same_path}
use Rattle.orc_path.specs.declared.item.Item.{Item}
use Rattle.orc_tree.specs.Changes.{applied, change_fits}
use Rattle.orc_tree.proofs.InOrder.{is_less}
use Rattle.orc_tree.specs.declared.change.Change.{Change}
use Rattle.orc_tree.specs.declared.change.Change.TheVariants.{Put}
use Rattle.orc_change.specs.Differences.{has_item}
use Rattle.orc_change.proofs.Exact.{has_item_is, Towards-append, Mentions-left, Mentions-right}
use Rattle.orc_change.proofs.Towards.{Towards, Mentions, applied_towards}
use Rattle.orc_refs.specs.Stores.{Store, Backs, IsStore, ids_in, ids_at}
use Rattle.orc_refs.specs.Moves.{are_distinct, StartAt, BringWhole}
use Rattle.orc_refs.specs.inside.Settling.{staying, ids_after, first_brought, all_bring, moves_touch}
use Rattle.orc_refs.specs.inside.Plans.{IsFirstClash, IsPlanned, gone, come, due, rows_due, removals_due, puts_due, changes_due, all_agree, with_row, with_rows, planned_store}
use Rattle.orc_refs.specs.declared.moves.Move.{Move}
use Rattle.orc_refs.proofs.ExactLaws.{Paths, changes_exact}
use Rattle.orc_refs.proofs.StoreLaws.{after, after_cases, after_ways, untouched_ids, untouched_item, untouched_bring, first_fits, IsAfter, after_is_store, after_written}

-- Back pointers

get-with_row : (q : List PathStep) (ids : List (List ℕ)) (b : Backs) (p : List PathStep) → ids_in (with_row q ids b) p ≡ cond (eq_by_cmp path_cmp p q) ids (ids_in b p)
get-with_row q [] b p =
    ap (λ (o : Option (List (List ℕ))). option_map_or (λ (x : List (List ℕ)). x) o []) (get-remove path_cmp_total b q p)
    ∙ elim (eq_by_cmp path_cmp p q) as (λ t. option_map_or (λ (x : List (List ℕ)). x) (cond t None (get b p)) [] ≡ cond t [] (ids_in b p)) [ true ↦ refl | false ↦ refl ]
get-with_row q (id ∷ ids) b p =
    ap (λ (o : Option (List (List ℕ))). option_map_or (λ (x : List (List ℕ)). x) o []) (get-insert path_cmp_total b q (id ∷ ids) p)
    ∙ elim (eq_by_cmp path_cmp p q) as (λ t. option_map_or (λ (x : List (List ℕ)). x) (cond t (Some (id ∷ ids)) (get b p)) [] ≡ cond t (id ∷ ids) (ids_in b p)) [ true ↦ refl | false ↦ refl ]

cond_same : {A : Type 0} (b : Bool) (x : A) → cond b x x ≡ x
cond_same true x = refl
cond_same false x = refl

ids-with_rows : (b : Backs) (ms : List Move) (es : Paths) (c : Backs) (p : List PathStep)
    → ids_in (with_rows (rows_due b ms es) c) p ≡ cond (is_some (find path_cmp p es)) (ids_after ms p (ids_in b p)) (ids_in c p)
ids-with_rows b ms [] c p = refl
ids-with_rows b ms (e ∷ es) c p =
    ids-with_rows b ms es (with_row e.0 (ids_after ms e.0 (ids_in b e.0)) c) p
    ∙ ap (cond (is_some (find path_cmp p es)) (ids_after ms p (ids_in b p))) (get-with_row e.0 (ids_after ms e.0 (ids_in b e.0)) c p)
    ∙ by (eq_by_cmp path_cmp p e.0) refl
  where
    by : (t : Bool) → eq_by_cmp path_cmp p e.0 ≡ t
        → cond (is_some (find path_cmp p es)) (ids_after ms p (ids_in b p)) (cond t (ids_after ms e.0 (ids_in b e.0)) (ids_in c p))
        ≡ cond (is_some (cond t (Some e.1) (find path_cmp p es))) (ids_after ms p (ids_in b p)) (ids_in c p)
    by true h =
        ap (λ (q : List PathStep). cond (is_some (find path_cmp p es)) (ids_after ms p (ids_in b p)) (ids_after ms q (ids_in b q))) (sym (same_path p e.0 h))
        ∙ cond_same (is_some (find path_cmp p es)) (ids_after ms p (ids_in b p))
    by false h = refl

some-with_row : (q : List PathStep) (ids : List (List ℕ)) (b : Backs) → ((p : List PathStep) → get b p ≢ Some []) → (p : List PathStep) → get (with_row q ids b) p ≢ Some []
some-with_row q [] b some p e = by (eq_by_cmp path_cmp p q) (sym (get-remove path_cmp_total b q p) ∙ e)
  where
    by : (t : Bool) → cond t None (get b p) ≡ Some [] → ⊥
    by true h = none-some [] h
    by false h = some p h
some-with_row q (id ∷ ids) b some p e = by (eq_by_cmp path_cmp p q) (sym (get-insert path_cmp_total b q (id ∷ ids) p) ∙ e)
  where
    by : (t : Bool) → cond t (Some (id ∷ ids)) (get b p) ≡ Some [] → ⊥
    by true h = let same : id ∷ ids ≡ [] = same_Some _ _ h in (let not_so : ⊥ = cc in not_so)
    by false h = some p h

some-with_rows : (rows : List (List PathStep × List (List ℕ))) (b : Backs) → ((p : List PathStep) → get b p ≢ Some []) → (p : List PathStep) → get (with_rows rows b) p ≢ Some []
some-with_rows [] b some = some
some-with_rows (row ∷ rows) b some = some-with_rows rows (with_row row.0 row.1 b) (some-with_row row.0 row.1 b some)

-- Agreement

agree_at : (b : Backs) (tree base : Config) (ms : List Move) (es : Paths) (p : List PathStep) → all_agree b tree base ms es ≡ true → is_some (find path_cmp p es) ≡ true
    → all_bring ms p (due b tree base ms p) ≡ true
agree_at b tree base ms [] p h f = absurd (false≢true f)
agree_at b tree base ms (e ∷ es) p h f = by (λ g. agree_at b tree base ms es p (second_so _ _ h) g) (eq_by_cmp path_cmp p e.0) refl f
  where
    by : (is_some (find path_cmp p es) ≡ true → all_bring ms p (due b tree base ms p) ≡ true) → (t : Bool) → eq_by_cmp path_cmp p e.0 ≡ t
        → is_some (cond t (Some e.1) (find path_cmp p es)) ≡ true → all_bring ms p (due b tree base ms p) ≡ true
    by rest true k g = subst (λ (q : List PathStep). all_bring ms q (due b tree base ms q) ≡ true) (sym (same_path p e.0 k)) (first_so _ _ h)
    by rest false k g = rest g

-- these paths are all that moves touch, and all at which another base differs from a store's
pub record Covers (s : Store) (base : Config) (ms : List Move) (es : Paths) : Type 0 where
  pub touch : (p : List PathStep) → is_some (find path_cmp p es) ≡ false → moves_touch ms p ≡ false
  pub same : (p : List PathStep) → is_some (find path_cmp p es) ≡ false → get base p ≡ get s.base p

-- all that write a path agree, at each path
pub all_agreed : (s : Store) (base : Config) (ms : List Move) (es : Paths) → Covers s base ms es
    → all_agree s.backs s.tree base ms es ≡ true → (p : List PathStep) → all_bring ms p (after s base ms p) ≡ true
all_agreed s base ms es covers h p =
    ⊎_elim (λ t. agree_at s.backs s.tree base ms es p h t) (λ f. untouched_bring ms p (after s base ms p) (covers.touch p f)) (cases_Bool (is_some (find path_cmp p es)))

-- Changes

gone_towards : (n : List PathStep → Option Item) (here : Option Item) (p : List PathStep) → Towards n (gone here (n p) p)
gone_towards n here p = by here (n p) refl
  where
    by : (h o : Option Item) → n p ≡ o → Towards n (gone h o p)
    by h (Some item) e = tt
    by None None e = tt
    by (Some item) None e = (e, tt)

come_towards : (n : List PathStep → Option Item) (here : Option Item) (p : List PathStep) → Towards n (come here (n p) p)
come_towards n here p = by (n p) refl
  where
    by : (o : Option Item) → n p ≡ o → Towards n (come here o p)
    by None e = tt
    by (Some item) e = elim (has_item here item) as (λ t. Towards n (cond t [] (Put p item ∷ []))) [ true ↦ tt | false ↦ (e, tt) ]

removals_towards : (b : Backs) (tree base : Config) (ms : List Move) (es : Paths) → Towards (due b tree base ms) (removals_due b tree base ms es)
removals_towards b tree base ms [] = tt
removals_towards b tree base ms (e ∷ es) =
    Towards-append (due b tree base ms) (gone (get tree e.0) (due b tree base ms e.0) e.0) (removals_due b tree base ms es)
    (gone_towards (due b tree base ms) (get tree e.0) e.0) (removals_towards b tree base ms es)

puts_towards : (b : Backs) (tree base : Config) (ms : List Move) (es : Paths) → Towards (due b tree base ms) (puts_due b tree base ms es)
puts_towards b tree base ms [] = tt
puts_towards b tree base ms (e ∷ es) =
    Towards-append (due b tree base ms) (come (get tree e.0) (due b tree base ms e.0) e.0) (puts_due b tree base ms es)
    (come_towards (due b tree base ms) (get tree e.0) e.0) (puts_towards b tree base ms es)

gone_mentions : (p : List PathStep) (here after : Option Item) → after ≡ None → is_some here ≡ true → Mentions p (gone here after p)
gone_mentions p None after a h = absurd (false≢true h)
gone_mentions p (Some item) None a h = inl refl
gone_mentions p (Some item) (Some other) a h = absurd (none-some other (sym a))

come_mentions : (p : List PathStep) (here after : Option Item) (item : Item) → after ≡ Some item → has_item here item ≡ false → Mentions p (come here after p)
come_mentions p here None item a h = absurd (none-some item a)
come_mentions p here (Some other) item a h =
    let same : other ≡ item = same_Some _ _ a in
    subst (λ t. Mentions p (cond t [] (Put p other ∷ []))) (sym (ap (has_item here) same ∙ h)) (inl refl)

removals_mention : (b : Backs) (tree base : Config) (ms : List Move) (es : Paths) (p : List PathStep) → is_some (find path_cmp p es) ≡ true → due b tree base ms p ≡ None → is_some (get tree p) ≡ true
    → Mentions p (removals_due b tree base ms es)
removals_mention b tree base ms [] p f n h = absurd (false≢true f)
removals_mention b tree base ms (e ∷ es) p f n h = by (λ g. removals_mention b tree base ms es p g n h) (eq_by_cmp path_cmp p e.0) refl f
  where
    here : List Change
    here = gone (get tree e.0) (due b tree base ms e.0) e.0

    by : (is_some (find path_cmp p es) ≡ true → Mentions p (removals_due b tree base ms es)) → (t : Bool) → eq_by_cmp path_cmp p e.0 ≡ t → is_some (cond t (Some e.1) (find path_cmp p es)) ≡ true
        → Mentions p (here ++ removals_due b tree base ms es)
    by rest true k g =
        Mentions-left p here (removals_due b tree base ms es)
        (subst (λ (q : List PathStep). Mentions p (gone (get tree q) (due b tree base ms q) q)) (same_path p e.0 k) (gone_mentions p (get tree p) (due b tree base ms p) n h))
    by rest false k g = Mentions-right p here (removals_due b tree base ms es) (rest g)

puts_mention : (b : Backs) (tree base : Config) (ms : List Move) (es : Paths) (p : List PathStep) (item : Item) → is_some (find path_cmp p es) ≡ true → due b tree base ms p ≡ Some item
    → has_item (get tree p) item ≡ false → Mentions p (puts_due b tree base ms es)
puts_mention b tree base ms [] p item f n h = absurd (false≢true f)
puts_mention b tree base ms (e ∷ es) p item f n h = by (λ g. puts_mention b tree base ms es p item g n h) (eq_by_cmp path_cmp p e.0) refl f
  where
    here : List Change
    here = come (get tree e.0) (due b tree base ms e.0) e.0

    by : (is_some (find path_cmp p es) ≡ true → Mentions p (puts_due b tree base ms es)) → (t : Bool) → eq_by_cmp path_cmp p e.0 ≡ t → is_some (cond t (Some e.1) (find path_cmp p es)) ≡ true
        → Mentions p (here ++ puts_due b tree base ms es)
    by rest true k g =
        Mentions-left p here (puts_due b tree base ms es)
        (subst (λ (q : List PathStep). Mentions p (come (get tree q) (due b tree base ms q) q)) (same_path p e.0 k) (come_mentions p (get tree p) (due b tree base ms p) item n h))
    by rest false k g = Mentions-right p here (puts_due b tree base ms es) (rest g)

-- the changes lead to what is due at each path
pub changes_lead : (s : Store) (base : Config) (ms : List Move) (es : Paths) → IsStore s → IsConfig base → StartAt s ms → BringWhole ms
    → ((p : List PathStep) → all_bring ms p (after s base ms p) ≡ true) → Covers s base ms es
    → (p : List PathStep) → get (applied (changes_due s.backs s.tree base ms es) s.tree) p ≡ after s base ms p
changes_lead s base ms es is base_is start parts agree covers p =
    applied_towards (after s base ms) (after_ways s base ms is base_is parts agree) (changes_due s.backs s.tree base ms es)
    (Towards-append (after s base ms) (removals_due s.backs s.tree base ms es) (puts_due s.backs s.tree base ms es) (removals_towards s.backs s.tree base ms es) (puts_towards s.backs s.tree base ms es))
    s.tree p (by (is_some (find path_cmp p es)) refl)
  where
    removals : List Change
    removals = removals_due s.backs s.tree base ms es

    puts : List Change
    puts = puts_due s.backs s.tree base ms es

    touched : is_some (find path_cmp p es) ≡ true → (here o : Option Item) → get s.tree p ≡ here → after s base ms p ≡ o → (get s.tree p ≡ after s base ms p) ⊎ Mentions p (removals ++ puts)
    touched f None None h n = inl (h ∙ sym n)
    touched f (Some item) None h n = inr (Mentions-left p removals puts (removals_mention s.backs s.tree base ms es p f n (ap is_some h)))
    touched f here (Some item) h n = elim (has_item (get s.tree p) item) as (λ t. has_item (get s.tree p) item ≡ t → (get s.tree p ≡ after s base ms p) ⊎ Mentions p (removals ++ puts)) [
      | true ↦ λ k. inl (has_item_is (get s.tree p) item k ∙ sym n)
      | false ↦ λ k. inr (Mentions-right p removals puts (puts_mention s.backs s.tree base ms es p item f n k))
    ] refl

    by : (t : Bool) → is_some (find path_cmp p es) ≡ t → (get s.tree p ≡ after s base ms p) ⊎ Mentions p (removals ++ puts)
    by true h = touched h (get s.tree p) (after s base ms p) refl refl
    by false h = inl (sym (untouched_item s base ms p is start (covers.touch p h) (covers.same p h)))

-- and their items fit
after_fits : (s : Store) (base : Config) (ms : List Move) (p : List PathStep) (item : Item) → IsStore s → IsConfig base → BringWhole ms → after s base ms p ≡ Some item → fits p item ≡ true
after_fits s base ms p item is base_is parts e =
    ⊎_elim
    (λ (stays : (staying ms (ids_at s p) ≢ []) × (after s base ms p ≡ get s.tree p)). is.tree.fit p item (sym stays.1 ∙ e))
    (⊎_elim
    (λ (comes : (staying ms (ids_at s p) ≡ []) × ((is_some (first_brought ms p) ≡ true) × (after s base ms p ≡ first_brought ms p))). first_fits ms p item parts (sym comes.1.1 ∙ e))
    (λ (none : (staying ms (ids_at s p) ≡ []) × (first_brought ms p ≡ None) × (after s base ms p ≡ get base p)). base_is.fit p item (sym none.2 ∙ e)))
    (after_cases s base ms p)

both : (a b : Bool) → a ≡ true → b ≡ true → (a && b) ≡ true
both true b p q = q
both false b p q = p

all-append : (cs ds : List Change) → list_all change_fits cs ≡ true → list_all change_fits ds ≡ true → list_all change_fits (cs ++ ds) ≡ true
all-append [] ds c d = d
all-append (x ∷ cs) ds c d = both (change_fits x) _ (first_so _ _ c) (all-append cs ds (second_so _ _ c) d)

removals_fit : (b : Backs) (tree base : Config) (ms : List Move) (es : Paths) → list_all change_fits (removals_due b tree base ms es) ≡ true
removals_fit b tree base ms [] = refl
removals_fit b tree base ms (e ∷ es) = all-append (gone (get tree e.0) (due b tree base ms e.0) e.0) (removals_due b tree base ms es) (one (get tree e.0) (due b tree base ms e.0)) (removals_fit b tree base ms es)
  where
    one : (h o : Option Item) → list_all change_fits (gone h o e.0) ≡ true
    one h (Some item) = refl
    one None None = refl
    one (Some item) None = refl

puts_fit : (s : Store) (base : Config) (ms : List Move) (es : Paths) → IsStore s → IsConfig base → BringWhole ms → list_all change_fits (puts_due s.backs s.tree base ms es) ≡ true
puts_fit s base ms [] is base_is parts = refl
puts_fit s base ms (e ∷ es) is base_is parts =
    all-append (come (get s.tree e.0) (after s base ms e.0) e.0) (puts_due s.backs s.tree base ms es) (one (after s base ms e.0) refl) (puts_fit s base ms es is base_is parts)
  where
    one : (o : Option Item) → after s base ms e.0 ≡ o → list_all change_fits (come (get s.tree e.0) o e.0) ≡ true
    one None k = refl
    one (Some item) k = elim (has_item (get s.tree e.0) item) as (λ t. list_all change_fits (cond t [] (Put e.0 item ∷ [])) ≡ true) [
      | true ↦ refl
      | false ↦ both (fits e.0 item) true (after_fits s base ms e.0 item is base_is parts k) refl
    ]

pub changes_fit : (s : Store) (base : Config) (ms : List Move) (es : Paths) → IsStore s → IsConfig base → BringWhole ms → list_all change_fits (changes_due s.backs s.tree base ms es) ≡ true
changes_fit s base ms es is base_is parts =
    all-append (removals_due s.backs s.tree base ms es) (puts_due s.backs s.tree base ms es) (removals_fit s.backs s.tree base ms es) (puts_fit s base ms es is base_is parts)

-- where a path isn't touched nothing new is due
pub nothing_due : (s : Store) (base : Config) (ms : List Move) (es : Paths) → IsStore s → StartAt s ms → Covers s base ms es
    → (p : List PathStep) → is_some (find path_cmp p es) ≡ false → after s base ms p ≡ get s.tree p
nothing_due s base ms es is start covers p h = untouched_item s base ms p is start (covers.touch p h) (covers.same p h)

-- the store after a plan, where its tree is a configuration
planned : (s : Store) (base : Config) (ms : List Move) (es : Paths) → IsStore s → IsConfig base → StartAt s ms → BringWhole ms → ((p : List PathStep) → all_bring ms p (after s base ms p) ≡ true)
    → Covers s base ms es → IsAfter s (planned_store s base (changes_due s.backs s.tree base ms es) (rows_due s.backs ms es)) base ms
planned s base ms es is base_is start parts agree covers = record {
  base = refl;
  ids = λ p. ids-with_rows s.backs ms es s.backs p ∙ by p (is_some (find path_cmp p es)) refl;
  tree = changes_lead s base ms es is base_is start parts agree covers;
  some = some-with_rows (rows_due s.backs ms es) s.backs is.some;
}
  where
    by : (p : List PathStep) (t : Bool) → is_some (find path_cmp p es) ≡ t → cond (is_some (find path_cmp p es)) (ids_after ms p (ids_in s.backs p)) (ids_in s.backs p) ≡ ids_after ms p (ids_in s.backs p)
    by p true h = cond-true _ _ _ h
    by p false h = cond-false _ _ _ h ∙ sym (untouched_ids s ms p is start (covers.touch p h))

-- what a plan is
pub plan_is : (s : Store) (base : Config) (ms : List Move) (es : Paths) → IsStore s → IsConfig base → StartAt s ms → are_distinct ms ≡ true → BringWhole ms → T (is_sorted path_cmp es)
    → Covers s base ms es → all_agree s.backs s.tree base ms es ≡ true → IsPlanned s base ms (changes_due s.backs s.tree base ms es) (rows_due s.backs ms es)
plan_is s base ms es is base_is start distinct parts sorted covers agree =
    let agreed = all_agreed s base ms es covers agree in
    let t = planned_store s base (changes_due s.backs s.tree base ms es) (rows_due s.backs ms es) in
    let done : IsAfter s t base ms = planned s base ms es is base_is start parts agreed covers in
    record {
      written = after_written s t base ms done distinct agreed;
      store = λ config. after_is_store s t base ms is base_is parts done config;
      exact = changes_exact s.backs s.tree base t.tree ms es sorted done.tree (nothing_due s base ms es is start covers);
      fit = changes_fit s base ms es is base_is parts;
    }

-- as many rows as paths
pub length-rows_due : (b : Backs) (ms : List Move) (es : Paths) → length (rows_due b ms es) ≡ length es
length-rows_due b ms [] = refl
length-rows_due b ms (e ∷ es) = ap suc (length-rows_due b ms es)

-- The first clash

none_below : (q k : List PathStep) (es : Paths) → path_cmp q k ≡ Less → T (below_all path_cmp k es) → find path_cmp q es ≡ None
none_below q k [] l h = refl
none_below q k (e ∷ es) l h =
    let behind : path_cmp q e.0 ≡ Less = path_cmp_total.trans q k e.0 l (is_less (path_cmp k e.0) (first_of_both (is_lt (path_cmp k e.0)) (below_all path_cmp k es) h)) in
    cond-false _ _ _ (ap is_eq behind) ∙ none_below q k es l (second_of_both (is_lt (path_cmp k e.0)) (below_all path_cmp k es) h)

-- a path that comes before the one at a place stands before it
earlier : (es : Paths) (i : ℕ) (e : List PathStep × Unit {0}) (q : List PathStep) → T (is_sorted path_cmp es) → i < length es → e ≡ get_or es i e → path_cmp q e.0 ≡ Less
    → is_some (find path_cmp q es) ≡ true → is_some (find path_cmp q (take i es)) ≡ true
earlier [] i e q s l is less h = absurd (false≢true h)
earlier (f ∷ fs) zero e q s l is less h =
    let before : path_cmp q f.0 ≡ Less = subst (λ (x : List PathStep × Unit {0}). path_cmp q x.0 ≡ Less) is less in
    absurd (false≢true (sym (ap is_some (cond-false _ _ _ (ap is_eq before) ∙ none_below q f.0 fs before (first_of_both (below_all path_cmp f.0 fs) (is_sorted path_cmp fs) s))) ∙ h))
earlier (f ∷ fs) (suc i) e q s l is less h = by (λ g. earlier fs i e q (second_of_both (below_all path_cmp f.0 fs) (is_sorted path_cmp fs) s) (omega arith) is less g) (eq_by_cmp path_cmp q f.0) h
  where
    by : (is_some (find path_cmp q fs) ≡ true → is_some (find path_cmp q (take i fs)) ≡ true) → (t : Bool) → is_some (cond t (Some f.1) (find path_cmp q fs)) ≡ true → is_some (cond t (Some f.1) (find path_cmp q (take i fs))) ≡ true
    by rest true g = refl
    by rest false g = rest g

pub first_clash : (b : Backs) (tree base : Config) (ms : List Move) (es : Paths) (i : ℕ) (e : List PathStep × Unit {0}) → T (is_sorted path_cmp es) → i < length es → e ≡ get_or es i e
    → all_agree b tree base ms (take i es) ≡ true → all_bring ms e.0 (due b tree base ms e.0) ≡ false → IsFirstClash b tree base ms es e.0
first_clash b tree base ms es i e s l is agree here = record {
  here = here;
  before = λ q h less. agree_at b tree base ms (take i es) q agree (earlier es i e q s l is less h);
}

pub agree_more : (b : Backs) (tree base : Config) (ms : List Move) (es : Paths) (i : ℕ) (e : List PathStep × Unit {0}) → i < length es → e ≡ get_or es i e
    → all_agree b tree base ms (take i es) ≡ true → all_bring ms e.0 (due b tree base ms e.0) ≡ true → all_agree b tree base ms (take (i + 1) es) ≡ true
agree_more b tree base ms es i e l is agree here =
    ap (all_agree b tree base ms) (take_more es i e l) ∙ joined (take i es) agree
  where
    joined : (ds : Paths) → all_agree b tree base ms ds ≡ true → all_agree b tree base ms (ds ++ get_or es i e ∷ []) ≡ true
    joined [] h = both _ _ (subst (λ (x : List PathStep × Unit {0}). all_bring ms x.0 (due b tree base ms x.0) ≡ true) is here) refl
    joined (d ∷ ds) h = both _ _ (first_so _ _ h) (joined ds (second_so _ _ h))

-- One path more is planned, and one less is left

first_left : (es : Paths) (i : ℕ) (e : List PathStep × Unit {0}) → i < length es → e ≡ get_or es i e → drop i es ≡ e ∷ drop (i + 1) es
first_left es i e l is = drop_more es i e l ∙ ap (λ (x : List PathStep × Unit {0}). x ∷ drop (i + 1) es) (sym is)

pub more_planned : {X : Type 0} (F : Paths → List X) (f : List PathStep × Unit {0} → List X) → ((e : List PathStep × Unit {0}) (es : Paths) → F (e ∷ es) ≡ f e ++ F es)
    → (xs new : List X) (es : Paths) (i : ℕ) (e : List PathStep × Unit {0}) → i < length es → e ≡ get_or es i e → new ≡ xs ++ f e → xs ++ F (drop i es) ≡ F es → new ++ F (drop (i + 1) es) ≡ F es
more_planned F f step xs new es i e l is added so =
    ap (λ (ys : List _). ys ++ F (drop (i + 1) es)) added ∙ append_assoc xs (f e) (F (drop (i + 1) es))
    ∙ ap (λ (ys : List _). xs ++ ys) (sym (ap F (first_left es i e l is) ∙ step e (drop (i + 1) es))) ∙ so
