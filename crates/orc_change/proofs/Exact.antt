-- The difference leads from the one configuration to the other.
use Rattle.std.proofs.Common.{◌≡◌, ◌⊎◌, inl, inr, Bool, true, false, cond, ◌&&◌, T, List, [], ◌∷◌, ◌++◌, Some, None, refl, sym, ap, subst, ◌∙◌, is_some}
use Rattle.std.specs.Prelude.{is_none}
use Rattle.std.specs.declared.option.Option.{Option}
use Rattle.std.specs.Ordering.{eq_by_cmp}
use Rattle.std.specs.List.{list_all}
use Rattle.std.specs.FinMap.{get, entries, entries_sorted, find, is_sorted, get-entries}
use Rattle.std.specs.FinMap.Entries.{below_all}
use Rattle.std.specs.Cmp.Lexicographic.{bytes_decides}
use Rattle.std.specs.Cmp.{first_so, second_so}
use Rattle.std.proofs.lemmas.Bool.{false≢true, cond-true, cond-false}
use Rattle.std.proofs.lemmas.Option.{none-some}
use Rattle.orc_path.specs.Steps.{PathStep}
use Rattle.orc_path.specs.Order.{path_cmp}
use Rattle.orc_path.specs.Items.{fits}
use Rattle.orc_path.specs.Configurations.{Config, IsConfig}
use Rattle.orc_path.proofs.Bools.{first_of_both, second_of_both}
use Rattle.orc_path.proofs.PathOrder.{path_cmp_total}
use Rattle.orc_path.proofs.ConfigurationLaws.{same_config, same_path, path_ties}
use Rattle.orc_tree.proofs.InOrder.{T_is_true}
use Rattle.orc_tree.proofs.Pieces.{find_piece}
use Rattle.orc_path.specs.declared.item.Item.{Item}
use Rattle.orc_path.specs.declared.item.Item.TheVariants.{Entry, Leaf}
use Rattle.orc_tree.specs.Changes.{applied, change_fits}
use Rattle.orc_tree.specs.declared.change.Change.{Change}
use Rattle.orc_tree.specs.declared.change.Change.TheVariants.{Put, Remove}
use Rattle.orc_change.specs.Differences.{has_item, removals, new_puts, difference}
use Rattle.orc_change.specs.inside.Held.{AreHeld}
use Rattle.orc_change.proofs.Towards.{Towards, Mentions, applied_towards, HasWays-config}

pub has_item_is : (o : Option Item) (item : Item) → has_item o item ≡ true → o ≡ Some item
has_item_is None item h = absurd (false≢true h)
has_item_is (Some Entry) Entry h = refl
has_item_is (Some Entry) (Leaf t) h = absurd (false≢true h)
has_item_is (Some (Leaf t)) Entry h = absurd (false≢true h)
has_item_is (Some (Leaf t)) (Leaf u) h = ap (λ x. Some (Leaf x)) ((bytes_decides t u).0 h)

none : (o : Option Item) → is_none o ≡ true → o ≡ None
none None h = refl
none (Some x) h = absurd (false≢true h)

pub Towards-append : (n : List PathStep → Option Item) (cs ds : List Change) → Towards n cs → Towards n ds → Towards n (cs ++ ds)
Towards-append n [] ds c d = d
Towards-append n (Remove p ∷ cs) ds c d = (c.0, Towards-append n cs ds c.1 d)
Towards-append n (Put p item ∷ cs) ds c d = (c.0, Towards-append n cs ds c.1 d)

pub Mentions-left : (q : List PathStep) (cs ds : List Change) → Mentions q cs → Mentions q (cs ++ ds)
Mentions-left q [] ds never = elim never [ ]
Mentions-left q (Remove p ∷ cs) ds (inl h) = inl h
Mentions-left q (Remove p ∷ cs) ds (inr h) = inr (Mentions-left q cs ds h)
Mentions-left q (Put p item ∷ cs) ds (inl h) = inl h
Mentions-left q (Put p item ∷ cs) ds (inr h) = inr (Mentions-left q cs ds h)

pub Mentions-right : (q : List PathStep) (cs ds : List Change) → Mentions q ds → Mentions q (cs ++ ds)
Mentions-right q [] ds h = h
Mentions-right q (Remove p ∷ cs) ds h = inr (Mentions-right q cs ds h)
Mentions-right q (Put p item ∷ cs) ds h = inr (Mentions-right q cs ds h)

removals_towards : (es : List (List PathStep × Item)) (to : Config) → Towards (get to) (removals es to)
removals_towards [] to = tt
removals_towards (e ∷ es) to =
    let rest = removals_towards es to in
    elim (is_none (get to e.0)) as (λ b. is_none (get to e.0) ≡ b → Towards (get to) (cond b (Remove e.0 ∷ removals es to) (removals es to))) [
      | true ↦ λ h. (none (get to e.0) h, rest)
      | false ↦ λ h. rest
    ] refl

new_puts_towards : (es : List (List PathStep × Item)) (from to : Config) → AreHeld to es → Towards (get to) (new_puts es from)
new_puts_towards [] from to are = tt
new_puts_towards (e ∷ es) from to are =
    let rest = new_puts_towards es from to are.1 in
    elim (has_item (get from e.0) e.1) as (λ b. Towards (get to) (cond b (new_puts es from) (Put e.0 e.1 ∷ new_puts es from))) [
      | true ↦ rest
      | false ↦ (are.0, rest)
    ]

removals_mention : (es : List (List PathStep × Item)) (to : Config) (q : List PathStep) → is_some (find path_cmp q es) ≡ true → get to q ≡ None → Mentions q (removals es to)
removals_mention [] to q h none = absurd (false≢true h)
removals_mention (e ∷ es) to q h none =
    let rest = λ (f : is_some (find path_cmp q es) ≡ true). removals_mention es to q f none in
    elim (eq_by_cmp path_cmp q e.0) as (λ t. eq_by_cmp path_cmp q e.0 ≡ t → is_some (cond t (Some e.1) (find path_cmp q es)) ≡ true → Mentions q (cond (is_none (get to e.0)) (Remove e.0 ∷ removals es to) (removals es to))) [
      | true ↦ λ t f. let same = same_path q e.0 t in
          subst (λ b. Mentions q (cond b (Remove e.0 ∷ removals es to) (removals es to))) (sym (ap is_none (ap (get to) (sym same) ∙ none))) (inl same)
      | false ↦ λ t f. elim (is_none (get to e.0)) as (λ b. Mentions q (cond b (Remove e.0 ∷ removals es to) (removals es to))) [ true ↦ inr (rest f) | false ↦ rest f ]
    ] refl h

new_puts_mention : (es : List (List PathStep × Item)) (from : Config) (q : List PathStep) (item : Item) → find path_cmp q es ≡ Some item → has_item (get from q) item ≡ false
    → Mentions q (new_puts es from)
new_puts_mention [] from q item h new = let no_item : None ≡ Some item = h in absurd (false≢true (ap is_some no_item))
new_puts_mention (e ∷ es) from q item h new =
    let rest = λ (f : find path_cmp q es ≡ Some item). new_puts_mention es from q item f new in
    elim (eq_by_cmp path_cmp q e.0) as (λ t. eq_by_cmp path_cmp q e.0 ≡ t → cond t (Some e.1) (find path_cmp q es) ≡ Some item → Mentions q (cond (has_item (get from e.0) e.1) (new_puts es from) (Put e.0 e.1 ∷ new_puts es from))) [
      | true ↦ λ t f. let same = same_path q e.0 t in let value : e.1 ≡ item = cc in
          subst (λ b. Mentions q (cond b (new_puts es from) (Put e.0 e.1 ∷ new_puts es from)))
          (sym (subst (λ (x : List PathStep). has_item (get from x) e.1 ≡ false) same (ap (has_item (get from q)) value ∙ new))) (inl same)
      | false ↦ λ t f. elim (has_item (get from e.0) e.1) as (λ b. Mentions q (cond b (new_puts es from) (Put e.0 e.1 ∷ new_puts es from))) [ true ↦ rest f | false ↦ inr (rest f) ]
    ] refl h

find-below : (q : List PathStep) (es : List (List PathStep × Item)) → T (below_all path_cmp q es) → find path_cmp q es ≡ None
find-below q es h = find_piece path_cmp path_cmp_total q [] [] es refl (T_is_true _ h)

-- rows in order, each of which is found in a configuration
are_of : (m : Config) (es : List (List PathStep × Item)) → T (is_sorted path_cmp es) → ((q : List PathStep) (x : Item) → find path_cmp q es ≡ Some x → get m q ≡ Some x) → AreHeld m es
are_of m [] h found = tt
are_of m (e ∷ es) h found =
    let below = first_of_both (below_all path_cmp e.0 es) (is_sorted path_cmp es) h in (
      found e.0 e.1 (cond-true _ _ _ (path_ties e.0 e.0 refl)),
      are_of m es (second_of_both (below_all path_cmp e.0 es) (is_sorted path_cmp es) h) (λ q x f. found q x (passed q x f below)),
    )
  where
    passed : (q : List PathStep) (x : Item) → find path_cmp q es ≡ Some x → T (below_all path_cmp e.0 es) → find path_cmp q (e ∷ es) ≡ Some x
    passed q x f below = elim (eq_by_cmp path_cmp q e.0) as (λ t. eq_by_cmp path_cmp q e.0 ≡ t → cond t (Some e.1) (find path_cmp q es) ≡ Some x) [
      | true ↦ λ t. absurd (none-some x (sym (subst (λ (y : List PathStep). find path_cmp y es ≡ None) (sym (same_path q e.0 t)) (find-below e.0 es below)) ∙ f))
      | false ↦ λ t. f
    ] refl

pub entries_are : (m : Config) → AreHeld m (entries m)
entries_are m = are_of m (entries m) (entries_sorted m) (λ q x f. get-entries m q ∙ f)

both : (a b : Bool) → a ≡ true → b ≡ true → (a && b) ≡ true
both true b p q = q
both false b p q = p

all-append : (f : Change → Bool) (cs ds : List Change) → list_all f cs ≡ true → list_all f ds ≡ true → list_all f (cs ++ ds) ≡ true
all-append f [] ds c d = d
all-append f (x ∷ cs) ds c d = both (f x) _ (first_so _ _ c) (all-append f cs ds (second_so _ _ c) d)

removals_fit : (es : List (List PathStep × Item)) (to : Config) → list_all change_fits (removals es to) ≡ true
removals_fit [] to = refl
removals_fit (e ∷ es) to = elim (is_none (get to e.0)) as (λ b. list_all change_fits (cond b (Remove e.0 ∷ removals es to) (removals es to)) ≡ true) [ true ↦ removals_fit es to | false ↦ removals_fit es to ]

new_puts_fit : (es : List (List PathStep × Item)) (from to : Config) → IsConfig to → AreHeld to es → list_all change_fits (new_puts es from) ≡ true
new_puts_fit [] from to c are = refl
new_puts_fit (e ∷ es) from to c are =
    let rest = new_puts_fit es from to c are.1 in
    elim (has_item (get from e.0) e.1) as (λ b. list_all change_fits (cond b (new_puts es from) (Put e.0 e.1 ∷ new_puts es from)) ≡ true) [
      | true ↦ rest
      | false ↦ both (fits e.0 e.1) _ (c.fit e.0 e.1 are.0) rest
    ]

pub difference_fits : (from to : Config) → IsConfig to → list_all change_fits (difference from to) ≡ true
difference_fits from to c = all-append change_fits (removals (entries from) to) (new_puts (entries to) from) (removals_fit (entries from) to) (new_puts_fit (entries to) from to c (entries_are to))

pub difference_towards : (from to : Config) → Towards (get to) (difference from to)
difference_towards from to =
    Towards-append (get to) (removals (entries from) to) (new_puts (entries to) from) (removals_towards (entries from) to) (new_puts_towards (entries to) from to (entries_are to))

-- at each path the two have the same, or a change is of it
pub difference_mentions : (from to : Config) (q : List PathStep) → (get from q ≡ get to q) ⊎ Mentions q (difference from to)
difference_mentions from to q = on (get from q) (get to q) refl refl
  where
    on : (o p : Option Item) → get from q ≡ o → get to q ≡ p → (get from q ≡ get to q) ⊎ Mentions q (difference from to)
    on None None e f = inl (e ∙ sym f)
    on (Some x) None e f =
        inr (Mentions-left q (removals (entries from) to) (new_puts (entries to) from) (removals_mention (entries from) to q (ap is_some (sym (get-entries from q) ∙ e)) f))
    on o (Some y) e f = elim (has_item (get from q) y) as (λ b. has_item (get from q) y ≡ b → (get from q ≡ get to q) ⊎ Mentions q (difference from to)) [
      | true ↦ λ h. inl (has_item_is (get from q) y h ∙ sym f)
      | false ↦ λ h. inr (Mentions-right q (removals (entries from) to) (new_puts (entries to) from) (new_puts_mention (entries to) from q y (sym (get-entries to q) ∙ f) h))
    ] refl

-- the difference leads from the one to the other
pub applied-difference : (from to : Config) → IsConfig to → applied (difference from to) from ≡ to
applied-difference from to c = same_config _ _ (λ q. applied_towards (get to) (HasWays-config to c) (difference from to) (difference_towards from to) from q (difference_mentions from to q))

-- Rows that a configuration holds need no change.

pub has_itself : (item : Item) → has_item (Some item) item ≡ true
has_itself Entry = refl
has_itself (Leaf text) = (bytes_decides text text).1 refl

pub removals_held : (es : List (List PathStep × Item)) (to : Config) → AreHeld to es → removals es to ≡ []
removals_held [] to are = refl
removals_held (e ∷ es) to are = cond-false _ _ _ (ap is_none are.0) ∙ removals_held es to are.1

pub new_puts_held : (es : List (List PathStep × Item)) (from : Config) → AreHeld from es → new_puts es from ≡ []
new_puts_held [] from are = refl
new_puts_held (e ∷ es) from are = cond-true _ _ _ (ap (λ (o : Option Item). has_item o e.1) are.0 ∙ has_itself e.1) ∙ new_puts_held es from are.1

pub AreHeld-part : (m : Config) (es ds fs : List (List PathStep × Item)) → AreHeld m (es ++ (ds ++ fs)) → AreHeld m ds
AreHeld-part m [] [] fs are = tt
AreHeld-part m [] (d ∷ ds) fs are = (are.0, AreHeld-part m [] ds fs are.1)
AreHeld-part m (e ∷ es) ds fs are = AreHeld-part m es ds fs are.1

-- The changes of rows one after another

pub removals-append : (to : Config) (es ds : List (List PathStep × Item)) → removals (es ++ ds) to ≡ removals es to ++ removals ds to
removals-append to [] ds = refl
removals-append to (e ∷ es) ds =
    let rest = removals-append to es ds in
    elim (is_none (get to e.0)) as (λ b. cond b (Remove e.0 ∷ removals (es ++ ds) to) (removals (es ++ ds) to) ≡ cond b (Remove e.0 ∷ removals es to) (removals es to) ++ removals ds to) [
      | true ↦ ap (λ l. Remove e.0 ∷ l) rest
      | false ↦ rest
    ]

pub new_puts-append : (from : Config) (es ds : List (List PathStep × Item)) → new_puts (es ++ ds) from ≡ new_puts es from ++ new_puts ds from
new_puts-append from [] ds = refl
new_puts-append from (e ∷ es) ds =
    let rest = new_puts-append from es ds in
    elim (has_item (get from e.0) e.1) as (λ b. cond b (new_puts (es ++ ds) from) (Put e.0 e.1 ∷ new_puts (es ++ ds) from) ≡ cond b (new_puts es from) (Put e.0 e.1 ∷ new_puts es from) ++ new_puts ds from) [
      | true ↦ rest
      | false ↦ ap (λ l. Put e.0 e.1 ∷ l) rest
    ]

-- where the two are equal there is no change, and only there
pub difference-same : (m : Config) → difference m m ≡ []
difference-same m = ap (λ l. l ++ new_puts (entries m) m) (removals_held (entries m) m (entries_are m)) ∙ new_puts_held (entries m) m (entries_are m)

pub difference-none : (from to : Config) → IsConfig to → difference from to ≡ [] → from ≡ to
difference-none from to c none = sym (ap (λ (cs : List Change). applied cs from) none) ∙ applied-difference from to c
