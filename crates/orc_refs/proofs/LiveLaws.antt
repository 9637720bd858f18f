-- A store is the overlay of what its services write.
use Rattle.std.proofs.Common.{◌≡◌, ◌≢◌, ◌⊎◌, inl, inr, ⊎_elim, ℕ, Bool, true, false, cond, not, ◌||◌, List, [], ◌∷◌, map, Some, None, refl, sym, ap, subst, ◌∙◌, is_some}
use Rattle.std.specs.declared.option.Option.{Option}
use Rattle.std.specs.Option.{option_or}
use Rattle.std.specs.List.{list_any}
use Rattle.std.specs.Cmp.{first_so, second_so}
use Rattle.std.specs.Cmp.Lexicographic.{bytes_decides}
use Rattle.std.specs.FinMap.{get}
use Rattle.std.proofs.lemmas.Bool.{false≢true, cond-true, cond-false}
use Rattle.std.proofs.lemmas.Option.{none-some}
use Rattle.orc_path.specs.Steps.{PathStep}
use Rattle.orc_path.specs.Configurations.{Config, overlay}
use Rattle.orc_path.proofs.ConfigurationLaws.{same_config, get-overlay}
use Rattle.orc_path.specs.declared.item.Item.{Item}
use Rattle.orc_refs.specs.Ids.{is_id, holds_id}
use Rattle.orc_refs.specs.Stores.{ids_at}
use Rattle.orc_refs.specs.Live.{Living, live_writes, are_apart, overlaid, StoreIsOverlay}

-- each of them writes this at the path, or nothing
abbrev Each : List Living → List PathStep → Option Item → Type 0
Each [] p o = Unit {0}
Each (a ∷ rest) p o = ((get a.items p ≡ None) ⊎ (get a.items p ≡ o)) × Each rest p o

-- who is not among them writes nothing
absent : (live : List Living) (id : List ℕ) (p : List PathStep) → list_any (λ b. is_id b.id id) live ≡ false → live_writes live id p ≡ None
absent [] id p h = refl
absent (a ∷ rest) id p h = by (is_id a.id id) h (absent rest id p)
  where
    by : (t : Bool) → (t || list_any (λ b. is_id b.id id) rest) ≡ false → (list_any (λ b. is_id b.id id) rest ≡ false → live_writes rest id p ≡ None) → cond t (get a.items p) (live_writes rest id p) ≡ None
    by true g later = absurd (false≢true (sym g))
    by false g later = later g

each : (live : List Living) (p : List PathStep) (o : Option Item) → are_apart live ≡ true → ((id : List ℕ) → (live_writes live id p ≡ None) ⊎ (live_writes live id p ≡ o)) → Each live p o
each [] p o apart all = tt
each (a ∷ rest) p o apart all = (
  ⊎_elim (λ none. inl (sym (here (get a.items p) (live_writes rest a.id p)) ∙ none)) (λ some. inr (sym (here (get a.items p) (live_writes rest a.id p)) ∙ some)) (all a.id),
  each rest p o (second_so _ _ apart) later,
)
  where
    here : (x y : Option Item) → cond (is_id a.id a.id) x y ≡ x
    here x y = cond-true _ _ _ ((bytes_decides a.id a.id).1 refl)

    alone : list_any (λ b. is_id b.id a.id) rest ≡ false
    alone = off (list_any (λ b. is_id b.id a.id) rest) (first_so _ _ apart)
      where
        off : (t : Bool) → not t ≡ true → t ≡ false
        off true k = absurd (false≢true k)
        off false k = refl

    later : (id : List ℕ) → (live_writes rest id p ≡ None) ⊎ (live_writes rest id p ≡ o)
    later id = by (is_id a.id id) refl (all id)
      where
        by : (t : Bool) → is_id a.id id ≡ t → (cond t (get a.items p) (live_writes rest id p) ≡ None) ⊎ (cond t (get a.items p) (live_writes rest id p) ≡ o) → (live_writes rest id p ≡ None) ⊎ (live_writes rest id p ≡ o)
        by true k h = inl (absent rest id p (subst (λ (x : List ℕ). list_any (λ b. is_id b.id x) rest ≡ false) ((bytes_decides a.id id).0 k) alone))
        by false k h = h

-- where some of them writes an item and none writes another one, it stands there
laid : (live : List Living) (b : Config) (p : List PathStep) (x : Item) → Each live p (Some x) → (get b p ≡ Some x) ⊎ ((id : List ℕ) × (live_writes live id p ≡ Some x))
    → get (overlaid (map (λ a. a.items) live) b) p ≡ Some x
laid [] b p x all (inl h) = h
laid [] b p x all (inr h) = absurd (none-some x h.1)
laid (a ∷ rest) b p x all from = laid rest (overlay a.items b) p x all.1 (⊎_elim nothing something all.0)
  where
    something : get a.items p ≡ Some x → (get (overlay a.items b) p ≡ Some x) ⊎ ((id : List ℕ) × (live_writes rest id p ≡ Some x))
    something is = inl (get-overlay a.items b p ∙ ap (λ (o : Option Item). option_or o (get b p)) is)

    nothing : get a.items p ≡ None → (get (overlay a.items b) p ≡ Some x) ⊎ ((id : List ℕ) × (live_writes rest id p ≡ Some x))
    nothing is = ⊎_elim
        (λ (h : get b p ≡ Some x). inl (get-overlay a.items b p ∙ ap (λ (o : Option Item). option_or o (get b p)) is ∙ h))
        (λ (h : (id : List ℕ) × (live_writes (a ∷ rest) id p ≡ Some x)). inr (h.0, by h.0 (is_id a.id h.0) h.1)) from
      where
        by : (id : List ℕ) (t : Bool) → cond t (get a.items p) (live_writes rest id p) ≡ Some x → live_writes rest id p ≡ Some x
        by id true k = absurd (none-some x (sym is ∙ k))
        by id false k = k

-- where none writes anything the base stays
laid_none : (live : List Living) (b : Config) (p : List PathStep) → Each live p None → get (overlaid (map (λ a. a.items) live) b) p ≡ get b p
laid_none [] b p all = refl
laid_none (a ∷ rest) b p all =
    laid_none rest (overlay a.items b) p all.1 ∙ get-overlay a.items b p ∙ ap (λ (o : Option Item). option_or o (get b p)) (⊎_elim (λ h. h) (λ h. h) all.0)

some_item : (o : Option Item) → is_some o ≡ true → (item : Item) × (o ≡ Some item)
some_item None h = absurd (false≢true h)
some_item (Some item) h = (item, refl)

pub store_overlaid : StoreIsOverlay
store_overlaid live base s is of apart = (same_config s.tree _ (λ p. at p (ids_at s p) refl), back, held)
  where
    held : (id : List ℕ) (p : List PathStep) (item : Item) → live_writes live id p ≡ Some item → holds_id id (ids_at s p) ≡ true
    held id p item writes = by (holds_id id (ids_at s p)) refl
      where
        by : (t : Bool) → holds_id id (ids_at s p) ≡ t → holds_id id (ids_at s p) ≡ true
        by true k = k
        by false k = absurd (none-some item (sym (cond-false _ _ _ k) ∙ of.writers id p ∙ writes))

    back : (id : List ℕ) (p : List PathStep) → holds_id id (ids_at s p) ≡ true → (item : Item) × (live_writes live id p ≡ Some item)
    back id p has =
        let there = some_item (get s.tree p) (is.covered p (λ e. false≢true (sym (ap (holds_id id) e) ∙ has))) in
        (there.0, sym (of.writers id p) ∙ cond-true _ _ _ has ∙ there.1)

    at : (p : List PathStep) (ids : List (List ℕ)) → ids_at s p ≡ ids → get s.tree p ≡ get (overlaid (map (λ a. a.items) live) base) p
    at p [] e =
        is.uncovered p e ∙ ap (λ (m : Config). get m p) of.over
        ∙ sym (laid_none live base p (each live p None apart (λ id. inl (sym (of.writers id p) ∙ ap (λ (ids : List (List ℕ)). cond (holds_id id ids) (get s.tree p) None) e))))
    at p (id ∷ ids) e =
        let some : ids_at s p ≢ [] = λ nothing. (let not_so : ⊥ = cc in not_so) in
        let there = some_item (get s.tree p) (is.covered p some) in
        let has : holds_id id (ids_at s p) ≡ true = ap (holds_id id) e ∙ ap (λ b. b || holds_id id ids) ((bytes_decides id id).1 refl) in
        there.1 ∙ sym (laid live base p there.0 (each live p (Some there.0) apart (λ i. one p i there.0 there.1)) (inr (id, sym (of.writers id p) ∙ cond-true _ _ _ has ∙ there.1)))
      where
        one : (p : List PathStep) (i : List ℕ) (x : Item) → get s.tree p ≡ Some x → (live_writes live i p ≡ None) ⊎ (live_writes live i p ≡ Some x)
        one p i x is_x = by (holds_id i (ids_at s p)) refl
          where
            by : (t : Bool) → holds_id i (ids_at s p) ≡ t → (live_writes live i p ≡ None) ⊎ (live_writes live i p ≡ Some x)
            by true k = inr (sym (of.writers i p) ∙ cond-true _ _ _ k ∙ is_x)
            by false k = inl (sym (of.writers i p) ∙ cond-false _ _ _ k)
