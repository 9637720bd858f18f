-- The store to which moves and edits lead is one.
use Rattle.std.proofs.Common.{◌≡◌, ◌≢◌, ℕ, Bool, true, false, cond, ◌||◌, List, [], ◌∷◌, Some, None, refl, sym, ap, subst, ◌∙◌, is_some}
use Rattle.std.specs.declared.option.Option.{Option}
use Rattle.std.specs.Option.{option_map_or}
use Rattle.std.specs.declared.cmp.Ordering.{Ordering}
use Rattle.std.specs.declared.cmp.Ordering.TheVariants.{Less, Equal, Greater}
use Rattle.std.specs.Ordering.{ordering_reverse}
use Rattle.std.specs.Cmp.{first_so, second_so, tied_itself}
use Rattle.std.specs.Cmp.Lexicographic.{bytes_decides, nat_list_cmp_total}
use Rattle.std.specs.FinMap.{get, same_map}
use Rattle.std.proofs.lemmas.Bool.{false≢true, cond-true, or_left, false_from_ne_true}
use Rattle.orc_path.specs.Steps.{PathStep}
use Rattle.orc_path.specs.Order.{text_cmp}
use Rattle.orc_path.specs.Configurations.{Config}
use Rattle.orc_path.proofs.PathOrder.{path_cmp_total, path_cmp_exact}
use Rattle.orc_path.proofs.ConfigurationLaws.{same_config}
use Rattle.orc_refs.specs.Ids.{is_id, holds_id, are_rising}
use Rattle.orc_refs.specs.Stores.{Store, Backs, IsStore, ids_at, written_by}
use Rattle.orc_refs.specs.Moves.{OneStore}
use Rattle.orc_refs.proofs.IdsLaws.{same_id}
use Rattle.orc_refs.proofs.ClashLaws.{before_holds}

unlike : (a b : List ℕ) → text_cmp a b ≡ Less → text_cmp a b ≡ Equal → ⊥
unlike a b l e = (let not_so : ⊥ = cc in not_so)

no_circle : (a b : List ℕ) → text_cmp a b ≡ Less → text_cmp b a ≡ Less → ⊥
no_circle a b l m = unlike a a (nat_list_cmp_total.trans a b a l m) (tied_itself nat_list_cmp_total a)

-- two lists of ids in order that hold the same ids are one
same_rising : (xs ys : List (List ℕ)) → are_rising xs ≡ true → are_rising ys ≡ true → ((id : List ℕ) → holds_id id xs ≡ holds_id id ys) → xs ≡ ys
same_rising [] [] r s same = refl
same_rising [] (y ∷ ys) r s same = absurd (false≢true (same y ∙ or_left _ _ ((bytes_decides y y).1 refl)))
same_rising (x ∷ xs) [] r s same = absurd (false≢true (sym (same x) ∙ or_left _ _ ((bytes_decides x x).1 refl)))
same_rising (x ∷ xs) (y ∷ ys) r s same = by (λ h. same_rising xs ys (second_so _ _ r) (second_so _ _ s) h) (text_cmp x y) refl
  where
    -- the lesser of the two first ids isn't among the others
    lesser : (a b : List ℕ) (bs : List (List ℕ)) → are_rising (b ∷ bs) ≡ true → text_cmp a b ≡ Less → holds_id a (b ∷ bs) ≡ true → ⊥
    lesser a b bs t l h = on (is_id b a) refl h
      where
        on : (t : Bool) → is_id b a ≡ t → (t || holds_id a bs) ≡ true → ⊥
        on true e g = unlike a b l (subst (λ (z : List ℕ). text_cmp z b ≡ Equal) ((bytes_decides b a).0 e) (tied_itself nat_list_cmp_total b))
        on false e g = no_circle a b l (before_holds b a bs (first_so _ _ t) g)

    not_among : (a : List ℕ) (rest : List (List ℕ)) → are_rising (a ∷ rest) ≡ true → holds_id a rest ≡ false
    not_among a rest t = false_from_ne_true (holds_id a rest) (λ h. unlike a a (before_holds a a rest (first_so _ _ t) h) (tied_itself nat_list_cmp_total a))

    by : (((id : List ℕ) → holds_id id xs ≡ holds_id id ys) → xs ≡ ys) → (o : Ordering) → text_cmp x y ≡ o → ◌≡◌ {A = List (List ℕ)} (x ∷ xs) (y ∷ ys)
    by rest Less e = absurd (lesser x y ys s e (sym (same x) ∙ or_left _ _ ((bytes_decides x x).1 refl)))
    by rest Greater e = absurd (lesser y x xs r (nat_list_cmp_total.antisymm y x ∙ ap ordering_reverse e) (same y ∙ or_left _ _ ((bytes_decides y y).1 refl)))
    by rest Equal e = ap (λ (z : List ℕ). z ∷ xs) first ∙ ap (λ (zs : List (List ℕ)). y ∷ zs) (rest tails)
      where
        first : x ≡ y
        first = same_id x y e

        tails : (id : List ℕ) → holds_id id xs ≡ holds_id id ys
        tails id = on (is_id x id) refl (same id)
          where
            on : (t : Bool) → is_id x id ≡ t → (t || holds_id id xs) ≡ (is_id y id || holds_id id ys) → holds_id id xs ≡ holds_id id ys
            on true k g =
                let is : x ≡ id = (bytes_decides x id).0 k in
                ap (λ (z : List ℕ). holds_id z xs) (sym is) ∙ not_among x xs r ∙ sym (not_among y ys s) ∙ ap (λ (z : List ℕ). holds_id z ys) (sym first ∙ is)
            on false k g = g ∙ ap (λ b. b || holds_id id ys) (ap (λ (z : List ℕ). is_id z id) (sym first) ∙ k)

-- who writes a path shows in what services write there
writes_told : (s : Store) → IsStore s → (id : List ℕ) (p : List PathStep) → is_some (written_by s id p) ≡ holds_id id (ids_at s p)
writes_told s is id p = on (holds_id id (ids_at s p)) refl
  where
    on : (t : Bool) → holds_id id (ids_at s p) ≡ t → is_some (cond t (get s.tree p) None) ≡ t
    on true h = is.covered p (λ none. false≢true (sym (ap (holds_id id) none) ∙ h))
    on false h = refl

same_backs : (b c : Option (List (List ℕ))) → b ≢ Some [] → c ≢ Some [] → option_map_or (λ (x : List (List ℕ)). x) b [] ≡ option_map_or (λ (x : List (List ℕ)). x) c [] → b ≡ c
same_backs None None f g e = refl
same_backs None (Some ids) f g e = absurd (g (ap Some (sym e)))
same_backs (Some ids) None f g e = absurd (f (ap Some e))
same_backs (Some ids) (Some others) f g e = ap Some e

same_stores : (s t : Store) → s.base ≡ t.base → s.tree ≡ t.tree → s.backs ≡ t.backs → s ≡ t
same_stores s t b m k = ap (λ (x : Config). with_parts x s.tree s.backs) b ∙ ap (λ (x : Config). with_parts t.base x s.backs) m ∙ ap (λ (x : Backs). with_parts t.base t.tree x) k
  where
    with_parts : Config → Config → Backs → Store
    with_parts base tree backs = record { base = base; tree = tree; backs = backs }

pub one_store : OneStore
one_store before moves edits s t is_s is_t = same_stores s t base tree backs
  where
    base : s.base ≡ t.base
    base = is_s.base ∙ sym is_t.base

    writes : (id : List ℕ) (p : List PathStep) → written_by s id p ≡ written_by t id p
    writes id p = is_s.written id p ∙ sym (is_t.written id p)

    ids : (p : List PathStep) → ids_at s p ≡ ids_at t p
    ids p = same_rising (ids_at s p) (ids_at t p) (is_s.store.rising p) (is_t.store.rising p)
        (λ id. sym (writes_told s is_s.store id p) ∙ ap is_some (writes id p) ∙ writes_told t is_t.store id p)

    tree : s.tree ≡ t.tree
    tree = same_config s.tree t.tree (λ p. at p (ids_at s p) refl)
      where
        at : (p : List PathStep) (xs : List (List ℕ)) → ids_at s p ≡ xs → get s.tree p ≡ get t.tree p
        at p [] e = is_s.store.uncovered p e ∙ ap (λ (m : Config). get m p) base ∙ sym (is_t.store.uncovered p (sym (ids p) ∙ e))
        at p (x ∷ xs) e =
            let has : holds_id x (ids_at s p) ≡ true = ap (holds_id x) e ∙ or_left _ _ ((bytes_decides x x).1 refl) in
            sym (cond-true _ _ _ has) ∙ writes x p ∙ cond-true _ _ _ (ap (holds_id x) (sym (ids p)) ∙ has)

    backs : s.backs ≡ t.backs
    backs = same_map path_cmp_total path_cmp_exact s.backs t.backs (λ p. same_backs (get s.backs p) (get t.backs p) (is_s.store.some p) (is_t.store.some p) (ids p))
