-- Paths that are entries of a list, step by step, and the entries among rows in order.
use Rattle.std.proofs.Common.{◌≡◌, ℕ, ◌⊎◌, inl, inr, Bool, true, false, not, ◌&&◌, nat_eq, nat_lt, ◌+◌, ◌-◌, ◌<◌, if◌then◌else◌, Some, None, List, [], ◌∷◌, ◌++◌, length, refl, sym, ap, subst, ◌∙◌, arith}
use Rattle.std.specs.Prelude.{is_some}
use Rattle.std.specs.Ordering.{is_lt}
use Rattle.std.specs.Cmp.{both_ways}
use Rattle.std.specs.Cmp.Lexicographic.{pointwise, bytes_decides}
use Rattle.std.specs.FinMap.{is_sorted}
use Rattle.std.proofs.lemmas.Bool.{false≢true, and_parts, and_from, ltb-true, ltb-false}
use Rattle.orc_path.specs.Steps.{PathStep, has_keys, ends_in_keys}
use Rattle.orc_path.specs.Order.{path_cmp, step_eq}
use Rattle.orc_path.specs.Configurations.{list_of, is_entry_of}
use Rattle.orc_path.proofs.ConfigurationLaws.{is_entry_of_decides, length-list_of}
use Rattle.orc_path.proofs.Equality.{step_eq_decides}
use Rattle.orc_tree.specs.inside.Lists.{is_under, entries_of}
use Rattle.orc_tree.proofs.Maps.{Rows}
use Rattle.orc_tree.proofs.Listing.{no_entries, no_entry-root, list_has_no_keys, no_entries-past}
use Rattle.orc_check.specs.inside.Lists.{is_keyed, enters, goes_on, is_past, count_down}

same_head : {X : Type 0} (x y : X) (xs ys : List X) → x ∷ xs ≡ y ∷ ys → x ≡ y
same_head x y xs ys e = cc

same_tail : {X : Type 0} (x y : X) (xs ys : List X) → x ∷ xs ≡ y ∷ ys → xs ≡ ys
same_tail x y xs ys e = cc

not_true : (b : Bool) → (b ≡ true → ⊥) → b ≡ false
not_true true f = absurd (f refl)
not_true false f = refl

-- ---- entries of a list

module _ (l m s : PathStep) (list : List PathStep) where
  split : (p : List PathStep) → (ends_in_keys (s ∷ p) ≡ true) × (list_of (s ∷ p) ≡ l ∷ m ∷ list) → (step_eq l s && is_entry_of (m ∷ list) p) ≡ true
  split [] h = absurd (omega (arith, ap length h.1))
  split (t ∷ ts) h =
      and_from _ _ ((step_eq_decides l s).1 (sym (same_head _ _ _ _ h.1))) ((is_entry_of_decides (m ∷ list) (t ∷ ts)).1 (h.0, same_tail _ _ _ _ h.1))

  join : (p : List PathStep) → s ≡ l → (ends_in_keys p ≡ true) × (list_of p ≡ m ∷ list) → is_entry_of (l ∷ m ∷ list) (s ∷ p) ≡ true
  join [] e h = absurd (false≢true h.0)
  join (t ∷ ts) e h =
      (is_entry_of_decides (l ∷ m ∷ list) (s ∷ t ∷ ts)).1 (h.0, ap (λ (x : PathStep). x ∷ list_of (t ∷ ts)) e ∙ ap (λ (ys : List PathStep). l ∷ ys) h.1)

  pub entry_next : (p : List PathStep) → is_entry_of (l ∷ m ∷ list) (s ∷ p) ≡ (step_eq l s && is_entry_of (m ∷ list) p)
  entry_next p = both_ways _ _ (λ h. split p ((is_entry_of_decides (l ∷ m ∷ list) (s ∷ p)).0 h))
      (λ h. let parts = and_parts (step_eq l s) (is_entry_of (m ∷ list) p) h in
      join p (sym ((step_eq_decides l s).0 parts.0)) ((is_entry_of_decides (m ∷ list) p).0 parts.1))

pub entry_alone : (l : PathStep) (p : List PathStep) → l.keys ≡ [] → is_entry_of (l ∷ []) p ≡ is_keyed p l.node
entry_alone l [] k = refl
entry_alone l (s ∷ []) k = both_ways _ _ to from
  where
    to : is_entry_of (l ∷ []) (s ∷ []) ≡ true → (has_keys s && pointwise nat_eq s.node l.node) ≡ true
    to h =
        let is = (is_entry_of_decides (l ∷ []) (s ∷ [])).0 h in
        and_from _ _ is.0 ((bytes_decides s.node l.node).1 (ap (λ (x : PathStep). x.node) (same_head _ _ _ _ is.1)))

    from : (has_keys s && pointwise nat_eq s.node l.node) ≡ true → is_entry_of (l ∷ []) (s ∷ []) ≡ true
    from h =
        let parts = and_parts (has_keys s) (pointwise nat_eq s.node l.node) h in
        let name : s.node ≡ l.node = (bytes_decides s.node l.node).0 parts.1 in
        let bare : record { node = s.node; keys = [] } ≡ l = ap (λ n. record { node = n; keys = [] }) name ∙ ap (λ ks. record { node = l.node; keys = ks }) (sym k) in
        (is_entry_of_decides (l ∷ []) (s ∷ [])).1 (parts.0, ap (λ (x : PathStep). x ∷ []) bare)
entry_alone l (s ∷ t ∷ ts) k = not_true _ (λ h. omega (arith, ap length ((is_entry_of_decides (l ∷ []) (s ∷ t ∷ ts)).0 h).1, length-list_of (t ∷ ts)))

alone : (l : PathStep) (p : List PathStep) (keys : List (List ℕ)) → l.keys ≡ keys → (pointwise (pointwise nat_eq) [] keys && is_keyed p l.node) ≡ is_entry_of (l ∷ []) p
alone l p [] k = sym (entry_alone l p k)
alone l p (key ∷ keys) k = sym (not_true _ (λ h. omega (arith, ap length k, ap length (list_has_no_keys [] l p ((is_entry_of_decides (l ∷ []) p).0 h).1))))

pub enters_is : (list p : List PathStep) → enters list p ≡ is_entry_of list p
enters_is [] p = sym (no_entry-root p)
enters_is (l ∷ []) p = alone l p l.keys refl
enters_is (l ∷ m ∷ list) [] = refl
enters_is (l ∷ m ∷ list) (s ∷ p) = ap (λ b. step_eq l s && b) (enters_is (m ∷ list) p) ∙ sym (entry_next l m s list p)

-- ---- rows past a list

-- to go on from a list's path is to go on from its steps but the last, by its last name
goes_on_is : (front : List PathStep) (last : PathStep) (p : List PathStep) → goes_on (front ++ last ∷ []) p ≡ is_under front last.node p
goes_on_is [] last [] = refl
goes_on_is [] last (t ∷ ts) = refl
goes_on_is (s ∷ []) last [] = refl
goes_on_is (s ∷ []) last (t ∷ ts) = ap (λ b. step_eq s t && b) (goes_on_is [] last ts)
goes_on_is (s ∷ u ∷ us) last [] = refl
goes_on_is (s ∷ u ∷ us) last (t ∷ ts) = ap (λ b. step_eq s t && b) (goes_on_is (u ∷ us) last ts)

abbrev Ends : List PathStep → Type 0
Ends list = (list ≡ []) ⊎ ((front : List PathStep) × (last : PathStep) × (list ≡ front ++ last ∷ []))

ends : (list : List PathStep) → Ends list
ends [] = inl refl
ends (l ∷ ls) = on (ends ls)
  where
    on : Ends ls → Ends (l ∷ ls)
    on (inl e) = inr ([], l, ap (λ (xs : List PathStep). l ∷ xs) e)
    on (inr e) = inr (l ∷ e.0, e.1, ap (λ (xs : List PathStep). l ∷ xs) e.2)

-- where the first of rows in order is past a list, none of them is an entry of it
pub none_past : (list : List PathStep) (rows more : Rows) → is_past list rows ≡ true → is_sorted path_cmp (rows ++ more) ≡ true → entries_of list (rows ++ more) ≡ []
none_past list [] more past s = absurd (false≢true past)
none_past list (row ∷ rows) more past s = on (ends list)
  where
    on : Ends list → entries_of list (row ∷ (rows ++ more)) ≡ []
    on (inl e) = subst (λ (l : List PathStep). entries_of l (row ∷ (rows ++ more)) ≡ []) (sym e) (no_entries [] (row ∷ (rows ++ more)) no_entry-root)
    on (inr e) =
        subst (λ (l : List PathStep). entries_of l (row ∷ (rows ++ more)) ≡ []) (sym e.2)
        (no_entries-past e.0 e.1 row (rows ++ more)
        (ap (λ b. is_lt (path_cmp (e.0 ++ e.1 ∷ []) row.0) && not b) (sym (goes_on_is e.0 e.1 row.0))
        ∙ subst (λ (l : List PathStep). (is_lt (path_cmp l row.0) && not (goes_on l row.0)) ≡ true) e.2 past) s)

pub below_none : (n : ℕ) → nat_lt n 0 ≡ false
below_none n = not_true _ (λ h. let under = ltb-true n 0 h in omega arith)

under_true : (a b : ℕ) → a < b → nat_lt a b ≡ true
under_true a b l = on (nat_lt a b) refl
  where
    on : (t : Bool) → nat_lt a b ≡ t → nat_lt a b ≡ true
    on true e = e
    on false e = absurd (omega (arith, ltb-false a b e))

-- what is left of a number less a count is under another one where the number is under both
pub counted : (number count more left : ℕ) → Some left ≡ count_down number count → nat_lt left more ≡ nat_lt number (count + more)
counted number count more left h = on (nat_lt number count) refl h
  where
    on : (t : Bool) → nat_lt number count ≡ t → Some left ≡ (if t then None else Some (number - count)) → nat_lt left more ≡ nat_lt number (count + more)
    on true e h = absurd (false≢true (sym (ap is_some h)))
    on false e h =
        let within = ltb-false number count e in
        let is : left ≡ number - count = cc in
        both_ways (nat_lt left more) (nat_lt number (count + more))
        (λ l. under_true number (count + more) (omega (arith, ltb-true left more l)))
        (λ l. under_true left more (omega (arith, ltb-true number (count + more) l)))
