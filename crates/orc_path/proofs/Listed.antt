-- The last step of an entry, and that of its list.
use Rattle.std.proofs.Common.{◌≡◌, true, false, ◌&&◌, List, [], ◌∷◌, ◌++◌, length, eqb, refl, sym, ap, ◌∙◌, arith}
use Rattle.std.specs.Bool.{one_answer}
use Rattle.std.specs.Cmp.Lexicographic.{pointwise, pointwise_decides, bytes_decides}
use Rattle.std.proofs.lemmas.Bool.{and_parts, and_from, eqb-true, eq-eqb, false≢true, false_from_ne_true}
use Rattle.std.proofs.lemmas.List.{same_from_push, nil_from_length}
use Rattle.orc_path.specs.Steps.{PathStep, has_keys, ends_in_keys}
use Rattle.orc_path.specs.Order.{step_eq}
use Rattle.orc_path.specs.Configurations.{list_of, is_entry_of}
use Rattle.orc_path.proofs.ConfigurationLaws.{is_entry_of_decides, length-list_of}
use Rattle.orc_path.specs.inside.Entries.{is_entry_step}
use Rattle.orc_path.proofs.Equality.{step_eq_decides}

-- the step of a list that an entry's step is in
abbrev bare : PathStep → PathStep
bare s = record { node = s.node; keys = [] }

ends_in_keys-push : (front : List PathStep) (s : PathStep) → ends_in_keys (front ++ s ∷ []) ≡ has_keys s
ends_in_keys-push [] s = refl
ends_in_keys-push (t ∷ []) s = refl
ends_in_keys-push (t ∷ u ∷ us) s = ends_in_keys-push (u ∷ us) s

list_of-push : (front : List PathStep) (s : PathStep) → list_of (front ++ s ∷ []) ≡ front ++ bare s ∷ []
list_of-push [] s = refl
list_of-push (t ∷ []) s = refl
list_of-push (t ∷ u ∷ us) s = ap (λ (l : List PathStep). t ∷ l) (list_of-push (u ∷ us) s)

-- what the test of the code says
pub entry_tested : (list_front : List PathStep) (l : PathStep) (front : List PathStep) (s : PathStep)
    → (pointwise step_eq front list_front && is_entry_step l s) ≡ is_entry_of (list_front ++ l ∷ []) (front ++ s ∷ [])
entry_tested list_front l front s =
    one_answer {P = (ends_in_keys (front ++ s ∷ []) ≡ true) × (list_of (front ++ s ∷ []) ≡ list_front ++ l ∷ [])} _ _ (from, to)
    (is_entry_of_decides (list_front ++ l ∷ []) (front ++ s ∷ []))
  where
    from : (pointwise step_eq front list_front && is_entry_step l s) ≡ true
        → (ends_in_keys (front ++ s ∷ []) ≡ true) × (list_of (front ++ s ∷ []) ≡ list_front ++ l ∷ [])
    from h =
        let a = and_parts (pointwise step_eq front list_front) _ h in
        let b = and_parts (has_keys s && eqb (length l.keys) 0) _ a.1 in
        let k = and_parts (has_keys s) _ b.0 in
        let same : front ≡ list_front = (pointwise_decides step_eq_decides front list_front).0 a.0 in
        let node : s.node ≡ l.node = (bytes_decides s.node l.node).0 b.1 in
        let keys : l.keys ≡ [] = nil_from_length l.keys (eqb-true _ _ k.1) in
        let last : bare s ≡ l = λ i. record { node = node i; keys = sym keys i } in
        (ends_in_keys-push front s ∙ k.0, list_of-push front s ∙ ap (λ (f : List PathStep). f ++ bare s ∷ []) same ∙ ap (λ (t : PathStep). list_front ++ t ∷ []) last)

    to : (ends_in_keys (front ++ s ∷ []) ≡ true) × (list_of (front ++ s ∷ []) ≡ list_front ++ l ∷ [])
        → (pointwise step_eq front list_front && is_entry_step l s) ≡ true
    to h =
        let parts = same_from_push front list_front (bare s) l (sym (list_of-push front s) ∙ h.1) in
        let keys : length l.keys ≡ 0 = ap (λ (t : PathStep). length t.keys) (sym parts.1) in
        and_from _ _ ((pointwise_decides step_eq_decides front list_front).1 parts.0)
        (and_from _ _ (and_from _ _ (sym (ends_in_keys-push front s) ∙ h.0) (eq-eqb _ _ keys)) ((bytes_decides s.node l.node).1 (ap (λ (t : PathStep). t.node) parts.1)))

-- nothing is an entry of the root
pub no_entry-root : (p : List PathStep) → is_entry_of [] p ≡ false
no_entry-root p = false_from_ne_true _ (λ h. let is = (is_entry_of_decides [] p).0 h in rootless p is.0 is.1)
  where
    rootless : (p : List PathStep) → ends_in_keys p ≡ true → list_of p ≡ [] → ⊥
    rootless [] k e = false≢true k
    rootless (t ∷ ts) k e = omega (arith, ap length e, length-list_of (t ∷ ts))
