-- Names that begin alike: how they stand to each other, and the names between them.
use Rattle.std.proofs.Common.{◌≡◌, refl, sym, ◌∙◌, ap, subst, List, [], ◌∷◌, ◌++◌, ℕ, zero, suc, ◌+◌, ◌<◌, ◌≤◌, length, get_or, arith}
use Rattle.std.specs.Prelude.{Some, None}
use Rattle.std.specs.List.{slice_get}
use Rattle.std.specs.Ordering.{ordering_then, ordering_reverse, is_lt, nat_cmp}
use Rattle.std.specs.declared.cmp.Ordering.{Ordering}
use Rattle.std.specs.declared.cmp.Ordering.TheVariants.{Less, Equal, Greater}
use Rattle.std.specs.Cmp.{tied_itself}
use Rattle.std.specs.Cmp.Lexicographic.{slice_cmp, nat_list_cmp_total}
use Rattle.std.proofs.lemmas.Bool.{false≢true}
use Rattle.std.proofs.lemmas.Map.Lookups.{exact_bytes}
use Rattle.orc_path.specs.Steps.{PathStep}
use Rattle.orc_schema_nodes.specs.Names.{names_cmp}
use Rattle.orc_schema_nodes.specs.Schemas.{path_names}
use Rattle.orc_schema_nodes.specs.inside.Fronts.{Shares}
use Rattle.orc_schema_nodes.proofs.Ordered.{Names, some_is, is_none}

abbrev pub name_cmp : List ℕ → List ℕ → Ordering
name_cmp = slice_cmp nat_cmp

-- names that begin with the same name stand to each other as the rests do
same_first : (x y : List ℕ) (xs ys : Names) → x ≡ y → names_cmp (x ∷ xs) (y ∷ ys) ≡ names_cmp xs ys
same_first x y xs ys same = ap (λ z. ordering_then (name_cmp x z) (names_cmp xs ys)) (sym same)
    ∙ ap (λ o. ordering_then o (names_cmp xs ys)) (tied_itself nat_list_cmp_total x)

pub shares_fewer : (n m : ℕ) (xs ys : Names) → m ≤ n → Shares n xs ys → Shares m xs ys
shares_fewer n zero xs ys few h = tt
shares_fewer zero (suc m) xs ys few h = absurd (omega arith)
shares_fewer (suc n) (suc m) [] ys few h = h
shares_fewer (suc n) (suc m) (x ∷ xs) [] few h = h
shares_fewer (suc n) (suc m) (x ∷ xs) (y ∷ ys) few h = (h.0, shares_fewer n m xs ys (omega arith) h.1)

one_more : (n : ℕ) (xs ys : Names) (x y : List ℕ) → Shares n xs ys → n < length xs → x ≡ get_or xs n x → Some y ≡ slice_get ys n → x ≡ y → Shares (suc n) xs ys
one_more zero [] ys x y h inside here there same = absurd (omega arith)
one_more zero (a ∷ xs) [] x y h inside here there same = absurd (false≢true (ap is_none there))
one_more zero (a ∷ xs) (b ∷ ys) x y h inside here there same = (sym here ∙ same ∙ some_is y y b there, tt)
one_more (suc n) [] ys x y h inside here there same = absurd h
one_more (suc n) (a ∷ xs) [] x y h inside here there same = absurd h
one_more (suc n) (a ∷ xs) (b ∷ ys) x y h inside here there same = (h.0, one_more n xs ys x y h.1 (omega arith) here there same)

-- the next names are the same too
pub shares_more : (n : ℕ) (xs ys : Names) (x y : List ℕ) → Shares n xs ys → n < length xs → x ≡ get_or xs n x → Some y ≡ slice_get ys n → Equal ≡ name_cmp x y → Shares (n + 1) xs ys
shares_more n xs ys x y h inside here there equal =
    let next : suc n ≡ n + 1 = omega arith in
    subst (λ k. Shares k xs ys) next (one_more n xs ys x y h inside here there (exact_bytes x y (sym equal)))

-- the next names differ, and decide
pub order_next : (n : ℕ) (xs ys : Names) (x y : List ℕ) (o : Ordering) → Shares n xs ys → n < length xs → x ≡ get_or xs n x → Some y ≡ slice_get ys n → o ≡ name_cmp x y
    → ((rest : Ordering) → o ≡ ordering_then o rest) → o ≡ names_cmp xs ys
order_next zero [] ys x y o h inside here there is decides = absurd (omega arith)
order_next zero (a ∷ xs) [] x y o h inside here there is decides = absurd (false≢true (ap is_none there))
order_next zero (a ∷ xs) (b ∷ ys) x y o h inside here there is decides = decides (names_cmp xs ys)
    ∙ ap (λ r. ordering_then r (names_cmp xs ys)) (is ∙ ap (λ z. name_cmp z y) here ∙ ap (name_cmp a) (some_is y y b there))
order_next (suc n) [] ys x y o h inside here there is decides = absurd h
order_next (suc n) (a ∷ xs) [] x y o h inside here there is decides = absurd h
order_next (suc n) (a ∷ xs) (b ∷ ys) x y o h inside here there is decides =
    order_next n xs ys x y o h.1 (omega arith) here there is decides ∙ sym (same_first a b xs ys h.0)

-- the others have no further name
pub order_longer : (n : ℕ) (xs ys : Names) → Shares n xs ys → n < length xs → None ≡ slice_get ys n → Greater ≡ names_cmp xs ys
order_longer zero [] ys h inside ended = absurd (omega arith)
order_longer zero (a ∷ xs) [] h inside ended = refl
order_longer zero (a ∷ xs) (b ∷ ys) h inside ended = absurd (false≢true (sym (ap is_none ended)))
order_longer (suc n) [] ys h inside ended = absurd h
order_longer (suc n) (a ∷ xs) [] h inside ended = absurd h
order_longer (suc n) (a ∷ xs) (b ∷ ys) h inside ended = order_longer n xs ys h.1 (omega arith) ended ∙ sym (same_first a b xs ys h.0)

-- only the others have a further name
pub order_shorter : (n : ℕ) (xs ys : Names) (y : List ℕ) → Shares n xs ys → length xs ≤ n → Some y ≡ slice_get ys n → Less ≡ names_cmp xs ys
order_shorter zero [] [] y h past there = absurd (false≢true (ap is_none there))
order_shorter zero [] (b ∷ ys) y h past there = refl
order_shorter zero (a ∷ xs) ys y h past there = absurd (omega arith)
order_shorter (suc n) [] ys y h past there = absurd h
order_shorter (suc n) (a ∷ xs) [] y h past there = absurd h
order_shorter (suc n) (a ∷ xs) (b ∷ ys) y h past there = order_shorter n xs ys y h.1 (omega arith) there ∙ sym (same_first a b xs ys h.0)

-- neither has a further name
pub order_same : (n : ℕ) (xs ys : Names) → Shares n xs ys → length xs ≤ n → None ≡ slice_get ys n → Equal ≡ names_cmp xs ys
order_same zero [] [] h past ended = refl
order_same zero [] (b ∷ ys) h past ended = absurd (false≢true (sym (ap is_none ended)))
order_same zero (a ∷ xs) ys h past ended = absurd (omega arith)
order_same (suc n) [] ys h past ended = absurd h
order_same (suc n) (a ∷ xs) [] h past ended = absurd h
order_same (suc n) (a ∷ xs) (b ∷ ys) h past ended = order_same n xs ys h.1 (omega arith) ended ∙ sym (same_first a b xs ys h.0)

not_less : {A : Type 0} → Greater ≡ Less → A
not_less h = absurd (false≢true (ap is_lt h))

-- what stands between names that begin alike begins like them
pub shares_between : (n : ℕ) (xs ms zs ts : Names) → Shares n xs ts → Shares n zs ts → names_cmp xs ms ≡ Less → names_cmp ms zs ≡ Less → Shares n ms ts
shares_between zero xs ms zs ts h k less more = tt
shares_between (suc n) [] ms zs ts h k less more = absurd h
shares_between (suc n) (x ∷ xs) ms zs [] h k less more = absurd h
shares_between (suc n) (x ∷ xs) ms [] (t ∷ ts) h k less more = absurd k
shares_between (suc n) (x ∷ xs) [] (z ∷ zs) (t ∷ ts) h k less more = not_less less
shares_between (suc n) (x ∷ xs) (m ∷ ms) (z ∷ zs) (t ∷ ts) h k less more = on (name_cmp x m) refl (shares_between n xs ms zs ts h.1 k.1)
  where
    ends : x ≡ z
    ends = h.0 ∙ sym k.0

    on : (o : Ordering) → name_cmp x m ≡ o → (names_cmp xs ms ≡ Less → names_cmp ms zs ≡ Less → Shares n ms ts) → (m ≡ t) × Shares n ms ts
    on Less is rest =
        let turned : name_cmp m z ≡ Greater = ap (name_cmp m) (sym ends) ∙ nat_list_cmp_total.antisymm m x ∙ ap ordering_reverse is in
        not_less (sym (ap (λ o. ordering_then o (names_cmp ms zs)) turned) ∙ more)
    on Equal is rest =
        let same : x ≡ m = exact_bytes x m is in
        (sym same ∙ h.0, rest (sym (same_first x m xs ms same) ∙ less) (sym (same_first m z ms zs (sym same ∙ ends)) ∙ more))
    on Greater is rest = not_less (sym (ap (λ o. ordering_then o (names_cmp xs ms)) is) ∙ less)

-- the names of steps, one by one
pub step_here : (steps : List PathStep) (i : ℕ) (step : PathStep) → i < length steps → step ≡ get_or steps i step → Some step.node ≡ slice_get (path_names steps) i
step_here [] i step inside is = absurd (omega arith)
step_here (s ∷ ss) zero step inside is = ap (λ (x : PathStep). Some x.node) is
step_here (s ∷ ss) (suc i) step inside is = step_here ss i step (omega arith) is

pub step_past : (steps : List PathStep) (i : ℕ) → length steps ≤ i → None ≡ slice_get (path_names steps) i
step_past [] i past = refl
step_past (s ∷ ss) zero past = absurd (omega arith)
step_past (s ∷ ss) (suc i) past = step_past ss i (omega arith)

-- and with one name after them
module _ (last : List ℕ) where
  pub below_here : (steps : List PathStep) (i : ℕ) (step : PathStep) → i < length steps → step ≡ get_or steps i step → Some step.node ≡ slice_get (path_names steps ++ last ∷ []) i
  below_here [] i step inside is = absurd (omega arith)
  below_here (s ∷ ss) zero step inside is = ap (λ (x : PathStep). Some x.node) is
  below_here (s ∷ ss) (suc i) step inside is = below_here ss i step (omega arith) is

  pub below_last : (steps : List PathStep) (i : ℕ) → i ≡ length steps → Some last ≡ slice_get (path_names steps ++ last ∷ []) i
  below_last [] zero end = refl
  below_last [] (suc i) end = absurd (omega arith)
  below_last (s ∷ ss) zero end = absurd (omega arith)
  below_last (s ∷ ss) (suc i) end = below_last ss i (omega arith)

  pub below_past : (steps : List PathStep) (i : ℕ) → length steps < i → None ≡ slice_get (path_names steps ++ last ∷ []) i
  below_past [] zero past = absurd (omega arith)
  below_past [] (suc i) past = refl
  below_past (s ∷ ss) zero past = absurd (omega arith)
  below_past (s ∷ ss) (suc i) past = below_past ss i (omega arith)
