-- The least write that touches a read.
use Rattle.std.proofs.Common.{◌≡◌, ◌≢◌, ◌⊎◌, inl, inr, ℕ, zero, suc, ◌+◌, ◌<◌, true, false, List, [], ◌∷◌, ◌++◌, Option, Some, None, length, take, get_or, slice_get, refl, sym, ap, subst, ◌∙◌, arith, length-take}
use Rattle.std.specs.Option.{MatchOption}
use Rattle.std.specs.Ordering.{ordering_reverse}
use Rattle.std.specs.Cmp.{IsTotalOrder}
use Rattle.std.specs.Cmp.Lexicographic.{nat_list_cmp_total}
use Rattle.std.specs.declared.cmp.Ordering.{Ordering}
use Rattle.std.specs.declared.cmp.Ordering.TheVariants.{Less, Equal, Greater}
use Rattle.std.proofs.lemmas.Bool.{false≢true}
use Rattle.std.proofs.lemmas.List.{take_more}
use Rattle.std.proofs.lemmas.List.Elements.{All-push}
use Rattle.orc_expr.specs.inside.Covering.{IsBest}
use Rattle.orc_path.proofs.PathOrder.{path_cmp_total}
use Rattle.orc_path.specs.declared.item.Write.{Write}
use Rattle.orc_path.specs.declared.item.Write.TheVariants.{At, Service}
use Rattle.orc_expr.specs.Touches.{write_touches_any, write_cmp, IsFirstTouch, IsUntouched}
use Rattle.orc_expr.specs.declared.read.Read.{Read}

write_total : IsTotalOrder write_cmp
write_total = record { antisymm = turned; trans = through; congr = tied }
  where
    turned : (x y : Write) → write_cmp x y ≡ ordering_reverse (write_cmp y x)
    turned (At p) (At q) = path_cmp_total.antisymm p q
    turned (At p) (Service t) = refl
    turned (Service s) (At q) = refl
    turned (Service s) (Service t) = nat_list_cmp_total.antisymm s t

    through : (x y z : Write) → write_cmp x y ≡ Less → write_cmp y z ≡ Less → write_cmp x z ≡ Less
    through (At p) (At q) (At r) a b = path_cmp_total.trans p q r a b
    through (At p) (At q) (Service u) a b = refl
    through (At p) (Service t) (At r) a b = let never : ⊥ = cc in absurd never
    through (At p) (Service t) (Service u) a b = refl
    through (Service s) (At q) z a b = let never : ⊥ = cc in absurd never
    through (Service s) (Service t) (At r) a b = let never : ⊥ = cc in absurd never
    through (Service s) (Service t) (Service u) a b = nat_list_cmp_total.trans s t u a b

    tied : (x y z : Write) → write_cmp x y ≡ Equal → write_cmp x z ≡ write_cmp y z
    tied (At p) (At q) (At r) a = path_cmp_total.congr p q r a
    tied (At p) (At q) (Service u) a = refl
    tied (At p) (Service t) z a = let never : ⊥ = cc in absurd never
    tied (Service s) (At q) z a = let never : ⊥ = cc in absurd never
    tied (Service s) (Service t) (At r) a = refl
    tied (Service s) (Service t) (Service u) a = nat_list_cmp_total.congr s t u a

-- what is less than one that isn't greater is less
less_through : (x y z : Write) → write_cmp x y ≡ Less → (write_cmp z y ≡ Less → ⊥) → write_cmp x z ≡ Less
less_through x y z less not_less = by (write_cmp y z) refl
  where
    by : (o : Ordering) → write_cmp y z ≡ o → write_cmp x z ≡ Less
    by Less is = write_total.trans x y z less is
    by Equal is =
        write_total.antisymm x z ∙ ap ordering_reverse (sym (write_total.congr y z x is) ∙ write_total.antisymm y x ∙ ap ordering_reverse less)
    by Greater is = absurd (not_less (write_total.antisymm z y ∙ ap ordering_reverse is))

-- one of a list with one more
which : (ws : List Write) (w : Write) (place : ℕ) (other : Write) → slice_get (ws ++ w ∷ []) place ≡ Some other
    → ((place < length ws) × (slice_get ws place ≡ Some other)) ⊎ ((place ≡ length ws) × (w ≡ other))
which [] w zero other h = let same : w ≡ other = cc in inr (refl, same)
which [] w (suc place) other h = let never : ⊥ = cc in absurd never
which (v ∷ ws) w zero other h = inl (omega arith, h)
which (v ∷ ws) w (suc place) other h = on (which ws w place other h)
  where
    on : ((place < length ws) × (slice_get ws place ≡ Some other)) ⊎ ((place ≡ length ws) × (w ≡ other))
        → ((suc place < length (v ∷ ws)) × (slice_get ws place ≡ Some other)) ⊎ ((suc place ≡ length (v ∷ ws)) × (w ≡ other))
    on (inl a) = inl (let l = a.0 in omega (arith, l), a.1)
    on (inr a) = inr (ap suc a.0, a.1)

last_there : (ws : List Write) (w : Write) → slice_get (ws ++ w ∷ []) (length ws) ≡ Some w
last_there [] w = refl
last_there (v ∷ ws) w = last_there ws w

earlier_there : (ws : List Write) (w : Write) (place : ℕ) (other : Write) → slice_get ws place ≡ Some other → slice_get (ws ++ w ∷ []) place ≡ Some other
earlier_there [] w place other h = let never : ⊥ = cc in absurd never
earlier_there (v ∷ ws) w zero other h = h
earlier_there (v ∷ ws) w (suc place) other h = earlier_there ws w place other h

is_within : (ws : List Write) (place : ℕ) (other : Write) → slice_get ws place ≡ Some other → place < length ws
is_within [] place other h = let never : ⊥ = cc in absurd never
is_within (v ∷ ws) zero other h = omega arith
is_within (v ∷ ws) (suc place) other h = let l = is_within ws place other h in omega (arith, l)

irreflexive : (w : Write) → write_cmp w w ≡ Less → ⊥
irreflexive w less = let turned : Less ≡ Greater = sym less ∙ write_total.antisymm w w ∙ ap ordering_reverse less in let never : ⊥ = cc in never

abbrev Where : List Write → Write → ℕ → Write → Type 0
Where ws w place other = ((place < length ws) × (slice_get ws place ≡ Some other)) ⊎ ((place ≡ length ws) × (w ≡ other))

untouched_at : (reads : List Read) (ws : List Write) → IsUntouched reads ws → (place : ℕ) (other : Write) → slice_get ws place ≡ Some other → write_touches_any reads other ≡ false
untouched_at reads [] all place other h = let never : ⊥ = cc in absurd never
untouched_at reads (v ∷ vs) all zero other h = let same : v ≡ other = cc in subst (λ u. write_touches_any reads u ≡ false) same (all 0 v (omega arith))
untouched_at reads (v ∷ vs) all (suc place) other h = untouched_at reads vs (λ k d l. all (suc k) d (omega (arith, l))) place other h

module _ (reads : List Read) (ws : List Write) (w : Write) where
  pub untouched_more : IsUntouched reads ws → write_touches_any reads w ≡ false → IsUntouched reads (ws ++ w ∷ [])
  untouched_more none never = All-push (λ written. write_touches_any reads written ≡ false) ws w none never

  -- the first that touches
  pub first_found : IsUntouched reads ws → write_touches_any reads w ≡ true → IsFirstTouch reads (ws ++ w ∷ []) (length ws)
  first_found none so = record {
    written = w;
    there = last_there ws w;
    touching = so;
    least = λ place other is t less. on place other (which ws w place other is) t less;
    first = λ place other before is t. absurd (never place other (which ws w place other is) before t);
  }
    where
      on : (place : ℕ) (other : Write) → Where ws w place other → write_touches_any reads other ≡ true → write_cmp other w ≡ Less → ⊥
      on place other (inl a) t less = false≢true (sym (untouched_at reads ws none place other a.1) ∙ t)
      on place other (inr a) t less = irreflexive w (subst (λ o. write_cmp o w ≡ Less) (sym a.1) less)

      never : (place : ℕ) (other : Write) → Where ws w place other → place < length ws → write_touches_any reads other ≡ true → ⊥
      never place other (inl a) before t = false≢true (sym (untouched_at reads ws none place other a.1) ∙ t)
      never place other (inr a) before t = let e = a.0 in omega (arith, e, before)

  module _ (at : ℕ) (best : IsFirstTouch reads ws at) where
    -- a lesser one that touches
    pub better_found : write_touches_any reads w ≡ true → write_cmp w best.written ≡ Less → IsFirstTouch reads (ws ++ w ∷ []) (length ws)
    better_found so less = record {
      written = w;
      there = last_there ws w;
      touching = so;
      least = λ place other is t other_less. on place other (which ws w place other is) t other_less;
      first = λ place other before is t. in_front place other (which ws w place other is) before t;
    }
      where
        on : (place : ℕ) (other : Write) → Where ws w place other → write_touches_any reads other ≡ true → write_cmp other w ≡ Less → ⊥
        on place other (inl a) t other_less = best.least place other a.1 t (write_total.trans other w best.written other_less less)
        on place other (inr a) t other_less = irreflexive w (subst (λ o. write_cmp o w ≡ Less) (sym a.1) other_less)

        in_front : (place : ℕ) (other : Write) → Where ws w place other → place < length ws → write_touches_any reads other ≡ true → write_cmp w other ≡ Less
        in_front place other (inl a) before t = less_through w best.written other less (best.least place other a.1 t)
        in_front place other (inr a) before t = absurd (let e = a.0 in omega (arith, e, before))

    -- one that doesn't touch, or isn't less
    pub best_stays : (write_touches_any reads w ≡ true → write_cmp w best.written ≢ Less) → IsFirstTouch reads (ws ++ w ∷ []) at
    best_stays stays = record {
      written = best.written;
      there = earlier_there ws w at best.written best.there;
      touching = best.touching;
      least = λ place other is t less. on place other (which ws w place other is) t less;
      first = λ place other before is t. in_front place other (which ws w place other is) before t;
    }
      where
        on : (place : ℕ) (other : Write) → Where ws w place other → write_touches_any reads other ≡ true → write_cmp other best.written ≡ Less → ⊥
        on place other (inl a) t less = best.least place other a.1 t less
        on place other (inr a) t less =
            stays (subst (λ o. write_touches_any reads o ≡ true) (sym a.1) t) (subst (λ o. write_cmp o best.written ≡ Less) (sym a.1) less)

        in_front : (place : ℕ) (other : Write) → Where ws w place other → place < at → write_touches_any reads other ≡ true → write_cmp best.written other ≡ Less
        in_front place other (inl a) before t = best.first place other before a.1 t
        in_front place other (inr a) before t = absurd (let e = a.0 in let l = is_within ws at best.written best.there in omega (arith, e, l, before))

-- the write at a place, in a list and among its first
found_at : (ws : List Write) (n place : ℕ) (other d : Write) → slice_get (take n ws) place ≡ Some other → get_or ws place d ≡ other
found_at ws zero place other d h = let never : ⊥ = cc in absurd never
found_at [] (suc n) place other d h = let never : ⊥ = cc in absurd never
found_at (v ∷ ws) (suc n) zero other d h = let same : v ≡ other = cc in same
found_at (v ∷ ws) (suc n) (suc place) other d h = found_at ws n place other d h

module _ (reads : List Read) (writes : List Write) (at : ℕ) (w : Write) (lt : at < length writes) (is : w ≡ get_or writes at w) where
  more : take (at + 1) writes ≡ take at writes ++ w ∷ []
  more = take_more writes at w lt ∙ ap (λ x. take at writes ++ x ∷ []) (sym is)

  long : length (take at writes) ≡ at
  long = let n = length-take at writes in omega (arith, n, lt)

  -- one that doesn't touch
  pub best_passes : (best : Option ℕ) → IsBest reads (take at writes) best → write_touches_any reads w ≡ false → IsBest reads (take (at + 1) writes) best
  best_passes None known never = subst (IsUntouched reads) (sym more) (untouched_more reads (take at writes) w known never)
  best_passes (Some place) known never =
      subst (λ ws. IsFirstTouch reads ws place) (sym more) (best_stays reads (take at writes) w place known (λ t. absurd (false≢true (sym never ∙ t))))

  -- the first that touches
  pub best_first : IsUntouched reads (take at writes) → write_touches_any reads w ≡ true → IsFirstTouch reads (take (at + 1) writes) at
  best_first none touched =
      subst (λ ws. IsFirstTouch reads ws at) (sym more) (subst (IsFirstTouch reads (take at writes ++ w ∷ [])) long (first_found reads (take at writes) w none touched))

  module _ (place : ℕ) (best : IsFirstTouch reads (take at writes) place) where
    pub best_within : place < length writes
    best_within = let l = is_within (take at writes) place best.written best.there in omega (arith, l, long, lt)

    module _ (v : Write) (v_is : v ≡ get_or writes place v) where
      v_best : v ≡ best.written
      v_best = v_is ∙ found_at writes at place best.written v best.there

      -- a lesser one
      pub best_better : write_touches_any reads w ≡ true → write_cmp w v ≡ Less → IsFirstTouch reads (take (at + 1) writes) at
      best_better touched less =
          subst (λ ws. IsFirstTouch reads ws at) (sym more)
          (subst (IsFirstTouch reads (take at writes ++ w ∷ [])) long
          (better_found reads (take at writes) w place best touched (ap (write_cmp w) (sym v_best) ∙ less)))

      -- one that isn't less
      pub best_kept : (write_cmp w v ≡ Less → ⊥) → IsFirstTouch reads (take (at + 1) writes) place
      best_kept unlike =
          subst (λ ws. IsFirstTouch reads ws place) (sym more)
          (best_stays reads (take at writes) w place best (λ t less. unlike (ap (write_cmp w) v_best ∙ less)))

-- the best so far is one of the list
pub best_place : (reads : List Read) (writes : List Write) (at : ℕ) (best : Option ℕ) → IsBest reads (take at writes) best
    → MatchOption best (Unit {0}) (λ place. place < length writes)
best_place reads writes at None known = tt
best_place reads writes at (Some place) known =
    let l = is_within (take at writes) place known.written known.there in let n = length-take at writes in omega (arith, l, n)
