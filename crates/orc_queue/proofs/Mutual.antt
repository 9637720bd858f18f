-- What shares nothing with another shares nothing with it the other way round.
use Rattle.std.proofs.Common.{◌≡◌, ◌==◌, Bool, true, false, not, ◌||◌, List, [], ◌∷◌, refl, sym, ap, ◌∙◌}
use Rattle.std.specs.List.{list_all, list_any}
use Rattle.std.specs.Prelude.{nat_eq}
use Rattle.std.specs.Cmp.Lexicographic.{pointwise, bytes_decides}
use Rattle.std.proofs.lemmas.Bool.{eq-eqb, eqb-true, false≢true, and_from, and_parts, or_from, or_parts}
use Rattle.orc_queue.specs.Fitting.{FittingIsMutual}

not_so : (t : Bool) → not t ≡ true → t ≡ false
not_so true h = absurd (false≢true h)
not_so false h = refl

module _ {X : Type 0} (same : X → X → Bool) (exact : (x y : X) → same x y ≡ true → x ≡ y) (itself : (x : X) → same x x ≡ true) where
  unlike : (x y : X) → same y x ≡ false → same x y ≡ false
  unlike x y apart = on (same x y) refl
    where
      on : (t : Bool) → same x y ≡ t → t ≡ false
      on false is = refl
      on true is = absurd (false≢true (sym apart ∙ ap (λ z. same y z) (exact x y is) ∙ itself y))

  -- what shares nothing with a list has not its first element, and shares nothing with the rest
  parted : (y : X) (other one : List X) → list_all (λ x. not (list_any (λ it. same it x) (y ∷ other))) one ≡ true
      → (list_any (λ it. same it y) one ≡ false) × (list_all (λ x. not (list_any (λ it. same it x) other)) one ≡ true)
  parted y other [] h = (refl, refl)
  parted y other (x ∷ one) h =
      let parts = and_parts (not (same y x || list_any (λ it. same it x) other)) (list_all (λ x. not (list_any (λ it. same it x) (y ∷ other))) one) h in
      let here = or_parts (same y x) (list_any (λ it. same it x) other) (not_so (same y x || list_any (λ it. same it x) other) parts.0) in
      let rest = parted y other one parts.1 in (
        or_from (same x y) (list_any (λ it. same it y) one) (unlike x y here.0) rest.0,
        and_from (not (list_any (λ it. same it x) other)) (list_all (λ x. not (list_any (λ it. same it x) other)) one) (ap not here.1) rest.1,
      )

  other_way_round : (one other : List X) → list_all (λ x. not (list_any (λ it. same it x) other)) one ≡ true
      → list_all (λ x. not (list_any (λ it. same it x) one)) other ≡ true
  other_way_round one [] h = refl
  other_way_round one (y ∷ other) h =
      let parts = parted y other one h in
      and_from (not (list_any (λ it. same it y) one)) (list_all (λ x. not (list_any (λ it. same it x) one)) other) (ap not parts.0) (other_way_round one other parts.1)

pub fit_other : FittingIsMutual
fit_other one other fit = record {
  devices = other_way_round (λ x y. x == y) eqb-true (λ x. eq-eqb x x refl) one.devices other.devices fit.devices;
  services = other_way_round (λ x y. pointwise nat_eq x y) (λ x y. (bytes_decides x y).0) (λ x. (bytes_decides x x).1 refl) one.services other.services fit.services;
  reads_kept = fit.keeps_reads;
  keeps_reads = fit.reads_kept;
}
