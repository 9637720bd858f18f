-- Counts of rows of operations.
use Rattle.std.specs.Prelude.{◌≡◌, ℕ, ◌+◌, Bool, true, false, ◌||◌, List, ◌++◌}
use Rattle.std.proofs.Common.{arith, sym, ap, ◌∙◌, append_assoc}
use Rattle.std.proofs.lemmas.List.{append-nil}
use Rattle.orc_text.specs.Counts.{capped}
use Rattle.orc_disk.specs.Rows.{Course, row, joined}
use Rattle.orc_disk.specs.Course.{Counted, Tallied}

-- none came
pub Counted-refl : (n : ℕ) → Counted false n n
Counted-refl n = record { later = omega arith; rose = λ f. grind arith }

-- some came, and then others
pub Counted-trans : (x y : Bool) (a b c : ℕ) → Counted x a b → Counted y b c → Counted (x || y) a c
Counted-trans true y a b c p q = record {
  later = omega (arith, p.later, q.later);
  rose = λ f. grind (arith, p.rose, q.later);
}
Counted-trans false y a b c p q = record {
  later = omega (arith, p.later, q.later);
  rose = λ f. grind (arith, p.later, q.rose f);
}

-- a row of no operations leaves both counts and what reads gave as they were
pub Tallied-refl : (faults ops : ℕ) (heard : List (ℕ × List ℕ))
    → Tallied (row 0 false) faults faults (capped ops) (capped ops) heard heard
Tallied-refl faults ops heard =
    record { faulted = Counted-refl faults; asked = grind arith; gave = sym (append-nil heard) }

pub capped-sum : (m n ops mid now : ℕ) → mid ≡ capped (ops + m) → now ≡ capped (mid + n) → now ≡ capped (ops + (m + n))
capped-sum m n ops mid now p q = grind (arith, p, q)

pub Tallied-trans : (first second : Course) (f g h a b c : ℕ) (x y z : List (ℕ × List ℕ))
    → Tallied first f g a b x y → Tallied second g h b c y z → Tallied (joined first second) f h a c x z
Tallied-trans first second f g h a b c x y z p q = record {
  faulted = Counted-trans first.failed second.failed f g h p.faulted q.faulted;
  asked = capped-sum first.operations second.operations a b c p.asked q.asked;
  gave = q.gave
      ∙ ap (λ (l : List (ℕ × List ℕ)). l ++ second.gave) p.gave
      ∙ append_assoc x first.gave second.gave;
}
