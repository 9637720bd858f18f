-- Rows of operations of a disk that stops another one.
use Rattle.std.specs.Prelude.{◌≡◌, ◌⊎◌, ℕ, ◌+◌, ◌-◌, ◌<◌, ◌≤◌, min, List, ◌++◌, Bool, true, false, ◌||◌}
use Rattle.std.proofs.Common.{arith, inl, inr, refl, sym, ap, ◌∙◌, ⊎_elim}
use Rattle.std.proofs.lemmas.Bool.{true≢false, false≢true}
use Rattle.orc_text.specs.Counts.{capped}
use Rattle.orc_io.specs.Counts.{Rose}
use Rattle.orc_disk.specs.Meanings.{DiskMeaning}
use Rattle.orc_disk.specs.Rows.{Course, row, joined}
use Rattle.orc_disk.specs.Course.{Counted}
use Rattle.orc_disk.specs.laws.Course.{capped-sum}
use Rattle.orc_disk.specs.Stops.{Stopping, Led, all_faults}

either : (x y : Bool) → x ≡ true → (x || y) ≡ true
either true y e = refl
either false y e = grind (arith, e)

or_else : (x y : Bool) → y ≡ true → (x || y) ≡ true
or_else true y e = refl
or_else false y e = e

neither : (x y : Bool) → (x || y) ≡ false → (x ≡ false) × (y ≡ false)
neither true y e = absurd (true≢false e)
neither false y e = (refl, e)

clash : (x : Bool) → x ≡ false → x ≡ true → ⊥
clash x is_false is_true = false≢true (sym is_false ∙ is_true)

running_or_stopped : (x : Bool) → (x ≡ false) ⊎ (x ≡ true)
running_or_stopped true = inr refl
running_or_stopped false = inl refl

module _ {D : Type 0} (disk : DiskMeaning D) where
  -- none came
  pub Led-refl : ((d : D) → disk.leads (row 0 false) d d) → (s : Stopping D) → Led disk (row 0 false) s s
  Led-refl stays s = record {
    inner_course = row 0 false;
    inner = stays s.inner;
    gave = refl;
    ops = grind arith;
    bytes = refl;
    stops = omega arith;
    still = λ stopped. (stopped, refl);
    idle = λ stopped. (refl, refl);
    passes = λ running still. (omega arith, grind arith);
    whole = λ running still. refl;
    comes = λ running stopped. absurd (clash _ running stopped);
    short = λ running stopped. absurd (clash _ running stopped);
    runs = λ none running. running;
    cause = λ f. grind (arith, f);
  }

  module _ (first second : Course) (a b c : Stopping D) (p : Led disk first a b) (q : Led disk second b c) where
    passes_of : a.stopped ≡ false → c.stopped ≡ false → (b.stopped ≡ false) ⊎ (b.stopped ≡ true)
        → (c.op ≡ a.op - (first.operations + second.operations))
        × ((a.op ≡ 0) ⊎ (first.operations + second.operations < a.op))
    passes_of running still (inl mid) =
        let one = p.passes running mid in
        let two = q.passes mid still in
        (omega (arith, one.0, two.0), grind (arith, one.0, one.1, two.1))
    passes_of running still (inr mid) = absurd (clash _ still (q.still mid).0)

    whole_of : a.stopped ≡ false → c.stopped ≡ false → (b.stopped ≡ false) ⊎ (b.stopped ≡ true)
        → joined p.inner_course q.inner_course ≡ joined first second
    whole_of running still (inl mid) =
        ap (λ r. joined r q.inner_course) (p.whole running mid) ∙ ap (joined first) (q.whole mid still)
    whole_of running still (inr mid) = absurd (clash _ still (q.still mid).0)

    comes_of : a.stopped ≡ false → c.stopped ≡ true → (b.stopped ≡ false) ⊎ (b.stopped ≡ true)
        → (1 ≤ a.op) × (a.op ≤ first.operations + second.operations) × (c.op ≡ 0)
    comes_of running stopped (inl mid) =
        let one = p.passes running mid in
        let two = q.comes mid stopped in
        (omega (arith, one.0, two.0), omega (arith, one.0, two.1), two.2)
    comes_of running stopped (inr mid) =
        let one = p.comes running mid in
        (one.0, omega (arith, one.1), (q.still mid).1 ∙ one.2)

    short_of : a.stopped ≡ false → c.stopped ≡ true → (b.stopped ≡ false) ⊎ (b.stopped ≡ true)
        → p.inner_course.operations + q.inner_course.operations ≡ a.op - 1 + min a.bytes 1
    short_of running stopped (inl mid) =
        let one = p.passes running mid in
        let two = q.comes mid stopped in
        let before : p.inner_course.operations ≡ first.operations =
        ap (λ (r : Course). r.operations) (p.whole running mid) in
        let behind : q.inner_course.operations ≡ b.op - 1 + min a.bytes 1 =
        q.short mid stopped ∙ ap (λ (n : ℕ). b.op - 1 + min n 1) p.bytes in
        omega (arith, before, behind, one.0, two.0)
    short_of running stopped (inr mid) =
        let none : q.inner_course.operations ≡ 0 = ap (λ (r : Course). r.operations) (q.idle mid).0 in
        omega (arith, none, p.short running mid)

    idle_of : a.stopped ≡ true → (joined p.inner_course q.inner_course ≡ row 0 false) × (c.inner ≡ a.inner)
    idle_of stopped =
        let one = p.idle stopped in
        let two = q.idle (p.still stopped).0 in (
          ap (λ r. joined r q.inner_course) one.0 ∙ ap (joined (row 0 false)) two.0,
          two.1 ∙ one.1,
        )

    cause_of : (x y : Bool) → first.failed ≡ x → second.failed ≡ y → (x || y) ≡ true
        → ((p.inner_course.failed || q.inner_course.failed) ≡ true) ⊎ ((c.stopped ≡ true) × Rose a.stops c.stops)
    cause_of true y is_x is_y e =
        ⊎_elim
        (λ failed. inl (either _ _ failed))
        (λ stopped. inr ((q.still stopped.0).0, grind (arith, stopped.1, q.stops)))
        (p.cause is_x)
    cause_of false y is_x is_y e =
        ⊎_elim
        (λ failed. inl (or_else _ _ failed))
        (λ stopped. inr (stopped.0, grind (arith, stopped.1, p.stops)))
        (q.cause (is_y ∙ e))

  -- some came, and then others
  pub Led-trans : (
      (first second : Course) (a b c : D)
      → disk.leads first a b → disk.leads second b c → disk.leads (joined first second) a c
      )
      → (first second : Course) (a b c : Stopping D)
      → Led disk first a b → Led disk second b c → Led disk (joined first second) a c
  Led-trans goes_on first second a b c p q = record {
    inner_course = joined p.inner_course q.inner_course;
    inner = goes_on _ _ _ _ _ p.inner q.inner;
    gave = ap (λ l. l ++ q.inner_course.gave) p.gave ∙ ap (λ l. first.gave ++ l) q.gave;
    ops = capped-sum first.operations second.operations (capped a.ops) (capped b.ops) (capped c.ops) p.ops q.ops;
    bytes = q.bytes ∙ p.bytes;
    stops = omega (arith, p.stops, q.stops);
    still = λ stopped. let mid = p.still stopped in let end = q.still mid.0 in (end.0, end.1 ∙ mid.1);
    idle = idle_of first second a b c p q;
    passes = λ running still. passes_of first second a b c p q running still (running_or_stopped b.stopped);
    whole = λ running still. whole_of first second a b c p q running still (running_or_stopped b.stopped);
    comes = λ running stopped. comes_of first second a b c p q running stopped (running_or_stopped b.stopped);
    short = λ running stopped. short_of first second a b c p q running stopped (running_or_stopped b.stopped);
    runs = λ none running. let each = neither _ _ none in q.runs each.1 (p.runs each.0 running);
    cause = cause_of first second a b c p q _ _ refl refl;
  }

-- the sum of two counts, one of which may rise
sum_later : (f g s t : ℕ) → f ≤ g → s ≤ t → capped (f + s) ≤ capped (g + t)
sum_later f g s t p q = grind (arith, p, q)

sum_rose_first : (f g s t : ℕ) → Rose f g → s ≤ t → Rose (capped (f + s)) (capped (g + t))
sum_rose_first f g s t p q = grind (arith, p, q)

sum_rose_second : (f g s t : ℕ) → f ≤ g → Rose s t → Rose (capped (f + s)) (capped (g + t))
sum_rose_second f g s t p q = grind (arith, p, q)

-- its count reports failed operations where that of the disk inside does
pub Led-counts : {D : Type 0} (disk : DiskMeaning D)
    → ((course : Course) (a b : D)
    → disk.leads course a b → Counted course.failed (disk.faults a) (disk.faults b))
    → (course : Course) (a b : Stopping D)
    → Led disk course a b → Counted course.failed (all_faults disk a) (all_faults disk b)
Led-counts disk counts course a b p =
    let inner = counts p.inner_course a.inner b.inner p.inner in
    record {
      later = sum_later _ _ _ _ inner.later p.stops;
      rose = λ e. ⊎_elim
          (λ failed. sum_rose_first _ _ _ _ (inner.rose failed) p.stops)
          (λ stopped. sum_rose_second _ _ _ _ inner.later stopped.1)
          (p.cause e);
    }

-- it reports what reads gave where the disk inside does
pub Led-tells : {D : Type 0} (disk : DiskMeaning D)
    → ((course : Course) (a b : D) → disk.leads course a b → disk.heard b ≡ disk.heard a ++ course.gave)
    → (course : Course) (a b : Stopping D)
    → Led disk course a b → disk.heard b.inner ≡ disk.heard a.inner ++ course.gave
Led-tells disk tells course a b p =
    tells p.inner_course a.inner b.inner p.inner
    ∙ ap (λ (l : List (ℕ × List ℕ)). disk.heard a.inner ++ l) p.gave
