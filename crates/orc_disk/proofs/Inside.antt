-- What the operations of the disk inside a stopping one say of both.
use Rattle.std.specs.Prelude.{◌≡◌, ℕ, ◌+◌, ◌-◌, ◌<◌, ◌≤◌, min, List, Bool, true, false}
use Rattle.std.proofs.Common.{subst, sym, ap, ◌∙◌, arith, refl, inl, inr, ⊎_elim}
use Rattle.std.proofs.lemmas.Bool.{false≢true, cases_lt}
use Rattle.orc_text.specs.Counts.{capped}
use Rattle.orc_io.specs.Counts.{next_count}
use Rattle.orc_disk.proofs.Torn.{Torn-within}
use Rattle.orc_disk.specs.Meanings.{DiskMeaning}
use Rattle.orc_disk.specs.Crashes.{TearsAt}
use Rattle.orc_disk.specs.Rows.{Course, row}
use Rattle.orc_disk.specs.Course.{Counted}
use Rattle.orc_disk.specs.Stops.{Stopping, Reached, Led, asked, refused, stopped_at}

-- a shorter write tore the disk inside
pub TearsAt-inside : {D : Type 0} (disk : DiskMeaning D) (s t : Stopping D) (at m n : ℕ) (new : List ℕ → Type 0)
    → t ≡ s → m ≤ n → TearsAt at m (disk.may_leave t.inner) new → TearsAt at n (disk.may_leave s.inner) new
TearsAt-inside disk s t at m n new same le tears c left =
    let from = tears c left in
    (from.0, subst (λ (s : Stopping _). disk.may_leave s.inner from.0) same from.1, Torn-within at n at m from.0 c (omega arith) (omega (arith, le)) from.2)

-- the disk inside was asked for its length or read, by one that runs
pub Led-inside : {D : Type 0} (disk : DiskMeaning D) (x : Bool) (gave : List (ℕ × List ℕ)) (s t : Stopping D) (inner : D)
    → s ≡ t → t.stopped ≡ false → disk.leads (record { operations = 0; failed = x; gave = gave }) s.inner inner
    → Led disk (record { operations = 0; failed = x; gave = gave }) t (record s { inner = inner })
Led-inside disk x gave s t inner same running led =
    let course : Course = record { operations = 0; failed = x; gave = gave } in
    let runs : s.stopped ≡ false = ap (λ (s : Stopping _). s.stopped) same ∙ running in
    subst (λ (a : Stopping _). Led disk course a (record s { inner = inner })) same (record {
      inner_course = course;
      inner = led;
      gave = refl;
      ops = grind arith;
      bytes = refl;
      stops = omega arith;
      still = λ stopped. (stopped, refl);
      idle = λ stopped. absurd (false≢true (sym runs ∙ stopped));
      passes = λ _ _. (omega arith, grind arith);
      whole = λ _ _. refl;
      comes = λ _ stopped. absurd (false≢true (sym runs ∙ stopped));
      short = λ _ stopped. absurd (false≢true (sym runs ∙ stopped));
      runs = λ _ _. runs;
      cause = λ failed. inl failed;
    })

module _ {D : Type 0} (disk : DiskMeaning D) where
  -- a stopped one refused an operation, with so many writes and syncs more that it was asked for
  led_nowhere : ((d : D) → disk.leads (row 0 false) d d) → (operations ops : ℕ) (s t : Stopping D) → s.stopped ≡ true
      → t ≡ record s { ops = ops; stops = next_count s.stops } → Counted true s.stops t.stops
      → capped ops ≡ capped (capped s.ops + operations) → Led disk (row operations true) s t
  led_nowhere stays operations ops s t down same count asks =
      let counted : Counted true s.stops (next_count s.stops) = subst (λ (b : Stopping D). Counted true s.stops b.stops) same count in
      subst (λ (b : Stopping D). Led disk (row operations true) s b) (sym same) (record {
        inner_course = row 0 false;
        inner = stays s.inner;
        gave = refl;
        ops = asks;
        bytes = refl;
        stops = counted.later;
        still = λ stopped. (stopped, refl);
        idle = λ stopped. (refl, refl);
        passes = λ running _. absurd (false≢true (sym running ∙ down));
        whole = λ running _. absurd (false≢true (sym running ∙ down));
        comes = λ running _. absurd (false≢true (sym running ∙ down));
        short = λ running _. absurd (false≢true (sym running ∙ down));
        runs = λ none _. absurd (false≢true (sym none));
        cause = λ failed. inr (down, counted.rose refl);
      })

  -- an operation that is no write and no sync was refused
  pub Led-refused : ((d : D) → disk.leads (row 0 false) d d) → (s t : Stopping D) → s.stopped ≡ true → t ≡ refused s → Counted true s.stops t.stops
      → Led disk (row 0 true) s t
  Led-refused stays s t down same count = led_nowhere stays 0 s.ops s t down same count (grind arith)

  -- a write or a sync was refused
  pub Led-refused-asked : ((d : D) → disk.leads (row 0 false) d d) → (s a t : Stopping D) → a ≡ asked s → a.stopped ≡ true → t ≡ refused a
      → Counted true a.stops t.stops → Led disk (row 1 true) s t
  Led-refused-asked stays s a t is stopped_a same_a count_a =
      led_nowhere stays 1 (next_count s.ops) s t
      (sym (ap (λ (b : Stopping D). b.stopped) is) ∙ stopped_a)
      (same_a ∙ ap refused is)
      (subst (λ (b : Stopping D). Counted true b.stops t.stops) is count_a)
      (grind arith)

  -- the armed operation stopped one that ran, and the disk inside did it where a byte was left
  pub Led-stopped : (failed : Bool) (s t : Stopping D) (inner : D) → s.stopped ≡ false → s.op ≡ 1 → t ≡ stopped_at s inner
      → Counted true s.stops t.stops → disk.leads (row (min s.bytes 1) failed) s.inner inner → Led disk (row 1 true) s t
  Led-stopped failed s t inner runs armed same count led =
      let counted : Counted true s.stops (next_count s.stops) = subst (λ (b : Stopping D). Counted true s.stops b.stops) same count in
      subst (λ (b : Stopping D). Led disk (row 1 true) s b) (sym same) (record {
        inner_course = row (min s.bytes 1) failed;
        inner = led;
        gave = refl;
        ops = grind arith;
        bytes = refl;
        stops = counted.later;
        still = λ stopped. absurd (false≢true (sym runs ∙ stopped));
        idle = λ stopped. absurd (false≢true (sym runs ∙ stopped));
        passes = λ _ running. absurd (false≢true (sym running));
        whole = λ _ running. absurd (false≢true (sym running));
        comes = λ _ _. (omega (arith, armed), omega (arith, armed), refl);
        short = λ _ _. omega (arith, armed);
        runs = λ none _. absurd (false≢true (sym none));
        cause = λ _. inr (refl, counted.rose refl);
      })

  -- what the disk inside did of the armed operation
  last_led : ((d : D) → disk.leads (row 0 false) d d) → (P : Type 0) (bytes : ℕ) (old new : D)
      → (bytes ≡ 0 → new ≡ old) → (0 < bytes → Reached disk P old new) → (failed : Bool) × disk.leads (row (min bytes 1) failed) old new
  last_led stays P bytes old new none last = ⊎_elim
      (λ some. let reached = last some in
      let one : 1 ≡ min bytes 1 = omega (arith, some) in
      (reached.failed, subst (λ (n : ℕ). disk.leads (row n reached.failed) old new) one reached.course))
      (λ le. let is : bytes ≡ 0 = omega (arith, le) in
      let no_one : 0 ≡ min bytes 1 = omega (arith, is) in
      (false, subst (λ (n : ℕ). disk.leads (row n false) old new) no_one (subst (λ (d : D). disk.leads (row 0 false) old d) (sym (none is)) (stays old))))
      (cases_lt 0 bytes)

  -- the armed operation, step by step: it was asked for, came, was done where a byte was left, and failed
  pub Led-armed : ((d : D) → disk.leads (row 0 false) d d) → (P : Type 0) (came : Bool) (s a b d t : Stopping D)
      → a ≡ asked s → a.stopped ≡ false → b ≡ record a { op = a.op - 1; stopped = came } → came ≡ true → a.op ≡ 1
      → d ≡ record b { inner = d.inner } → (b.bytes ≡ 0 → d ≡ b) → (0 < b.bytes → Reached disk P b.inner d.inner)
      → t ≡ refused d → Counted true d.stops t.stops → Led disk (row 1 true) s t
  Led-armed stays P came s a b d t a_is a_runs b_is came_is armed d_is none last t_is count =
      let ended : a.op - 1 ≡ 0 = omega (arith, armed) in
      let b_was : b ≡ record (asked s) { op = 0; stopped = true } =
      b_is
      ∙ ap (λ (n : ℕ). record a { op = n; stopped = came }) ended
      ∙ ap (λ (x : Bool). record a { op = 0; stopped = x }) came_is
      ∙ ap (λ (e : Stopping D). record e { op = 0; stopped = true }) a_is in
      let d_was : d ≡ record (asked s) { inner = d.inner; op = 0; stopped = true } = d_is ∙ ap (λ (e : Stopping D). record e { inner = d.inner }) b_was in
      let inner_was : b.inner ≡ s.inner = ap (λ (e : Stopping D). e.inner) b_was in
      let bytes_was : b.bytes ≡ s.bytes = ap (λ (e : Stopping D). e.bytes) b_was in
      let led = last_led stays P s.bytes b.inner d.inner
      (λ is. ap (λ (e : Stopping D). e.inner) (none (bytes_was ∙ is)))
      (λ some. last (omega (arith, some, bytes_was))) in
      Led-stopped led.0 s t d.inner
      (sym (ap (λ (e : Stopping D). e.stopped) a_is) ∙ a_runs)
      (sym (ap (λ (e : Stopping D). e.op) a_is) ∙ armed)
      (t_is ∙ ap refused d_was)
      (subst (λ (n : ℕ). Counted true n t.stops) (ap (λ (e : Stopping D). e.stops) d_was) count)
      (subst (λ (e : D). disk.leads (row (min s.bytes 1) led.0) e d.inner) inner_was led.1)
