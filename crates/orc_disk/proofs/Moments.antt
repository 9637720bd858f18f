-- How a row of operations of a disk goes on, and what a crash at each of its moments leaves.
use Rattle.std.specs.Prelude.{ℕ, List}
use Rattle.std.proofs.Common.{inl, inr, ⊎_elim, arith}
use Rattle.orc_disk.specs.Meanings.{DiskMeaning}
use Rattle.orc_disk.specs.Moments.{Elapses, LeavesOnly}

module _ {D : Type 0} (disk : DiskMeaning D) where
  -- before the first operation
  pub started : (at : D) (P : List ℕ → Type 0) → ((c : List ℕ) → disk.left_since at (disk.moment at) c → P c) → LeavesOnly disk at at P
  started at P here = record { later = omega arith; each = here; earlier_rows = λ t c le left. inl left }

  -- one operation more, after which a crash leaves what has P
  pub goes_on : (old mid new : D) (P : List ℕ → Type 0) → LeavesOnly disk old mid P
      → Elapses disk mid new → ((c : List ℕ) → disk.may_leave new c → P c) → LeavesOnly disk old new P
  goes_on old mid new P so_far time here = record {
    later = omega (arith, so_far.later, time.later);
    each = λ c left. ⊎_elim (so_far.each c) (here c) (time.nothing_else (disk.moment old) c so_far.later left);
    earlier_rows = λ t c le left. ⊎_elim (so_far.earlier_rows t c le) (λ now. inr (here c now)) (time.nothing_else t c (omega (arith, le, so_far.later)) left);
  }

  -- two runs, one after the other
  pub joined : (old mid new : D) (P : List ℕ → Type 0) → LeavesOnly disk old mid P → LeavesOnly disk mid new P → LeavesOnly disk old new P
  joined old mid new P first second = record {
    later = omega (arith, first.later, second.later);
    each = λ c left. ⊎_elim (first.each c) (λ holds. holds) (second.earlier_rows (disk.moment old) c first.later left);
    earlier_rows = λ t c le left. ⊎_elim (first.earlier_rows t c le) (λ holds. inr holds) (second.earlier_rows t c (omega (arith, le, first.later)) left);
  }

  -- a run whose files have more than what is asked
  pub weaker : (old new : D) (P Q : List ℕ → Type 0) → ((c : List ℕ) → P c → Q c) → LeavesOnly disk old new P → LeavesOnly disk old new Q
  weaker old new P Q more run = record {
    later = run.later;
    each = λ c left. more c (run.each c left);
    earlier_rows = λ t c le left. ⊎_elim (λ past. inl past) (λ holds. inr (more c holds)) (run.earlier_rows t c le left);
  }
