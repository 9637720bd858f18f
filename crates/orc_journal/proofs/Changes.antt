-- Rows of operations that change nothing.
use Rattle.std.specs.Prelude.{ℕ, ◌≤◌, List}
use Rattle.std.proofs.Common.{refl, ◌∙◌, inl, inr, ⊎_elim, arith}
use Rattle.orc_disk.specs.Meanings.{DiskMeaning}
use Rattle.orc_disk.specs.Moments.{Unchanged, LeavesOnly}
use Rattle.orc_disk.proofs.Moments.{started, goes_on}

module _ {D : Type 0} (disk : DiskMeaning D) where
  -- no operation
  pub Unchanged-refl : (at : D) → Unchanged disk at at
  Unchanged-refl at = record {
    same = refl;
    crash = λ file left. left;
    time = record {
      later = omega arith;
      nothing_else = λ since file le left. inl left;
      keeps = λ since file le left. left;
    };
  }

  -- two rows
  pub Unchanged-trans : ((at : D) (since : ℕ) (file : List ℕ) → since ≤ disk.moment at → disk.may_leave at file → disk.left_since at since file)
      → (old mid new : D) → Unchanged disk old mid → Unchanged disk mid new → Unchanged disk old new
  Unchanged-trans counts_now old mid new first second = record {
    same = second.same ∙ first.same;
    crash = λ file left. first.crash file (second.crash file left);
    time = record {
      later = omega (arith, first.time.later, second.time.later);
      nothing_else = λ since file le left.
          ⊎_elim
          (λ earlier. ⊎_elim (λ before. inl before) (λ now. inl (counts_now old since file le (first.crash file now))) (first.time.nothing_else since file le earlier))
          (λ now. inr now)
          (second.time.nothing_else since file (omega (arith, le, first.time.later)) left);
      keeps = λ since file le left. second.time.keeps since file (omega (arith, le, first.time.later)) (first.time.keeps since file le left);
    };
  }

  -- a crash at each moment of it leaves what one before it would have left
  pub Unchanged-leaves : ((at : D) (file : List ℕ) → disk.left_since at (disk.moment at) file → disk.may_leave at file)
      → (old new : D) → Unchanged disk old new → LeavesOnly disk old new (disk.may_leave old)
  Unchanged-leaves only_now old new row =
      goes_on disk old old new (disk.may_leave old) (started disk old (disk.may_leave old) (only_now old)) row.time row.crash
