-- What the steps of opening a journal leave of a disk.
use Rattle.std.specs.Prelude.{◌≡◌, ◌⊎◌, ℕ, List, [], Option, Some, None, IfSome, is_some}
use Rattle.std.proofs.lemmas.Option.{IfSome_then}
use Rattle.std.proofs.Common.{inl, inr, ⊎_elim, sym, ap, ◌∙◌, subst}
use Rattle.orc_disk.specs.Meanings.{DiskMeaning}
use Rattle.orc_disk.specs.Moments.{Unchanged, LeavesOnly}
use Rattle.orc_disk.proofs.Moments.{joined, weaker}
use Rattle.orc_journal.specs.Opening.{IsOpening, MayBecome, LeavesOpening}
use Rattle.orc_journal.specs.inside.Blocks.{IsTornFrom}
use Rattle.orc_journal.proofs.Changes.{Unchanged-refl, Unchanged-leaves}
use Rattle.orc_journal.proofs.Endings.{opening_empty, opening_same}

module _ {D : Type 0} (disk : DiskMeaning D) where
  -- what a crash while a journal of these declarations is opened may leave
  abbrev Left : List ℕ → D → List ℕ → Type 0
  Left decls old file = disk.may_leave old file ⊎ MayBecome disk decls old file

  -- the file as it is
  stays : (decls : List ℕ) (content : Option (List ℕ)) → IfSome content (λ file. IfSome content (λ held. IsOpening decls held file))
  stays decls None = tt
  stays decls (Some file) = opening_same decls file

  -- a write and its sync, which leave what may become of the file
  pub LeavesOpening-torn : (decls : List ℕ) (old new : D) (at n : ℕ) → is_some (disk.content new) ≡ is_some (disk.content old)
      → ((file : List ℕ) → IsTornFrom (disk.may_leave old) at n file → MayBecome disk decls old file)
      → LeavesOnly disk old new (IsTornFrom (disk.may_leave old) at n) → IfSome (disk.content new) (IsTornFrom (disk.may_leave old) at n)
      → LeavesOpening disk decls old new
  LeavesOpening-torn decls old new at n tells becomes row left = record {
    still_tells = tells;
    any_moment = weaker disk old new (IsTornFrom (disk.may_leave old) at n) (Left decls old) (λ file torn. inr (becomes file torn)) row;
    left = IfSome_then (disk.content new) left becomes;
  }

  -- what a write leaves on an empty disk, where any bytes may come
  pub LeavesOpening-empty : (decls : List ℕ) (old new : D) (at n : ℕ) → IfSome (disk.content old) (λ file. file ≡ [])
      → is_some (disk.content new) ≡ is_some (disk.content old)
      → LeavesOnly disk old new (IsTornFrom (disk.may_leave old) at n) → IfSome (disk.content new) (IsTornFrom (disk.may_leave old) at n)
      → LeavesOpening disk decls old new
  LeavesOpening-empty decls old new at n empty tells row left =
      LeavesOpening-torn decls old new at n tells (λ file torn. opening_empty (disk.content old) empty decls file) row left

  module _ (only_now : (at : D) (file : List ℕ) → disk.left_since at (disk.moment at) file → disk.may_leave at file) where
    -- nothing changed
    pub LeavesOpening-unchanged : (decls : List ℕ) (old new : D) → Unchanged disk old new → LeavesOpening disk decls old new
    LeavesOpening-unchanged decls old new row = record {
      still_tells = ap is_some row.same;
      any_moment = weaker disk old new (disk.may_leave old) (Left decls old) (λ file left. inl left) (Unchanged-leaves disk only_now old new row);
      left = subst (λ o. IfSome o (MayBecome disk decls old)) (sym row.same) (stays decls (disk.content old));
    }

    -- no operation
    pub LeavesOpening-refl : (decls : List ℕ) (at : D) → LeavesOpening disk decls at at
    LeavesOpening-refl decls at = LeavesOpening-unchanged decls at at (Unchanged-refl disk at)

    -- nothing changed, and then more came
    pub LeavesOpening-later : (decls : List ℕ) (old mid new : D) → Unchanged disk old mid → LeavesOpening disk decls mid new
        → LeavesOpening disk decls old new
    LeavesOpening-later decls old mid new row then = record {
      still_tells = then.still_tells ∙ ap is_some row.same;
      any_moment = joined disk old mid new (Left decls old) (LeavesOpening-unchanged decls old mid row).any_moment
          (weaker disk mid new (Left decls mid) (Left decls old)
          (λ file. ⊎_elim (λ left. inl (row.crash file left))
          (λ becomes. inr (subst (λ o. IfSome o (λ held. IsOpening decls held file)) row.same becomes)))
          then.any_moment);
      left = IfSome_then (disk.content new) then.left (λ file becomes. subst (λ o. IfSome o (λ held. IsOpening decls held file)) row.same becomes);
    }
