-- Which calls may go on side by side.
use Rattle.std.specs.Prelude.{ℕ, Bool, not, ◌==◌, nat_eq, List, All, IsTrue}
use Rattle.std.specs.List.{list_all, list_any}
use Rattle.std.specs.Cmp.Lexicographic.{pointwise}
use Rattle.orc_expr.specs.Touches.{Covers}
use Rattle.orc_expr.specs.declared.read.Read.{Read}
use Rattle.orc_expr.specs.declared.read.Target.{Target}
use Rattle.orc_queue.specs.declared.held.Held.{Held}

-- no device is in both
abbrev pub share_no_device : List ℕ → List ℕ → Bool
share_no_device one other = list_all (λ device. not (list_any (λ it. it == device) other)) one

-- no service is in both
abbrev pub share_no_service : List (List ℕ) → List (List ℕ) → Bool
share_no_service one other = list_all (λ id. not (list_any (λ it. pointwise nat_eq it id) other)) one

-- the target covers none of the reads
abbrev pub CoversNone : List Read → Target → Type 0
CoversNone reads target = All (λ reading. Covers target reading → ⊥) reads

-- Two calls fit together: they share no device and no service, and no target of either covers a read of the other.
pub record FitTogether (one other : Held) : Type 0 where
  pub devices : IsTrue (share_no_device one.devices other.devices)
  pub services : IsTrue (share_no_service one.services other.services)
  pub reads_kept : All (CoversNone other.reads.reads) one.targets
  pub keeps_reads : All (CoversNone one.reads.reads) other.targets

-- Fitting is mutual.
abbrev pub FittingIsMutual : Type 0
FittingIsMutual = (one other : Held) → FitTogether one other → FitTogether other one
