-- Whether two calls fit, by the four tests.
use Rattle.std.proofs.Common.{◌≡◌, Bool, true, false, IsTrue, ◌↔◌, All, sym, subst, ◌∙◌, List}
use Rattle.std.proofs.lemmas.Bool.{false≢true}
use Rattle.orc_queue.specs.Fitting.{FitTogether, CoversNone, share_no_device, share_no_service}
use Rattle.orc_expr.specs.declared.read.Read.{Read}
use Rattle.orc_expr.specs.declared.read.Target.{Target}
use Rattle.orc_queue.specs.declared.held.Held.{Held}

-- what a test says of lists it says of equal ones
pub seen : {targets targets' : List Target} {reads reads' : List Read} (b : Bool) → targets' ≡ targets → reads' ≡ reads
    → IsTrue b ↔ All (CoversNone reads') targets' → IsTrue b ↔ All (CoversNone reads) targets
seen {targets} {targets'} {reads} {reads'} b same same' tells =
    subst (λ (ts : List Target). IsTrue b ↔ All (CoversNone reads) ts) same
    (subst (λ (rs : List Read). IsTrue b ↔ All (CoversNone rs) targets') same' tells)

module _ (one other : Held) where
  pub covers_a_read : (b : Bool) → IsTrue b ↔ All (CoversNone other.reads.reads) one.targets → b ≡ false → IsTrue false ↔ FitTogether one other
  covers_a_read b tells h = (λ never. absurd (false≢true never), λ fit. absurd (false≢true (sym h ∙ tells.1 fit.reads_kept)))

  pub fit_by : share_no_device one.devices other.devices ≡ true → share_no_service one.services other.services ≡ true
      → All (CoversNone other.reads.reads) one.targets → (b : Bool) → IsTrue b ↔ All (CoversNone one.reads.reads) other.targets
      → IsTrue b ↔ FitTogether one other
  fit_by devices services kept b tells =
      (λ h. record { devices = devices; services = services; reads_kept = kept; keeps_reads = tells.0 h }, λ fit. tells.1 fit.keeps_reads)
