-- The history of a file.
use Rattle.std.proofs.Common.{◌≡◌, ℕ, List, Option, ⊎_elim, subst, sym, ap, ◌∙◌}
use Rattle.std.specs.Prelude.{IfSome}
use Rattle.orc_call.specs.declared.call.Call.{Call}
use Rattle.orc_journal.specs.Committed.{history_of}
use Rattle.orc_journal.proofs.Unique.{one_journal, gated_is_journal}
use Rattle.orc_journal.proofs.Accepted.{not_empty}
use Rattle.orc_journal.proofs.Endings.{IsOpening-gated}
use Rattle.orc_journal.specs.Opening.{IsOpening}
use Rattle.orc_disk.specs.Meanings.{DiskMeaning}
use Rattle.orc_decls.specs.declared.declarations.Decls.{Decls}
use Rattle.orc_runs.specs.Headline.{IsLegalJournal}
use Rattle.orc_run.specs.Laws.{GatedFilesStay}
use Rattle.orc_run.specs.Opening.{HasHistory}

pub one_history : (decls : Decls) (file : List ℕ) (learned held : List Call) → HasHistory decls file learned → IsLegalJournal decls file held → learned ≡ held
one_history decls file learned held tells decodes =
    let journal = gated_is_journal file decls.text decodes.entries decodes.gated in
    sym tells.decided
    ∙ ⊎_elim (λ empty. absurd (not_empty file decls.text decodes.entries journal empty.0))
    (λ told. ap history_of (one_journal file decls.text tells.entries decodes.entries told journal)) tells.are
    ∙ decodes.decided

-- a file with its ending gate stays
pub gated_stays : {D : Type 0} (meaning : DiskMeaning D) → GatedFilesStay meaning
gated_stays {D} meaning decls old new entries held opened file told gated image left =
    let since : meaning.left_since opened.journal.disk.inner (meaning.moment opened.opened.synced.inner) image =
    subst (λ (d : D). meaning.left_since d (meaning.moment opened.opened.synced.inner) image) (sym opened.disk_is) left in
    let becomes : IfSome (meaning.content old) (λ h. IsOpening decls.text h image) = opened.opened.since.each image since in
    IsOpening-gated decls.text file image (subst (λ (o : Option (List ℕ)). IfSome o (λ h. IsOpening decls.text h image)) told becomes) held gated
