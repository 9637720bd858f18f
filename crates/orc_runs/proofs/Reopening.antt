-- No recovery is refused for what the journal's bytes are, where the disk reports these.
use Rattle.std.proofs.Common.{◌≡◌, ◌⊎◌, ◌+◌, inl, inr, true, ℕ, zero, suc, Option, Some, None, List, [], ◌∷◌, ◌++◌, IsTrue, take, refl, sym, ap, subst, append_assoc, ◌∙◌}
use Rattle.std.specs.Prelude.{IfSome}
use Rattle.std.proofs.lemmas.Bool.{false≢true}
use Rattle.orc_call.specs.declared.call.Call.{Call}
use Rattle.orc_datastore.specs.Legal.{IsLegal}
use Rattle.orc_datastore.proofs.Legality.{legal_front}
use Rattle.orc_decls.specs.declared.declarations.Decls.{Decls}
use Rattle.orc_disk.specs.Meanings.{DiskMeaning}
use Rattle.orc_journal.specs.Committed.{commits, history_from, history_of}
use Rattle.orc_journal.specs.Faults.{OfHeard}
use Rattle.orc_journal.specs.Hearing.{IsSynced}
use Rattle.orc_journal.specs.Journals.{IsForeign, IsGated, IsNotJournal, journal_bytes}
use Rattle.orc_journal.specs.Laws.{HasOneVerdict}
use Rattle.orc_journal.specs.Orders.{is_ordered}
use Rattle.orc_journal.specs.declared.entry.Entry.{Entry}
use Rattle.orc_journal.proofs.Unique.{gated_is_journal, one_journal}
use Rattle.orc_rules.specs.Events.{Turn}
use Rattle.orc_rules.specs.Journals.{entries_read}
use Rattle.orc_rules.specs.Kept.{HistoryKept}
use Rattle.orc_rules.specs.Worlds.{Setting}
use Rattle.orc_rules.proofs.Legality.{read_so}
use Rattle.orc_runs.specs.Ends.{EndOfRun, IsEndedBy, IsIllegal, IsUnfit, is_refused_journal}
use Rattle.orc_runs.specs.Headline.{IsOpenable}
use Rattle.orc_runs.proofs.Fields.{openable}

-- the history of the first entries begins that of all
history_more : (before entries : List Entry) (count : ℕ) → (rest : List Call) × (history_from before entries ≡ history_from before (take count entries) ++ rest)
history_more before entries zero = (history_from before entries, refl)
history_more before [] (suc count) = ([], refl)
history_more before (one ∷ entries) (suc count) =
    let more = history_more (before ++ one ∷ []) entries count in
    (more.0, ap (λ (h : List Call). commits before one ++ h) more.1 ∙ sym (append_assoc (commits before one) (history_from (before ++ one ∷ []) (take count entries)) more.0))

-- the history of some first entries is legal where that of all is
front_legal : (decls : Decls) (entries : List Entry) (count : ℕ) → IsLegal decls (history_of entries) → IsLegal decls (history_of (take count entries))
front_legal decls entries count legal =
    let more = history_more [] entries count in
    legal_front decls (history_of (take count entries)) more.0 (subst (λ (h : List Call). IsLegal decls h) more.1 legal)

-- what is so of the bytes that an opening read is so of those that the disk reports
told_by : {D : Type 0} (disk : DiskMeaning D) (old from new : D) (P : List ℕ → Type 0) → IsSynced disk old from new → OfHeard disk from new P → IfSome (disk.content old) P
told_by {D} disk old from new P looked (file, heard, so) = subst (λ (o : Option (List ℕ)). IfSome o P) (same looked) (on (disk.content from) heard.told)
  where
    same : IsSynced disk old from new → disk.content from ≡ disk.content old
    same (inl was) = ap (λ (d : D). disk.content d) was.at_once
    same (inr was) = was.unchanged.same

    on : (o : Option (List ℕ)) → IfSome o (λ held. file ≡ held) → IfSome o P
    on None told = tt
    on (Some held) told = subst P told so

-- two things that can't be of one file aren't so of any that is reported
none_told : (o : Option (List ℕ)) (P Q : List ℕ → Type 0) → IfSome o P → IfSome o Q → ((file : List ℕ) → P file → Q file → ⊥) → o ≡ None
none_told None P Q p q apart = refl
none_told (Some file) P Q p q apart = absurd (apart file p q)

no_bytes : (xs ys : List ℕ) (x : ℕ) → [] ≡ xs ++ x ∷ ys → ⊥
no_bytes [] ys x e = absurd cc
no_bytes (y ∷ xs) ys x e = absurd cc

module _ {D : Type 0} (here : Setting D) (one : HasOneVerdict) (turn : Turn D) (kept : HistoryKept here turn.before) where
  legal : IsTrue (is_ordered (entries_read turn.before.journal)) × IsLegal here.decls (history_of (entries_read turn.before.journal))
  legal = read_so here turn.before.journal kept.journal

  abbrev HoldsAll : List ℕ → Type 0
  HoldsAll file = IsGated file here.decls.text (entries_read turn.before.journal)

  opens : (file : List ℕ) → HoldsAll file → IsOpenable here.decls file
  opens file gated = openable one here.decls file (entries_read turn.before.journal) gated legal.0

  illegal_not : (at : ℕ) (file : List ℕ) → HoldsAll file → IsIllegal here.decls file at → ⊥
  illegal_not at file gated is =
      is.illegal.illegal (front_legal here.decls is.entries (is.place + 1)
      (subst (λ (l : List Entry). IsLegal here.decls (history_of l))
      (one_journal file here.decls.text (entries_read turn.before.journal) is.entries
      (gated_is_journal file here.decls.text (entries_read turn.before.journal) gated) is.journal) legal.1))

  unfit_not : (at : ℕ) (file : List ℕ) → HoldsAll file → IsUnfit here file at → ⊥
  unfit_not at file gated (inl damaged) = (opens file gated).undamaged at damaged
  unfit_not at file gated (inr (inl illegal)) = illegal_not at file gated illegal
  unfit_not at file gated (inr (inr gone)) = no_bytes (journal_bytes here.decls.text (entries_read turn.before.journal)) gated.rest gated.gate (sym gone.0 ∙ gated.bytes)

  -- a recovery that came to nothing read what the disk reported, if it reported anything
  told_of : (P : List ℕ → Type 0) → (from : D) × IsSynced here.disk turn.before.journal.disk from turn.behind.journal.disk × OfHeard here.disk from turn.behind.journal.disk P
      → IfSome (here.disk.content turn.before.journal.disk) P
  told_of P (from, looked, heard) = told_by here.disk turn.before.journal.disk from turn.behind.journal.disk P looked heard

  pub reopens : (why : EndOfRun) → IsEndedBy here turn why → is_refused_journal why ≡ true → here.disk.content turn.before.journal.disk ≡ None
  reopens (EndOfRun.Foreign at) ends refused =
      none_told (here.disk.content turn.before.journal.disk) HoldsAll (λ file. IsForeign file here.decls.text at) kept.journal.holds.read (told_of (λ file. IsForeign file here.decls.text at) ends.2) (λ file gated foreign. (opens file gated).own at foreign)
  reopens EndOfRun.NotJournal ends refused =
      none_told (here.disk.content turn.before.journal.disk) HoldsAll (λ file. IsNotJournal file) kept.journal.holds.read (told_of (λ file. IsNotJournal file) ends.2) (λ file gated no. (opens file gated).journal no)
  reopens (EndOfRun.Damaged at) ends refused =
      none_told (here.disk.content turn.before.journal.disk) HoldsAll (λ file. IsUnfit here file at) kept.journal.holds.read (told_of (λ file. IsUnfit here file at) ends.2) (unfit_not at)
  reopens EndOfRun.Memory ends refused = absurd (false≢true refused)
  reopens EndOfRun.WriteFault ends refused = absurd (false≢true refused)
  reopens EndOfRun.JournalFault ends refused = absurd (false≢true refused)
  reopens (EndOfRun.Full len) ends refused = absurd (false≢true refused)
