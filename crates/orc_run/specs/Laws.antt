-- What users rely on of files that hold journals.
use Rattle.std.specs.Prelude.{◌≡◌, ℕ, true, false, List, ◌∷◌, Some, codes}
use Rattle.orc_call.specs.declared.call.Call.{Call}
use Rattle.orc_call.specs.declared.call.TheConstants.{MOST_ACTIONS}
use Rattle.orc_disk.specs.Meanings.{DiskMeaning}
use Rattle.orc_journal.specs.Entries.{entry_bytes, entry_kind}
use Rattle.orc_journal.specs.Journals.{IsGated, magic, gated, is_closed, closing_gate}
use Rattle.orc_journal.specs.declared.entry.Entry.{Entry}
use Rattle.orc_journal.specs.declared.entry.Entry.TheVariants.{Intent, Decide, Abort, Settled}
use Rattle.orc_path.specs.declared.limits.TheConstants.{NAME_LEN, PATH_STEPS, STEP_KEYS, PATH_LEN, VALUE_LEN}
use Rattle.orc_lines.specs.declared.lines.TheConstants.{LARGEST_BUNDLE, LONGEST_LINE}
use Rattle.orc_script.specs.declared.script.TheConstants.{MOST_CALLERS, MOST_STEPS}
use Rattle.orc_decls.specs.declared.declarations.TheConstants.{MOST_DEVICES}
use Rattle.orc_decls.specs.declared.lawful.TheConstants.{MOST_WRITES}
use Rattle.orc_run.specs.declared.opening.TheConstants.{LARGEST_JOURNAL}
use Rattle.orc_decls.specs.declared.declarations.Decls.{Decls}
use Rattle.orc_run.specs.Opening.{HasHistory, IsOpened}
use Rattle.orc_runs.specs.Headline.{IsLegalJournal}

-- A file determines one history. So a run that begins over a file learns the very history that the claim of an earlier
-- run says is in the file, as it is read or as a crash leaves it.
abbrev pub FileTellsOneHistory : Type 0
FileTellsOneHistory = (decls : Decls) (file : List ℕ) (learned held : List Call) → HasHistory decls file learned
    → IsLegalJournal decls file held → learned ≡ held

-- A file with its ending gate is not written to while it is opened: whatever a crash at a moment since the first sync of
-- that leaves is the file. So the files that crashes leave may be counted from that sync on, and not only from where the
-- journal is open; of a file that gets its gate as it is opened, the last sync of the opening is the first after that.
abbrev pub GatedFilesStay : {D : Type 0} → DiskMeaning D → Type 0
GatedFilesStay {D} meaning = (decls : Decls) (old new : D) (entries held : List Entry)
    (opened : IsOpened meaning decls old entries new) (file : List ℕ)
    → meaning.content old ≡ Some file → IsGated file decls.text held
    → (image : List ℕ) → meaning.left_since new (meaning.moment opened.opened.synced.inner) image → image ≡ file

-- The limits and the bytes of the format are these numbers, whatever the code calls them.
pub record HasTheseNumbers : Type 0 where
  pub bundle : LARGEST_BUNDLE ≡ 16_777_216
  pub journal : LARGEST_JOURNAL ≡ 268_435_456
  pub line : LONGEST_LINE ≡ 1_048_576
  pub name : NAME_LEN ≡ 64
  pub path : PATH_LEN ≡ 4_096
  pub path_steps : PATH_STEPS ≡ 32
  pub step_keys : STEP_KEYS ≡ 8
  pub value : VALUE_LEN ≡ 4_096
  pub devices : MOST_DEVICES ≡ 256
  pub callers : MOST_CALLERS ≡ 256
  pub steps : MOST_STEPS ≡ 100_000
  pub actions : MOST_ACTIONS ≡ 64
  pub writes : MOST_WRITES ≡ 16_777_216
  pub first_bytes : magic ≡ codes "ORCJRNL1"
  pub gate : (entry : Entry) → gated entry ≡ 1 ∷ entry_bytes entry
  pub open_gate : is_closed 1 ≡ false
  pub closed_gate : is_closed 0 ≡ true
  pub written_gate : closing_gate ≡ 0
  pub intent : (transaction : ℕ) (call : Call) (devices : List ℕ) → entry_kind (Intent transaction call devices) ≡ 1
  pub decide : (transaction : ℕ) → entry_kind (Decide transaction) ≡ 2
  pub abort : (transaction : ℕ) → entry_kind (Abort transaction) ≡ 3
  pub settled : (transaction : ℕ) → entry_kind (Settled transaction) ≡ 4
