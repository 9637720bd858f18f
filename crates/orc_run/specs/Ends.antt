-- What a run did with its source, its sink and its disk: what they were before and after it.
use Rattle.std.specs.Prelude.{◌≡◌, ◌⊎◌, ℕ, ◌+◌, ◌≤◌, true, false, List, [], ◌∷◌, ◌++◌, length, map, Option, IfSome, is_some, is_ok, Result}
use Rattle.std.specs.declared.option.Option.TheVariants.{None, Some}
use Rattle.std.specs.declared.result.Result.TheVariants.{Ok, Err}
use Rattle.std.specs.List.{flat_map}
use Rattle.std.specs.Option.{option_map}
use Rattle.std.specs.Io.KnownBytes.{Appends, Consumes, IsAtEnd}
use Rattle.orc_generator.specs.Generated.{generated}
use Rattle.orc_io.specs.Pieces.{GivesUpTo, TakesFront}
use Rattle.orc_bundle.specs.Bundles.{scripted_of}
use Rattle.orc_bundle.specs.declared.scripted.ScriptedBundle.{ScriptedBundle}
use Rattle.orc_decls.specs.declared.declarations.Decls.{Decls}
use Rattle.orc_decls.specs.declared.rule.Rule.{Rule}
use Rattle.orc_disk.specs.Meanings.{DiskMeaning}
use Rattle.orc_disk.specs.Moments.{LeavesOnly}
use Rattle.orc_lines.specs.declared.lines.TheConstants.{LARGEST_BUNDLE}
use Rattle.orc_print.specs.Printed.{recovered_line}
use Rattle.orc_rules.specs.Journals.{history_read}
use Rattle.orc_rules.specs.Worlds.{Setting, World}
use Rattle.orc_run.specs.Reads.{ReadsGiveWhatWasWritten}
use Rattle.orc_runs.specs.Ends.{EndOfRun, EndOfRun as ended}
use Rattle.orc_runs.specs.Headline.{Headline}
use Rattle.orc_runs.specs.Runs.{Run, lines_in, turns_of}
use Rattle.orc_runs.specs.Starts.{StartsRun}
use Rattle.orc_script.specs.declared.step.ScriptStep.{ScriptStep}
use Rattle.orc_script.specs.declared.step.ScriptStep.TheVariants as step
use Rattle.orc_words.specs.declared.words.Command.{Command}
use Rattle.orc_words.specs.declared.words.Command.TheVariants as word
use Rattle.orc_scene.specs.Stands.{run_setting}
use Rattle.orc_run.specs.Checks.{EndsCheck}
use Rattle.orc_run.specs.Summaries.{counts_of, summary_text}
use Rattle.orc_run.specs.Opening.{HasHistory, IsOpened, IsRefused, IsRefusedBecause, MayBeOpening}
use Rattle.orc_run.specs.declared.opening.TheConstants.{LARGEST_JOURNAL}
use Rattle.orc_run.specs.declared.stop.Done.{Done}
use Rattle.orc_run.specs.declared.stop.Stop.{Stop}
use Rattle.orc_run.specs.declared.stop.Stop.TheVariants as ending

-- the declarations of a bundle with `history` as the one step
abbrev pub asking_history : ScriptedBundle → ScriptedBundle
asking_history bundle = record bundle { steps = step.History ∷ [] }

-- what stands outside a run: the bytes that its source has left, those that its sink holds, each where it reports them,
-- and its disk
pub record Outside (D : Type 0) : Type 0 where
  pub left : Option (List ℕ)
  pub held : Option (List ℕ)
  pub disk : D

-- The source gave these bytes: all that it had left, where they are no more than a bundle may have, and else one more
-- than that.
pub record GivesFirst (before after : Option (List ℕ)) (bytes : List ℕ) : Type 0 where
  pub given : Consumes before after bytes
  pub most : length bytes ≤ LARGEST_BUNDLE + 1
  pub end : length bytes ≤ LARGEST_BUNDLE → IsAtEnd after

-- the bytes that the source gave are this bundle, and it was read to its end
pub record GivesBundle (before after : Option (List ℕ)) (bundle : ScriptedBundle) : Type 0 where
  pub bytes : List ℕ
  pub first : GivesFirst before after bytes
  pub is : scripted_of bytes ≡ Ok bundle
  pub at_end : IsAtEnd after

-- of the bytes that the source gave, this line is the first one at fault, and this is the first rule that it breaks
pub record GivesFault (before after : Option (List ℕ)) (line : ℕ) (rule : Rule) : Type 0 where
  pub bytes : List ℕ
  pub first : GivesFirst before after bytes
  pub is : scripted_of bytes ≡ Err (line, rule)

-- The bytes that a bundle is read of: where the command makes one of its numbers these bytes, and of the source none was
-- taken; else the source gave them, and this bundle they are.
abbrev pub GivesBundleFor : Command → Option (List ℕ) → Option (List ℕ) → ScriptedBundle → Type 0
GivesBundleFor (word.Gen number devices calls) before after bundle =
    (scripted_of (generated number devices calls) ≡ Ok bundle) × (after ≡ before)
GivesBundleFor other before after bundle = GivesBundle before after bundle

-- of the bytes that a bundle is read of, this line is the first one at fault
abbrev pub GivesFaultFor : Command → Option (List ℕ) → Option (List ℕ) → ℕ → Rule → Type 0
GivesFaultFor (word.Gen number devices calls) before after line rule =
    (scripted_of (generated number devices calls) ≡ Err (line, rule)) × (after ≡ before)
GivesFaultFor other before after line rule = GivesFault before after line rule

-- how the program ends where a run ended so
abbrev pub stop_of_end : EndOfRun → Stop
stop_of_end ended.Memory = ending.Memory
stop_of_end ended.WriteFault = ending.WriteFault
stop_of_end ended.JournalFault = ending.JournalFault
stop_of_end (ended.Full len) = ending.Full len
stop_of_end (ended.Foreign at) = ending.Foreign at
stop_of_end ended.NotJournal = ending.NotJournal
stop_of_end (ended.Damaged at) = ending.Damaged at

-- How the status of a run fits what its sink took and how its script ended. Where all was done, the whole text was
-- taken. After a fault of the sink a prefix of it was, and the script may have ended anyhow (`TookUpToLast` says which
-- prefix). After another fault the script ended by that, and the whole text was taken.
abbrev pub Wrote : Option (List ℕ) → Option (List ℕ) → List ℕ → Option Stop → Result Done Stop → Type 0
Wrote before after text end (Ok done) = (end ≡ None) × Appends before after text
Wrote before after text end (Err ending.WriteFault) = TakesFront before after text
Wrote before after text end (Err other) = (end ≡ Some other) × Appends before after text

-- What a sink took of which a write failed: each text but the last that was to be written, and a prefix of that one. So
-- each text was written before the next line was done, and no line was done after the failure.
pub record TookUpToLast (texts : List (List ℕ)) (held now : Option (List ℕ)) : Type 0 where
  pub before : List (List ℕ)
  pub last : List ℕ
  pub parts : texts ≡ before ++ last ∷ []
  pub between : Option (List ℕ)
  pub took_before : Appends held between (flat_map (λ text. text) before)
  pub took_last : TakesFront between now last

-- Each of these lines of a script was done in a world that began as the first one, and the run may have ended in the last
-- of them: what came, what each line printed, why the run ended, if it did, and the disk that it left. No operation was
-- noted before it. Where its reads gave what was written, the run has the headline.
pub record LinesRun {D : Type 0} (here : Setting D) (first : World D) (done : List ScriptStep) (texts : List (List ℕ))
    (end : Option Stop) (disk : D) : Type 0 where
  pub last : World D
  pub run : Run here done first last
  pub each : run.rest ≡ []
  pub unnoted : (device : ℕ) → run.noted device ≡ []
  pub prints : texts ≡ map (λ line. line.text) (lines_in run)
  pub why : end ≡ option_map stop_of_end run.why
  pub disk_is : last.journal.disk ≡ disk
  pub claim : ReadsGiveWhatWasWritten here.disk first (turns_of run) → Headline here done first last run

-- The script was run from a world on, up to its end or up to a line in which the run ended, and why it did; and this is the
-- disk that it left, and its summary, where it came to its end. Where its reads gave what was written, the run has the
-- headline.
pub record ScriptRun {D : Type 0} (here : Setting D) (first : World D) (script : List ScriptStep) (summary : List ℕ)
    (end : Option Stop) (disk : D) : Type 0 where
  pub last : World D
  pub run : Run here script first last
  pub unnoted : (device : ℕ) → run.noted device ≡ []
  pub why : end ≡ option_map stop_of_end run.why
  pub disk_is : last.journal.disk ≡ disk
  pub summary_is : end ≡ None → summary ≡ summary_text (counts_of run)
  pub claim : ReadsGiveWhatWasWritten here.disk first (turns_of run) → Headline here script first last run

-- How the status of such a run fits what its sink took: the summary where the script was run to its end, and else
-- nothing. Memory may run out for it too.
abbrev pub WroteSummary : Option (List ℕ) → Option (List ℕ) → List ℕ → Option Stop → Result Done Stop → Type 0
WroteSummary before after summary end (Ok done) = (end ≡ None) × Appends before after summary
WroteSummary before after summary end (Err ending.WriteFault) = (end ≡ None) × TakesFront before after summary
WroteSummary before after summary end (Err ending.Memory) = after ≡ before
WroteSummary before after summary end (Err other) = (end ≡ Some other) × (after ≡ before)

module _ {D : Type 0} (meaning : DiskMeaning D) where
  -- A world began over the disk, with these devices and a journal that was opened, or begun. The entries of that, and so
  -- its history, are those of the bytes that the disk gave. Where it gave any, how many calls were recovered is printed.
  -- (That asks nothing of what later reads give. A recovery goes on from what its reads gave: where the disk reports what
  -- it holds that is what was written, and over another one nobody says so.)
  pub record BeginsOver (decls : Decls) (disk : D) (first : World D) (greeting : List ℕ) : Type 0 where
    pub starts : StartsRun (run_setting meaning decls LARGEST_JOURNAL true) first
    pub opened : IsOpened meaning decls disk first.journal.synced first.journal.disk
    pub file_is : starts.file ≡ opened.opened.file
    pub history : IfSome (meaning.content disk) (λ file. HasHistory decls file (history_read first.journal))
    pub greeting_is : ((opened.opened.file ≡ []) × (greeting ≡ []))
        ⊎ ((opened.opened.file ≡ [] → ⊥) × (greeting ≡ recovered_line (length (history_read first.journal))))
    pub opening : LeavesOnly meaning disk first.journal.disk (MayBeOpening meaning decls disk)
    pub still_tells : is_some (meaning.content first.journal.disk) ≡ is_some (meaning.content disk)
    pub later : meaning.faults disk ≤ meaning.faults first.journal.disk

  -- The script of a bundle was run over the disk, and the sink took what the run printed. A world began; lines were done
  -- in it, and others not; and so they were by all rules of what comes of a line, over any disk, where a recovery goes on
  -- from what its reads gave. The run has the headline over a disk that reports what it holds, and over another one where
  -- each of its own recoveries goes on from what had been written.
  pub record BundleRun (bundle : ScriptedBundle) (before after : Outside D) (status : Result Done Stop) : Type 0 where
    pub first : World D
    pub greeting : List ℕ
    pub begins : BeginsOver bundle.decls before.disk first greeting
    pub done : List ScriptStep
    pub rest : List ScriptStep
    pub parts : bundle.steps ≡ done ++ rest
    pub texts : List (List ℕ)
    pub end : Option Stop
    pub ran : LinesRun (run_setting meaning bundle.decls LARGEST_JOURNAL false) first done texts end after.disk
    pub wrote : Wrote before.held after.held (greeting ++ flat_map (λ text. text) texts) end status
    pub whole : is_ok status ≡ true → rest ≡ []
    pub unwritten : status ≡ Err ending.WriteFault → TookUpToLast (greeting ∷ texts) before.held after.held

  -- The journal was not opened, for this cause, which is in the bytes that the disk gave, and the sink took nothing.
  -- Unless the disk failed it is as it was, or holds the journal with its gate.
  pub record IsUnopened (bundle : ScriptedBundle) (before after : Outside D) (end : Stop) : Type 0 where
    pub cause : IsRefusedBecause meaning bundle.decls before.disk after.disk end
    pub refused : IsRefused meaning bundle.decls before.disk after.disk end
    pub opening : LeavesOnly meaning before.disk after.disk (MayBeOpening meaning bundle.decls before.disk)
    pub same : after.held ≡ before.held

  -- how the run of a bundle ended, by its status
  abbrev pub EndsOver : ScriptedBundle → Outside D → Outside D → Result Done Stop → Type 0
  EndsOver bundle before after (Ok done) = BundleRun bundle before after (Ok done)
  EndsOver bundle before after (Err ending.WriteFault) = BundleRun bundle before after (Err ending.WriteFault)
  EndsOver bundle before after (Err end) = IsUnopened bundle before after end ⊎ BundleRun bundle before after (Err end)

  -- The script of a bundle was run over the disk, of which the sink took a summary alone. What the lines print, and how
  -- many calls were recovered, is not written.
  pub record SummedRun (bundle : ScriptedBundle) (before after : Outside D) (status : Result Done Stop) : Type 0 where
    pub first : World D
    pub greeting : List ℕ
    pub begins : BeginsOver bundle.decls before.disk first greeting
    pub summary : List ℕ
    pub end : Option Stop
    pub ran : ScriptRun (run_setting meaning bundle.decls LARGEST_JOURNAL false) first bundle.steps summary end
        after.disk
    pub wrote : WroteSummary before.held after.held summary end status

  -- how such a run ended, by its status
  abbrev pub EndsSummed : ScriptedBundle → Outside D → Outside D → Result Done Stop → Type 0
  EndsSummed bundle before after (Ok done) = SummedRun bundle before after (Ok done)
  EndsSummed bundle before after (Err ending.WriteFault) = SummedRun bundle before after (Err ending.WriteFault)
  EndsSummed bundle before after (Err end) = IsUnopened bundle before after end
      ⊎ SummedRun bundle before after (Err end)

  -- a bundle was made of three numbers, and its run ended so; the source was not read
  pub record WholeGeneration (number devices calls : ℕ) (before after : Outside D) (status : Result Done Stop)
      : Type 0 where
    pub bundle : ScriptedBundle
    pub made : scripted_of (generated number devices calls) ≡ Ok bundle
    pub unread : after.left ≡ before.left
    pub ends : EndsSummed bundle before after status

  -- the source gave a bundle, whose run ended so
  pub record WholeRun (before after : Outside D) (status : Result Done Stop) : Type 0 where
    pub bundle : ScriptedBundle
    pub gives : GivesBundle before.left after.left bundle
    pub ends : EndsOver bundle before after status

  -- the source gave a bundle, whose check ended so, and nothing was done to the disk
  pub record WholeCheck (before after : Outside D) (status : Result Done Stop) : Type 0 where
    pub bundle : ScriptedBundle
    pub gives : GivesBundle before.left after.left bundle
    pub ends : EndsCheck bundle before.held after.held status
    pub disk_is : after.disk ≡ before.disk

  -- The source gave a bundle, and the run of its declarations with `history` as the one step ended so. No step of its
  -- own script was done.
  pub record WholeHistory (before after : Outside D) (status : Result Done Stop) : Type 0 where
    pub bundle : ScriptedBundle
    pub gives : GivesBundle before.left after.left bundle
    pub ends : EndsOver (asking_history bundle) before after status

  -- a command was done, to this status
  abbrev pub EndsAs : Command → Outside D → Outside D → Result Done Stop → Type 0
  EndsAs word.Check before after status = WholeCheck before after status
  EndsAs word.Run before after status = WholeRun before after status
  EndsAs word.History before after status = WholeHistory before after status
  EndsAs (word.Gen number devices calls) before after status =
      WholeGeneration number devices calls before after status

  -- How the program ended, by the command and the status. Where the words have no command it ends with Usage, or with
  -- Memory, and nowhere else with Usage. Where the first bytes of the source are no bundle it ends with Bundle,
  -- whatever the command, or with ReadFault or Memory, and nowhere else with Bundle; for a command that makes a bundle
  -- its bytes stand for those of the source. After ReadFault or Memory the bytes may not
  -- all have been read, and no others were.
  abbrev pub EndsBy : Option Command → Outside D → Outside D → Result Done Stop → Type 0
  EndsBy None before after (Err ending.Memory) = after ≡ before
  EndsBy None before after status = status ≡ Err ending.Usage
  EndsBy (Some command) before after (Err ending.Usage) = ⊥
  EndsBy (Some command) before after (Err ending.ReadFault) = GivesUpTo (LARGEST_BUNDLE + 1) before.left after.left
  EndsBy (Some command) before after (Err (ending.Bundle line rule)) =
      GivesFaultFor command before.left after.left line rule
  EndsBy (Some command) before after (Err ending.Memory) =
      (GivesUpTo (LARGEST_BUNDLE + 1) before.left after.left × (after.held ≡ before.held) × (after.disk ≡ before.disk))
      ⊎ EndsAs command before after (Err ending.Memory)
  EndsBy (Some command) before after status = EndsAs command before after status
