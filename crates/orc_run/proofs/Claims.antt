-- The headline of a run by the rules of what is granted is that of the same run by those of what isn't.
use Rattle.std.proofs.Common.{◌≡◌, ◌≤◌, ⊎_elim, inr, ℕ, Bool, true, false, Option, Some, None, List, [], ◌∷◌, ◌++◌, refl, ap, subst, ◌∙◌}
use Rattle.std.specs.Prelude.{fold, nat_eq, if◌then◌else◌}
use Rattle.std.specs.Option.{option_map_or}
use Rattle.orc_call.specs.declared.answer.Answer.{Answer}
use Rattle.orc_call.specs.declared.answer.Answer.TheVariants as answer
use Rattle.orc_call.specs.declared.answer.RecFault.{RecFault}
use Rattle.orc_call.specs.declared.answer.RecFault.TheVariants as fault
use Rattle.orc_call.specs.declared.call.Call.{Call}
use Rattle.orc_decls.specs.Declarations.{AreDecls}
use Rattle.orc_decls.specs.declared.declarations.Decls.{Decls}
use Rattle.orc_device.specs.Nodes.{DeviceKind}
use Rattle.orc_device.specs.declared.op.Op.{Op}
use Rattle.orc_disk.specs.Meanings.{DiskMeaning}
use Rattle.orc_rules.specs.Acceptance.{declared_kind}
use Rattle.orc_rules.specs.Coming.{came_by, came_by_due}
use Rattle.orc_rules.specs.Events.{Turn}
use Rattle.orc_rules.specs.Hubs.{Hub, due_on}
use Rattle.orc_rules.specs.Journals.{IsReadBack, history_read}
use Rattle.orc_rules.specs.Laws.{setting}
use Rattle.orc_rules.specs.Worlds.{Setting, World}
use Rattle.orc_rules.specs.declared.event.Event.{Event}
use Rattle.orc_rules.specs.declared.event.Event.TheVariants as event
use Rattle.orc_runs.specs.Headline.{AnsweredBecause, FailsToMendBecause, Headline, IsBackAt, at_of}
use Rattle.orc_runs.specs.Laws.{BundleRunsHaveTheHeadline}
use Rattle.orc_runs.specs.Runs.{Run, turns_of}
use Rattle.orc_runs.specs.Starts.{StartsRun}
use Rattle.orc_runs.proofs.Lasting.{Each}
use Rattle.orc_script.specs.declared.step.ScriptStep.{ScriptStep}
use Rattle.orc_run.specs.Reads.{ReadsGiveWhatWasWritten}
use Rattle.orc_run.proofs.Among.{each_of}
use Rattle.orc_run.proofs.Granting.{IsWritten, end_so, for_so, lines_so, under}

module _ {D : Type 0} (disk : DiskMeaning D) (decls : Decls) (kinds : ℕ → DeviceKind) (limit : ℕ) where
  abbrev by : Bool → Setting D
  by granted = under disk decls kinds limit granted

  -- how far a device has come
  came_due : (old new : Bool) (world : World D) (device count : ℕ) (due : Option Op)
      → came_by_due (by old) world device count due ≡ came_by_due (by new) world device count due
  came_due old new world device count None = refl
  came_due old new world device count (Some op) = refl

  came_under : (old new : Bool) (world : World D) (device count : ℕ) (hub : Option Hub)
      → option_map_or (λ h. came_by_due (by old) world device count (due_on h device)) hub count
      ≡ option_map_or (λ h. came_by_due (by new) world device count (due_on h device)) hub count
  came_under old new world device count None = refl
  came_under old new world device count (Some hub) = came_due old new world device count (due_on hub device)

  came_so : (old new : Bool) (world : World D) (device count : ℕ) (seen : Option Event)
      → came_by (by old) world device count seen ≡ came_by (by new) world device count seen
  came_so old new world device count (Some (event.Perform other op reply faults)) =
      ap (λ (n : ℕ). if nat_eq other device then n else count) (came_under old new world device count world.hub)
  came_so old new world device count other = refl

  come_so : (old new : Bool) (device count : ℕ) (turns : List (Turn D))
      → fold (λ n turn. came_by (by old) turn.before device n turn.seen) count turns
      ≡ fold (λ n turn. came_by (by new) turn.before device n turn.seen) count turns
  come_so old new device count [] = refl
  come_so old new device count (turn ∷ turns) =
      ap (λ (m : ℕ). fold (λ n one. came_by (by old) one.before device n one.seen) m turns) (came_so old new turn.before device count turn.seen)
      ∙ come_so old new device (came_by (by new) turn.before device count turn.seen) turns

  at_so : (old new : Bool) (turns : List (Turn D)) (device : ℕ) → at_of (by old) turns device ≡ at_of (by new) turns device
  at_so old new turns device = come_so old new device 0 turns

  -- causes
  because_so : (old new : Bool) (first : World D) (earlier : List (Turn D)) (turn : Turn D) (call : Call) (given : Answer)
      → AnsweredBecause (by old) first earlier turn call given → AnsweredBecause (by new) first earlier turn call given
  because_so old new first earlier turn call (answer.Committed number) because = because
  because_so old new first earlier turn call (answer.Reused number) because = because
  because_so old new first earlier turn call (answer.Busy number) because = because
  because_so old new first earlier turn call (answer.Conflict number written) because = because
  because_so old new first earlier turn call (answer.OutOfSync device cause) because = because
  because_so old new first earlier turn call (answer.Refused device said) because = because
  because_so old new first earlier turn call (answer.LinkFault device number) because = because
  because_so old new first earlier turn call answer.JournalFault because = because
  because_so old new first earlier turn call answer.Down because = because
  because_so old new first earlier turn call answer.Memory because = because
  because_so old new first earlier turn call given because = because

  fails_so : (old new : Bool) (entry : List Call) (earlier : List (Turn D)) (turn : Turn D) (met : RecFault)
      → FailsToMendBecause (by old) entry earlier turn met → FailsToMendBecause (by new) entry earlier turn met
  fails_so old new entry earlier turn (fault.LinkFault device number) because = because
  fails_so old new entry earlier turn fault.DiskFault because = because
  fails_so old new entry earlier turn (fault.Refused device said) because = because
  fails_so old new entry earlier turn fault.Memory because = because
  fails_so old new entry earlier turn (fault.Full len) because = because

  module _ (script : List ScriptStep) (first last : World D) (run : Run (by false) script first last) (written : Each IsWritten (turns_of run)) where
    -- the same lines, by the rules of what is granted
    abbrev granted_run : Run (by true) script first last
    granted_run =
        let both = lines_so disk decls kinds limit false true first run.lines run.end run.middle last written run.done run.ends in
        record {
          lines = run.lines;
          middle = run.middle;
          done = both.0;
          end = run.end;
          ends = both.1;
          why = run.why;
          because = for_so disk decls kinds limit false true run.end run.why run.because;
          rest = run.rest;
          parts = run.parts;
          whole = run.whole;
          noted = run.noted;
          logs = run.logs;
        }

    headline_so : Headline (by true) script first last granted_run → Headline (by false) script first last run
    headline_so head = record {
      one_history = head.one_history;
      whenever_it_is_read = head.whenever_it_is_read;
      whenever_it_crashes = head.whenever_it_crashes;
      grows = head.grows;
      opens_again = head.opens_again;
      reopens = λ turn why among ends refused. head.reopens turn why among (end_so disk decls kinds limit false true turn why ends) refused;
      acknowledged = head.acknowledged;
      in_callers_order = head.in_callers_order;
      refusals_change_nothing = head.refusals_change_nothing;
      answered_because = λ earlier later turn call given parts says.
          because_so true false first earlier turn call given (head.answered_because earlier later turn call given parts says);
      settled = head.settled;
      settle_answers = head.settle_answers;
      bounded = head.bounded;
      reconciled = head.reconciled;
      all_settled = head.all_settled;
      ends_because = λ earlier later turn met parts seen. fails_so true false (history_read first.journal) earlier turn met (head.ends_because earlier later turn met parts seen);
      accepted_at_first = head.accepted_at_first;
      still_accepted = head.still_accepted;
      in_step = head.in_step;
      comes_back = λ earlier later turn device parts declared.
          subst (λ (n : ℕ). IsBackAt decls turn.behind device n) (at_so true false (earlier ++ turn ∷ []) device)
          (head.comes_back earlier later turn device parts declared);
      never_falls = λ earlier later turn device parts.
          subst (λ (n : ℕ). n ≤ at_of (by false) (earlier ++ turn ∷ []) device) (at_so true false earlier device)
          (subst (λ (n : ℕ). at_of (by true) earlier device ≤ n) (at_so true false (earlier ++ turn ∷ []) device)
          (head.never_falls earlier later turn device parts));
      moves_on = head.moves_on;
      pending_known = head.pending_known;
      resolved_as_decided = head.resolved_as_decided;
      edits_exactly = head.edits_exactly;
      as_printed = head.as_printed;
    }

-- what begins a run begins one where nothing is granted, if the disk reports what it holds
starts_so : {D : Type 0} (disk : DiskMeaning D) (decls : Decls) (kinds : ℕ → DeviceKind) (limit : ℕ) (first : World D)
    → StartsRun (setting disk decls kinds limit true) first → IsReadBack disk decls.text limit false first.journal.disk
    → StartsRun (setting disk decls kinds limit false) first
starts_so disk decls kinds limit first starts back = record {
  holds = starts.holds;
  uncut = starts.uncut;
  unarmed = starts.unarmed;
  read_back = back;
  ordered = starts.ordered;
  legal = starts.legal;
  file = starts.file;
  opened = starts.opened;
  fresh = starts.fresh;
  empty = starts.empty;
  hub = starts.hub;
  snapshots = starts.snapshots;
  nodes = starts.nodes;
  links = starts.links;
}

pub has_headline : {D : Type 0} (disk : DiskMeaning D) → BundleRunsHaveTheHeadline disk
    → (decls : Decls) (limit : ℕ) (script : List ScriptStep) (first last : World D)
    (run : Run (setting disk decls (declared_kind decls) limit false) script first last)
    → AreDecls decls → StartsRun (setting disk decls (declared_kind decls) limit true) first
    → ReadsGiveWhatWasWritten disk first (turns_of run)
    → Headline (setting disk decls (declared_kind decls) limit false) script first last run
has_headline {D} disk law decls limit script first last run are starts reads = ⊎_elim
    (λ tells. law decls limit false script first last run are (starts_so disk decls (declared_kind decls) limit first starts (inr tells)))
    (λ recovers. so (each_of IsWritten (turns_of run) recovers))
    reads
  where
    so : Each IsWritten (turns_of run) → Headline (setting disk decls (declared_kind decls) limit false) script first last run
    so written =
        headline_so disk decls (declared_kind decls) limit script first last run written
        (law decls limit true script first last (granted_run disk decls (declared_kind decls) limit script first last run written) are starts)
