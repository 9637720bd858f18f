-- A journal that was refused, or that makes no hub.
use Rattle.std.proofs.Common.{◌≡◌, ◌⊎◌, ℕ, List, [], Some, Option, Err, inl, inr, ⊎_elim, refl, sym, ap, subst}
use Rattle.std.specs.Prelude.{IfSome, slice_get}
use Rattle.std.proofs.lemmas.Option.{IfSome_then}
use Rattle.orc_journal.specs.Views.{unstopped}
use Rattle.orc_decls.specs.declared.declarations.Decls.{Decls}
use Rattle.orc_disk.specs.Course.{Counted}
use Rattle.orc_disk.specs.Meanings.{DiskMeaning}
use Rattle.orc_disk.specs.Moments.{LeavesOnly}
use Rattle.orc_disk.specs.Rows.{Course, joined}
use Rattle.orc_disk.specs.Stops.{Stopping, inside}
use Rattle.orc_hub_parts.specs.Pasts.{IsIllegalDecide}
use Rattle.orc_hub.specs.Starts.{IsStartFault}
use Rattle.orc_hub.specs.declared.starting.StartFault.{StartFault}
use Rattle.orc_hub.specs.declared.starting.StartFault.TheVariants as start
use Rattle.orc_journal.specs.Journals.{IsJournal}
use Rattle.orc_journal.specs.Opened.{OpenJournal}
use Rattle.orc_journal.specs.Opening.{HasOpened}
use Rattle.orc_journal.specs.declared.entry.Entry.{Entry}
use Rattle.orc_journal.specs.declared.entry.Entry.TheVariants.{Decide}
use Rattle.orc_journal.specs.declared.fault.OpenFault.{OpenFault}
use Rattle.orc_journal.specs.declared.fault.OpenFault.TheVariants as fault
use Rattle.orc_bundle.specs.declared.scripted.ScriptedBundle.{ScriptedBundle}
use Rattle.orc_scene.specs.Begins.{HasNotBegun}
use Rattle.orc_scene.specs.RunEnds.{stop_of_opening, stop_of_start}
use Rattle.orc_scene.specs.declared.stop.WorldStop.{WorldStop}
use Rattle.orc_scene.specs.declared.stop.WorldStop.TheVariants as world_stop
use Rattle.orc_run.specs.Ends.{EndsOver, EndsSummed, IsUnopened, Outside}
use Rattle.orc_runs.specs.Ends.{IsIllegalAt}
use Rattle.orc_run.specs.Opening.{IsPastFault, IsRefusedBecause, MayBeOpening, stop_of}
use Rattle.orc_run.specs.declared.opening.TheConstants.{LARGEST_JOURNAL}
use Rattle.orc_run.specs.declared.stop.Stop.{Stop}
use Rattle.orc_run.specs.declared.stop.Stop.TheVariants as ending
use Rattle.orc_run.specs.inside.Scripts.{EndsOrNeverBegins, stop_of_world}
use Rattle.orc_run.specs.inside.Sums.{SumsOrNeverBegins}
use Rattle.orc_run.proofs.Reasons.{refused_because, told}

-- the same end, whether the journal's fault or the world's is given
opening_is : (cause : OpenFault) → stop_of_world (stop_of_opening cause) ≡ stop_of cause
opening_is (fault.Foreign at) = refl
opening_is fault.NotJournal = refl
opening_is fault.DiskFault = refl
opening_is fault.Memory = refl
opening_is (fault.Full len) = refl
opening_is (fault.Damaged at) = refl

-- an entry that makes the history illegal, as the hub has it
illegal_at : (decls : Decls) (entries : List Entry) (place : ℕ) → IsIllegalDecide decls entries place → IsIllegalAt decls entries place
illegal_at decls entries place is = record { t = is.t; decide = is.decide; before = is.before; illegal = is.illegal }

module _ {D : Type 0} (disk : DiskMeaning D) where
  pub over_unopened : (bundle : ScriptedBundle) (before after : Outside D) (end : Stop) → IsUnopened disk bundle before after end
      → EndsOver disk bundle before after (Err end)
  over_unopened bundle before after ending.WriteFault not = absurd not.cause
  over_unopened bundle before after end not = inl not

  summed_unopened : (bundle : ScriptedBundle) (before after : Outside D) (end : Stop) → IsUnopened disk bundle before after end
      → EndsSummed disk bundle before after (Err end)
  summed_unopened bundle before after ending.WriteFault not = absurd not.cause
  summed_unopened bundle before after end not = inl not

  module _ (decls : Decls) (from : D) (journal : OpenJournal (Stopping D)) (entries : List Entry)
      (opened : HasOpened (inside disk) decls.text LARGEST_JOURNAL (unstopped from) journal entries) where
    -- of the file that the disk held these are the entries
    journal_told : (place : ℕ) → IsIllegalAt decls entries place → IfSome (disk.content from) (λ file. IsJournal file decls.text entries)
    journal_told place illegal = IfSome_then (disk.content from) (told disk from opened.synced journal.disk opened.file opened.looked opened.heard)
        (λ held same. ⊎_elim
        (λ empty. absurd (none entries empty.1 illegal.decide))
        (λ is. subst (λ (file : List ℕ). IsJournal file decls.text entries) same is)
        opened.read)
      where
        none : (rows : List Entry) → rows ≡ [] → slice_get rows place ≡ Some (Decide illegal.t) → ⊥
        none rows is there = nothing (subst (λ (l : List Entry). slice_get l place ≡ Some (Decide illegal.t)) is there)
          where
            nothing : ◌≡◌ {A = Option Entry} (slice_get [] place) (Some (Decide illegal.t)) → ⊥
            nothing wrong = cc

    past_fault : (cause : StartFault) → IsStartFault decls entries cause → IsPastFault decls entries (stop_of_world (stop_of_start cause))
    past_fault (start.Damaged n at) is = (is.0, illegal_at decls entries is.0 is.1, is.3)
    past_fault start.Memory is = tt

    past_because : (cause : StartFault) (to : D) → IsStartFault decls entries cause → IsRefusedBecause disk decls from to (stop_of_world (stop_of_start cause))
    past_because (start.Damaged n at) to is =
        IfSome_then (disk.content from) (journal_told is.0 (illegal_at decls entries is.0 is.1))
        (λ file journal_is. inr (record {
          entries = entries;
          journal = journal_is;
          ordered = opened.ordered;
          place = is.0;
          illegal = illegal_at decls entries is.0 is.1;
          offset = is.3;
        }))
    past_because start.Memory to is = tt

    opening_so : LeavesOnly disk from journal.disk.inner (MayBeOpening disk decls from)
    opening_so = record { later = opened.leaves.any_moment.later; each = opened.leaves.any_moment.each; earlier_rows = opened.leaves.any_moment.earlier_rows }

  module _ (goes_on : (first second : Course) (a b c : D) → disk.leads first a b → disk.leads second b c → disk.leads (joined first second) a c)
      (counts : (course : Course) (a b : D) → disk.leads course a b → Counted course.failed (disk.faults a) (disk.faults b)) where
    -- a world that didn't begin: its journal was not opened, or memory ran out before that
    pub unopened_or_never : (bundle : ScriptedBundle) (left left' held : Option (List ℕ)) (from to : D) (why : WorldStop)
        → HasNotBegun disk bundle.decls from LARGEST_JOURNAL why to
        → ((why ≡ world_stop.Memory) × (to ≡ from))
        ⊎ IsUnopened disk bundle (record { left = left; held = held; disk = from }) (record { left = left'; held = held; disk = to }) (stop_of_world why)
    unopened_or_never bundle left left' held from to why not = ⊎_elim
        (λ unstarted. ⊎_elim
        (λ refused. inr (subst (λ (w : WorldStop). IsUnopened disk bundle before after (stop_of_world w)) (sym refused.3) (subst (λ (s : Stop). IsUnopened disk bundle before after s) (sym (opening_is refused.0))
        (record {
          cause = refused_because disk goes_on counts bundle.decls from bundle.decls.text refl refused.1 to refused.0 refused.2 refused.4 (stop_of refused.0) refl;
          refused = inl (record { last = refused.1; disk_is = sym refused.2; fault = refused.0; end_is = refl; refused = refused.4 });
          opening = subst (λ (d : D). LeavesOnly disk from d (MayBeOpening disk bundle.decls from)) (sym refused.2)
              (record { later = refused.4.leaves.any_moment.later; each = refused.4.leaves.any_moment.each; earlier_rows = refused.4.leaves.any_moment.earlier_rows });
          same = refl;
        }))))
        (λ none. inr (subst (λ (w : WorldStop). IsUnopened disk bundle before after (stop_of_world w)) (sym none.4)
        (record {
          cause = past_because bundle.decls from none.1 none.2 none.5 none.0 to none.6;
          refused = inr (none.2, record { journal = none.1; disk_is = sym none.3; opened = none.5 }, past_fault bundle.decls from none.1 none.2 none.5 none.0 none.6);
          opening = subst (λ (d : D). LeavesOnly disk from d (MayBeOpening disk bundle.decls from)) (sym none.3) (opening_so bundle.decls from none.1 none.2 none.5);
          same = refl;
        })))
        unstarted.cause)
        (λ wanting. inl wanting)
        not
      where
        before : Outside D
        before = record { left = left; held = held; disk = from }

        after : Outside D
        after = record { left = left'; held = held; disk = to }

    pub never_begun : (bundle : ScriptedBundle) (left left' held : Option (List ℕ)) (from to : D) (why : WorldStop)
        → HasNotBegun disk bundle.decls from LARGEST_JOURNAL why to
        → EndsOrNeverBegins disk bundle (record { left = left; held = held; disk = from }) (record { left = left'; held = held; disk = to }) (Err (stop_of_world why))
    never_begun bundle left left' held from to why not = ⊎_elim
        (λ never. inl (ap (λ (w : WorldStop). Err (stop_of_world w)) never.0, refl, never.1))
        (λ unopened. inr (over_unopened bundle _ _ (stop_of_world why) unopened))
        (unopened_or_never bundle left left' held from to why not)

    -- where the world has not begun, the run of a bundle that was made ended with its sum, or never began
    pub never_summed : (bundle : ScriptedBundle) (left left' held : Option (List ℕ)) (from to : D) (why : WorldStop)
        → HasNotBegun disk bundle.decls from LARGEST_JOURNAL why to
        → SumsOrNeverBegins disk bundle (record { left = left; held = held; disk = from }) (record { left = left'; held = held; disk = to }) (Err (stop_of_world why))
    never_summed bundle left left' held from to why not = ⊎_elim
        (λ never. inl (ap (λ (w : WorldStop). Err (stop_of_world w)) never.0, refl, never.1))
        (λ unopened. inr (summed_unopened bundle _ _ (stop_of_world why) unopened))
        (unopened_or_never bundle left left' held from to why not)
