-- Each call keeps the hub.
use Rattle.std.proofs.Common.{◌≡◌, ◌⊎◌, ⊎_elim, ℕ, ◌+◌, ◌≤◌, true, false, List, [], ◌∷◌, ◌++◌, IsTrue, Result, Ok, Err, None, Some, get_or, length, take, refl, sym, ap, subst, ◌∙◌, append-nil}
use Rattle.std.specs.Prelude.{OnErr, OnOk, map, slice_get}
use Rattle.std.specs.List.{range_with_len}
use Rattle.std.proofs.lemmas.Bool.{false≢true}
use Rattle.std.proofs.lemmas.List.{length-map}
use Rattle.std.proofs.lemmas.List.Elements.{All-map}
use Rattle.std.proofs.lemmas.List.FromFn.{length-range_with_len}
use Rattle.orc_call.specs.declared.answer.Answer.{Answer}
use Rattle.orc_call.specs.declared.answer.Answer.TheVariants as answer
use Rattle.orc_call.specs.declared.call.Call.{Call}
use Rattle.orc_datastore.specs.Legal.{state_of}
use Rattle.orc_datastore.specs.Plans.{planned}
use Rattle.orc_datastore.specs.declared.plan.Plan.{Plan}
use Rattle.orc_decls.specs.Calls.{is_call}
use Rattle.orc_device.specs.declared.reply.Reply.{Reply}
use Rattle.orc_disk.specs.Meanings.{DiskMeaning}
use Rattle.orc_datastore.specs.States.{tree_due}
use Rattle.orc_journal.specs.declared.entry.Entry.{Entry}
use Rattle.orc_journal.specs.declared.entry.Entry.TheVariants as entry
use Rattle.orc_recover.specs.Menders.{new_mender}
use Rattle.orc_rules.specs.Admissions.{without}
use Rattle.orc_rules.specs.Due.{is_decision_due}
use Rattle.orc_rules.specs.Fits.{IsFirstFit}
use Rattle.orc_rules.specs.Hubs.{hub_reported}
use Rattle.orc_rules.specs.Transactions.{is_settling}
use Rattle.orc_rules.specs.Worlds.{IsIdle}
use Rattle.orc_rules.specs.declared.transaction.Transaction.{Transaction}
use Rattle.orc_rules.specs.declared.transaction.Waiting.{Waiting}
use Rattle.orc_text.specs.declared.memory.Memory.{Memory}
use Rattle.orc_hub.specs.Admits.{Admits, AdmitsOne, Begins, IsNotAdmitted, TurnsAway, WritesIntent, row_by, waiting_name}
use Rattle.orc_hub.specs.Decisions.{CommitsOne, Decides, DecidesOn, GivesUp, WritesAbort, WritesDecide, WritesSettled, asker_name}
use Rattle.orc_hub.specs.Hubs.{record_of, with_record}
use Rattle.orc_hub.specs.Keeps.{HasMender, IsHub, IsSoundHub, KeepsHub}
use Rattle.orc_hub.specs.Laws.{AbortKeeps, BeginKeeps, CommitKeeps, MendingBegunKeeps, ReportKeeps, SettleKeeps, SubmitKeeps, TurnAwayKeeps}
use Rattle.orc_hub.specs.Mends.{begun_on, begun_to_mend, resolved_on}
use Rattle.orc_hub.specs.Submits.{Submits}
use Rattle.orc_hub.specs.declared.hub.Admit.{Admit}
use Rattle.orc_hub.specs.declared.hub.Admit.TheVariants as admit
use Rattle.orc_hub.specs.declared.hub.Decided.{Decided}
use Rattle.orc_hub.specs.declared.hub.Decided.TheVariants as decided
use Rattle.orc_hub.specs.declared.hub.Hub.{Hub}
use Rattle.orc_hub.specs.declared.hub.Submitted.{Submitted}
use Rattle.orc_hub.specs.declared.hub.Submitted.TheVariants as submitted
use Rattle.orc_hub.proofs.Lefts.{all_left}

module _ {D : Type 0} (disk : DiskMeaning D) where
  -- nothing changed
  pub same_kept : (old new : Hub D) → new ≡ old → KeepsHub disk old new
  same_kept old new same = record {
    decls = ap (λ (h : Hub D). h.decls) same;
    sound = subst (λ (h : Hub D). IsSoundHub disk old → IsSoundHub disk h) (sym same) (λ h. h);
    still_down = λ down. ap (λ (h : Hub D). h.down) same ∙ down;
    history = λ up. ([], ap (λ (h : Hub D). h.state.history) same ∙ sym (append-nil old.state.history));
  }

  -- the hub is down
  fallen : (old new : Hub D) → new.decls ≡ old.decls → new.down ≡ true → KeepsHub disk old new
  fallen old new decls down = record {
    decls = decls;
    sound = λ h up. absurd (false≢true (sym up ∙ down));
    still_down = λ was. down;
    history = λ up. absurd (false≢true (sym up ∙ down));
  }

  -- the hub was up, and its history has these calls more
  grows : (old new : Hub D) (more : List Call) → new.decls ≡ old.decls → new.state.history ≡ old.state.history ++ more → old.down ≡ false
      → ((entries : List Entry) → IsHub disk old entries → new.down ≡ false → (later : List Entry) × IsHub disk new later) → KeepsHub disk old new
  grows old new more decls history was keeps = record {
    decls = decls;
    sound = λ h up. (let own = h was in keeps own.0 own.1 up);
    still_down = λ down. absurd (false≢true (sym was ∙ down));
    history = λ up. (more, history);
  }

  -- the hub was up, and its history has no call more
  stays : (old new : Hub D) → new.decls ≡ old.decls → new.state.history ≡ old.state.history → old.down ≡ false
      → ((entries : List Entry) → IsHub disk old entries → new.down ≡ false → (later : List Entry) × IsHub disk new later) → KeepsHub disk old new
  stays old new decls history was keeps = grows old new [] decls (history ∙ sym (append-nil old.state.history)) was keeps

  pub report_kept : ReportKeeps disk → (hub : Hub D) (device : ℕ) (reply : Reply) (faults : ℕ)
      → KeepsHub disk hub (with_record hub (hub_reported device reply faults (record_of hub)))
  report_kept law hub device reply faults = record {
    decls = refl;
    sound = λ h up. (let own = h up in (own.0, law hub own.0 device reply faults own.1));
    still_down = λ down. down;
    history = λ up. ([], sym (append-nil hub.state.history));
  }

  -- decisions

  module _ (commit : CommitKeeps disk) (abort : AbortKeeps disk) (settle : SettleKeeps disk) (old new : Hub D) (was : old.down ≡ false)
      (place : ℕ) (it : Transaction) (there : slice_get old.active place ≡ Some it) where
    settled_kept : is_settling it.phase ≡ true → (result : Decided) → WritesSettled disk old it.t result new → KeepsHub disk old new
    settled_kept is (decided.Settled given) w =
        stays old new (ap (λ (h : Hub D). h.decls) w.2) (ap (λ (h : Hub D). h.state.history) w.2) was
        (λ entries own up. (entries ++ entry.Settled it.t ∷ [], settle old new entries place it (decided.Settled given) own there is w up))
    settled_kept is decided.Down w = fallen old new w.decls w.down
    settled_kept is (decided.Full len) w = fallen old new w.decls w.down
    settled_kept is decided.Nothing w = absurd w
    settled_kept is (decided.Answered caller number given) w = absurd w

    committed_kept : is_decision_due old.duties it ≡ true → (result : Decided) → CommitsOne disk old it result new → KeepsHub disk old new
    committed_kept due result so = on result so.written (λ entries own up. (entries ++ entry.Decide it.t ∷ [], commit old new entries place it result own there due so up))
      where
        on : (r : Decided) → WritesDecide disk (record old { state = so.behind }) it.t it.asker (asker_name it) (length old.state.history + 1) r new
            → ((entries : List Entry) → IsHub disk old entries → new.down ≡ false → (later : List Entry) × IsHub disk new later) → KeepsHub disk old new
        on (decided.Answered caller number given) w keeps =
            ⊎_elim
            (λ done. grows old new (it.call ∷ []) (ap (λ (h : Hub D). h.decls) done.2) (ap (λ (h : Hub D). h.state.history) done.2 ∙ so.committed.history) was keeps)
            (λ broken. fallen old new broken.1.decls broken.1.down) w.1
        on (decided.Full len) w keeps = fallen old new w.decls w.down
        on decided.Nothing w keeps = absurd w
        on (decided.Settled t) w keeps = absurd w
        on decided.Down w keeps = absurd w

    given_up_kept : is_decision_due old.duties it ≡ true → (result : Decided) → GivesUp disk old it result new → KeepsHub disk old new
    given_up_kept due result so = on result so.written (λ entries own up. (entries ++ entry.Abort it.t ∷ [], abort old new entries place it result own there due so up))
      where
        on : (r : Decided) → WritesAbort disk old it.t it.asker (asker_name it) so.given r new
            → ((entries : List Entry) → IsHub disk old entries → new.down ≡ false → (later : List Entry) × IsHub disk new later) → KeepsHub disk old new
        on (decided.Answered caller number given) w keeps =
            ⊎_elim (λ done. stays old new (ap (λ (h : Hub D). h.decls) done.2) (ap (λ (h : Hub D). h.state.history) done.2) was keeps)
            (λ broken. fallen old new broken.1.decls broken.1.down) w.1
        on (decided.Full len) w keeps = fallen old new w.decls w.down
        on decided.Nothing w keeps = absurd w
        on (decided.Settled t) w keeps = absurd w
        on decided.Down w keeps = absurd w

    decided_kept : (result : Decided) → DecidesOn disk old it result new → KeepsHub disk old new
    decided_kept result so =
        ⊎_elim (λ s. settled_kept s.0 result s.1)
        (λ d. ⊎_elim (committed_kept d.0 result) (given_up_kept d.0 result) d.1) so

  pub decides_kept : CommitKeeps disk → AbortKeeps disk → SettleKeeps disk → (old new : Hub D) (result : Decided) → Decides disk old result new → KeepsHub disk old new
  decides_kept commit abort settle old new result so =
      ⊎_elim (λ down. same_kept old new down.2)
      (λ rest. ⊎_elim (λ none. same_kept old new none.3)
      (λ due. decided_kept commit abort settle old new due.0 due.1.0 due.1.1 due.1.2 result due.1.4) rest) so

  -- submissions

  pub submits_kept : SubmitKeeps disk → (old new : Hub D) (call : Call) (front : ℕ) (plan : Result Plan Answer) (result : Submitted) → IsTrue (is_call old.decls call)
      → (old.down ≡ false → front ≤ length old.state.history)
      → (old.down ≡ false → (plan ≡ Err answer.Memory) ⊎ (plan ≡ planned old.decls (state_of old.decls (take front old.state.history)) front call))
      → Submits old call front plan result new → KeepsHub disk old new
  submits_kept law old new call front plan (submitted.Answered said) lawful within of so =
      ⊎_elim (λ down. fallen old new (ap (λ (h : Hub D). h.decls) down.2.rest) (ap (λ (h : Hub D). h.down) down.2.rest ∙ down.0))
      (λ up. stays old new (ap (λ (h : Hub D). h.decls) up.2.rest) (ap (λ (h : Hub D). h.state.history) up.2.rest) up.0
      (λ entries own still. (entries, law old new entries call front plan (submitted.Answered said) own lawful (within up.0) (of up.0) so))) so
  submits_kept law old new call front plan (submitted.Queued t) lawful within of so =
      stays old new (ap (λ (h : Hub D). h.decls) so.2.2.waits) (ap (λ (h : Hub D). h.state.history) so.2.2.waits) so.0
      (λ entries own still. (entries, law old new entries call front plan (submitted.Queued t) own lawful (within so.0) (of so.0) so))

  -- admissions

  module _ (turn_away : TurnAwayKeeps disk) (begin : BeginKeeps disk) (old new : Hub D) (was : old.down ≡ false) (place : ℕ) (it : Waiting)
      (there : slice_get old.waiting place ≡ Some it) (mended : old.mends ≡ None) (first : IsFirstFit old.active old.waiting place) where
    turned_kept : (given : Answer) (result : Admit) → TurnsAway (record old { waiting = without place old.waiting }) it.asker (waiting_name it) given result new → KeepsHub disk old new
    turned_kept given (admit.Answered caller number said) w =
        stays old new (ap (λ (h : Hub D). h.decls) w.2) (ap (λ (h : Hub D). h.state.history) w.2) was
        (λ entries own up. (entries, turn_away old new entries place it given (admit.Answered caller number said) own there w))
    turned_kept given (admit.Admitted t) w = absurd w
    turned_kept given (admit.Full len) w = absurd w
    turned_kept given admit.Nothing w = absurd w

    begun_kept : (result : Admit) → Begins disk (record old { waiting = without place old.waiting }) it result new → KeepsHub disk old new
    begun_kept result so = on result so.written
        (λ entries own up. (entries ++ row_by result it, begin old new entries place it so.sets result own mended there first so.passes so.written up))
      where
        on : (r : Admit) → WritesIntent disk (record old { waiting = without place old.waiting }) it so.sets r new
            → ((entries : List Entry) → IsHub disk old entries → new.down ≡ false → (later : List Entry) × IsHub disk new later) → KeepsHub disk old new
        on (admit.Admitted t) w keeps = stays old new (ap (λ (h : Hub D). h.decls) w.2) (ap (λ (h : Hub D). h.state.history) w.2) was keeps
        on (admit.Answered caller number said) w keeps =
            ⊎_elim (λ memory. stays old new (ap (λ (h : Hub D). h.decls) memory.1) (ap (λ (h : Hub D). h.state.history) memory.1) was keeps)
            (λ broken. fallen old new broken.1.decls broken.1.down) w.1
        on (admit.Full len) w keeps = fallen old new w.decls w.down
        on admit.Nothing w keeps = absurd w

  pub admits_kept : TurnAwayKeeps disk → BeginKeeps disk → (old new : Hub D) (result : Admit) → old.down ≡ false → old.mends ≡ None → Admits disk old result new → KeepsHub disk old new
  admits_kept turn_away begin old new result was mended so =
      ⊎_elim (λ none. same_kept old new none.2)
      (λ one. ⊎_elim (λ answered. turned_kept turn_away begin old new was one.0 one.1 one.2 mended one.3 answered.given result answered.turned)
      (begun_kept turn_away begin old new was one.0 one.1 one.2 mended one.3 result) one.4) so

  -- the beginning of a reconciliation

  pub begun_so : (hub : Hub D) (entries : List Entry) → IsHub disk hub entries → IsIdle (record_of hub) → IsHub disk (begun_to_mend hub) entries
  begun_so hub entries own idle = record {
    decls = own.decls;
    log = own.log;
    history = own.history;
    state = own.state;
    kept = own.kept;
    numbers = own.numbers;
    askers = own.askers;
    duties = length-map (range_with_len 0 (length hub.decls.names)) (begun_on hub) ∙ length-range_with_len 0 (length hub.decls.names);
    stale = own.stale;
    mending = λ met mends. record {
      left = all_left hub.active idle.1;
      mends = All-map HasMender (begun_on hub) (range_with_len 0 (length hub.decls.names))
          (λ k d within. has_mender (get_or (range_with_len 0 (length hub.decls.names)) k d));
    };
  }
    where
      has_mender : (device : ℕ) → HasMender (begun_on hub device)
      has_mender device = (new_mender (resolved_on device hub.log.unsettled) (tree_due hub.state.datastore device), refl)

  pub mending_begun_kept : MendingBegunKeeps disk → (hub : Hub D) → IsIdle (record_of hub) → KeepsHub disk hub (begun_to_mend hub)
  mending_begun_kept law hub idle = record {
    decls = refl;
    sound = λ h up. (let own = h up in (own.0, law hub own.0 own.1 idle));
    still_down = λ down. down;
    history = λ up. ([], sym (append-nil hub.state.history));
  }

  pub begun_or_same : (old new : Hub D) (result : Result Unit Memory) → OnOk result (new ≡ begun_to_mend old) → OnErr result (new ≡ old) → KeepsHub disk old (begun_to_mend old)
      → KeepsHub disk old new
  begun_or_same old new (Ok done) ok err kept = subst (λ (h : Hub D). KeepsHub disk old h) (sym ok) kept
  begun_or_same old new (Err fault) ok err kept = same_kept old new err
