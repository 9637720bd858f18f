-- What each call keeps of the hub.
use Rattle.std.proofs.Common.{◌≡◌, ◌≢◌, ◌⊎◌, inl, inr, ⊎_elim, ℕ, ◌+◌, ◌<◌, Bool, true, false, not, ◌&&◌, nat_eq, List, [], ◌∷◌, ◌++◌, Option, None, Some, option_to_list, All, Contains, IsTrue, map, length, set, refl, sym, ap, subst, ◌∙◌}
use Rattle.std.specs.Prelude.{slice_get}
use Rattle.std.specs.List.{filter}
use Rattle.std.specs.Option.{option_map_or, option_or}
use Rattle.std.specs.Cmp.{first_so}
use Rattle.std.proofs.lemmas.Bool.{false≢true}
use Rattle.std.proofs.lemmas.List.{length-map, length-set}
use Rattle.std.proofs.lemmas.List.Elements.{All-contains, All-pop, All-push}
use Rattle.std.proofs.lemmas.List.Sums.{fold_push}
use Rattle.orc_call.specs.declared.answer.Answer.{Answer}
use Rattle.orc_call.specs.declared.answer.RecFault.{RecFault}
use Rattle.orc_call.specs.declared.call.Call.{Call}
use Rattle.orc_datastore.specs.Legal.{IsSame}
use Rattle.orc_device.specs.declared.reply.Reply.{Reply}
use Rattle.orc_disk.specs.Meanings.{DiskMeaning}
use Rattle.orc_journal.specs.Committed.{as_calls, call_of, history_of}
use Rattle.orc_journal.specs.Entries.{number_of}
use Rattle.orc_journal.specs.Laws.{HasIntent, IsUnnamed, KeepsOrder, MayFollow}
use Rattle.orc_journal.specs.declared.entry.Entry.{Entry}
use Rattle.orc_journal.specs.declared.entry.Entry.TheVariants as entry
use Rattle.orc_journal.proofs.Orderings.{is_ordered-push}
use Rattle.orc_plans.specs.Plans.{PlanStands}
use Rattle.orc_rules.specs.Asked.{answered_at}
use Rattle.orc_rules.specs.Due.{is_decision_due}
use Rattle.orc_rules.specs.Duties.{duty_end, duty_took, duty_told, stale_by}
use Rattle.orc_rules.specs.Hubs.{answered, duty_on, hub_reported, hub_told, mend_fault, with_changed}
use Rattle.orc_rules.specs.Kept.{HubKept, IsOpenIn}
use Rattle.orc_rules.specs.Transactions.{in_phase, is_other, is_preparing, is_settling, retired}
use Rattle.orc_rules.specs.Verdicts.{are_heard}
use Rattle.orc_rules.specs.declared.duty.Duty.{Duty}
use Rattle.orc_rules.specs.declared.transaction.Phase.{Phase}
use Rattle.orc_rules.specs.declared.transaction.Phase.TheVariants as phase
use Rattle.orc_rules.specs.declared.transaction.Transaction.{Transaction}
use Rattle.orc_rules.specs.declared.transaction.Waiting.{Waiting}
use Rattle.orc_rules.proofs.Entering.{All-at, apart_of}
use Rattle.orc_rules.proofs.Fronts.{history_of-append}
use Rattle.orc_rules.proofs.Leaving.{leaves_hub, phase_leaves, stayed}
use Rattle.orc_rules.proofs.Legality.{same_history}
use Rattle.orc_rules.proofs.Legally.{abort_keeps, commit_keeps, report_keeps, settle_keeps, unsettled_so}
use Rattle.orc_rules.proofs.Retiring.{was_other, was_there}
use Rattle.orc_state.specs.Commits.{IsCommitted}
use Rattle.orc_state.specs.States.{State}
use Rattle.orc_hub.specs.Decisions.{CommitsOne, GivesUp, WritesAbort, WritesDecide, WritesSettled, asker_name}
use Rattle.orc_hub.specs.Hubs.{record_of, with_record}
use Rattle.orc_hub_parts.specs.Numbered.{AreNumbers}
use Rattle.orc_hub.specs.Keeps.{AreAskers, IsAsker, IsHub}
use Rattle.orc_hub_parts.specs.Logs.{IsLog, noted}
use Rattle.orc_hub.specs.Writes.{HasBroken, HasNoRoom, HasWritten}
use Rattle.orc_hub.specs.declared.hub.Decided.{Decided}
use Rattle.orc_hub.specs.declared.hub.Decided.TheVariants as decided
use Rattle.orc_hub.specs.declared.hub.Hub.{Hub}
use Rattle.orc_hub_parts.specs.declared.log.Unsettled.{Unsettled}
use Rattle.orc_hub_parts.specs.declared.numbers.Numbers.{Numbers}
use Rattle.orc_hub_parts.specs.Numbered.{is_given, is_noted}
use Rattle.orc_hub.proofs.Asking.{asks_still}
use Rattle.orc_hub.proofs.Lefts.{begun_before, still_left}

-- lengths

length_changed : {X : Type 0} (change : X → X) (place : ℕ) (xs : List X) → length (with_changed change place xs) ≡ length xs
length_changed {X} change place xs = on (slice_get xs place)
  where
    on : (o : Option X) → length (option_map_or (λ (x : X). set xs place (change x)) o xs) ≡ length xs
    on None = refl
    on (Some x) = length-set xs place (change x)

-- one entry more

abbrev IsTaken : Numbers → Entry → Type 0
IsTaken numbers e = (is_noted numbers (number_of e) ≡ true) ⊎ (is_given numbers (number_of e) ≡ true)

pub numbers_more : (numbers : Numbers) (entries : List Entry) (e : Entry) → AreNumbers numbers entries → IsTaken numbers e → AreNumbers numbers (entries ++ e ∷ [])
numbers_more numbers entries e own taken = record {
  taken = All-push (IsTaken numbers) entries e own.taken taken;
  noted = λ t h none. own.noted t h (All-pop (λ (x : Entry). number_of x ≡ t → ⊥) (entries ++ e ∷ []) entries (Some e) refl none).0;
}

pub taken_by : (numbers : Numbers) (entries : List Entry) (t : ℕ) → AreNumbers numbers entries → HasIntent entries t
    → (is_noted numbers t ≡ true) ⊎ (is_given numbers t ≡ true)
taken_by numbers entries t own h = All-contains (IsTaken numbers) entries (entry.Intent t h.0 h.1) own.taken h.2

module _ {D : Type 0} (disk : DiskMeaning D) where
  pub log_more : KeepsOrder → (old new : Hub D) (text : List ℕ) (entries : List Entry) (e : Entry) → IsLog disk old.log text entries → MayFollow entries e
      → HasWritten disk old e new → IsLog disk new.log text (entries ++ e ∷ [])
  log_more law old new text entries e own may w = record {
    holds = w.appended.holds text entries own.holds;
    ordered = is_ordered-push entries e own.ordered ((law entries e own.ordered).1 may);
    unsettled = w.unsettled ∙ ap (λ (l : List Unsettled). noted l e) own.unsettled ∙ sym (fold_push noted [] entries e);
  }

  -- a report
  pub report_so : (hub : Hub D) (entries : List Entry) (device : ℕ) (reply : Reply) (faults : ℕ) → IsHub disk hub entries
      → IsHub disk (with_record hub (hub_reported device reply faults (record_of hub))) entries
  report_so hub entries device reply faults own =
      let duties = with_changed (λ (duty : Duty). duty_took duty reply faults) device hub.duties in
      record {
        decls = own.decls;
        log = own.log;
        history = own.history;
        state = own.state;
        kept = report_keeps hub.decls entries hub.state.history hub.active hub.waiting (is_given hub.numbers) own.kept duties;
        numbers = own.numbers;
        askers = record {
          waits = own.askers.waits;
          prepares = λ place it is h. own.askers.prepares place it (was_there duties hub.active place it is h) h;
        };
        duties = length_changed (λ (duty : Duty). duty_took duty reply faults) device hub.duties ∙ own.duties;
        stale = length_changed (stale_by (duty_on hub.duties device) reply faults) device hub.stale ∙ own.stale;
        mending = λ met mends.
            let begun = begun_before (λ (so_far : Option RecFault). option_or so_far (mend_fault device (duty_end (duty_on hub.duties device) reply faults))) hub.mends met mends in
            still_left duties hub.active hub.duties device reply faults (own.mending begun.0 begun.1);
      }

  -- a transaction that isn't decided
  module _ (hub : Hub D) (entries : List Entry) (own : IsHub disk hub entries) (place : ℕ) (it : Transaction) (is : slice_get hub.active place ≡ Some it)
      (preparing : is_preparing it.phase ≡ true) where
    none_left : (met : Option RecFault) → hub.mends ≡ Some met → ⊥
    none_left met mends =
        false≢true (sym (ap is_preparing (All-at (λ (x : Transaction). x.phase ≡ phase.Left) hub.active place it (own.mending met mends).left is)) ∙ preparing)

    open_in : IsOpenIn entries it
    open_in = own.kept.intents place it is preparing

    asks : IsAsker hub.askers it.asker it.call
    asks = own.askers.prepares place it is preparing

    -- the others' slots are open after its answer
    others_ask : (said : Answer) (to : Phase) (told : is_preparing to ≡ false) (duties : List Duty)
        → AreAskers (answered_at it.asker said hub.askers) hub.waiting (map (retired duties) (map (in_phase it.t to) hub.active))
    others_ask said to told duties = record {
      waits = λ k d within. asks_still hub.askers it.asker said it.call asks _ _ (λ same. own.kept.waits_apart place it is preparing k d within same.0) (own.askers.waits k d within);
      prepares = λ p x there h.
          let inner = was_there duties (map (in_phase it.t to) hub.active) p x there h in
          let old = was_other it.t to hub.active p x told inner h in
          asks_still hub.askers it.asker said it.call asks x.asker x.call
          (own.kept.apart p place x it old.0 is h preparing (λ e. apart_of x.t it.t old.1 (sym e)))
          (own.askers.prepares p x old.0 h);
    }

    number : (e : Entry) → number_of e ≡ it.t → AreNumbers hub.numbers (entries ++ e ∷ [])
    number e same =
        numbers_more hub.numbers entries e own.numbers
        (subst (λ (t : ℕ). (is_noted hub.numbers t ≡ true) ⊎ (is_given hub.numbers t ≡ true)) (sym same) (taken_by hub.numbers entries it.t own.numbers open_in.undecided.0))

    -- it is given up
    aborted : KeepsOrder → (said : Answer) (new : Hub D) → HasWritten disk hub (entry.Abort it.t) new
        → new ≡ record (with_record hub (answered it.asker said (hub_told it.t phase.Aborted false (record_of hub)))) { log = new.log }
        → IsHub disk new (entries ++ entry.Abort it.t ∷ [])
    aborted law said new w is' =
        let e = entry.Abort it.t in
        let duties = map (duty_told it.t false) hub.duties in
        subst (λ (h : Hub D). IsHub disk h (entries ++ e ∷ [])) (sym is') (record {
          decls = own.decls;
          log = log_more law hub new hub.decls.text entries e own.log open_in.undecided w;
          history = same_history entries e refl ∙ own.history;
          state = own.state;
          kept = report_keeps hub.decls (entries ++ e ∷ []) hub.state.history (map (in_phase it.t phase.Aborted) hub.active) hub.waiting (is_given hub.numbers)
              (abort_keeps hub.decls entries hub.state.history hub.active hub.waiting (is_given hub.numbers) own.kept place it is preparing duties) duties;
          numbers = number e refl;
          askers = others_ask said phase.Aborted refl duties;
          duties = length-map hub.duties (duty_told it.t false) ∙ own.duties;
          stale = own.stale;
          mending = λ met mends. absurd (none_left met mends);
        })

    pub gives_up_so : KeepsOrder → (given : Answer) (result : Decided) (new : Hub D) → WritesAbort disk hub it.t it.asker (asker_name it) given result new → new.down ≡ false
        → IsHub disk new (entries ++ entry.Abort it.t ∷ [])
    gives_up_so law given (decided.Answered caller number said) new w up =
        ⊎_elim (λ done. aborted law said new done.1 done.2) (λ broken. absurd (false≢true (sym up ∙ broken.1.down))) w.1
    gives_up_so law given (decided.Full len) new w up = absurd (false≢true (sym up ∙ w.down))
    gives_up_so law given decided.Nothing new w up = absurd w
    gives_up_so law given (decided.Settled t) new w up = absurd w
    gives_up_so law given decided.Down new w up = absurd w

    -- it is committed
    decides : KeepsOrder → PlanStands → (behind : State) (n : ℕ) → IsCommitted hub.decls hub.state it.call n behind → (said : Answer) (new : Hub D)
        → HasWritten disk (record hub { state = behind }) (entry.Decide it.t) new
        → new ≡ record (with_record (record hub { state = behind }) (answered it.asker said (hub_told it.t phase.Decided true (record_of (record hub { state = behind }))))) { log = new.log }
        → IsHub disk new (entries ++ entry.Decide it.t ∷ [])
    decides law plan_law behind n c said new w is' =
        let e = entry.Decide it.t in
        let duties = map (duty_told it.t true) hub.duties in
        subst (λ (h : Hub D). IsHub disk h (entries ++ e ∷ [])) (sym is') (record {
          decls = own.decls;
          log = log_more law (record hub { state = behind }) new hub.decls.text entries e own.log open_in.undecided w;
          history = history_of-append entries e ∙ ap (λ (o : Option Call). history_of entries ++ as_calls o) open_in.call
              ∙ ap (λ (h : List Call). h ++ it.call ∷ []) own.history ∙ sym c.history;
          state = c.state;
          kept = subst (λ (h : List Call). HubKept hub.decls (entries ++ e ∷ []) h (map (retired duties) (map (in_phase it.t phase.Decided) hub.active)) hub.waiting (is_given hub.numbers)) (sym c.history)
              (report_keeps hub.decls (entries ++ e ∷ []) (hub.state.history ++ it.call ∷ []) (map (in_phase it.t phase.Decided) hub.active) hub.waiting (is_given hub.numbers)
              (commit_keeps hub.decls entries hub.state.history hub.active hub.waiting (is_given hub.numbers) own.kept place it is plan_law own.decls preparing) duties);
          numbers = number e refl;
          askers = others_ask said phase.Decided refl duties;
          duties = length-map hub.duties (duty_told it.t true) ∙ own.duties;
          stale = own.stale;
          mending = λ met mends. absurd (none_left met mends);
        })

    pub commits_so : KeepsOrder → PlanStands → (behind : State) (n : ℕ) → IsCommitted hub.decls hub.state it.call n behind → (result : Decided) (new : Hub D)
        → WritesDecide disk (record hub { state = behind }) it.t it.asker (asker_name it) n result new → new.down ≡ false → IsHub disk new (entries ++ entry.Decide it.t ∷ [])
    commits_so law plan_law behind n c (decided.Answered caller number said) new w up =
        ⊎_elim (λ done. decides law plan_law behind n c said new done.1 done.2) (λ broken. absurd (false≢true (sym up ∙ broken.1.down))) w.1
    commits_so law plan_law behind n c (decided.Full len) new w up = absurd (false≢true (sym up ∙ w.down))
    commits_so law plan_law behind n c decided.Nothing new w up = absurd w
    commits_so law plan_law behind n c (decided.Settled t) new w up = absurd w
    commits_so law plan_law behind n c decided.Down new w up = absurd w

  -- it is settled
  module _ (hub : Hub D) (entries : List Entry) (own : IsHub disk hub entries) (place : ℕ) (it : Transaction) (is : slice_get hub.active place ≡ Some it)
      (settling : is_settling it.phase ≡ true) where
    none_settling : (met : Option RecFault) → hub.mends ≡ Some met → ⊥
    none_settling met mends =
        false≢true (sym (ap is_settling (All-at (λ (x : Transaction). x.phase ≡ phase.Left) hub.active place it (own.mending met mends).left is)) ∙ settling)

    settled : KeepsOrder → (new : Hub D) → HasWritten disk hub (entry.Settled it.t) new
        → new ≡ record hub { log = new.log; active = filter (is_other it.t) hub.active } → IsHub disk new (entries ++ entry.Settled it.t ∷ [])
    settled law new w is' =
        let e = entry.Settled it.t in
        let may : MayFollow entries e = own.kept.settle place it is (unsettled_so it.phase settling) in
        subst (λ (h : Hub D). IsHub disk h (entries ++ e ∷ [])) (sym is') (record {
          decls = own.decls;
          log = log_more law hub new hub.decls.text entries e own.log may w;
          history = same_history entries e refl ∙ own.history;
          state = own.state;
          kept = subst (λ (l : List Transaction). HubKept hub.decls (entries ++ e ∷ []) hub.state.history l hub.waiting (is_given hub.numbers)) (phase_leaves it.t phase.Left hub.active)
              (leaves_hub hub.decls (entries ++ e ∷ []) hub.state.history (map (in_phase it.t phase.Left) hub.active) hub.waiting (is_given hub.numbers)
              (settle_keeps hub.decls entries hub.state.history hub.active hub.waiting (is_given hub.numbers) own.kept place it is settling) (is_other it.t));
          numbers = numbers_more hub.numbers entries e own.numbers (taken_by hub.numbers entries it.t own.numbers may.0);
          askers = record {
            waits = own.askers.waits;
            prepares = λ p x there h. own.askers.prepares _ x (stayed (is_other it.t) hub.active p x there).there h;
          };
          duties = own.duties;
          stale = own.stale;
          mending = λ met mends. absurd (none_settling met mends);
        })

    pub settles_so : KeepsOrder → (result : Decided) (new : Hub D) → WritesSettled disk hub it.t result new → new.down ≡ false → IsHub disk new (entries ++ entry.Settled it.t ∷ [])
    settles_so law (decided.Settled t) new w up = settled law new w.1 w.2
    settles_so law decided.Down new w up = absurd (false≢true (sym up ∙ w.down))
    settles_so law (decided.Full len) new w up = absurd (false≢true (sym up ∙ w.down))
    settles_so law decided.Nothing new w up = absurd w
    settles_so law (decided.Answered caller number said) new w up = absurd w
