-- A submission is an event.
use Rattle.std.specs.Prelude.{◌≡◌, ◌≢◌, ◌⊎◌, ℕ, ◌+◌, ◌<◌, ◌≤◌, Bool, true, false, Option, None, Some, List, [], ◌∷◌, ◌++◌, All, Result, Ok, Err, IsTrue, length, take, get_or}
use Rattle.std.proofs.Common.{refl, sym, ap, subst, ◌∙◌, ⊎_elim}
use Rattle.std.proofs.Math.Path.{fun_ext}
use Rattle.std.proofs.lemmas.Bool.{false≢true}
use Rattle.std.proofs.lemmas.List.Elements.{All-weaker}
use Rattle.std.proofs.lemmas.Option.{slice_get-get_or}
use Rattle.orc_call.specs.declared.answer.Answer.{Answer}
use Rattle.orc_call.specs.declared.answer.Answer.TheVariants as answer
use Rattle.orc_call.specs.declared.call.Call.{Call}
use Rattle.orc_datastore.specs.Legal.{IsNew, state_of}
use Rattle.orc_datastore.specs.Plans.{plan_refusal, plan_unless, planned}
use Rattle.orc_datastore.specs.declared.plan.Plan.{Plan}
use Rattle.orc_decls.specs.Calls.{is_call}
use Rattle.orc_decls.specs.declared.declarations.Decls.{Decls}
use Rattle.orc_disk.specs.Stops.{Stopping, inside}
use Rattle.orc_journal.specs.declared.entry.Entry.{Entry}
use Rattle.orc_hub.specs.Hubs.{record_of}
use Rattle.orc_hub.specs.Keeps.{IsAsker, IsHub}
use Rattle.orc_hub.specs.Laws.{SubmitKeeps}
use Rattle.orc_hub_parts.specs.Numbered.{is_given}
use Rattle.orc_hub.specs.Submits.{HasKept, IsFree, IsQueued, Submits}
use Rattle.orc_hub.specs.declared.hub.Hub.{Hub}
use Rattle.orc_hub.specs.declared.hub.Submitted.{Submitted}
use Rattle.orc_hub.specs.declared.hub.Submitted.TheVariants as submitted
use Rattle.orc_hub.proofs.Asking.{none_open}
use Rattle.orc_hub.proofs.Coming.{given_same}
use Rattle.orc_hub.proofs.Submissions.{next_number}
use Rattle.orc_rules.specs.Asked.{open_of, with_open}
use Rattle.orc_rules.specs.Cells.{updated_at}
use Rattle.orc_rules.specs.Events.{DoesUnderHub}
use Rattle.orc_rules.specs.Hubs.{Hub as HubState}
use Rattle.orc_rules.specs.Journals.{entries_read, history_read}
use Rattle.orc_rules.specs.Transactions.{is_preparing}
use Rattle.orc_rules.specs.Worlds.{AnswersSubmission, HasNoneOf, IsNextNumber, Setting, World, with_snapshot}
use Rattle.orc_rules.specs.declared.asked.Asked.{Asked}
use Rattle.orc_rules.specs.declared.event.Event.TheVariants as event
use Rattle.orc_rules.specs.declared.transaction.Transaction.{Transaction}
use Rattle.orc_rules.specs.declared.transaction.Waiting.{Waiting}
use Rattle.orc_hub_laws.specs.Turns.{SnapshotBegins, SubmitIsEvent, said_at_once, world_answered}
use Rattle.orc_hub_laws.specs.Under.{GoesOnUnder, IsWorldOf}
use Rattle.orc_hub_laws.proofs.Going.{DiskLaws, entries_are, history_is, quiet, same_met}

-- a plan has the front that it was made at
front_of : (o : Option Answer) (made plan : Plan) → plan_unless o made ≡ Ok plan → made ≡ plan
front_of None made plan h = cc
front_of (Some said) made plan h = absurd cc

module _ {D : Type 0} (here : Setting D) (laws : DiskLaws here.disk) where
  pub snapshot_begins_so : SnapshotBegins here
  snapshot_begins_so world hub caller own =
      quiet here laws world hub own (record world { snapshots = with_snapshot world.snapshots caller (Some (length hub.state.history)) })
      (event.Begin caller (length hub.state.history)) hub
      (subst (λ (h : List Call). DoesUnderHub here world (record_of hub) (event.Begin caller (length h)) [] (record world { snapshots = with_snapshot world.snapshots caller (Some (length h)) }))
      (history_is here laws world hub own) (DoesUnderHub.begins caller))
      own.is refl own.up refl own.met own.sound

  module _ (keeps : SubmitKeeps (inside here.disk)) (world : World D) (old new : Hub (Stopping D)) (call : Call) (front : ℕ) (own : IsWorldOf here world old)
      (snap : world.snapshots call.caller ≡ Some front) (lawful : is_call here.decls call ≡ true) (within : front ≤ length old.state.history) where
    lawful_there : is_call old.decls call ≡ true
    lawful_there = subst (λ (d : Decls). is_call d call ≡ true) (sym own.decls) lawful

    -- the world after it, with this record of the hub
    abbrev behind : HubState → World D
    behind hub = record world { snapshots = with_snapshot world.snapshots call.caller None; hub = Some hub }

    answered_now : (said : Answer) → AnswersSubmission old.decls (record_of old) old.state.history call front said → HasKept old call said new
        → IsHub (inside here.disk) new world.journal.synced → GoesOnUnder here world (world_answered call.caller new world) (event.Submit call front (Some said)) new
    answered_now said cause k sound =
        let cause' : AnswersSubmission here.decls (record_of old) (history_read world.journal) call front said =
        subst (λ (d : Decls). AnswersSubmission d (record_of old) (history_read world.journal) call front said) own.decls
        (subst (λ (h : List Call). AnswersSubmission old.decls (record_of old) h call front said) (sym (history_is here laws world old own)) cause) in
        let hub : record (record_of old) { asked = new.askers } ≡ record_of new = sym (ap record_of k.rest) in
        quiet here laws world old own (world_answered call.caller new world) (event.Submit call front (Some said)) new
        (subst (λ (h : HubState). DoesUnderHub here world (record_of old) (event.Submit call front (Some said)) [] (behind h)) hub
        (DoesUnderHub.answers call front said new.askers snap cause' k.kept))
        refl (ap (λ (h : Hub (Stopping D)). h.log) k.rest) (ap (λ (h : Hub (Stopping D)). h.down) k.rest ∙ own.up) (ap (λ (h : Hub (Stopping D)). h.decls) k.rest)
        (same_met old new (ap (λ (h : Hub (Stopping D)). h.decls) k.rest) (ap (λ (h : Hub (Stopping D)). h.mends) k.rest) own.met) sound

    queued_now : (plan : Plan) (t : ℕ) → planned old.decls (state_of old.decls (take front old.state.history)) front call ≡ Ok plan → IsFree old call → IsQueued old call plan t new
        → IsHub (inside here.disk) new world.journal.synced → GoesOnUnder here world (world_answered call.caller new world) (event.Submit call front None) new
    queued_now plan t made free q sound =
        let it : Waiting = record { t = t; call = call; plan = plan; asker = q.asker } in
        let same : front ≡ plan.front = ap (λ (p : Plan). p.front) (front_of (plan_refusal old.decls (state_of old.decls (take front old.state.history)) call) _ plan made) in
        let asks = own.sound.askers in
        let apart : HasNoneOf (record_of old) call.caller = record {
          waits = All-weaker (λ (one : Waiting). IsAsker old.askers one.asker one.call) (λ (one : Waiting). one.call.caller ≢ call.caller)
              (λ one a other. none_open old.askers call.caller free.closed one.asker a.slot a.there a.is_open (a.caller ∙ other)) old.waiting asks.waits;
          prepares = λ k d inside' h other. (let a = asks.prepares k (get_or old.active k d) (slice_get-get_or old.active k d inside') h in
              none_open old.askers call.caller free.closed (get_or old.active k d).asker a.slot a.there a.is_open (a.caller ∙ other));
        } in
        let hist = history_is here laws world old own in
        let number : IsNextNumber (record_of old) (entries_read world.journal) t =
        subst (λ (l : List Entry). IsNextNumber (record_of old) l t) (sym (entries_are here laws world old own)) (next_number (inside here.disk) old world.journal.synced t own.sound q.least) in
        let made' : planned here.decls (state_of here.decls (take plan.front (history_read world.journal))) plan.front call ≡ Ok plan =
        subst (λ (n : ℕ). planned here.decls (state_of here.decls (take n (history_read world.journal))) n call ≡ Ok plan) same
        (subst (λ (h : List Call). planned here.decls (state_of here.decls (take front h)) front call ≡ Ok plan) (sym hist)
        (subst (λ (d : Decls). planned d (state_of d (take front old.state.history)) front call ≡ Ok plan) own.decls made)) in
        let within' : plan.front ≤ length (history_read world.journal) =
        subst (λ (n : ℕ). n ≤ length (history_read world.journal)) same (subst (λ (h : List Call). front ≤ length h) (sym hist) within) in
        let given : is_given new.numbers ≡ updated_at (is_given old.numbers) t true = fun_ext (given_same old.numbers new.numbers t q.least q.given) in
        let hub : record (record_of old) { waiting = old.waiting ++ it ∷ []; asked = with_open call old.askers; given = updated_at (is_given old.numbers) t true } ≡ record_of new =
        ap (λ (g : ℕ → Bool). record (record_of old) { waiting = old.waiting ++ it ∷ []; asked = with_open call old.askers; given = g }) (sym given) ∙ sym (ap record_of q.waits) in
        quiet here laws world old own (world_answered call.caller new world) (event.Submit call front None) new
        (subst (λ (h : HubState). DoesUnderHub here world (record_of old) (event.Submit call front None) [] (behind h)) hub
        (DoesUnderHub.queues it front snap (sym same) lawful free.closed apart (subst (λ (h : List Call). IsNew h call) (sym hist) free.new) within' made' number q.slot))
        refl (ap (λ (h : Hub (Stopping D)). h.log) q.waits) (ap (λ (h : Hub (Stopping D)). h.down) q.waits ∙ own.up) (ap (λ (h : Hub (Stopping D)). h.decls) q.waits)
        (same_met old new (ap (λ (h : Hub (Stopping D)). h.decls) q.waits) (ap (λ (h : Hub (Stopping D)). h.mends) q.waits) own.met) sound

    pub submits_now : (plan : Result Plan Answer) (result : Submitted)
        → (plan ≡ Err answer.Memory) ⊎ (plan ≡ planned old.decls (state_of old.decls (take front old.state.history)) front call)
        → Submits old call front plan result new → GoesOnUnder here world (world_answered call.caller new world) (event.Submit call front (said_at_once result)) new
    submits_now plan (submitted.Answered said) of so = ⊎_elim
        (λ down. absurd (false≢true (sym own.up ∙ down.0)))
        (λ up. answered_now said up.1 up.2 (keeps old new world.journal.synced call front plan (submitted.Answered said) own.sound lawful_there within of so)) so
    submits_now plan (submitted.Queued t) of so =
        let sound = keeps old new world.journal.synced call front plan (submitted.Queued t) own.sound lawful_there within of so in
        let is = so.2.1 in
        ⊎_elim
        (λ memory. absurd (let no : Ok so.2.0 ≡ Err answer.Memory = sym is ∙ memory in cc))
        (λ made. queued_now so.2.0 t (sym made ∙ is) so.1 so.2.2 sound) of

  pub submit_is_event_so : SubmitKeeps (inside here.disk) → SubmitIsEvent here
  submit_is_event_so keeps world old new call front plan result own snap lawful within of so = submits_now keeps world old new call front own snap lawful within plan result of so
