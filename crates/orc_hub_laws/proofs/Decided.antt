-- A decision is an event.
use Rattle.std.specs.Prelude.{◌≡◌, ◌⊎◌, ℕ, ◌+◌, Bool, true, false, Option, None, Some, List, [], ◌∷◌, ◌++◌, length, slice_get}
use Rattle.std.specs.List.{filter}
use Rattle.std.proofs.Common.{inl, inr, refl, sym, ap, subst, ◌∙◌, ⊎_elim}
use Rattle.std.proofs.lemmas.Bool.{false≢true}
use Rattle.std.proofs.lemmas.Option.{none-some, same_Some}
use Rattle.orc_call.specs.declared.answer.Answer.{Answer}
use Rattle.orc_call.specs.declared.answer.Answer.TheVariants as answer
use Rattle.orc_call.specs.declared.call.Call.{Call}
use Rattle.orc_datastore.specs.Actions.{data_after}
use Rattle.orc_datastore.specs.Legal.{state_of}
use Rattle.orc_datastore.specs.Next.{invalid}
use Rattle.orc_datastore.specs.States.{Datastore}
use Rattle.orc_decls.specs.declared.declarations.Decls.{Decls}
use Rattle.orc_disk.specs.Stops.{Stopping, inside}
use Rattle.orc_journal.specs.declared.entry.Entry.TheVariants as entry
use Rattle.orc_hub.specs.Decisions.{CommitsOne, Decides, DecidesOn, GivesUp, GivesUpFor, WritesAbort, WritesDecide, WritesSettled, asker_name}
use Rattle.orc_hub.specs.Hubs.{record_of, with_record}
use Rattle.orc_hub.specs.Keeps.{IsHub}
use Rattle.orc_hub.specs.Laws.{AbortKeeps, CommitKeeps, SettleKeeps}
use Rattle.orc_hub.specs.declared.hub.Decided.{Decided}
use Rattle.orc_hub.specs.declared.hub.Decided.TheVariants as decided
use Rattle.orc_hub.specs.declared.hub.Hub.{Hub}
use Rattle.orc_rules.specs.Due.{is_decision_due, least_due}
use Rattle.orc_rules.specs.Events.{DoesUnderHub, IsGivenUpFor}
use Rattle.orc_rules.specs.Hubs.{Hub as HubState, answered, hub_told}
use Rattle.orc_rules.specs.Journals.{history_read}
use Rattle.orc_rules.specs.Transactions.{is_other, is_settling}
use Rattle.orc_rules.specs.Verdicts.{verdict}
use Rattle.orc_rules.specs.Worlds.{Setting, World, with_snapshot}
use Rattle.orc_rules.specs.declared.event.Event.TheVariants as event
use Rattle.orc_rules.specs.declared.transaction.Phase.TheVariants as phase
use Rattle.orc_rules.specs.declared.transaction.Transaction.{Transaction}
use Rattle.orc_hub_laws.specs.Turns.{ComesToDecide, DecideIsEvent, world_answered, world_with}
use Rattle.orc_hub_laws.specs.Under.{GoesOnUnder, IsWorldOf}
use Rattle.orc_hub_laws.proofs.Going.{DiskLaws, broken, history_is, roomless, same_met, written}

module _ {D : Type 0} (here : Setting D) (laws : DiskLaws here.disk) (commit : CommitKeeps (inside here.disk)) (abort : AbortKeeps (inside here.disk)) (settle : SettleKeeps (inside here.disk)) where
  module _ (world : World D) (old new : Hub (Stopping D)) (own : IsWorldOf here world old) (place : ℕ) (it : Transaction)
      (there : slice_get old.active place ≡ Some it) (least : least_due old.duties old.active ≡ Some it.t) where
    hist : history_read world.journal ≡ old.state.history
    hist = history_is here laws world old own

    -- the datastore is the one that the world's history makes
    data_is : old.state.datastore ≡ state_of here.decls (history_read world.journal)
    data_is =
        own.sound.state.datastore ∙ ap (λ (d : Decls). state_of d old.state.history) own.decls
        ∙ ap (state_of here.decls) (sym hist)

    invalid_here : (o : Option Answer) → invalid old.decls.data_schema (data_after it.call.actions old.state.datastore.data) ≡ o
        → invalid here.decls.data_schema (data_after it.call.actions (state_of here.decls (history_read world.journal)).data) ≡ o
    invalid_here o is =
        subst (λ (s : Datastore). invalid here.decls.data_schema (data_after it.call.actions s.data) ≡ o) data_is
        (subst (λ (d : Decls). invalid d.data_schema (data_after it.call.actions old.state.datastore.data) ≡ o) own.decls is)

    -- settled

    settles : is_settling it.phase ≡ true → DoesUnderHub here world (record_of old) (event.Settle it.t) (entry.Settled it.t ∷ [])
        (record world { hub = Some (record (record_of old) { active = filter (is_other it.t) old.active }) })
    settles is = DoesUnderHub.settles place it there least is

    settled_now : is_settling it.phase ≡ true → (result : Decided) → WritesSettled (inside here.disk) old it.t result new → ComesToDecide here world it.t result new
    settled_now is (decided.Settled given) w =
        let hub : ◌≡◌ {A = Option HubState} (Some (record (record_of old) { active = filter (is_other it.t) old.active })) (Some (record_of new)) =
        ap (λ (h : Hub (Stopping D)). Some (record_of h)) (sym w.2) in
        let up : new.down ≡ false = ap (λ (h : Hub (Stopping D)). h.down) w.2 ∙ own.up in (
          w.0,
          written here laws world old own (entry.Settled it.t) (world_with new world) (event.Settle it.t)
              (subst (λ (o : Option HubState). DoesUnderHub here world (record_of old) (event.Settle it.t) (entry.Settled it.t ∷ []) (record world { hub = o })) hub (settles is))
              new refl w.1.appended w.1.leaves up (ap (λ (h : Hub (Stopping D)). h.decls) w.2)
              (same_met old new (ap (λ (h : Hub (Stopping D)). h.decls) w.2) (ap (λ (h : Hub (Stopping D)). h.mends) w.2) own.met)
              (settle old new world.journal.synced place it (decided.Settled given) own.sound there is w up),
        )
    settled_now is decided.Down w =
        broken here laws world old own (entry.Settled it.t) _ (event.Settle it.t) (settles is) new w.failed w.fits w.leaves w.down
    settled_now is (decided.Full len) w = (
      event.Settle it.t,
      inr refl,
      roomless here laws world old own (entry.Settled it.t) _ (event.Settle it.t) (settles is) new len w.length w.too_long w.journal w.down,
    )
    settled_now is decided.Nothing w = absurd w
    settled_now is (decided.Answered caller number given) w = absurd w

    -- decided

    module _ (due : is_decision_due old.duties it ≡ true) where
      -- the world in which the transaction is committed, and its caller has this answer
      abbrev behind_commit : Answer → World D
      behind_commit said = record world {
        snapshots = with_snapshot world.snapshots it.call.caller None;
        hub = Some (answered it.asker said (hub_told it.t phase.Decided true (record_of old)));
      }

      -- the world in which the transaction is given up, and its caller has this answer
      abbrev behind_abort : Answer → World D
      behind_abort said = record world {
        snapshots = with_snapshot world.snapshots it.call.caller None;
        hub = Some (answered it.asker said (hub_told it.t phase.Aborted false (record_of old)));
      }

      committed_now : (result : Decided) → CommitsOne (inside here.disk) old it result new → ComesToDecide here world it.t result new
      committed_now result c = on result c.written (λ up. commit old new world.journal.synced place it result own.sound there due c up)
        where
          number : Answer
          number = answer.Committed (length (history_read world.journal) + 1)

          commits : DoesUnderHub here world (record_of old) (event.Decide it.t number) (entry.Decide it.t ∷ []) (behind_commit number)
          commits = DoesUnderHub.commits place it there least due c.prepared (invalid_here None c.committed.valid)

          on : (r : Decided) → WritesDecide (inside here.disk) (record old { state = c.behind }) it.t it.asker (asker_name it) (length old.state.history + 1) r new
              → (new.down ≡ false → IsHub (inside here.disk) new (world.journal.synced ++ entry.Decide it.t ∷ [])) → ComesToDecide here world it.t r new
          on (decided.Answered caller n given) w keeps = ⊎_elim
              (λ done.
              let said : number ≡ given = ap (λ (h : List Call). answer.Committed (length h + 1)) hist ∙ sym done.0 in
              let named : it.call.caller ≡ caller = ap (λ (p : List ℕ × ℕ). p.0) (sym w.0) in
              let hub : answered it.asker given (hub_told it.t phase.Decided true (record_of old)) ≡ record_of new = sym (ap record_of done.2) in
              let up : new.down ≡ false = ap (λ (h : Hub (Stopping D)). h.down) done.2 ∙ own.up in
              inl (written here laws world old own (entry.Decide it.t) (world_answered caller new world) (event.Decide it.t given)
              (subst (λ (c' : List ℕ). DoesUnderHub here world (record_of old) (event.Decide it.t given) (entry.Decide it.t ∷ []) (world_answered c' new world)) named
              (subst (λ (h : HubState). DoesUnderHub here world (record_of old) (event.Decide it.t given) (entry.Decide it.t ∷ [])
              (record world { snapshots = with_snapshot world.snapshots it.call.caller None; hub = Some h })) hub
              (subst (λ (a : Answer). DoesUnderHub here world (record_of old) (event.Decide it.t a) (entry.Decide it.t ∷ []) (behind_commit a)) said commits)))
              new refl done.1.appended done.1.leaves up (ap (λ (h : Hub (Stopping D)). h.decls) done.2)
              (same_met old new (ap (λ (h : Hub (Stopping D)). h.decls) done.2) (ap (λ (h : Hub (Stopping D)). h.mends) done.2) own.met) (keeps up)))
              (λ failed. inr (
                failed.0,
                (
                  number,
                  broken here laws world old own (entry.Decide it.t) (behind_commit number) (event.Decide it.t number) commits new
                      failed.1.failed failed.1.fits failed.1.leaves failed.1.down,
                ),
              )) w.1
          on (decided.Full len) w keeps = (
            event.Decide it.t number,
            inl (number, refl),
            roomless here laws world old own (entry.Decide it.t) (behind_commit number) (event.Decide it.t number) commits new len w.length w.too_long w.journal w.down,
          )
          on decided.Nothing w keeps = absurd w
          on (decided.Settled t) w keeps = absurd w
          on decided.Down w keeps = absurd w

      cause_here : (said : Answer) → GivesUpFor (inside here.disk) old it said → IsGivenUpFor here world (record_of old) it said
      cause_here said cause = ⊎_elim
          (λ told. inr (inl told))
          (λ prepared. ⊎_elim (λ memory. inl memory) (λ bad. inr (inr (prepared.0, invalid_here (Some said) bad))) prepared.1) cause

      given_up_now : (result : Decided) → GivesUp (inside here.disk) old it result new → ComesToDecide here world it.t result new
      given_up_now result c = on result c.written (λ up. abort old new world.journal.synced place it result own.sound there due c up)
        where
          aborts : DoesUnderHub here world (record_of old) (event.Decide it.t c.given) (entry.Abort it.t ∷ []) (behind_abort c.given)
          aborts = DoesUnderHub.aborts place it c.given there least due (cause_here c.given c.cause)

          on : (r : Decided) → WritesAbort (inside here.disk) old it.t it.asker (asker_name it) c.given r new
              → (new.down ≡ false → IsHub (inside here.disk) new (world.journal.synced ++ entry.Abort it.t ∷ [])) → ComesToDecide here world it.t r new
          on (decided.Answered caller n given) w keeps = ⊎_elim
              (λ done.
              let named : it.call.caller ≡ caller = ap (λ (p : List ℕ × ℕ). p.0) (sym w.0) in
              let hub : answered it.asker given (hub_told it.t phase.Aborted false (record_of old)) ≡ record_of new = sym (ap record_of done.2) in
              let up : new.down ≡ false = ap (λ (h : Hub (Stopping D)). h.down) done.2 ∙ own.up in
              inl (written here laws world old own (entry.Abort it.t) (world_answered caller new world) (event.Decide it.t given)
              (subst (λ (c' : List ℕ). DoesUnderHub here world (record_of old) (event.Decide it.t given) (entry.Abort it.t ∷ []) (world_answered c' new world)) named
              (subst (λ (h : HubState). DoesUnderHub here world (record_of old) (event.Decide it.t given) (entry.Abort it.t ∷ [])
              (record world { snapshots = with_snapshot world.snapshots it.call.caller None; hub = Some h })) hub
              (subst (λ (a : Answer). DoesUnderHub here world (record_of old) (event.Decide it.t a) (entry.Abort it.t ∷ []) (behind_abort a)) (sym done.0) aborts)))
              new refl done.1.appended done.1.leaves up (ap (λ (h : Hub (Stopping D)). h.decls) done.2)
              (same_met old new (ap (λ (h : Hub (Stopping D)). h.decls) done.2) (ap (λ (h : Hub (Stopping D)). h.mends) done.2) own.met) (keeps up)))
              (λ failed. inr (
                failed.0,
                (
                  c.given,
                  broken here laws world old own (entry.Abort it.t) (behind_abort c.given) (event.Decide it.t c.given) aborts new
                      failed.1.failed failed.1.fits failed.1.leaves failed.1.down,
                ),
              )) w.1
          on (decided.Full len) w keeps = (
            event.Decide it.t c.given,
            inl (c.given, refl),
            roomless here laws world old own (entry.Abort it.t) (behind_abort c.given) (event.Decide it.t c.given) aborts new len w.length w.too_long w.journal w.down,
          )
          on decided.Nothing w keeps = absurd w
          on (decided.Settled t) w keeps = absurd w
          on decided.Down w keeps = absurd w

    decides_on : (result : Decided) → DecidesOn (inside here.disk) old it result new → ComesToDecide here world it.t result new
    decides_on result so = ⊎_elim
        (λ s. settled_now s.0 result s.1)
        (λ d. ⊎_elim (committed_now d.0 result) (given_up_now d.0 result) d.1) so

  pub decide_is_event_so : DecideIsEvent here
  decide_is_event_so world old new t result own due so = ⊎_elim
      (λ down. absurd (false≢true (sym own.up ∙ down.0)))
      (λ rest. ⊎_elim
      (λ none. absurd (none-some t (sym none.1 ∙ due)))
      (λ one.
      let it = one.1.1 in
      let number : it.t ≡ t = same_Some it.t t (sym one.1.3 ∙ due) in
      subst (λ (n : ℕ). ComesToDecide here world n result new) number (decides_on world old new own one.1.0 it one.1.2 one.1.3 result one.1.4)) rest) so
