-- An admission is an event.
use Rattle.std.specs.Prelude.{◌≡◌, ◌⊎◌, ℕ, ◌<◌, Bool, true, false, Option, None, Some, List, [], ◌∷◌, ◌++◌, Result, Err, length, slice_get}
use Rattle.std.proofs.Common.{arith, inl, inr, refl, sym, ap, subst, ◌∙◌, ⊎_elim}
use Rattle.std.proofs.lemmas.Bool.{cases_lt, false≢true}
use Rattle.std.proofs.lemmas.Option.{same_Some}
use Rattle.orc_call.specs.declared.answer.Answer.{Answer}
use Rattle.orc_call.specs.declared.answer.Answer.TheVariants as answer
use Rattle.orc_call.specs.declared.call.Call.{Call}
use Rattle.orc_decls.specs.declared.declarations.Decls.{Decls}
use Rattle.orc_disk.specs.Stops.{Stopping, inside}
use Rattle.orc_hub.specs.Admits.{Admits, AdmitsOne, Begins, IsNotAdmitted, NoneFits, TurnsAway, WritesIntent, row_by, waiting_name}
use Rattle.orc_hub.specs.Hubs.{record_of, with_record}
use Rattle.orc_hub.specs.Laws.{BeginKeeps, TurnAwayKeeps}
use Rattle.orc_hub.specs.declared.hub.Admit.{Admit}
use Rattle.orc_hub.specs.declared.hub.Admit.TheVariants as admit
use Rattle.orc_hub.specs.declared.hub.Hub.{Hub}
use Rattle.orc_rules.specs.Admissions.{IsTurnedAway, Passes, intent_entry, started, transaction_begun, without}
use Rattle.orc_rules.specs.Events.{DoesUnderHub}
use Rattle.orc_rules.specs.Fits.{IsFirstFit, first_stale}
use Rattle.orc_rules.specs.Hubs.{Hub as HubState, answered}
use Rattle.orc_rules.specs.Journals.{history_read}
use Rattle.orc_rules.specs.Worlds.{Setting, World, with_snapshot}
use Rattle.orc_rules.specs.declared.event.Event.TheVariants as event
use Rattle.orc_rules.specs.declared.transaction.Transaction.{Transaction}
use Rattle.orc_rules.specs.declared.transaction.Waiting.{Waiting}
use Rattle.orc_tree.specs.declared.change.ChangeSet.{ChangeSet}
use Rattle.orc_hub_laws.specs.Turns.{AdmitIsEvent, ComesToAdmit, world_answered, world_with}
use Rattle.orc_hub_laws.specs.Under.{GoesOnUnder, IsWorldOf}
use Rattle.orc_hub_laws.proofs.Going.{DiskLaws, broken, history_is, quiet, roomless, same_met, written}

-- one place is the first at which a call fits
pub one_first : (active : List Transaction) (waiting : List Waiting) (place other : ℕ) → IsFirstFit active waiting place → IsFirstFit active waiting other → place ≡ other
one_first active waiting place other first second = ⊎_elim
    (λ less. absurd (second.first place first.it less first.fits))
    (λ not_less. ⊎_elim (λ less. absurd (first.first other second.it less second.fits))
    (λ not_more. let same : place ≡ other = omega (arith, not_less, not_more) in same) (cases_lt other place)) (cases_lt place other)

module _ {D : Type 0} (here : Setting D) (laws : DiskLaws here.disk) (turn_away : TurnAwayKeeps (inside here.disk)) (begin : BeginKeeps (inside here.disk)) where
  module _ (world : World D) (old new : Hub (Stopping D)) (own : IsWorldOf here world old) (mended : old.mends ≡ None) (place : ℕ) (it : Waiting)
      (there : slice_get old.waiting place ≡ Some it) (first : IsFirstFit old.active old.waiting place) where
    -- the hub that took the call out of the queue
    abbrev less : Hub (Stopping D)
    less = record old { waiting = without place old.waiting }

    hist : history_read world.journal ≡ old.state.history
    hist = history_is here laws world old own

    cause_here : (said : Answer) → IsTurnedAway old.decls old.state.history (record_of less) it said → IsTurnedAway here.decls (history_read world.journal) (record_of old) it said
    cause_here said cause =
        subst (λ (d : Decls). IsTurnedAway d (history_read world.journal) (record_of old) it said) own.decls
        (subst (λ (h : List Call). IsTurnedAway old.decls h (record_of old) it said) (sym hist) cause)

    turned_now : (caller : List ℕ) (number : ℕ) (said : Answer) → (caller, number) ≡ waiting_name it → IsTurnedAway old.decls old.state.history (record_of less) it said
        → new ≡ with_record less (answered it.asker said (record_of less)) → ComesToAdmit here world it (admit.Answered caller number said) new
    turned_now caller number said name cause is =
        let named : it.call.caller ≡ caller = ap (λ (p : List ℕ × ℕ). p.0) (sym name) in
        let hub : answered it.asker said (record_of less) ≡ record_of new = sym (ap record_of is) in (
          name,
          inl (quiet here laws world old own (world_answered caller new world) (event.Admit it.t (Some said)) new
              (subst (λ (c : List ℕ). DoesUnderHub here world (record_of old) (event.Admit it.t (Some said)) [] (world_answered c new world)) named
              (subst (λ (h : HubState). DoesUnderHub here world (record_of old) (event.Admit it.t (Some said)) []
              (record world { snapshots = with_snapshot world.snapshots it.call.caller None; hub = Some h })) hub
              (DoesUnderHub.turns_away place it said there first mended (cause_here said cause))))
              refl (ap (λ (h : Hub (Stopping D)). h.log) is) (ap (λ (h : Hub (Stopping D)). h.down) is ∙ own.up) (ap (λ (h : Hub (Stopping D)). h.decls) is)
              (same_met old new (ap (λ (h : Hub (Stopping D)). h.decls) is) (ap (λ (h : Hub (Stopping D)). h.mends) is) own.met)
              (turn_away old new world.journal.synced place it said (admit.Answered caller number said) own.sound there (name, refl, is))),
        )

    not_admitted : (result : Admit) → IsNotAdmitted (inside here.disk) less it result new → ComesToAdmit here world it result new
    not_admitted (admit.Answered caller number said) na =
        turned_now caller number said na.turned.0 (subst (IsTurnedAway old.decls old.state.history (record_of less) it) (sym na.turned.1) na.cause) na.turned.2
    not_admitted (admit.Admitted t) na = absurd na.turned
    not_admitted (admit.Full len) na = absurd na.turned
    not_admitted admit.Nothing na = absurd na.turned

    module _ (sets : List (ℕ × ChangeSet)) (passes : Passes old.decls old.state.history it.call it.plan sets) (known : first_stale it.plan.held.devices old.stale ≡ None) where
      -- the world in which it is under way, begun after such a history
      abbrev begun : List Call → World D
      begun history = record world {
        hub = Some (record (record_of old) {
          waiting = without place old.waiting;
          active = old.active ++ transaction_begun (length history) it ∷ [];
          duties = started it.t sets old.duties;
        });
      }

      passes_here : Passes here.decls (history_read world.journal) it.call it.plan sets
      passes_here =
          subst (λ (d : Decls). Passes d (history_read world.journal) it.call it.plan sets) own.decls
          (subst (λ (h : List Call). Passes old.decls h it.call it.plan sets) (sym hist) passes)

      does : DoesUnderHub here world (record_of old) (event.Admit it.t None) (intent_entry it ∷ []) (begun (history_read world.journal))
      does = DoesUnderHub.admits place it sets there first mended passes_here known

      begins_now : (result : Admit) → WritesIntent (inside here.disk) less it sets result new → ComesToAdmit here world it result new
      begins_now (admit.Admitted t) w =
          let hub : (begun old.state.history).hub ≡ Some (record_of new) = ap (λ (h : Hub (Stopping D)). Some (record_of h)) (sym w.2) in
          let up : new.down ≡ false = ap (λ (h : Hub (Stopping D)). h.down) w.2 ∙ own.up in (
            w.0,
            written here laws world old own (intent_entry it) (world_with new world) (event.Admit it.t None)
                (subst (λ (o : Option HubState). DoesUnderHub here world (record_of old) (event.Admit it.t None) (intent_entry it ∷ []) (record world { hub = o })) hub
                (subst (λ (h : List Call). DoesUnderHub here world (record_of old) (event.Admit it.t None) (intent_entry it ∷ []) (begun h)) hist does))
                new refl w.1.appended w.1.leaves up (ap (λ (h : Hub (Stopping D)). h.decls) w.2)
                (same_met old new (ap (λ (h : Hub (Stopping D)). h.decls) w.2) (ap (λ (h : Hub (Stopping D)). h.mends) w.2) own.met)
                (begin old new world.journal.synced place it sets (admit.Admitted t) own.sound mended there first passes w up),
          )
      begins_now (admit.Answered caller number said) w = ⊎_elim
          (λ memory. turned_now caller number said w.0 (inl memory.0) memory.1)
          (λ failed. (
            w.0,
            inr (
              failed.0,
              broken here laws world old own (intent_entry it) (begun (history_read world.journal)) (event.Admit it.t None) does new
                  failed.1.failed failed.1.fits failed.1.leaves failed.1.down,
            ),
          )) w.1
      begins_now (admit.Full len) w =
          roomless here laws world old own (intent_entry it) (begun (history_read world.journal)) (event.Admit it.t None) does new len w.length w.too_long w.journal w.down
      begins_now admit.Nothing w = absurd w

    admits_one : (result : Admit) → AdmitsOne (inside here.disk) less it result new → ComesToAdmit here world it result new
    admits_one result one = ⊎_elim (not_admitted result) (λ b. begins_now b.sets b.passes b.known result b.written) one

  pub admit_is_event_so : AdmitIsEvent here
  admit_is_event_so world old new place it result own mended there first so = ⊎_elim
      (λ none. absurd (none.0 place first.it first.fits))
      (λ one.
      let same : one.0 ≡ place = one_first old.active old.waiting one.0 place one.3 first in
      let one_it : one.1 ≡ it = same_Some one.1 it (sym one.2 ∙ ap (slice_get old.waiting) same ∙ there) in
      let does = subst (λ (x : Waiting). AdmitsOne (inside here.disk) (record old { waiting = without place old.waiting }) x result new) one_it
      (subst (λ (p : ℕ). AdmitsOne (inside here.disk) (record old { waiting = without p old.waiting }) one.1 result new) same one.4) in
      admits_one world old new own mended place it there first result does) so
