-- Calls for one turn: room for it, that none may come, and lines that are one turn or a row of one kind.
use Rattle.std.proofs.Common.{[], ◌≡◌, ◌⊎◌, inl, inr, ℕ, Bool, true, false, cond, Option, Some, None, List, ◌∷◌, ◌++◌, refl, sym, ap, subst, ◌∙◌}
use Rattle.std.specs.Prelude.{Result, Ok, Err, MatchOption, MatchResult, if◌then◌else◌, is_some}
use Rattle.std.proofs.lemmas.Bool.{false≢true}
use Rattle.std.proofs.lemmas.Option.{none-some, same_Some}
use Rattle.orc_decls.specs.declared.declarations.Decls.{Decls}
use Rattle.orc_disk.specs.Meanings.{DiskMeaning}
use Rattle.orc_disk.specs.Stops.{Stopping, inside}
use Rattle.orc_hub.specs.Admits.{IsNextToAdmit, NoneFits}
use Rattle.orc_hub.specs.Hubs.{record_of}
use Rattle.orc_hub.specs.Keeps.{IsHub, IsSoundHub}
use Rattle.orc_hub.specs.declared.hub.Hub.{Hub}
use Rattle.orc_hub_laws.specs.Turns.{IsAdmission, IsDecision, NoAdmission, NoDecision}
use Rattle.orc_hub_laws.specs.Under.{InEach, IsWorldOf}
use Rattle.orc_journal.specs.declared.entry.Entry.{Entry}
use Rattle.orc_rules.specs.Acceptance.{declared_kind}
use Rattle.orc_rules.specs.Due.{least_due}
use Rattle.orc_rules.specs.Events.{DoesAnyway, DoesUnderHub}
use Rattle.orc_rules.specs.Hubs.{Hub as HubState}
use Rattle.orc_rules.specs.Worlds.{Setting, World as Seen}
use Rattle.orc_rules.specs.declared.event.Event.{Event}
use Rattle.orc_rules.specs.declared.event.Event.TheVariants as event
use Rattle.orc_runs.specs.Scripts.{IsOf, NoneOf, Part, Part as part}
use Rattle.orc_scene.specs.Effects.{hub_in}
use Rattle.orc_scene.specs.Courses.{DoesTurn, HasEvents, InEachView, MayEndTurn, StaysSame, TurnOrEnd, TurnOrNone, events_in}
use Rattle.orc_scene.specs.Stands.{IsBetweenLines, IsPlaceSeenAs, IsSeenAs, IsSoundScene, IsNotReconciling, run_setting}
use Rattle.orc_scene.specs.declared.stop.WorldStop.{WorldStop}
use Rattle.orc_scene.specs.declared.stop.WorldStop.TheVariants as stop
use Rattle.orc_scene.specs.declared.scene.Place.{Place}
use Rattle.orc_scene.specs.declared.scene.Place.TheVariants.{Up, Down, Ended, Moved}
use Rattle.orc_scene.specs.declared.scene.Scene.{Scene}
use Rattle.orc_scene.proofs.HubTurns.{under_hub}
use Rattle.orc_scene.proofs.Joining.{at_limit}
use Rattle.orc_scene.proofs.Lasted.{done, ended, stopped, went}
use Rattle.orc_scene.proofs.Seeing.{seen_same}
use Rattle.orc_scene.proofs.Stepping.{ends_roomless, sound_in, through_from}

-- the hub of a sound world

module _ {D : Type 0} (disk : DiskMeaning D) (old : Scene D) (hub : Hub (Stopping D)) (sound : IsSoundScene disk old) (up : old.place ≡ Up hub) where
  own_there : IsWorldOf (run_setting disk sound.0 old.limit sound.1) sound.2 hub
  own_there = under_hub (run_setting disk sound.0 old.limit sound.1) sound.2 old hub sound.3 up

  pub sound_there : IsSoundHub (inside disk) hub
  sound_there = λ is_up. (sound.2.journal.synced, own_there.sound)

  pub entries_there : (entries : List Entry) × IsHub (inside disk) hub entries
  entries_there = (sound.2.journal.synced, own_there.sound)

  pub up_there : hub.down ≡ false
  up_there = own_there.up

pub so_there : {D : Type 0} (P : Hub (Stopping D) → Type 0) (place : Place D) (hub : Hub (Stopping D)) → place ≡ Up hub → MatchOption (hub_in place) ⊥ P → P hub
so_there {D = D} P place hub up all = subst (λ (p : Place D). MatchOption (hub_in p) ⊥ P) up all

pub there_so : {D : Type 0} (P : Hub (Stopping D) → Type 0) (place : Place D) (hub : Hub (Stopping D)) → place ≡ Up hub → P hub → MatchOption (hub_in place) ⊥ P
there_so {D = D} P place hub up is = subst (λ (p : Place D). MatchOption (hub_in p) ⊥ P) (sym up) is

-- room

module _ {D : Type 0} (here : Setting D) (seen : Seen D) (old middle new : Scene D) (before after : List ℕ) (one : Part) (same : HasEvents old middle old.events.items.items) where
  turn_from : DoesTurn here seen middle new before after one → DoesTurn here seen old new before after one
  turn_from does = record {
    turn = does.turn;
    first = does.first;
    is_of = does.is_of;
    called = does.called;
    comes = does.comes;
    through = through_from here seen old middle new same (does.turn ∷ []) does.turn.behind does.through;
    prints = does.prints;
  }

  end_from : (why : WorldStop) → MayEndTurn here seen middle new before after one why → MayEndTurn here seen old new before after one why
  end_from why (inl ends) = inl (record {
    turn = ends.turn;
    first = ends.first;
    is_of = ends.is_of;
    called = ends.called;
    comes = ends.comes;
    because = ends.because;
    ended = record {
      disk = ends.ended.disk;
      events = ends.ended.events ∙ ap (λ (es : List Event). es ++ events_in (ends.turn ∷ [])) same.events_are;
      at_last = ends.ended.at_last;
    };
    prints = ends.prints;
  })
  end_from why (inr ends) = inr (record { memory = ends.memory; disk = ends.disk; events = ends.events ∙ same.events_are; printed = ends.printed })

module _ {D : Type 0} (disk : DiskMeaning D) (one : Part) (old middle : Scene D) (same : HasEvents old middle old.events.items.items) where
  -- what came after room was made came in the whole
  pub turn_behind : (new : Scene D) (before after : List ℕ) (result : Result (Unit {0}) WorldStop) → TurnOrEnd disk one middle result new before after → TurnOrEnd disk one old result new before after
  turn_behind new before after result each = λ decls granted seen is.
      by result decls granted seen (λ IsSo seen_each. at_limit disk middle IsSo old.limit decls granted seen seen_each same.limit
      (seen_same (run_setting disk decls old.limit granted) seen old middle same.limit same.place same.links same.snapshots is)) each
    where
      by : (result : Result (Unit {0}) WorldStop) (decls : Decls) (granted : Bool) (seen : Seen D)
          → ((IsSo : Setting D → Seen D → Type 0) → InEachView disk middle IsSo → IsSo (run_setting disk decls old.limit granted) seen)
          → TurnOrEnd disk one middle result new before after
          → MatchResult result (λ value. DoesTurn (run_setting disk decls old.limit granted) seen old new before after one)
          (λ why. MayEndTurn (run_setting disk decls old.limit granted) seen old new before after one why)
      by (Ok value) decls granted seen there each =
          turn_from (run_setting disk decls old.limit granted) seen old middle new before after one same (there (λ here seen. DoesTurn here seen middle new before after one) each)
      by (Err why) decls granted seen there each =
          end_from (run_setting disk decls old.limit granted) seen old middle new before after one same why (there (λ here seen. MayEndTurn here seen middle new before after one why) each)

  -- there was no room
  pub turn_roomless : (before : List ℕ) (why : WorldStop) → why ≡ stop.Memory → TurnOrEnd disk one old (ended why) middle before before
  turn_roomless before why memory = λ decls granted seen is. inr (ends_roomless (run_setting disk decls old.limit granted) seen old middle middle same why before memory is)

  -- the world is between two lines still
  pub between_room : IsBetweenLines disk old → IsBetweenLines disk middle
  between_room (sound, unmended) = (sound_in disk old middle same sound, subst (λ (p : Place D). IsNotReconciling p) (sym same.place) unmended)

-- that none may come

of_admission : (one : Event) → IsOf part.Admission one → IsAdmission one
of_admission (event.Admit t given) of = tt
of_admission (event.Begin caller front) of = absurd of
of_admission (event.Submit call front given) of = absurd of
of_admission (event.Perform device op mark count) of = absurd of
of_admission (event.Unsent device) of = absurd of
of_admission (event.Report device op mark count) of = absurd of
of_admission (event.Decide t given) of = absurd of
of_admission (event.Settle t) of = absurd of
of_admission (event.Tick seconds) of = absurd of
of_admission (event.Restart device) of = absurd of
of_admission event.Stop of = absurd of
of_admission event.Recover of = absurd of
of_admission (event.Reconcile end) of = absurd of

of_decision : (one : Event) → IsOf part.Decisions one → IsDecision one
of_decision (event.Decide t given) of = tt
of_decision (event.Settle t) of = tt
of_decision (event.Begin caller front) of = absurd of
of_decision (event.Submit call front given) of = absurd of
of_decision (event.Admit t given) of = absurd of
of_decision (event.Perform device op mark count) of = absurd of
of_decision (event.Unsent device) of = absurd of
of_decision (event.Report device op mark count) of = absurd of
of_decision (event.Tick seconds) of = absurd of
of_decision (event.Restart device) of = absurd of
of_decision event.Stop of = absurd of
of_decision event.Recover of = absurd of
of_decision (event.Reconcile end) of = absurd of

none_anyway : {D : Type 0} (seen : Seen D) (one : Event) (next : Seen D) → IsAdmission one ⊎ IsDecision one → DoesAnyway seen one next → ⊥
none_anyway seen one next (inl of) (DoesAnyway.ticks seconds) = of
none_anyway seen one next (inl of) (DoesAnyway.restarts device) = of
none_anyway seen one next (inl of) (DoesAnyway.answers_down call front down) = of
none_anyway seen one next (inr of) (DoesAnyway.ticks seconds) = of
none_anyway seen one next (inr of) (DoesAnyway.restarts device) = of
none_anyway seen one next (inr of) (DoesAnyway.answers_down call front down) = of

not_recovery : (one : Event) → IsAdmission one ⊎ IsDecision one → one ≡ event.Recover → ⊥
not_recovery one (inl of) is = subst (λ (e : Event). IsAdmission e) is of
not_recovery one (inr of) is = subst (λ (e : Event). IsDecision e) is of

module _ {D : Type 0} (here : Setting D) (seen : Seen D) where
  -- none is admitted where no hub is up, or none fits
  none_admits : NoAdmission here → (place : Place D) → IsPlaceSeenAs here seen place → (found : Option ℕ) → found ≡ None
      → MatchOption (hub_in place) (found ≡ None) (λ hub. MatchOption found (NoneFits hub.active hub.waiting) (IsNextToAdmit hub.active hub.waiting)) → NoneOf here seen part.Admission
  none_admits law place is found none next one of (inr (inl (after, does))) = none_anyway seen one after (inl (of_admission one of)) does
  none_admits law place is found none next one of (inr (inr (recovers, down))) = not_recovery one (inl (of_admission one of)) recovers
  none_admits law (Up hub) is found none next one of (inl (other, row, after, up, does)) =
      let same : record_of hub ≡ other = same_Some (record_of hub) other (sym is.is ∙ up) in
      let nothing : NoneFits hub.active hub.waiting = subst (λ (o : Option ℕ). MatchOption o (NoneFits hub.active hub.waiting) (IsNextToAdmit hub.active hub.waiting)) none next in
      law seen hub one row after nothing (of_admission one of) (subst (λ (h : HubState). DoesUnderHub here seen h one row after) (sym same) does)
  none_admits law (Down disk decls) is found none next one of (inl (other, row, after, up, does)) = none-some other (sym is.0 ∙ up)
  none_admits law (Ended disk) is found none next one of (inl may) = is
  none_admits law Moved is found none next one of (inl may) = is

  -- no transaction is decided where no hub is up, or nothing is due
  none_decides : NoDecision here → (place : Place D) → IsPlaceSeenAs here seen place → (found : Option ℕ) → found ≡ None
      → MatchOption (hub_in place) (found ≡ None) (λ hub. found ≡ (if hub.down then None else least_due hub.duties hub.active)) → NoneOf here seen part.Decisions
  none_decides law place is found none next one of (inr (inl (after, does))) = none_anyway seen one after (inr (of_decision one of)) does
  none_decides law place is found none next one of (inr (inr (recovers, down))) = not_recovery one (inr (of_decision one of)) recovers
  none_decides law (Up hub) is found none next one of (inl (other, row, after, up, does)) =
      let same : record_of hub ≡ other = same_Some (record_of hub) other (sym is.is ∙ up) in
      let nothing : least_due hub.duties hub.active ≡ None = sym (next ∙ ap (λ (b : Bool). cond b None (least_due hub.duties hub.active)) is.up) ∙ none in
      law seen hub one row after nothing (of_decision one of) (subst (λ (h : HubState). DoesUnderHub here seen h one row after) (sym same) does)
  none_decides law (Down disk decls) is found none next one of (inl (other, row, after, up, does)) = none-some other (sym is.0 ∙ up)
  none_decides law (Ended disk) is found none next one of (inl may) = is
  none_decides law Moved is found none next one of (inl may) = is

-- nothing came
stays : {D : Type 0} (here : Setting D) (seen : Seen D) (world : Scene D) (text : List ℕ) → IsSeenAs here seen world → StaysSame here seen world world text text
stays here seen world text is = record { is = is; limit = refl; events = refl; logs = refl; printed = refl }

module _ {D : Type 0} (disk : DiskMeaning D) (world : Scene D) (text : List ℕ) (found : Option ℕ) (none : found ≡ None) where
  pub no_admission_turn : InEach disk NoAdmission
      → MatchOption (hub_in world.place) (found ≡ None) (λ hub. MatchOption found (NoneFits hub.active hub.waiting) (IsNextToAdmit hub.active hub.waiting))
      → TurnOrNone disk part.Admission world (went false) world text text
  no_admission_turn law next = λ decls granted seen is.
      (let here : Setting D = run_setting disk decls world.limit granted in
      inr (refl, none_admits here seen (law decls (declared_kind decls) world.limit granted) world.place is.place found none next, stays here seen world text is))

  pub no_decision_turn : InEach disk NoDecision
      → MatchOption (hub_in world.place) (found ≡ None) (λ hub. found ≡ (if hub.down then None else least_due hub.duties hub.active))
      → TurnOrNone disk part.Decisions world (went false) world text text
  no_decision_turn law next = λ decls granted seen is.
      (let here : Setting D = run_setting disk decls world.limit granted in
      inr (refl, none_decides here seen (law decls (declared_kind decls) world.limit granted) world.place is.place found none next, stays here seen world text is))

-- what is found is under the hub that is up
pub next_admission : {D : Type 0} (place : Place D) (found : Option ℕ) (t : ℕ) → found ≡ Some t
    → MatchOption (hub_in place) (found ≡ None) (λ hub. MatchOption found (NoneFits hub.active hub.waiting) (IsNextToAdmit hub.active hub.waiting))
    → MatchOption (hub_in place) ⊥ (λ hub. IsNextToAdmit hub.active hub.waiting t)
next_admission (Up hub) found t is next = subst (λ (o : Option ℕ). MatchOption o (NoneFits hub.active hub.waiting) (IsNextToAdmit hub.active hub.waiting)) is next
next_admission (Down disk decls) found t is next = none-some t (sym next ∙ is)
next_admission (Ended disk) found t is next = none-some t (sym next ∙ is)
next_admission Moved found t is next = none-some t (sym next ∙ is)

pub next_decision : {D : Type 0} (place : Place D) (found : Option ℕ) (t : ℕ) → found ≡ Some t
    → MatchOption (hub_in place) (found ≡ None) (λ hub. found ≡ (if hub.down then None else least_due hub.duties hub.active))
    → MatchOption (hub_in place) ⊥ (λ hub. least_due hub.duties hub.active ≡ Some t)
next_decision (Up hub) found t is next = by hub.down refl (sym next ∙ is)
  where
    by : (b : Bool) → hub.down ≡ b → (if hub.down then None else least_due hub.duties hub.active) ≡ Some t → least_due hub.duties hub.active ≡ Some t
    by true down given = absurd (none-some t (sym (ap (λ (c : Bool). cond c None (least_due hub.duties hub.active)) down) ∙ given))
    by false down given = sym (ap (λ (c : Bool). cond c None (least_due hub.duties hub.active)) down) ∙ given
next_decision (Down disk decls) found t is next = none-some t (sym next ∙ is)
next_decision (Ended disk) found t is next = none-some t (sym next ∙ is)
next_decision Moved found t is next = none-some t (sym next ∙ is)

-- a turn came, or the run ended with one
pub some_turn : {D : Type 0} (disk : DiskMeaning D) (one : Part) (old new : Scene D) (before after : List ℕ) → TurnOrEnd disk one old (done tt) new before after
    → TurnOrNone disk one old (went true) new before after
some_turn disk one old new before after each = λ decls granted seen is. inl (refl, each decls granted seen is)

pub end_of_turn : {D : Type 0} (disk : DiskMeaning D) (one : Part) (old new : Scene D) (before after : List ℕ) (why : WorldStop) → TurnOrEnd disk one old (ended why) new before after
    → TurnOrNone disk one old (stopped why) new before after
end_of_turn disk one old new before after why each = each

-- where the place is none with a hub
pub none_else : {D : Type 0} (place : Place D) → ((hub : Hub (Stopping D)) → place ≡ Up hub → ⊥) → (E : Type 0) (P : Hub (Stopping D) → Type 0) → E → MatchOption (hub_in place) E P
none_else (Up hub) isnt E P so = absurd (isnt hub refl)
none_else (Down disk decls) isnt E P so = so
none_else (Ended disk) isnt E P so = so
none_else Moved isnt E P so = so

-- it isn't so where a hub is up
pub never_else : {D : Type 0} (place : Place D) → ((hub : Hub (Stopping D)) → place ≡ Up hub → ⊥) → (P : Hub (Stopping D) → Type 0) → MatchOption (hub_in place) ⊥ P → ⊥
never_else (Up hub) isnt P so = isnt hub refl
never_else (Down disk decls) isnt P so = so
never_else (Ended disk) isnt P so = so
never_else Moved isnt P so = so

pub never_up : {D : Type 0} (place : Place D) → ((hub : Hub (Stopping D)) → place ≡ Up hub → ⊥) → is_some (hub_in place) ≡ true → ⊥
never_up (Up hub) isnt up = isnt hub refl
never_up (Down disk decls) isnt up = false≢true up
never_up (Ended disk) isnt up = false≢true up
never_up Moved isnt up = false≢true up
