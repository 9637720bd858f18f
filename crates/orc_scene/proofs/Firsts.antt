-- The calls for snapshots and submissions, whatever the rules see.
use Rattle.std.proofs.Common.{[], ◌≡◌, ◌≤◌, ◌⊎◌, inl, inr, ℕ, Bool, true, false, cond, Option, Some, None, List, ◌∷◌, ◌++◌, All, length, take, refl, sym, ap, subst, ◌∙◌, append-nil}
use Rattle.std.specs.Prelude.{Result, Ok, Err, IfOk, MatchOption, MatchResult, IsTrue, is_some}
use Rattle.std.specs.Cmp.Lexicographic.{bytes_decides}
use Rattle.std.specs.List.{find}
use Rattle.std.specs.Option.{option_map}
use Rattle.std.proofs.lemmas.Bool.{false≢true}
use Rattle.std.proofs.lemmas.List.Elements.{All-head, All-tail}
use Rattle.std.proofs.lemmas.Option.{none-some, same_Some}
use Rattle.orc_call.specs.declared.answer.Answer.{Answer}
use Rattle.orc_call.specs.declared.answer.Answer.TheVariants as answer
use Rattle.orc_call.specs.declared.call.Call.{Call}
use Rattle.orc_datastore.specs.Legal.{state_of}
use Rattle.orc_datastore.specs.Plans.{planned}
use Rattle.orc_datastore.specs.Snapshots.{IsSnapshotUnder, Snapshot}
use Rattle.orc_datastore.specs.declared.plan.Plan.{Plan}
use Rattle.orc_decls.specs.Calls.{is_call}
use Rattle.orc_decls.specs.declared.declarations.Decls.{Decls}
use Rattle.orc_disk.specs.Meanings.{DiskMeaning}
use Rattle.orc_disk.specs.Stops.{Stopping, inside}
use Rattle.orc_hub.specs.Keeps.{KeepsHub}
use Rattle.orc_hub.specs.Submits.{Submits}
use Rattle.orc_hub.specs.declared.hub.Hub.{Hub}
use Rattle.orc_hub.specs.declared.hub.Submitted.{Submitted}
use Rattle.orc_hub.specs.declared.hub.Submitted.TheVariants as submitted
use Rattle.orc_hub_laws.specs.Turns.{SnapshotBegins, SubmitIsEvent, said_at_once, world_answered}
use Rattle.orc_hub_laws.specs.Under.{GoesOnUnder, InEach, IsWorldOf}
use Rattle.orc_print.specs.Printed.{is_answer_among}
use Rattle.orc_rules.specs.Acceptance.{declared_kind}
use Rattle.orc_rules.specs.Journals.{history_read}
use Rattle.orc_rules.specs.Worlds.{Setting, World as Seen}
use Rattle.orc_rules.specs.declared.event.Event.{Event}
use Rattle.orc_rules.specs.declared.event.Event.TheVariants as event
use Rattle.orc_runs.specs.Scripts.{Goes, IsOf, NoneOf, Part, Part as part}
use Rattle.orc_state.specs.Laws.{SnapshotStaysAtFront}
use Rattle.orc_state.specs.States.{IsSnapshotAt, state_at}
use Rattle.orc_scene.specs.Effects.{hub_in}
use Rattle.orc_scene.specs.inside.Effects.{PutsSnapshot, SaysAnswer}
use Rattle.orc_scene.specs.Courses.{DoesParts, DoesTurn, HasEvents, MayEndTurn, RowOrEnd, TurnOrEnd}
use Rattle.orc_scene.specs.Laws.{SceneIsCarried}
use Rattle.orc_scene.specs.Snapshots.{fronts_of, is_taken_by, taken_by_others, taken_with}
use Rattle.orc_scene.specs.Stands.{HasFront, IsPlaceSeenAs, IsSeenAs, IsSoundScene, decls_in, front_under, run_setting}
use Rattle.orc_scene.specs.declared.snapshots.Snapshots.{Snapshots}
use Rattle.orc_scene.specs.declared.snapshots.Taken.{Taken}
use Rattle.orc_scene.specs.declared.stop.WorldStop.{WorldStop}
use Rattle.orc_scene.specs.declared.stop.WorldStop.TheVariants as stop
use Rattle.orc_scene.specs.declared.scene.Place.{Place}
use Rattle.orc_scene.specs.declared.scene.Place.TheVariants.{Up, Down, Ended, Moved}
use Rattle.orc_scene.specs.declared.scene.Scene.{Scene}
use Rattle.orc_scene.proofs.Allowed.{decls_there}
use Rattle.orc_scene.proofs.Hearing.{hub_there}
use Rattle.orc_scene.proofs.Histories.{history_seen}
use Rattle.orc_scene.proofs.HubTurns.{under_hub}
use Rattle.orc_scene.proofs.Lasted.{done, ended, wanting_at}
use Rattle.orc_scene.proofs.Looping.{through_none}
use Rattle.orc_scene.proofs.Rowing.{none_up, turn_ends, turn_parts}
use Rattle.orc_scene.proofs.Submitting.{fronts_taken, snapshot_turn, submission_answered, submission_down, submission_waits}

-- fronts

-- a snapshot that was taken has its front
pub front_taken : (caller : List ℕ) (snapshot : Snapshot) (taken : List Taken) → is_some (fronts_of (taken_with caller snapshot taken) caller) ≡ true
front_taken caller snapshot taken =
    ap (λ (o : Option ℕ). is_some o) (sym (fronts_taken caller caller snapshot taken (fronts_of taken) refl))
    ∙ ap (λ (b : Bool). is_some (cond b (Some snapshot.front) (fronts_of taken caller))) ((bytes_decides caller caller).1 refl)

-- one that is found has it
pub front_found : {X : Type 0} (found : Option X) (now : X → Taken) (caller : List ℕ) (taken : List Taken) → option_map now found ≡ find (is_taken_by caller) taken
    → is_some (fronts_of taken caller) ≡ is_some found
front_found {X} found now caller taken is = ap (λ (o : Option Taken). is_some (option_map (λ one. one.snapshot.front) o)) (sym is) ∙ on found
  where
    on : (o : Option X) → is_some (option_map (λ (one : Taken). one.snapshot.front) (option_map now o)) ≡ is_some o
    on None = refl
    on (Some x) = refl

-- a front that is found is there, where a hub is up
pub front_there : {D : Type 0} (place : Place D) (front : Option ℕ) → is_some front ≡ true → front_under place front ≡ true
front_there (Up hub) front is = is
front_there (Down disk decls) front is = refl
front_there (Ended disk) front is = refl
front_there Moved front is = refl

pub front_down : {D : Type 0} (place : Place D) (front : Option ℕ) → is_some (hub_in place) ≡ false → front_under place front ≡ true
front_down (Up hub) front down = absurd (false≢true (sym down))
front_down (Down disk decls) front down = refl
front_down (Ended disk) front down = refl
front_down Moved front down = refl

-- turns

-- memory ran out before a turn
pub turn_wanting : {D : Type 0} (disk : DiskMeaning D) (one : Part) (old : Scene D) (before : List ℕ) → TurnOrEnd disk one old (ended stop.Memory) old before before
turn_wanting disk one old before = λ decls granted seen is. inr (wanting_at (run_setting disk decls old.limit granted) seen old before is)

-- a caller took a snapshot
pub takes_turn : {D : Type 0} (disk : DiskMeaning D) → SceneIsCarried disk → SnapshotStaysAtFront → InEach disk SnapshotBegins → (old new : Scene D) (caller named kept : List ℕ) (snapshot : Snapshot)
    → (named ≡ caller) × (kept ≡ caller)
    → MatchOption (hub_in old.place) ⊥ (λ hub. (snapshot.front ≡ length hub.state.history) × IsSnapshotAt hub.decls hub.state.history snapshot)
    → (result : Result (Unit {0}) WorldStop) → PutsSnapshot old named kept snapshot result new → TurnOrEnd disk (part.Snapshot caller) old result new [] []
takes_turn {D = D} disk law stays begins old new caller named kept snapshot names up result puts = λ decls granted seen is.
    (let here : Setting D = run_setting disk decls old.limit granted in
    let at = hub_there old.place (λ hub. (snapshot.front ≡ length hub.state.history) × IsSnapshotAt hub.decls hub.state.history snapshot) up in
    snapshot_turn here (law decls old.limit granted is.decls) stays (begins decls (declared_kind decls) old.limit granted) seen old new at.0 is at.1 caller named kept snapshot
    names.0 names.1 at.2.0 at.2.1 result puts)

pub takes_front : {D : Type 0} (old new : Scene D) (caller named kept : List ℕ) (snapshot : Snapshot) → kept ≡ caller → (result : Result (Unit {0}) WorldStop) → PutsSnapshot old named kept snapshot result new
    → MatchResult result (λ done. is_some (fronts_of new.snapshots.taken caller) ≡ true) (λ why. Unit {0})
takes_front old new caller named kept snapshot is (Ok value) puts =
    ap (λ (taken : List Taken). is_some (fronts_of taken caller)) (puts.3.0 ∙ ap (λ (c : List ℕ). taken_with c snapshot old.snapshots.taken) is) ∙ front_taken caller snapshot old.snapshots.taken
takes_front old new caller named kept snapshot is (Err why) puts = tt

-- first snapshots

pub none_parts : {D : Type 0} (here : Setting D) (seen : Seen D) (old : Scene D) (text : List ℕ) (one : Part) → IsSeenAs here seen old → NoneOf here seen one
    → DoesParts here seen old old text text (one ∷ [])
none_parts here seen old text one is none = record {
  turns = [];
  next = seen;
  goes = Goes.none one [] seen seen [] none (Goes.whole seen);
  through = through_none here seen old is;
  prints = sym (append-nil text);
}

pub first_down : {D : Type 0} (disk : DiskMeaning D) (old : Scene D) (caller : List ℕ) → is_some (hub_in old.place) ≡ false
    → RowOrEnd disk (λ here. part.FirstSnapshot caller ∷ []) old (done tt) old [] []
first_down disk old caller down = λ decls granted seen is.
    none_parts (run_setting disk decls old.limit granted) seen old [] (part.FirstSnapshot caller) is
    (λ hub up none. none-some hub (sym (none_up (run_setting disk decls old.limit granted) seen old.place is.place down) ∙ up))

pub first_has : {D : Type 0} (disk : DiskMeaning D) (old : Scene D) (caller : List ℕ) → is_some (fronts_of old.snapshots.taken caller) ≡ true
    → RowOrEnd disk (λ here. part.FirstSnapshot caller ∷ []) old (done tt) old [] []
first_has disk old caller has = λ decls granted seen is.
    none_parts (run_setting disk decls old.limit granted) seen old [] (part.FirstSnapshot caller) is
    (λ hub up none. false≢true (ap (λ (o : Option ℕ). is_some o) (sym none ∙ is.snapshots caller) ∙ has))

of_first : (caller : List ℕ) (one : Event) → IsOf (part.Snapshot caller) one → IsOf (part.FirstSnapshot caller) one
of_first caller (event.Begin other front) of = of
of_first caller (event.Submit call front given) of = absurd of
of_first caller (event.Admit t given) of = absurd of
of_first caller (event.Perform device op mark count) of = absurd of
of_first caller (event.Unsent device) of = absurd of
of_first caller (event.Report device op mark count) of = absurd of
of_first caller (event.Decide t given) of = absurd of
of_first caller (event.Settle t) of = absurd of
of_first caller (event.Tick seconds) of = absurd of
of_first caller (event.Restart device) of = absurd of
of_first caller event.Stop of = absurd of
of_first caller event.Recover of = absurd of
of_first caller (event.Reconcile end) of = absurd of

module _ {D : Type 0} (here : Setting D) (seen : Seen D) (old new : Scene D) (before after : List ℕ) (caller : List ℕ) (called : seen.snapshots caller ≡ None) where
  first_turn : DoesTurn here seen old new before after (part.Snapshot caller) → DoesTurn here seen old new before after (part.FirstSnapshot caller)
  first_turn does = record {
    turn = does.turn;
    first = does.first;
    is_of = of_first caller does.turn.meant does.is_of;
    called = called;
    comes = does.comes;
    through = does.through;
    prints = does.prints;
  }

  first_end : (why : WorldStop) → MayEndTurn here seen old new before after (part.Snapshot caller) why → MayEndTurn here seen old new before after (part.FirstSnapshot caller) why
  first_end why (inl ends) = inl (record {
    turn = ends.turn;
    first = ends.first;
    is_of = of_first caller ends.turn.meant ends.is_of;
    called = called;
    comes = ends.comes;
    because = ends.because;
    ended = ends.ended;
    prints = ends.prints;
  })
  first_end why (inr ends) = inr ends

no_front : (o : Option ℕ) → is_some o ≡ false → o ≡ None
no_front None none = refl
no_front (Some front) none = absurd (false≢true (sym none))

pub first_takes : {D : Type 0} (disk : DiskMeaning D) (old new : Scene D) (caller : List ℕ) → is_some (fronts_of old.snapshots.taken caller) ≡ false → (result : Result (Unit {0}) WorldStop)
    → TurnOrEnd disk (part.Snapshot caller) old result new [] [] → RowOrEnd disk (λ here. part.FirstSnapshot caller ∷ []) old result new [] []
first_takes {D = D} disk old new caller none (Ok value) each = λ decls granted seen is.
    (let here : Setting D = run_setting disk decls old.limit granted in
    turn_parts here seen old old new [] [] (part.FirstSnapshot caller) refl
    (first_turn here seen old new [] [] caller (is.snapshots caller ∙ no_front (fronts_of old.snapshots.taken caller) none) (each decls granted seen is)))
first_takes {D = D} disk old new caller none (Err why) each = λ decls granted seen is.
    (let here : Setting D = run_setting disk decls old.limit granted in
    turn_ends here seen old old new [] [] (part.FirstSnapshot caller) refl why
    (first_end here seen old new [] [] caller (is.snapshots caller ∙ no_front (fronts_of old.snapshots.taken caller) none) why (each decls granted seen is)))

-- submissions

module _ {D : Type 0} (disk : DiskMeaning D) (law : SceneIsCarried disk) (stays : SnapshotStaysAtFront) (submits : InEach disk SubmitIsEvent) (old new : Scene D) (hub behind : Hub (Stopping D))
    (up : old.place ≡ Up hub) (keeps : KeepsHub (inside disk) hub behind) (call kept : Call) (same : kept ≡ call) (front : ℕ) (plan : Result Plan Answer)
    (known : MatchOption (hub_in old.place) ⊥ (λ hub. IsTrue (is_call hub.decls call) × (fronts_of old.snapshots.taken call.caller ≡ Some front) × (front ≤ length hub.state.history)
    × ((plan ≡ Err answer.Memory) ⊎ (plan ≡ planned hub.decls (state_of hub.decls (take front hub.state.history)) front call))))
    (limit : new.limit ≡ old.limit) (place : new.place ≡ Up behind) (links : new.links ≡ old.links) (taken : new.snapshots.taken ≡ taken_by_others call.caller old.snapshots.taken)
    (before after : List ℕ) where
  abbrev Known : Hub (Stopping D) → Type 0
  Known one = IsTrue (is_call one.decls call) × (fronts_of old.snapshots.taken call.caller ≡ Some front) × (front ≤ length one.state.history)
      × ((plan ≡ Err answer.Memory) ⊎ (plan ≡ planned one.decls (state_of one.decls (take front one.state.history)) front call))

  known_here : Known hub
  known_here = subst (λ (p : Place D). MatchOption (hub_in p) ⊥ Known) up known

  came : (result : Submitted) → Submits hub call front plan result behind → (decls : Decls) (granted : Bool) (seen : Seen D) → IsSeenAs (run_setting disk decls old.limit granted) seen old
      → GoesOnUnder (run_setting disk decls old.limit granted) seen (world_answered call.caller behind seen) (event.Submit call front (said_at_once result)) behind
  came result does decls granted seen is =
      let here : Setting D = run_setting disk decls old.limit granted in
      let own : IsWorldOf here seen hub = under_hub here seen old hub is up in
      submits decls (declared_kind decls) old.limit granted seen hub behind call front plan result own (is.snapshots call.caller ∙ known_here.1)
      (subst (λ (d : Decls). is_call d call ≡ true) own.decls known_here.0) known_here.2 known_here.3 does

  -- the call waits
  pub queued_turn : (t : ℕ) → Submits hub call front plan (submitted.Queued t) behind → new.events.items.items ≡ old.events.items.items ++ event.Submit kept front None ∷ [] → after ≡ before
      → TurnOrEnd disk (part.Submission call) old (done tt) new before after
  queued_turn t does events out = λ decls granted seen is.
      (let here : Setting D = run_setting disk decls old.limit granted in
      submission_waits here (law decls old.limit granted is.decls) stays seen old new hub behind is up keeps call front (came (submitted.Queued t) does decls granted seen is) limit place links taken
      (events ∙ ap (λ (c : Call). old.events.items.items ++ event.Submit c front None ∷ []) same) before after out)

  -- the call was answered
  pub answered_turn : (given : Answer) → Submits hub call front plan (submitted.Answered given) behind → new.events.items.items ≡ old.events.items.items ++ event.Submit kept front (Some given) ∷ []
      → (result : Result (Unit {0}) WorldStop) → MatchOption (decls_in (Up behind)) ⊥ (λ decls. SaysAnswer decls.names kept.caller kept.number given before result after)
      → TurnOrEnd disk (part.Submission call) old result new before after
  answered_turn given does events result says = λ decls granted seen is.
      (let here : Setting D = run_setting disk decls old.limit granted in
      let own : IsWorldOf here seen hub = under_hub here seen old hub is up in
      submission_answered here (law decls old.limit granted is.decls) stays seen old new hub behind is up keeps call front given (came (submitted.Answered given) does decls granted seen is)
      limit place links taken (events ∙ ap (λ (c : Call). old.events.items.items ++ event.Submit c front (Some given) ∷ []) same) before after result
      (subst (λ (d : Decls). SaysAnswer d.names call.caller call.number given before result after) (keeps.decls ∙ own.decls)
      (subst (λ (c : Call). SaysAnswer behind.decls.names c.caller c.number given before result after) same says)))

-- no hub is up
pub down_turn : {D : Type 0} (disk : DiskMeaning D) (old new : Scene D) → hub_in old.place ≡ None → (call : Call)
    → HasEvents old new (old.events.items.items ++ event.Submit call 0 (Some answer.Down) ∷ []) → (before after : List ℕ) (result : Result (Unit {0}) WorldStop)
    → MatchOption (decls_in old.place) ⊥ (λ decls. SaysAnswer decls.names call.caller call.number answer.Down before result after)
    → (carried : SceneIsCarried disk) (stays : SnapshotStaysAtFront) → TurnOrEnd disk (part.Submission call) old result new before after
down_turn {D = D} disk old new down call has before after result says carried stays = λ decls granted seen is.
    (let here : Setting D = run_setting disk decls old.limit granted in
    submission_down here (carried decls old.limit granted is.decls) stays seen old new is down call has before after result
    (subst (λ o. MatchOption o ⊥ (λ d. SaysAnswer d.names call.caller call.number answer.Down before result after)) (decls_there here seen old.place is.place) says))

pub down_named : {D : Type 0} (disk : DiskMeaning D) (old : Scene D) → IsSoundScene disk old → MatchOption (decls_in old.place) ⊥ (λ decls. IsTrue (is_answer_among (length decls.names) answer.Down))
down_named {D = D} disk old sound =
    let here : Setting D = run_setting disk sound.0 old.limit sound.1 in
    subst (λ o. MatchOption o ⊥ (λ d. IsTrue (is_answer_among (length d.names) answer.Down))) (sym (decls_there here sound.2 old.place sound.3.place)) refl

-- what calls ask for

-- a snapshot is at the front of the hub's history
pub begun_snapshot : {M : Type 0} (hub : Hub (Stopping M)) → {E : Type 0} (result : Result Snapshot E) → IfOk result (λ snapshot. snapshot.front ≡ length hub.state.history)
    → IfOk result (IsSnapshotAt hub.decls hub.state.history)
    → IfOk result (λ snapshot. (snapshot.front ≡ length hub.state.history) × IsSnapshotAt hub.decls hub.state.history snapshot)
begun_snapshot hub (Ok snapshot) front at = (front, at)
begun_snapshot hub (Err why) front at = tt

pub takes_so : {D : Type 0} (new : Scene D) (caller : List ℕ) (result : Result (Unit {0}) WorldStop)
    → MatchResult result (λ done. is_some (fronts_of new.snapshots.taken caller) ≡ true) (λ why. Unit {0}) → MatchResult result (λ done. HasFront new caller) (λ why. Unit {0})
takes_so new caller (Ok value) taken = front_there new.place (fronts_of new.snapshots.taken caller) taken
takes_so new caller (Err why) taken = tt

-- no hub is up
pub hub_none : {X : Type 0} (o : Option X) → is_some o ≡ false → o ≡ None
hub_none None none = refl
hub_none (Some x) none = absurd (false≢true (sym none))

-- a fact of the declarations says that they are there
pub declared_there : {X : Type 0} (P : X → Type 0) (o : Option X) → MatchOption o ⊥ P → is_some o ≡ true
declared_there P None is = absurd is
declared_there P (Some x) is = refl

-- what is so of the declarations that are there
pub so_declared : (o : Option Decls) (decls : Decls) → o ≡ Some decls → (P : Decls → Type 0) → P decls → MatchOption o ⊥ P
so_declared o decls is P so = subst (λ (x : Option Decls). MatchOption x ⊥ P) (sym is) so

-- what is so of the declarations of a sound world
pub decls_sound : {D : Type 0} (disk : DiskMeaning D) (old : Scene D) (P : Decls → Type 0) (sound : IsSoundScene disk old) → P sound.0 → MatchOption (decls_in old.place) ⊥ P
decls_sound disk old P sound so =
    subst (λ o. MatchOption o ⊥ P) (sym (decls_there (run_setting disk sound.0 old.limit sound.1) sound.2 old.place sound.3.place)) so

-- one that was found is one of them
found_all : {X : Type 0} (P : X → Type 0) (p : X → Bool) (xs : List X) (x : X) → find p xs ≡ Some x → All P xs → P x
found_all P p [] x is all = absurd (none-some x is)
found_all P p (y ∷ xs) x is all = on (p y) is (λ found. found_all P p xs x found (All-tail P y xs all))
  where
    on : (b : Bool) → cond b (Some y) (find p xs) ≡ Some x → (find p xs ≡ Some x → P x) → P x
    on true found later = subst P (same_Some y x found) (All-head P y xs all)
    on false found later = later found

-- the snapshot of a caller, which is at its front of the history
module _ {D : Type 0} (disk : DiskMeaning D) (old : Scene D) (sound : IsSoundScene disk old) (caller : List ℕ) (taken : Taken) (is : Some taken ≡ find (is_taken_by caller) old.snapshots.taken) where
  abbrev pub at_history : List Call
  at_history = history_read sound.2.journal

  pub taken_at : IsSnapshotAt sound.0 at_history taken.snapshot
  taken_at = found_all (λ (one : Taken). IsSnapshotAt sound.0 at_history one.snapshot) (is_taken_by caller) old.snapshots.taken taken (sym is) sound.3.fronts

  pub taken_under : MatchOption (decls_in old.place) ⊥ (λ decls. IsSnapshotUnder decls taken.snapshot)
  taken_under = decls_sound disk old (λ decls. IsSnapshotUnder decls taken.snapshot) sound (state_at sound.0 at_history taken.snapshot.front, (taken_at.kept, taken_at.of))

  -- a plan on it
  pub planned_on : (call : Call) (front : ℕ) (plan : Result Plan Answer) → front ≡ taken.snapshot.front
      → MatchOption (decls_in old.place) ⊥ (λ decls. (plan ≡ Err answer.Memory)
      ⊎ ((history : List Call) → IsSnapshotAt decls history taken.snapshot → plan ≡ planned decls (state_of decls (take taken.snapshot.front history)) taken.snapshot.front call))
      → is_some (hub_in old.place) ≡ true
      → MatchOption (hub_in old.place) ⊥ (λ hub. (fronts_of old.snapshots.taken caller ≡ Some front) × (front ≤ length hub.state.history)
      × ((plan ≡ Err answer.Memory) ⊎ (plan ≡ planned hub.decls (state_of hub.decls (take front hub.state.history)) front call)))
  planned_on call front plan front_is plan_is up = on old.place sound.3.place plan_is up
    where
      here : Setting D
      here = run_setting disk sound.0 old.limit sound.1

      fronts : fronts_of old.snapshots.taken caller ≡ Some front
      fronts = ap (λ (o : Option Taken). option_map (λ (one : Taken). one.snapshot.front) o) (sym is) ∙ ap (λ (n : ℕ). Some n) (sym front_is)

      on : (place : Place D) → IsPlaceSeenAs here sound.2 place
          → MatchOption (decls_in place) ⊥ (λ decls. (plan ≡ Err answer.Memory)
          ⊎ ((history : List Call) → IsSnapshotAt decls history taken.snapshot → plan ≡ planned decls (state_of decls (take taken.snapshot.front history)) taken.snapshot.front call))
          → is_some (hub_in place) ≡ true
          → MatchOption (hub_in place) ⊥ (λ hub. (fronts_of old.snapshots.taken caller ≡ Some front) × (front ≤ length hub.state.history)
          × ((plan ≡ Err answer.Memory) ⊎ (plan ≡ planned hub.decls (state_of hub.decls (take front hub.state.history)) front call)))
      on (Up hub) own so there = (
        fronts,
        subst (λ (n : ℕ). n ≤ length hub.state.history) (sym front_is) at.front,
        subst (λ (n : ℕ). (plan ≡ Err answer.Memory) ⊎ (plan ≡ planned hub.decls (state_of hub.decls (take n hub.state.history)) n call)) (sym front_is) (of so),
      )
        where
          at : IsSnapshotAt hub.decls hub.state.history taken.snapshot
          at = subst (λ (d : Decls). IsSnapshotAt d hub.state.history taken.snapshot) (sym own.decls)
              (subst (λ (h : List Call). IsSnapshotAt sound.0 h taken.snapshot) (history_seen here sound.2 hub own) taken_at)

          of : (plan ≡ Err answer.Memory) ⊎ ((history : List Call) → IsSnapshotAt hub.decls history taken.snapshot
              → plan ≡ planned hub.decls (state_of hub.decls (take taken.snapshot.front history)) taken.snapshot.front call)
              → (plan ≡ Err answer.Memory) ⊎ (plan ≡ planned hub.decls (state_of hub.decls (take taken.snapshot.front hub.state.history)) taken.snapshot.front call)
          of (inl wanting) = inl wanting
          of (inr each) = inr (each hub.state.history at)
      on (Down disk decls) own so there = absurd (false≢true there)
      on (Ended disk) own so there = absurd own
      on Moved own so there = absurd own

-- where a hub is up a caller that has a front has a snapshot
pub front_not_none : {D : Type 0} (place : Place D) (taken : List Taken) (caller : List ℕ) → is_some (hub_in place) ≡ true → None ≡ find (is_taken_by caller) taken
    → front_under place (fronts_of taken caller) ≡ true → ⊥
front_not_none (Up hub) taken caller up none front =
    false≢true (ap (λ (o : Option Taken). is_some (option_map (λ (one : Taken). one.snapshot.front) o)) none ∙ front)
front_not_none (Down disk decls) taken caller up none front = false≢true up
front_not_none (Ended disk) taken caller up none front = false≢true up
front_not_none Moved taken caller up none front = false≢true up

-- a call that is lawful under the declarations is under the hub
pub lawful_up : {D : Type 0} (place : Place D) (call : Call) → MatchOption (decls_in place) ⊥ (λ decls. IsTrue (is_call decls call)) → (found : Option ℕ) (front : ℕ) (plan : Result Plan Answer)
    → MatchOption (hub_in place) ⊥ (λ hub. (found ≡ Some front) × (front ≤ length hub.state.history)
    × ((plan ≡ Err answer.Memory) ⊎ (plan ≡ planned hub.decls (state_of hub.decls (take front hub.state.history)) front call)))
    → MatchOption (hub_in place) ⊥ (λ hub. IsTrue (is_call hub.decls call) × (found ≡ Some front) × (front ≤ length hub.state.history)
    × ((plan ≡ Err answer.Memory) ⊎ (plan ≡ planned hub.decls (state_of hub.decls (take front hub.state.history)) front call)))
lawful_up (Up hub) call lawful found front plan so = (lawful, so.0, so.1, so.2)
lawful_up (Down disk decls) call lawful found front plan so = absurd so
lawful_up (Ended disk) call lawful found front plan so = absurd so
lawful_up Moved call lawful found front plan so = absurd so

-- a caller has its front still after room was made
pub front_behind : {D : Type 0} (old middle : Scene D) → HasEvents old middle old.events.items.items → (caller : List ℕ) → HasFront old caller → HasFront middle caller
front_behind {D = D} old middle same caller front =
    subst (λ (p : Place D). front_under p (fronts_of middle.snapshots.taken caller) ≡ true) (sym same.place)
    (subst (λ (s : Snapshots). front_under old.place (fronts_of s.taken caller) ≡ true) (sym same.snapshots) front)

-- what is known of a planned call under the hub that is up
pub known_there : {D : Type 0} (old : Scene D) (hub : Hub (Stopping D)) → old.place ≡ Up hub → (call : Call) (front : ℕ) (plan : Result Plan Answer)
    → MatchOption (hub_in old.place) ⊥ (λ one. IsTrue (is_call one.decls call) × (fronts_of old.snapshots.taken call.caller ≡ Some front) × (front ≤ length one.state.history)
    × ((plan ≡ Err answer.Memory) ⊎ (plan ≡ planned one.decls (state_of one.decls (take front one.state.history)) front call)))
    → IsTrue (is_call hub.decls call) × (fronts_of old.snapshots.taken call.caller ≡ Some front) × (front ≤ length hub.state.history)
    × ((plan ≡ Err answer.Memory) ⊎ (plan ≡ planned hub.decls (state_of hub.decls (take front hub.state.history)) front call))
known_there {D = D} old hub up call front plan known =
    subst (λ (p : Place D). MatchOption (hub_in p) ⊥ (λ one. IsTrue (is_call one.decls call) × (fronts_of old.snapshots.taken call.caller ≡ Some front) × (front ≤ length one.state.history)
    × ((plan ≡ Err answer.Memory) ⊎ (plan ≡ planned one.decls (state_of one.decls (take front one.state.history)) front call)))) up known
