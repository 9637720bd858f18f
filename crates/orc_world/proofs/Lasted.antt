-- Loops over events and over rounds, whatever the rules see.
use Rattle.std.proofs.Common.{[], ◌≡◌, ◌≤◌, ◌<◌, ◌+◌, inl, inr, ℕ, Bool, true, false, ◌||◌, List, ◌∷◌, length, map, refl, sym, ap, subst, ◌∙◌}
use Rattle.std.specs.List.{flat_map, range_with_len}
use Rattle.std.proofs.lemmas.Bool.{false≢true}
use Rattle.std.proofs.lemmas.List.{length-map}
use Rattle.orc_decls.specs.declared.declarations.Decls.{Decls}
use Rattle.orc_decls.specs.declared.declarations.Device.{Device}
use Rattle.orc_disk.specs.Meanings.{DiskMeaning}
use Rattle.orc_rules.specs.Events.{Turn}
use Rattle.orc_rules.specs.Worlds.{Setting, World as Seen, declared}
use Rattle.orc_rules.specs.declared.event.Event.{Event}
use Rattle.orc_rules.specs.declared.event.Event.TheVariants as event
use Rattle.orc_runs.specs.Scripts.{IsOf, IsStill, NoneOf, Part, Part as part, comes_again, round}
use Rattle.orc_runs.specs.Serving.{IsRested}
use Rattle.orc_scene.specs.Courses.{DoesOperation, DoesParts, DoesTurn, EndsAtOnce, EndsInParts, InEachView, MayDoOperation, MayDoTurn, MayEndTurn, PrintsMost, RowOrEnd, StaysSame}
use Rattle.orc_world.specs.inside.Rows.{DoesRow, NoneOrdered, RowOrQuiet, SettlesRounds}
use Rattle.orc_scene.specs.Laws.{SceneIsCarried}
use Rattle.orc_scene.specs.Stands.{IsBetweenLines, IsSeenAs, IsSoundScene, run_setting}
use Rattle.orc_scene.specs.declared.stop.WorldStop.{WorldStop}
use Rattle.orc_scene.specs.declared.stop.WorldStop.TheVariants as stop
use Rattle.orc_scene.specs.declared.scene.Scene.{Scene}
use Rattle.orc_scene.proofs.Allowed.{links_long}
use Rattle.orc_scene.proofs.Apiece.{hearing_of_device, once_ends, operation_of_device}
use Rattle.orc_world.proofs.Apiece.{NoneBefore, each_ends, each_first, each_of, each_then, each_whole, mends_end, mends_first, mends_then, operation_does, operation_prints}
use Rattle.orc_scene.proofs.Joining.{at_limit}
use Rattle.orc_world.proofs.Looping.{Lasts, ends_between, ends_turn, lasts_first, lasts_operation, lasts_row, lasts_turn, lasts_whole}
use Rattle.orc_scene.proofs.Resting.{sound_at, unmended_there}
use Rattle.orc_world.proofs.Resting.{BeginsNone, is_beginning, not_begun, rested_there, round_none, unmended_behind}
use Rattle.orc_world.proofs.Rounding.{RoundsSoFar, prints_nothing, round_does, round_ends_first, round_ends_second, round_ends_third, rounds_end, rounds_first, rounds_more, rounds_still}
use Rattle.orc_scene.proofs.Lasted.{done, ended, stopped, wanting_at, went}

-- whether a turn came is one of two
pub turn_came : {D : Type 0} (here : Setting D) (seen : Seen D) (old new : Scene D) (before after : List ℕ) (one : Part) (came : Bool) → came ≡ true
    → MayDoTurn here seen old new before after one came → DoesTurn here seen old new before after one
turn_came here seen old new before after one came is (inl did) = did.1
turn_came here seen old new before after one came is (inr none) = absurd (false≢true (sym none.0 ∙ is))

pub none_came : {D : Type 0} (here : Setting D) (seen : Seen D) (old new : Scene D) (before after : List ℕ) (one : Part) (came : Bool) → came ≡ false
    → MayDoTurn here seen old new before after one came → NoneOf here seen one × StaysSame here seen old new before after
none_came here seen old new before after one came is (inl did) = absurd (false≢true (sym is ∙ did.0))
none_came here seen old new before after one came is (inr (not_came, none, same)) = (none, same)

-- the run ended with a turn of the part, or before one
may_end : {D : Type 0} (here : Setting D) (seen : Seen D) (old : Scene D) (before : List ℕ) (one : Part) (again : comes_again one ≡ true) (middle new : Scene D) (now after : List ℕ) (came : Bool)
    (so : Lasts here seen old before one middle now came) (single : Part) → ((event : Event) → IsOf single event → IsOf one event) → (why : WorldStop)
    → MayEndTurn here so.next middle new now after single why → EndsInParts here seen old new before after (one ∷ []) why
may_end here seen old before one again middle new now after came so single kind why (inl ends) =
    ends_turn here seen old before one again middle new now after came so single kind why ends
may_end here seen old before one again middle new now after came so single kind why (inr ends) =
    ends_between here seen old before one again middle new now after came so why ends

-- an admission is one of all that come
pub one_of_all : (one : Event) → IsOf part.Admission one → IsOf part.Admissions one
one_of_all (event.Admit t given) is = is
one_of_all (event.Perform other op reply count) is = is
one_of_all (event.Unsent other) is = is
one_of_all (event.Report other op reply count) is = is
one_of_all (event.Begin other front) is = is
one_of_all (event.Submit call front given) is = is
one_of_all (event.Decide t given) is = is
one_of_all (event.Settle t) is = is
one_of_all (event.Tick seconds) is = is
one_of_all (event.Restart other) is = is
one_of_all event.Stop is = is
one_of_all event.Recover is = is
one_of_all (event.Reconcile result) is = is

all_of_one : (one : Event) → IsOf part.Admissions one → IsOf part.Admission one
all_of_one (event.Admit t given) is = is
all_of_one (event.Perform other op reply count) is = is
all_of_one (event.Unsent other) is = is
all_of_one (event.Report other op reply count) is = is
all_of_one (event.Begin other front) is = is
all_of_one (event.Submit call front given) is = is
all_of_one (event.Decide t given) is = is
all_of_one (event.Settle t) is = is
all_of_one (event.Tick seconds) is = is
all_of_one (event.Restart other) is = is
all_of_one event.Stop is = is
all_of_one event.Recover is = is
all_of_one (event.Reconcile result) is = is

pub none_admitted : {D : Type 0} (here : Setting D) (seen : Seen D) → NoneOf here seen part.Admission → NoneOf here seen part.Admissions
none_admitted here seen none one of may = none one (all_of_one one of) may

-- an operation of a device is performed or not sent, or is heard of
none_on : {D : Type 0} (here : Setting D) (seen : Seen D) (device : ℕ) → NoneOf here seen (part.Operation device) → NoneOf here seen (part.Hearing device) → NoneOf here seen (part.Operations device)
none_on here seen device none unheard (event.Perform other op reply count) is may = none (event.Perform other op reply count) is may
none_on here seen device none unheard (event.Unsent other) is may = none (event.Unsent other) is may
none_on here seen device none unheard (event.Report other op reply count) is may = unheard (event.Report other op reply count) is may
none_on here seen device none unheard (event.Admit t given) is may = is
none_on here seen device none unheard (event.Begin other front) is may = is
none_on here seen device none unheard (event.Submit call front given) is may = is
none_on here seen device none unheard (event.Decide t given) is may = is
none_on here seen device none unheard (event.Settle t) is may = is
none_on here seen device none unheard (event.Tick seconds) is may = is
none_on here seen device none unheard (event.Restart other) is may = is
none_on here seen device none unheard event.Stop is may = is
none_on here seen device none unheard event.Recover is may = is
none_on here seen device none unheard (event.Reconcile result) is may = is

module _ {D : Type 0} (disk : DiskMeaning D) where
  -- the rules see a world after a row of parts
  pub sound_parts : (old new : Scene D) (before after : List ℕ) (parts : Setting D → List Part) → IsSoundScene disk old
      → InEachView disk old (λ here seen. DoesParts here seen old new before after (parts here)) → IsSoundScene disk new
  sound_parts old new before after parts sound each =
      let here : Setting D = run_setting disk sound.0 old.limit sound.1 in
      let is : IsSeenAs here sound.2 old = sound.3 in
      let does : DoesParts here sound.2 old new before after (parts here) = each sound.0 sound.1 sound.2 is in
      sound_at disk new old.limit sound.0 sound.1 does.next does.through.limit does.through.is

  module _ (law : SceneIsCarried disk) where
    -- after a row that begins no reconciliation the world is between lines again
    pub between_parts : (old new : Scene D) (before after : List ℕ) (parts : Setting D → List Part) → ((here : Setting D) → BeginsNone (parts here)) → IsBetweenLines disk old
        → InEachView disk old (λ here seen. DoesParts here seen old new before after (parts here)) → IsBetweenLines disk new
    between_parts old new before after parts none between each =
        let sound : IsSoundScene disk old = between.0 in
        let here : Setting D = run_setting disk sound.0 old.limit sound.1 in
        let is : IsSeenAs here sound.2 old = sound.3 in
        let does : DoesParts here sound.2 old new before after (parts here) = each sound.0 sound.1 sound.2 is in (
          sound_at disk new old.limit sound.0 sound.1 does.next does.through.limit does.through.is,
          unmended_behind here (law sound.0 old.limit sound.1 is.decls) old new sound.2 does.next (parts here) does.turns is between.1 does.goes (none here) does.through.is,
        )

    -- after a turn that begins no reconciliation the world is between lines again
    pub between_turn : (old new : Scene D) (before after : List ℕ) (one : Part) → is_beginning one ≡ false → IsBetweenLines disk old
        → InEachView disk old (λ here seen. DoesTurn here seen old new before after one) → IsBetweenLines disk new
    between_turn old new before after one none between each =
        let sound : IsSoundScene disk old = between.0 in
        let here : Setting D = run_setting disk sound.0 old.limit sound.1 in
        let is : IsSeenAs here sound.2 old = sound.3 in
        let does : DoesTurn here sound.2 old new before after one = each sound.0 sound.1 sound.2 is in (
          sound_at disk new old.limit sound.0 sound.1 does.turn.behind does.through.limit does.through.is,
          unmended_there here does.turn.behind new.place does.through.is.place
              ((law sound.0 old.limit sound.1 is.decls).rests does.turn.before does.turn.behind does.turn.meant does.turn.seen does.comes
              (λ wrong. not_begun one none (subst (IsOf one) wrong does.is_of))
              (subst (λ (world : Seen D). IsRested world) (sym does.first) (rested_there here sound.2 old.place is.place between.1))),
        )

-- Events of a part came so far, and more of them may.
pub record LastsInEach {D : Type 0} (disk : DiskMeaning D) (one : Part) (old : Scene D) (before : List ℕ) (middle : Scene D) (now : List ℕ) (came : Bool) : Type 0 where
  pub between : IsBetweenLines disk middle
  pub lasts : InEachView disk old (λ here seen. Lasts here seen old before one middle now came)

module _ {D : Type 0} (disk : DiskMeaning D) (one : Part) (old : Scene D) (before : List ℕ) where
  pub none_yet : IsBetweenLines disk old → LastsInEach disk one old before old before false
  none_yet between = record {
    between = between;
    lasts = λ decls granted seen is. lasts_first (run_setting disk decls old.limit granted) seen old before one is;
  }

  module _ (again : comes_again one ≡ true) (middle new : Scene D) (now after : List ℕ) (came : Bool)
      (so : LastsInEach disk one old before middle now came) where
    -- what the next call does in the view that is left
    at_next : (IsSo : Setting D → Seen D → Type 0) (decls : Decls) (granted : Bool) (seen : Seen D) (is : IsSeenAs (run_setting disk decls old.limit granted) seen old)
        → InEachView disk middle IsSo → IsSo (run_setting disk decls old.limit granted) (so.lasts decls granted seen is).next
    at_next IsSo decls granted seen is each =
        let lasts : Lasts (run_setting disk decls old.limit granted) seen old before one middle now came = so.lasts decls granted seen is in
        at_limit disk middle IsSo old.limit decls granted lasts.next each lasts.through.limit lasts.through.is

    -- the row went on for as long as a number can count
    pub exhausted : RowOrQuiet disk (λ here. one ∷ []) (λ here seen. Unit {0}) old (stopped stop.Memory) middle before now
    exhausted decls granted seen is =
        let here : Setting D = run_setting disk decls old.limit granted in
        let lasts : Lasts here seen old before one middle now came = so.lasts decls granted seen is in
        ends_between here seen old before one again middle middle now now came lasts stop.Memory (wanting_at here lasts.next middle now lasts.through.is)

    module _ (single : Part) (kind : (event : Event) → IsOf single event → IsOf one event) where
      pub one_more : SceneIsCarried disk → is_beginning single ≡ false → (some : Bool) → some ≡ true
          → InEachView disk middle (λ here seen. MayDoTurn here seen middle new now after single some) → LastsInEach disk one old before new after true
      one_more law none some is_some each = record {
        between = between_turn disk law middle new now after single none so.between
            (λ decls granted seen is. turn_came (run_setting disk decls middle.limit granted) seen middle new now after single some is_some (each decls granted seen is));
        lasts = λ decls granted seen is.
            (let here : Setting D = run_setting disk decls old.limit granted in
            let lasts : Lasts here seen old before one middle now came = so.lasts decls granted seen is in
            lasts_turn here seen old before one again middle new now after came lasts single kind
            (turn_came here lasts.next middle new now after single some is_some
            (at_next (λ here seen. MayDoTurn here seen middle new now after single some) decls granted seen is each)));
      }

      pub no_more : ((here : Setting D) (seen : Seen D) → NoneOf here seen single → NoneOf here seen one) → (some : Bool) → some ≡ false
          → InEachView disk middle (λ here seen. MayDoTurn here seen middle new now after single some)
          → RowOrQuiet disk (λ here. one ∷ []) (λ here seen. NoneOf here seen single) old (went came) new before after
      no_more none_so some is_none each decls granted seen is =
          let here : Setting D = run_setting disk decls old.limit granted in
          let lasts : Lasts here seen old before one middle now came = so.lasts decls granted seen is in
          let none : NoneOf here lasts.next single × StaysSame here lasts.next middle new now after =
          none_came here lasts.next middle new now after single some is_none (at_next (λ here seen. MayDoTurn here seen middle new now after single some) decls granted seen is each) in
          lasts_row here seen old before one again middle new now after came lasts (λ world. NoneOf here world single) (none_so here lasts.next none.0) none.0 none.1

      pub ended_in : (why : WorldStop) → InEachView disk middle (λ here seen. MayEndTurn here seen middle new now after single why)
          → RowOrQuiet disk (λ here. one ∷ []) (λ here seen. NoneOf here seen single) old (stopped why) new before after
      ended_in why each decls granted seen is =
          let here : Setting D = run_setting disk decls old.limit granted in
          let lasts : Lasts here seen old before one middle now came = so.lasts decls granted seen is in
          may_end here seen old before one again middle new now after came lasts single kind why
          (at_next (λ here seen. MayEndTurn here seen middle new now after single why) decls granted seen is each)

-- Operations of a device came so far, and more of them may.
pub record OperatesInEach {D : Type 0} (disk : DiskMeaning D) (device : ℕ) (old middle : Scene D) : Type 0 where
  pub sound : IsSoundScene disk middle
  pub within : device < length middle.links.links
  pub came : Bool
  pub lasts : InEachView disk old (λ here seen. Lasts here seen old [] (part.Operations device) middle [] came)

operation_came : {D : Type 0} (here : Setting D) (seen : Seen D) (old new : Scene D) (device : ℕ) (came : Bool) → came ≡ true
    → MayDoOperation here seen old new [] [] device came → DoesOperation here seen old new [] [] device
operation_came here seen old new device came is (inl did) = did.1
operation_came here seen old new device came is (inr none) = absurd (false≢true (sym none.0 ∙ is))

none_performed : {D : Type 0} (here : Setting D) (seen : Seen D) (old new : Scene D) (device : ℕ) (came : Bool) → came ≡ false
    → MayDoOperation here seen old new [] [] device came → NoneOf here seen (part.Operation device) × NoneOf here seen (part.Hearing device) × StaysSame here seen old new [] []
none_performed here seen old new device came is (inl did) = absurd (false≢true (sym is ∙ did.0))
none_performed here seen old new device came is (inr (not_came, none, unheard, same)) = (none, unheard, same)

module _ {D : Type 0} (disk : DiskMeaning D) (device : ℕ) (old : Scene D) where
  pub no_operation_yet : IsSoundScene disk old → device < length old.links.links → OperatesInEach disk device old old
  no_operation_yet sound within = record {
    sound = sound;
    within = within;
    came = false;
    lasts = λ decls granted seen is. lasts_first (run_setting disk decls old.limit granted) seen old [] (part.Operations device) is;
  }

  module _ (middle new : Scene D) (so : OperatesInEach disk device old middle) where
    next_at : (IsSo : Setting D → Seen D → Type 0) (decls : Decls) (granted : Bool) (seen : Seen D) (is : IsSeenAs (run_setting disk decls old.limit granted) seen old)
        → InEachView disk middle IsSo → IsSo (run_setting disk decls old.limit granted) (so.lasts decls granted seen is).next
    next_at IsSo decls granted seen is each =
        let lasts : Lasts (run_setting disk decls old.limit granted) seen old [] (part.Operations device) middle [] so.came = so.lasts decls granted seen is in
        at_limit disk middle IsSo old.limit decls granted lasts.next each lasts.through.limit lasts.through.is

    pub operation_more : (some : Bool) → some ≡ true → InEachView disk middle (λ here seen. MayDoOperation here seen middle new [] [] device some) → OperatesInEach disk device old new
    operation_more some is_some each =
        let sound : IsSoundScene disk middle = so.sound in
        let here : Setting D = run_setting disk sound.0 middle.limit sound.1 in
        let is : IsSeenAs here sound.2 middle = sound.3 in
        let did : DoesOperation here sound.2 middle new [] [] device = operation_came here sound.2 middle new device some is_some (each sound.0 sound.1 sound.2 is) in
        let long : length new.links.links ≡ length middle.links.links = links_long here did.hearing.behind new did.through.is ∙ sym (links_long here sound.2 middle is) in
        record {
          sound = sound_at disk new middle.limit sound.0 sound.1 did.hearing.behind did.through.limit did.through.is;
          within = subst (λ (count : ℕ). device < count) (sym long) so.within;
          came = true;
          lasts = λ decls granted seen is.
              (let here : Setting D = run_setting disk decls old.limit granted in
              let lasts : Lasts here seen old [] (part.Operations device) middle [] so.came = so.lasts decls granted seen is in
              let does : DoesOperation here lasts.next middle new [] [] device =
              operation_came here lasts.next middle new device some is_some (next_at (λ here seen. MayDoOperation here seen middle new [] [] device some) decls granted seen is each) in
              lasts_operation here seen old [] (part.Operations device) refl middle new [] [] so.came lasts device
              (operation_of_device here device) (hearing_of_device here device) does (operation_prints here lasts.next middle new [] [] device does));
        }

    pub operation_last : (some : Bool) → some ≡ false → InEachView disk middle (λ here seen. MayDoOperation here seen middle new [] [] device some)
        → RowOrEnd disk (λ here. part.Operations device ∷ []) old (done tt) new [] []
    operation_last some is_none each decls granted seen is =
        let here : Setting D = run_setting disk decls old.limit granted in
        let lasts : Lasts here seen old [] (part.Operations device) middle [] so.came = so.lasts decls granted seen is in
        let none = none_performed here lasts.next middle new device some is_none (next_at (λ here seen. MayDoOperation here seen middle new [] [] device some) decls granted seen is each) in
        lasts_whole here seen old [] (part.Operations device) refl middle new [] [] so.came lasts (none_on here lasts.next device none.0 none.1) none.2

    pub operation_ended : (why : WorldStop) → InEachView disk middle (λ here seen. EndsAtOnce here seen middle new [] [] why)
        → RowOrEnd disk (λ here. part.Operations device ∷ []) old (ended why) new [] []
    operation_ended why each decls granted seen is =
        let here : Setting D = run_setting disk decls old.limit granted in
        let lasts : Lasts here seen old [] (part.Operations device) middle [] so.came = so.lasts decls granted seen is in
        ends_between here seen old [] (part.Operations device) refl middle new [] [] so.came lasts why
        (next_at (λ here seen. EndsAtOnce here seen middle new [] [] why) decls granted seen is each)

    pub operations_exhausted : RowOrEnd disk (λ here. part.Operations device ∷ []) old (ended stop.Memory) middle [] []
    operations_exhausted decls granted seen is =
        let here : Setting D = run_setting disk decls old.limit granted in
        let lasts : Lasts here seen old [] (part.Operations device) middle [] so.came = so.lasts decls granted seen is in
        ends_between here seen old [] (part.Operations device) refl middle middle [] [] so.came lasts stop.Memory (wanting_at here lasts.next middle [] lasts.through.is)

-- rounds came so far
pub record RoundsInEach {D : Type 0} (disk : DiskMeaning D) (old : Scene D) (before : List ℕ) (middle : Scene D) (now : List ℕ) : Type 0 where
  pub between : IsBetweenLines disk middle
  pub rounds : InEachView disk old (λ here seen. RoundsSoFar here seen old before middle now)

module _ {D : Type 0} (disk : DiskMeaning D) (old : Scene D) (before : List ℕ) where
  pub no_round_yet : IsBetweenLines disk old → RoundsInEach disk old before old before
  no_round_yet between = record {
    between = between;
    rounds = λ decls granted seen is. rounds_first (run_setting disk decls old.limit granted) seen old before is;
  }

  pub settled_between : SceneIsCarried disk → (new : Scene D) (after : List ℕ) → IsBetweenLines disk old → SettlesRounds disk old (done tt) new before after
      → IsBetweenLines disk new
  settled_between law new after between settles =
      between_parts disk law old new before after (λ here. part.Rounds ∷ []) (λ here. (refl, tt)) between
      (λ decls granted seen is. (settles decls granted seen is).0)

  module _ (middle new : Scene D) (now after : List ℕ) (so : RoundsInEach disk old before middle now) where
    round_next : (IsSo : Setting D → Seen D → Type 0) (decls : Decls) (granted : Bool) (seen : Seen D) (is : IsSeenAs (run_setting disk decls old.limit granted) seen old)
        → InEachView disk middle IsSo → IsSo (run_setting disk decls old.limit granted) (so.rounds decls granted seen is).next
    round_next IsSo decls granted seen is each =
        let rounds : RoundsSoFar (run_setting disk decls old.limit granted) seen old before middle now = so.rounds decls granted seen is in
        at_limit disk middle IsSo old.limit decls granted rounds.next each rounds.through.limit rounds.through.is

    pub round_more : SceneIsCarried disk → (came : Bool)
        → InEachView disk middle (λ here seen. DoesRow here seen middle new now after (round here.decls) came (IsStill here seen)) → RoundsInEach disk old before new after
    round_more law came each = record {
      between = between_parts disk law middle new now after (λ here. round here.decls) (λ here. round_none here.decls) so.between
          (λ decls granted seen is. (each decls granted seen is).does);
      rounds = λ decls granted seen is.
          (let here : Setting D = run_setting disk decls old.limit granted in
          let rounds : RoundsSoFar here seen old before middle now = so.rounds decls granted seen is in
          rounds_more here seen old before middle new now after rounds
          (round_next (λ here seen. DoesRow here seen middle new now after (round here.decls) came (IsStill here seen)) decls granted seen is each).does);
    }

    pub round_last : (came : Bool) → came ≡ false → InEachView disk middle (λ here seen. DoesRow here seen middle new now after (round here.decls) came (IsStill here seen))
        → SettlesRounds disk old (done tt) new before after
    round_last came none each decls granted seen is =
        let here : Setting D = run_setting disk decls old.limit granted in
        let rounds : RoundsSoFar here seen old before middle now = so.rounds decls granted seen is in
        let row : DoesRow here rounds.next middle new now after (round here.decls) came (IsStill here rounds.next) =
        round_next (λ here seen. DoesRow here seen middle new now after (round here.decls) came (IsStill here seen)) decls granted seen is each in
        let quiet : (row.does.turns ≡ []) × IsStill here rounds.next = row.quiet none in
        rounds_still here seen old before middle new now after rounds row.does quiet.0 quiet.1

    pub round_ended : (why : WorldStop) → InEachView disk middle (λ here seen. EndsInParts here seen middle new now after (round here.decls) why)
        → SettlesRounds disk old (ended why) new before after
    round_ended why each decls granted seen is =
        let here : Setting D = run_setting disk decls old.limit granted in
        let rounds : RoundsSoFar here seen old before middle now = so.rounds decls granted seen is in
        rounds_end here seen old before middle new now after rounds why
        (round_next (λ here seen. EndsInParts here seen middle new now after (round here.decls) why) decls granted seen is each)

    pub rounds_exhausted : SettlesRounds disk old (ended stop.Memory) middle before now
    rounds_exhausted decls granted seen is =
        let here : Setting D = run_setting disk decls old.limit granted in
        let rounds : RoundsSoFar here seen old before middle now = so.rounds decls granted seen is in
        rounds_end here seen old before middle middle now now rounds stop.Memory
        (once_ends here rounds.next middle middle now now (round here.decls) stop.Memory (wanting_at here rounds.next middle now rounds.through.is))

-- an operation came on each of the first so many devices, or none may
pub record EachInEach {D : Type 0} (disk : DiskMeaning D) (old middle : Scene D) (count : ℕ) (came : Bool) : Type 0 where
  pub between : IsBetweenLines disk middle
  pub long : length middle.links.links ≡ length old.links.links
  pub each : InEachView disk old (λ here seen. DoesRow here seen old middle [] [] (each_of count) came (NoneBefore here seen old count))

-- the parts of all devices in a round
abbrev pub operations_of : {D : Type 0} → Setting D → List Part
operations_of here = flat_map (λ device. part.Operation device ∷ part.Hearing device ∷ []) (declared here.decls)

neither : (a b : Bool) → (a || b) ≡ false → (a ≡ false) × (b ≡ false)
neither false false is = (refl, refl)
neither false true is = absurd (false≢true (sym is))
neither true b is = absurd (false≢true (sym is))

none_of : (a p t : Bool) → (a || (p || t)) ≡ false → (a ≡ false) × (p ≡ false) × (t ≡ false)
none_of false false false is = (refl, refl, refl)
none_of false false true is = absurd (false≢true (sym is))
none_of false true t is = absurd (false≢true (sym is))
none_of true p t is = absurd (false≢true (sym is))

module _ {D : Type 0} (disk : DiskMeaning D) (old : Scene D) where
  pub no_device_yet : IsBetweenLines disk old → EachInEach disk old old 0 false
  no_device_yet between = record {
    between = between;
    long = refl;
    each = λ decls granted seen is. each_first (run_setting disk decls old.limit granted) seen old is;
  }

  pub each_last : (new : Scene D) (count : ℕ) (came : Bool) → count ≡ length old.links.links → EachInEach disk old new count came
      → RowOrQuiet disk operations_of NoneOrdered old (went came) new [] []
  each_last new count came all so decls granted seen is =
      let here : Setting D = run_setting disk decls old.limit granted in
      let whole : count ≡ length here.decls.names = all ∙ links_long here seen old is in
      each_whole here seen old new came is
      (subst (λ (n : ℕ). DoesRow here seen old new [] [] (each_of n) came (NoneBefore here seen old n)) whole (so.each decls granted seen is))

  module _ (middle new : Scene D) (count : ℕ) (came : Bool) (so : EachInEach disk old middle count came) where
    each_at : (IsSo : Setting D → Seen D → Type 0) (decls : Decls) (granted : Bool) (seen : Seen D) (is : IsSeenAs (run_setting disk decls old.limit granted) seen old)
        → InEachView disk middle IsSo → IsSo (run_setting disk decls old.limit granted) (so.each decls granted seen is).does.next
    each_at IsSo decls granted seen is each =
        let row : DoesRow (run_setting disk decls old.limit granted) seen old middle [] [] (each_of count) came (NoneBefore (run_setting disk decls old.limit granted) seen old count) =
        so.each decls granted seen is in
        at_limit disk middle IsSo old.limit decls granted row.does.next each row.does.through.limit row.does.through.is

    pub each_more : SceneIsCarried disk → (some : Bool) → InEachView disk middle (λ here seen. MayDoOperation here seen middle new [] [] count some)
        → EachInEach disk old new (count + 1) (came || some)
    each_more law some each =
        let row_there : (decls : Decls) (granted : Bool) (seen : Seen D) → IsSeenAs (run_setting disk decls middle.limit granted) seen middle
        → DoesParts (run_setting disk decls middle.limit granted) seen middle new [] [] (part.Operation count ∷ part.Hearing count ∷ []) =
        λ decls granted seen is. (operation_does (run_setting disk decls middle.limit granted) seen middle new count some (each decls granted seen is)).does in
        let sound : IsSoundScene disk middle = so.between.0 in
        let there : Setting D = run_setting disk sound.0 middle.limit sound.1 in
        let did : DoesParts there sound.2 middle new [] [] (part.Operation count ∷ part.Hearing count ∷ []) = row_there sound.0 sound.1 sound.2 sound.3 in
        record {
          between = between_parts disk law middle new [] [] (λ here. part.Operation count ∷ part.Hearing count ∷ []) (λ here. (refl, (refl, tt))) so.between row_there;
          long = links_long there did.next new did.through.is ∙ sym (links_long there sound.2 middle sound.3) ∙ so.long;
          each = λ decls granted seen is.
              (let here : Setting D = run_setting disk decls old.limit granted in
              let row : DoesRow here seen old middle [] [] (each_of count) came (NoneBefore here seen old count) = so.each decls granted seen is in
              each_then here seen old count middle new came some (came || some) row
              (operation_does here row.does.next middle new count some (each_at (λ here seen. MayDoOperation here seen middle new [] [] count some) decls granted seen is each))
              (neither came some));
        }

    pub each_ended : (why : WorldStop) → count < length old.links.links → InEachView disk middle (λ here seen. EndsAtOnce here seen middle new [] [] why)
        → RowOrQuiet disk operations_of NoneOrdered old (stopped why) new [] []
    each_ended why below each decls granted seen is =
        let here : Setting D = run_setting disk decls old.limit granted in
        let row : DoesRow here seen old middle [] [] (each_of count) came (NoneBefore here seen old count) = so.each decls granted seen is in
        each_ends here seen old count middle new came why row (subst (λ (n : ℕ). count < n) (links_long here seen old is) below)
        (once_ends here row.does.next middle new [] [] (part.Operation count ∷ part.Hearing count ∷ []) why
        (each_at (λ here seen. EndsAtOnce here seen middle new [] [] why) decls granted seen is each))

-- all operations of the first so many devices came
pub record MendsInEach {D : Type 0} (disk : DiskMeaning D) (old middle : Scene D) (count : ℕ) : Type 0 where
  pub sound : IsSoundScene disk middle
  pub long : length middle.links.links ≡ length old.links.links
  pub mends : InEachView disk old (λ here seen. DoesParts here seen old middle [] [] (map part.Operations (range_with_len 0 count)))

module _ {D : Type 0} (disk : DiskMeaning D) (old : Scene D) where
  pub none_mended : IsSoundScene disk old → MendsInEach disk old old 0
  none_mended sound = record {
    sound = sound;
    long = refl;
    mends = λ decls granted seen is. mends_first (run_setting disk decls old.limit granted) seen old is;
  }

  pub mends_last : (new : Scene D) (count : ℕ) → count ≡ length old.links.links → MendsInEach disk old new count
      → RowOrEnd disk (λ here. map part.Operations (declared here.decls)) old (done tt) new [] []
  mends_last new count all so decls granted seen is =
      let here : Setting D = run_setting disk decls old.limit granted in
      subst (λ (n : ℕ). DoesParts here seen old new [] [] (map part.Operations (range_with_len 0 n))) (all ∙ links_long here seen old is) (so.mends decls granted seen is)

  module _ (middle new : Scene D) (count : ℕ) (so : MendsInEach disk old middle count) where
    mends_at : (IsSo : Setting D → Seen D → Type 0) (decls : Decls) (granted : Bool) (seen : Seen D) (is : IsSeenAs (run_setting disk decls old.limit granted) seen old)
        → InEachView disk middle IsSo → IsSo (run_setting disk decls old.limit granted) (so.mends decls granted seen is).next
    mends_at IsSo decls granted seen is each =
        let row : DoesParts (run_setting disk decls old.limit granted) seen old middle [] [] (map part.Operations (range_with_len 0 count)) = so.mends decls granted seen is in
        at_limit disk middle IsSo old.limit decls granted row.next each row.through.limit row.through.is

    pub mends_more : RowOrEnd disk (λ here. part.Operations count ∷ []) middle (done tt) new [] [] → MendsInEach disk old new (count + 1)
    mends_more each =
        let sound : IsSoundScene disk middle = so.sound in
        let there : Setting D = run_setting disk sound.0 middle.limit sound.1 in
        let did : DoesParts there sound.2 middle new [] [] (part.Operations count ∷ []) = each sound.0 sound.1 sound.2 sound.3 in
        record {
          sound = sound_at disk new middle.limit sound.0 sound.1 did.next did.through.limit did.through.is;
          long = links_long there did.next new did.through.is ∙ sym (links_long there sound.2 middle sound.3) ∙ so.long;
          mends = λ decls granted seen is.
              (let here : Setting D = run_setting disk decls old.limit granted in
              let row : DoesParts here seen old middle [] [] (map part.Operations (range_with_len 0 count)) = so.mends decls granted seen is in
              mends_then here seen old count middle new row
              (mends_at (λ here seen. DoesParts here seen middle new [] [] (part.Operations count ∷ [])) decls granted seen is each));
        }

    pub mends_ended : (why : WorldStop) → count < length old.links.links → RowOrEnd disk (λ here. part.Operations count ∷ []) middle (ended why) new [] []
        → RowOrEnd disk (λ here. map part.Operations (declared here.decls)) old (ended why) new [] []
    mends_ended why below each decls granted seen is =
        let here : Setting D = run_setting disk decls old.limit granted in
        let row : DoesParts here seen old middle [] [] (map part.Operations (range_with_len 0 count)) = so.mends decls granted seen is in
        mends_end here seen old count middle new why row (subst (λ (n : ℕ). count < n) (links_long here seen old is) below)
        (mends_at (λ here seen. EndsInParts here seen middle new [] [] (part.Operations count ∷ []) why) decls granted seen is each)

-- a row that printed nothing, whatever was printed before it
pub parts_printing : {D : Type 0} (here : Setting D) (seen : Seen D) (old new : Scene D) (before : List ℕ) (parts : List Part) → DoesParts here seen old new [] [] parts
    → DoesParts here seen old new before before parts
parts_printing here seen old new before parts does = record {
  turns = does.turns;
  next = does.next;
  goes = does.goes;
  through = does.through;
  prints = prints_nothing here before does.turns does.prints;
}

most_printing : {D : Type 0} (here : Setting D) (before : List ℕ) (turns : List (Turn D)) (why : WorldStop) → PrintsMost here.decls why [] [] turns → PrintsMost here.decls why before before turns
most_printing here before turns stop.Memory most = (most.0, most.1, most.2, most.3, prints_nothing here before most.0 most.4)
most_printing here before turns stop.JournalFault most = prints_nothing here before turns most
most_printing here before turns (stop.Full len) most = prints_nothing here before turns most
most_printing here before turns (stop.Foreign at) most = prints_nothing here before turns most
most_printing here before turns stop.NotJournal most = prints_nothing here before turns most
most_printing here before turns (stop.Damaged at) most = prints_nothing here before turns most

pub ends_printing : {D : Type 0} (here : Setting D) (seen : Seen D) (old new : Scene D) (before : List ℕ) (parts : List Part) (why : WorldStop) → EndsInParts here seen old new [] [] parts why
    → EndsInParts here seen old new before before parts why
ends_printing here seen old new before parts why ends = record {
  turns = ends.turns;
  last = ends.last;
  goes = ends.goes;
  because = ends.because;
  ended = ends.ended;
  prints = most_printing here before ends.turns why ends.prints;
}

-- a round of its three parts
module _ {D : Type 0} (disk : DiskMeaning D) (old one two new : Scene D) (first second third : List ℕ) (a p t : Bool) where
  abbrev pub Admits : Type 0
  Admits = InEachView disk old (λ here seen. DoesRow here seen old one first second (part.Admissions ∷ []) a (NoneOf here seen part.Admission))

  abbrev pub Performs : Type 0
  Performs = InEachView disk one (λ here seen. DoesRow here seen one two [] [] (operations_of here) p (NoneOrdered here seen))

  pub round_whole : Admits → Performs → InEachView disk two (λ here seen. DoesRow here seen two new second third (part.Decisions ∷ []) t (NoneOf here seen part.Decisions))
      → RowOrQuiet disk (λ here. round here.decls) IsStill old (went (a || (p || t))) new first third
  round_whole admits performs decides decls granted seen is =
      let here : Setting D = run_setting disk decls old.limit granted in
      let f : DoesRow here seen old one first second (part.Admissions ∷ []) a (NoneOf here seen part.Admission) = admits decls granted seen is in
      let g : DoesRow here f.does.next one two [] [] (operations_of here) p (NoneOrdered here f.does.next) =
      at_limit disk one (λ here seen. DoesRow here seen one two [] [] (operations_of here) p (NoneOrdered here seen)) old.limit decls granted f.does.next performs f.does.through.limit f.does.through.is in
      let h : DoesRow here g.does.next two new second third (part.Decisions ∷ []) t (NoneOf here g.does.next part.Decisions) =
      at_limit disk two (λ here seen. DoesRow here seen two new second third (part.Decisions ∷ []) t (NoneOf here seen part.Decisions)) old.limit decls granted g.does.next decides
      (g.does.through.limit ∙ f.does.through.limit) g.does.through.is in
      round_does here seen old one two new first second third a p t (a || (p || t)) f g h
      (none_of a p t)

-- the run ended in one of them
module _ {D : Type 0} (disk : DiskMeaning D) (old one new : Scene D) (first second : List ℕ) (why : WorldStop) where
  pub round_ended_first : RowOrQuiet disk (λ here. part.Admissions ∷ []) (λ here seen. NoneOf here seen part.Admission) old (stopped why) new first second
      → RowOrQuiet disk (λ here. round here.decls) IsStill old (stopped why) new first second
  round_ended_first ends decls granted seen is =
      round_ends_first (run_setting disk decls old.limit granted) seen old new first second why (ends decls granted seen is)

  pub round_ended_second : (a : Bool) → InEachView disk old (λ here seen. DoesRow here seen old one first second (part.Admissions ∷ []) a (NoneOf here seen part.Admission))
      → RowOrQuiet disk operations_of NoneOrdered one (stopped why) new [] [] → RowOrQuiet disk (λ here. round here.decls) IsStill old (stopped why) new first second
  round_ended_second a admits ends decls granted seen is =
      let here : Setting D = run_setting disk decls old.limit granted in
      let f : DoesRow here seen old one first second (part.Admissions ∷ []) a (NoneOf here seen part.Admission) = admits decls granted seen is in
      let g : EndsInParts here f.does.next one new [] [] (operations_of here) why =
      at_limit disk one (λ here seen. EndsInParts here seen one new [] [] (operations_of here) why) old.limit decls granted f.does.next ends f.does.through.limit f.does.through.is in
      round_ends_second here seen old one new first second why f.does (ends_printing here f.does.next one new second (operations_of here) why g)

module _ {D : Type 0} (disk : DiskMeaning D) (old one two new : Scene D) (first second third : List ℕ) (why : WorldStop) where
  pub round_ended_third : (a p : Bool) → InEachView disk old (λ here seen. DoesRow here seen old one first second (part.Admissions ∷ []) a (NoneOf here seen part.Admission))
      → InEachView disk one (λ here seen. DoesRow here seen one two [] [] (operations_of here) p (NoneOrdered here seen))
      → RowOrQuiet disk (λ here. part.Decisions ∷ []) (λ here seen. NoneOf here seen part.Decisions) two (stopped why) new second third
      → RowOrQuiet disk (λ here. round here.decls) IsStill old (stopped why) new first third
  round_ended_third a p admits performs ends decls granted seen is =
      let here : Setting D = run_setting disk decls old.limit granted in
      let f : DoesRow here seen old one first second (part.Admissions ∷ []) a (NoneOf here seen part.Admission) = admits decls granted seen is in
      let g : DoesRow here f.does.next one two [] [] (operations_of here) p (NoneOrdered here f.does.next) =
      at_limit disk one (λ here seen. DoesRow here seen one two [] [] (operations_of here) p (NoneOrdered here seen)) old.limit decls granted f.does.next performs f.does.through.limit f.does.through.is in
      let h : EndsInParts here g.does.next two new second third (part.Decisions ∷ []) why =
      at_limit disk two (λ here seen. EndsInParts here seen two new second third (part.Decisions ∷ []) why) old.limit decls granted g.does.next ends
      (g.does.through.limit ∙ f.does.through.limit) g.does.through.is in
      round_ends_third here seen old one two new first second third why f.does
      (record {
        turns = g.does.turns;
        next = g.does.next;
        goes = g.does.goes;
        through = g.does.through;
        prints = prints_nothing here second g.does.turns g.does.prints;
      }) h

-- after a row that begins no reconciliation the world is between lines
pub row_between : {D : Type 0} (disk : DiskMeaning D) → SceneIsCarried disk → (old new : Scene D) (before after : List ℕ) (parts : Setting D → List Part) (IsSo : Setting D → Seen D → Type 0) (came : Bool)
    → ((here : Setting D) → BeginsNone (parts here)) → IsBetweenLines disk old → RowOrQuiet disk parts IsSo old (went came) new before after → IsBetweenLines disk new
row_between disk law old new before after parts IsSo came none between each =
    between_parts disk law old new before after parts none between (λ decls granted seen is. (each decls granted seen is).does)

-- there are few devices
pub few_devices : {D : Type 0} (disk : DiskMeaning D) (old : Scene D) → IsSoundScene disk old → length old.links.links ≤ 256
few_devices disk old sound =
    let here = run_setting disk sound.0 old.limit sound.1 in
    let is : IsSeenAs here sound.2 old = sound.3 in
    subst (λ (n : ℕ). n ≤ 256)
    (sym (links_long here sound.2 old is ∙ ap (λ (names : List (List ℕ)). length names) is.decls.named ∙ length-map here.decls.devices (λ (device : Device). device.name)))
    is.decls.few
