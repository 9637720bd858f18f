-- Rows of parts in calls, one call after another.
use Rattle.std.proofs.Common.{[], ◌≡◌, inl, inr, ℕ, Bool, false, None, List, ◌∷◌, ◌++◌, map, sym, ap, subst, ◌∙◌, append-nil}
use Rattle.std.specs.Prelude.{Result, Ok, Err, MatchResult, is_some}
use Rattle.std.proofs.lemmas.Bool.{false≢true}
use Rattle.std.proofs.lemmas.Option.{none-some}
use Rattle.orc_decls.specs.declared.declarations.Decls.{Decls}
use Rattle.orc_disk.specs.Meanings.{DiskMeaning}
use Rattle.orc_rules.specs.Worlds.{Setting, World as Seen, declared}
use Rattle.orc_rules.specs.declared.event.Event.{Event}
use Rattle.orc_runs.specs.Scripts.{Goes, IsOf, NoneOf, Part, Part as part, comes_again}
use Rattle.orc_scene.specs.Effects.{hub_in}
use Rattle.orc_scene.specs.Courses.{DoesParts, DoesTurn, EndsInParts, HasEvents, InEachView, RowOrEnd, TurnOrEnd, events_in}
use Rattle.orc_scene.specs.Stands.{IsSeenAs, IsSoundScene, run_setting}
use Rattle.orc_scene.specs.declared.stop.WorldStop.{WorldStop}
use Rattle.orc_scene.specs.declared.stop.WorldStop.TheVariants as stop
use Rattle.orc_scene.specs.declared.scene.Scene.{Scene}
use Rattle.orc_scene.proofs.Apiece.{any_none, once_ends}
use Rattle.orc_scene.proofs.Joining.{at_limit}
use Rattle.orc_world.proofs.Joining.{ends_more, ends_then, parts_then}
use Rattle.orc_scene.proofs.Lasted.{done, ended, wanting_at}
use Rattle.orc_world.proofs.Lasted.{ends_printing, parts_printing}
use Rattle.orc_scene.proofs.Looping.{through_none}
use Rattle.orc_scene.proofs.Resting.{sound_at}
use Rattle.orc_scene.proofs.Seeing.{seen_same}
use Rattle.orc_scene.proofs.Stepping.{ends_roomless, through_from}
use Rattle.orc_scene.proofs.Rowing.{none_up, turn_ends, turn_parts}

module _ {D : Type 0} (here : Setting D) (seen : Seen D) (old middle new : Scene D) (before after : List ℕ) where
  -- what came after room was made came in the whole
  module _ (same : HasEvents old middle old.events.items.items) (parts : List Part) where
    pub parts_from : DoesParts here seen middle new before after parts → DoesParts here seen old new before after parts
    parts_from does = record {
      turns = does.turns;
      next = does.next;
      goes = does.goes;
      through = through_from here seen old middle new same does.turns does.next does.through;
      prints = does.prints;
    }

    pub ends_parts_from : (why : WorldStop) → EndsInParts here seen middle new before after parts why → EndsInParts here seen old new before after parts why
    ends_parts_from why ends = record {
      turns = ends.turns;
      last = ends.last;
      goes = ends.goes;
      because = ends.because;
      ended = record {
        disk = ends.ended.disk;
        events = ends.ended.events ∙ ap (λ (es : List Event). es ++ events_in ends.turns) same.events_are;
        at_last = ends.ended.at_last;
      };
      prints = ends.prints;
    }

module _ {D : Type 0} (disk : DiskMeaning D) where
  -- a call for one turn
  pub turn_row : (one : Part) → comes_again one ≡ false → (old new : Scene D) (before after : List ℕ) (result : Result (Unit {0}) WorldStop) → TurnOrEnd disk one old result new before after
      → RowOrEnd disk (λ here. one ∷ []) old result new before after
  turn_row one single old new before after (Ok value) each = λ decls granted seen is.
      turn_parts (run_setting disk decls old.limit granted) seen old old new before after one single (each decls granted seen is)
  turn_row one single old new before after (Err why) each = λ decls granted seen is.
      turn_ends (run_setting disk decls old.limit granted) seen old old new before after one single why (each decls granted seen is)

  -- a call after room was made
  pub room_row : (parts : Setting D → List Part) (old middle new : Scene D) (before after : List ℕ) (result : Result (Unit {0}) WorldStop) → HasEvents old middle old.events.items.items
      → RowOrEnd disk parts middle result new before after → RowOrEnd disk parts old result new before after
  room_row parts old middle new before after result same each = λ decls granted seen is.
      by result decls granted seen is (λ IsSo seen_each. at_limit disk middle IsSo old.limit decls granted seen seen_each same.limit
      (seen_same (run_setting disk decls old.limit granted) seen old middle same.limit same.place same.links same.snapshots is)) each
    where
      by : (result : Result (Unit {0}) WorldStop) (decls : Decls) (granted : Bool) (seen : Seen D) (is : IsSeenAs (run_setting disk decls old.limit granted) seen old)
          → ((IsSo : Setting D → Seen D → Type 0) → InEachView disk middle IsSo → IsSo (run_setting disk decls old.limit granted) seen)
          → RowOrEnd disk parts middle result new before after
          → MatchResult result (λ value. DoesParts (run_setting disk decls old.limit granted) seen old new before after (parts (run_setting disk decls old.limit granted)))
          (λ why. EndsInParts (run_setting disk decls old.limit granted) seen old new before after (parts (run_setting disk decls old.limit granted)) why)
      by (Ok value) decls granted seen is there each =
          parts_from (run_setting disk decls old.limit granted) seen old middle new before after same (parts (run_setting disk decls old.limit granted))
          (there (λ here seen. DoesParts here seen middle new before after (parts here)) each)
      by (Err why) decls granted seen is there each =
          ends_parts_from (run_setting disk decls old.limit granted) seen old middle new before after same (parts (run_setting disk decls old.limit granted)) why
          (there (λ here seen. EndsInParts here seen middle new before after (parts here) why) each)

  -- a call that printed nothing, whatever was printed before
  pub printing_row : (parts : Setting D → List Part) (old new : Scene D) (before : List ℕ) (result : Result (Unit {0}) WorldStop) → RowOrEnd disk parts old result new [] []
      → RowOrEnd disk parts old result new before before
  printing_row parts old new before (Ok value) each = λ decls granted seen is.
      parts_printing (run_setting disk decls old.limit granted) seen old new before (parts (run_setting disk decls old.limit granted)) (each decls granted seen is)
  printing_row parts old new before (Err why) each = λ decls granted seen is.
      ends_printing (run_setting disk decls old.limit granted) seen old new before (parts (run_setting disk decls old.limit granted)) why (each decls granted seen is)

  -- a row, and then another one
  pub row_then : (first second : Setting D → List Part) (old middle new : Scene D) (one two three : List ℕ) (result : Result (Unit {0}) WorldStop)
      → RowOrEnd disk first old (done tt) middle one two → RowOrEnd disk second middle result new two three
      → RowOrEnd disk (λ here. first here ++ second here) old result new one three
  row_then first second old middle new one two three (Ok value) begins each = λ decls granted seen is.
      (let here : Setting D = run_setting disk decls old.limit granted in
      let f : DoesParts here seen old middle one two (first here) = begins decls granted seen is in
      parts_then here seen old middle new one two three (first here) (second here) f
      (at_limit disk middle (λ here seen. DoesParts here seen middle new two three (second here)) old.limit decls granted f.next each f.through.limit f.through.is))
  row_then first second old middle new one two three (Err why) begins each = λ decls granted seen is.
      (let here : Setting D = run_setting disk decls old.limit granted in
      let f : DoesParts here seen old middle one two (first here) = begins decls granted seen is in
      ends_then here seen old middle new one two three (first here) (second here) why f
      (at_limit disk middle (λ here seen. EndsInParts here seen middle new two three (second here) why) old.limit decls granted f.next each f.through.limit f.through.is))

  -- the run ended in the first of two rows
  pub row_ended : (first second : Setting D → List Part) (old new : Scene D) (one two : List ℕ) (why : WorldStop) → RowOrEnd disk first old (ended why) new one two
      → RowOrEnd disk (λ here. first here ++ second here) old (ended why) new one two
  row_ended first second old new one two why each = λ decls granted seen is.
      ends_more (run_setting disk decls old.limit granted) seen old new one two (first (run_setting disk decls old.limit granted)) (second (run_setting disk decls old.limit granted)) why
      (each decls granted seen is)

  -- the run ended before a row, since memory ran out
  pub row_wanting : (parts : Setting D → List Part) (old : Scene D) (before : List ℕ) → RowOrEnd disk parts old (ended stop.Memory) old before before
  row_wanting parts old before = λ decls granted seen is.
      once_ends (run_setting disk decls old.limit granted) seen old old before before (parts (run_setting disk decls old.limit granted)) stop.Memory
      (wanting_at (run_setting disk decls old.limit granted) seen old before is)

  pub row_roomless : (parts : Setting D → List Part) (old middle : Scene D) (before : List ℕ) (why : WorldStop) → why ≡ stop.Memory → HasEvents old middle old.events.items.items
      → RowOrEnd disk parts old (ended why) middle before before
  row_roomless parts old middle before why memory same = λ decls granted seen is.
      once_ends (run_setting disk decls old.limit granted) seen old middle before before (parts (run_setting disk decls old.limit granted)) why
      (ends_roomless (run_setting disk decls old.limit granted) seen old middle middle same why before memory is)

  -- a turn leaves a world that the rules see
  pub sound_turn : (one : Part) (old new : Scene D) (before after : List ℕ) → IsSoundScene disk old → TurnOrEnd disk one old (done tt) new before after → IsSoundScene disk new
  sound_turn one old new before after sound each =
      let here : Setting D = run_setting disk sound.0 old.limit sound.1 in
      let does : DoesTurn here sound.2 old new before after one = each sound.0 sound.1 sound.2 sound.3 in
      sound_at disk new old.limit sound.0 sound.1 does.turn.behind does.through.limit does.through.is

module _ {D : Type 0} (here : Setting D) (seen : Seen D) (down : seen.hub ≡ None) where
  -- no operation may come
  none_operates : (device : ℕ) → NoneOf here seen (part.Operations device)
  none_operates device one of (inl (hub, row, next, up, does)) = absurd (none-some hub (sym down ∙ up))
  none_operates device one of (inr (inl (next, does))) = any_none here seen device one next of does
  none_operates device one of (inr (inr (recovers, none))) = subst (λ (e : Event). IsOf (part.Operations device) e) recovers of

  each_nothing : (devices : List ℕ) → Goes here false (map part.Operations devices ++ part.Ending ∷ []) seen [] seen
  each_nothing [] = Goes.none part.Ending [] seen seen [] (λ hub met up begun. none-some hub (sym down ∙ up)) (Goes.whole seen)
  each_nothing (device ∷ devices) = Goes.none (part.Operations device) (map part.Operations devices ++ part.Ending ∷ []) seen seen [] (none_operates device) (each_nothing devices)

  -- no reconciliation begins where no hub is up
  pub mends_nothing : (devices : List ℕ) → Goes here false (part.Beginning ∷ map part.Operations devices ++ part.Ending ∷ []) seen [] seen
  mends_nothing devices = Goes.none part.Beginning (map part.Operations devices ++ part.Ending ∷ []) seen seen [] (λ hub up. none-some hub (sym down ∙ up)) (each_nothing devices)

-- a reconciliation of each device, where no hub is up
pub mends_down : {D : Type 0} (disk : DiskMeaning D) (old : Scene D) (before : List ℕ) → is_some (hub_in old.place) ≡ false
    → RowOrEnd disk (λ here. part.Beginning ∷ map part.Operations (declared here.decls) ++ part.Ending ∷ []) old (done tt) old before before
mends_down {D = D} disk old before down = λ decls granted seen is.
    (let here : Setting D = run_setting disk decls old.limit granted in
    record {
      turns = [];
      next = seen;
      goes = mends_nothing here seen (none_up here seen old.place is.place down) (declared here.decls);
      through = through_none here seen old is;
      prints = sym (append-nil before);
    })
