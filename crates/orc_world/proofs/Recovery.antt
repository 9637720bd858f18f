-- A line `recover`.
use Rattle.std.proofs.Common.{[], ◌≡◌, ◌≤◌, ◌⊎◌, inl, inr, ℕ, Bool, true, false, Option, Some, None, List, ◌∷◌, ◌++◌, length, is_some, refl, sym, ap, subst, ◌∙◌, append-nil, arith}
use Rattle.std.specs.Prelude.{MatchResult, Result}
use Rattle.std.specs.declared.result.Result.TheVariants.{Ok, Err}
use Rattle.std.proofs.lemmas.Bool.{false≢true}
use Rattle.orc_disk.specs.Meanings.{DiskMeaning}
use Rattle.orc_print.specs.Printed.{recovered_line}
use Rattle.orc_rules.specs.Events.{Comes, Turn}
use Rattle.orc_rules.specs.Journals.{history_read}
use Rattle.orc_rules.specs.Worlds.{Setting, World as Seen}
use Rattle.orc_rules.specs.declared.event.Event.{Event}
use Rattle.orc_rules.specs.declared.event.Event.TheVariants as event
use Rattle.orc_runs.specs.Ends.{EndedBecause}
use Rattle.orc_runs.specs.Runs.{SaysAllTurns}
use Rattle.orc_runs.specs.Scripts.{Goes, IsOf, Part as part, Shows, said, said_in}
use Rattle.orc_script.specs.declared.step.ScriptStep.TheVariants as step
use Rattle.orc_scene.specs.Effects.{hub_in}
use Rattle.orc_scene.specs.Courses.{EndAtLast, EndsWith, GoesThrough, GoesTurn, HasEvents, StopsController}
use Rattle.orc_world.specs.Lines.{DoesLine, EndsInLine}
use Rattle.orc_scene.specs.Stands.{IsSeenAs, IsSoundScene, run_setting}
use Rattle.orc_scene.specs.RunEnds.{end_of_run}
use Rattle.orc_scene.specs.declared.stop.WorldStop.{WorldStop}
use Rattle.orc_scene.specs.declared.stop.WorldStop.TheVariants as stop
use Rattle.orc_scene.specs.declared.scene.Scene.{Scene}
use Rattle.orc_world.proofs.Downs.{no_stop}
use Rattle.orc_scene.proofs.Joining.{at_limit}
use Rattle.orc_world.proofs.Joining.{because_more, flat_then, through_then, with_then}
use Rattle.orc_scene.proofs.Looping.{at_last_none, through_none}
use Rattle.orc_scene.proofs.Resting.{sound_at}
use Rattle.orc_scene.proofs.Seeing.{place_disk, seen_same}
use Rattle.orc_scene.proofs.Stepping.{through_from}
use Rattle.orc_world.proofs.Times.{unended}
use Rattle.orc_world.proofs.Unsaid.{says_all}
use Rattle.orc_scene.proofs.Recovery.{ComesBack}

-- a single turn is the last one
last_of_one : {D : Type 0} (turn : Turn D) → EndAtLast (turn ∷ [])
last_of_one turn [] later one is ends = let rest : [] ≡ later = cc in sym rest
last_of_one {D} turn (first ∷ earlier) later one is ends = absurd (no_more earlier later one (let rest : [] ≡ earlier ++ one ∷ later = cc in rest))
  where
    no_more : (xs ys : List (Turn D)) (x : Turn D) → [] ≡ xs ++ x ∷ ys → ⊥
    no_more [] ys x e = absurd cc
    no_more (y ∷ xs) ys x e = absurd cc

-- only a recovery is one
is_meant : (meant : Event) → IsOf part.Recovery meant → meant ≡ event.Recover
is_meant event.Recover is = refl
is_meant (event.Begin caller front) is = absurd is
is_meant (event.Submit call front given) is = absurd is
is_meant (event.Admit t given) is = absurd is
is_meant (event.Perform device op reply count) is = absurd is
is_meant (event.Unsent device) is = absurd is
is_meant (event.Report device op reply count) is = absurd is
is_meant (event.Decide t given) is = absurd is
is_meant (event.Settle t) is = absurd is
is_meant (event.Tick seconds) is = absurd is
is_meant (event.Restart device) is = absurd is
is_meant event.Stop is = absurd is
is_meant (event.Reconcile result) is = absurd is

module _ {D : Type 0} (here : Setting D) where
  recover_shows : (turns : List (Turn D)) (world : Seen D) → Shows here.decls step.Recover turns world []
  recover_shows [] world = refl
  recover_shows (turn ∷ turns) world = refl

  -- The line `recover`, after the stop of a controller that was up, or where none was.
  module _ (seen mid : Seen D) (old middle new : Scene D) (front : List (Turn D))
      (goes : (ended : Bool) (more : List (Turn D)) (last : Seen D) → Goes here ended (part.Recovery ∷ []) mid more last → Goes here ended (part.Stopping ∷ part.Recovery ∷ []) seen (front ++ more) last)
      (through : GoesThrough here old middle front mid) (silent : said_in here.decls step.Recover front ≡ []) where
    recovers_once : (ended : Bool) (turn : Turn D) → turn.before ≡ mid → Comes here turn → turn.meant ≡ event.Recover → Goes here ended (part.Stopping ∷ part.Recovery ∷ []) seen (front ++ turn ∷ []) turn.behind
    recovers_once ended turn first comes meant = goes ended (turn ∷ []) turn.behind
        (subst (λ (w : Seen D). Goes here ended (part.Recovery ∷ []) w (turn ∷ []) turn.behind) first
        (Goes.once part.Recovery [] turn [] turn.behind refl (subst (λ (e : Event). IsOf part.Recovery e) (sym meant) tt) tt comes (Goes.whole turn.behind)))

    -- the run ended in it
    ends_in : (turn : Turn D) → turn.before ≡ mid → Comes here turn → turn.meant ≡ event.Recover → (why : WorldStop) (before after : List ℕ)
        → EndedBecause here (turn ∷ []) (end_of_run why) → EndsWith here middle new (turn ∷ []) turn.behind
        → SaysAllTurns here.decls (record { step = step.Recover; before = seen; turns = front ++ turn ∷ []; behind = turn.behind; text = [] }) (end_of_run why)
        → after ≡ before → EndsInLine here step.Recover seen old new before after why
    ends_in turn first comes meant why before after because ends says out =
        let whole : EndsWith here old new (front ++ turn ∷ []) turn.behind = with_then here old middle new front (turn ∷ []) mid turn.behind through ends in
        record {
          turns = front ++ turn ∷ [];
          last = turn.behind;
          text = [];
          done = record {
            goes = recovers_once true turn first comes meant;
            prints = (front, turn ∷ [], refl, omega (arith), sym silent);
            ends = λ earlier later one is at. (refl, whole.at_last earlier later one is at);
          };
          because = because_more here front (turn ∷ []) (end_of_run why) because;
          says = says;
          disk = whole.disk;
          events = whole.events;
          printed = out ∙ sym (append-nil before);
        }

    pub recover_line : (before after : List ℕ) (result : Result (Unit {0}) WorldStop) → ComesBack here mid middle result new before after
        → MatchResult result (λ value. DoesLine here step.Recover seen old new before after) (λ why. EndsInLine here step.Recover seen old new before after why)
    recover_line before after (Ok value) (went, unmended, is_seen, printed) =
        let turns : List (Turn D) = front ++ went.turn ∷ [] in
        let all : GoesThrough here old new turns went.turn.behind = through_then here old middle new front (went.turn ∷ []) mid went.turn.behind through went.through in
        let words : List ℕ = recovered_line (length (history_read went.turn.behind.journal)) in
        let told : said_in here.decls step.Recover turns ≡ words =
        flat_then (λ turn. said here.decls.names step.Recover turn turn.seen) front (went.turn ∷ [])
        ∙ ap (λ (l : List ℕ). l ++ (said here.decls.names step.Recover went.turn went.turn.seen ++ [])) silent
        ∙ append-nil (said here.decls.names step.Recover went.turn went.turn.seen)
        ∙ ap (λ (o : Option Event). said here.decls.names step.Recover went.turn o) is_seen in
        record {
          turns = turns;
          next = went.turn.behind;
          text = words;
          done = record {
            goes = recovers_once false went.turn went.first went.comes (is_meant went.turn.meant went.is_of);
            prints = record { after = []; printed = sym told ∙ sym (append-nil (said_in here.decls step.Recover turns)); shows = recover_shows turns went.turn.behind };
            ends = unended here turns all.goes_on;
          };
          is = all.is;
          unmended = unmended;
          limit = all.limit;
          events = all.events;
          logs = all.logs;
          log = λ device wrong. absurd cc;
          printed = printed;
        }
    recover_line before after (Err why) (inl (ends, out)) =
        let turn : Turn D = record { before = mid; meant = event.Recover; seen = None; behind = ends.last } in
        ends_in turn refl ends.comes refl why before after ends.because
        (record { disk = ends.disk; events = ends.events ∙ sym (append-nil middle.events.items.items); at_last = last_of_one turn })
        (says_all here.decls (record { step = step.Recover; before = seen; turns = front ++ turn ∷ []; behind = ends.last; text = [] }) (end_of_run why)
        (sym (flat_then (λ (t : Turn D). said here.decls.names step.Recover t t.seen) front (turn ∷ []) ∙ append-nil (said_in here.decls step.Recover front) ∙ silent))) out
    recover_line before after (Err why) (inr (memory, went, out)) =
        ends_in went.turn went.first went.comes (is_meant went.turn.meant went.is_of) why before after
        (subst (λ (w : WorldStop). EndedBecause here (went.turn ∷ []) (end_of_run w)) (sym memory) tt)
        (record { disk = place_disk here went.turn.behind new.place went.through.is.place; events = went.through.events; at_last = at_last_none (went.turn ∷ []) went.through.goes_on })
        (subst (λ (w : WorldStop). SaysAllTurns here.decls (record { step = step.Recover; before = seen; turns = front ++ went.turn ∷ []; behind = went.turn.behind; text = [] }) (end_of_run w)) (sym memory) tt) out

  -- after the stop of a controller that was up
  pub behind_stop : (seen : Seen D) (old middle gone new : Scene D) (same : HasEvents old middle old.events.items.items) (went : GoesTurn here seen middle gone [] [] part.Stopping) → went.turn.seen ≡ Some event.Stop
      → (before after : List ℕ) (result : Result (Unit {0}) WorldStop) → ComesBack here went.turn.behind gone result new before after
      → MatchResult result (λ value. DoesLine here step.Recover seen old new before after) (λ why. EndsInLine here step.Recover seen old new before after why)
  behind_stop seen old middle gone new same went is_stop before after result comes =
      recover_line seen went.turn.behind old gone new (went.turn ∷ [])
      (λ ended more last goes. subst (λ (w : Seen D). Goes here ended (part.Stopping ∷ part.Recovery ∷ []) w (went.turn ∷ more) last) went.first
      (Goes.once part.Stopping (part.Recovery ∷ []) went.turn more last refl went.is_of tt went.comes goes))
      (through_from here seen old middle gone same (went.turn ∷ []) went.turn.behind went.through)
      (ap (λ (o : Option Event). said here.decls.names step.Recover went.turn o ++ []) is_stop) before after result comes

  -- a line `recover` where no controller was up
  pub without_stop : (seen : Seen D) (old middle new : Scene D) (same : HasEvents old middle old.events.items.items) → IsSeenAs here seen old → is_some (hub_in middle.place) ≡ false
      → (before after : List ℕ) (result : Result (Unit {0}) WorldStop) → ComesBack here seen middle result new before after
      → MatchResult result (λ value. DoesLine here step.Recover seen old new before after) (λ why. EndsInLine here step.Recover seen old new before after why)
  without_stop seen old middle new same is down before after result comes =
      let now : IsSeenAs here seen middle = seen_same here seen old middle same.limit same.place same.links same.snapshots is in
      recover_line seen seen old middle new []
      (λ ended more last goes. Goes.none part.Stopping (part.Recovery ∷ []) seen last more (no_stop here seen middle.place now.place down) goes)
      (through_from here seen old middle middle same [] seen (through_none here seen middle now)) refl before after result comes

-- a controller that stopped is in a sound world
pub sound_stopped : {D : Type 0} (disk : DiskMeaning D) (old middle gone : Scene D) → HasEvents old middle old.events.items.items → IsSoundScene disk old → StopsController disk middle gone → IsSoundScene disk gone
sound_stopped {D} disk old middle gone same sound stops =
    let here : Setting D = run_setting disk sound.0 old.limit sound.1 in
    let now : IsSeenAs here sound.2 middle = seen_same here sound.2 old middle same.limit same.place same.links same.snapshots sound.3 in
    let went = at_limit disk middle (λ here seen. (went : GoesTurn here seen middle gone [] [] part.Stopping) × (went.turn.seen ≡ Some event.Stop)) old.limit sound.0 sound.1 sound.2 stops same.limit now in
    sound_at disk gone old.limit sound.0 sound.1 went.0.turn.behind (went.0.through.limit ∙ same.limit) went.0.through.is
