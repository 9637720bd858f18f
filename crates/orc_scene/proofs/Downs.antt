-- The controller stops.
use Rattle.std.proofs.Common.{[], ◌≡◌, ◌⊎◌, inl, inr, ℕ, true, false, Some, None, List, ◌∷◌, ◌++◌, is_some, refl, sym, ap, subst, ◌∙◌, append-nil}
use Rattle.std.specs.Prelude.{IfErr, IfOk, OnOk, Result}
use Rattle.std.specs.Global.{Vec}
use Rattle.std.specs.declared.result.Result.TheVariants.{Ok, Err}
use Rattle.std.proofs.lemmas.Bool.{false≢true}
use Rattle.std.proofs.lemmas.Option.{none-some}
use Rattle.orc_disk.specs.Stops.{Stopping}
use Rattle.orc_hub.specs.declared.hub.Hub.{Hub}
use Rattle.orc_hub_laws.specs.Turns.{LettingGoIsStop}
use Rattle.orc_hub_laws.specs.Under.{GoesDown, IsWorldOf, with_journal}
use Rattle.orc_links.specs.Logs.{noted_on}
use Rattle.orc_links.specs.declared.links.Links.{Links}
use Rattle.orc_rules.specs.Events.{Turn}
use Rattle.orc_rules.specs.Worlds.{Setting, World as Seen, stopped}
use Rattle.orc_rules.specs.declared.event.Event.TheVariants as event
use Rattle.orc_runs.specs.Laws.{RunsAreCarried}
use Rattle.orc_runs.specs.Runs.{EndsRun}
use Rattle.orc_runs.specs.Scripts.{Part as part}
use Rattle.orc_scene.specs.Effects.{PrintsText, hub_in}
use Rattle.orc_scene.specs.inside.Effects.{Stops, place_without}
use Rattle.orc_scene.specs.Courses.{GoesTurn}
use Rattle.orc_scene.specs.Stands.{IsPlaceSeenAs, IsSeenAs}
use Rattle.orc_scene.specs.declared.stop.WorldStop.{WorldStop}
use Rattle.orc_scene.specs.declared.stop.WorldStop.TheVariants as stop
use Rattle.orc_scene.specs.declared.scene.Place.{Place}
use Rattle.orc_scene.specs.declared.scene.Place.TheVariants.{Up, Down, Ended, Moved}
use Rattle.orc_scene.specs.declared.scene.Scene.{Scene}
use Rattle.orc_scene.proofs.HubTurns.{stop_seen}

-- a turn in which a stop is seen ends no run
stop_goes_on : {D : Type 0} (turn : Turn D) → turn.seen ≡ Some event.Stop → EndsRun turn → ⊥
stop_goes_on turn is (inl none) = none-some event.Stop (sym none ∙ is)
stop_goes_on turn is (inr ends) = ends.3 is

-- the hub that is let go is up no more
pub gone_down : {D : Type 0} (place : Place D) → is_some (hub_in (place_without place)) ≡ false
gone_down (Up hub) = refl
gone_down (Down disk decls) = refl
gone_down (Ended disk) = refl
gone_down Moved = refl

-- the rules see no hub where none is up
pub hub_none : {D : Type 0} (here : Setting D) (seen : Seen D) (place : Place D) → IsPlaceSeenAs here seen place → is_some (hub_in place) ≡ false → seen.hub ≡ None
hub_none here seen (Up hub) is down = absurd (false≢true (sym down))
hub_none here seen (Down disk decls) is down = is.0
hub_none here seen (Ended disk) is down = absurd is
hub_none here seen Moved is down = absurd is

-- the hub that is up
pub up_there : {D : Type 0} (place : Place D) → is_some (hub_in place) ≡ true → (hub : Hub (Stopping D)) × (place ≡ Up hub)
up_there (Up hub) is = (hub, refl)
up_there (Down disk decls) is = absurd (false≢true is)
up_there (Ended disk) is = absurd (false≢true is)
up_there Moved is = absurd (false≢true is)

-- the words of a text that was printed
pub said_words : {M : Type 0} (text : Result (Vec ℕ) M) (words before after : List ℕ) (result : Result (Unit {0}) WorldStop) → IfOk text (λ bytes. bytes.items ≡ words)
    → PrintsText text before result after → OnOk result (after ≡ before ++ words) × IfErr result (λ why. (why ≡ stop.Memory) × (after ≡ before))
said_words (Ok bytes) words before after (Ok done) is prints = (prints.0 ∙ ap (λ (l : List ℕ). before ++ l) is, tt)
said_words (Err memory) words before after (Ok done) is prints = absurd prints.0
said_words text words before after (Err why) is prints = (tt, prints.1)

module _ {D : Type 0} (here : Setting D) where
  -- what is seen of the controller that stops
  pub stop_goes : RunsAreCarried here → LettingGoIsStop here → (seen : Seen D) (old new : Scene D) (hub : Hub (Stopping D)) → IsSeenAs here seen old → old.place ≡ Up hub → Stops old new
      → (went : GoesTurn here seen old new [] [] part.Stopping) × (went.turn.seen ≡ Some event.Stop)
  stop_goes carried law seen old new hub is up stops =
      let under : IsWorldOf here seen hub = subst (IsPlaceSeenAs here seen) up is.place in
      let gone : GoesDown here seen (stopped seen) event.Stop (Some event.Stop) hub = law seen hub under in
      let turn : Turn D = record { before = seen; meant = event.Stop; seen = Some event.Stop; behind = with_journal gone.journal (stopped seen) } in (
        record {
          turn = turn;
          first = refl;
          is_of = tt;
          comes = gone.comes;
          through = record {
            is = stop_seen here carried seen event.Stop old old new hub is gone refl refl refl up under.decls stops;
            limit = stops.limit;
            events = stops.events;
            logs = λ device. ap (λ (l : Links). noted_on l.logs device) stops.links ∙ sym (append-nil (noted_on old.links.logs device));
            goes_on = (stop_goes_on turn refl, tt);
          };
        },
        refl,
      )
