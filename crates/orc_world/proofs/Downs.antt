-- The controller stops.
use Rattle.std.proofs.Common.{[], ◌≡◌, ◌⊎◌, inl, inr, ℕ, Bool, true, false, Option, Some, List, ◌∷◌, ◌++◌, is_some, refl, sym, ap, subst, ◌∙◌, append-nil}
use Rattle.std.specs.Prelude.{IfErr, MatchResult, OnOk, Result, codes}
use Rattle.std.specs.declared.result.Result.TheVariants.{Ok, Err}
use Rattle.std.proofs.lemmas.Bool.{false≢true}
use Rattle.std.proofs.lemmas.Option.{none-some}
use Rattle.orc_disk.specs.Stops.{Stopping}
use Rattle.orc_links.specs.Logs.{noted_on}
use Rattle.orc_rules.specs.Events.{DoesAnyway}
use Rattle.orc_rules.specs.Worlds.{Setting, World as Seen}
use Rattle.orc_rules.specs.declared.event.Event.{Event}
use Rattle.orc_rules.specs.declared.event.Event.TheVariants as event
use Rattle.orc_runs.specs.Ends.{EndedBecause}
use Rattle.orc_runs.specs.Scripts.{Goes, IsOf, NoneOf, Part as part, said}
use Rattle.orc_script.specs.declared.step.ScriptStep.TheVariants as step
use Rattle.orc_scene.specs.Effects.{hub_in}
use Rattle.orc_scene.specs.Courses.{DoesParts, EndsInParts, GoesThrough, GoesTurn, HasEvents, told_in}
use Rattle.orc_world.specs.Lines.{DoesLine, EndsInLine}
use Rattle.orc_scene.specs.Stands.{IsPlaceSeenAs, IsSeenAs, IsNotReconciling}
use Rattle.orc_scene.specs.RunEnds.{end_of_run}
use Rattle.orc_scene.specs.declared.stop.WorldStop.{WorldStop}
use Rattle.orc_scene.specs.declared.stop.WorldStop.TheVariants as stop
use Rattle.orc_scene.specs.declared.scene.Place.{Place}
use Rattle.orc_scene.specs.declared.scene.Place.TheVariants.{Up, Down, Ended, Moved}
use Rattle.orc_scene.specs.declared.scene.Scene.{Scene}
use Rattle.orc_world.proofs.Lining.{ends_line, parts_line}
use Rattle.orc_scene.proofs.Looping.{at_last_none}
use Rattle.orc_scene.proofs.Seeing.{place_disk}
use Rattle.orc_scene.proofs.Stepping.{through_from}
use Rattle.orc_world.proofs.Times.{ends_at_once, unended}
use Rattle.orc_scene.proofs.Unsaid.{last_untold}

-- where no hub is up no reconciliation is unfinished
pub unmended_down : {D : Type 0} (place : Place D) → is_some (hub_in place) ≡ false → IsNotReconciling place
unmended_down (Up hub) down = absurd (false≢true (sym down))
unmended_down (Down disk decls) down = tt
unmended_down (Ended disk) down = tt
unmended_down Moved down = tt

module _ {D : Type 0} (here : Setting D) where
  -- none may come where no hub is up
  pub no_stop : (seen : Seen D) (place : Place D) → IsPlaceSeenAs here seen place → is_some (hub_in place) ≡ false → NoneOf here seen part.Stopping
  no_stop seen place is down one of (inl (hub, row, next, up, does)) = on place is down
    where
      on : (place : Place D) → IsPlaceSeenAs here seen place → is_some (hub_in place) ≡ false → ⊥
      on (Up own) is down = false≢true (sym down)
      on (Down disk decls) is down = none-some hub (sym is.0 ∙ up)
      on (Ended disk) is down = is
      on Moved is down = is
  no_stop seen place is down one of (inr (inl (next, does))) = any_stop one next of does
    where
      any_stop : (one : Event) (next : Seen D) → IsOf part.Stopping one → DoesAnyway seen one next → ⊥
      any_stop one next is (DoesAnyway.ticks seconds) = is
      any_stop one next is (DoesAnyway.restarts other) = is
      any_stop one next is (DoesAnyway.answers_down call front down) = is
  no_stop seen place is down one of (inr (inr (recovers, none))) = subst (λ (e : Event). IsOf part.Stopping e) recovers of

  -- a line `stop`, where the controller is up
  module _ (seen : Seen D) (old middle new : Scene D) (same : HasEvents old middle old.events.items.items) (went : GoesTurn here seen middle new [] [] part.Stopping)
      (is_stop : went.turn.seen ≡ Some event.Stop) (down : is_some (hub_in new.place) ≡ false) where
    stop_row : (ended : Bool) → Goes here ended (part.Stopping ∷ []) seen (went.turn ∷ []) went.turn.behind
    stop_row ended = subst (λ (w : Seen D). Goes here ended (part.Stopping ∷ []) w (went.turn ∷ []) went.turn.behind) went.first
        (Goes.once part.Stopping [] went.turn [] went.turn.behind refl went.is_of tt went.comes (Goes.whole went.turn.behind))

    stop_told : told_in here.decls (went.turn ∷ []) ≡ codes "stopped\n"
    stop_told = ap (λ (o : Option Event). said here.decls.names step.Settle went.turn o ++ []) is_stop ∙ append-nil (codes "stopped\n")

    stop_through : GoesThrough here old new (went.turn ∷ []) went.turn.behind
    stop_through = through_from here seen old middle new same (went.turn ∷ []) went.turn.behind went.through

    pub stop_line : (before after : List ℕ) (result : Result (Unit {0}) WorldStop) → OnOk result (after ≡ before ++ codes "stopped\n") → IfErr result (λ why. (why ≡ stop.Memory) × (after ≡ before))
        → MatchResult result (λ value. DoesLine here step.Stop seen old new before after) (λ why. EndsInLine here step.Stop seen old new before after why)
    stop_line before after (Ok value) said_ok said_err =
        let does : DoesParts here seen old new before after (part.Stopping ∷ []) = record {
          turns = went.turn ∷ [];
          next = went.turn.behind;
          goes = stop_row false;
          through = stop_through;
          prints = said_ok ∙ ap (λ (l : List ℕ). before ++ l) (sym stop_told);
        } in
        parts_line here step.Stop seen old new before after (part.Stopping ∷ []) refl refl (λ wrong. absurd cc) (λ device. refl) does refl (unmended_down new.place down)
    stop_line before after (Err why) said_ok said_err =
        let ends : EndsInParts here seen old new before after (part.Stopping ∷ []) why = record {
          turns = went.turn ∷ [];
          last = went.turn.behind;
          goes = stop_row true;
          because = subst (λ (w : WorldStop). EndedBecause here (went.turn ∷ []) (end_of_run w)) (sym said_err.0) tt;
          ended = record {
            disk = place_disk here went.turn.behind new.place stop_through.is.place;
            events = stop_through.events;
            at_last = at_last_none (went.turn ∷ []) stop_through.goes_on;
          };
          prints = last_untold here.decls why before after went.turn said_err.0 said_err.1;
        } in
        ends_line here step.Stop seen old new before after (part.Stopping ∷ []) refl refl (λ wrong. absurd cc) why ends

  -- a line `stop` where no controller is up
  pub stop_idle : (seen : Seen D) (old : Scene D) (before after : List ℕ) (result : Result (Unit {0}) WorldStop) → IsSeenAs here seen old → is_some (hub_in old.place) ≡ false
      → OnOk result (after ≡ before ++ codes "stopped\n") → IfErr result (λ why. (why ≡ stop.Memory) × (after ≡ before))
      → MatchResult result (λ value. DoesLine here step.Stop seen old old before after) (λ why. EndsInLine here step.Stop seen old old before after why)
  stop_idle seen old before after (Ok value) is down said_ok said_err = record {
    turns = [];
    next = seen;
    text = codes "stopped\n";
    done = record {
      goes = Goes.none part.Stopping [] seen seen [] (no_stop seen old.place is.place down) (Goes.whole seen);
      prints = record { after = codes "stopped\n"; printed = refl; shows = refl };
      ends = unended here [] tt;
    };
    is = is;
    unmended = unmended_down old.place down;
    limit = refl;
    events = sym (append-nil old.events.items.items);
    logs = λ device. sym (append-nil (noted_on old.links.logs device));
    log = λ device wrong. absurd cc;
    printed = said_ok;
  }
  stop_idle seen old before after (Err why) is down said_ok said_err =
      ends_at_once here step.Stop seen old old before after why said_err.0 is
      (record { alloc = refl; limit = refl; place = refl; links = refl; snapshots = refl; events_are = refl }) said_err.1 refl
