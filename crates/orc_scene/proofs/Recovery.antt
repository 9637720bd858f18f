-- A line `recover`.
use Rattle.std.proofs.Common.{[], ◌≡◌, ◌≤◌, ◌⊎◌, inl, inr, ℕ, true, Some, None, List, ◌∷◌, ◌++◌, length, is_some, refl, sym, ap, subst, ◌∙◌, append-nil}
use Rattle.std.specs.Prelude.{IfOk, MatchOption, MatchResult, Result}
use Rattle.std.specs.Global.{Vec}
use Rattle.std.specs.declared.result.Result.TheVariants.{Ok, Err}
use Rattle.std.proofs.lemmas.Bool.{false≢true}
use Rattle.std.proofs.lemmas.Option.{none-some}
use Rattle.orc_links.specs.Logs.{noted_on}
use Rattle.orc_links.specs.declared.links.Links.{Links}
use Rattle.orc_print.specs.Printed.{recovered_line}
use Rattle.orc_rules.specs.Events.{Comes, Turn}
use Rattle.orc_rules.specs.Journals.{history_read}
use Rattle.orc_rules.specs.Worlds.{Setting, World as Seen}
use Rattle.orc_rules.specs.declared.event.Event.TheVariants as event
use Rattle.orc_runs.specs.Runs.{EndsRun}
use Rattle.orc_runs.specs.Scripts.{Part as part}
use Rattle.orc_scene.specs.Effects.{PrintsText, hub_in}
use Rattle.orc_scene.specs.Courses.{EndsUnopened, GoesTurn, HasEvents}
use Rattle.orc_scene.specs.Stands.{IsPlaceSeenAs, IsSeenAs, IsNotReconciling}
use Rattle.orc_scene.specs.declared.stop.WorldStop.{WorldStop}
use Rattle.orc_scene.specs.declared.stop.WorldStop.TheVariants as stop
use Rattle.orc_scene.specs.declared.scene.Place.{Place}
use Rattle.orc_scene.specs.declared.scene.Place.TheVariants.{Up, Down, Ended, Moved}
use Rattle.orc_scene.specs.declared.scene.Scene.{Scene}
use Rattle.orc_scene.proofs.Downs.{said_words}
use Rattle.orc_scene.proofs.Histories.{history_seen}
use Rattle.orc_scene.proofs.Seeing.{seen_same}

module _ {D : Type 0} (here : Setting D) where
  -- what a recovery of a controller that is down comes to
  abbrev pub ComesBack : Seen D → Scene D → Result (Unit {0}) WorldStop → Scene D → List ℕ → List ℕ → Type 0
  ComesBack seen old result new before after = MatchResult result
      (λ done. (went : GoesTurn here seen old new [] [] part.Recovery) × IsNotReconciling new.place
      × (went.turn.seen ≡ Some event.Recover)
      × (after ≡ before ++ recovered_line (length (history_read went.turn.behind.journal))))
      (λ why. (EndsUnopened here seen old new why × (after ≡ before))
      ⊎ ((why ≡ stop.Memory) × GoesTurn here seen old new [] [] part.Recovery × (after ≡ before)))

  -- the hub is up again, and how many calls there are is printed, where there is memory for that
  module _ (seen next : Seen D) (old middle new : Scene D) (down : seen.hub ≡ None)
      (comes : Comes here (record { before = seen; meant = event.Recover; seen = Some event.Recover; behind = next }))
      (is : IsSeenAs here next middle) (unmended : IsNotReconciling middle.place) (up : is_some (hub_in middle.place) ≡ true)
      (limit : middle.limit ≡ old.limit) (links : middle.links ≡ old.links) (events : middle.events ≡ old.events)
      (kept : HasEvents middle new (middle.events.items.items ++ event.Recover ∷ [])) where
    abbrev turn_back : Turn D
    turn_back = record { before = seen; meant = event.Recover; seen = Some event.Recover; behind = next }

    back_goes_on : EndsRun turn_back → ⊥
    back_goes_on (inl none) = none-some event.Recover (sym none)
    back_goes_on (inr ends) = none-some ends.0 (sym down ∙ ends.1)

    abbrev went_back : GoesTurn here seen old new [] [] part.Recovery
    went_back = record {
      turn = turn_back;
      first = refl;
      is_of = tt;
      comes = comes;
      through = record {
        is = seen_same here next middle new kept.limit kept.place kept.links kept.snapshots is;
        limit = kept.limit ∙ limit;
        events = kept.events_are ∙ ap (λ e. e.items.items ++ event.Recover ∷ []) events;
        logs = λ device. ap (λ (l : Links). noted_on l.logs device) (kept.links ∙ links) ∙ sym (append-nil (noted_on old.links.logs device));
        goes_on = (back_goes_on, tt);
      };
    }

    counted_calls : (count : ℕ) → MatchOption (hub_in new.place) (count ≡ 0) (λ hub. count ≡ length hub.state.history) → count ≡ length (history_read next.journal)
    counted_calls count counts = on new.place (seen_same here next middle new kept.limit kept.place kept.links kept.snapshots is).place
        (subst (λ (p : Place D). is_some (hub_in p) ≡ true) (sym kept.place) up) counts
      where
        on : (place : Place D) → IsPlaceSeenAs here next place → is_some (hub_in place) ≡ true → MatchOption (hub_in place) (count ≡ 0) (λ hub. count ≡ length hub.state.history)
            → count ≡ length (history_read next.journal)
        on (Up hub) own up counts = counts ∙ ap (λ h. length h) (sym (history_seen here next hub own))
        on (Down disk decls) own up counts = absurd (false≢true up)
        on (Ended disk) own up counts = absurd own
        on Moved own up counts = absurd own

    pub comes_back : {M : Type 0} (count : ℕ) (text : Result (Vec ℕ) M) (result : Result (Unit {0}) WorldStop) (before after : List ℕ)
        → MatchOption (hub_in new.place) (count ≡ 0) (λ hub. count ≡ length hub.state.history) → IfOk text (λ bytes. bytes.items ≡ recovered_line count)
        → PrintsText text before result after → ComesBack seen old result new before after
    comes_back count text (Ok done) before after counts words prints = (
      went_back,
      subst (λ (p : Place D). IsNotReconciling p) (sym kept.place) unmended,
      refl,
      (said_words text (recovered_line count) before after (Ok done) words prints).0
          ∙ ap (λ (n : ℕ). before ++ recovered_line n) (counted_calls count counts),
    )
    comes_back count text (Err why) before after counts words prints = inr (prints.1.0, went_back, prints.1.1)
