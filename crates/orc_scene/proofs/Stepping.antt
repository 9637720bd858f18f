-- A line `step`, and what is so where no operation is due.
use Rattle.std.proofs.Common.{[], ◌≡◌, ◌<◌, ◌≤◌, ◌⊎◌, inl, inr, ℕ, Option, Some, None, List, ◌∷◌, ◌++◌, length, refl, sym, ap, subst, ◌∙◌}
use Rattle.std.specs.Prelude.{MatchOption}
use Rattle.std.proofs.lemmas.Option.{none-some}
use Rattle.orc_device.specs.declared.op.Op.{Op}
use Rattle.orc_disk.specs.Meanings.{DiskMeaning}
use Rattle.orc_links.specs.Logs.{noted_on}
use Rattle.orc_links.specs.declared.links.Links.{Links}
use Rattle.orc_hub.specs.Hubs.{record_of}
use Rattle.orc_rules.specs.Events.{Turn}
use Rattle.orc_rules.specs.Hubs.{Hub as HubState, due_on}
use Rattle.orc_rules.specs.Worlds.{Setting, World as Seen}
use Rattle.orc_rules.specs.declared.event.Event.{Event}
use Rattle.orc_runs.specs.Scripts.{IsOf, NoneOf, Part as part}
use Rattle.orc_scene.specs.Effects.{hub_in}
use Rattle.orc_scene.specs.Courses.{DoesOperation, EndsAtOnce, GoesThrough, HasEvents, events_in, operations_in}
use Rattle.orc_scene.specs.Stands.{HasDisk, IsPlaceSeenAs, IsSeenAs, IsSoundScene, run_setting}
use Rattle.orc_scene.specs.declared.stop.WorldStop.{WorldStop}
use Rattle.orc_scene.specs.declared.stop.WorldStop.TheVariants as stop
use Rattle.orc_scene.specs.declared.scene.Place.{Place}
use Rattle.orc_scene.specs.declared.scene.Place.TheVariants.{Up, Down, Ended, Moved}
use Rattle.orc_scene.specs.declared.scene.Scene.{Scene}
use Rattle.orc_scene.proofs.Apiece.{any_none, heard_none, hearing_of_device, operation_of_device, under_none}
use Rattle.orc_scene.proofs.Hearing.{heard_there}
use Rattle.orc_scene.proofs.Resting.{sound_at}
use Rattle.orc_scene.proofs.Seeing.{place_disk, seen_same}

module _ {D : Type 0} (here : Setting D) where
  -- where no operation is due on a device, none may come there, and none is to be heard
  pub none_may : (seen : Seen D) (old : Scene D) (device : ℕ) → IsSeenAs here seen old → device < length old.links.links
      → MatchOption (hub_in old.place) (◌≡◌ {A = Option Op} None None) (λ hub. None ≡ due_on (record_of hub) device)
      → NoneOf here seen (part.Operation device) × NoneOf here seen (part.Hearing device)
  none_may seen old device is within due = (none_due, none_heard)
    where
      no_due : (place : Place D) → IsPlaceSeenAs here seen place → MatchOption (hub_in place) (◌≡◌ {A = Option Op} None None) (λ hub. None ≡ due_on (record_of hub) device)
          → (hub : HubState) → seen.hub ≡ Some hub → due_on hub device ≡ None
      no_due (Up own) at never hub up =
          let same : ◌≡◌ {A = Option HubState} (Some (record_of own)) (Some hub) = sym at.is ∙ up in
          let one : record_of own ≡ hub = cc in ap (λ (h : HubState). due_on h device) (sym one) ∙ sym never
      no_due (Down disk decls) at never hub up = absurd (none-some hub (sym at.0 ∙ up))
      no_due (Ended disk) at never hub up = absurd at
      no_due Moved at never hub up = absurd at

      none_due : NoneOf here seen (part.Operation device)
      none_due one of (inl (hub, row, next, up, does)) = under_none here seen hub device (no_due old.place is.place due hub up) one row next of does
      none_due one of (inr (inl (next, does))) = any_none here seen device one next (operation_of_device here device one of) does
      none_due one of (inr (inr (recovers, down))) = subst (λ (e : Event). IsOf (part.Operation device) e) recovers of

      none_heard : NoneOf here seen (part.Hearing device)
      none_heard one of (inl (hub, row, next, up, does)) = heard_none here seen hub device (heard_there here seen old device is within) one row next of does
      none_heard one of (inr (inl (next, does))) = any_none here seen device one next (hearing_of_device here device one of) does
      none_heard one of (inr (inr (recovers, down))) = subst (λ (e : Event). IsOf (part.Hearing device) e) recovers of

  -- what came after room was made came in the whole
  module _ (seen : Seen D) (old middle new : Scene D) (same : HasEvents old middle old.events.items.items) where
    pub seen_in : IsSeenAs here seen old → IsSeenAs here seen middle
    seen_in is = seen_same here seen old middle same.limit same.place same.links same.snapshots is

    pub through_from : (turns : List (Turn D)) (next : Seen D) → GoesThrough here middle new turns next → GoesThrough here old new turns next
    through_from turns next through = record {
      is = through.is;
      limit = through.limit ∙ same.limit;
      events = through.events ∙ ap (λ (es : List Event). es ++ events_in turns) same.events_are;
      logs = λ device. through.logs device ∙ ap (λ (l : Links). noted_on l.logs device ++ operations_in device turns) same.links;
      goes_on = through.goes_on;
    }

    pub operation_from : (device : ℕ) → DoesOperation here seen middle new [] [] device → DoesOperation here seen old new [] [] device
    operation_from device does = record {
      turn = does.turn;
      first = does.first;
      is_of = does.is_of;
      comes = does.comes;
      hearing = does.hearing;
      second = does.second;
      hears = does.hears;
      heard = does.heard;
      through = through_from (does.turn ∷ does.hearing ∷ []) does.hearing.behind does.through;
      printed = does.printed;
    }

    pub ends_from : (why : WorldStop) → EndsAtOnce here seen middle new [] [] why → EndsAtOnce here seen old new [] [] why
    ends_from why ends = record { memory = ends.memory; disk = ends.disk; events = ends.events ∙ same.events_are; printed = refl }

    -- room couldn't be made
    pub ends_roomless : (why : WorldStop) (before : List ℕ) → why ≡ stop.Memory → IsSeenAs here seen old → EndsAtOnce here seen old middle before before why
    ends_roomless why before memory is = record {
      memory = memory;
      disk = subst (λ (p : Place D). HasDisk p seen.journal.disk) (sym same.place) (place_disk here seen old.place is.place);
      events = same.events_are;
      printed = refl;
    }

-- room was made in a sound world
pub sound_in : {D : Type 0} (disk : DiskMeaning D) (old middle : Scene D) → HasEvents old middle old.events.items.items → IsSoundScene disk old → IsSoundScene disk middle
sound_in disk old middle same sound =
    let here = run_setting disk sound.0 old.limit sound.1 in
    sound_at disk middle old.limit sound.0 sound.1 sound.2 same.limit (seen_same here sound.2 old middle same.limit same.place same.links same.snapshots sound.3)
