-- A stop is armed.
use Rattle.std.proofs.Common.{[], ◌≡◌, ℕ, Option, Some, None, List, ◌++◌, refl, sym, ap, subst, ◌∙◌, append-nil}
use Rattle.std.specs.Option.{option_map_or}
use Rattle.orc_disk.specs.Stops.{Stopping}
use Rattle.orc_hub.specs.Hubs.{record_of}
use Rattle.orc_hub.specs.declared.hub.Hub.{Hub}
use Rattle.orc_hub_laws.specs.Turns.{ArmingArms, world_armed}
use Rattle.orc_rules.specs.Hubs.{Hub as HubState}
use Rattle.orc_rules.specs.Worlds.{Setting, World as Seen}
use Rattle.orc_runs.specs.Laws.{AreCarried, RunsAreCarried}
use Rattle.orc_runs.specs.Scripts.{set_by}
use Rattle.orc_script.specs.declared.step.ScriptStep.TheVariants as step
use Rattle.orc_scene.specs.Effects.{armed_place}
use Rattle.orc_world.specs.Lines.{DoesLine}
use Rattle.orc_scene.specs.Stands.{IsPlaceSeenAs, IsSeenAs, IsNotReconciling}
use Rattle.orc_scene.specs.declared.scene.Place.{Place}
use Rattle.orc_scene.specs.declared.scene.Place.TheVariants.{Up, Down, Ended, Moved}
use Rattle.orc_scene.specs.declared.scene.Scene.{Scene}
use Rattle.orc_world.proofs.Looks.{quiet_line}

module _ {D : Type 0} (here : Setting D) (law : RunsAreCarried here) (arms : ArmingArms here) (seen : Seen D) (old : Scene D) (count bytes : ℕ) (before : List ℕ)
    (is : IsSeenAs here seen old) (unmended : IsNotReconciling old.place) where
  -- what the line sets
  sets : (hub : Option HubState) → seen.hub ≡ hub → set_by (step.StopAt count bytes) seen ≡ option_map_or (λ (h : HubState). world_armed count bytes seen) hub seen
  sets hub at = ap (λ (o : Option HubState). option_map_or (λ (h : HubState). world_armed count bytes seen) o seen) at

  line_of : (next : Seen D) (place : Place D) → set_by (step.StopAt count bytes) seen ≡ next → IsSeenAs here next (record old { place = place }) → IsNotReconciling place
      → DoesLine here (step.StopAt count bytes) seen old (record old { place = place }) before before
  line_of next place set now rests =
      quiet_line here (step.StopAt count bytes) seen next old (record old { place = place }) before before [] refl set refl now rests refl refl (λ device. refl) (λ device wrong. absurd cc) (sym (append-nil before))

  -- a hub is up, whose journal's disk is to stop
  armed_up : (hub : Hub (Stopping D)) → old.place ≡ Up hub → DoesLine here (step.StopAt count bytes) seen old (record old { place = armed_place count bytes (Up hub) }) before before
  armed_up hub up =
      let under = subst (IsPlaceSeenAs here seen) up is.place in
      let next : Seen D = world_armed count bytes seen in
      let set : set_by (step.StopAt count bytes) seen ≡ next = sets (Some (record_of hub)) under.is in
      line_of next (armed_place count bytes (Up hub)) set (record {
        decls = is.decls;
        short = is.short;
        limit = is.limit;
        place = arms seen hub count bytes under;
        snapshots = is.snapshots;
        fronts = is.fronts;
        nodes = is.nodes;
        links = is.links;
        accepts = is.accepts;
        logs = is.logs;
        numbered = is.numbered;
        kept = λ back. subst (λ (w : Seen D). AreCarried here w) set (law.settings (step.StopAt count bytes) seen (is.kept back));
      }) (subst (λ (p : Place D). IsNotReconciling p) up unmended)

  none_up : (place : Place D) → old.place ≡ place → seen.hub ≡ None → IsNotReconciling place → DoesLine here (step.StopAt count bytes) seen old (record old { place = place }) before before
  none_up place at none rests = line_of seen place (sets None none) (record {
    decls = is.decls;
    short = is.short;
    limit = is.limit;
    place = subst (IsPlaceSeenAs here seen) at is.place;
    snapshots = is.snapshots;
    fronts = is.fronts;
    nodes = is.nodes;
    links = is.links;
    accepts = is.accepts;
    logs = is.logs;
    numbered = is.numbered;
    kept = is.kept;
  }) rests

  pub stop_at_line : DoesLine here (step.StopAt count bytes) seen old (record old { place = armed_place count bytes old.place }) before before
  stop_at_line = on old.place refl
    where
      on : (place : Place D) → old.place ≡ place → DoesLine here (step.StopAt count bytes) seen old (record old { place = armed_place count bytes place }) before before
      on (Up hub) at = armed_up hub at
      on (Down disk decls) at = none_up (Down disk decls) at (let own = subst (IsPlaceSeenAs here seen) at is.place in own.0) tt
      on (Ended disk) at = absurd (subst (IsPlaceSeenAs here seen) at is.place)
      on Moved at = absurd (subst (IsPlaceSeenAs here seen) at is.place)
