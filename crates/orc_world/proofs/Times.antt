-- Time and restarts.
use Rattle.std.proofs.Common.{[], ◌≡◌, ℕ, Bool, true, Option, Some, List, ◌∷◌, ◌++◌, ◌<◌, ◌⊎◌, map, refl, sym, ap, subst, ◌∙◌, append-nil, ◌≤◌, arith}
use Rattle.std.specs.Prelude.{slice_get, length}
use Rattle.std.specs.Option.{option_map_or}
use Rattle.orc_disk.specs.Meanings.{DiskMeaning}
use Rattle.orc_decls.specs.declared.declarations.Decls.{Decls}
use Rattle.orc_device.specs.Nodes.{NodeState, restarted, ticked}
use Rattle.orc_links.specs.Logs.{noted_on}
use Rattle.orc_links.specs.Networks.{absent_link, absent_node, heard_link, link_restarted, link_states, link_ticked, node_states}
use Rattle.orc_links.specs.declared.links.Links.{Links}
use Rattle.orc_links.proofs.States.{links_changed, links_mapped, nodes_changed, nodes_ticked}
use Rattle.orc_node.specs.LinkStates.{LinkState}
use Rattle.orc_rules.specs.Cells.{updated_at}
use Rattle.orc_rules.specs.Events.{Comes, DoesAnyway, Steps, Turn}
use Rattle.orc_rules.specs.Hubs.{with_changed}
use Rattle.orc_rules.specs.Worlds.{Setting, World as Seen}
use Rattle.orc_rules.specs.declared.event.Event.{Event}
use Rattle.orc_rules.specs.declared.event.Event.TheVariants as event
use Rattle.orc_runs.specs.Ends.{EndedBecause}
use Rattle.orc_runs.specs.Runs.{EndsRun}
use Rattle.orc_runs.specs.Scripts.{Goes, Part as part, line_parts, set_by}
use Rattle.orc_script.specs.declared.step.ScriptStep.{ScriptStep}
use Rattle.orc_script.specs.declared.step.ScriptStep.TheVariants as step
use Rattle.orc_scene.specs.Courses.{GoOn, HasEvents}
use Rattle.orc_scene.specs.Laws.{SceneIsCarried}
use Rattle.orc_world.specs.Lines.{DoesLine, EndsInLine}
use Rattle.orc_scene.specs.Stands.{HasDisk, IsCarried, IsSeenAs, IsNotReconciling, run_setting}
use Rattle.orc_scene.specs.RunEnds.{end_of_run}
use Rattle.orc_scene.specs.declared.stop.WorldStop.{WorldStop}
use Rattle.orc_scene.specs.declared.stop.WorldStop.TheVariants as stop
use Rattle.orc_scene.specs.declared.scene.Scene.{Scene}
use Rattle.orc_scene.proofs.Carrying.{carried_on}
use Rattle.orc_scene.proofs.Seeing.{changed_mapped, place_disk, seen_same, updated_same}
use Rattle.orc_world.proofs.Seeing.{link_there, seen_nodes}
use Rattle.orc_world.proofs.Unsaid.{says_all}
use Rattle.orc_scene.proofs.Times.{accepts_mapped, goes_on_same}

module _ {D : Type 0} (here : Setting D) where
  -- turns that go on don't end the run
  pub unended : {ended : Bool} (turns : List (Turn D)) → GoOn turns → (earlier later : List (Turn D)) (turn : Turn D)
      → turns ≡ earlier ++ turn ∷ later → EndsRun turn → (ended ≡ true) × (later ≡ [])
  unended [] on [] later turn is ends = absurd cc
  unended [] on (t ∷ earlier) later turn is ends = absurd cc
  unended (first ∷ turns) on [] later turn is ends = let same : first ≡ turn = cc in absurd (on.0 (subst EndsRun (sym same) ends))
  unended (first ∷ turns) on (t ∷ earlier) later turn is ends = let rest : turns ≡ earlier ++ turn ∷ later = cc in unended turns on.1 earlier later turn rest ends

  -- The run ended in a line since memory ran out, before anything came.
  pub ends_at_once : (line : ScriptStep) (seen : Seen D) (old new : Scene D) (before after : List ℕ) (why : WorldStop)
      → why ≡ stop.Memory → IsSeenAs here seen old → HasEvents old new old.events.items.items → after ≡ before
      → (set_by line seen).journal.disk ≡ seen.journal.disk → EndsInLine here line seen old new before after why
  ends_at_once line seen old new before after why memory is same out disk = record {
    turns = [];
    last = set_by line seen;
    text = [];
    done = record {
      goes = Goes.broken (line_parts here.decls line) (set_by line seen) refl;
      prints = ([], [], refl, omega arith, refl);
      ends = unended [] tt;
    };
    because = subst (λ (w : WorldStop). EndedBecause here [] (end_of_run w)) (sym memory) tt;
    says = says_all here.decls (record { step = line; before = seen; turns = []; behind = set_by line seen; text = [] }) (end_of_run why) refl;
    disk = subst (λ (d : D). HasDisk new.place d) (sym disk)
        (subst (λ p. HasDisk p seen.journal.disk) (sym same.place) (place_disk here seen old.place is.place));
    events = same.events_are ∙ sym (append-nil old.events.items.items);
    printed = out ∙ sym (append-nil before);
  }

-- a line `tick`
pub tick_line : {D : Type 0} (disk : DiskMeaning D) (decls : Decls) (limit : ℕ) (granted : Bool) → SceneIsCarried disk → (seen : Seen D) (old middle new : Scene D)
    (links : Links) (seconds : ℕ) (before after : List ℕ)
    → let here : Setting D = run_setting disk decls limit granted in
    IsSeenAs here seen old → IsNotReconciling old.place
    → HasEvents old middle old.events.items.items
    → links ≡ record middle.links { links = map (link_ticked seconds) middle.links.links }
    → HasEvents (record middle { links = links }) new
    (middle.events.items.items ++ event.Tick seconds ∷ [])
    → after ≡ before → DoesLine here (step.Tick seconds) seen old new before after
tick_line {D} disk decls limit granted law seen old middle new links seconds before after is unmended same links_are made out =
    let here : Setting D = run_setting disk decls limit granted in
    let next : Seen D = record seen { nodes = λ device. ticked (seen.nodes device) seconds } in
    let turn : Turn D = record { before = seen; meant = event.Tick seconds; seen = Some (event.Tick seconds); behind = next } in
    let comes : Comes here turn = Steps.anyway next (DoesAnyway.ticks seconds) in
    let middle_is : IsSeenAs here seen middle = seen_same here seen old middle same.limit same.place same.links same.snapshots is in
    let on : GoOn (turn ∷ []) = (goes_on_same here turn (event.Tick seconds) refl refl, tt) in
    let kept : IsCarried here next = carried_on here (law decls limit granted is.decls) seen next (event.Tick seconds) (Some (event.Tick seconds)) is.kept comes in
    record {
      turns = turn ∷ [];
      next = next;
      text = [];
      done = record {
        goes = Goes.once (part.Ticking seconds) [] turn [] next refl refl tt comes (Goes.whole next);
        prints = record { after = []; printed = refl; shows = refl };
        ends = unended here (turn ∷ []) on;
      };
      is = seen_same here next (record middle { links = record middle.links { links = map (link_ticked seconds) middle.links.links } }) new
          made.limit made.place (made.links ∙ links_are) made.snapshots
          (seen_nodes here seen middle next.nodes (map (link_ticked seconds) middle.links.links) middle_is
          (ap {B = ℕ → NodeState} (λ (f : ℕ → NodeState) (d : ℕ). ticked (f d) seconds) middle_is.nodes ∙ sym (nodes_ticked seconds middle.links.links))
          (links_mapped (link_ticked seconds) (λ link. refl) middle.links.links)
          (accepts_mapped (link_ticked seconds) (λ link. refl) middle.links.links) kept);
      unmended = subst (λ p. IsNotReconciling p) (sym (made.place ∙ same.place)) unmended;
      limit = made.limit ∙ same.limit;
      events = made.events_are ∙ ap (λ (es : List Event). es ++ event.Tick seconds ∷ []) same.events_are;
      logs = λ device. ap (λ (l : Links). noted_on l.logs device) (made.links ∙ links_are) ∙ ap (λ (l : Links). noted_on l.logs device) same.links ∙ sym (append-nil (noted_on old.links.logs device));
      log = λ device other. absurd cc;
      printed = out ∙ sym (append-nil before);
    }

-- a line `restart`
pub restart_line : {D : Type 0} (disk : DiskMeaning D) (decls : Decls) (limit : ℕ) (granted : Bool) → SceneIsCarried disk → (seen : Seen D) (old middle new : Scene D)
    (links : Links) (device : ℕ) (before after : List ℕ)
    → let here : Setting D = run_setting disk decls limit granted in
    IsSeenAs here seen old → IsNotReconciling old.place
    → HasEvents old middle old.events.items.items
    → device < length middle.links.links
    → links ≡ record middle.links { links = with_changed link_restarted device middle.links.links }
    → HasEvents (record middle { links = links }) new
    (middle.events.items.items ++ event.Restart device ∷ [])
    → after ≡ before → DoesLine here (step.Restart device) seen old new before after
restart_line {D} disk decls limit granted law seen old middle new links device before after is unmended same within links_are made out =
    let here : Setting D = run_setting disk decls limit granted in
    let nodes : ℕ → NodeState = updated_at seen.nodes device (restarted (seen.nodes device)) in
    let next : Seen D = record seen { nodes = nodes } in
    let turn : Turn D = record { before = seen; meant = event.Restart device; seen = Some (event.Restart device); behind = next } in
    let comes : Comes here turn = Steps.anyway next (DoesAnyway.restarts device) in
    let middle_is : IsSeenAs here seen middle = seen_same here seen old middle same.limit same.place same.links same.snapshots is in
    let on : GoOn (turn ∷ []) = (goes_on_same here turn (event.Restart device) refl refl, tt) in
    let kept : IsCarried here next = carried_on here (law decls limit granted is.decls) seen next (event.Restart device) (Some (event.Restart device)) is.kept comes in
    let found : (link : LinkState) × (slice_get middle.links.links device ≡ Some link) = link_there middle.links.links device within in
    let at_device : node_states middle.links.links device ≡ found.0.node.state =
    ap (λ (o : Option LinkState). option_map_or (λ link. link.node.state) o absent_node) found.1 in
    let heard_there : link_states middle.links.links device ≡ heard_link found.0 =
    ap (λ (o : Option LinkState). option_map_or heard_link o absent_link) found.1 in
    record {
      turns = turn ∷ [];
      next = next;
      text = [];
      done = record {
        goes = Goes.once (part.Restarting device) [] turn [] next refl refl tt comes (Goes.whole next);
        prints = record { after = []; printed = refl; shows = refl };
        ends = unended here (turn ∷ []) on;
      };
      is = seen_same here next (record middle { links = record middle.links { links = with_changed link_restarted device middle.links.links } }) new
          made.limit made.place (made.links ∙ links_are) made.snapshots
          (seen_nodes here seen middle nodes (with_changed link_restarted device middle.links.links) middle_is
          (ap {B = ℕ → NodeState} (λ (f : ℕ → NodeState). updated_at f device (restarted (f device))) middle_is.nodes
          ∙ ap (λ (state : NodeState). updated_at (node_states middle.links.links) device (restarted state)) at_device
          ∙ sym (nodes_changed link_restarted device found.0 middle.links.links found.1))
          (links_changed link_restarted device found.0 middle.links.links found.1
          ∙ updated_same (link_states middle.links.links) device (heard_link found.0) heard_there)
          (changed_mapped (λ (link : LinkState). link.node.accept) link_restarted middle.links.links device found.0 found.1 refl) kept);
      unmended = subst (λ p. IsNotReconciling p) (sym (made.place ∙ same.place)) unmended;
      limit = made.limit ∙ same.limit;
      events = made.events_are ∙ ap (λ (es : List Event). es ++ event.Restart device ∷ []) same.events_are;
      logs = λ other. ap (λ (l : Links). noted_on l.logs other) (made.links ∙ links_are) ∙ ap (λ (l : Links). noted_on l.logs other) same.links ∙ sym (append-nil (noted_on old.links.logs other));
      log = λ other wrong. absurd cc;
      printed = out ∙ sym (append-nil before);
    }
