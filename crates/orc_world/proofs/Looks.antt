-- Lines in which nothing comes.
use Rattle.std.proofs.Common.{[], ◌≡◌, ◌<◌, ℕ, Bool, true, false, Option, Some, List, ◌∷◌, ◌++◌, length, refl, sym, ap, subst, ◌∙◌, append-nil}
use Rattle.std.specs.Prelude.{slice_get, if◌then◌else◌}
use Rattle.std.specs.Option.{option_map_or}
use Rattle.orc_decls.specs.Devices.{name_of}
use Rattle.orc_device.specs.Nodes.{NodeState}
use Rattle.orc_device.specs.declared.kind.OpKind.{OpKind}
use Rattle.orc_device.specs.declared.kind.When.{When}
use Rattle.orc_links.specs.Logs.{noted_on}
use Rattle.orc_links.specs.Networks.{absent_link, absent_node, heard_link, link_listing, link_states, node_states}
use Rattle.orc_links.specs.declared.links.Links.{Links}
use Rattle.orc_links.proofs.States.{links_changed, nodes_changed}
use Rattle.orc_node.specs.LinkStates.{LinkState}
use Rattle.orc_print.specs.Logs.{log_text}
use Rattle.orc_print.specs.Printed.{tree_text}
use Rattle.orc_rules.specs.Cells.{updated_at}
use Rattle.orc_rules.specs.Hubs.{with_changed}
use Rattle.orc_rules.specs.Worlds.{Link, Setting, World as Seen}
use Rattle.orc_runs.specs.Laws.{RunsAreCarried}
use Rattle.orc_runs.specs.Runs.{is_log}
use Rattle.orc_runs.specs.Scripts.{Goes, Part, Shows, line_parts, set_by}
use Rattle.orc_script.specs.declared.step.ScriptStep.{ScriptStep}
use Rattle.orc_script.specs.declared.step.ScriptStep.TheVariants as step
use Rattle.orc_world.specs.Lines.{DoesLine}
use Rattle.orc_world.specs.inside.Shown.{ShowsDevice}
use Rattle.orc_scene.specs.Stands.{IsSeenAs, IsNotReconciling}
use Rattle.orc_scene.specs.declared.scene.Scene.{Scene}
use Rattle.orc_world.proofs.Allowed.{allowed_there}
use Rattle.orc_scene.proofs.Seeing.{changed_mapped, seen_same, updated_same}
use Rattle.orc_world.proofs.Seeing.{link_there, place_stays}
use Rattle.orc_world.proofs.Times.{unended}

module _ {D : Type 0} (here : Setting D) where
  -- A line that only sets something, or shows something.
  pub quiet_line : (line : ScriptStep) (seen next : Seen D) (old new : Scene D) (before after text : List ℕ)
      → line_parts here.decls line ≡ [] → set_by line seen ≡ next → Shows here.decls line [] next text → IsSeenAs here next new
      → IsNotReconciling new.place → new.limit ≡ old.limit → new.events.items.items ≡ old.events.items.items
      → ((device : ℕ) → noted_on new.links.logs device ≡ (if is_log device line then [] else noted_on old.links.logs device))
      → ((device : ℕ) → line ≡ step.Log device → text ≡ log_text (name_of here.decls.names device) (noted_on old.links.logs device))
      → after ≡ before ++ text → DoesLine here line seen old new before after
  quiet_line line seen next old new before after text none set shows is unmended limit events logs log printed = record {
    turns = [];
    next = next;
    text = text;
    done = record {
      goes = subst (λ (parts : List Part). Goes here false parts (set_by line seen) [] next) (sym none)
          (subst (λ (world : Seen D). Goes here false [] world [] next) (sym set) (Goes.whole next));
      prints = record { after = text; printed = refl; shows = shows };
      ends = unended here [] tt;
    };
    is = is;
    unmended = unmended;
    limit = limit;
    events = events ∙ sym (append-nil old.events.items.items);
    logs = λ device. logs device ∙ on device (is_log device line);
    log = log;
    printed = printed;
  }
    where
      on : (device : ℕ) (b : Bool) → (if b then [] else noted_on old.links.logs device) ≡ (if b then [] else noted_on old.links.logs device ++ [])
      on device true = refl
      on device false = sym (append-nil (noted_on old.links.logs device))

  -- what a device runs is shown
  pub show_line : (seen : Seen D) (world : Scene D) (device : ℕ) (before after text : List ℕ) → IsSeenAs here seen world
      → IsNotReconciling world.place → ShowsDevice world device text → after ≡ before ++ text
      → DoesLine here (step.Show device) seen world world before after
  show_line seen world device before after text is unmended shows printed =
      quiet_line (step.Show device) seen seen world world before after text refl refl
      (allowed_there here seen world.place (λ decls. text ≡ tree_text (name_of decls.names device) (node_states world.links.links device).running) is.place shows
      ∙ ap (λ (nodes : ℕ → NodeState). tree_text (name_of here.decls.names device) (nodes device).running) (sym is.nodes))
      is unmended refl refl (λ other. refl) (λ other wrong. absurd cc) printed

  -- a fault is listed
  pub fault_line : RunsAreCarried here → (seen : Seen D) (old new : Scene D) (device : ℕ) (op : OpKind) (at : When) (before after : List ℕ)
      → IsSeenAs here seen old → IsNotReconciling old.place → device < length old.links.links
      → new.limit ≡ old.limit → new.place ≡ old.place → new.snapshots ≡ old.snapshots → new.events ≡ old.events
      → new.links ≡ record old.links { links = with_changed (link_listing op at) device old.links.links }
      → after ≡ before → DoesLine here (step.Fault device op at) seen old new before after
  fault_line law seen old new device op at before after is unmended within limit place snapshots events links out =
      let line : ScriptStep = step.Fault device op at in
      let next : Seen D = set_by line seen in
      let listed : List LinkState = with_changed (link_listing op at) device old.links.links in
      let found : (link : LinkState) × (slice_get old.links.links device ≡ Some link) = link_there old.links.links device within in
      let heard_there : link_states old.links.links device ≡ heard_link found.0 =
      ap (λ (o : Option LinkState). option_map_or heard_link o absent_link) found.1 in
      let node_there : node_states old.links.links device ≡ found.0.node.state =
      ap (λ (o : Option LinkState). option_map_or (λ link. link.node.state) o absent_node) found.1 in
      let more : Link → Link = λ link. record link { listed = link.listed ++ (op, at) ∷ [] } in
      let now : IsSeenAs here next (record old { links = record old.links { links = listed } }) = record {
        decls = is.decls;
        short = is.short;
        limit = is.limit;
        place = place_stays here seen seen.nodes next.links old.place is.place;
        snapshots = is.snapshots;
        fronts = is.fronts;
        nodes = is.nodes ∙ sym (nodes_changed (link_listing op at) device found.0 old.links.links found.1
            ∙ updated_same (node_states old.links.links) device found.0.node.state node_there);
        links = ap {B = ℕ → Link} (λ (f : ℕ → Link). updated_at f device (more (f device))) is.links
            ∙ ap (λ (link : Link). updated_at (link_states old.links.links) device (more link)) heard_there
            ∙ sym (links_changed (link_listing op at) device found.0 old.links.links found.1);
        accepts = changed_mapped (λ (link : LinkState). link.node.accept) (link_listing op at) old.links.links device found.0 found.1 refl ∙ is.accepts;
        logs = is.logs;
        numbered = is.numbered;
        kept = λ back. law.settings line seen (is.kept back);
      } in
      quiet_line line seen next old new before after [] refl refl refl
      (seen_same here next (record old { links = record old.links { links = listed } }) new limit place links snapshots now)
      (subst (λ p. IsNotReconciling p) (sym place) unmended) limit (ap (λ e. e.items.items) events)
      (λ other. ap (λ (l : Links). noted_on l.logs other) links) (λ other wrong. absurd cc) (out ∙ sym (append-nil before))
