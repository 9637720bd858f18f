-- What the rules see of a world that changed.
use Rattle.std.proofs.Common.{[], ◌≡◌, ◌<◌, ℕ, zero, suc, Some, List, ◌∷◌, ◌++◌, ◌⊎◌, map, length, refl, sym, ◌∙◌, arith}
use Rattle.std.specs.Prelude.{slice_get}
use Rattle.orc_device.specs.Nodes.{NodeState}
use Rattle.orc_links.specs.Networks.{link_states, node_states}
use Rattle.orc_node.specs.LinkStates.{LinkState}
use Rattle.orc_rules.specs.Worlds.{Link, Setting, World as Seen}
use Rattle.orc_scene.specs.Stands.{IsCarried, IsPlaceSeenAs, IsSeenAs}
use Rattle.orc_scene.specs.declared.scene.Place.{Place}
use Rattle.orc_scene.specs.declared.scene.Place.TheVariants.{Up, Down, Ended, Moved}
use Rattle.orc_scene.specs.declared.scene.Scene.{Scene}

module _ {D : Type 0} (here : Setting D) where
  -- a world with other devices and links is that of the same hub
  pub place_stays : (seen : Seen D) (nodes : ℕ → NodeState) (links : ℕ → Link) (place : Place D)
      → IsPlaceSeenAs here seen place → IsPlaceSeenAs here (record seen { nodes = nodes; links = links }) place
  place_stays seen nodes links (Up hub) is = record {
    up = is.up;
    is = is.is;
    decls = is.decls;
    journal = is.journal;
    limit = is.limit;
    running = is.running;
    met = is.met;
    sound = is.sound;
  }
  place_stays seen nodes links (Down disk decls) is = is
  place_stays seen nodes links (Ended disk) is = is
  place_stays seen nodes links Moved is = is

  -- the devices changed, and nothing else
  pub seen_nodes : (seen : Seen D) (old : Scene D) (nodes : ℕ → NodeState) (links : List LinkState) → IsSeenAs here seen old
      → nodes ≡ node_states links → link_states links ≡ link_states old.links.links
      → map (λ link. link.node.accept) links ≡ map (λ link. link.node.accept) old.links.links
      → IsCarried here (record seen { nodes = nodes })
      → IsSeenAs here (record seen { nodes = nodes }) (record old { links = record old.links { links = links } })
  seen_nodes seen old nodes links is nodes_are links_are accepts kept = record {
    decls = is.decls;
    short = is.short;
    limit = is.limit;
    place = place_stays seen nodes seen.links old.place is.place;
    snapshots = is.snapshots;
    fronts = is.fronts;
    nodes = nodes_are;
    links = is.links ∙ sym links_are;
    accepts = accepts ∙ is.accepts;
    logs = is.logs;
    numbered = is.numbered;
    kept = kept;
  }

-- a declared device has a link
pub link_there : (links : List LinkState) (device : ℕ) → device < length links → (link : LinkState) × (slice_get links device ≡ Some link)
link_there [] device within = absurd (omega arith)
link_there (link ∷ links) zero within = (link, refl)
link_there (link ∷ links) (suc device) within = link_there links device (omega arith)
