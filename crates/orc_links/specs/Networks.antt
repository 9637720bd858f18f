-- The devices of a network and the links to them, as the rules of a network see them.
use Rattle.std.specs.Prelude.{[], ◌≡◌, ◌++◌, ◌∷◌, ℕ, List, None, IsTrue, map, slice_get}
use Rattle.std.specs.List.{list_all}
use Rattle.std.specs.FinMap.{empty}
use Rattle.std.specs.Option.{option_map_or}
use Rattle.orc_check.specs.declared.acceptance.Accept.{Accept}
use Rattle.orc_decls.specs.Declarations.{accept_of, accepts_base}
use Rattle.orc_decls.specs.Openings.{declared_base, fits_puts}
use Rattle.orc_decls.specs.declared.declarations.Decls.{Decls}
use Rattle.orc_decls.specs.declared.declarations.Device.{Device}
use Rattle.orc_device.specs.Nodes.{NodeState, dropped, restarted, ticked}
use Rattle.orc_device.specs.declared.kind.OpKind.{OpKind}
use Rattle.orc_device.specs.declared.kind.When.{When}
use Rattle.orc_node.specs.LinkStates.{LinkState, new_link}
use Rattle.orc_node.specs.Nodes.{new_node, with_state}
use Rattle.orc_path.specs.Configurations.{Config}
use Rattle.orc_rules.specs.Worlds.{Link}
use Rattle.orc_schema_nodes.specs.Schemas.{SchemaTable}

-- a device that isn't there runs nothing, and nothing is pending there
abbrev pub absent_node : NodeState
absent_node = record {
  running = empty;
  candidate = empty;
  running_lock = None;
  candidate_lock = None;
  pending = None;
  live = [];
  last = 0;
}

-- a link that isn't there has no session, and never failed
abbrev pub absent_link : Link
absent_link = record { session = 0; listed = []; faults = 0; unheard = None }

-- a link, all of whose replies the hub has heard
abbrev pub heard_link : LinkState → Link
heard_link link = record { session = link.session; listed = link.listed; faults = link.faults; unheard = None }

-- the device of each number, and the link to it
abbrev pub node_states : List LinkState → ℕ → NodeState
node_states links device = option_map_or (λ link. link.node.state) (slice_get links device) absent_node

abbrev pub link_states : List LinkState → ℕ → Link
link_states links device = option_map_or heard_link (slice_get links device) absent_link

-- the link with its device in another state
abbrev pub with_node : NodeState → LinkState → LinkState
with_node state link = record link { node = with_state link.node state }

-- so many seconds pass at its device
abbrev pub link_ticked : ℕ → LinkState → LinkState
link_ticked seconds link = with_node (ticked link.node.state seconds) link

-- its device restarts
abbrev pub link_restarted : LinkState → LinkState
link_restarted link = with_node (restarted link.node.state) link

-- all sessions of its device end
abbrev pub link_dropped : LinkState → LinkState
link_dropped link = with_node (dropped link.node.state) link

-- a fault is listed for it
abbrev pub link_listing : OpKind → When → LinkState → LinkState
link_listing op at link = record link { listed = link.listed ++ (op, at) ∷ [] }

-- a link to a device that runs this base, without a session
abbrev pub link_of_device : Config → Accept → LinkState
link_of_device base accept = new_link (new_node base accept)

-- the links to these devices, each of which runs its base, and accepts what is declared of it
abbrev pub links_to : List SchemaTable → List Device → List LinkState
links_to schemas devices = map (λ device. link_of_device (declared_base device) (accept_of schemas device)) devices

-- the links as a run begins
abbrev pub links_at_first : Decls → List LinkState
links_at_first decls = links_to decls.schemas decls.devices

-- what is declared of devices, which accept their bases
pub record AreAccepted (schemas : List SchemaTable) (devices : List Device) (accepts : List Accept) : Type 0 where
  pub accepts_are : accepts ≡ map (accept_of schemas) devices
  pub bases : IsTrue (list_all (λ device. fits_puts device.base) devices)
  pub accepted : IsTrue (list_all (accepts_base schemas) devices)

-- what each device accepts is what is declared of it
abbrev pub AreLinksOf : Decls → List LinkState → Type 0
AreLinksOf decls links = map (λ link. link.node.accept) links ≡ map (accept_of decls.schemas) decls.devices
