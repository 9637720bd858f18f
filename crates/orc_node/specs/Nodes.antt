-- A node: the state of a device, and what it accepts.
use Rattle.std.specs.Prelude.{◌≡◌, ℕ, true, false, None, []}
use Rattle.orc_path.specs.Configurations.{Config}
use Rattle.orc_check.specs.Acceptance.{accepts}
use Rattle.orc_check.specs.declared.acceptance.Accept.{Accept}
use Rattle.orc_device.specs.declared.op.Op.{Op}
use Rattle.orc_device.specs.declared.reply.Reply.{Reply}
use Rattle.orc_device.specs.declared.reply.Reply.TheVariants as reply
use Rattle.orc_device.specs.Nodes.{NodeState, op_refusal, effect, node_after, good_reply, node_reply}
use Rattle.orc_device.specs.Links.{takes_memory}
use Rattle.orc_node.specs.Kinds.{device_kind}
use Rattle.orc_node.specs.declared.node.NodeFault.{NodeFault}
use Rattle.orc_node.specs.declared.node.NodeFault.TheVariants.{NotAccepted, Memory}

-- a device, and the configurations that it accepts
pub record AcceptingNode : Type 0 where
  pub state : NodeState
  pub accept : Accept

-- the device in another state
abbrev pub with_state : AcceptingNode → NodeState → AcceptingNode
with_state node state = record { state = state; accept = node.accept }

-- it runs this configuration, and no session began yet
abbrev pub new_node : Config → Accept → AcceptingNode
new_node base accept = record {
  state = record {
    running = base;
    candidate = base;
    running_lock = None;
    candidate_lock = None;
    pending = None;
    live = [];
    last = 0;
  };
  accept = accept;
}

-- a node is refused exactly where its device doesn't accept the base; it takes no memory
abbrev pub IsRefusedBase : Accept → Config → NodeFault → Type 0
IsRefusedBase accept base NotAccepted = accepts accept base ≡ false
IsRefusedBase accept base Memory = ⊥

-- an operation of the session that isn't refused leads there and is answered so, or memory ran out in it
abbrev pub CarriesOut : AcceptingNode → ℕ → Op → AcceptingNode → Reply → Type 0
CarriesOut node session op after reply.Memory = (takes_memory op ≡ true) × (after ≡ node)
CarriesOut node session op after answer =
    (answer ≡ good_reply node.state op)
    × (after ≡ with_state node (effect (device_kind node.accept) node.state session op))

-- an operation of the session leads there and is answered so; or it isn't refused, and memory ran out in it
abbrev pub PerformsAs : AcceptingNode → ℕ → Op → AcceptingNode → Reply → Type 0
PerformsAs node session op after reply.Memory =
    (op_refusal (device_kind node.accept) node.state session op ≡ None) × (takes_memory op ≡ true) × (after ≡ node)
PerformsAs node session op after answer =
    (answer ≡ node_reply (device_kind node.accept) node.state session op)
    × (after ≡ with_state node (node_after (device_kind node.accept) node.state session op))
