-- A link that asks its node, and one that fails.
use Rattle.std.specs.Prelude.{◌≡◌, ℕ, true, Option, Some, None}
use Rattle.orc_io.specs.Counts.{next_count}
use Rattle.orc_call.specs.declared.answer.Tag.{Tag}
use Rattle.orc_device.specs.declared.op.Op.{Op}
use Rattle.orc_device.specs.declared.reply.Reply.{Reply}
use Rattle.orc_device.specs.declared.reply.Reply.TheVariants as reply
use Rattle.orc_device.specs.Nodes.{op_refusal, node_after, session_ended, good_reply, reply_by}
use Rattle.orc_device.specs.Links.{takes_memory, session_after}
use Rattle.orc_node.specs.Nodes.{AcceptingNode, with_state}
use Rattle.orc_device.specs.declared.kind.When.{When}
use Rattle.orc_device.specs.declared.kind.When.TheVariants.{Before, After}
use Rattle.orc_node.specs.LinkStates.{LinkState, link_kind}

-- the first cause for which the operation is refused
abbrev pub cause_of : LinkState → Op → Option Tag
cause_of link op = op_refusal (link_kind link) link.node.state link.session op

-- the link's session, by the first cause of refusal
abbrev pub session_by : Option Tag → ℕ → ℕ → ℕ
session_by None session after = after
session_by (Some tag) session after = session

-- the link once its node was asked
abbrev pub asked : LinkState → Op → LinkState
asked link op = record link {
  node = with_state link.node (node_after (link_kind link) link.node.state link.session op);
  session = session_by (cause_of link op) link.session (session_after link.node.state link.session op);
}

-- the node was asked, which led there and is answered so; or it isn't refused, and memory ran out in it
abbrev pub AsksNode : LinkState → Op → LinkState → Reply → Type 0
AsksNode link op after reply.Memory = (cause_of link op ≡ None) × (takes_memory op ≡ true) × (after ≡ link)
AsksNode link op after answer =
    (answer ≡ reply_by (cause_of link op) (good_reply link.node.state op)) × (after ≡ asked link op)

-- the link fails, which ends its session
abbrev pub failed : LinkState → LinkState
failed link = record link {
  node = with_state link.node (session_ended link.node.state link.session);
  faults = next_count link.faults;
}

-- the node was asked and then the link failed; or memory ran out in it
abbrev pub LosesReply : LinkState → Op → LinkState → Reply → Type 0
LosesReply link op after reply.Memory = (cause_of link op ≡ None) × (takes_memory op ≡ true) × (after ≡ link)
LosesReply link op after answer = (answer ≡ reply.Fault) × (after ≡ failed (asked link op))

-- the link fails, before the operation takes effect or after
abbrev pub FailsAt : When → LinkState → Op → LinkState → Reply → Type 0
FailsAt Before link op after answer = (answer ≡ reply.Fault) × (after ≡ failed link)
FailsAt After link op after answer = LosesReply link op after answer
