-- What may happen to an operation of a link's session.
use Rattle.std.specs.Prelude.{ℕ, ◌≡◌, ◌&&◌, not, nat_eq, Bool, true, false, Some, None}
use Rattle.orc_call.specs.declared.answer.Tag.{Tag}
use Rattle.orc_device.specs.declared.op.Op.{Op}
use Rattle.orc_device.specs.declared.op.Op.TheVariants.{OpenSession, Edit, GetRunning}
use Rattle.orc_device.specs.declared.reply.Reply.{Reply}
use Rattle.orc_device.specs.declared.reply.Reply.TheVariants as reply
use Rattle.orc_device.specs.Nodes.{DeviceKind, NodeState, op_refusal, needs_session, effect, session_ended, is_live, good_reply, next_session}

-- what may happen to an operation of a link
pub data Way : Type 0 where
  Done : Way  -- it took effect and was answered
  Denied : Tag → Way  -- it was refused
  Stranded : Way  -- the node had ended the link's session
  Before : Way  -- the link failed before the effect
  After : Way  -- the link failed after the effect
  NoMemory : Way

-- a change of candidate and a look at running, the operations that copy a configuration, and so may want memory
abbrev pub takes_memory : Op → Bool
takes_memory (Edit set) = true
takes_memory GetRunning = true
takes_memory op = false

-- the device has ended the session that the link opened last, which the operation needs; before the first session,
-- which is number 0 here, nothing was ended
abbrev pub is_stranded : NodeState → ℕ → Op → Bool
is_stranded node session op = needs_session op && (not (is_live node session) && not (nat_eq session 0))

-- the session of a link, by its number, after an operation that took effect
abbrev pub session_after : NodeState → ℕ → Op → ℕ
session_after node session OpenSession = next_session node.last
session_after node session op = session

-- whether this may happen to an operation of a link
abbrev pub Possible : DeviceKind → NodeState → ℕ → Op → Way → Type 0
Possible kind node session op Done = op_refusal kind node session op ≡ None
Possible kind node session op (Denied tag) =
    (op_refusal kind node session op ≡ Some tag) × (is_stranded node session op ≡ false)
Possible kind node session op Stranded = is_stranded node session op ≡ true
Possible kind node session op Before = is_stranded node session op ≡ false
Possible kind node session op After = op_refusal kind node session op ≡ None
Possible kind node session op NoMemory = (takes_memory op ≡ true) × (op_refusal kind node session op ≡ None)

-- the device after an operation of a link to which this happened
abbrev pub way_node : DeviceKind → NodeState → ℕ → Op → Way → NodeState
way_node kind node session op Done = effect kind node session op
way_node kind node session op (Denied tag) = node
way_node kind node session op Stranded = node
way_node kind node session op Before = session_ended node session
way_node kind node session op After = session_ended (effect kind node session op) (session_after node session op)
way_node kind node session op NoMemory = node

-- the session of a link after an operation to which this happened
abbrev pub way_session : NodeState → ℕ → Op → Way → ℕ
way_session node session op Done = session_after node session op
way_session node session op After = session_after node session op
way_session node session op way = session

-- what a link answers to an operation to which this happened
abbrev pub way_reply : NodeState → Op → Way → Reply
way_reply node op Done = good_reply node op
way_reply node op (Denied tag) = reply.Refused tag
way_reply node op Stranded = reply.Fault
way_reply node op Before = reply.Fault
way_reply node op After = reply.Fault
way_reply node op NoMemory = reply.Memory

-- where this happened to an operation, it took effect on the device
abbrev pub took_effect : Way → Bool
took_effect Done = true
took_effect After = true
took_effect way = false

-- where this happened to an operation, the link failed
abbrev pub link_fails : Way → Bool
link_fails Stranded = true
link_fails Before = true
link_fails After = true
link_fails way = false
