-- A link to a node.
use Rattle.std.specs.Prelude.{◌≡◌, ℕ, ◌⊎◌, Bool, true, false, List, [], Option, Some, None, if◌then◌else◌}
use Rattle.orc_io.specs.Counts.{next_count}
use Rattle.orc_call.specs.declared.answer.Tag.{Tag}
use Rattle.orc_device.specs.declared.op.Op.{Op}
use Rattle.orc_device.specs.declared.reply.Reply.{Reply}
use Rattle.orc_device.specs.declared.reply.Reply.TheVariants as reply
use Rattle.orc_device.specs.Nodes.{DeviceKind, op_refusal}
use Rattle.orc_device.specs.Links.{Way, Possible, is_stranded, took_effect, way_node, way_session, way_reply, link_fails}
use Rattle.orc_device.specs.Links.Way.{Done, Denied, Stranded, Before, After, NoMemory}
use Rattle.orc_node.specs.Kinds.{device_kind}
use Rattle.orc_device.specs.Listings.{kind_of_op, listed_when, without_first}
use Rattle.orc_node.specs.Nodes.{AcceptingNode, with_state}
use Rattle.orc_device.specs.declared.kind.OpKind.{OpKind}
use Rattle.orc_device.specs.declared.kind.When.{When}
use Rattle.orc_device.specs.declared.kind.When.TheVariants as when

-- a link: the device, its session there, how often it failed, and the operations that are to fail
pub record LinkState : Type 0 where
  pub node : AcceptingNode
  pub session : ℕ  -- the number of the session that it opened last, and 0, which no session has, before the first
  pub faults : ℕ
  pub listed : List (OpKind × When)  -- the operations that are to fail

-- no session was opened, nothing failed, and nothing is to fail
abbrev pub new_link : AcceptingNode → LinkState
new_link node = record { node = node; session = 0; faults = 0; listed = [] }

-- what the link's device says of configurations
abbrev pub link_kind : LinkState → DeviceKind
link_kind link = device_kind link.node.accept

-- an operation is denied where there is a cause of refusal, and else this happens to it
abbrev pub way_by : Option Tag → Way → Way
way_by None good = good
way_by (Some tag) good = Denied tag

-- what happens to an operation that is to fail after its effect: a refused one fails before
abbrev pub lost_by : Option Tag → Way
lost_by None = After
lost_by (Some tag) = Before

-- what happens to an operation, by whether it is to fail and the first cause of refusal
abbrev pub listed_way : Option When → Option Tag → Way
listed_way None cause = way_by cause Done
listed_way (Some when.Before) cause = Before
listed_way (Some when.After) cause = lost_by cause

-- what happens to an operation of the link where memory doesn't run out
abbrev pub due_way : LinkState → Op → Way
due_way link op =
    if is_stranded link.node.state link.session op
    then Stranded
    else listed_way
    (listed_when (kind_of_op op) link.listed)
    (op_refusal (link_kind link) link.node.state link.session op)

-- one fault more, where it failed
abbrev pub counted : Bool → ℕ → ℕ
counted failed faults = if failed then next_count faults else faults

-- the link after an operation to which this happened
abbrev pub link_after : LinkState → Op → Way → LinkState
link_after link op way = record {
  node = with_state link.node (way_node (link_kind link) link.node.state link.session op way);
  session = way_session link.node.state link.session op way;
  faults = counted (link_fails way) link.faults;
  listed = without_first (kind_of_op op) link.listed;
}

-- memory runs out only in an operation that would have taken effect
abbrev pub RunsOutIn : Way → Way → Type 0
RunsOutIn NoMemory due = took_effect due ≡ true
RunsOutIn way due = Unit {0}

-- The operation went as the listed failures and the table of the device say, or memory ran out in it; the link and the
-- answer are those of what happened.
pub record LinkPerforms (link : LinkState) (op : Op) (after : LinkState) (answer : Reply) : Type 0 where
  pub way : Way
  pub possible : Possible (link_kind link) link.node.state link.session op way
  pub due : (way ≡ due_way link op) ⊎ (way ≡ NoMemory)
  pub reached : RunsOutIn way (due_way link op)
  pub leads : after ≡ link_after link op way
  pub answered : answer ≡ way_reply link.node.state op way
