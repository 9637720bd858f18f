-- What a device of an acceptance says of configurations is right.
use Rattle.std.specs.Prelude.{◌≡◌, ℕ, ◌+◌, ◌<◌, ◌≤◌, Bool, true, false, List, length, IsTrue, Option, Some, None}
use Rattle.std.specs.FinMap.{get}
use Rattle.orc_path.specs.Steps.{PathStep}
use Rattle.orc_path.specs.declared.item.Item.{Item}
use Rattle.orc_schema_nodes.specs.Schemas.{SchemaTable}
use Rattle.orc_typed.specs.Typed.{is_typed}
use Rattle.orc_path.specs.Configurations.{Config, IsConfig}
use Rattle.orc_check.specs.declared.acceptance.Accept.{Accept}
use Rattle.orc_device.specs.declared.op.Op.{Op}
use Rattle.orc_device.specs.declared.op.Op.TheVariants.{CommitConfirmed, Commit, Confirm, Cancel}
use Rattle.orc_device.specs.Nodes.{DeviceKind, NodeState, dropped, is_live, kept_tree, next_session, node_after, restarted, session_begun, session_ended, ticked}
use Rattle.orc_node.specs.Kinds.{device_kind}
use Rattle.orc_node.specs.Nodes.{new_node}

-- Its test says which trees are equal, and the changes between two trees lead from the one to the other, where that is
-- a configuration.
pub record IsRight (kind : DeviceKind) : Type 0 where
  pub same : (config other : Config) → kind.same config other ≡ true → config ≡ other
  pub equal : (config : Config) → kind.same config config ≡ true
  pub changed : (from to : Config) → IsConfig to → kind.changed (kind.between from to) from ≡ to

-- Each device says which configurations are equal, and the changes between two of them lead from the one to the other.
abbrev pub KindsAreRight : Type 0
KindsAreRight = (accept : Accept) → IsRight (device_kind accept)

-- each item of a configuration may stand at its path under the schema
abbrev pub IsTypedTree : SchemaTable → Config → Type 0
IsTypedTree schema config =
    (path : List PathStep) (it : Item) → get config path ≡ Some it → IsTrue (is_typed schema path it)

-- The changes between two trees of the device's schema are taken.
abbrev pub ChangesAreTaken : Type 0
ChangesAreTaken =
    (accept : Accept) (from to : Config)
    → IsTypedTree accept.schema from → IsTypedTree accept.schema to → IsConfig to
    → (device_kind accept).fits ((device_kind accept).between from to) ≡ true

-- Each session has the number after the last one, and past 4,294,967,295 they begin with 1 again.
abbrev pub NumbersBeginAgain : Type 0
NumbersBeginAgain =
    ((last : ℕ) → last < 4294967295 → next_session last ≡ last + 1) × (next_session 4294967295 ≡ 1)

-- an operation that may change what a device comes back to: a commit that isn't to be confirmed, or one that confirms
abbrev pub commits_for_good : Op → Bool
commits_for_good Commit = true
commits_for_good (Confirm id) = true
commits_for_good op = false

-- What a device comes back to changes by Commit and Confirm alone: a commit to be confirmed, also again under its id,
-- its cancel, its time, a restart and the sessions keep it.
pub record KeepsWhatItComesBackTo : Type 0 where
  pub operation : (kind : DeviceKind) (node : NodeState) (session : ℕ) (op : Op) → commits_for_good op ≡ false
      → kept_tree (node_after kind node session op) ≡ kept_tree node
  pub time : (node : NodeState) (seconds : ℕ) → kept_tree (ticked node seconds) ≡ kept_tree node
  pub restart : (node : NodeState) → kept_tree (restarted node) ≡ kept_tree node
  pub begins : (node : NodeState) → kept_tree (session_begun node) ≡ kept_tree node
  pub ends : (node : NodeState) (session : ℕ) → kept_tree (session_ended node session) ≡ kept_tree node
  pub drops : (node : NodeState) → kept_tree (dropped node) ≡ kept_tree node

-- an operation that may change what a device runs: each kind of commit, and Cancel
abbrev pub commits_or_cancels : Op → Bool
commits_or_cancels (CommitConfirmed id seconds) = true
commits_or_cancels Commit = true
commits_or_cancels (Confirm id) = true
commits_or_cancels (Cancel id) = true
commits_or_cancels op = false

-- What a device runs changes by commits and Cancel alone, and by time and restarts; no session's begin or end does.
pub record RunsWhatWasCommitted : Type 0 where
  pub operation : (kind : DeviceKind) (node : NodeState) (session : ℕ) (op : Op) → commits_or_cancels op ≡ false
      → (node_after kind node session op).running ≡ node.running
  pub begins : (node : NodeState) → (session_begun node).running ≡ node.running
  pub ends : (node : NodeState) (session : ℕ) → (session_ended node session).running ≡ node.running
  pub drops : (node : NodeState) → (dropped node).running ≡ node.running

-- a session that holds the lock lives
abbrev pub HolderLives : Option ℕ → NodeState → Type 0
HolderLives None node = Unit {0}
HolderLives (Some holder) node = is_live node holder ≡ true

-- At most eight sessions live, none has the number 0, and who holds a lock lives.
pub record HasSoundSessions (node : NodeState) : Type 0 where
  pub few : length node.live ≤ 8
  pub numbered : is_live node 0 ≡ false
  pub running_holder : HolderLives node.running_lock node
  pub candidate_holder : HolderLives node.candidate_lock node

-- The sessions of a new node are sound, and operations, sessions, time and restarts leave sound ones.
pub record SessionsStaySound : Type 0 where
  pub opening : (base : Config) (accept : Accept) → HasSoundSessions (new_node base accept).state
  pub operation : (kind : DeviceKind) (node : NodeState) (session : ℕ) (op : Op) → HasSoundSessions node
      → HasSoundSessions (node_after kind node session op)
  pub begins : (node : NodeState) → HasSoundSessions node → HasSoundSessions (session_begun node)
  pub ends : (node : NodeState) (session : ℕ) → HasSoundSessions node → HasSoundSessions (session_ended node session)
  pub drops : (node : NodeState) → HasSoundSessions (dropped node)
  pub time : (node : NodeState) (seconds : ℕ) → HasSoundSessions node → HasSoundSessions (ticked node seconds)
  pub restart : (node : NodeState) → HasSoundSessions (restarted node)
