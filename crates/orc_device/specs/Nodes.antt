-- A device with a candidate configuration, two locks and confirmed commit (RFC 6241 sections 7.5, 7.6, 8.3, 8.4, 8.6).
-- This project's own is: one error tag for each cause; Cancel, the timer and a restart reset candidate too; at most
-- eight sessions live; a commit under another persist id is in-use, and 0 seconds are an invalid value; a confirming
-- commit commits candidate, and so is refused as a commit is; candidate is modified where it differs from running; a
-- changed candidate that nobody locked outlives a restart.
use Rattle.std.specs.Prelude.{ℕ, ◌+◌, ◌-◌, Bool, true, false, not, ◌&&◌, ◌||◌, nat_eq, nat_lt, Option, Some, None, List, [], ◌∷◌, ◌++◌, length, if◌then◌else◌}
use Rattle.std.specs.List.{list_any, filter}
use Rattle.orc_path.specs.Configurations.{Config}
use Rattle.orc_tree.specs.declared.change.ChangeSet.{ChangeSet}
use Rattle.orc_call.specs.declared.answer.Tag.{Tag}
use Rattle.orc_call.specs.declared.answer.Tag.TheVariants.{LockDenied, InUse, InvalidValue, OperationFailed, NoSession}
use Rattle.orc_device.specs.declared.op.Op.{Op}
use Rattle.orc_device.specs.declared.op.Op.TheVariants.{OpenSession, LockRunning, LockCandidate, Edit, Validate, CommitConfirmed, Commit, Confirm, Cancel, Discard, UnlockCandidate, UnlockRunning, CloseSession, GetRunning}
use Rattle.orc_device.specs.declared.reply.Reply.{Reply}
use Rattle.orc_device.specs.declared.reply.Reply.TheVariants as reply

-- What a device makes of configurations, which never changes: which are equal, which it accepts, which changes it
-- takes, and what they make of one.
pub record DeviceKind : Type 0 where
  pub same : Config → Config → Bool  -- the two are equal
  pub accepts : Config → Bool  -- valid under its schema, and kept to its other rules
  pub fits : ChangeSet → Bool  -- each change is of a path and a text of its schema, and what is put fits its path
  pub changed : ChangeSet → Config → Config  -- the configuration with the changes made
  pub between : Config → Config → ChangeSet  -- the changes that lead from one to the other

-- a commit that is pending: the tree before it, its persist id, the seconds left, and the session that made it
pub record PendingCommit : Type 0 where
  pub kept : Config
  pub id : ℕ
  pub left : ℕ
  pub by : ℕ

-- a device: its two configurations, its locks, the commit that is pending, and its sessions
pub record NodeState : Type 0 where
  pub running : Config
  pub candidate : Config
  pub running_lock : Option ℕ  -- the session that holds it
  pub candidate_lock : Option ℕ
  pub pending : Option PendingCommit
  pub live : List ℕ  -- the sessions that live, at most 8
  pub last : ℕ  -- the last number given to a session, 0 before the first

-- What an operation is refused for ------------------------------------------------------------------------------------

-- a session of this number lives
abbrev pub is_live : NodeState → ℕ → Bool
is_live node session = list_any (nat_eq session) node.live

-- a session holds the lock
abbrev pub is_held : Option ℕ → Bool
is_held None = false
is_held (Some holder) = true

-- this session holds the lock
abbrev pub is_held_by_session : Option ℕ → ℕ → Bool
is_held_by_session None session = false
is_held_by_session (Some holder) session = nat_eq holder session

-- a session other than this one holds the lock
abbrev pub is_held_by_other : Option ℕ → ℕ → Bool
is_held_by_other None session = false
is_held_by_other (Some holder) session = not (nat_eq holder session)

-- a commit waits to be confirmed
abbrev pub is_pending : Option PendingCommit → Bool
is_pending None = false
is_pending (Some commit) = true

-- a commit of another session is pending
abbrev pub is_pending_by_other : Option PendingCommit → ℕ → Bool
is_pending_by_other None session = false
is_pending_by_other (Some commit) session = not (nat_eq commit.by session)

-- a commit is pending under this persist id
abbrev pub is_pending_under : Option PendingCommit → ℕ → Bool
is_pending_under None id = false
is_pending_under (Some commit) id = nat_eq commit.id id

-- another session holds a lock
abbrev pub is_locked_by_other : NodeState → ℕ → Bool
is_locked_by_other node session =
    is_held_by_other node.running_lock session || is_held_by_other node.candidate_lock session

-- this tag where the cause holds, and else the later refusal
abbrev pub refuse : Bool → Tag → Option Tag → Option Tag
refuse cause tag later = if cause then Some tag else later

-- the first cause for which an operation of a live session is refused
abbrev pub denied : DeviceKind → NodeState → ℕ → Op → Option Tag
denied kind node session OpenSession = None
denied kind node session LockRunning =
    refuse (is_held node.running_lock || is_pending_by_other node.pending session) LockDenied None
denied kind node session LockCandidate =
    refuse (is_held node.candidate_lock || not (kind.same node.candidate node.running)) LockDenied None
denied kind node session (Edit set) =
    refuse (is_held_by_other node.candidate_lock session) InUse (refuse (not (kind.fits set)) InvalidValue None)
denied kind node session Validate = refuse (not (kind.accepts node.candidate)) OperationFailed None
denied kind node session (CommitConfirmed id seconds) =
    refuse
    (is_locked_by_other node session || (is_pending node.pending && not (is_pending_under node.pending id)))
    InUse
    (refuse (nat_eq seconds 0) InvalidValue (refuse (not (kind.accepts node.candidate)) OperationFailed None))
denied kind node session Commit =
    refuse (is_locked_by_other node session || is_pending node.pending) InUse
    (refuse (not (kind.accepts node.candidate)) OperationFailed None)
denied kind node session (Confirm id) =
    refuse (is_locked_by_other node session) InUse
    (refuse (not (is_pending_under node.pending id)) InvalidValue
    (refuse (not (kind.accepts node.candidate)) OperationFailed None))
denied kind node session (Cancel id) = refuse (not (is_pending_under node.pending id)) InvalidValue None
denied kind node session Discard = refuse (is_held_by_other node.candidate_lock session) InUse None
denied kind node session UnlockCandidate =
    refuse (not (is_held_by_session node.candidate_lock session)) OperationFailed None
denied kind node session UnlockRunning =
    refuse (not (is_held_by_session node.running_lock session)) OperationFailed None
denied kind node session CloseSession = None
denied kind node session GetRunning = None

-- only a session that lives may ask for it
abbrev pub needs_session : Op → Bool
needs_session OpenSession = false
needs_session op = true

-- the first cause for which an operation of the session is refused
abbrev pub op_refusal : DeviceKind → NodeState → ℕ → Op → Option Tag
op_refusal kind node session op =
    refuse (needs_session op && not (is_live node session)) NoSession (denied kind node session op)

-- Sessions ------------------------------------------------------------------------------------------------------------

-- the lock, free where this session held it
abbrev pub freed : Option ℕ → ℕ → Option ℕ
freed lock session = if is_held_by_session lock session then None else lock

-- the end of a session
abbrev pub session_ended : NodeState → ℕ → NodeState
session_ended node session = record node {
  candidate = if is_held_by_session node.candidate_lock session then node.running else node.candidate;
  running_lock = freed node.running_lock session;
  candidate_lock = freed node.candidate_lock session;
  live = filter (λ other. not (nat_eq session other)) node.live;
}

-- the number of the next session: past the largest 32-bit number comes 1
abbrev pub next_session : ℕ → ℕ
next_session last = if nat_lt last 4294967295 then last + 1 else 1

-- the least of these numbers
abbrev pub least_of : ℕ → List ℕ → ℕ
least_of first [] = first
least_of first (next ∷ later) = least_of (if nat_lt next first then next else first) later

-- the node with room for one session more, where these sessions live: of eight that of the least number has ended
abbrev pub roomy : NodeState → List ℕ → NodeState
roomy node [] = node
roomy node (first ∷ later) =
    if nat_lt 7 (length (first ∷ later)) then session_ended node (least_of first later) else node

-- a session of this number more, the last that was begun
abbrev pub with_session : NodeState → ℕ → NodeState
with_session node session = record node { live = node.live ++ session ∷ []; last = session }

-- one session more: a live one of its number ends first, and then the least of eight
abbrev pub session_begun : NodeState → NodeState
session_begun node =
    let session = next_session node.last in
    let others = session_ended node session in
    with_session (roomy others others.live) session

-- all sessions end
abbrev pub dropped : NodeState → NodeState
dropped node = record node {
  candidate = if is_held node.candidate_lock then node.running else node.candidate;
  running_lock = None;
  candidate_lock = None;
  live = [];
}

-- Effects -------------------------------------------------------------------------------------------------------------

-- the tree before the pending commit; without one, running
abbrev pub kept_by : Option PendingCommit → Config → Config
kept_by None running = running
kept_by (Some commit) running = commit.kept

-- the tree that the device comes back to: where a commit is pending the one before it, and else running
abbrev pub kept_tree : NodeState → Config
kept_tree node = kept_by node.pending node.running

-- what an operation of the session that isn't refused does
abbrev pub effect : DeviceKind → NodeState → ℕ → Op → NodeState
effect kind node session OpenSession = session_begun (session_ended node session)
effect kind node session LockRunning = record node { running_lock = Some session }
effect kind node session LockCandidate = record node { candidate_lock = Some session }
effect kind node session (Edit set) = record node { candidate = kind.changed set node.candidate }
effect kind node session Validate = node
effect kind node session (CommitConfirmed id seconds) = record node {
  running = node.candidate;
  pending = Some (record { kept = kept_by node.pending node.running; id = id; left = seconds; by = session });
}
effect kind node session Commit = record node { running = node.candidate }
effect kind node session (Confirm id) = record node { running = node.candidate; pending = None }
effect kind node session (Cancel id) = record node {
  running = kept_by node.pending node.running;
  candidate = kept_by node.pending node.running;
  pending = None;
}
effect kind node session Discard = record node { candidate = node.running }
effect kind node session UnlockCandidate = record node { candidate_lock = None; candidate = node.running }
effect kind node session UnlockRunning = record node { running_lock = None }
effect kind node session CloseSession = session_ended node session
effect kind node session GetRunning = node

-- the state after an operation, or the state before it where it is refused
abbrev pub unless_denied : Option Tag → NodeState → NodeState → NodeState
unless_denied None node after = after
unless_denied (Some tag) node after = node

-- the device after an operation of the session
abbrev pub node_after : DeviceKind → NodeState → ℕ → Op → NodeState
node_after kind node session op = unless_denied (op_refusal kind node session op) node (effect kind node session op)

-- Replies -------------------------------------------------------------------------------------------------------------

-- what is answered to an operation that isn't refused
abbrev pub good_reply : NodeState → Op → Reply
good_reply node GetRunning = reply.Tree node.running
good_reply node op = reply.Ok

-- the refusal, or the reply where there is none
abbrev pub reply_by : Option Tag → Reply → Reply
reply_by None good = good
reply_by (Some tag) good = reply.Refused tag

-- what is answered to an operation of the session
abbrev pub node_reply : DeviceKind → NodeState → ℕ → Op → Reply
node_reply kind node session op = reply_by (op_refusal kind node session op) (good_reply node op)

-- Time ----------------------------------------------------------------------------------------------------------------

-- the node where this commit is pending, once the tree before it has come back into running and candidate
abbrev pub reverted_by : NodeState → Option PendingCommit → NodeState
reverted_by node None = node
reverted_by node (Some commit) = record node { running = commit.kept; candidate = commit.kept; pending = None }

-- the tree before a commit that is pending comes back into running and candidate, and nothing is pending
abbrev pub reverted : NodeState → NodeState
reverted node = reverted_by node node.pending

-- the node where this commit is pending, after so many seconds: fewer than are left are taken off, and else the tree
-- before the commit comes back
abbrev pub ticked_by : NodeState → ℕ → Option PendingCommit → NodeState
ticked_by node seconds None = node
ticked_by node seconds (Some commit) =
    if nat_lt seconds commit.left
    then record node { pending = Some (record commit { left = commit.left - seconds }) }
    else reverted_by node (Some commit)

-- so many seconds pass
abbrev pub ticked : NodeState → ℕ → NodeState
ticked node seconds = ticked_by node seconds node.pending

-- the device restarts
abbrev pub restarted : NodeState → NodeState
restarted node = dropped (reverted node)
