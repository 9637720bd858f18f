-- What is kept of a device.
use Rattle.std.specs.Prelude.{ℕ, ◌≡◌, Bool, true, false, Option, Some, None, ◌⊎◌}
use Rattle.orc_device.specs.declared.op.Op.{Op}
use Rattle.orc_device.specs.Nodes.{NodeState, PendingCommit, is_live, kept_tree}
use Rattle.orc_device.specs.declared.op.Op.TheVariants.{Edit, CommitConfirmed, Commit, Confirm, Cancel}
use Rattle.orc_path.specs.Configurations.{Config}

-- nobody holds the lock, or this session does, and lives
abbrev pub IsFreeOrMine : NodeState → Option ℕ → ℕ → Type 0
IsFreeOrMine node lock session = (lock ≡ None) ⊎ ((lock ≡ Some session) × (is_live node session ≡ true))

-- only the link's live session holds a lock; where it doesn't hold the candidate, candidate equals running
pub record Locks (node : NodeState) (session : ℕ) : Type 0 where
  pub run : IsFreeOrMine node node.running_lock session
  pub cand : ((node.candidate_lock ≡ None) × (node.candidate ≡ node.running))
      ⊎ ((node.candidate_lock ≡ Some session) × (is_live node session ≡ true))

-- the id of the commit that is pending
abbrev pub pending_id : Option (PendingCommit) → Option ℕ
pending_id None = None
pending_id (Some commit) = Some commit.id

-- nothing is pending, and running is this tree
pub record Quiet (node : NodeState) (config : Config) : Type 0 where
  pub none : node.pending ≡ None
  pub running : node.running ≡ config

-- t is pending over the tree before, and running is the tree due
pub record Held (node : NodeState) (t : ℕ) (before due : Config) : Type 0 where
  pub id : pending_id node.pending ≡ Some t
  pub under : kept_tree node ≡ before
  pub running : node.running ≡ due

-- the other node has the trees of this one, but for the candidate
pub record SameTrees (node other : NodeState) : Type 0 where
  pub running : other.running ≡ node.running
  pub pending : other.pending ≡ node.pending

-- no lock is held, and candidate equals running
pub record Unlocked (node : NodeState) : Type 0 where
  pub run : node.running_lock ≡ None
  pub cand : node.candidate_lock ≡ None
  pub same : node.candidate ≡ node.running

-- a live session edits candidate only under its lock
abbrev pub EditsLocked : NodeState → ℕ → Op → Type 0
EditsLocked node session (Edit set) = is_live node session ≡ true → node.candidate_lock ≡ Some session
EditsLocked node session operation = Unit {0}

-- it leaves running and what is pending
abbrev pub is_plain : Op → Bool
is_plain (CommitConfirmed t seconds) = false
is_plain Commit = false
is_plain (Confirm t) = false
is_plain (Cancel t) = false
is_plain operation = true
