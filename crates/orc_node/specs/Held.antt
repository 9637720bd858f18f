-- The trees that a node holds: one that equals running is held as a flag.
use Rattle.std.specs.Prelude.{Option, Some, None}
use Rattle.orc_path.specs.Configurations.{Config}
use Rattle.orc_device.specs.Nodes.{PendingCommit}
use Rattle.orc_node.specs.declared.node.Pending.{Pending}

-- the tree held, or running where that is the flag
abbrev pub or_running : Option Config → Config → Config
or_running None running = running
or_running (Some tree) running = tree

-- the commit that is pending, where its tree is held so
abbrev pub pending_of : Option Pending → Config → Option PendingCommit
pending_of None running = None
pending_of (Some commit) running =
    Some (record { kept = or_running commit.kept running; id = commit.id; left = commit.left; by = commit.by })
