-- What a node holds, looked at and changed.
use Rattle.std.specs.Prelude.{◌≡◌, ℕ, Bool, false, not, nat_eq, Option, Some, None, if◌then◌else◌}
use Rattle.orc_path.specs.Configurations.{Config}
use Rattle.orc_check.specs.Acceptance.{accepts}
use Rattle.orc_check.specs.declared.acceptance.Accept.{Accept}
use Rattle.orc_node.specs.Held.{or_running}
use Rattle.orc_node.specs.declared.node.Pending.{Pending}

-- the commit that is pending is another session's
abbrev pub is_by_other : Option Pending → ℕ → Bool
is_by_other None session = false
is_by_other (Some commit) session = not (nat_eq commit.by session)

-- the commit that is pending has this persist id
abbrev pub is_under : Option Pending → ℕ → Bool
is_under None id = false
is_under (Some commit) id = nat_eq commit.id id

-- the commit that is pending, over the tree that ran
abbrev pub with_kept : Option Pending → Config → Option Pending
with_kept None before = None
with_kept (Some commit) before =
    Some (record {
      kept = Some (or_running commit.kept before);
      verdict = commit.verdict;
      id = commit.id;
      left = commit.left;
      by = commit.by;
    })

-- no tree where there is a cause, and else the one that was there
abbrev pub unless : Bool → Option Config → Option Config
unless cause tree = if cause then None else tree

-- what is known of a tree's acceptance is so
abbrev pub IsKnown : Option Bool → Bool → Type 0
IsKnown None accepted = Unit {0}
IsKnown (Some verdict) accepted = verdict ≡ accepted

-- what is known of the tree before a commit that is pending is so
abbrev pub IsKeptKnown : Accept → Config → Option Pending → Type 0
IsKeptKnown accept running None = Unit {0}
IsKeptKnown accept running (Some commit) = IsKnown commit.verdict (accepts accept (or_running commit.kept running))

-- what is known of candidate, which becomes running where there is a cause
abbrev pub known_unless : Bool → Option Bool → Option Bool → Option Bool
known_unless cause running candidate = if cause then running else candidate
