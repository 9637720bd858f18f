-- Which entry may follow which.
use Rattle.std.specs.Prelude.{ℕ, Bool, true, ◌&&◌, ◌==◌, List, [], ◌∷◌, ◌++◌, Option, is_some, if◌then◌else◌}
use Rattle.std.specs.declared.option.Option.TheVariants.{None, Some}
use Rattle.std.specs.List.{fold}
use Rattle.orc_journal.specs.Entries.{number_of}
use Rattle.orc_journal.specs.declared.entry.Entry.{Entry}
use Rattle.orc_journal.specs.declared.entry.Entry.TheVariants.{Intent, Decide, Abort, Settled}
use Rattle.orc_journal.specs.declared.stage.Stage.{Stage}
use Rattle.orc_journal.specs.declared.stage.Stage.TheVariants as stage

-- The stage of a transaction after an entry that names it, where the entry may follow: an intent comes first and once,
-- then at most one of Decide and Abort, then at most one Settled.
abbrev pub next_stage : Option Stage → Entry → Option Stage
next_stage None (Intent t call devices) = Some stage.Open
next_stage (Some stage.Open) (Decide t) = Some stage.Decided
next_stage (Some stage.Open) (Abort t) = Some stage.Aborted
next_stage (Some stage.Open) (Settled t) = Some stage.Done
next_stage (Some stage.Decided) (Settled t) = Some stage.Done
next_stage (Some stage.Aborted) (Settled t) = Some stage.Done
next_stage _ _ = None

-- the stage of transaction t after entries, each of which may stand where it stands
abbrev pub stage_after : ℕ → Option Stage → Entry → Option Stage
stage_after t before entry = if number_of entry == t then next_stage before entry else before

abbrev pub stage_of : ℕ → List Entry → Option Stage
stage_of t entries = fold (stage_after t) None entries

-- the entry may stand after these
abbrev pub follows : List Entry → Entry → Bool
follows before entry = is_some (next_stage (stage_of (number_of entry) before) entry)

-- each of these may stand where it stands, after those before
abbrev pub are_ordered : List Entry → List Entry → Bool
are_ordered before [] = true
are_ordered before (entry ∷ entries) = follows before entry && are_ordered (before ++ entry ∷ []) entries

abbrev pub is_ordered : List Entry → Bool
is_ordered entries = are_ordered [] entries
