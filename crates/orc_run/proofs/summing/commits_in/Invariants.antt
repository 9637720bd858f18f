use Rattle.std.proofs.Common.{◌≡◌, take}
use Rattle.std.specs.Prelude.{count_by}
use Rattle.orc_text.specs.Counts.{capped}
use Rattle.orc_run.specs.Summaries.{is_commit}
use Rattle.orc_run.proofs.summing.commits_in.Given as goal

abbrev pub invariant-loop-event : goal.invariant-loop-event
invariant-loop-event l = l.count ≡ capped (count_by is_commit (take l.event-index l.events))
