use Rattle.std.proofs.Common.{◌≡◌, take}
use Rattle.std.specs.Prelude.{count_by}
use Rattle.orc_text.specs.Counts.{capped}
use Rattle.orc_run.specs.Summaries.{is_call_line}
use Rattle.orc_run.proofs.summing.calls_in.Given as goal

abbrev pub invariant-loop-step : goal.invariant-loop-step
invariant-loop-step l = l.count ≡ capped (count_by is_call_line (take l.step-index l.steps))
