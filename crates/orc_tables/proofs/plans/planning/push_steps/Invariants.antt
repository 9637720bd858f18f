use Rattle.orc_tables.specs.Benches.{IsBench}
use Rattle.orc_tables.proofs.plans.planning.push_steps.Given as goal

abbrev pub invariant-loop-step : goal.invariant-loop-step
invariant-loop-step l = IsBench l.decls l.bench
