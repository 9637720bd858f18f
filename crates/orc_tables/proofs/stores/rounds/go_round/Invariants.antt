use Rattle.std.proofs.Common.{◌≡◌, ◌+◌, ◌*◌, ◌≤◌, length}
use Rattle.orc_tables.specs.Holdings.{Writes}
use Rattle.orc_tables.proofs.stores.rounds.go_round.Given as goal

-- the service writes what it holds, which is two items, and each move but the first took eight steps at most
abbrev pub invariant-loop-done : goal.invariant-loop-done
invariant-loop-done g l = record {
  holds : Writes l.refs l.service l.held;
  two : length l.held ≡ 2;
  steps : l.steps + 4 ≤ l.fn.steps + 8 * l.done;
}
