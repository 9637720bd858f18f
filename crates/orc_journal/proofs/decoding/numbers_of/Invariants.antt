use Rattle.std.proofs.Common.{◌≡◌, ◌+◌, ◌*◌, ◌++◌, All, length}
use Rattle.orc_journal.proofs.Devices.{Fits16, numbers_bytes}
use Rattle.orc_journal.proofs.decoding.numbers_of.Given as goal

-- what is read so far, and how much is left
abbrev pub invariant-loop : goal.invariant-loop
invariant-loop l = record {
  counted : length l.numbers ≡ l.counter;
  fit : All Fits16 l.numbers;
  parts : l.bytes ≡ numbers_bytes l.numbers ++ l.rest;
  left : length l.rest + 2 * l.counter ≡ 2 * l.count;
}
