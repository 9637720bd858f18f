use Rattle.std.proofs.Common.{ℕ}
use Rattle.orc_path.proofs.Standing.{IsStanding}
use Rattle.orc_path.proofs.reading.read_path.Given as goal

-- some bytes were read
abbrev pub invariant-loop-character : goal.invariant-loop-character
invariant-loop-character l = (at : ℕ) × IsStanding l.text at l.character-iterator.rest.now l.reader
