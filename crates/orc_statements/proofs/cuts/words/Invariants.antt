-- What is left is still to come.
use Rattle.std.proofs.Common.{◌≡◌, ◌++◌, drop}
use Rattle.std.specs.List.{filter}
use Rattle.orc_statements.specs.Cuts.{is_word, words}
use Rattle.orc_statements.proofs.cuts.words.Given as goal

abbrev pub invariant-loop-piece : goal.invariant-loop-piece
invariant-loop-piece l = l.all ++ filter is_word (drop l.piece-index l.piece-items) ≡ words l.text
