-- What is left has the word or not, as the whole text has.
use Rattle.std.proofs.Common.{◌≡◌, length}
use Rattle.std.specs.Str.{IsUtf8}
use Rattle.orc_statements.specs.declared.cuts.Mark.TheVariants.{White}
use Rattle.orc_statements.specs.Cuts.{parts}
use Rattle.orc_statements.proofs.Words.{has}
use Rattle.orc_statements.proofs.cuts.has_word.Given as goal

abbrev pub invariant-loop-piece : goal.invariant-loop-piece
invariant-loop-piece l = record {
  utf8 : IsUtf8 l.rest;
  left : has l.word (parts White l.rest) ≡ has l.word (parts White l.text);
}

abbrev pub decreases-loop-piece : goal.decreases-loop-piece
decreases-loop-piece l = length l.rest
