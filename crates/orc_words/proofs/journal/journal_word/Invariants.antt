use Rattle.std.proofs.Common.{◌≡◌, map, length}
use Rattle.std.specs.String.{string_bytes}
use Rattle.orc_words.specs.Words.{journal_word}
use Rattle.orc_words.proofs.journal.journal_word.Given as goal

abbrev pub invariant-loop-word : goal.invariant-loop-word
invariant-loop-word l =
    journal_word (map (λ w. string_bytes w) l.rest) ≡ journal_word (map (λ w. string_bytes w) l.words)

abbrev pub decreases-loop-word : goal.decreases-loop-word
decreases-loop-word l = length l.rest
