use Rattle.orc_words.proofs.Forms.{written_words_are_taken}
use Rattle.orc_words.proofs.laws.written_words_are_taken.Goals as goal

pub returns : goal.returns
returns c = written_words_are_taken
