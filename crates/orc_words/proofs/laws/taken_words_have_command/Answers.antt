use Rattle.orc_words.proofs.Found.{taken_words_have_command}
use Rattle.orc_words.proofs.laws.taken_words_have_command.Goals as goal

pub returns : goal.returns
returns c = taken_words_have_command
