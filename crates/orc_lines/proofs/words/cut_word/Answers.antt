use Rattle.orc_lines.proofs.WordCuts.{cut_words}
use Rattle.orc_lines.proofs.words.cut_word.Goals as goal

pub returns : goal.returns
returns c = cut_words c.args.text.now _ c.utf8.text c.split_once.ensures.cases
