use Rattle.orc_yang.proofs.Parsed.{follows_grammar}
use Rattle.orc_yang.proofs.laws.parsing_follows_the_grammar.Goals as goal

pub returns : goal.returns
returns c = follows_grammar
