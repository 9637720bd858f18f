use Rattle.orc_template.proofs.ReadBack.{expressions_same, conditions_same}
use Rattle.orc_template.proofs.laws.readers_are_one.Goals as goal

pub returns : goal.returns
returns c = λ one other first second text. (expressions_same one other first second text, conditions_same one other first second text)
