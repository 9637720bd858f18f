use Rattle.orc_types.proofs.Splits.{split-parts, split-some, split-first}
use Rattle.orc_types.proofs.cuts.split_at.Goals as goal

pub returns-clause-parts : goal.returns-clause-parts
returns-clause-parts c = split-parts c.args.separator c.args.text.now c.split_once.result c.requires c.utf8.text c.split_once.ensures.cases

pub returns-clause-some : goal.returns-clause-some
returns-clause-some c = split-some c.args.separator c.args.text.now c.split_once.result c.requires c.split_once.ensures.cases

pub returns-clause-first : goal.returns-clause-first
returns-clause-first c = split-first c.args.separator c.args.text.now c.split_once.result c.requires c.split_once.ensures.cases
