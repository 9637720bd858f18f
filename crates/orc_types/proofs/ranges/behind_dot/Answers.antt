use Rattle.std.proofs.Common.{arith}
use Rattle.std.proofs.lemmas.Str.Pattern.{strip_prefix_char}
use Rattle.orc_types.proofs.Splits.{behind_dot-is}
use Rattle.orc_types.proofs.ranges.behind_dot.Goals as goal

pub returns : goal.returns
returns c = behind_dot-is c.args.text.now c.strip_prefix.result (strip_prefix_char 46 c.args.text.now c.strip_prefix.result c.strip_prefix.ensures.cases (omega arith))
