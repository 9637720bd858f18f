-- What is known goes before what is still to come.
use Rattle.orc_modules.specs.inside.Blocks.{by_name, KnowsNames}
use Rattle.orc_modules.proofs.firsts.names_of.Given as goal

abbrev pub invariant-loop-here : goal.invariant-loop-here
invariant-loop-here l = KnowsNames l.fn.keyword l.fn.block l.here-index (by_name l.firsts)
