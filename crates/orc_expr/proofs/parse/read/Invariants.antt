use Rattle.orc_expr.specs.inside.Reading.{reading_of}
use Rattle.orc_expr.proofs.Parsed.{Stands}
use Rattle.orc_expr.proofs.parse.read.Given as goal

abbrev pub invariant-loop-character : goal.invariant-loop-character
invariant-loop-character l = Stands l.conditional l.text l.at l.character-iterator.rest.now (reading_of l.reader)
