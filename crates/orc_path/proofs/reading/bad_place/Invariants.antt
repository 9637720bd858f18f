use Rattle.orc_path.proofs.Modes.{IsAt}
use Rattle.orc_path.proofs.reading.bad_place.Given as goal

abbrev pub invariant-loop-character : goal.invariant-loop-character
invariant-loop-character l = IsAt l.text l.at l.character-iterator.rest.now l.mode
