-- Moves that bring the items of configurations.
use Rattle.std.proofs.Common.{List, [], ◌∷◌, ◌++◌, refl}
use Rattle.orc_refs.specs.Moves.{AreWhole, BringWhole}
use Rattle.orc_refs.specs.declared.moves.Move.{Move}

pub none-whole : AreWhole []
none-whole = record {
  sorted = refl;
  fit = λ path item h. cc;
  ways = λ path way some is_way. cc;
}

pub bring-more : (moves : List Move) (move : Move) → BringWhole moves → AreWhole move.new → BringWhole (moves ++ move ∷ [])
bring-more [] move all whole = (whole, tt)
bring-more (m ∷ ms) move all whole = (all.0, bring-more ms move all.1 whole)
