-- Which services clash at a path.
use Rattle.std.specs.Prelude.{◌≡◌, ◌≢◌, ℕ, Bool, false, not, List, [], ◌∷◌, ◌++◌, Option, IsTrue}
use Rattle.std.specs.declared.option.Option.TheVariants.{None, Some}
use Rattle.std.specs.declared.cmp.Ordering.TheVariants.{Less, Greater}
use Rattle.orc_path.specs.Steps.{PathStep}
use Rattle.orc_path.specs.Order.{path_cmp, text_cmp}
use Rattle.orc_path.specs.declared.item.Item.{Item}
use Rattle.orc_change.specs.Differences.{has_item}
use Rattle.orc_refs.specs.declared.moves.Move.{Move}
use Rattle.orc_refs.specs.declared.moves.RefsFault.{RefsFault}
use Rattle.orc_refs.specs.declared.moves.RefsFault.TheVariants.{Clash, Memory}

-- both are items, and they are unequal
abbrev pub are_unequal : Option Item → Option Item → Bool
are_unequal None other = false
are_unequal (Some item) None = false
are_unequal (Some item) (Some other) = not (has_item (Some item) other)

-- some service writes another item at the path than the one of this id
abbrev pub HasRival : (List ℕ → List PathStep → Option Item) → List PathStep → List ℕ → Type 0
HasRival writes path id = (other : List ℕ) × IsTrue (are_unequal (writes id path) (writes other path))

-- none of the services that move has one
abbrev pub AreUnrivalled : (List ℕ → List PathStep → Option Item) → List PathStep → List Move → Type 0
AreUnrivalled writes path [] = Unit {0}
AreUnrivalled writes path (move ∷ moves) =
    (HasRival writes path move.service → ⊥) × AreUnrivalled writes path moves

-- The path is the least at which a service that moves and another one write unequal items. Of those that move the first
-- such counts, and the other is the least of those whose item is unequal to its.
pub record ClashesAt (writes : List ℕ → List PathStep → Option Item) (moves : List Move) (path : List PathStep)
    (other : List ℕ) : Type 0 where
  pub front : List Move
  pub mover : Move
  pub back : List Move
  pub parts : moves ≡ front ++ mover ∷ back
  pub first : AreUnrivalled writes path front
  pub unequal : IsTrue (are_unequal (writes mover.service path) (writes other path))
  pub least : (id : List ℕ) → IsTrue (are_unequal (writes mover.service path) (writes id path))
      → text_cmp other id ≢ Greater
  pub before : (earlier : List PathStep) → path_cmp earlier path ≡ Less → AreUnrivalled writes earlier moves

-- a clash is the least of what services would write; running out of memory has no cause
abbrev pub IsCause : (List ℕ → List PathStep → Option Item) → List Move → RefsFault → Type 0
IsCause writes moves (Clash path other) = ClashesAt writes moves path other
IsCause writes moves Memory = Unit {0}
