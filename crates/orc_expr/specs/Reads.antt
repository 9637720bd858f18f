-- What is read, and what two configurations have to share for it.
use Rattle.std.specs.Prelude.{◌≡◌, ℕ, List}
use Rattle.std.specs.List.{All}
use Rattle.std.specs.FinMap.{get}
use Rattle.orc_path.specs.Steps.{PathStep}
use Rattle.orc_path.specs.Views.{Viewed, entries_of}
use Rattle.orc_expr.specs.declared.read.Read.{Read}
use Rattle.orc_expr.specs.declared.read.Read.TheVariants.{Item, Keys, Service}

-- the two have the same item at the path, or the same entries of the list
abbrev pub SharesRead : Viewed → Viewed → Read → Type 0
SharesRead view other (Item path) = get view.items path ≡ get other.items path
SharesRead view other (Keys list) = entries_of view.items list ≡ entries_of other.items list
SharesRead view other (Service id) = Unit {0}

-- the two have equal shapes and share all that is read
pub record Shares (view other : Viewed) (reads : List Read) : Type 0 where
  pub shapes : (parent : List PathStep) (name : List ℕ) → view.shapes parent name ≡ other.shapes parent name
  pub read : All (SharesRead view other) reads

-- what is made of a view and what it reads depend on nothing but shapes and the reads: each other view that shares
-- them gives the same and reads the same
abbrev pub IsFixedByReads : {X : Type 0} → (Viewed → X) → (X → List Read) → Viewed → Type 0
IsFixedByReads make reads view = (other : Viewed) → Shares view other (reads (make view)) → make other ≡ make view
