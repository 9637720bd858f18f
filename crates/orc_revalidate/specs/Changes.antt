-- Where a change of a configuration may have touched it.
use Rattle.std.specs.Prelude.{◌≢◌, List, Contains}
use Rattle.std.specs.FinMap.{get}
use Rattle.orc_path.specs.Steps.{PathStep}
use Rattle.orc_path.specs.Configurations.{Config}
use Rattle.orc_expr.specs.Touches.{IsInside}
use Rattle.orc_expr.specs.declared.read.Target.{Target}

-- each path at which two configurations have not the same item lies inside one of the targets
abbrev pub DiffersInside : List Target → Config → Config → Type 0
DiffersInside targets old new = (path : List PathStep) → get old path ≢ get new path
    → (target : Target) × Contains targets target × IsInside target path

-- these are the paths at which two configurations have not the same item, and no others
pub record ArePathsChanged (old new : Config) (paths : List (List PathStep)) : Type 0 where
  pub sound : (path : List PathStep) → Contains paths path → get old path ≢ get new path
  pub whole : (path : List PathStep) → get old path ≢ get new path → Contains paths path
