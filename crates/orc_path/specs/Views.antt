-- A configuration as expressions look at it.
use Rattle.std.specs.Prelude.{ℕ, List}
use Rattle.std.specs.List.{filter}
use Rattle.std.specs.FinMap.{keys}
use Rattle.orc_path.specs.Steps.{PathStep}
use Rattle.orc_path.specs.Configurations.{Config, is_entry_of}
use Rattle.orc_path.specs.declared.shape.Shape.{Shape}

-- the items, and what the schema says of a name below a parent
pub record Viewed : Type 0 where
  pub items : Config
  pub shapes : List PathStep → List ℕ → Shape

-- the entries of a list, in path order
abbrev pub entries_of : Config → List PathStep → List (List PathStep)
entries_of config list = filter (is_entry_of list) (keys config)
