-- The parts of a store as they are kept.
use Rattle.std.specs.Prelude.{ℕ, List, IsTrue}
use Rattle.std.specs.FinMap.{is_sorted}
use Rattle.orc_path.specs.Steps.{PathStep}
use Rattle.orc_path.specs.Order.{path_cmp}
use Rattle.orc_path.specs.Configurations.{Config}
use Rattle.orc_refs.specs.Stores.{IsStore, store_of}

-- rows of back pointers in path order, and a base and a tree that belong to them
pub record AreKept (base tree : Config) (rows : List (List PathStep × List (List ℕ))) : Type 0 where
  pub sorted : IsTrue (is_sorted path_cmp rows)
  pub store : IsStore (store_of base tree rows)
