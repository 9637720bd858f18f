-- Lists of items in another order.
use Rattle.std.specs.Prelude.{◌≡◌, Bool, List}
use Rattle.std.specs.List.{filter}
use Rattle.std.specs.Ordering.{eq_by_cmp}
use Rattle.orc_path.specs.Steps.{PathStep}
use Rattle.orc_path.specs.Order.{path_cmp}
use Rattle.orc_call.specs.declared.call.Put.{Put}

-- the item is set at this path
abbrev pub is_at : List PathStep → Put → Bool
is_at path put = eq_by_cmp path_cmp path put.path

-- at each path both lists set the same items in the same order
abbrev pub KeepsOrder : List Put → List Put → Type 0
KeepsOrder puts others = (path : List PathStep) → filter (is_at path) others ≡ filter (is_at path) puts
