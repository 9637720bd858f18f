use Rattle.std.proofs.Common.{◌≡◌, ◌++◌, List, take, map}
use denote.Ref.{Bor}
use Rattle.std.specs.List.{flat_map}
use Rattle.orc_path.specs.Steps.{PathStep}
use Rattle.orc_path.specs.declared.item.Item.{Item}
use Rattle.orc_revalidate.specs.inside.Changed.{lacking}
use Rattle.orc_revalidate.proofs.paths.push_each_lacking.Given as goal

-- those of the rows so far
abbrev pub invariant-loop-row : goal.invariant-loop-row
invariant-loop-row l =
    l.paths ≡ l.fn.paths ++ flat_map (lacking l.tree) (map (λ (row : Bor (List PathStep × Item)). row.now) (take l.row-index l.rows))
