use Rattle.std.proofs.Common.{◌≡◌, List, drop, map}
use denote.Ref.{Bor}
use Rattle.std.specs.List.{fold, flat_map}
use Rattle.orc_path.specs.Steps.{PathStep}
use Rattle.orc_path.specs.declared.item.Item.{Item}
use Rattle.orc_check.specs.Validity.{lesser_breach}
use Rattle.orc_revalidate.specs.inside.Looked.{came_breaches}
use Rattle.orc_revalidate.proofs.looks.keep_each_came.Given as goal

-- the best so far goes on to the least over the rows that are left
abbrev pub invariant-loop-row : goal.invariant-loop-row
invariant-loop-row l =
    fold lesser_breach l.kept (flat_map (came_breaches l.schema l.old l.new) (map (λ (row : Bor (List PathStep × Item)). row.now) (drop l.row-index l.rows)))
    ≡ fold lesser_breach l.initial.kept (flat_map (came_breaches l.schema l.old l.new) (map (λ (row : Bor (List PathStep × Item)). row.now) l.rows))
