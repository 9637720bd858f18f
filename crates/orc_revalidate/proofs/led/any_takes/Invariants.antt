use Rattle.std.proofs.Common.{◌≡◌, List, drop, map}
use denote.Ref.{Bor}
use Rattle.std.specs.List.{list_any}
use Rattle.orc_path.specs.Steps.{PathStep}
use Rattle.orc_path.specs.declared.item.Item.{Item}
use Rattle.orc_revalidate.specs.inside.Led.{may_take}
use Rattle.orc_revalidate.proofs.led.any_takes.Given as goal

-- one is among the rows that are left, if there is one
abbrev pub invariant-loop-row : goal.invariant-loop-row
invariant-loop-row l = list_any (may_take l.schema l.new) (map (λ (row : Bor (List PathStep × Item)). row.now) (drop l.row-index l.rows))
    ≡ list_any (may_take l.schema l.new) (map (λ (row : Bor (List PathStep × Item)). row.now) l.rows)
