use Rattle.std.proofs.Common.{◌≡◌, take}
use Rattle.orc_text.proofs.row.Row.of_copies.Given as goal

-- the items so far are equal to those that stand first
abbrev pub invariant-loop-item : goal.invariant-loop-item
invariant-loop-item g l = l.copies.items ≡ take l.item-index l.items
