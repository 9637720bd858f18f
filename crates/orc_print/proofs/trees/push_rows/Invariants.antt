use Rattle.std.proofs.Common.{◌≡◌, ◌++◌}
use Rattle.std.specs.String.{string_bytes}
use Rattle.std.specs.List.{flat_map}
use Rattle.orc_print.specs.Printed.{item_line, item_lines}
use Rattle.orc_print.proofs.trees.push_rows.Given as goal

-- the lines of the rows that are left give the whole
abbrev pub invariant-loop-row : goal.invariant-loop-row
invariant-loop-row l =
    string_bytes l.out ++ flat_map item_line l.row-iterator
    ≡ string_bytes l.initial.out ++ item_lines l.tree
