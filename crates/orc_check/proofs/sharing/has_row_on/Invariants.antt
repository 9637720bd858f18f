use Rattle.std.proofs.Common.{◌≡◌, drop}
use Rattle.std.specs.List.{list_any}
use Rattle.orc_check.specs.Validity.{row_has}
use Rattle.orc_check.proofs.sharing.has_row_on.Given as goal

-- one is among the rows that are left, if there is one
abbrev pub invariant-loop-row : goal.invariant-loop-row
invariant-loop-row l =
    list_any (row_has l.schema l.target l.text l.path) (drop l.row-index l.rows) ≡ list_any (row_has l.schema l.target l.text l.path) l.rows
