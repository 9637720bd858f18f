use Rattle.std.proofs.Common.{◌≡◌, map}
use Rattle.std.specs.List.{list_any, filter}
use Rattle.std.specs.FinMap.{entries}
use Rattle.orc_check.specs.Validity.{place_lacks, is_place}
use Rattle.orc_check.proofs.references.is_lacked.Given as goal

-- one is among the rows that are left, if there is one
abbrev pub invariant-loop-row : goal.invariant-loop-row
invariant-loop-row l =
    list_any (place_lacks l.schema l.tree l.target l.path) (map (λ row. row.0) (filter (is_place l.schema) l.row-iterator))
    ≡ list_any (place_lacks l.schema l.tree l.target l.path) (map (λ row. row.0) (filter (is_place l.schema) (entries l.tree)))
