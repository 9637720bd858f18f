use Rattle.std.proofs.Common.{◌≡◌, map}
use Rattle.std.specs.List.{fold, flat_map, filter}
use Rattle.std.specs.FinMap.{entries}
use Rattle.orc_check.specs.Validity.{place_breaches, is_place, lesser_breach}
use Rattle.orc_check.specs.Found.{found_breach}
use Rattle.orc_check.proofs.places.least_of_places.Given as goal

-- the best so far goes on to the least over the places that are left
abbrev pub invariant-loop-row : goal.invariant-loop-row
invariant-loop-row l =
    fold lesser_breach (found_breach l.kept) (flat_map (place_breaches l.schema l.tree) (map (λ row. row.0) (filter (is_place l.schema) l.row-iterator)))
    ≡ fold lesser_breach (found_breach l.initial.kept) (flat_map (place_breaches l.schema l.tree) (map (λ row. row.0) (filter (is_place l.schema) (entries l.tree))))
