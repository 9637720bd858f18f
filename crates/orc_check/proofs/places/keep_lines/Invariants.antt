use Rattle.std.proofs.Common.{◌≡◌, drop}
use Rattle.std.specs.List.{fold, flat_map}
use Rattle.orc_check.specs.Validity.{line_breaches, lesser_breach}
use Rattle.orc_check.specs.Found.{found_breach, place_path}
use Rattle.orc_check.proofs.places.keep_lines.Given as goal

-- the best so far goes on to the least over the lines that are left
abbrev pub invariant-loop-line : goal.invariant-loop-line
invariant-loop-line l =
    fold lesser_breach (found_breach l.kept) (flat_map (line_breaches l.schema l.tree (place_path l.place)) (drop l.line-index l.lines))
    ≡ fold lesser_breach (found_breach l.initial.kept) (flat_map (line_breaches l.schema l.tree (place_path l.place)) l.lines)
