use Rattle.std.proofs.Common.{◌≡◌, ◌∷◌, List, ap, sym, ◌∙◌}
use Rattle.std.specs.Option.{option_map}
use Rattle.std.specs.FinMap.{find, entries, is_sorted, get-entries}
use Rattle.orc_path.specs.Order.{path_cmp}
use Rattle.orc_path.specs.declared.item.Item.{Item}
use Rattle.orc_path.proofs.PathOrder.{path_cmp_total}
use Rattle.orc_tree.proofs.Maps.{Rows}
use Rattle.orc_tree.proofs.Pieces.{sorted_front}
use Rattle.orc_check.specs.inside.Lent.{spot_path}
use Rattle.orc_check.specs.inside.Runs.{all_rows}
use Rattle.orc_check.proofs.Running.{find_first, find_none}
use Rattle.orc_check.proofs.lookup.row_at.Goals as goal

pub row_in-requires : goal.row_in-requires
row_in-requires c =
    let steps : c.runs_from.result ≡ c.in-Some.rows.now ∷ c.next.new.self = c.in-Some.ensures.steps in
    sorted_front path_cmp path_cmp_total c.in-Some.rows.now (all_rows c.next.new.self)
    (ap (λ (r : List Rows). is_sorted path_cmp (all_rows r)) (sym steps) ∙ c.runs_from.ensures.sorted)

pub returns-in-Some : goal.returns-in-Some
returns-in-Some c =
    let path = spot_path c.args.spot.now in
    let found : find path_cmp path (entries c.args.tree.now) ≡ find path_cmp path c.in-Some.rows.now =
    find_first path (entries c.args.tree.now) c.runs_from.result c.runs_from.ensures.rest c.in-Some.rows.now c.next.new.self c.runs_from.ensures.behind c.in-Some.ensures.steps in
    c.row_in.ensures ∙ ap (option_map (λ (item : Item). (path, item))) (sym found) ∙ ap (option_map (λ (item : Item). (path, item))) (sym (get-entries c.args.tree.now path))

pub returns-in-None : goal.returns-in-None
returns-in-None c =
    let path = spot_path c.args.spot.now in
    ap (option_map (λ (item : Item). (path, item)))
    (sym (get-entries c.args.tree.now path ∙ find_none path (entries c.args.tree.now) c.runs_from.result c.runs_from.ensures.rest c.in-None.ensures.steps.0))
