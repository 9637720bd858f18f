use Rattle.std.proofs.Common.{◌≡◌, ◌∷◌, None, true, sym, ap, ◌∙◌, rules}
use Rattle.std.specs.Prelude.{is_some}
use Rattle.std.specs.List.{fold, flat_map}
use Rattle.std.specs.FinMap.{entries, is_sorted}
use Rattle.orc_path.specs.Order.{path_cmp}
use Rattle.orc_tree.proofs.Maps.{Rows}
use Rattle.orc_check.specs.Validity.{row_breaches, lesser_breach}
use Rattle.orc_check.specs.Found.{found_breach}
use Rattle.orc_check.proofs.Settled.{in_order, found_some, settled}
use Rattle.orc_check.proofs.rows.least_of_rows.Goals as goal

pub loop-row-init : goal.loop-row-init
loop-row-init c =
    let s = c.args.schema.now in
    let tree = c.args.tree.now in
    let same : c.into_iter-row-iterator.result ≡ entries tree = search rules in
    record {
      least = ap (λ (rows : Rows). fold lesser_breach None (flat_map (row_breaches s tree) rows)) same;
      sorted = ap (is_sorted path_cmp) same ∙ in_order tree;
    }

pub returns-then-is_some : goal.returns-then-is_some
returns-then-is_some c =
    let s = c.args.schema.now in
    let tree = c.args.tree.now in
    let row = c.in-Some.row.now in
    let rest = c.next.new.self in
    let best = c.least_of_row-best.result in
    let steps : c.loop-row.row-iterator ≡ row ∷ rest = c.in-Some.ensures.steps in
    let some : is_some (found_breach best) ≡ true = found_some best (sym c.is_some.ensures ∙ c.if-is_some.true) in
    settled s tree row rest (found_breach best) (ap (is_sorted path_cmp) (sym steps) ∙ c.loop-row.invariant.sorted) c.least_of_row-best.ensures some
    ∙ ap (λ (rows : Rows). fold lesser_breach None (flat_map (row_breaches s tree) rows)) (sym steps) ∙ c.loop-row.invariant.least
