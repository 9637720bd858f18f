use Rattle.std.proofs.Common.{◌+◌, ◌<◌, ◌-◌, ◌/◌, length, ap, sym, ◌∙◌, arith}
use Rattle.std.proofs.lemmas.List.{get_or_read}
use Rattle.orc_path.specs.Order.{path_cmp}
use Rattle.orc_path.proofs.PathOrder.{path_cmp_total, path_cmp_exact}
use Rattle.orc_tree.proofs.InOrder.{is_true_T, before_more, behind_more}
use Rattle.orc_check.specs.inside.Lent.{spot_path}
use Rattle.orc_check.proofs.lookup.search.Goals as goal

pub loop-low-preserved-in-Less : goal.loop-low-preserved-in-Less
loop-low-preserved-in-Less c =
    let rows = c.args.rows.now in
    let path = spot_path c.args.spot.now in
    let middle = c.loop-low.low + (c.loop-low.high - c.loop-low.low) / 2 in
    let within : middle < length rows = omega arith in
    record {
      order = omega arith;
      within = omega arith;
      before = c.loop-low.invariant.before;
      behind = behind_more path_cmp path_cmp_total rows path middle c.index-rows-middle.result (is_true_T _ c.requires) within c.index-rows-middle.is (sym c.in-Less.ensures);
    }

pub loop-low-preserved : goal.loop-low-preserved
loop-low-preserved c =
    let rows = c.args.rows.now in
    let path = spot_path c.args.spot.now in
    let middle = c.loop-low.low + (c.loop-low.high - c.loop-low.low) / 2 in
    let within : middle < length rows = omega arith in
    record {
      order = omega arith;
      within = omega arith;
      before = before_more path_cmp path_cmp_total rows path middle c.index-rows-middle.result (is_true_T _ c.requires) within c.index-rows-middle.is (sym c.in-Greater.ensures);
      behind = c.loop-low.invariant.behind;
    }

pub returns-in-Equal-clause-found : goal.returns-in-Equal-clause-found
returns-in-Equal-clause-found c =
    let rows = c.args.rows.now in
    let path = spot_path c.args.spot.now in
    let middle = c.loop-low.low + (c.loop-low.high - c.loop-low.low) / 2 in
    let within : middle < length rows = omega arith in
    record {
      within = within;
      here = λ d. ap (λ row. row.0) (sym (get_or_read rows middle c.index-rows-middle.result within c.index-rows-middle.is d))
          ∙ sym (path_cmp_exact path c.index-rows-middle.result.0 (sym c.in-Equal.ensures));
    }
