use Rattle.std.proofs.Common.{◌≡◌, ◌∷◌, List, length, ap, sym, ◌∙◌, arith}
use Rattle.std.specs.Vec.Iter.{into_iter_items}
use Rattle.orc_path.specs.Steps.{PathStep}
use Rattle.orc_tree.specs.inside.Puts.{put_entries}
use Rattle.orc_tree.proofs.sorted.enter_rows.Goals as goal

pub loop-way-preserved : goal.loop-way-preserved
loop-way-preserved c =
    let way = c.in-Some.way in
    let rest = into_iter_items c.next.new.self in
    let steps = c.in-Some.ensures.steps in let first : into_iter_items c.loop-way.way-iterator ≡ way ∷ rest = steps.0 in
    let invariant = c.loop-way.invariant in
    record {
      sorted = c.put_row.ensures.sorted;
      entered =
          ap (put_entries rest) c.put_row.ensures.put
          ∙ ap (λ (ws : List (List PathStep)). put_entries ws c.loop-way.rows.items) (sym first) ∙ invariant.entered;
      room = omega (arith, ap length first);
      len = omega (arith, ap length first);
      capacity = omega arith;
    }
