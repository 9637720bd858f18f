use Rattle.std.proofs.Common.{List, sym, subst, arith}
use Rattle.std.proofs.lemmas.List.{take_all}
use Rattle.orc_refs.specs.declared.mark.Mark.{Mark}
use Rattle.orc_refs.specs.inside.Marks.{AreRowsOf, by_path, read, read_one}
use Rattle.orc_refs.proofs.MarkLaws.{Marks, read_more, rows_more}
use Rattle.orc_refs.proofs.LentLaws.{none_behind}
use Rattle.orc_refs.proofs.touched.rows_of.Goals as goal

pub loop-mark-preserved : goal.loop-mark-preserved
loop-mark-preserved c =
    let marks = c.args.marks.now in
    let i = c.loop-mark.mark-index in
    record {
      rows = subst (λ (ms : Marks). AreRowsOf ms (by_path c.enter.new.rows.items)) (sym (read_more marks i c.mark-item.result c.loop-mark-test.true c.mark-item.is))
          (rows_more _ (read_one c.mark-item.result) _ _ c.loop-mark.invariant.rows c.in_ok-enter.ensures.rows);
      len = omega (arith, c.enter.ensures.len, c.loop-mark.invariant.len);
    }

pub returns-clause-rows : goal.returns-clause-rows
returns-clause-rows c = subst (λ (ms : List Mark). AreRowsOf (read ms) (by_path c.loop-mark.rows.items)) (take_all _ _ c.loop-mark-test.false) c.loop-mark.invariant.rows

pub enter-requires-clause-sorted : goal.enter-requires-clause-sorted
enter-requires-clause-sorted c = c.loop-mark.invariant.rows.sorted

pub enter-requires-clause-behind : goal.enter-requires-clause-behind
enter-requires-clause-behind c =
    none_behind c.args.marks.now c.loop-mark.mark-index c.mark-item.result _ c.requires c.loop-mark-test.true c.mark-item.is c.loop-mark.invariant.rows
