use Rattle.std.proofs.Common.{sym, ◌∙◌, ap, subst, [], arith}
use Rattle.orc_modules.specs.Stack.{stack, modules_of}
use Rattle.orc_modules.specs.Words.{word_of}
use Rattle.orc_statements.specs.Faults.{fault_here, first_some}
use Rattle.orc_statements.proofs.Blocks.{block_begins, left-past, left-unread, fails-under}
use Rattle.orc_statements.specs.inside.Seen.{HasSame}
use Rattle.orc_statements.proofs.Seens.{none_seen, seen-grown}
use Rattle.orc_statements.proofs.walk.+first_fault_below.Goals as goal
use Rattle.orc_statements.proofs.walk.+first_fault_below.Goals.{then-is_read+in_default+in_default-first_fault_below, else-is_read}

pub loop-at-init : goal.loop-at-init
loop-at-init t c = record {
  left = ap (first_some (fault_here (modules_of c.args.modules.now)))
      (block_begins c.args.stmt.now (stack c.args.above.now) c.word_of-parent.result c.as_slice-block.result.now (c.word_of-parent.ensures ∙ ap word_of c.as_str.ensures) c.as_slice-block.ensures);
  names = subst (λ l. HasSame l []) (sym c.new-names.ensures) none_seen;
}

pub returns-in-Err-first_fault_below : goal.returns-in-Err-first_fault_below
returns-in-Err-first_fault_below t c = fails-under (fault_here (modules_of c.args.modules.now)) c.word_of-parent.result (stack c.args.above.now) c.as_slice-block.result.now c.loop-at.at c.index-block-at.result
    (omega (arith, c.loop-at-test.true)) (sym c.index-block-at.is) (sym c.is_read.ensures ∙ c.if-is_read.true) c.in_default.ensures _ c.loop-at.invariant.left c.in-Err-first_fault_below.fault c.in-Err-first_fault_below.ensures

pub loop-at-preserved : goal.loop-at-preserved
loop-at-preserved t c = record {
  left = elim c.if-is_read.branch [
    | then-is_read+in_default+in_default-first_fault_below w ↦ c.loop-at.invariant.left ∙ left-past (fault_here (modules_of c.args.modules.now)) c.word_of-parent.result (stack c.args.above.now) c.as_slice-block.result.now c.loop-at.at c.index-block-at.result
        (omega (arith, c.loop-at-test.true)) (sym c.index-block-at.is) (sym c.is_read.ensures ∙ w.if-is_read.true) w.in_default.ensures w.in_default-first_fault_below.ensures
    | else-is_read w ↦ c.loop-at.invariant.left ∙ left-unread (fault_here (modules_of c.args.modules.now)) c.word_of-parent.result (stack c.args.above.now) c.as_slice-block.result.now c.loop-at.at c.index-block-at.result
        (omega (arith, c.loop-at-test.true)) (sym c.index-block-at.is) (sym c.is_read.ensures ∙ w.if-is_read.false)
  ];
  names = seen-grown c.args.modules.now.most c.args.modules.now.all.now (stack c.args.above.now) c.as_slice-block.result.now c.loop-at.at c.index-block-at.result (omega (arith, c.loop-at-test.true)) (sym c.index-block-at.is) _ _
      c.loop-at.invariant.names c.in_ok-add_names.ensures;
}

pub fault_here-requires : goal.fault_here-requires
fault_here-requires t c = c.loop-at.invariant.names
