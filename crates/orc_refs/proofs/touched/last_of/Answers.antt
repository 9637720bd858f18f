use Rattle.std.proofs.Common.{◌-◌, true, false, length, sym, ap, ◌∙◌, arith}
use Rattle.std.specs.Ordering.{is_eq}
use Rattle.orc_refs.proofs.LentLaws.{is_first, is_past, is_row}
use Rattle.orc_refs.proofs.touched.last_of.Goals as goal

pub returns-then-count-eq0-clause-absent : goal.returns-then-count-eq0-clause-absent
returns-then-count-eq0-clause-absent c = λ e. is_first c.args.rows.now c.args.path.now (omega arith)

pub returns-then-is_eq-clause-found : goal.returns-then-is_eq-clause-found
returns-then-is_eq-clause-found c =
    is_row c.args.rows.now c.args.path.now (length c.args.rows.now - 1) c.index-rows-at.result (omega arith) c.index-rows-at.is
    (ap is_eq (sym c.cmp.ensures.value) ∙ sym c.is_eq.ensures ∙ c.if-is_eq.true)

pub returns-clause-absent : goal.returns-clause-absent
returns-clause-absent c = λ e.
    is_past c.args.rows.now c.args.path.now (length c.args.rows.now - 1) c.index-rows-at.result (omega arith) c.index-rows-at.is c.requires.sorted c.requires.behind
    (ap is_eq (sym c.cmp.ensures.value) ∙ sym c.is_eq.ensures ∙ c.if-is_eq.false)
