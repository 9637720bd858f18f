use Rattle.std.proofs.Common.{sym, ◌∙◌, ap, true, false, ℕ, List}
use Rattle.std.specs.List.{list_any}
use Rattle.orc_yang.specs.declared.statement.Stmt.TheViews.{out-Stmt}
use Rattle.orc_declarations.specs.Modules.{has_long_name, is_long_head}
use Rattle.orc_declarations.proofs.LongNames.{long_below, found_at, found_none}
use Rattle.orc_declarations.proofs.module.+has_long_name.Goals as goal

pub returns-then-has_long_name : goal.returns-then-has_long_name
returns-then-has_long_name t c =
    let s = c.args.stmt.now in
    sym (long_below s true
    (sym (ap (λ (k : List ℕ). is_long_head k (out-Stmt s).argument) c.as_str.ensures) ∙ sym c.is_long_head.ensures ∙ c.if-is_long_head.false)
    (ap (list_any has_long_name) (sym c.as_slice-sub-items.ensures)
    ∙ found_at has_long_name c.as_slice-sub-items.result.now c.loop-sub.sub-index c.sub-item.result c.loop-sub-test.true c.sub-item.is
    (sym c.has_long_name.ensures ∙ c.if-has_long_name.true)))

pub returns : goal.returns
returns t c =
    let s = c.args.stmt.now in
    sym (long_below s false
    (sym (ap (λ (k : List ℕ). is_long_head k (out-Stmt s).argument) c.as_str.ensures) ∙ sym c.is_long_head.ensures ∙ c.if-is_long_head.false)
    (ap (list_any has_long_name) (sym c.as_slice-sub-items.ensures)
    ∙ found_none has_long_name c.as_slice-sub-items.result.now c.loop-sub.sub-index c.loop-sub-test.false c.loop-sub.invariant))
