use Rattle.std.proofs.Common.{◌≡◌, length, Err, sym, ap, arith}
use Rattle.std.specs.Str.{chars}
use Rattle.std.proofs.lemmas.Iterator.{YieldsList-from_chars}
use Rattle.std.proofs.lemmas.Iterator.Consumers.{YieldsList-turn, YieldsList-end}
use Rattle.std.proofs.lemmas.List.{length_push}
use Rattle.std.proofs.lemmas.Result.{err_from_is_err_and}
use Rattle.orc_yang.specs.declared.fault.YangFault.TheVariants.{Memory}
use Rattle.orc_yang.specs.Text.{placed}
use Rattle.orc_yang.specs.Machine.{run, start}
use Rattle.orc_yang.specs.inside.View.{view}
use Rattle.orc_yang.proofs.Reading.{place_turn, wanted, run_turn, fault_turn, wants_here, wants_turn, next_column-le, spelled, at_end}
use Rattle.orc_yang.proofs.statements.read.Goals as goal

pub loop-code-init : goal.loop-code-init
loop-code-init c =
    let text = c.args.text.now in
    record {
      place = omega (arith, ap length (spelled text c.utf8.text));
      column = omega arith;
      wants = rw c.new-parser.ensures (λ h. h);
      rest = ap (λ s. run (placed 0 1 (chars text)) s (length text)) c.new-parser.ensures;
    }

pub returns-in_err-step-clause-answer : goal.returns-in_err-step-clause-answer
returns-in_err-step-clause-answer c =
    let text = c.args.text.now in
    let t = YieldsList-turn (YieldsList-from_chars text c.utf8.text cc) c.loop-code.yielded _ c.loop-code.yielded_by _ _ c.in-Some.code c.in-Some.is c.next.ensures.steps in
    let p = err_from_is_err_and c.from_residual.result c.from_residual.ensures.1 in
    let f = fault_turn (chars text) (length c.loop-code.yielded) c.in-Some.code c.loop-code.at c.len_utf8.result c.loop-code.column (length text) t c.len_utf8.ensures.len
    (view c.loop-code.parser) c.in_err-step.field-0.0 (run (placed 0 1 (chars text)) start (length text)) c.loop-code.invariant.rest c.in_err-step.ensures.step in
    rw (p.1, p.2) f

pub loop-code-preserved : goal.loop-code-preserved
loop-code-preserved c =
    let text = c.args.text.now in
    let cs = chars text in
    let n = length c.loop-code.yielded in
    let x = c.in-Some.code in
    let at = c.loop-code.at in
    let len = c.len_utf8.result in
    let t = YieldsList-turn (YieldsList-from_chars text c.utf8.text cc) c.loop-code.yielded _ c.loop-code.yielded_by _ _ x c.in-Some.is c.next.ensures.steps in
    let m = length_push c.loop-code.yielded x in
    record {
      place = place_turn cs n x at len c.loop-code.column (length text) t c.len_utf8.ensures.len _ m c.loop-code.invariant.place;
      column = rw c.next_column-column.ensures (next_column-le x c.loop-code.column at len c.loop-code.invariant.column c.len_utf8.ensures.lower_bound);
      rest = rw c.next_column-column.ensures (run_turn cs n x at len c.loop-code.column (length text) t c.len_utf8.ensures.len (view c.loop-code.parser) (view c.step.new.self) _ _ m c.loop-code.invariant.rest c.in_ok-step.ensures.step);
      wants = rw c.next_column-column.ensures (λ h.
          c.loop-code.invariant.wants (wants_turn cs n x at len c.loop-code.column (length text) t c.len_utf8.ensures.len (view c.loop-code.parser) (view c.step.new.self) _ m c.in_ok-step.ensures.step h));
    }

pub returns-clause-answer : goal.returns-clause-answer
returns-clause-answer c =
    let text = c.args.text.now in
    let t = YieldsList-end (YieldsList-from_chars text c.utf8.text cc) c.loop-code.yielded _ c.loop-code.yielded_by _ _ c.in-None.is c.next.ensures.steps in
    let e = at_end (chars text) (length c.loop-code.yielded) c.loop-code.at c.loop-code.column (length text) (view c.loop-code.parser) _ (sym t.1) c.loop-code.invariant.rest in
    rw e c.finish.ensures.answer

pub returns-in_err-step-clause-memory : goal.returns-in_err-step-clause-memory
returns-in_err-step-clause-memory c = λ q.
    let text = c.args.text.now in
    let t = YieldsList-turn (YieldsList-from_chars text c.utf8.text cc) c.loop-code.yielded _ c.loop-code.yielded_by _ _ c.in-Some.code c.in-Some.is c.next.ensures.steps in
    let p = err_from_is_err_and c.from_residual.result c.from_residual.ensures.1 in
    let m : c.in_err-step.field-0.0 ≡ Memory = wanted c.from_residual.result p.0 c.in_err-step.field-0.0 p.1 p.2 q in
    c.loop-code.invariant.wants
    (wants_here (chars text) (length c.loop-code.yielded) c.in-Some.code c.loop-code.at c.len_utf8.result c.loop-code.column (length text) t c.len_utf8.ensures.len (view c.loop-code.parser)
    (c.in_err-step.ensures.memory (ap Err m)))
