use Rattle.std.proofs.Common.{◌∙◌, false, sym, ap}
use Rattle.orc_path.specs.inside.ValueReading.{ahead}
use Rattle.orc_path.proofs.Bools.{if_so, if_not}
use Rattle.orc_path.proofs.ValueReads.{ahead_first, ahead_end, ahead_end_escaped, value_none, value_read}
use Rattle.orc_path.proofs.value.read_value.Goals as goal

pub returns-then-not-is_value_text-clause-value : goal.returns-then-not-is_value_text-clause-value
returns-then-not-is_value_text-clause-value c = value_none c.args.text.now c.if-not-is_value_text.ensures

pub returns-in_err-take-clause-memory : goal.returns-in_err-take-clause-memory
returns-in_err-take-clause-memory c = λ _. sym c.if-not-is_value_text.ensures

pub loop-character-init : goal.loop-character-init
loop-character-init c =
    ap (λ i. ahead (record { value = c.new.result; is_escaped = false }) i.rest.now) c.into_iter-character-iterator.ensures.into_iter_gives
    ∙ ap (ahead (record { value = c.new.result; is_escaped = false })) c.chars-character-items.ensures.rest
    ∙ ahead_first c.new.result c.args.text.now c.new.ensures

pub returns-then-not-branch-clause-value : goal.returns-then-not-branch-clause-value
returns-then-not-branch-clause-value c =
    let whole = c.loop-character.invariant ∙ sym (value_read c.args.text.now (sym c.if-not-is_value_text.ensures)) in
    sym (sym whole ∙ ap (ahead c.loop-character.reader) c.in-Some.ensures.steps.0 ∙ if_not c.in_ok-take.field-0 _ _ c.in_ok-take.ensures c.if-not-branch.true c.next.new.self.rest.now)

pub loop-character-preserved : goal.loop-character-preserved
loop-character-preserved c =
    let l = c.loop-character in
    sym (if_so c.in_ok-take.field-0 _ _ c.in_ok-take.ensures c.if-not-branch.false c.next.new.self.rest.now)
    ∙ ap (ahead l.reader) (sym c.in-Some.ensures.steps.0) ∙ l.invariant

pub returns-then-reader-clause-value : goal.returns-then-reader-clause-value
returns-then-reader-clause-value c =
    let whole = c.loop-character.invariant ∙ sym (value_read c.args.text.now (sym c.if-not-is_value_text.ensures)) in
    sym (sym whole ∙ ahead_end_escaped c.loop-character.reader c.loop-character.character-iterator.rest.now c.in-None.ensures.steps.0.0 c.if-reader.true)

pub returns-clause-value : goal.returns-clause-value
returns-clause-value c =
    let whole = c.loop-character.invariant ∙ sym (value_read c.args.text.now (sym c.if-not-is_value_text.ensures)) in
    sym (sym whole ∙ ahead_end c.loop-character.reader c.loop-character.character-iterator.rest.now c.in-None.ensures.steps.0.0 c.if-reader.false)
