use Rattle.std.proofs.Common.{ℕ, ◌+◌, ◌∙◌, sym, ap, subst, arith}
use Rattle.orc_path.specs.Texts.{IsPathText, IsBadAt}
use Rattle.orc_path.specs.declared.mode.Mode.TheVariants.{Start}
use Rattle.orc_path.proofs.Modes.{IsAt, at_first, at_next, at_refused, at_end, at_bad_end}
use Rattle.orc_path.proofs.reading.bad_place.Goals as goal

pub loop-character-init : goal.loop-character-init
loop-character-init c =
    subst (λ rest. IsAt c.args.text.now 0 rest Start) (sym (ap (λ i. i.rest.now) c.into_iter-character-iterator.ensures.into_iter_gives ∙ c.chars-character-items.ensures.rest))
    (at_first c.args.text.now c.utf8.text)

pub overflow_add-result : goal.overflow_add-result
overflow_add-result c =
    let l = c.loop-character in
    let bad = at_refused c.args.text.now l.at l.character-iterator.rest.now l.mode l.invariant c.next.new.self.rest.now c.in-Some.character c.in-Some.ensures.steps.0 c.in-None-mode_behind.ensures in
    omega (arith, bad.within, c.begun_in.ensures)

pub returns-in-None-mode_behind : goal.returns-in-None-mode_behind
returns-in-None-mode_behind c =
    let l = c.loop-character in
    subst (λ (n : ℕ). IsBadAt IsPathText c.args.text.now (l.at + n)) (sym c.begun_in.ensures)
    (at_refused c.args.text.now l.at l.character-iterator.rest.now l.mode l.invariant c.next.new.self.rest.now c.in-Some.character c.in-Some.ensures.steps.0 c.in-None-mode_behind.ensures)

pub loop-character-preserved : goal.loop-character-preserved
loop-character-preserved c =
    let l = c.loop-character in
    subst (λ (n : ℕ). IsAt c.args.text.now (l.at + n) c.next.new.self.rest.now c.in-Some-mode_behind.next) (sym c.len_utf8-at.ensures.len)
    (at_next c.args.text.now l.at l.character-iterator.rest.now l.mode l.invariant c.next.new.self.rest.now c.in-Some.character c.in-Some-mode_behind.next c.in-Some.ensures.steps.0 c.in-Some-mode_behind.ensures)

pub returns-then-is_path_end : goal.returns-then-is_path_end
returns-then-is_path_end c =
    let l = c.loop-character in
    at_end c.args.text.now l.at l.character-iterator.rest.now l.mode l.invariant c.in-None.ensures.steps.0.0 (sym c.is_path_end.ensures ∙ c.if-is_path_end.true)

pub returns-else-is_path_end : goal.returns-else-is_path_end
returns-else-is_path_end c =
    let l = c.loop-character in
    at_bad_end c.args.text.now l.at l.character-iterator.rest.now l.mode l.invariant c.in-None.ensures.steps.0.0 (sym c.is_path_end.ensures ∙ c.if-is_path_end.false)
