use Rattle.std.proofs.Common.{◌≡◌, ◌+◌, ◌<◌, ◌-◌, ◌/◌, length, true, get_or, sym, ap, ◌∙◌, arith}
use Rattle.orc_check.specs.inside.Lines.{is_before}
use Rattle.orc_check.proofs.Ascending.{none_up_to}
use Rattle.orc_check.proofs.lines.first_line.Goals as goal

pub loop-low-preserved-then-is_before : goal.loop-low-preserved-then-is_before
loop-low-preserved-then-is_before c =
    let lines = c.args.lines.now in
    let place = c.args.steps.now in
    let middle = c.loop-low.low + (c.loop-low.high - c.loop-low.low) / 2 in
    let within : middle < length lines = omega arith in
    let line = c.index-lines-middle.result in
    let before : is_before place (get_or lines middle line) ≡ true =
    ap (is_before place) (sym c.index-lines-middle.is) ∙ sym c.is_before.ensures ∙ c.if-is_before.true in
    record {
      order = omega arith;
      within = c.loop-low.invariant.within;
      before = none_up_to place lines c.requires middle line within before;
    }
