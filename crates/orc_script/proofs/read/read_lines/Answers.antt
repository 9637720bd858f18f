use Rattle.std.proofs.Common.{◌+◌, length, ap, ◌∙◌, arith, Result}
use Rattle.orc_decls.specs.declared.rule.Rule.{Rule}
use Rattle.orc_script.specs.declared.script.Script.{Script}
use Rattle.orc_lines.specs.Lines.{lines_of}
use Rattle.orc_lines.specs.Rules.{on_line}
use Rattle.orc_script.specs.Scripts.{script_steps}
use Rattle.orc_lines.proofs.LinesOf.{parted}
use Rattle.orc_script.proofs.read.read_lines.Goals as goal

pub lines-preserved : goal.lines-preserved
lines-preserved c =
    let decls = c.args.decls.now in
    let line = c.first_line.result.0.now in
    let later = c.first_line.result.1.now in
    let inv = c.lines.invariant in
    let bytes = parted c.lines.rest.now c.first_line.result.0.now c.first_line.result.1.now c.first_line.ensures.parts in
    let some = c.first_line.ensures.some in
    let rest = inv.1 in
    let count = inv.2 in
    let small = inv.3 in (
      inv.0
          ∙ ap (script_steps decls c.lines.script c.lines.at c.lines.number) c.first_line.ensures.lines
          ∙ ap (λ (r : Result Script Rule). on_line (c.lines.number + 1) r (λ t. script_steps decls t (c.lines.at + length line) (c.lines.number + 1) (lines_of later))) c.in_default.ensures.takes,
      omega arith,
      omega arith,
      c.in_default.ensures.small,
      c.in_default.ensures.lawful c.lines.number inv.4 (omega arith),
    )
