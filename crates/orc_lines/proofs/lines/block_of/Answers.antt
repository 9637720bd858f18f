use Rattle.orc_lines.proofs.BlockLines.{taken}
use Rattle.orc_lines.proofs.lines.block_of.Goals as goal

pub lines-preserved : goal.lines-preserved
lines-preserved c =
    taken c.args.bytes.now c.args.count c.lines.rest.now c.first_line.result.0.now c.first_line.result.1.now c.line_text.result.now
    c.lines.text.items c.extend_from_slice.new.self.items c.push.new.self.items c.lines.left c.lines.invariant c.lines-test.true
    c.first_line.ensures.lines c.line_text.ensures c.in_ok-extend_from_slice.ensures.items c.in_ok-push.ensures.items
