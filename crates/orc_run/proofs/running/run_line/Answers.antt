-- A line was done, or the run ended in it, and its text was written or not.
use Rattle.std.proofs.Common.{Ok, Err, sym, subst}
use Rattle.orc_run.specs.declared.stop.Stop.{Stop}
use Rattle.orc_run.specs.inside.Scripts.{WritesLine}
use Rattle.orc_run.specs.inside.Scripts.WritesLine.{goes_on, ends_in, unwritten}
use Rattle.orc_run.proofs.Finishing.{line_from, line_somewhere}
use Rattle.orc_run.proofs.running.run_line.Goals as goal

pub returns-in-Ok-ended-clause-line : goal.returns-in-Ok-ended-clause-line
returns-in-Ok-ended-clause-line g c =
    goes_on c.bytes.result.now c.run_step-ended.new.self.scene
    (line_from g.D.Disk.disk c.args.step.now c.args.world.now.scene c.run_step-ended.new.self.scene c.new-out.result c.run_step-ended.new.out (Ok tt)
    c.in-Ok-ended.ensures.line c.new-out.ensures c.bytes.result.now c.bytes.ensures)
    c.in-Ok.ensures.ok

pub returns-in-Ok-clause-line : goal.returns-in-Ok-clause-line
returns-in-Ok-clause-line g c =
    let held = g.K.Sink.sink.held in
    subst (λ (s : Stop). WritesLine g.D.Disk.disk (held c.args.sink.now) (held c.write_whole.new.sink) c.args.step.now c.args.world.now.scene (Err s) c.run_step-ended.new.self.scene)
    (sym c.stop_of_world.ensures)
    (ends_in c.bytes.result.now c.run_step-ended.new.self.scene c.in-Err-ended.why
    (line_from g.D.Disk.disk c.args.step.now c.args.world.now.scene c.run_step-ended.new.self.scene c.new-out.result c.run_step-ended.new.out (Err c.in-Err-ended.why)
    c.in-Err-ended.ensures.line c.new-out.ensures c.bytes.result.now c.bytes.ensures)
    c.in-Ok.ensures.ok)

pub returns-in-Ok-clause-there : goal.returns-in-Ok-clause-there
returns-in-Ok-clause-there g c =
    line_somewhere g.D.Disk.disk c.args.step.now c.args.world.now.scene c.run_step-ended.new.self.scene c.new-out.result c.run_step-ended.new.out c.requires.going
    (Err c.in-Err-ended.why) c.in-Err-ended.ensures.line

pub returns-clause-line : goal.returns-clause-line
returns-clause-line g c =
    unwritten c.bytes.result.now c.run_step-ended.new.self.scene c.run_step-ended.result
    (line_from g.D.Disk.disk c.args.step.now c.args.world.now.scene c.run_step-ended.new.self.scene c.new-out.result c.run_step-ended.new.out c.run_step-ended.result
    c.run_step-ended.ensures.line c.new-out.ensures c.bytes.result.now c.bytes.ensures)
    c.in-Err.ensures.err

pub returns-clause-there : goal.returns-clause-there
returns-clause-there g c =
    line_somewhere g.D.Disk.disk c.args.step.now c.args.world.now.scene c.run_step-ended.new.self.scene c.new-out.result c.run_step-ended.new.out c.requires.going
    c.run_step-ended.result c.run_step-ended.ensures.line
