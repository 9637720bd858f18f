-- The script was run in the world, and summed up, or the run ended in a line.
use Rattle.std.proofs.Common.{Err, subst, sym}
use Rattle.orc_run.specs.Ends.{EndsSummed}
use Rattle.orc_run.specs.declared.stop.Ended.{Ended}
use Rattle.orc_run.specs.declared.stop.Stop.{Stop}
use Rattle.orc_run.proofs.Sums.{script_somewhere, summed_broken, summed_whole}
use Rattle.orc_run.proofs.summing.sum_run.Goals as goal

pub sum_up-requires : goal.sum_up-requires
sum_up-requires g c =
    let begun = c.requires.begun in
    script_somewhere g.D.Disk.disk begun.0 begun.1 c.args.world.scene begun.2 c.args.steps.now c.run_steps.result c.run_steps.new.self.scene c.new-out.result c.run_steps.new.out c.run_steps.ensures.script

pub into_disk-requires : goal.into_disk-requires
into_disk-requires g c =
    let begun = c.requires.begun in
    script_somewhere g.D.Disk.disk begun.0 begun.1 c.args.world.scene begun.2 c.args.steps.now c.run_steps.result c.run_steps.new.self.scene c.new-out.result c.run_steps.new.out c.run_steps.ensures.script

pub returns-in-Ok-clause-ends : goal.returns-in-Ok-clause-ends
returns-in-Ok-clause-ends g c decls from begun left left' =
    let law = g.met.D.Disk in
    let d = g.D.Disk.disk in
    let held = g.K.Sink.sink.held in
    summed_whole d law.goes_on law.counts c.read_back_runs_have_the_headline.ensures decls from c.args.world.scene begun c.args.steps.now c.run_steps.new.self.scene c.new-out.result c.run_steps.new.out
    c.sum_up.result.disk c.sum_up.ensures.disk
    c.in-Ok.ensures.script
    left left' (held c.args.sink.now) (held c.sum_up.new.sink) c.sum_up.result.status c.sum_up.ensures.wrote

pub returns-clause-ends : goal.returns-clause-ends
returns-clause-ends g c decls from begun left left' =
    let law = g.met.D.Disk in
    let d = g.D.Disk.disk in
    let held = g.K.Sink.sink.held in
    subst (λ (e : Ended g.row.D.Denot). EndsSummed d (record { decls = decls; steps = c.args.steps.now })
    (record { left = left; held = held c.args.sink.now; disk = from }) (record { left = left'; held = held c.args.sink.now; disk = e.disk }) e.status) (sym c.at.ensures)
    (subst (λ (s : Stop). EndsSummed d (record { decls = decls; steps = c.args.steps.now })
    (record { left = left; held = held c.args.sink.now; disk = from }) (record { left = left'; held = held c.args.sink.now; disk = c.into_disk.result }) (Err s)) (sym c.stop_of_world.ensures)
    (summed_broken d law.goes_on law.counts c.read_back_runs_have_the_headline.ensures decls from c.args.world.scene begun c.args.steps.now c.run_steps.new.self.scene c.new-out.result c.run_steps.new.out
    c.into_disk.result c.into_disk.ensures c.in-Err.why
    c.in-Err.ensures.script
    left left' (held c.args.sink.now)))
