-- What is printed at first was written, and the lines were done.
use Rattle.std.proofs.Common.{sym, subst, ◌∙◌}
use Rattle.std.specs.Io.KnownBytes.{Appends}
use Rattle.orc_io.specs.Pieces.{TakesFront}
use Rattle.orc_run.specs.Ends.{EndsOver}
use Rattle.orc_run.specs.declared.stop.Ended.{Ended}
use Rattle.orc_run.proofs.Beginning.{is_first}
use Rattle.orc_run.proofs.Tops.{err_of, finished_over, nothing_written, ok_of, wanting_over}
use Rattle.orc_run.proofs.running.run_script.Goals as goal

pub returns-in-Err-clause-ends : goal.returns-in-Err-clause-ends
returns-in-Err-clause-ends g c decls from begun left left' =
    let law = g.met.D.Disk in
    let held = g.K.Sink.sink.held in
    subst (λ (e : Ended g.row.D.Denot). EndsOver g.D.Disk.disk (record { decls = decls; steps = c.args.steps.now })
    (record { left = left; held = held c.args.sink.now; disk = from }) (record { left = left'; held = held c.args.sink.now; disk = e.disk }) e.status) (sym c.at.ensures)
    (wanting_over g.D.Disk.disk law.goes_on law.counts decls from c.args.world.scene begun c.args.steps.now left left' (held c.args.sink.now) c.into_disk.result c.into_disk.ensures)

pub returns-then-is_err-clause-ends : goal.returns-then-is_err-clause-ends
returns-then-is_err-clause-ends g c decls from begun left left' =
    let law = g.met.D.Disk in
    let held = g.K.Sink.sink.held in
    let took : TakesFront (held c.args.sink.now) (held c.write_whole.new.sink) c.in-Ok.text.items =
    subst (TakesFront (held c.args.sink.now) (held c.write_whole.new.sink)) c.as_slice.ensures.value (err_of c.write_whole.result (sym c.is_err.ensures.value ∙ c.if-is_err.true) c.write_whole.ensures.err) in
    subst (λ (e : Ended g.row.D.Denot). EndsOver g.D.Disk.disk (record { decls = decls; steps = c.args.steps.now })
    (record { left = left; held = held c.args.sink.now; disk = from }) (record { left = left'; held = held c.write_whole.new.sink; disk = e.disk }) e.status) (sym c.at-then-is_err.ensures)
    (nothing_written g.D.Disk.disk law.goes_on law.counts c.read_back_runs_have_the_headline.ensures decls from c.args.world.scene begun c.args.steps.now left left'
    (held c.args.sink.now) (held c.write_whole.new.sink) c.in-Ok.text.items c.in-Ok.ensures c.into_disk-then-is_err.result c.into_disk-then-is_err.ensures took)

pub returns-clause-ends : goal.returns-clause-ends
returns-clause-ends g c decls from begun left left' =
    let law = g.met.D.Disk in
    let held = g.K.Sink.sink.held in
    let took : Appends (held c.args.sink.now) (held c.write_whole.new.sink) c.in-Ok.text.items =
    subst (Appends (held c.args.sink.now) (held c.write_whole.new.sink)) c.as_slice.ensures.value (ok_of c.write_whole.result (sym c.is_err.ensures.value ∙ c.if-is_err.false) c.write_whole.ensures.ok) in
    finished_over g.D.Disk.disk law.goes_on law.counts decls from c.args.world.scene begun c.args.steps.now left left'
    (held c.args.sink.now) (held c.write_whole.new.sink) (held c.run_lines.new.sink) c.in-Ok.text.items c.in-Ok.ensures took c.run_lines.result.disk c.run_lines.result.status
    (c.run_lines.ensures.ends decls begun.seen (is_first g.D.Disk.disk decls from c.args.world.scene begun))
