-- The bundle is run in the world that began, or none did.
use Rattle.std.proofs.Common.{None, Err, inr, sym, subst}
use Rattle.orc_bundle.specs.declared.scripted.ScriptedBundle.{ScriptedBundle}
use Rattle.orc_run.specs.Ends.{Outside}
use Rattle.orc_run.specs.declared.stop.Ended.{Ended}
use Rattle.orc_run.specs.declared.stop.Stop.{Stop}
use Rattle.orc_run.specs.inside.Sums.{SumsOrNeverBegins}
use Rattle.orc_run.proofs.Beginning.{allowed_then, takes_any}
use Rattle.orc_run.proofs.Openings.{never_summed}
use Rattle.orc_run.proofs.Sums.{summed_rose}
use Rattle.orc_run.proofs.summing.sum_over.Goals as goal

pub sum_run-requires-clause-going : goal.sum_run-requires-clause-going
sum_run-requires-clause-going g c = takes_any g.D.Disk.disk c.args.bundle.decls c.args.disk c.in-Ok.world.scene c.in-Ok.ensures.begun

pub sum_run-requires-clause-allowed : goal.sum_run-requires-clause-allowed
sum_run-requires-clause-allowed g c = allowed_then g.D.Disk.disk c.args.bundle.decls c.args.disk c.in-Ok.world.scene c.in-Ok.ensures.begun c.args.steps.now c.requires.allowed

pub sum_run-requires-clause-begun : goal.sum_run-requires-clause-begun
sum_run-requires-clause-begun g c = (c.args.bundle.decls, c.args.disk, c.in-Ok.ensures.begun)

pub returns-in-Ok-clause-ends : goal.returns-in-Ok-clause-ends
returns-in-Ok-clause-ends g c before after = inr (c.sum_run.ensures.ends c.args.bundle.decls c.args.disk c.in-Ok.ensures.begun before after)

pub returns-in-Ok-clause-journal : goal.returns-in-Ok-clause-journal
returns-in-Ok-clause-journal g c is =
    let bundle : ScriptedBundle = record { decls = c.args.bundle.decls; steps = c.args.steps.now } in
    let held = g.K.Sink.sink.held in
    let old : Outside g.row.D.Denot = record { left = None; held = held c.args.sink.now; disk = c.args.disk } in
    let new : Outside g.row.D.Denot = record { left = None; held = held c.sum_run.new.sink; disk = c.sum_run.result.disk } in
    summed_rose g.D.Disk.disk bundle old new c.sum_run.result.status (inr (c.sum_run.ensures.ends c.args.bundle.decls c.args.disk c.in-Ok.ensures.begun None None)) is

pub returns-in-Err-clause-ends : goal.returns-in-Err-clause-ends
returns-in-Err-clause-ends g c before after =
    let law = g.met.D.Disk in
    let d = g.D.Disk.disk in
    let bundle : ScriptedBundle = record { decls = c.args.bundle.decls; steps = c.args.steps.now } in
    let held = g.K.Sink.sink.held c.args.sink.now in
    let old : Outside g.row.D.Denot = record { left = before; held = held; disk = c.args.disk } in
    let new : g.row.D.Denot → Outside g.row.D.Denot = λ x. record { left = after; held = held; disk = x } in
    subst (λ (e : Ended g.row.D.Denot). SumsOrNeverBegins d bundle old (new e.disk) e.status) (sym c.at.ensures)
    (subst (λ (s : Stop). SumsOrNeverBegins d bundle old (new c.in-Err.disk) (Err s)) (sym c.stop_of_world.ensures)
    (never_summed d law.goes_on law.counts bundle before after held c.args.disk c.in-Err.disk c.in-Err.why c.in-Err.ensures.refused))

pub returns-in-Err-clause-journal : goal.returns-in-Err-clause-journal
returns-in-Err-clause-journal g c is =
    let law = g.met.D.Disk in
    let d = g.D.Disk.disk in
    let bundle : ScriptedBundle = record { decls = c.args.bundle.decls; steps = c.args.steps.now } in
    let held = g.K.Sink.sink.held c.args.sink.now in
    let old : Outside g.row.D.Denot = record { left = None; held = held; disk = c.args.disk } in
    let new : g.row.D.Denot → Outside g.row.D.Denot = λ x. record { left = None; held = held; disk = x } in
    summed_rose d bundle old (new c.at.result.disk) c.at.result.status
    (subst (λ (e : Ended g.row.D.Denot). SumsOrNeverBegins d bundle old (new e.disk) e.status) (sym c.at.ensures)
    (subst (λ (s : Stop). SumsOrNeverBegins d bundle old (new c.in-Err.disk) (Err s)) (sym c.stop_of_world.ensures)
    (never_summed d law.goes_on law.counts bundle None None held c.args.disk c.in-Err.disk c.in-Err.why c.in-Err.ensures.refused))) is
