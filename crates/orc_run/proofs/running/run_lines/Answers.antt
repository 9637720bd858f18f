-- The lines are done one after the other, up to the end, or up to one in which the run ended.
use Rattle.std.proofs.Common.{[], ◌∷◌, ◌++◌, Err, List, take, refl, sym, subst, ◌∙◌, arith}
use Rattle.std.proofs.lemmas.List.{take_all}
use Rattle.std.specs.Io.KnownBytes.{Appends}
use Rattle.orc_io.proofs.Fronts.{Appends-trans}
use Rattle.orc_script.specs.declared.step.ScriptStep.{ScriptStep}
use Rattle.orc_run.specs.declared.stop.Ended.{Ended}
use Rattle.orc_run.specs.inside.Scripts.{Finishes, HasDoneOver}
use Rattle.orc_run.proofs.Beginning.{none_done}
use Rattle.orc_run.proofs.Finishing.{finishes_here, finishes_whole, line_more, taken_more}
use Rattle.orc_run.proofs.Writing.{all_more, all_of, takes_nothing}
use Rattle.orc_run.proofs.running.run_lines.Goals as goal

pub loop-step-init : goal.loop-step-init
loop-step-init g c = record {
  going = c.requires.going;
  same = refl;
  later = omega arith;
  texts = [];
  took = takes_nothing (g.K.Sink.sink.held c.args.sink.now);
  each = λ decls first is. none_done g.D.Disk.disk decls first c.args.world.scene is;
}

pub loop-step-preserved : goal.loop-step-preserved
loop-step-preserved g c =
    let so = c.loop-step.invariant in
    let held = g.K.Sink.sink.held in
    let more = line_more g.D.Disk.disk (held c.loop-step.sink) (held c.run_line.new.sink) c.step-item.result c.loop-step.world.scene c.run_line.new.world.scene c.in-Ok.ensures.line in
    record {
      going = c.in-Ok.ensures.going;
      same = c.in-Ok.ensures.decls ∙ so.same;
      later = omega (arith, so.later, c.in-Ok.ensures.later);
      texts = so.texts ++ more.0 ∷ [];
      took = subst (Appends (held c.args.sink.now) (held c.run_line.new.sink)) (sym (all_more so.texts more.0))
          (Appends-trans _ _ _ (all_of so.texts) more.0 so.took more.1);
      each = λ decls first is.
          subst (λ (l : List ScriptStep). HasDoneOver g.D.Disk.disk decls first l (so.texts ++ more.0 ∷ []) c.run_line.new.world.scene)
          (sym (taken_more c.args.steps.now c.loop-step.step-index c.step-item.result c.loop-step-test.true c.step-item.is))
          (more.2 c.read_back_runs_have_the_headline.ensures decls first c.args.world.scene is (take c.loop-step.step-index c.args.steps.now) so.texts (so.each decls first is));
    }

pub returns-in-Err-clause-ends : goal.returns-in-Err-clause-ends
returns-in-Err-clause-ends g c decls first is =
    let so = c.loop-step.invariant in
    let held = g.K.Sink.sink.held in
    subst (λ (e : Ended g.row.D.Denot). Finishes g.D.Disk.disk decls first (held c.args.sink.now) (held c.run_line.new.sink) c.args.steps.now e.disk e.status) (sym c.at.ensures)
    (finishes_here g.D.Disk.disk c.read_back_runs_have_the_headline.ensures decls first c.args.world.scene is
    (held c.args.sink.now) (held c.loop-step.sink) (held c.run_line.new.sink) c.args.steps.now c.loop-step.step-index c.step-item.result c.loop-step-test.true c.step-item.is
    so.texts c.loop-step.world.scene (so.each decls first is) so.took c.into_disk.result (Err c.in-Err.stop) c.in-Err.stop c.run_line.new.world.scene c.in-Err.ensures.line refl c.into_disk.ensures)

pub returns-clause-ends : goal.returns-clause-ends
returns-clause-ends g c decls first is =
    let so = c.loop-step.invariant in
    let held = g.K.Sink.sink.held in
    finishes_whole g.D.Disk.disk c.read_back_runs_have_the_headline.ensures decls first c.args.world.scene is (held c.args.sink.now) (held c.loop-step.sink) c.args.steps.now
    c.loop-step.step-index so.texts c.loop-step.world.scene c.into_disk-2.result (take_all c.loop-step.step-index c.args.steps.now (omega (arith, c.loop-step-test.false)))
    (so.each decls first is) c.into_disk-2.ensures so.took
