use Rattle.std.proofs.Common.{◌∙◌, sym}
use Rattle.std.specs.Prelude.{IsTrue}
use Rattle.orc_script.specs.Steps.{is_step}
use Rattle.orc_script.specs.declared.step.ScriptStep.TheVariants as step
use Rattle.orc_scene.specs.Stands.{decls_in}
use Rattle.orc_scene.proofs.Rowing.{some_there}
use Rattle.orc_world.proofs.Lasted.{settled_between}
use Rattle.orc_world.proofs.Lined.{reconcile_down, reconcile_ended, reconcile_line}
use Rattle.orc_world.proofs.world.World.reconcile.Goals as goal

pub returns-then-not-is_up : goal.returns-then-not-is_up
returns-then-not-is_up g c =
    reconcile_down g.D.Disk.disk c.args.self.now.scene c.args.out.now c.say.new.out c.say.result c.reconciled.result
    (sym c.is_up.ensures ∙ c.if-not-is_up.true) c.requires.sound.1 c.reconciled.ensures c.say.ensures

pub returns-in-Ok : goal.returns-in-Ok
returns-in-Ok g c =
    reconcile_line g.D.Disk.disk c.args.self.now.scene c.settle_all.new.self.scene c.mend.new.self.scene c.args.out.now c.settle_all.new.out c.mend.new.out c.mend.result
    (sym c.is_up.ensures ∙ c.if-not-is_up.false) c.in-Ok.ensures.row c.mend.ensures.row c.mend.ensures.unmended

pub returns-in-Err : goal.returns-in-Err
returns-in-Err g c =
    reconcile_ended g.D.Disk.disk c.args.self.now.scene c.settle_all.new.self.scene c.args.out.now c.settle_all.new.out c.in-Err.stop c.in-Err.ensures.row

pub names-requires : goal.names-requires
names-requires g c = some_there (λ decls. IsTrue (is_step decls step.Reconcile)) (decls_in c.args.self.now.scene.place) c.requires.allowed

pub mend-requires : goal.mend-requires
mend-requires g c = record {
  sound = settled_between g.D.Disk.disk c.args.self.now.scene c.args.out.now c.scene_is_carried.ensures c.settle_all.new.self.scene c.settle_all.new.out c.requires.sound c.in-Ok.ensures.row;
}
