use Rattle.std.proofs.Common.{refl, subst, sym}
use Rattle.orc_call.specs.declared.call.Call.{Call}
use Rattle.orc_script.specs.declared.step.ScriptStep.TheVariants as step
use Rattle.orc_world.specs.Lines.{IsLineCall}
use Rattle.orc_scene.specs.Stands.{Allows, run_setting}
use Rattle.orc_scene.specs.declared.stop.WorldStop.TheVariants as stop
use Rattle.orc_world.proofs.Times.{ends_at_once}
use Rattle.orc_world.proofs.world.World.call_copy.Goals as goal

pub call-requires-clause-allowed : goal.call-requires-clause-allowed
call-requires-clause-allowed g c = subst (λ (one : Call). Allows c.args.self.now.scene (step.Call one)) (sym c.in-Ok.ensures) c.requires.allowed

pub returns-in-Ok : goal.returns-in-Ok
returns-in-Ok g c =
    subst (λ (one : Call). IsLineCall g.D.Disk.disk (step.Call one) c.args.self.now.scene c.call.result c.call.new.self.scene c.args.out.now c.call.new.out) c.in-Ok.ensures c.call.ensures

pub returns-in-Err : goal.returns-in-Err
returns-in-Err g c = λ decls granted seen is may.
    ends_at_once (run_setting g.D.Disk.disk decls c.args.self.now.scene.limit granted) (step.Call c.args.call.now) seen c.args.self.now.scene c.args.self.now.scene
    c.args.out.now c.args.out.now stop.Memory refl is (record { alloc = refl; limit = refl; place = refl; links = refl; snapshots = refl; events_are = refl }) refl refl
