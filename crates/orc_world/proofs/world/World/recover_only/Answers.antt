use Rattle.std.proofs.Common.{◌≡◌, false, is_some, refl, sym, subst, arith}
use Rattle.orc_script.specs.declared.step.ScriptStep.TheVariants as step
use Rattle.orc_scene.specs.Effects.{hub_in}
use Rattle.orc_scene.specs.Stands.{run_setting}
use Rattle.orc_scene.proofs.Joining.{at_limit}
use Rattle.orc_scene.proofs.Recovery.{ComesBack}
use Rattle.orc_world.proofs.Recovery.{without_stop}
use Rattle.orc_scene.proofs.Stepping.{seen_in, sound_in}
use Rattle.orc_world.proofs.Times.{ends_at_once}
use Rattle.orc_world.proofs.world.World.recover_only.Goals as goal

pub recover_down-requires-clause-sound : goal.recover_down-requires-clause-sound
recover_down-requires-clause-sound g c = sound_in g.D.Disk.disk c.args.self.now.scene c.make_room.new.self c.in-Ok.ensures.same c.requires.sound.0

pub recover_down-requires-clause-down : goal.recover_down-requires-clause-down
recover_down-requires-clause-down g c = subst (λ p. is_some (hub_in p) ≡ false) (sym c.in-Ok.ensures.same.place) c.requires.down

pub recover_down-requires-clause-room : goal.recover_down-requires-clause-room
recover_down-requires-clause-room g c = omega (arith, c.in-Ok.ensures.room)

pub returns-in-Ok : goal.returns-in-Ok
returns-in-Ok g c = λ decls granted seen is may.
    let old = c.args.self.now.scene in
    let middle = c.make_room.new.self in
    let new = c.recover_down.new.self in
    let here = run_setting g.D.Disk.disk decls old.limit granted in
    let same = c.in-Ok.ensures.same in
    without_stop here seen old middle new same is (subst (λ p. is_some (hub_in p) ≡ false) (sym same.place) c.requires.down) c.args.out.now c.recover_down.new.out c.recover_down.result
    (at_limit g.D.Disk.disk middle (λ here seen. here.granted ≡ false → ComesBack here seen middle c.recover_down.result new c.args.out.now c.recover_down.new.out) old.limit decls granted seen
    c.recover_down.ensures same.limit (seen_in here seen old middle new same is) may)

pub returns-in-Err : goal.returns-in-Err
returns-in-Err g c = λ decls granted seen is may.
    ends_at_once (run_setting g.D.Disk.disk decls c.args.self.now.scene.limit granted) step.Recover seen c.args.self.now.scene
    c.make_room.new.self c.args.out.now c.args.out.now c.in-Err.stop c.in-Err.ensures.stop is c.in-Err.ensures.same refl refl
