use Rattle.std.proofs.Common.{[], ◌≡◌, true, false, is_some, refl, sym, subst, ◌∙◌, Some, arith}
use Rattle.orc_rules.specs.declared.event.Event.TheVariants as event
use Rattle.orc_runs.specs.Scripts.{Part as part}
use Rattle.orc_script.specs.declared.step.ScriptStep.TheVariants as step
use Rattle.orc_scene.specs.Effects.{hub_in}
use Rattle.orc_scene.specs.Courses.{GoesTurn}
use Rattle.orc_scene.specs.Stands.{run_setting}
use Rattle.orc_scene.proofs.Joining.{at_limit}
use Rattle.orc_scene.proofs.Recovery.{ComesBack}
use Rattle.orc_world.proofs.Recovery.{behind_stop, sound_stopped}
use Rattle.orc_scene.proofs.Stepping.{seen_in}
use Rattle.orc_world.proofs.Times.{ends_at_once}
use Rattle.orc_world.proofs.world.World.recover_up.Goals as goal

pub stop_hub-requires-clause-up : goal.stop_hub-requires-clause-up
stop_hub-requires-clause-up g c = subst (λ p. is_some (hub_in p) ≡ true) (sym c.in-Ok.ensures.same.place) c.requires.up

pub stop_hub-requires-clause-room : goal.stop_hub-requires-clause-room
stop_hub-requires-clause-room g c = omega (arith, c.in-Ok.ensures.room)

pub recover_down-requires-clause-sound : goal.recover_down-requires-clause-sound
recover_down-requires-clause-sound g c =
    sound_stopped g.D.Disk.disk c.args.self.now.scene c.make_room.new.self c.stop_hub.new.self c.in-Ok.ensures.same c.requires.sound.0 c.stop_hub.ensures.stops

pub recover_down-requires-clause-down : goal.recover_down-requires-clause-down
recover_down-requires-clause-down g c = c.stop_hub.ensures.down

pub recover_down-requires-clause-room : goal.recover_down-requires-clause-room
recover_down-requires-clause-room g c = c.stop_hub.ensures.room c.in-Ok.ensures.room

pub returns-in-Ok : goal.returns-in-Ok
returns-in-Ok g c = λ decls granted seen is may.
    let old = c.args.self.now.scene in
    let middle = c.make_room.new.self in
    let gone = c.stop_hub.new.self in
    let new = c.recover_down.new.self in
    let here = run_setting g.D.Disk.disk decls old.limit granted in
    let same = c.in-Ok.ensures.same in
    let went = at_limit g.D.Disk.disk middle (λ here seen. (went : GoesTurn here seen middle gone [] [] part.Stopping) × (went.turn.seen ≡ Some event.Stop)) old.limit decls granted seen
    c.stop_hub.ensures.stops same.limit (seen_in here seen old middle gone same is) in
    behind_stop here seen old middle gone new same went.0 went.1 c.args.out.now c.recover_down.new.out c.recover_down.result
    (at_limit g.D.Disk.disk gone (λ here seen. here.granted ≡ false → ComesBack here seen gone c.recover_down.result new c.args.out.now c.recover_down.new.out) old.limit decls granted went.0.turn.behind
    c.recover_down.ensures (went.0.through.limit ∙ same.limit) went.0.through.is may)

pub returns-in-Err : goal.returns-in-Err
returns-in-Err g c = λ decls granted seen is may.
    ends_at_once (run_setting g.D.Disk.disk decls c.args.self.now.scene.limit granted) step.Recover seen c.args.self.now.scene
    c.make_room.new.self c.args.out.now c.args.out.now c.in-Err.stop c.in-Err.ensures.stop is c.in-Err.ensures.same refl refl
