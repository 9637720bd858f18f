use Rattle.std.proofs.Common.{[], ◌≡◌, true, is_some, codes, refl, sym, subst, Some, arith}
use Rattle.orc_rules.specs.declared.event.Event.TheVariants as event
use Rattle.orc_runs.specs.Scripts.{Part as part}
use Rattle.orc_script.specs.declared.step.ScriptStep.TheVariants as step
use Rattle.orc_scene.specs.Effects.{hub_in}
use Rattle.orc_scene.specs.Courses.{GoesTurn}
use Rattle.orc_scene.specs.Stands.{run_setting}
use Rattle.orc_scene.proofs.Downs.{said_words}
use Rattle.orc_world.proofs.Downs.{stop_line}
use Rattle.orc_scene.proofs.Joining.{at_limit}
use Rattle.orc_scene.proofs.Stepping.{seen_in}
use Rattle.orc_world.proofs.Times.{ends_at_once}
use Rattle.orc_world.proofs.world.World.stop_up.Goals as goal

pub stop_hub-requires-clause-up : goal.stop_hub-requires-clause-up
stop_hub-requires-clause-up g c = subst (λ p. is_some (hub_in p) ≡ true) (sym c.in-Ok.ensures.same.place) c.requires.up

pub stop_hub-requires-clause-room : goal.stop_hub-requires-clause-room
stop_hub-requires-clause-room g c = omega (arith, c.in-Ok.ensures.room)

pub returns-in-Ok : goal.returns-in-Ok
returns-in-Ok g c = λ decls granted seen is may.
    let old = c.args.self.now.scene in
    let middle = c.make_room.new.self in
    let gone = c.stop_hub.new.self in
    let here = run_setting g.D.Disk.disk decls old.limit granted in
    let went = at_limit g.D.Disk.disk middle (λ here seen. (went : GoesTurn here seen middle gone [] [] part.Stopping) × (went.turn.seen ≡ Some event.Stop)) old.limit decls granted seen
    c.stop_hub.ensures.stops c.in-Ok.ensures.same.limit (seen_in here seen old middle gone c.in-Ok.ensures.same is) in
    let said = said_words c.stopped.result (codes "stopped\n") c.args.out.now c.say.new.out c.say.result c.stopped.ensures c.say.ensures in
    stop_line here seen old middle gone c.in-Ok.ensures.same went.0 went.1 c.stop_hub.ensures.down c.args.out.now c.say.new.out c.say.result said.0 said.1

pub returns-in-Err : goal.returns-in-Err
returns-in-Err g c = λ decls granted seen is may.
    ends_at_once (run_setting g.D.Disk.disk decls c.args.self.now.scene.limit granted) step.Stop seen c.args.self.now.scene
    c.make_room.new.self c.args.out.now c.args.out.now c.in-Err.stop c.in-Err.ensures.stop is c.in-Err.ensures.same refl refl
