use Rattle.std.proofs.Common.{IsTrue, subst, sym}
use Rattle.std.specs.Prelude.{MatchOption}
use Rattle.orc_decls.specs.Calls.{is_call}
use Rattle.orc_runs.specs.Scripts.{Part as part}
use Rattle.orc_scene.specs.Stands.{decls_in}
use Rattle.orc_scene.proofs.Firsts.{front_behind}
use Rattle.orc_scene.proofs.Turning.{between_room, turn_behind, turn_roomless}
use Rattle.orc_scene.proofs.scene.Scene.submit_now.Goals as goal

pub submit_copied-requires-clause-sound : goal.submit_copied-requires-clause-sound
submit_copied-requires-clause-sound g c = between_room g.D.Disk.disk (part.Submission c.args.call) c.args.self.now c.make_room.new.self c.in-Ok.ensures.same c.requires.sound

pub submit_copied-requires-clause-lawful : goal.submit_copied-requires-clause-lawful
submit_copied-requires-clause-lawful g c =
    subst (λ p. MatchOption (decls_in p) ⊥ (λ decls. IsTrue (is_call decls c.args.call))) (sym c.in-Ok.ensures.same.place) c.requires.lawful

pub submit_copied-requires-clause-front : goal.submit_copied-requires-clause-front
submit_copied-requires-clause-front g c = front_behind c.args.self.now c.make_room.new.self c.in-Ok.ensures.same c.args.call.caller c.requires.front

pub returns-in-Ok : goal.returns-in-Ok
returns-in-Ok g c =
    turn_behind g.D.Disk.disk (part.Submission c.args.call) c.args.self.now c.make_room.new.self c.in-Ok.ensures.same c.submit_copied.new.self c.args.out.now c.submit_copied.new.out
    c.submit_copied.result c.submit_copied.ensures

pub returns-in-Err : goal.returns-in-Err
returns-in-Err g c =
    turn_roomless g.D.Disk.disk (part.Submission c.args.call) c.args.self.now c.make_room.new.self c.in-Err.ensures.same c.args.out.now c.in-Err.stop c.in-Err.ensures.stop
