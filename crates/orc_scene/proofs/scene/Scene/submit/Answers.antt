use Rattle.std.proofs.Common.{subst}
use Rattle.orc_call.specs.declared.call.Call.{Call}
use Rattle.orc_runs.specs.Scripts.{Part as part}
use Rattle.orc_scene.specs.Courses.{TurnOrEnd}
use Rattle.orc_scene.specs.Snapshots.{fronts_of}
use Rattle.orc_scene.proofs.Firsts.{lawful_up}
use Rattle.orc_scene.proofs.scene.Scene.submit.Goals as goal

pub planned-requires-clause-sound : goal.planned-requires-clause-sound
planned-requires-clause-sound g c = c.requires.sound.0

pub planned-requires-clause-lawful : goal.planned-requires-clause-lawful
planned-requires-clause-lawful g c = c.requires.lawful

pub planned-requires-clause-front : goal.planned-requires-clause-front
planned-requires-clause-front g c = c.requires.front

pub submit_on-requires-clause-sound : goal.submit_on-requires-clause-sound
submit_on-requires-clause-sound g c = c.requires.sound

pub submit_on-requires-clause-same : goal.submit_on-requires-clause-same
submit_on-requires-clause-same g c = c.requires.same

pub submit_on-requires-clause-room : goal.submit_on-requires-clause-room
submit_on-requires-clause-room g c = c.requires.room

pub submit_on-requires-clause-planned : goal.submit_on-requires-clause-planned
submit_on-requires-clause-planned g c = lawful_up c.args.self.now.place c.args.call c.requires.lawful
    (fronts_of c.args.self.now.snapshots.taken c.args.call.caller) c.in-Some.front c.in-Some.plan c.in-Some.ensures

pub submit_down-requires-clause-sound : goal.submit_down-requires-clause-sound
submit_down-requires-clause-sound g c = c.requires.sound.0

pub submit_down-requires-clause-down : goal.submit_down-requires-clause-down
submit_down-requires-clause-down g c = c.in-None.ensures

pub returns-in-Some : goal.returns-in-Some
returns-in-Some g c = c.submit_on.ensures

pub returns-in-None : goal.returns-in-None
returns-in-None g c =
    subst (λ (call : Call). TurnOrEnd g.D.Disk.disk (part.Submission call) c.args.self.now c.submit_down.result c.submit_down.new.self c.args.out.now c.submit_down.new.out) c.requires.same c.submit_down.ensures
