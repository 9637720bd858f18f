use Rattle.orc_runs.specs.Scripts.{Part as part}
use Rattle.orc_scene.proofs.Firsts.{turn_wanting}
use Rattle.orc_scene.proofs.scene.Scene.submit_copied.Goals as goal

pub submit-requires-clause-sound : goal.submit-requires-clause-sound
submit-requires-clause-sound g c = c.requires.sound

pub submit-requires-clause-lawful : goal.submit-requires-clause-lawful
submit-requires-clause-lawful g c = c.requires.lawful

pub submit-requires-clause-same : goal.submit-requires-clause-same
submit-requires-clause-same g c = c.in-Ok.ensures

pub submit-requires-clause-front : goal.submit-requires-clause-front
submit-requires-clause-front g c = c.requires.front

pub submit-requires-clause-room : goal.submit-requires-clause-room
submit-requires-clause-room g c = c.requires.room

pub returns-in-Ok : goal.returns-in-Ok
returns-in-Ok g c = c.submit.ensures

pub returns-in-Err : goal.returns-in-Err
returns-in-Err g c = turn_wanting g.D.Disk.disk (part.Submission c.args.call) c.args.self.now c.args.out.now
