use Rattle.std.proofs.Common.{refl}
use Rattle.orc_runs.specs.Scripts.{Part as part}
use Rattle.orc_scene.proofs.Firsts.{turn_wanting}
use Rattle.orc_scene.proofs.scene.Scene.take_snapshot.Goals as goal

pub take_named-requires-clause-sound : goal.take_named-requires-clause-sound
take_named-requires-clause-sound g c = c.requires.sound

pub take_named-requires-clause-up : goal.take_named-requires-clause-up
take_named-requires-clause-up g c = c.requires.up

pub take_named-requires-clause-names : goal.take_named-requires-clause-names
take_named-requires-clause-names g c = c.in-Ok.ensures

pub returns-in-Ok-clause-turn : goal.returns-in-Ok-clause-turn
returns-in-Ok-clause-turn g c = c.take_named.ensures.turn

pub returns-in-Ok-clause-taken : goal.returns-in-Ok-clause-taken
returns-in-Ok-clause-taken g c = c.take_named.ensures.taken

pub returns-in-Ok-clause-place : goal.returns-in-Ok-clause-place
returns-in-Ok-clause-place g c = c.take_named.ensures.place

pub returns-in-Err-clause-turn : goal.returns-in-Err-clause-turn
returns-in-Err-clause-turn g c = turn_wanting g.D.Disk.disk (part.Snapshot c.args.caller.now) c.args.self.now _

pub returns-in-Err-clause-taken : goal.returns-in-Err-clause-taken
returns-in-Err-clause-taken g c = tt

pub returns-in-Err-clause-place : goal.returns-in-Err-clause-place
returns-in-Err-clause-place g c = refl
