use Rattle.std.proofs.Common.{refl}
use Rattle.orc_runs.specs.Scripts.{Part as part}
use Rattle.orc_scene.proofs.Firsts.{takes_front, takes_turn, turn_wanting}
use Rattle.orc_scene.proofs.scene.Scene.take_named.Goals as goal

pub hub_snapshot-requires-clause-sound : goal.hub_snapshot-requires-clause-sound
hub_snapshot-requires-clause-sound g c = c.requires.sound.0

pub hub_snapshot-requires-clause-up : goal.hub_snapshot-requires-clause-up
hub_snapshot-requires-clause-up g c = c.requires.up

pub returns-in-Ok-clause-turn : goal.returns-in-Ok-clause-turn
returns-in-Ok-clause-turn g c =
    takes_turn g.D.Disk.disk c.scene_is_carried.ensures c.snapshot_stays_at_front.ensures c.snapshot_begins.ensures c.args.self.now c.put_snapshot.new.self c.args.caller.now
    c.args.named c.args.kept c.in-Ok.snapshot c.requires.names c.in-Ok.ensures c.put_snapshot.result c.put_snapshot.ensures

pub returns-in-Ok-clause-taken : goal.returns-in-Ok-clause-taken
returns-in-Ok-clause-taken g c =
    takes_front c.args.self.now c.put_snapshot.new.self c.args.caller.now c.args.named c.args.kept c.in-Ok.snapshot c.requires.names.1 c.put_snapshot.result c.put_snapshot.ensures

pub returns-in-Ok-clause-place : goal.returns-in-Ok-clause-place
returns-in-Ok-clause-place g c = c.put_snapshot.ensures.1

pub returns-in-Err-clause-turn : goal.returns-in-Err-clause-turn
returns-in-Err-clause-turn g c = turn_wanting g.D.Disk.disk (part.Snapshot c.args.caller.now) c.args.self.now _

pub returns-in-Err-clause-taken : goal.returns-in-Err-clause-taken
returns-in-Err-clause-taken g c = tt

pub returns-in-Err-clause-place : goal.returns-in-Err-clause-place
returns-in-Err-clause-place g c = refl
