use Rattle.std.proofs.Common.{◌≡◌, true, subst, sym, ◌∙◌}
use Rattle.std.specs.Prelude.{is_some}
use Rattle.orc_runs.specs.Scripts.{Part as part}
use Rattle.orc_scene.specs.Effects.{hub_in}
use Rattle.orc_scene.proofs.Turning.{between_room, turn_behind, turn_roomless}
use Rattle.orc_scene.proofs.scene.Scene.take_new.Goals as goal

pub take_snapshot-requires-clause-sound : goal.take_snapshot-requires-clause-sound
take_snapshot-requires-clause-sound g c = between_room g.D.Disk.disk (part.Snapshot c.args.caller.now) c.args.self.now c.make_room.new.self c.in-Ok.ensures.same c.requires.sound

pub take_snapshot-requires-clause-up : goal.take_snapshot-requires-clause-up
take_snapshot-requires-clause-up g c = subst (λ p. is_some (hub_in p) ≡ true) (sym c.in-Ok.ensures.same.place) c.requires.up

pub returns-in-Ok-clause-turn : goal.returns-in-Ok-clause-turn
returns-in-Ok-clause-turn g c =
    turn_behind g.D.Disk.disk (part.Snapshot c.args.caller.now) c.args.self.now c.make_room.new.self c.in-Ok.ensures.same c.take_snapshot.new.self _ _ c.take_snapshot.result c.take_snapshot.ensures.turn

pub returns-in-Ok-clause-taken : goal.returns-in-Ok-clause-taken
returns-in-Ok-clause-taken g c = c.take_snapshot.ensures.taken

pub returns-in-Ok-clause-place : goal.returns-in-Ok-clause-place
returns-in-Ok-clause-place g c = c.take_snapshot.ensures.place ∙ c.in-Ok.ensures.same.place

pub returns-in-Err-clause-turn : goal.returns-in-Err-clause-turn
returns-in-Err-clause-turn g c =
    turn_roomless g.D.Disk.disk (part.Snapshot c.args.caller.now) c.args.self.now c.make_room.new.self c.in-Err.ensures.same _ c.in-Err.stop c.in-Err.ensures.stop

pub returns-in-Err-clause-taken : goal.returns-in-Err-clause-taken
returns-in-Err-clause-taken g c = tt

pub returns-in-Err-clause-place : goal.returns-in-Err-clause-place
returns-in-Err-clause-place g c = c.in-Err.ensures.same.place
