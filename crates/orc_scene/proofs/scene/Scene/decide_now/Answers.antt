use Rattle.std.proofs.Common.{◌≡◌, Some, subst, sym}
use Rattle.std.specs.Prelude.{MatchOption}
use Rattle.orc_rules.specs.Due.{least_due}
use Rattle.orc_runs.specs.Scripts.{Part as part}
use Rattle.orc_scene.specs.Effects.{hub_in}
use Rattle.orc_scene.proofs.Turning.{between_room, turn_behind, turn_roomless}
use Rattle.orc_scene.proofs.scene.Scene.decide_now.Goals as goal

pub decide_as-requires-clause-sound : goal.decide_as-requires-clause-sound
decide_as-requires-clause-sound g c = between_room g.D.Disk.disk part.Decisions c.args.self.now c.make_room.new.self c.in-Ok.ensures.same c.requires.sound

pub decide_as-requires-clause-next : goal.decide_as-requires-clause-next
decide_as-requires-clause-next g c =
    subst (λ p. MatchOption (hub_in p) ⊥ (λ hub. least_due hub.duties hub.active ≡ Some c.args.t)) (sym c.in-Ok.ensures.same.place) c.requires.next

pub returns-in-Ok : goal.returns-in-Ok
returns-in-Ok g c =
    turn_behind g.D.Disk.disk part.Decisions c.args.self.now c.make_room.new.self c.in-Ok.ensures.same c.decide_as.new.self c.args.out.now c.decide_as.new.out c.decide_as.result c.decide_as.ensures

pub returns-in-Err : goal.returns-in-Err
returns-in-Err g c = turn_roomless g.D.Disk.disk part.Decisions c.args.self.now c.make_room.new.self c.in-Err.ensures.same c.args.out.now c.in-Err.stop c.in-Err.ensures.stop
