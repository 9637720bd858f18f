use Rattle.std.proofs.Common.{subst, sym}
use Rattle.std.specs.Prelude.{MatchOption}
use Rattle.orc_hub.specs.Admits.{IsNextToAdmit}
use Rattle.orc_runs.specs.Scripts.{Part as part}
use Rattle.orc_scene.specs.Effects.{hub_in}
use Rattle.orc_scene.proofs.Turning.{between_room, turn_behind, turn_roomless}
use Rattle.orc_scene.proofs.scene.Scene.admit_now.Goals as goal

pub admit_as-requires-clause-sound : goal.admit_as-requires-clause-sound
admit_as-requires-clause-sound g c = between_room g.D.Disk.disk part.Admission c.args.self.now c.make_room.new.self c.in-Ok.ensures.same c.requires.sound

pub admit_as-requires-clause-next : goal.admit_as-requires-clause-next
admit_as-requires-clause-next g c =
    subst (λ p. MatchOption (hub_in p) ⊥ (λ hub. IsNextToAdmit hub.active hub.waiting c.args.t)) (sym c.in-Ok.ensures.same.place) c.requires.next

pub returns-in-Ok : goal.returns-in-Ok
returns-in-Ok g c =
    turn_behind g.D.Disk.disk part.Admission c.args.self.now c.make_room.new.self c.in-Ok.ensures.same c.admit_as.new.self c.args.out.now c.admit_as.new.out c.admit_as.result c.admit_as.ensures

pub returns-in-Err : goal.returns-in-Err
returns-in-Err g c = turn_roomless g.D.Disk.disk part.Admission c.args.self.now c.make_room.new.self c.in-Err.ensures.same c.args.out.now c.in-Err.stop c.in-Err.ensures.stop
