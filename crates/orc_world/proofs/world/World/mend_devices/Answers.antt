use Rattle.std.proofs.Common.{[], ◌∷◌, map, refl, subst, sym}
use Rattle.std.specs.Prelude.{MatchOption}
use Rattle.orc_rules.specs.Worlds.{declared}
use Rattle.orc_runs.specs.Scripts.{Part as part}
use Rattle.orc_scene.specs.Effects.{hub_in}
use Rattle.orc_scene.specs.Courses.{MendsDevices}
use Rattle.orc_scene.proofs.Lasted.{done, ended}
use Rattle.orc_world.proofs.Lasted.{sound_parts}
use Rattle.orc_world.proofs.Rowing.{printing_row, room_row, row_ended, row_roomless, row_then, turn_row}
use Rattle.orc_scene.proofs.Stepping.{sound_in}
use Rattle.orc_world.proofs.world.World.mend_devices.Goals as goal

pub finish_mending-requires-clause-sound : goal.finish_mending-requires-clause-sound
finish_mending-requires-clause-sound g c =
    sound_in g.D.Disk.disk c.mend_each.new.self.scene c.make_room.new.self c.make_room.ensures.same
    (sound_parts g.D.Disk.disk c.args.self.now.scene c.mend_each.new.self.scene [] [] (λ here. map part.Operations (declared here.decls)) c.requires.sound c.in-Ok.ensures.row)

pub finish_mending-requires-clause-done : goal.finish_mending-requires-clause-done
finish_mending-requires-clause-done g c =
    subst (λ p. MatchOption (hub_in p) ⊥ MendsDevices) (sym c.make_room.ensures.same.place) c.in-Ok.ensures.done

pub returns-in-Ok-make_room : goal.returns-in-Ok-make_room
returns-in-Ok-make_room g c = record {
  row = row_then g.D.Disk.disk (λ here. map part.Operations (declared here.decls)) (λ here. part.Ending ∷ []) c.args.self.now.scene c.mend_each.new.self.scene c.finish_mending.new.self
      c.args.out.now c.args.out.now c.finish_mending.new.out c.finish_mending.result
      (printing_row g.D.Disk.disk (λ here. map part.Operations (declared here.decls)) c.args.self.now.scene c.mend_each.new.self.scene c.args.out.now (done tt) c.in-Ok.ensures.row)
      (room_row g.D.Disk.disk (λ here. part.Ending ∷ []) c.mend_each.new.self.scene c.make_room.new.self c.finish_mending.new.self c.args.out.now c.finish_mending.new.out c.finish_mending.result
      c.make_room.ensures.same
      (turn_row g.D.Disk.disk part.Ending refl c.make_room.new.self c.finish_mending.new.self c.args.out.now c.finish_mending.new.out c.finish_mending.result c.finish_mending.ensures.turn));
  unmended = c.finish_mending.ensures.unmended;
}

pub returns-in-Err-make_room : goal.returns-in-Err-make_room
returns-in-Err-make_room g c = record {
  row = row_then g.D.Disk.disk (λ here. map part.Operations (declared here.decls)) (λ here. part.Ending ∷ []) c.args.self.now.scene c.mend_each.new.self.scene c.make_room.new.self
      c.args.out.now c.args.out.now c.args.out.now (ended c.in-Err-make_room.stop)
      (printing_row g.D.Disk.disk (λ here. map part.Operations (declared here.decls)) c.args.self.now.scene c.mend_each.new.self.scene c.args.out.now (done tt) c.in-Ok.ensures.row)
      (row_roomless g.D.Disk.disk (λ here. part.Ending ∷ []) c.mend_each.new.self.scene c.make_room.new.self c.args.out.now c.in-Err-make_room.stop c.in-Err-make_room.ensures.stop c.make_room.ensures.same);
  unmended = tt;
}

pub returns-in-Err : goal.returns-in-Err
returns-in-Err g c = record {
  row = row_ended g.D.Disk.disk (λ here. map part.Operations (declared here.decls)) (λ here. part.Ending ∷ []) c.args.self.now.scene c.mend_each.new.self.scene c.args.out.now c.args.out.now c.in-Err.stop
      (printing_row g.D.Disk.disk (λ here. map part.Operations (declared here.decls)) c.args.self.now.scene c.mend_each.new.self.scene c.args.out.now
      (ended c.in-Err.stop) c.in-Err.ensures.row);
  unmended = tt;
}
