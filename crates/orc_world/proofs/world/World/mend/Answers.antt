use Rattle.std.proofs.Common.{[], ◌∷◌, ◌++◌, map, refl, subst, sym, ◌∙◌}
use Rattle.std.specs.Prelude.{MatchOption}
use Rattle.orc_hub.specs.Hubs.{record_of}
use Rattle.orc_rules.specs.Worlds.{IsIdle, declared}
use Rattle.orc_runs.specs.Scripts.{Part as part}
use Rattle.orc_scene.specs.Effects.{hub_in}
use Rattle.orc_scene.specs.Stands.{IsNotReconciling}
use Rattle.orc_scene.proofs.Lasted.{done, ended}
use Rattle.orc_world.proofs.Lined.{mending_parts}
use Rattle.orc_world.proofs.Rowing.{mends_down, printing_row, room_row, row_ended, row_roomless, row_then, row_wanting, sound_turn, turn_row}
use Rattle.orc_scene.proofs.Stepping.{sound_in}
use Rattle.orc_world.proofs.world.World.mend.Goals as goal

pub returns-then-not-is_up : goal.returns-then-not-is_up
returns-then-not-is_up g c = record {
  row = mends_down g.D.Disk.disk c.args.self.now.scene c.args.out.now (sym c.is_up.ensures ∙ c.if-not-is_up.true);
  unmended = c.requires.sound.1;
}

pub returns-then-not-is_idle : goal.returns-then-not-is_idle
returns-then-not-is_idle g c = record {
  row = row_wanting g.D.Disk.disk mending_parts c.args.self.now.scene c.args.out.now;
  unmended = tt;
}

pub begin_mending-requires-clause-sound : goal.begin_mending-requires-clause-sound
begin_mending-requires-clause-sound g c = (
  sound_in g.D.Disk.disk c.args.self.now.scene c.make_room.new.self c.make_room.ensures.same c.requires.sound.0,
  subst (λ p. IsNotReconciling p) (sym c.make_room.ensures.same.place) c.requires.sound.1,
)

pub begin_mending-requires-clause-idle : goal.begin_mending-requires-clause-idle
begin_mending-requires-clause-idle g c =
    subst (λ p. MatchOption (hub_in p) ⊥ (λ hub. IsIdle (record_of hub))) (sym c.make_room.ensures.same.place) (c.is_idle.ensures c.if-not-is_idle.false)

pub mend_devices-requires-clause-sound : goal.mend_devices-requires-clause-sound
mend_devices-requires-clause-sound g c =
    sound_turn g.D.Disk.disk part.Beginning c.make_room.new.self c.begin_mending.new.self [] []
    (sound_in g.D.Disk.disk c.args.self.now.scene c.make_room.new.self c.make_room.ensures.same c.requires.sound.0) c.in-Ok-begin_mending.ensures.turn

pub returns-in-Ok-begin_mending : goal.returns-in-Ok-begin_mending
returns-in-Ok-begin_mending g c = record {
  row = row_then g.D.Disk.disk (λ here. part.Beginning ∷ []) (λ here. map part.Operations (declared here.decls) ++ part.Ending ∷ []) c.args.self.now.scene c.begin_mending.new.self c.mend_devices.new.self.scene
      c.args.out.now c.args.out.now c.mend_devices.new.out c.mend_devices.result
      (printing_row g.D.Disk.disk (λ here. part.Beginning ∷ []) c.args.self.now.scene c.begin_mending.new.self c.args.out.now (done tt)
      (room_row g.D.Disk.disk (λ here. part.Beginning ∷ []) c.args.self.now.scene c.make_room.new.self c.begin_mending.new.self [] [] (done tt) c.make_room.ensures.same
      (turn_row g.D.Disk.disk part.Beginning refl c.make_room.new.self c.begin_mending.new.self [] [] (done tt) c.in-Ok-begin_mending.ensures.turn)))
      c.mend_devices.ensures.row;
  unmended = c.mend_devices.ensures.unmended;
}

pub returns-in-Err-begin_mending : goal.returns-in-Err-begin_mending
returns-in-Err-begin_mending g c = record {
  row = row_ended g.D.Disk.disk (λ here. part.Beginning ∷ []) (λ here. map part.Operations (declared here.decls) ++ part.Ending ∷ []) c.args.self.now.scene c.begin_mending.new.self
      c.args.out.now c.args.out.now c.in-Err-begin_mending.stop
      (printing_row g.D.Disk.disk (λ here. part.Beginning ∷ []) c.args.self.now.scene c.begin_mending.new.self c.args.out.now
      (ended c.in-Err-begin_mending.stop)
      (room_row g.D.Disk.disk (λ here. part.Beginning ∷ []) c.args.self.now.scene c.make_room.new.self c.begin_mending.new.self [] [] (ended c.in-Err-begin_mending.stop) c.make_room.ensures.same
      (turn_row g.D.Disk.disk part.Beginning refl c.make_room.new.self c.begin_mending.new.self [] [] (ended c.in-Err-begin_mending.stop) c.in-Err-begin_mending.ensures.turn)));
  unmended = tt;
}

pub returns-in-Err : goal.returns-in-Err
returns-in-Err g c = record {
  row = row_roomless g.D.Disk.disk mending_parts c.args.self.now.scene c.make_room.new.self c.args.out.now c.in-Err.stop c.in-Err.ensures.stop c.in-Err.ensures.same;
  unmended = tt;
}
