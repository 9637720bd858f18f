use Rattle.std.proofs.Common.{◌≡◌, [], Option, None, inl, inr, refl, subst}
use Rattle.std.specs.Prelude.{MatchOption}
use Rattle.orc_device.specs.declared.op.Op.{Op}
use Rattle.orc_hub.specs.Hubs.{record_of}
use Rattle.orc_rules.specs.Hubs.{due_on}
use Rattle.orc_scene.specs.Effects.{hub_in}
use Rattle.orc_scene.specs.Courses.{DoesOperation, EndsAtOnce}
use Rattle.orc_scene.specs.Stands.{run_setting}
use Rattle.orc_scene.proofs.Joining.{at_limit}
use Rattle.orc_scene.proofs.Stepping.{ends_from, none_may, operation_from, seen_in, sound_in}
use Rattle.orc_scene.proofs.scene.Scene.perform_next.Goals as goal

pub perform-requires-clause-sound : goal.perform-requires-clause-sound
perform-requires-clause-sound g c = sound_in g.D.Disk.disk c.args.self.now c.make_room.new.self c.make_room.ensures.same c.requires.sound

pub leave_unsent-requires-clause-sound : goal.leave_unsent-requires-clause-sound
leave_unsent-requires-clause-sound g c = sound_in g.D.Disk.disk c.args.self.now c.make_room-in-Err.new.self c.make_room-in-Err.ensures.same c.requires.sound

pub returns-in-Ok-None : goal.returns-in-Ok-None
returns-in-Ok-None g c = record {
  operation = λ decls granted seen is.
      let old = c.args.self.now in
      let none = none_may (run_setting g.D.Disk.disk decls old.limit granted) seen old c.args.device is c.requires.declared
      (subst (λ (o : Option Op). MatchOption (hub_in old.place) (o ≡ None) (λ hub. o ≡ due_on (record_of hub) c.args.device)) c.in-Ok-None.field-0-is c.in-Ok-None.ensures.order) in
      inr (refl, none.0, none.1, record { is = is; limit = refl; events = refl; logs = refl; printed = refl });
}

pub returns-in-Ok-perform : goal.returns-in-Ok-perform
returns-in-Ok-perform g c = record {
  operation = λ decls granted seen is.
      let old = c.args.self.now in
      let middle = c.make_room.new.self in
      let new = c.perform.new.self in
      let here = run_setting g.D.Disk.disk decls old.limit granted in
      inl (
        refl,
        operation_from here seen old middle new c.make_room.ensures.same c.args.device
            (at_limit g.D.Disk.disk middle (λ here seen. DoesOperation here seen middle new [] [] c.args.device) old.limit decls granted seen c.in-Ok-perform.ensures
            c.make_room.ensures.same.limit (seen_in here seen old middle new c.make_room.ensures.same is)),
      );
}

pub returns-in-Err-perform : goal.returns-in-Err-perform
returns-in-Err-perform g c = record {
  operation = λ decls granted seen is.
      let old = c.args.self.now in
      let middle = c.make_room.new.self in
      let new = c.perform.new.self in
      let here = run_setting g.D.Disk.disk decls old.limit granted in
      ends_from here seen old middle new c.make_room.ensures.same c.in-Err-perform.stop
      (at_limit g.D.Disk.disk middle (λ here seen. EndsAtOnce here seen middle new [] [] c.in-Err-perform.stop) old.limit decls granted seen c.in-Err-perform.ensures
      c.make_room.ensures.same.limit (seen_in here seen old middle new c.make_room.ensures.same is));
}

pub returns-in-Ok-make_room : goal.returns-in-Ok-make_room
returns-in-Ok-make_room g c = record {
  operation = λ decls granted seen is.
      let old = c.args.self.now in
      let middle = c.make_room-in-Err.new.self in
      let new = c.leave_unsent.new.self in
      let here = run_setting g.D.Disk.disk decls old.limit granted in
      inl (
        refl,
        operation_from here seen old middle new c.make_room-in-Err.ensures.same c.args.device
            (at_limit g.D.Disk.disk middle (λ here seen. DoesOperation here seen middle new [] [] c.args.device) old.limit decls granted seen c.leave_unsent.ensures
            c.make_room-in-Err.ensures.same.limit (seen_in here seen old middle new c.make_room-in-Err.ensures.same is)),
      );
}
