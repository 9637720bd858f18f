use Rattle.std.proofs.Common.{◌≡◌, ◌<◌, Some, refl}
use Rattle.orc_device.specs.declared.op.Op.TheVariants as op
use Rattle.orc_hub.specs.Hubs.{record_of}
use Rattle.orc_hub.specs.Orders.{IsEditDue}
use Rattle.orc_rules.specs.Acceptance.{declared_kind}
use Rattle.orc_scene.specs.Stands.{run_setting}
use Rattle.orc_scene.proofs.Hearing.{awaited_there, hub_there, unsent_and_heard}
use Rattle.orc_scene.proofs.scene.Scene.leave_unsent.Goals as goal

pub hear-requires-clause-awaited : goal.hear-requires-clause-awaited
hear-requires-clause-awaited g c =
    let due = hub_there c.args.self.now.place (λ hub. IsEditDue (record_of hub) c.args.device) c.requires.due in
    awaited_there g.D.Disk.disk c.args.self.now c.keep.new.self.place c.args.device (op.Edit due.2.0) c.requires.sound c.requires.declared
    (due.0, due.1, due.2.1) c.keep.ensures.kept.place

pub hear-requires-clause-room : goal.hear-requires-clause-room
hear-requires-clause-room g c = c.keep.ensures.room 1 c.requires.room

pub returns : goal.returns
returns g c = λ decls granted seen is.
    let old = c.args.self.now in
    let due = hub_there old.place (λ hub. IsEditDue (record_of hub) c.args.device) c.requires.due in
    unsent_and_heard (run_setting g.D.Disk.disk decls old.limit granted) (c.scene_is_carried.ensures decls old.limit granted is.decls)
    (c.order_is_unsent.ensures decls (declared_kind decls) old.limit granted) (c.report_is_event.ensures decls (declared_kind decls) old.limit granted)
    seen old c.keep.new.self c.hear.new.self due.0 c.args.device due.2.0 c.faults-faults.result is due.1 c.requires.declared due.2.1
    c.faults-faults.ensures c.keep.ensures.kept c.hear.ensures
