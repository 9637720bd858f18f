use Rattle.std.proofs.Common.{◌≡◌, ◌<◌, Some, refl}
use Rattle.orc_hub.specs.Hubs.{record_of}
use Rattle.orc_rules.specs.Acceptance.{declared_kind}
use Rattle.orc_rules.specs.Hubs.{due_on}
use Rattle.orc_scene.specs.Stands.{run_setting}
use Rattle.orc_scene.proofs.Hearing.{awaited_there, hub_there, logs_within, performed_and_heard, performed_within}
use Rattle.orc_scene.proofs.Seeing.{place_disk}
use Rattle.orc_scene.proofs.scene.Scene.perform.Goals as goal

pub perform-requires-clause-log : goal.perform-requires-clause-log
perform-requires-clause-log g c = logs_within g.D.Disk.disk c.args.self.now c.args.device c.requires.sound c.requires.declared

pub faults-faults-requires : goal.faults-faults-requires
faults-faults-requires g c = performed_within c.args.self.now.links.links c.perform.new.self.links c.args.self.now.links.logs c.perform.new.self.logs c.args.device c.args.op c.in-Ok.reply
    c.in-Ok.ensures.ok c.requires.declared

pub hear-requires-clause-awaited : goal.hear-requires-clause-awaited
hear-requires-clause-awaited g c =
    awaited_there g.D.Disk.disk c.args.self.now c.keep.new.self.place c.args.device c.args.op c.requires.sound c.requires.declared
    (hub_there c.args.self.now.place (λ hub. due_on (record_of hub) c.args.device ≡ Some c.args.op) c.requires.due) c.keep.ensures.kept.place

pub hear-requires-clause-room : goal.hear-requires-clause-room
hear-requires-clause-room g c = c.keep.ensures.room 1 c.requires.room

pub returns-in-Ok : goal.returns-in-Ok
returns-in-Ok g c = λ decls granted seen is.
    let old = c.args.self.now in
    let due = hub_there old.place (λ hub. due_on (record_of hub) c.args.device ≡ Some c.args.op) c.requires.due in
    performed_and_heard (run_setting g.D.Disk.disk decls old.limit granted) (c.scene_is_carried.ensures decls old.limit granted is.decls)
    (c.order_is_performed.ensures decls (declared_kind decls) old.limit granted) (c.report_is_event.ensures decls (declared_kind decls) old.limit granted)
    (λ device. refl)
    seen old c.keep.new.self c.hear.new.self c.perform.new.self due.0 c.args.device c.args.op c.in-Ok.reply c.faults-faults.result is due.1 c.requires.declared due.2
    c.in-Ok.ensures.ok c.faults-faults.ensures c.kind_of_op-kind.result c.mark-mark.result c.kind_of_op-kind.ensures c.mark-mark.ensures c.keep.ensures.kept c.hear.ensures

pub returns-in-Err : goal.returns-in-Err
returns-in-Err g c = λ decls granted seen is. record {
  memory = refl;
  disk = place_disk (run_setting g.D.Disk.disk decls c.args.self.now.limit granted) seen c.args.self.now.place is.place;
  events = refl;
  printed = refl;
}
