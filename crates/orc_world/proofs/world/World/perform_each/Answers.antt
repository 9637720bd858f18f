use Rattle.std.proofs.Common.{ℕ, [], arith, Bool, ◌+◌, ◌<◌, ◌∙◌, subst, sym}
use Rattle.orc_rules.specs.Worlds.{declared}
use Rattle.orc_world.specs.inside.Rows.{NoneOrdered}
use Rattle.orc_world.proofs.Lasted.{EachInEach, each_ended, each_last, each_more, no_device_yet, operations_of, row_between}
use Rattle.orc_world.proofs.Resting.{each_none}
use Rattle.orc_world.proofs.world.World.perform_each.Goals as goal

pub loop-device-init : goal.loop-device-init
loop-device-init g c = no_device_yet g.D.Disk.disk c.args.self.now.scene c.requires

pub perform_next-requires-clause-sound : goal.perform_next-requires-clause-sound
perform_next-requires-clause-sound g c = c.loop-device.invariant.between.0

pub perform_next-requires-clause-declared : goal.perform_next-requires-clause-declared
perform_next-requires-clause-declared g c = subst (λ (n : ℕ). c.loop-device.device < n) (c.device_count-device-end.ensures ∙ sym c.loop-device.invariant.long) c.loop-device-test.true

pub loop-device-preserved : goal.loop-device-preserved
loop-device-preserved g c =
    subst (λ (came : Bool). EachInEach g.D.Disk.disk c.args.self.now.scene c.perform_next.new.self (c.loop-device.device + 1) came) (sym c.either-came.ensures)
    (each_more g.D.Disk.disk c.args.self.now.scene c.loop-device.self.scene c.perform_next.new.self c.loop-device.device c.loop-device.came c.loop-device.invariant
    c.scene_is_carried.ensures c.in-Ok.one c.in-Ok.ensures.operation)

pub returns-in-Err : goal.returns-in-Err
returns-in-Err g c = record {
  row = each_ended g.D.Disk.disk c.args.self.now.scene c.loop-device.self.scene c.perform_next.new.self c.loop-device.device c.loop-device.came c.loop-device.invariant
      c.in-Err.stop (subst (λ (n : ℕ). c.loop-device.device < n) c.device_count-device-end.ensures c.loop-device-test.true) c.in-Err.ensures.operation;
  unmended = tt;
}

pub returns : goal.returns
returns g c =
    let row = each_last g.D.Disk.disk c.args.self.now.scene c.loop-device.self.scene c.loop-device.device c.loop-device.came (omega (arith, c.loop-device-test.false, c.loop-device.auto.device-end, c.device_count-device-end.ensures)) c.loop-device.invariant in
    record {
      row = row;
      unmended = (row_between g.D.Disk.disk c.scene_is_carried.ensures c.args.self.now.scene c.loop-device.self.scene [] [] operations_of NoneOrdered c.loop-device.came
          (λ here. each_none (declared here.decls)) c.requires row).1;
    }
