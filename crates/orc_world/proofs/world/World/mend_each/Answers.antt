use Rattle.std.proofs.Common.{ℕ, arith, ◌<◌, ◌∙◌, subst, sym}
use Rattle.orc_world.proofs.Lasted.{mends_ended, mends_last, mends_more, none_mended}
use Rattle.orc_world.proofs.Unordered.{devices_mended}
use Rattle.orc_world.proofs.world.World.mend_each.Goals as goal

pub loop-device-init : goal.loop-device-init
loop-device-init g c = none_mended g.D.Disk.disk c.args.self.now.scene c.requires.sound

pub mend_on-requires-clause-sound : goal.mend_on-requires-clause-sound
mend_on-requires-clause-sound g c = c.loop-device.invariant.sound

pub mend_on-requires-clause-declared : goal.mend_on-requires-clause-declared
mend_on-requires-clause-declared g c = subst (λ (n : ℕ). c.loop-device.device < n) (c.device_count-device-end.ensures ∙ sym c.loop-device.invariant.long) c.loop-device-test.true

pub loop-device-preserved : goal.loop-device-preserved
loop-device-preserved g c =
    mends_more g.D.Disk.disk c.args.self.now.scene c.loop-device.self.scene c.mend_on.new.self.scene c.loop-device.device c.loop-device.invariant c.in-Ok.ensures

pub returns-in-Err : goal.returns-in-Err
returns-in-Err g c = record {
  row = mends_ended g.D.Disk.disk c.args.self.now.scene c.loop-device.self.scene c.mend_on.new.self.scene c.loop-device.device c.loop-device.invariant
      c.in-Err.stop (subst (λ (n : ℕ). c.loop-device.device < n) c.device_count-device-end.ensures c.loop-device-test.true) c.in-Err.ensures;
  done = tt;
}

pub returns : goal.returns
returns g c =
    let row = mends_last g.D.Disk.disk c.args.self.now.scene c.loop-device.self.scene c.loop-device.device
    (omega (arith, c.loop-device-test.false, c.loop-device.auto.device-end, c.device_count-device-end.ensures)) c.loop-device.invariant in
    record {
      row = row;
      done = devices_mended g.D.Disk.disk c.args.self.now.scene c.loop-device.self.scene c.requires.sound c.requires.begun row;
    }
