use Rattle.std.proofs.Common.{refl}
use Rattle.orc_scene.specs.Courses.{MendsDevices}
use Rattle.orc_scene.proofs.Finishing.{end_named, ending_after, mending_finished, there_up}
use Rattle.orc_scene.proofs.scene.Scene.finish_mending.Goals as goal

pub mended-requires-clause-named : goal.mended-requires-clause-named
mended-requires-clause-named g c =
    end_named g.D.Disk.disk c.args.self.now c.in-Up.hub c.requires.sound c.in-Up.is c.mending_end_is_named.ensures c.finish_reconcile-ended.new.self c.finish_reconcile-ended.result
    c.finish_reconcile-ended.ensures.ends c.finish_reconcile-ended.ensures.kept

pub returns : goal.returns
returns g c =
    let turn = mending_finished g.D.Disk.disk c.scene_is_carried.ensures c.snapshot_stays_at_front.ensures c.mending_ends.ensures c.args.self.now _ c.mended.new.self
    c.in-Up.hub c.finish_reconcile-ended.new.self c.finish_reconcile-ended.result c.args.out.now c.mended.new.out c.mended.result c.in-Up.is refl
    (there_up MendsDevices c.args.self.now.place c.in-Up.hub c.in-Up.is c.requires.done) c.finish_reconcile-ended.ensures.ends c.finish_reconcile-ended.ensures.kept c.mended.ensures in
    record {
      turn = turn;
      unmended = ending_after g.D.Disk.disk c.args.self.now c.mended.new.self c.args.out.now c.mended.new.out c.mended.result c.requires.sound turn;
    }
