use Rattle.orc_scene.proofs.Firsts.{down_named, down_turn}
use Rattle.orc_scene.proofs.scene.Scene.submit_down.Goals as goal

pub submitted-requires-clause-named : goal.submitted-requires-clause-named
submitted-requires-clause-named g c = down_named g.D.Disk.disk c.args.self.now c.requires.sound

pub returns : goal.returns
returns g c =
    down_turn g.D.Disk.disk c.args.self.now c.submitted.new.self c.requires.down c.args.kept c.submitted.ensures.state c.args.out.now c.submitted.new.out c.submitted.result c.submitted.ensures.said
    c.scene_is_carried.ensures c.snapshot_stays_at_front.ensures
