use Rattle.std.proofs.Common.{◌≡◌, length}
use Rattle.std.specs.Prelude.{IfOk}
use Rattle.orc_state.specs.States.{IsSnapshotAt}
use Rattle.orc_scene.proofs.Turning.{never_up, sound_there, there_so, up_there}
use Rattle.orc_scene.proofs.Firsts.{begun_snapshot}
use Rattle.orc_scene.proofs.scene.Scene.hub_snapshot.Goals as goal

pub begin-requires : goal.begin-requires
begin-requires g c = sound_there g.D.Disk.disk c.args.self.now c.in-Up.hub c.requires.sound c.in-Up.is

pub returns : goal.returns
returns g c =
    there_so (λ hub. IfOk c.begin.result (λ snapshot. (snapshot.front ≡ length hub.state.history) × IsSnapshotAt hub.decls hub.state.history snapshot)) c.args.self.now.place c.in-Up.hub c.in-Up.is
    (begun_snapshot c.in-Up.hub c.begin.result c.begin.ensures.front
    (c.begin.ensures.at (up_there g.D.Disk.disk c.args.self.now c.in-Up.hub c.requires.sound c.in-Up.is)))

pub unreachable-requires : goal.unreachable-requires
unreachable-requires g c = never_up c.args.self.now.place c.in_default.not-Up c.requires.up
