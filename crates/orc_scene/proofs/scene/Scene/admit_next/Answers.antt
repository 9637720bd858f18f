use Rattle.std.proofs.Common.{None, Some, refl}
use Rattle.orc_runs.specs.Scripts.{Part as part}
use Rattle.orc_scene.proofs.Turning.{end_of_turn, next_admission, no_admission_turn, some_turn}
use Rattle.orc_scene.proofs.scene.Scene.admit_next.Goals as goal

pub admit_now-requires-clause-sound : goal.admit_now-requires-clause-sound
admit_now-requires-clause-sound g c = c.requires

pub admit_now-requires-clause-next : goal.admit_now-requires-clause-next
admit_now-requires-clause-next g c = next_admission c.args.self.now.place (Some c.in-Some.t) c.in-Some.t refl c.in-Some.ensures

pub returns-in-None : goal.returns-in-None
returns-in-None g c = no_admission_turn g.D.Disk.disk c.args.self.now c.args.out.now None refl c.no_admission.ensures c.in-None.ensures

pub returns-in-Ok : goal.returns-in-Ok
returns-in-Ok g c = some_turn g.D.Disk.disk part.Admission c.args.self.now c.admit_now.new.self c.args.out.now c.admit_now.new.out c.in-Ok.ensures

pub returns-in-Err : goal.returns-in-Err
returns-in-Err g c = end_of_turn g.D.Disk.disk part.Admission c.args.self.now c.admit_now.new.self c.args.out.now c.admit_now.new.out c.in-Err.stop c.in-Err.ensures
