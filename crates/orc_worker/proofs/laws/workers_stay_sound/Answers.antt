use Rattle.orc_worker.proofs.Sound.{sound_always}
use Rattle.orc_worker.proofs.laws.workers_stay_sound.Goals as goal

pub returns : goal.returns
returns c = sound_always
