use Rattle.orc_node.proofs.Sound.{sound_always}
use Rattle.orc_node.proofs.laws.sessions_stay_sound.Goals as goal

pub returns : goal.returns
returns c = sound_always
