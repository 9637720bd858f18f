use Rattle.orc_laws.proofs.Overlays.{overlay_one}
use Rattle.orc_laws.proofs.histories.overlay_is_one.Goals as goal

pub returns : goal.returns
returns c = overlay_one
