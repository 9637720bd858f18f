use Rattle.std.proofs.Common.{refl}
use Rattle.orc_scene.proofs.scene.Scene.over.Goals as goal

pub returns-in-Ok-clause-begun : goal.returns-in-Ok-clause-begun
returns-in-Ok-clause-begun g c = record {
  hub = c.in-Ok.hub;
  place = refl;
  started = c.in-Ok.ensures.started;
  limit_is = refl;
  links_are = refl;
  taken = c.new.ensures;
  events = c.new-in-Ok.ensures;
}
