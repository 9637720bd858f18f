use Rattle.std.proofs.Common.{ap, ◌∙◌}
use Rattle.orc_scene.proofs.scene.Scene.answered.Goals as goal

pub returns-clause-state : goal.returns-clause-state
returns-clause-state g c = record {
  limit = c.keep.ensures.kept.limit;
  place = c.keep.ensures.kept.place;
  links = c.keep.ensures.kept.links;
  taken = ap (λ s. s.taken) c.keep.ensures.kept.snapshots ∙ c.drop_of.ensures;
  events = c.keep.ensures.kept.events_are;
}

pub returns-clause-said : goal.returns-clause-said
returns-clause-said g c = c.say.ensures
