use Rattle.std.proofs.Common.{ap, ◌∙◌}
use Rattle.orc_scene.specs.declared.scene.Place.TheVariants.{Up}
use Rattle.orc_scene.proofs.scene.Scene.hear.Goals as goal

pub returns : goal.returns
returns g c = record {
  hub = c.in-Up.hub;
  was = c.in-Up.is;
  place = c.keep.ensures.kept.place ∙ ap (λ hub. Up hub) c.report.ensures.reports;
  limit = c.keep.ensures.kept.limit;
  links = c.keep.ensures.kept.links;
  snapshots = c.keep.ensures.kept.snapshots;
  events = c.keep.ensures.kept.events_are;
}
