use Rattle.std.proofs.Common.{ap, ◌∙◌}
use Rattle.orc_scene.proofs.scene.Scene.let_go.Goals as goal

pub returns : goal.returns
returns g c = record {
  alloc = ap (λ w. w.alloc) c.let_place_go.ensures;
  limit = ap (λ w. w.limit) c.let_place_go.ensures;
  place = ap (λ w. w.place) c.let_place_go.ensures;
  links = ap (λ w. w.links) c.let_place_go.ensures;
  taken = ap (λ w. w.snapshots.taken) c.let_place_go.ensures ∙ c.clear.ensures;
  events = ap (λ w. w.events) c.let_place_go.ensures;
}
