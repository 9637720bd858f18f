use Rattle.std.proofs.Common.{◌≤◌, ◌+◌, ◌++◌, ap, subst, sym, ◌∙◌}
use Rattle.std.specs.Prelude.{vec_capacity, vec_len}
use Rattle.orc_scene.specs.Courses.{event_list}
use Rattle.orc_scene.specs.declared.events.Events.{Events}
use Rattle.orc_scene.proofs.scene.Scene.end_with.Goals as goal

pub keep_seen-requires : goal.keep_seen-requires
keep_seen-requires g c = subst (λ (e : Events). vec_len e.items + 1 ≤ vec_capacity e.items) (sym c.let_go.ensures.events) c.requires

pub returns : goal.returns
returns g c = record {
  limit = c.keep_seen.ensures.limit ∙ c.let_go.ensures.limit;
  place = c.keep_seen.ensures.place ∙ c.let_go.ensures.place;
  links = c.keep_seen.ensures.links ∙ c.let_go.ensures.links;
  taken = ap (λ s. s.taken) c.keep_seen.ensures.snapshots ∙ c.let_go.ensures.taken;
  events_are = c.keep_seen.ensures.events_are ∙ ap (λ (e : Events). e.items.items ++ event_list c.args.seen) c.let_go.ensures.events;
}
