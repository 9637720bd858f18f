use Rattle.std.proofs.Common.{[], ◌≤◌, ◌+◌, ◌++◌, ◌∷◌, ap, map, subst, sym, ◌∙◌}
use Rattle.std.specs.Prelude.{vec_capacity, vec_len}
use Rattle.orc_links.specs.Networks.{link_dropped}
use Rattle.orc_links.specs.declared.links.Links.{Links}
use Rattle.orc_rules.specs.declared.event.Event.TheVariants as event
use Rattle.orc_scene.specs.declared.events.Events.{Events}
use Rattle.orc_scene.proofs.scene.Scene.stop_now.Goals as goal

pub keep-requires : goal.keep-requires
keep-requires g c = subst (λ (e : Events). vec_len e.items + 1 ≤ vec_capacity e.items) (sym c.let_go.ensures.events) c.requires

pub returns-clause-stops : goal.returns-clause-stops
returns-clause-stops g c = record {
  limit = c.keep.ensures.kept.limit ∙ c.let_go.ensures.limit;
  place = c.keep.ensures.kept.place ∙ c.let_go.ensures.place;
  links = c.keep.ensures.kept.links ∙ c.drop_sessions.ensures ∙ ap (λ (l : Links). record l { links = map link_dropped l.links }) c.let_go.ensures.links;
  taken = ap (λ s. s.taken) c.keep.ensures.kept.snapshots ∙ c.let_go.ensures.taken;
  events = c.keep.ensures.kept.events_are ∙ ap (λ (e : Events). e.items.items ++ event.Stop ∷ []) c.let_go.ensures.events;
}

pub returns-clause-room : goal.returns-clause-room
returns-clause-room g c = λ room. c.keep.ensures.room 1 (subst (λ (e : Events). vec_len e.items + 2 ≤ vec_capacity e.items) (sym c.let_go.ensures.events) room)
