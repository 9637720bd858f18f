use Rattle.std.proofs.Common.{ℕ, ◌++◌, ◌∷◌, [], ap, refl, ◌∙◌}
use Rattle.orc_rules.specs.declared.event.Event.TheVariants as event
use Rattle.orc_scene.proofs.scene.Scene.put_snapshot.Goals as goal

pub returns-in-Ok : goal.returns-in-Ok
returns-in-Ok g c = (
  c.keep.ensures.kept.limit,
  c.keep.ensures.kept.place,
  c.keep.ensures.kept.links,
  (
    ap (λ s. s.taken) c.keep.ensures.kept.snapshots ∙ c.in-Ok.ensures.ok,
    c.keep.ensures.kept.events_are ∙ ap (λ (n : ℕ). c.args.self.now.events.items.items ++ event.Begin c.args.named n ∷ []) c.front-front.ensures,
  ),
  tt,
)

pub returns-in-Err : goal.returns-in-Err
returns-in-Err g c = (refl, refl, refl, tt, (refl, refl))
