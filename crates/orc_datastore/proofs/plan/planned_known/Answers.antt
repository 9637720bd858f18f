use Rattle.std.proofs.Common.{List, All, IsTrue, sym, subst, ◌∙◌}
use Rattle.orc_call.specs.declared.call.Action.{Action}
use Rattle.orc_datastore.specs.Next.{serving_on}
use Rattle.orc_datastore.specs.inside.Sights.{service_key}
use Rattle.orc_datastore.proofs.Sighting.{made_keys}
use Rattle.orc_datastore.proofs.plan.planned_known.Goals as goal

pub held-requires-clause-keys : goal.held-requires-clause-keys
held-requires-clause-keys c =
    subst (λ (l : List Action). All (λ action. IsTrue (service_key action)) l) (sym c.as_slice.ensures)
    (made_keys (serving_on c.args.decls.now c.args.data) c.args.actions.now c.in-Ok.made
    (sym c.in_ok-made.ensures.outcome.0 ∙ c.in-Ok.is) c.requires.keys)
