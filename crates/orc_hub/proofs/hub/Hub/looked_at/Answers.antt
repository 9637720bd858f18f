use Rattle.std.proofs.Common.{inr, Ok, sym, subst, ◌∙◌}
use Rattle.orc_rules.specs.Fits.{first_stale}
use Rattle.orc_state.specs.Checks.{Checks}
use Rattle.orc_hub.proofs.Checked.{passed}
use Rattle.orc_hub.proofs.hub.Hub.looked_at.Goals as goal

pub returns-in-Some-clause-refused : goal.returns-in-Some-clause-refused
returns-in-Some-clause-refused g c =
    let hub = c.args.self.now in
    let it = c.args.it.now in
    inr (inr (
      c.in-Ok-Ok.sets,
      passed hub.decls hub.state.history it.call it.plan (Ok c.in-Ok-Ok.sets)
          (subst (λ r. Checks hub.decls hub.state.history it.call it.plan r) c.in-Ok-Ok.field-0-is c.in-Ok-Ok.ensures),
      sym (c.first_stale.ensures ∙ (λ i. first_stale (c.as_slice-devices.ensures i) (c.as_slice.ensures i))) ∙ c.in-Some.is,
    ))

pub returns-in-None-clause-passes : goal.returns-in-None-clause-passes
returns-in-None-clause-passes g c =
    let hub = c.args.self.now in
    let it = c.args.it.now in
    passed hub.decls hub.state.history it.call it.plan (Ok c.in-Ok-Ok.sets)
    (subst (λ r. Checks hub.decls hub.state.history it.call it.plan r) c.in-Ok-Ok.field-0-is c.in-Ok-Ok.ensures)
