use Rattle.std.proofs.Common.{inl, inr, refl, List, subst}
use Rattle.orc_rules.specs.Admissions.{without}
use Rattle.orc_rules.specs.declared.transaction.Transaction.{Transaction}
use Rattle.orc_rules.specs.declared.transaction.Waiting.{Waiting}
use Rattle.orc_hub.specs.Admits.{AdmitsOne}
use Rattle.orc_queue.specs.Queues.{IsFirstToFit, NoneToFit}
use Rattle.orc_hub.proofs.Admissions.{first_fits, none_fits}
use Rattle.orc_hub_parts.proofs.Places.{of_there}
use Rattle.orc_hub.proofs.hub.Hub.admit_first.Goals as goal

pub returns-in-None : goal.returns-in-None
returns-in-None g c =
    let hub = c.args.self.now in
    inl (
      none_fits hub.active hub.waiting
          (subst (λ (l : List Transaction). NoneToFit (λ (it : Transaction). it.plan.held) (λ (it : Waiting). it.plan.held) l hub.waiting) c.as_slice.ensures c.in-None.ensures),
      refl,
      refl,
    )

pub returns-in-Some : goal.returns-in-Some
returns-in-Some g c =
    let hub = c.args.self.now in
    let first = first_fits hub.active hub.waiting c.in-Some.place
    (subst (λ (l : List Transaction). IsFirstToFit (λ (it : Transaction). it.plan.held) (λ (it : Waiting). it.plan.held) l hub.waiting c.in-Some.place) c.as_slice.ensures c.in-Some.ensures) in
    inr (
      c.in-Some.place,
      first.it,
      first.fits.there,
      first,
      of_there hub.waiting c.in-Some.place first.it
          (λ (it : Waiting). AdmitsOne g.D.Disk.disk (record hub { waiting = without c.in-Some.place hub.waiting }) it c.admit_at.result c.admit_at.new.self) first.fits.there c.admit_at.ensures,
    )
