use Rattle.std.proofs.Common.{◌≡◌, ℕ, List, subst}
use Rattle.std.specs.Prelude.{MatchOption, slice_get}
use Rattle.orc_rules.specs.declared.transaction.Transaction.{Transaction}
use Rattle.orc_rules.specs.declared.transaction.Waiting.{Waiting}
use Rattle.orc_queue.specs.Queues.{IsFirstToFit, NoneToFit}
use Rattle.orc_hub.proofs.Admissions.{first_fits, none_fits}
use Rattle.orc_hub_parts.proofs.Places.{of_there}
use Rattle.orc_hub.proofs.hub.Hub.next_to_admit.Goals as goal

pub returns-in-None : goal.returns-in-None
returns-in-None g c =
    let hub = c.args.self.now in
    none_fits hub.active hub.waiting
    (subst (λ (l : List Transaction). NoneToFit (λ (it : Transaction). it.plan.held) (λ (it : Waiting). it.plan.held) l hub.waiting) c.as_slice.ensures c.in-None.ensures)

pub returns-in-Some : goal.returns-in-Some
returns-in-Some g c =
    let hub = c.args.self.now in
    let first = first_fits hub.active hub.waiting c.in-Some.place
    (subst (λ (l : List Transaction). IsFirstToFit (λ (it : Transaction). it.plan.held) (λ (it : Waiting). it.plan.held) l hub.waiting c.in-Some.place) c.as_slice.ensures c.in-Some.ensures) in
    let number = subst (λ (l : List Waiting). MatchOption (slice_get l c.in-Some.place) ⊥ (λ (it : Waiting). it.t ≡ c.number_at.result)) c.as_slice-in-Some.ensures c.number_at.ensures in
    record {
      place = c.in-Some.place;
      it = first.it;
      there = first.fits.there;
      first = first;
      number = of_there hub.waiting c.in-Some.place first.it (λ (it : Waiting). it.t ≡ c.number_at.result) first.fits.there number;
    }
