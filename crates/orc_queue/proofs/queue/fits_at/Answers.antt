use Rattle.std.proofs.lemmas.Option.{slice_get-get_or}
use Rattle.std.proofs.Common.{◌≡◌, get_or, ◌∙◌, All, IsTrue, ◌↔◌, List, MatchOption, Option, Some, slice_get, sym, ap, subst, take, ℕ}
use Rattle.std.proofs.lemmas.Bool.{false≢true}
use Rattle.orc_queue.specs.Fitting.{FitTogether}
use Rattle.orc_queue.specs.declared.held.Held.{Held}
use Rattle.orc_queue.specs.Queues.{FitsAt}
use Rattle.orc_queue.proofs.queue.fits_at.Goals as goal

-- what holds of the element holds where it stands
at_there : {X : Type 0} (xs : List X) (place : ℕ) (x : X) (P : X → Type 0) → slice_get xs place ≡ Some x → P x → MatchOption (slice_get xs place) ⊥ P
at_there {X} xs place x P is p = subst (λ (o : Option X). MatchOption o ⊥ P) (sym is) p

pub returns-then-fits_all : goal.returns-then-fits_all
returns-then-fits_all g c =
    let it = get_or c.args.waiting.now c.args.place c.index-waiting-place.result in
    let is = slice_get-get_or c.args.waiting.now c.args.place c.index-waiting-place.result c.requires in
    let held : c.held-held.result.now ≡ g.W.Holds.held it = c.held-held.ensures ∙ ap g.W.Holds.held c.index-waiting-place.is in
    at_there c.args.waiting.now c.args.place it (λ one. IsTrue c.fits_all-then-fits_all.result ↔ FitsAt g.A.Holds.held g.W.Holds.held c.args.active.now c.args.waiting.now c.args.place one) is (
      λ h. record {
        there = is;
        active_ones = subst (λ (x : Held). All (λ other. FitTogether x (g.A.Holds.held other)) c.args.active.now) held (c.fits_all.ensures.0 c.if-fits_all.true);
        earlier_ones = subst (λ (x : Held). All (λ other. FitTogether x (g.W.Holds.held other)) (take c.args.place c.args.waiting.now)) held (c.fits_all-then-fits_all.ensures.0 h);
      },
      λ f. c.fits_all-then-fits_all.ensures.1 (subst (λ (x : Held). All (λ other. FitTogether x (g.W.Holds.held other)) (take c.args.place c.args.waiting.now)) (sym held) f.earlier_ones),
    )

pub returns-else-fits_all : goal.returns-else-fits_all
returns-else-fits_all g c =
    let it = get_or c.args.waiting.now c.args.place c.index-waiting-place.result in
    let held : c.held-held.result.now ≡ g.W.Holds.held it = c.held-held.ensures ∙ ap g.W.Holds.held c.index-waiting-place.is in
    at_there c.args.waiting.now c.args.place it (λ one. IsTrue c.fits_all.result ↔ FitsAt g.A.Holds.held g.W.Holds.held c.args.active.now c.args.waiting.now c.args.place one)
    (slice_get-get_or c.args.waiting.now c.args.place c.index-waiting-place.result c.requires)
    (λ h. absurd (false≢true (sym c.if-fits_all.false ∙ h)), λ f. c.fits_all.ensures.1 (subst (λ (x : Held). All (λ other. FitTogether x (g.A.Holds.held other)) c.args.active.now) (sym held) f.active_ones))
