use Rattle.std.proofs.Common.{◌≡◌, ◌+◌, Some, refl, sym, ap, ◌∙◌}
use Rattle.std.proofs.lemmas.Option.{get_or_from_slice_get}
use Rattle.orc_hub.specs.Submits.AnswersAgain.{again, reused}
use Rattle.orc_state.proofs.Equality.{call_eq_decides}
use Rattle.orc_hub.proofs.submitting.answer_at.Goals as goal

pub returns-then-eq : goal.returns-then-eq
returns-then-eq c =
    let here = c.index-history-place.result in
    let entry : here ≡ c.requires.0 = c.index-history-place.is ∙ get_or_from_slice_get c.args.history.now c.args.place c.requires.0 here c.requires.1 in
    let same = (call_eq_decides here c.args.call.now).0 (sym c.eq.ensures ∙ c.if-eq.true) in
    again (c.args.place + 1) (record { index = c.args.place; counted = refl; there = c.requires.1 ∙ ap Some (sym entry ∙ same) })

pub returns : goal.returns
returns c =
    let here = c.index-history-place.result in
    let entry : here ≡ c.requires.0 = c.index-history-place.is ∙ get_or_from_slice_get c.args.history.now c.args.place c.requires.0 here c.requires.1 in
    reused (c.args.place + 1) c.requires.0 (record { index = c.args.place; counted = refl; there = c.requires.1 }) c.requires.2
    (λ e. let t = (call_eq_decides here c.args.call.now).1 (entry ∙ e) in absurd (cc (c.eq.ensures, t, c.if-eq.false)))
