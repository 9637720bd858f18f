use Rattle.std.proofs.Common.{◌≡◌, sym, ◌∙◌}
use Rattle.orc_state.proofs.Repeats.{is_again, is_reused}
use Rattle.orc_state.proofs.Equality.{call_eq_decides}
use Rattle.orc_state.proofs.replay.answer_at.Goals as goal

pub returns-then-eq : goal.returns-then-eq
returns-then-eq c = λ decls.
    let same = (call_eq_decides c.index-history-place.result c.args.call.now).0 (sym c.eq.ensures ∙ c.if-eq.true) in
    is_again decls c.args.history.now c.args.call.now c.args.place c.requires.0 c.index-history-place.result c.requires.1 c.index-history-place.is same

pub returns : goal.returns
returns c = λ decls.
    let other = λ (e : c.index-history-place.result ≡ c.args.call.now).
    let t = (call_eq_decides c.index-history-place.result c.args.call.now).1 e in
    absurd (cc (c.eq.ensures, t, c.if-eq.false)) in
    is_reused decls c.args.history.now c.args.call.now c.args.place c.requires.0 c.index-history-place.result c.requires.1 c.index-history-place.is c.requires.2 other
