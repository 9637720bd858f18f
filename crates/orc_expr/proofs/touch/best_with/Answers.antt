use Rattle.std.proofs.Common.{take, sym, subst, ◌∙◌}
use Rattle.orc_expr.specs.inside.Covering.{IsBest}
use Rattle.orc_expr.proofs.Touching.{best_passes, best_first, best_better, best_kept}
use Rattle.orc_expr.proofs.touch.best_with.Goals as goal

pub returns-then-not-write_touches_any : goal.returns-then-not-write_touches_any
returns-then-not-write_touches_any c =
    best_passes c.args.reads.now c.args.writes.now c.args.at c.index-writes-at.result c.requires.place c.index-writes-at.is
    c.args.best c.requires.best (sym c.write_touches_any.ensures ∙ c.if-not-write_touches_any.true)

pub returns-in-Less : goal.returns-in-Less
returns-in-Less c =
    best_better c.args.reads.now c.args.writes.now c.args.at c.index-writes-at.result c.requires.place c.index-writes-at.is
    c.in-Some.place (subst (IsBest c.args.reads.now (take c.args.at c.args.writes.now)) c.in-Some.is c.requires.best)
    c.index-writes-place.result c.index-writes-place.is (sym c.write_touches_any.ensures ∙ c.if-not-write_touches_any.false)
    (sym c.write_cmp.ensures ∙ c.in-Less.is)

pub returns-in_default : goal.returns-in_default
returns-in_default c =
    best_kept c.args.reads.now c.args.writes.now c.args.at c.index-writes-at.result c.requires.place c.index-writes-at.is
    c.in-Some.place (subst (IsBest c.args.reads.now (take c.args.at c.args.writes.now)) c.in-Some.is c.requires.best)
    c.index-writes-place.result c.index-writes-place.is (λ less. c.in_default.not-Less (c.write_cmp.ensures ∙ less))

pub returns-in-None : goal.returns-in-None
returns-in-None c =
    best_first c.args.reads.now c.args.writes.now c.args.at c.index-writes-at.result c.requires.place c.index-writes-at.is
    (subst (IsBest c.args.reads.now (take c.args.at c.args.writes.now)) c.in-None.is c.requires.best)
    (sym c.write_touches_any.ensures ∙ c.if-not-write_touches_any.false)
