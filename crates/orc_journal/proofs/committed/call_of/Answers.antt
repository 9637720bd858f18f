use Rattle.std.proofs.Common.{◌≡◌, ◌+◌, ◌-◌, drop, None, sym, ap, subst, ◌∙◌, arith}
use Rattle.std.specs.Option.{option_copied}
use Rattle.orc_journal.specs.Committed.{call_of}
use Rattle.orc_journal.proofs.Newest.{found}
use Rattle.orc_journal.proofs.committed.call_of.Goals as goal

pub returns-in-Some : goal.returns-in-Some
returns-in-Some c =
    let at = c.loop-at.at in
    let so = c.loop-at.invariant in
    let e : (at - 1) + 1 ≡ at = omega (arith, c.loop-at-test.true) in
    sym (found c.args.t c.args.entries.now (at - 1) c.index-entries-at.result c.in-Some.call.now (omega (arith, so.within, c.loop-at-test.true)) c.index-entries-at.is
    (subst (λ k. call_of c.args.t (drop k c.args.entries.now) ≡ None) (sym e) so.none) (sym c.call_in.ensures ∙ ap option_copied c.in-Some.is))
