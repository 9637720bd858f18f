use Rattle.std.proofs.Common.{◌≤◌, ℕ, sym, subst, ◌∙◌}
use Rattle.orc_hub_parts.proofs.Numbering.{least_free}
use Rattle.orc_hub_parts.proofs.numbers.Numbers.least.Goals as goal

pub returns-then-not-contains : goal.returns-then-not-contains
returns-then-not-contains c =
    least_free c.args.self.now c.loop-t.t-counter (subst (λ (n : ℕ). n ≤ c.loop-t.t-counter) c.max-t-counter.ensures c.loop-t.auto.t-counter)
    c.loop-t-test.true (sym c.contains.ensures ∙ c.if-not-contains.true) c.loop-t.invariant
