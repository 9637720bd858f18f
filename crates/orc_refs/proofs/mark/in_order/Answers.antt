use Rattle.std.proofs.Common.{rules}
use Rattle.std.proofs.lemmas.Fn.{always_returns_same}
use Rattle.orc_refs.proofs.MarkLaws.{is_before, is_before_ranks, sorted-keeps}
use Rattle.orc_refs.proofs.mark.in_order.Goals as goal

pub returns-clause-order : goal.returns-clause-order
returns-clause-order c = sorted-keeps _ _ (c.sort_by.ensures.stable is_before is_before_ranks (always_returns_same _ _ _ (λ a r f k. search rules)))

pub returns-clause-sorted : goal.returns-clause-sorted
returns-clause-sorted c = c.in_ok-sort_by.ensures.sorted is_before is_before_ranks (always_returns_same _ _ _ (λ a r f k. search rules))
