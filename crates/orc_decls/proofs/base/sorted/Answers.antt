use Rattle.std.proofs.Common.{rules, ◌≡◌, ◌==◌, length, true}
use Rattle.std.proofs.lemmas.Fn.{always_returns_same}
use Rattle.orc_decls.proofs.PutOrder.{is_before, is_before_ranks, sorted-keeps, KeepsOrder-then, KeepsOrder-ended}
use Rattle.orc_decls.proofs.base.sorted.Goals as goal

pub returns : goal.returns
returns c =
    let sorted = c.loop-rest.sorted.items in
    let rest = c.loop-rest.rest.now in
    let ended : (length rest == 0) ≡ true = search rules in
    KeepsOrder-then c.args.puts.now sorted c.sort_by.new.self.items
    (KeepsOrder-ended c.args.puts.now sorted rest ended c.loop-rest.invariant)
    (sorted-keeps sorted c.sort_by.new.self.items
    (c.sort_by.ensures.stable is_before (is_before_ranks (λ put. put)) (always_returns_same _ _ _ (λ a r f k. search rules))))
