use Rattle.std.proofs.Common.{rules, ◌≡◌, ◌∙◌, List, subst}
use Rattle.std.proofs.lemmas.List.{take_all}
use Rattle.std.proofs.lemmas.Fn.{always_returns_same}
use Rattle.orc_call.specs.declared.call.Put.{Put}
use Rattle.orc_decls.specs.inside.Orders.{KeepsOrder}
use Rattle.orc_decls.proofs.PutOrder.{is_before, is_before_ranks, referred, sorted-keeps_referred}
use Rattle.orc_decls.proofs.base.in_order.Goals as goal

pub returns : goal.returns
returns c =
    let all : referred c.loop-put.order.items ≡ c.args.puts.now = c.loop-put.invariant ∙ take_all _ _ c.loop-put-test.false in
    subst (λ (puts : List Put). KeepsOrder puts (referred c.sort_by.new.self.items)) all
    (sorted-keeps_referred _ _ (c.sort_by.ensures.stable (λ one other. is_before one.now other.now) (is_before_ranks (λ put. put.now))
    (always_returns_same _ _ _ (λ a r f k. search rules))))
