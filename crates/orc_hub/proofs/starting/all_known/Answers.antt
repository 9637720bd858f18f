use Rattle.std.proofs.Common.{◌≡◌, ℕ, List, [], ◌∷◌, ◌++◌, Option, map, sym, ap, ◌∙◌, arith}
use Rattle.std.specs.List.{range_with_len}
use Rattle.std.proofs.lemmas.List.FromFn.{map-range_with_len_more}
use Rattle.orc_call.specs.declared.answer.Why.{Why}
use Rattle.orc_hub.specs.Starts.{known_at_start}
use Rattle.orc_hub.proofs.starting.all_known.Goals as goal
use Rattle.orc_hub.proofs.starting.all_known.Goals.{then-fresh, else-fresh}

pub loop-place-preserved : goal.loop-place-preserved
loop-place-preserved c =
    let n = c.loop-place._place in
    let known : c.if-fresh.known ≡ known_at_start c.args.fresh =
    elim c.if-fresh.branch [ then-fresh w ↦ w.known-is ∙ ap known_at_start (sym w.if-fresh.true) | else-fresh w ↦ w.known-is ∙ ap known_at_start (sym w.if-fresh.false) ] in
    c.in_ok-push.ensures.ok
    ∙ ap (λ (l : List (Option Why)). l ++ c.if-fresh.known ∷ []) c.loop-place.invariant
    ∙ ap (λ (k : Option Why). map (λ (device : ℕ). known_at_start c.args.fresh) (range_with_len 0 n) ++ k ∷ []) known
    ∙ sym (map-range_with_len_more (λ (device : ℕ). known_at_start c.args.fresh) 0 n n (omega arith))
