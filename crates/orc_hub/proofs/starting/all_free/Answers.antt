use Rattle.std.proofs.Common.{ℕ, List, [], ◌∷◌, ◌++◌, sym, ap, ◌∙◌, arith}
use Rattle.std.proofs.lemmas.List.FromFn.{map-range_with_len_more}
use Rattle.orc_rules.specs.declared.duty.Duty.{Duty}
use Rattle.orc_rules.specs.declared.duty.Duty.TheVariants.{Free}
use Rattle.orc_hub.proofs.starting.all_free.Goals as goal

pub loop-place-preserved : goal.loop-place-preserved
loop-place-preserved c =
    let n = c.loop-place._place in
    c.in_ok-push.ensures.ok
    ∙ ap (λ (l : List Duty). l ++ Free ∷ []) c.loop-place.invariant
    ∙ sym (map-range_with_len_more (λ (device : ℕ). Free) 0 n n (omega arith))
