use Rattle.std.proofs.Common.{ℕ, List, [], ◌∷◌, ◌++◌, sym, ap, ◌∙◌, arith}
use Rattle.std.proofs.lemmas.List.FromFn.{map-range_with_len_more}
use Rattle.orc_device.specs.declared.reply.Logged.{Logged}
use Rattle.orc_links.proofs.opening.empty_logs.Goals as goal

abbrev none_yet : ℕ → List Logged
none_yet device = []

pub loop-place-preserved : goal.loop-place-preserved
loop-place-preserved c =
    let n = c.loop-place._place in
    c.in_ok-push.ensures.ok
    ∙ ap (λ (x : List Logged). c.loop-place.logs ++ x ∷ []) c.new.ensures
    ∙ ap (λ (l : List (List Logged)). l ++ [] ∷ []) c.loop-place.invariant
    ∙ sym (map-range_with_len_more none_yet 0 n n (omega arith))
