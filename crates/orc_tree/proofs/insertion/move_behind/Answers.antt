use Rattle.std.proofs.Common.{◌++◌, ◌∙◌}
use Rattle.std.proofs.lemmas.List.{take-append-drop}
use Rattle.orc_tree.proofs.insertion.move_behind.Goals as goal

pub returns-clause-ok : goal.returns-clause-ok
returns-clause-ok c =
    (λ i. (c.from_vec.ensures ∙ c.in_ok-moved.ensures.items) i ++ (c.from_vec-2.ensures ∙ c.in_ok-moved.ensures.tail) i)
    ∙ take-append-drop 6 c.into_vec-rows.result.items ∙ c.into_vec-rows.ensures ∙ c.replace.ensures.value
