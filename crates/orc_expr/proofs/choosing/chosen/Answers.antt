use Rattle.std.proofs.Common.{◌≡◌, List, [], ◌∷◌, ◌++◌, sym, ap, ap₂, ◌∙◌, rules}
use Rattle.std.specs.Vec.Iter.{into_iter_items}
use Rattle.orc_expr.specs.Looks.{chosen}
use Rattle.orc_expr.specs.inside.Chosen.{chosen_behind}
use Rattle.orc_expr.specs.inside.Lists.{only_of}
use Rattle.orc_expr.specs.declared.choosing.Only.TheVariants as only
use Rattle.orc_expr.specs.declared.step.Asked.{Asked}
use Rattle.orc_expr.proofs.Choices.{chosen_first, chosen_more}
use Rattle.orc_expr.proofs.choosing.chosen.Goals as goal

pub loop-next-init : goal.loop-next-init
loop-next-init c =
    let rest : into_iter_items c.into_iter-next-iterator.result ≡ c.args.asked = search rules in
    ap₂ (λ k r. chosen_behind k r (chosen (into_iter_items c.into_iter-next-iterator.result))) c.new-keys.ensures c.new-reads.ensures
    ∙ chosen_first (chosen (into_iter_items c.into_iter-next-iterator.result)) ∙ ap chosen rest

pub loop-next-preserved : goal.loop-next-preserved
loop-next-preserved c =
    let l = c.loop-next in
    let text = c.in-One.text in
    let next = c.in-Some.next in
    let later = into_iter_items c.next.new.self in
    let rest : into_iter_items l.next-iterator ≡ next ∷ later = search rules in
    let keys_are : c.push.new.self ≡ l.keys ++ text ∷ [] = search rules in
    let reads_are : c.only_given.new.reads ≡ l.reads ++ next.given.reads = search rules in
    let one : only_of next.given.found ≡ only.One text = search rules in
    ap₂ (λ k r. chosen_behind k r (chosen later)) keys_are reads_are
    ∙ sym (chosen_more l.keys l.reads next later text one)
    ∙ ap (λ (asked : List Asked). chosen_behind l.keys l.reads (chosen asked)) (sym rest) ∙ l.invariant
