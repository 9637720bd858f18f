use Rattle.std.proofs.Common.{ℕ, ◌+◌, List, ◌∷◌, ◌++◌, drop, sym, ap, ◌∙◌, append_assoc}
use Rattle.std.specs.FinMap.{entries}
use Rattle.std.proofs.lemmas.List.{at_drop_more}
use Rattle.orc_path.specs.Configurations.{Config}
use Rattle.orc_call.specs.declared.call.Put.{Put}
use Rattle.orc_template.specs.Expansions.{device_part, device_parts}
use Rattle.orc_template.proofs.expansion.Expansion.gathered.Goals as goal

pub loop-tree-preserved : goal.loop-tree-preserved
loop-tree-preserved c =
    let l = c.loop-tree in
    let xs = c.args.written.now in
    let later = drop (l.tree-index + 1) xs in
    let part = device_part l.number (entries c.tree-item.result) in
    let front = ap (λ (t : Config). l.parts ++ device_parts l.number (t ∷ later)) c.tree-item.is ∙ sym (at_drop_more (λ ts. l.parts ++ device_parts l.number ts) xs l.tree-index _ c.loop-tree-test.true) ∙ l.invariant in
    ap (λ (n : ℕ). c.push_part.new.parts ++ device_parts n later) c.in_ok-number.ensures
    ∙ ap (λ (ps : List (ℕ × List Put)). ps ++ device_parts (l.number + 1) later) c.in_ok-push_part.ensures
    ∙ append_assoc l.parts part (device_parts (l.number + 1) later) ∙ front
