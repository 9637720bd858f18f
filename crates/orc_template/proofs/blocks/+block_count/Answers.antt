use Rattle.std.proofs.Common.{◌+◌, ◌∷◌, drop, sym, ap, ◌∙◌, arith}
use Rattle.std.proofs.lemmas.List.{at_drop_more}
use Rattle.serde_json.specs.View.{items_view}
use Rattle.serde_json.specs.declared.value.Value.{Value}
use Rattle.orc_template.specs.Blocks.{blocks_of, block_count}
use Rattle.orc_template.proofs.blocks.+block_count.Goals as goal

pub loop-block-preserved : goal.loop-block-preserved
loop-block-preserved t c =
    let l = c.loop-block in
    let xs = c.args.blocks.now in
    let later = drop (l.block-index + 1) xs in
    let front = ap (λ (x : Value). l.count + block_count (blocks_of (items_view (x ∷ later)))) c.block-item.is
    ∙ sym (at_drop_more (λ vs. l.count + block_count (blocks_of (items_view vs))) xs l.block-index _ c.loop-block-test.true) ∙ l.invariant in
    let inside = c.in_ok-block_count.ensures ∙ ap block_count c.blocks_inside.ensures in
    omega (arith, front, inside, c.in_ok-count.ensures)
