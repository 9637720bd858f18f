use Rattle.std.proofs.Common.{◌≡◌, ℕ, ◌+◌, Bool, List, ◌∷◌, Ok, Err, codes, drop, sym, ap, ◌∙◌, arith}
use Rattle.std.specs.Option.{option_and_then}
use Rattle.std.proofs.lemmas.List.{at_drop_more}
use Rattle.serde_json.specs.View.{view, items_view}
use Rattle.serde_json.specs.declared.value.Value.{Value}
use Rattle.orc_path.specs.Steps.{PathStep}
use Rattle.orc_expr.specs.Parts.{expression_of}
use Rattle.orc_expr.specs.Looks.{nodes_of}
use Rattle.orc_template.specs.Blocks.{blocks_of, blocks_inside, block_count, text_of_member}
use Rattle.orc_template.specs.Expansions.{met_by, nodes_expanded, each_expanded, blocks_expanded}
use Rattle.orc_template.specs.inside.Machine.{the_readers, ground}
use Rattle.orc_template.specs.inside.Expanding.{expanding_of, inner, node_in, each_in, block_in}
use Rattle.orc_template.proofs.Handed.{expands_so, expanded_more, expands_whole}
use Rattle.orc_template.proofs.Forms.{mapped_some, mapped_none}
use Rattle.orc_template.proofs.Fors.{nodes_found}
use Rattle.orc_template.proofs.Whens.{when_told, when_fails, node_stops, node_ends}
use Rattle.orc_template.proofs.Moved.{front_count, block_behind, count_more}
use Rattle.orc_template.proofs.expanding.+blocks.Goals as goal

pub do_node-returns-in_err-holds : goal.do_node-returns-in_err-holds
do_node-returns-in_err-holds g t c =
    let gr = ground (g.V.DataView.viewed c.args.view.now) c.args.devices.now in
    let d = view c.args.block.now in
    when_fails gr c.args.number d (inner gr c.args.number d) c.args.here.now (expanding_of c.args.expanding.now) c.holds_at.new.reads.reads c.from_residual.result c.in_err-holds.field-0.0 c.from_residual.ensures.1
    c.in_err-holds.ensures

pub do_node-returns-in_err-target_at : goal.do_node-returns-in_err-target_at
do_node-returns-in_err-target_at g t c =
    let gr = ground (g.V.DataView.viewed c.args.view.now) c.args.devices.now in
    let n = c.args.number in
    let d = view c.args.block.now in
    let here = c.args.here.now in
    let old = expanding_of c.args.expanding.now in
    let reads = c.holds_at.new.reads.reads in
    let told = when_told gr n d (inner gr n d) here old reads c.in_ok-holds.holds c.in_ok-holds.ensures ∙ ap (λ (b : Bool). met_by gr n d (inner gr n d) here (Ok b) (record { written = old.written; reads = reads })) c.if-not-holds.false in
    node_stops gr n d here old (record { written = old.written; reads = reads }) told (expanding_of c.target_at.new.expanding) (expanding_of c.target_at.new.expanding) c.from_residual-in_err-target_at.result c.in_err-target_at.field-0.0
    c.from_residual-in_err-target_at.ensures.1 c.in_err-target_at.ensures

pub do_node-returns : goal.do_node-returns
do_node-returns g t c =
    let gr = ground (g.V.DataView.viewed c.args.view.now) c.args.devices.now in
    let n = c.args.number in
    let d = view c.args.block.now in
    let here = c.args.here.now in
    let old = expanding_of c.args.expanding.now in
    let reads = c.holds_at.new.reads.reads in
    let told = when_told gr n d (inner gr n d) here old reads c.in_ok-holds.holds c.in_ok-holds.ensures ∙ ap (λ (b : Bool). met_by gr n d (inner gr n d) here (Ok b) (record { written = old.written; reads = reads })) c.if-not-holds.false in
    node_ends gr n d here old (record { written = old.written; reads = reads }) told (expanding_of c.target_at.new.expanding) (expanding_of c.do_blocks.new.expanding) c.in_ok-number_behind.field-0
    (blocks_of (items_view c.blocks_inside.result.now)) c.do_blocks.result c.in_ok-target_at.ensures c.in_ok-number_behind.ensures c.blocks_inside.ensures c.do_blocks.ensures

pub do_each-returns-in_err-do_node : goal.do_each-returns-in_err-do_node
do_each-returns-in_err-do_node g t c =
    let l = c.loop-node in
    let gr = ground (g.V.DataView.viewed c.args.view.now) c.args.devices.now in
    let n = c.args.number in
    let d = view c.args.block.now in
    let xs = c.as_slice-node-items.result.now in
    let later = drop (l.node-index + 1) xs in
    let e = expanding_of l.expanding in
    let rest = λ (ps : List (List PathStep)). nodes_expanded gr n d (inner gr n d) ps e in
    let front = ap (λ (x : List PathStep). rest (x ∷ later)) c.node-item.is ∙ sym (at_drop_more rest xs l.node-index _ c.loop-node-test.true) ∙ l.invariant in
    expands_whole (node_in gr n d c.node-item.result e) (nodes_expanded gr n d (inner gr n d) later) (expanding_of c.do_node.new.expanding)
    (each_in gr c.args.here.now n d (expression_of c.args.each.now) (expanding_of c.args.expanding.now)) c.from_residual.result c.in_err-do_node.field-0.0 front c.from_residual.ensures.1 c.in_err-do_node.ensures

pub do_each-loop-node-preserved : goal.do_each-loop-node-preserved
do_each-loop-node-preserved g t c =
    let l = c.loop-node in
    let gr = ground (g.V.DataView.viewed c.args.view.now) c.args.devices.now in
    let n = c.args.number in
    let d = view c.args.block.now in
    let xs = c.as_slice-node-items.result.now in
    let later = drop (l.node-index + 1) xs in
    let e = expanding_of l.expanding in
    let rest = λ (ps : List (List PathStep)). nodes_expanded gr n d (inner gr n d) ps e in
    let front = ap (λ (x : List PathStep). rest (x ∷ later)) c.node-item.is ∙ sym (at_drop_more rest xs l.node-index _ c.loop-node-test.true) ∙ l.invariant in
    expanded_more (node_in gr n d c.node-item.result e) (nodes_expanded gr n d (inner gr n d) later) (expanding_of c.do_node.new.expanding)
    (each_in gr c.args.here.now n d (expression_of c.args.each.now) (expanding_of c.args.expanding.now)) tt front c.in_ok-do_node.ensures

pub do_blocks-loop-at-init : goal.do_blocks-loop-at-init
do_blocks-loop-at-init g t c =
    let gr = ground (g.V.DataView.viewed c.args.view.now) c.args.devices.now in
    let first : c.args.first + 0 ≡ c.args.first = omega arith in
    ap (λ (n : ℕ). blocks_expanded gr c.args.here.now n (blocks_of (items_view c.args.blocks.now)) (expanding_of c.args.expanding.now)) first

pub do_blocks-returns-in_err-behind : goal.do_blocks-returns-in_err-behind
do_blocks-returns-in_err-behind g t c =
    let l = c.loop-at in
    let gr = ground (g.V.DataView.viewed c.args.view.now) c.args.devices.now in
    let here = c.args.here.now in
    let xs = c.args.blocks.now in
    let later = drop (l.at + 1) xs in
    let e = expanding_of l.expanding in
    let d = view c.index-blocks-at.result in
    let k = front_count xs l.at in
    let n = c.args.first + k in
    let rest = λ (vs : List Value). blocks_expanded gr here n (blocks_of (items_view vs)) e in
    let front = ap (λ (x : Value). rest (x ∷ later)) c.index-blocks-at.is ∙ sym (at_drop_more rest xs l.at _ c.loop-at-test.true) ∙ l.invariant in
    let did = block_behind gr k c.args.first d here e (expanding_of c.do_block-answer.new.expanding) c.do_block-answer.result (Err c.in_err-behind.field-0.0) c.do_block-answer.ensures c.in_err-behind.ensures in
    expands_whole (block_in gr here n d e) (blocks_expanded gr here (n + 1 + block_count (blocks_inside d)) (blocks_of (items_view later))) (expanding_of c.do_block-answer.new.expanding)
    (blocks_expanded gr here c.args.first (blocks_of (items_view xs)) (expanding_of c.args.expanding.now)) c.from_residual.result c.in_err-behind.field-0.0 front c.from_residual.ensures.1 did

pub do_blocks-loop-at-preserved : goal.do_blocks-loop-at-preserved
do_blocks-loop-at-preserved g t c =
    let l = c.loop-at in
    let gr = ground (g.V.DataView.viewed c.args.view.now) c.args.devices.now in
    let here = c.args.here.now in
    let xs = c.args.blocks.now in
    let later = drop (l.at + 1) xs in
    let e = expanding_of l.expanding in
    let new = expanding_of c.do_block-answer.new.expanding in
    let d = view c.index-blocks-at.result in
    let k = front_count xs l.at in
    let n = c.args.first + k in
    let rest = λ (vs : List Value). blocks_expanded gr here n (blocks_of (items_view vs)) e in
    let front = ap (λ (x : Value). rest (x ∷ later)) c.index-blocks-at.is ∙ sym (at_drop_more rest xs l.at _ c.loop-at-test.true) ∙ l.invariant in
    let did = block_behind gr k c.args.first d here e new c.do_block-answer.result (Ok tt) c.do_block-answer.ensures c.in_ok-behind.ensures in
    let counted = count_more xs l.at c.index-blocks-at.result _ c.loop-at-test.true c.index-blocks-at.is in
    let number : c.args.first + front_count xs (l.at + 1) ≡ n + 1 + block_count (blocks_inside d) = omega (arith, counted) in
    ap (λ (m : ℕ). blocks_expanded gr here m (blocks_of (items_view later)) new) number
    ∙ expanded_more (block_in gr here n d e) (blocks_expanded gr here (n + 1 + block_count (blocks_inside d)) (blocks_of (items_view later))) new
    (blocks_expanded gr here c.args.first (blocks_of (items_view xs)) (expanding_of c.args.expanding.now)) tt front did

pub do_each-loop-node-init : goal.do_each-loop-node-init
do_each-loop-node-init g t c =
    let gr = ground (g.V.DataView.viewed c.args.view.now) c.args.devices.now in
    let n = c.args.number in
    let d = view c.args.block.now in
    let look = nodes_of (expression_of c.args.each.now) c.args.here.now gr.view in
    let e = expanding_of c.args.expanding.now in
    ap (λ (ps : List (List PathStep)). nodes_expanded gr n d (inner gr n d) ps (record { written = e.written; reads = c.nodes.new.reads.reads })) c.as_slice-node-items.ensures.value
    ∙ nodes_found gr n d (inner gr n d) look.found look.reads e c.nodes.new.reads.reads c.in-Ok.ensures.answer.1 c.in-Ok.nodes.items c.in-Ok.ensures.answer.0

pub do_block-returns-in-Some : goal.do_block-returns-in-Some
do_block-returns-in-Some g t c =
    let gr = ground (g.V.DataView.viewed c.args.view.now) c.args.devices.now in
    let n = c.args.number in
    let d = view c.args.block.now in
    let here = c.args.here.now in
    let e = expanding_of c.args.expanding.now in
    let found = mapped_some expression_of c.in_ok-each.each (option_and_then the_readers.expression (text_of_member (codes "for") d)) c.in-Some.each c.in_ok-each.ensures c.in-Some.is in
    expands_so (each_in gr here n d (expression_of c.in-Some.each) e) (block_in gr here n d e) (expanding_of c.do_each.new.expanding) c.do_each.result
    (sym (ap (λ o. each_expanded gr here n d (inner gr n d) o e) found)) c.do_each.ensures

pub do_block-returns-in-None : goal.do_block-returns-in-None
do_block-returns-in-None g t c =
    let gr = ground (g.V.DataView.viewed c.args.view.now) c.args.devices.now in
    let n = c.args.number in
    let d = view c.args.block.now in
    let here = c.args.here.now in
    let e = expanding_of c.args.expanding.now in
    let found = mapped_none expression_of c.in_ok-each.each (option_and_then the_readers.expression (text_of_member (codes "for") d)) c.in_ok-each.ensures c.in-None.is in
    expands_so (node_in gr n d here e) (block_in gr here n d e) (expanding_of c.do_node.new.expanding) c.do_node.result
    (sym (ap (λ o. each_expanded gr here n d (inner gr n d) o e) found)) c.do_node.ensures
