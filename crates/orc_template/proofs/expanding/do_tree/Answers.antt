use Rattle.std.proofs.Common.{List, [], subst}
use Rattle.serde_json.specs.View.{view}
use Rattle.orc_path.specs.Steps.{PathStep}
use Rattle.orc_expr.specs.declared.read.ReadSet.{ReadSet}
use Rattle.orc_template.specs.Writing.{object_done, Writes}
use Rattle.orc_template.specs.inside.Machine.{scene}
use Rattle.orc_template.specs.inside.Expanding.{expanding_of}
use Rattle.orc_template.proofs.Placing.{tree_done}
use Rattle.orc_template.proofs.expanding.do_tree.Goals as goal

pub returns : goal.returns
returns g c =
    let sc = scene (g.V.DataView.viewed c.args.view.now) c.args.here.now in
    let s = c.args.schema.now in
    let config = view c.args.config.now in
    let tree = c.swapped-tree.result in
    let new = c.do_object-done.new.writing in
    let r = c.do_object-done.result in
    let at_root = subst (λ (p : List PathStep). Writes (object_done sc s [] p config (record { tree = tree; reads = c.replace-reads.result })) new r) c.new-3.ensures c.do_object-done.ensures in
    let all_reads = subst (λ (rs : ReadSet). Writes (object_done sc s [] [] config (record { tree = tree; reads = rs })) new r) c.replace-reads.ensures.value at_root in
    tree_done sc c.args.number config s (expanding_of c.args.expanding.now) tree c.new.result new c.swapped-tree.new.trees.items c.swapped-empty.new.trees.items r
    c.swapped-tree.ensures.taken c.swapped-tree.ensures.put c.swapped-empty.ensures.put all_reads
