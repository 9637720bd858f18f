use Rattle.std.proofs.Common.{ℕ, ◌+◌, ◌++◌, List, [], ◌∷◌, drop, sym, ap, ◌∙◌}
use Rattle.std.proofs.lemmas.List.{at_drop_more}
use Rattle.std.specs.String.{string_bytes}
use Rattle.orc_template.specs.Values.{part_done, parts_done}
use Rattle.orc_template.specs.inside.Machine.{scene}
use Rattle.orc_template.specs.declared.strings.Part.{Part}
use Rattle.orc_template.proofs.Handed.{does_ok, does_on, does_so}
use Rattle.orc_template.proofs.filling.parts_text.Goals as goal

pub loop-part-preserved : goal.loop-part-preserved
loop-part-preserved g c =
    let l = c.loop-part in
    let sc = scene (g.V.DataView.viewed c.args.view.now) c.args.here.now in
    let ps = c.args.parts.now in
    let later = drop (l.part-index + 1) ps in
    let front = ap (λ (p : Part). parts_done sc (string_bytes l.text) (p ∷ later) l.reads.reads) c.part-item.is ∙ sym (at_drop_more (λ xs. parts_done sc (string_bytes l.text) xs l.reads.reads) ps l.part-index _ c.loop-part-test.true) ∙ l.invariant in
    ap (λ (t : List ℕ). parts_done sc t later c.part_text.new.reads.reads) c.in_ok-push_text.ensures
    ∙ sym (does_ok (part_done sc c.part-item.result l.reads.reads) (λ t. parts_done sc ((string_bytes l.text) ++ t) later) c.part_text.new.reads.reads c.in_ok-more.more c.in_ok-more.ensures) ∙ front

pub returns-in_err-more : goal.returns-in_err-more
returns-in_err-more g c =
    let l = c.loop-part in
    let sc = scene (g.V.DataView.viewed c.args.view.now) c.args.here.now in
    let ps = c.args.parts.now in
    let later = drop (l.part-index + 1) ps in
    let front = ap (λ (p : Part). parts_done sc (string_bytes l.text) (p ∷ later) l.reads.reads) c.part-item.is ∙ sym (at_drop_more (λ xs. parts_done sc (string_bytes l.text) xs l.reads.reads) ps l.part-index _ c.loop-part-test.true) ∙ l.invariant in
    does_so (parts_done sc (string_bytes l.text) (c.part-item.result ∷ later) l.reads.reads) (parts_done sc [] ps c.args.reads.now.reads) c.part_text.new.reads.reads c.from_residual.result front
    (does_on (part_done sc c.part-item.result l.reads.reads) (λ t. parts_done sc ((string_bytes l.text) ++ t) later) c.part_text.new.reads.reads c.from_residual.result c.in_err-more.field-0.0 c.from_residual.ensures.1 c.in_err-more.ensures)
