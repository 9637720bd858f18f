use Rattle.std.proofs.Common.{◌∙◌, List, Bool, ap, length}
use Rattle.std.specs.List.{filter, range_with_len}
use Rattle.std.proofs.lemmas.Result.{IfOk-weaker}
use Rattle.orc_datastore.specs.Touched.{is_touched_among}
use Rattle.orc_datastore.specs.inside.Marks.{is_marked}
use Rattle.orc_datastore.proofs.Touching.{numbers_so}
use Rattle.orc_datastore.proofs.touched.touched_among.Goals as goal

pub returns : goal.returns
returns c =
    let names = c.args.decls.now.names in
    IfOk-weaker c.marked.result _ _
    (λ devices is.
    is ∙ ap (λ (l : List Bool). filter (is_marked l) (range_with_len 0 (length l))) c.as_slice.ensures.value
    ∙ numbers_so (is_touched_among names c.args.state.now c.args.actions.now) (length names) c.in_ok-marks.marks.items c.in_ok-marks.ensures.len
    c.in_ok-marks.ensures.each)
    c.marked.ensures
