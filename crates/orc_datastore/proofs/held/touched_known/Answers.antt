use Rattle.std.proofs.Common.{◌≡◌, ◌∙◌, ◌||◌, ℕ, List, Bool, ap, length, arith}
use Rattle.std.specs.List.{filter, list_any, range_with_len}
use Rattle.std.proofs.lemmas.Result.{IfOk-weaker}
use Rattle.orc_decls.specs.Devices.{name_of}
use Rattle.orc_datastore.specs.Touched.{touches_device}
use Rattle.orc_datastore.specs.inside.Marks.{is_marked}
use Rattle.orc_datastore.specs.inside.Sights.{knows_device}
use Rattle.orc_datastore.proofs.Touching.{numbers_so}
use Rattle.orc_datastore.proofs.held.touched_known.Goals as goal

pub returns : goal.returns
returns c =
    let names = c.args.decls.now.names in
    let test : ℕ → Bool = λ d. list_any (touches_device (name_of names d) (knows_device c.args.known.now) d) c.args.actions.now in
    let count : length c.in_ok-marks.marks.items ≡ length names = c.in_ok-marks.ensures.len ∙ ap (λ (l : List (List ℕ)). length l) c.names.ensures.names in
    IfOk-weaker c.marked.result _ _
    (λ devices is.
    is ∙ ap (λ (l : List Bool). filter (is_marked l) (range_with_len 0 (length l))) c.as_slice.ensures.value
    ∙ numbers_so test (length names) c.mark_all.new.marks.items (c.in_ok-mark_all.ensures.len ∙ count)
    (λ d lt. c.in_ok-mark_all.ensures.each d (omega (arith, lt, count)) ∙ ap (λ t. t || test d) (c.in_ok-marks.ensures.none d)))
    c.marked.ensures
