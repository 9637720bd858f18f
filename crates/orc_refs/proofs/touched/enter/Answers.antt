use Rattle.std.proofs.Common.{◌<◌, length, refl, subst, ◌∙◌}
use Rattle.std.proofs.lemmas.List.{length-map}
use Rattle.orc_tree.specs.Rows.{IsRowOf, IsPlaceOf}
use Rattle.orc_refs.specs.inside.Marks.{LentRows, by_path, read_one}
use Rattle.orc_refs.proofs.LentLaws.{push_entered, set_entered}
use Rattle.orc_refs.proofs.touched.enter.Goals as goal

pub returns-in_ok-give-in-Some-clause-rows : goal.returns-in_ok-give-in-Some-clause-rows
returns-in_ok-give-in-Some-clause-rows c =
    let at = c.in-Some.at in
    let rows = c.args.rows.now.items in
    let p = c.args.mark.now.path.now in
    let is : IsRowOf p (by_path rows) at = subst (λ (r : LentRows). IsRowOf p (by_path r) at) c.as_slice.ensures.value c.in-Some.ensures.found in
    set_entered (read_one c.args.mark.now) rows at c.index_mut.result.now c.give.new.list c.requires.sorted is c.index_mut.ensures.value c.in_ok-give-in-Some.ensures

pub returns-in_ok-push-in-None-clause-rows : goal.returns-in_ok-push-in-None-clause-rows
returns-in_ok-push-in-None-clause-rows c =
    let rows = c.args.rows.now.items in
    let p = c.args.mark.now.path.now in
    let is : IsPlaceOf p (by_path rows) (length rows) = subst (λ (r : LentRows). IsPlaceOf p (by_path r) (length r)) c.as_slice.ensures.value (c.in-None.ensures.absent refl) in
    push_entered (read_one c.args.mark.now) rows c.push.new.self.items c.in_ok-row-in-None.row c.requires.sorted is c.in_ok-row-in-None.ensures.path c.in_ok-row-in-None.ensures.list c.in_ok-push-in-None.ensures.items

pub index_mut-requires : goal.index_mut-requires
index_mut-requires c =
    let rows = c.args.rows.now.items in
    let is : c.in-Some.at < length (by_path c.as_slice.result.now) = c.in-Some.ensures.found.within in
    subst (λ n. c.in-Some.at < n) (length-map c.as_slice.result.now _ ∙ c.as_slice.ensures.len) is
