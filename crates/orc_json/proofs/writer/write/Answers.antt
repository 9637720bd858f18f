use Rattle.std.proofs.Common.{[], ap, subst, ◌∙◌}
use Rattle.serde_json.specs.View.{view, members_view}
use Rattle.serde_json.specs.declared.value.Value.{Object}
use Rattle.serde_json.proofs.Views.{view-Object}
use Rattle.orc_json.specs.inside.Fronts.{longest, MakesMembers}
use Rattle.orc_json.specs.Written.{Rows}
use Rattle.orc_json.proofs.Whole.{text_made, text_read}
use Rattle.orc_json.proofs.writer.write.Goals as goal

pub returns-clause-text : goal.returns-clause-text
returns-clause-text c =
    let s = c.args.schema.now in
    let left = c.longest-left.result in
    let made = members_view c.in_ok-members.members.entries in
    text_made s c.args.tree.now c.in_ok-rows.rows.items left made (view (Object c.in_ok-members.members)) c.in_ok-to_vec.field-0.items
    c.in_ok-rows.ensures.entries (c.longest-left.ensures ∙ ap longest c.as_slice.ensures.value)
    (subst (λ (xs : Rows). MakesMembers s left [] xs made) c.as_slice-2.ensures.value c.in_ok-members.ensures)
    (view-Object c.in_ok-members.members) c.in_ok-to_vec.ensures.text

pub returns-clause-back : goal.returns-clause-back
returns-clause-back c =
    let s = c.args.schema.now in
    let left = c.longest-left.result in
    let made = members_view c.in_ok-members.members.entries in
    text_read s c.args.tree.now c.in_ok-rows.rows.items left made (view (Object c.in_ok-members.members)) c.in_ok-to_vec.field-0.items
    c.in_ok-rows.ensures.entries (c.longest-left.ensures ∙ ap longest c.as_slice.ensures.value)
    (subst (λ (xs : Rows). MakesMembers s left [] xs made) c.as_slice-2.ensures.value c.in_ok-members.ensures)
    (view-Object c.in_ok-members.members) c.in_ok-to_vec.ensures.utf8 c.in_ok-to_vec.ensures.reads_back c.in_ok-rows.ensures.config
