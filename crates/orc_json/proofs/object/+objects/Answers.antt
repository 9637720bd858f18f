use Rattle.std.proofs.Common.{◌≡◌, ◌≤◌, ◌+◌, ◌-◌, ◌++◌, ◌∷◌, [], ℕ, List, Some, IfOk, Bor, sym, ap, subst, ◌∙◌, arith}
use Rattle.std.specs.Prelude.{IsTrue}
use Rattle.serde_json.specs.Data.{put}
use Rattle.serde_json.specs.View.{view, items_view, members_view}
use Rattle.serde_json.specs.declared.value.Value.{Value, Object, Array}
use Rattle.serde_json.proofs.Views.{view-Object, view-Array}
use Rattle.orc_path.specs.Steps.{PathStep}
use Rattle.orc_schema_nodes.specs.Schemas.{path_names, node_at}
use Rattle.orc_schema_nodes.specs.declared.line.Node.{Node}
use Rattle.orc_json.specs.inside.Fronts.{MakesNode, MakesEntries}
use Rattle.orc_json.specs.Written.{are_keys, with_key_members}
use Rattle.orc_json.proofs.Made.{EntriesGoOn, none_made, nothing_made, all_made, all_entries_made, next_members, next_entries, some_rows, no_rows}
use Rattle.orc_json.proofs.Nodes.{IfOk-so, mapped_none, mapped_some, copied_none, copied_some, no_step_put, no_node_put, node_put, container_made, list_made, leaf_made, leaf_list_made, entry_made}
use Rattle.orc_json.proofs.object.+objects.Goals as goal

pub object_of-returns-then-left-eq0 : goal.object_of-returns-then-left-eq0
object_of-returns-then-left-eq0 t c =
    nothing_made c.args.schema.now c.args.left c.args.at.now c.args.rows.now (members_view c.new-members.result.entries) c.if-left-eq0.true
    (ap members_view c.new-members.ensures.empty)

pub object_of-loop-rest-init : goal.object_of-loop-rest-init
object_of-loop-rest-init t c =
    none_made c.args.schema.now c.args.left c.args.at.now c.args.rows.now (members_view c.new-members.result.entries) (ap members_view c.new-members.ensures.empty)

pub object_of-loop-rest-preserved : goal.object_of-loop-rest-preserved
object_of-loop-rest-preserved t c =
    let rest = c.loop-rest.rest.now in
    let some = some_rows rest c.is_empty.result c.is_empty.ensures c.loop-rest-test.true in
    let less : c.args.left ≤ (c.args.left - 1) + 1 = omega arith in
    next_members c.args.schema.now c.args.left (c.args.left - 1) c.args.at.now c.args.rows.now rest c.split_at.result.0.now c.split_at.result.1.now c.name_front.result
    (members_view c.loop-rest.members.entries) (members_view c.put_node.new.members.entries) less some
    c.name_front.ensures.value c.split_at.ensures.front c.split_at.ensures.back c.in_ok-put_node.ensures c.loop-rest.invariant

pub object_of-returns : goal.object_of-returns
object_of-returns t c =
    let none : c.loop-rest.rest.now ≡ [] = no_rows c.loop-rest.rest.now c.is_empty.result c.is_empty.ensures c.loop-rest-test.false in
    all_made c.args.schema.now c.args.left c.args.at.now c.args.rows.now c.loop-rest.rest.now (members_view c.loop-rest.members.entries) none c.loop-rest.invariant

pub put_node-returns-in_default-step_at : goal.put_node-returns-in_default-step_at
put_node-returns-in_default-step_at t c =
    no_step_put c.args.schema.now c.args.left c.args.at.now c.args.rows.now c.in-Some.row.now c.in-Some.field-0-1.now (members_view c.args.members.now.entries)
    c.in-Some.ensures.cases.0 (copied_none c.step_at.result _ c.step_at.ensures c.in_default-step_at.is)

pub put_node-returns-in_default-node_below : goal.put_node-returns-in_default-node_below
put_node-returns-in_default-node_below t c =
    let step = c.in-Some-step_at.step in
    let named : c.as_str-name.result.now ≡ step.now.node = c.as_str-name.ensures.value ∙ ap (λ (x : PathStep). x.node) c.step.view_is in
    no_node_put c.args.schema.now c.args.left c.args.at.now c.args.rows.now c.in-Some.row.now c.in-Some.field-0-1.now step.now (members_view c.args.members.now.entries)
    c.in-Some.ensures.cases.0 (copied_some c.step_at.result _ step c.step_at.ensures c.in-Some-step_at.is)
    (ap (λ (n : List ℕ). node_at c.args.schema.now (path_names c.args.at.now ++ n ∷ [])) (sym named)
    ∙ mapped_none (λ (n : Bor Node). n.now) c.node_below.result _ c.node_below.ensures c.in_default-node_below.is)

pub put_node-returns : goal.put_node-returns
put_node-returns t c =
    let step = c.in-Some-step_at.step in
    let named : c.as_str-name.result.now ≡ step.now.node = c.as_str-name.ensures.value ∙ ap (λ (x : PathStep). x.node) c.step.view_is in
    let old = members_view c.args.members.now.entries in
    node_put c.args.schema.now c.args.left c.args.at.now c.args.rows.now c.in-Some.row.now c.in-Some.field-0-1.now step.now c.in-Some-node_below.node.now
    (view c.in_ok-value.value) old (members_view c.put_member.new.members.entries)
    c.in-Some.ensures.cases.0 (copied_some c.step_at.result _ step c.step_at.ensures c.in-Some-step_at.is)
    (ap (λ (n : List ℕ). node_at c.args.schema.now (path_names c.args.at.now ++ n ∷ [])) (sym named)
    ∙ mapped_some (λ (n : Bor Node). n.now) c.node_below.result _ c.in-Some-node_below.node c.node_below.ensures c.in-Some-node_below.is)
    c.in_ok-value.ensures
    (c.in_ok-put_member.ensures ∙ ap (λ (n : List ℕ). put n (view c.in_ok-value.value) old) named)

pub node_value-returns-in_ok-object_of-in-Container : goal.node_value-returns-in_ok-object_of-in-Container
node_value-returns-in_ok-object_of-in-Container t c =
    let m = c.in_ok-object_of-in-Container.field-0 in
    let s = c.args.schema.now in
    let at = c.args.at.now in
    let rows = c.args.rows.now in
    subst (λ (n : Node). MakesNode s c.args.left at (Some n) rows (view (Object m))) (sym c.in-Container.is)
    (λ bound laid short name d node. view-Object m
    ∙ container_made s c.args.left at c.first_steps-steps.result.now rows (members_view m.entries) c.first_steps-steps.ensures c.in_ok-object_of-in-Container.ensures bound laid short name d node)

pub node_value-returns-in_ok-entries_of-in-List : goal.node_value-returns-in_ok-entries_of-in-List
node_value-returns-in_ok-entries_of-in-List t c =
    let v = c.in_ok-entries_of-in-List.field-0 in
    let s = c.args.schema.now in
    let at = c.args.at.now in
    let rows = c.args.rows.now in
    let made : MakesEntries s c.args.left at c.in-List.list.keys rows (items_view v.items) =
    subst (λ (ks : List (List ℕ)). MakesEntries s c.args.left at ks rows (items_view v.items)) c.as_slice.ensures c.in_ok-entries_of-in-List.ensures in
    subst (λ (n : Node). MakesNode s c.args.left at (Some n) rows (view (Array v))) (sym c.in-List.is)
    (λ bound laid short name d node. view-Array v ∙ list_made s c.args.left at c.in-List.list rows (items_view v.items) made bound laid short name d node)

pub node_value-returns-in-Leaf : goal.node_value-returns-in-Leaf
node_value-returns-in-Leaf t c =
    subst (λ (n : Node). IfOk c.leaf_value.result (λ made. MakesNode c.args.schema.now c.args.left c.args.at.now (Some n) c.args.rows.now (view made))) (sym c.in-Leaf.is)
    (IfOk-so _ _ (λ v makes. leaf_made c.args.schema.now c.args.left c.args.at.now c.in-Leaf.leaf c.args.rows.now (view v) makes) c.leaf_value.result c.leaf_value.ensures)

pub node_value-returns-in_ok-values_of-in-LeafList : goal.node_value-returns-in_ok-values_of-in-LeafList
node_value-returns-in_ok-values_of-in-LeafList t c =
    let v = c.in_ok-values_of-in-LeafList.field-0 in
    let s = c.args.schema.now in
    let at = c.args.at.now in
    let rows = c.args.rows.now in
    subst (λ (n : Node). MakesNode s c.args.left at (Some n) rows (view (Array v))) (sym c.in-LeafList.is)
    (λ bound laid short name d node. view-Array v
    ∙ leaf_list_made s c.args.left at c.in-LeafList.values rows (items_view v.items) c.in_ok-values_of-in-LeafList.ensures bound laid short name d node)

pub entries_of-loop-rest-preserved : goal.entries_of-loop-rest-preserved
entries_of-loop-rest-preserved t c =
    let rest = c.loop-rest.rest.now in
    let some = some_rows rest c.is_empty.result c.is_empty.ensures c.loop-rest-test.true in
    let vs = c.loop-rest.entries.items in
    subst (λ (xs : List Value). EntriesGoOn c.args.schema.now c.args.left c.args.at.now c.args.names.now c.args.rows.now c.split_at.result.1.now (items_view xs)) (sym c.in_ok-push.ensures.items)
    (next_entries c.args.schema.now c.args.left c.args.at.now c.args.names.now c.args.rows.now rest c.split_at.result.0.now c.split_at.result.1.now c.step_front.result
    vs c.in_ok-entry_value.field-0 some c.step_front.ensures.value c.split_at.ensures.front c.split_at.ensures.back c.in_ok-entry_value.ensures c.loop-rest.invariant)

pub entries_of-returns : goal.entries_of-returns
entries_of-returns t c =
    let none : c.loop-rest.rest.now ≡ [] = no_rows c.loop-rest.rest.now c.is_empty.result c.is_empty.ensures c.loop-rest-test.false in
    all_entries_made c.args.schema.now c.args.left c.args.at.now c.args.names.now c.args.rows.now c.loop-rest.rest.now (items_view c.loop-rest.entries.items) none c.loop-rest.invariant

pub entry_value-returns : goal.entry_value-returns
entry_value-returns t c =
    let s = c.args.schema.now in
    let keys = c.args.names.now in
    let steps = c.first_steps-steps.result.now in
    let step = c.in-Some-split_last.step.now in
    let made = members_view c.in_ok-members.members.entries in
    let new = members_view c.put_keys.new.members.entries in
    let keys_are : c.as_slice.result.now ≡ step.keys = c.as_slice.ensures ∙ ap (λ (x : PathStep). x.keys) c.step.view_is in
    let puts = subst (λ (ks : List (List ℕ)). IsTrue (are_keys s (path_names steps) keys ks) → new ≡ with_key_members s (path_names steps) keys ks made) keys_are c.in_ok-put_keys.ensures in
    λ bound laid short name texts inside ms is well within. view-Object c.put_keys.new.members
    ∙ entry_made s c.args.left c.args.at.now keys c.args.rows.now c.in-Some.field-0-0.now c.in-Some.inside.now steps c.in-Some-split_last.field-0-1.now step made new
    c.in-Some.ensures.cases.0 c.first_steps-steps.ensures c.in-Some-split_last.ensures.cases.0 c.in_ok-members.ensures puts bound laid short name texts inside ms is well within
