use Rattle.std.proofs.Common.{◌≡◌, ℕ, ◌+◌, drop, List, ◌∷◌, Ok, Err, sym, ap, subst, ◌∙◌, string_bytes}
use Rattle.std.specs.Prelude.{IsTrue}
use Rattle.std.proofs.lemmas.List.{at_drop_more}
use Rattle.serde_json.specs.View.{view, items_view, members_view}
use Rattle.serde_json.specs.declared.value.Value.{Value}
use Rattle.serde_json.specs.Data.{object}
use Rattle.serde_json.proofs.Views.{view-Object}
use Rattle.orc_path.specs.Items.{fits}
use Rattle.orc_path.specs.Steps.{PathStep}
use Rattle.orc_path.specs.declared.item.Item.TheVariants.{Entry, Leaf}
use Rattle.orc_json.specs.Findings.{below}
use Rattle.orc_template.specs.Writing.{Writes, write_at, members_done, entries_done, entry_done, go_on}
use Rattle.orc_template.specs.inside.Machine.{scene}
use Rattle.orc_template.specs.inside.Nodes.{member_at_name}
use Rattle.orc_template.proofs.Handed.{wrote_more, stops_whole}
use Rattle.orc_template.proofs.Entries.{keyed_fits, entry_fails, entry_goes_on}
use Rattle.orc_json.proofs.Found.{leaf_fits}
use Rattle.orc_template.proofs.config.+config.Goals as goal

pub do_entries-loop-item-preserved : goal.do_entries-loop-item-preserved
do_entries-loop-item-preserved g t c =
    let l = c.loop-item in
    let sc = scene (g.V.DataView.viewed c.args.view.now) c.args.here.now in
    let xs = c.deref-item-items.result.now in
    let rest = λ (vs : List Value). entries_done sc c.args.schema.now c.args.keys.now c.args.at.now c.args.name.now (items_view vs) in
    let front = ap (λ (x : Value). rest (x ∷ drop (l.item-index + 1) xs) l.writing) c.item-item.is ∙ sym (at_drop_more (λ vs. rest vs l.writing) xs l.item-index _ c.loop-item-test.true) ∙ l.invariant in
    wrote_more (entry_done sc c.args.schema.now c.args.keys.now c.args.at.now c.args.name.now (view c.item-item.result) l.writing) (rest (drop (l.item-index + 1) xs)) c.do_entry.new.writing
    (rest c.args.items.now.items c.args.writing.now) tt front c.in_ok-do_entry.ensures

pub do_entries-returns-in_err-do_entry : goal.do_entries-returns-in_err-do_entry
do_entries-returns-in_err-do_entry g t c =
    let l = c.loop-item in
    let sc = scene (g.V.DataView.viewed c.args.view.now) c.args.here.now in
    let xs = c.deref-item-items.result.now in
    let rest = λ (vs : List Value). entries_done sc c.args.schema.now c.args.keys.now c.args.at.now c.args.name.now (items_view vs) in
    let front = ap (λ (x : Value). rest (x ∷ drop (l.item-index + 1) xs) l.writing) c.item-item.is ∙ sym (at_drop_more (λ vs. rest vs l.writing) xs l.item-index _ c.loop-item-test.true) ∙ l.invariant in
    stops_whole (entry_done sc c.args.schema.now c.args.keys.now c.args.at.now c.args.name.now (view c.item-item.result) l.writing) (rest (drop (l.item-index + 1) xs)) c.do_entry.new.writing
    (rest c.args.items.now.items c.args.writing.now) c.from_residual.result c.in_err-do_entry.field-0.0 front c.from_residual.ensures.1 c.in_err-do_entry.ensures

pub do_members-loop-name-preserved : goal.do_members-loop-name-preserved
do_members-loop-name-preserved g t c =
    let l = c.loop-name in
    let sc = scene (g.V.DataView.viewed c.args.view.now) c.args.here.now in
    let s = c.args.schema.now in
    let keys = c.args.keys.now in
    let at = c.args.at.now in
    let front = ap (λ es. members_done sc s keys at (members_view es) l.writing) (sym c.in-Some.ensures.steps) ∙ l.invariant in
    wrote_more (member_at_name sc s keys at (string_bytes c.in-Some.name.now) (view c.in-Some.value.now) l.writing) (members_done sc s keys at (members_view c.next.new.self)) c.do_member.new.writing
    (members_done sc s keys at (members_view c.args.members.now.entries) c.args.writing.now) tt front
    (ap (λ (n : List ℕ). member_at_name sc s keys at n (view c.in-Some.value.now) l.writing) (sym c.as_str.ensures.value) ∙ c.in_ok-do_member.ensures)

pub do_members-returns-in_err-do_member : goal.do_members-returns-in_err-do_member
do_members-returns-in_err-do_member g t c =
    let l = c.loop-name in
    let sc = scene (g.V.DataView.viewed c.args.view.now) c.args.here.now in
    let s = c.args.schema.now in
    let keys = c.args.keys.now in
    let at = c.args.at.now in
    let front =
    ap (λ (n : List ℕ). go_on (member_at_name sc s keys at n (view c.in-Some.value.now) l.writing) (members_done sc s keys at (members_view c.next.new.self))) c.as_str.ensures.value
    ∙ ap (λ es. members_done sc s keys at (members_view es) l.writing) (sym c.in-Some.ensures.steps) ∙ l.invariant in
    stops_whole (member_at_name sc s keys at c.as_str.result.now (view c.in-Some.value.now) l.writing) (members_done sc s keys at (members_view c.next.new.self)) c.do_member.new.writing
    (members_done sc s keys at (members_view c.args.members.now.entries) c.args.writing.now) c.from_residual.result c.in_err-do_member.field-0.0 front c.from_residual.ensures.1 c.in_err-do_member.ensures

pub do_node-do_leaf-requires : goal.do_node-do_leaf-requires
do_node-do_leaf-requires g t c = λ text.
    subst (λ (path : List PathStep). IsTrue (fits path (Leaf text))) (sym (c.in_ok-path.ensures ∙ ap (below c.args.at.now c.args.name.now) c.new.ensures)) (leaf_fits c.args.at.now c.args.name.now text)

pub do_entry-write-requires : goal.do_entry-write-requires
do_entry-write-requires g t c =
    subst (λ (path : List PathStep). IsTrue (fits path Entry)) (sym (c.in_ok-copy-in-Object.ensures ∙ c.in_ok-entry-in-Object.ensures))
    (keyed_fits c.args.at.now c.args.name.now c.in_ok-texts-in-Object.texts c.in_ok-texts-in-Object.ensures.some)

pub do_entry-returns-in_err-write-in-Object : goal.do_entry-returns-in_err-write-in-Object
do_entry-returns-in_err-write-in-Object g t c =
    let sc = scene (g.V.DataView.viewed c.args.view.now) c.args.here.now in
    let s = c.args.schema.now in
    let keys = c.args.keys.now in
    let at = c.args.at.now in
    let name = c.args.name.now in
    let d = view c.args.value.now in
    let ms = members_view c.in-Object.members.entries in
    let w = c.args.writing.now in
    let texts = c.in_ok-texts-in-Object.texts in
    let reads = c.key_texts.new.reads.reads in
    let seen : d ≡ object ms = ap view c.in-Object.is ∙ view-Object c.in-Object.members in
    let steps_are = c.as_slice.ensures ∙ c.list.view_is ∙ c.in_ok-list-in-Object.ensures ∙ ap (below at name) c.new.ensures in
    entry_fails sc s keys at name d ms seen c.as_slice.result.now steps_are w texts reads c.in_ok-texts-in-Object.ensures.does c.from_residual-in_err-write-in-Object.result c.in_err-write-in-Object.field-0.0 c.write.new.self
    c.from_residual-in_err-write-in-Object.ensures.1
    (subst (λ (p : List PathStep). Writes (write_at p Entry (record { tree = w.tree; reads = record { reads = reads } })) c.write.new.self (Err c.in_err-write-in-Object.field-0.0))
    (c.in_ok-copy-in-Object.ensures ∙ c.in_ok-entry-in-Object.ensures) c.in_err-write-in-Object.ensures)

pub do_entry-returns-in_ok-write-in-Object : goal.do_entry-returns-in_ok-write-in-Object
do_entry-returns-in_ok-write-in-Object g t c =
    let sc = scene (g.V.DataView.viewed c.args.view.now) c.args.here.now in
    let s = c.args.schema.now in
    let keys = c.args.keys.now in
    let at = c.args.at.now in
    let name = c.args.name.now in
    let d = view c.args.value.now in
    let ms = members_view c.in-Object.members.entries in
    let w = c.args.writing.now in
    let texts = c.in_ok-texts-in-Object.texts in
    let reads = c.key_texts.new.reads.reads in
    let seen : d ≡ object ms = ap view c.in-Object.is ∙ view-Object c.in-Object.members in
    let steps_are = c.as_slice.ensures ∙ c.list.view_is ∙ c.in_ok-list-in-Object.ensures ∙ ap (below at name) c.new.ensures in
    entry_goes_on sc s keys at name d ms seen c.as_slice.result.now steps_are w texts reads c.in_ok-texts-in-Object.ensures.does c.write.new.self c.do_members.new.writing c.do_members.result
    (subst (λ (p : List PathStep). Writes (write_at p Entry (record { tree = w.tree; reads = record { reads = reads } })) c.write.new.self (Ok tt))
    (c.in_ok-copy-in-Object.ensures ∙ c.in_ok-entry-in-Object.ensures) c.in_ok-write-in-Object.ensures)
    (subst (λ (p : List PathStep). Writes (members_done sc s keys p ms c.write.new.self) c.do_members.new.writing c.do_members.result) c.in_ok-entry-in-Object.ensures c.do_members.ensures)
