use Rattle.std.proofs.Common.{◌≡◌, ℕ, ◌+◌, drop, List, ◌∷◌, sym, ap, subst, ◌∙◌, string_bytes}
use Rattle.std.specs.Prelude.{IsTrue, OnOk}
use Rattle.std.proofs.lemmas.List.{at_drop_more}
use Rattle.serde_json.specs.View.{view, items_view, members_view}
use Rattle.serde_json.specs.declared.value.Value.{Value}
use Rattle.serde_json.specs.Data.{object}
use Rattle.serde_json.proofs.Views.{view-Object}
use Rattle.orc_path.specs.Items.{fits}
use Rattle.orc_path.specs.Steps.{PathStep}
use Rattle.orc_path.specs.declared.item.Item.TheVariants.{Entry, Leaf}
use Rattle.orc_json.specs.Findings.{Finding, states, breaks, below, members_at, member_at, entries_at, entry_at}
use Rattle.orc_json.specs.Readings.{find, find_all}
use Rattle.orc_json.specs.declared.fault.TheConstants.{KEY}
use Rattle.orc_json.specs.declared.reading.Reading.{Reading}
use Rattle.orc_json.proofs.Found.{goes_on, leaf_fits}
use Rattle.orc_json.proofs.EntryKeys.{keyed_fits, entry_found, entry_missing}
use Rattle.orc_json.proofs.members.+members.Goals as goal

pub read_entries-loop-item-preserved : goal.read_entries-loop-item-preserved
read_entries-loop-item-preserved t c =
    let l = c.loop-item in
    let xs = c.deref-item-items.result.now in
    let found = λ (vs : List Value). entries_at c.args.schema.now c.args.keys.now c.args.at.now c.args.name.now (items_view vs) in
    let front = ap (λ (x : Value). find_all (found (x ∷ drop (l.item-index + 1) xs)) l.reading) c.item-item.is
    ∙ sym (at_drop_more (λ vs. find_all (found vs) l.reading) xs l.item-index _ c.loop-item-test.true) ∙ l.invariant in
    goes_on (found c.args.items.now.items)
    (entry_at c.args.schema.now c.args.keys.now c.args.at.now c.args.name.now (view c.item-item.result)) (found (drop (l.item-index + 1) xs)) c.args.reading.now l.reading c.read_list_entry.new.reading front c.in_ok-read_list_entry.ensures

pub read_list_entry-state-requires : goal.read_list_entry-state-requires
read_list_entry-state-requires t c =
    let at = c.args.at.now in
    let name = c.args.name.now in
    let has = sym c.in_ok-texts-in-Object.ensures.value ∙ c.in-Some.is in
    subst (λ (path : List PathStep). IsTrue (fits path Entry)) (sym (c.in_ok-copy-in-Some.ensures ∙ c.in_ok-path-in-Some.ensures))
    (keyed_fits at name c.args.schema.now _ _ c.args.keys.now c.in-Some.texts has)

pub read_list_entry-returns-in_ok-state-in-Some : goal.read_list_entry-returns-in_ok-state-in-Some
read_list_entry-returns-in_ok-state-in-Some t c =
    let s = c.args.schema.now in
    let keys = c.args.keys.now in
    let at = c.args.at.now in
    let name = c.args.name.now in
    let old = c.args.reading.now in
    let ms = members_view c.in-Object.members.entries in
    let steps_are = c.as_slice.ensures ∙ c.list.view_is ∙ c.in_ok-list.ensures ∙ ap (below at name) c.new.ensures in
    let has = sym c.in_ok-texts-in-Object.ensures.value ∙ c.in-Some.is in
    let seen : view c.args.value.now ≡ object ms = ap view c.in-Object.is ∙ view-Object c.in-Object.members in
    let all = entry_found s keys at name (view c.args.value.now) ms seen c.as_slice.result.now steps_are c.in-Some.texts has in
    let same = ap (λ (r : Reading). find_all (members_at s keys c.in_ok-path-in-Some.path ms) r) (c.in_ok-state-in-Some.ensures ∙ ap (λ (p : List PathStep). find (states p Entry) old) c.in_ok-copy-in-Some.ensures)
    ∙ ap (λ (p : List PathStep). find_all (members_at s keys p ms) (find (states p Entry) old)) c.in_ok-path-in-Some.ensures
    ∙ sym (ap (λ (found : List Finding). find_all found old) all) in
    subst (λ (x : Reading). OnOk c.read_members.result (c.read_members.new.reading ≡ x)) same c.read_members.ensures

pub read_list_entry-returns-in-None : goal.read_list_entry-returns-in-None
read_list_entry-returns-in-None t c =
    let at = c.args.at.now in
    let name = c.args.name.now in
    let old = c.args.reading.now in
    let ms = members_view c.in-Object.members.entries in
    let list_is = c.in_ok-list.ensures ∙ ap (below at name) c.new.ensures in
    let steps_are = c.as_slice.ensures ∙ c.list.view_is ∙ list_is in
    let has = sym c.in_ok-texts-in-Object.ensures.value ∙ c.in-None.is in
    let seen : view c.args.value.now ≡ object ms = ap view c.in-Object.is ∙ view-Object c.in-Object.members in
    let all = entry_missing c.args.schema.now c.args.keys.now at name (view c.args.value.now) ms seen c.as_slice.result.now steps_are has in
    c.break_rule.ensures ∙ ap (λ (p : List PathStep). find (breaks p KEY) old) list_is ∙ sym (ap (λ (found : List Finding). find_all found old) all)

pub read_members-loop-name-preserved : goal.read_members-loop-name-preserved
read_members-loop-name-preserved t c =
    let s = c.args.schema.now in
    let keys = c.args.keys.now in
    let at = c.args.at.now in
    let l = c.loop-name in
    let left = c.next.new.self in
    let front = ap (λ es. find_all (members_at s keys at (members_view es)) l.reading) (sym c.in-Some.ensures.steps) ∙ l.invariant in
    let step = c.in_ok-read_member.ensures ∙ ap (λ (n : List ℕ). find_all (member_at s keys at n (view c.in-Some.value.now)) l.reading) c.as_str.ensures.value in
    goes_on (members_at s keys at (members_view c.args.members.now.entries)) (member_at s keys at (string_bytes c.in-Some.name.now) (view c.in-Some.value.now)) (members_at s keys at (members_view left))
    c.args.reading.now l.reading c.read_member.new.reading front step

pub read_node-read_leaf-requires : goal.read_node-read_leaf-requires
read_node-read_leaf-requires t c = λ text.
    subst (λ (path : List PathStep). IsTrue (fits path (Leaf text))) (sym (c.in_ok-path.ensures ∙ ap (below c.args.at.now c.args.name.now) c.new.ensures)) (leaf_fits c.args.at.now c.args.name.now text)
