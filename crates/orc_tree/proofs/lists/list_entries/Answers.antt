use Rattle.std.proofs.Common.{◌≡◌, ◌<◌, ◌++◌, ◌∷◌, [], List, length, IfOk, ap, sym, subst, ◌∙◌}
use Rattle.orc_path.specs.Steps.{PathStep}
use Rattle.orc_tree.specs.Pages.{chapters_rows}
use Rattle.orc_tree.specs.inside.Places.{IsRestFor}
use Rattle.orc_tree.specs.inside.Lists.{entries_of}
use Rattle.orc_tree.proofs.Listing.{no_entries, no_entry-keyed, no_entry-root, nil_from_length}
use Rattle.orc_tree.proofs.Rest.{rest_sorted, rest_entries}
use Rattle.orc_tree.proofs.lists.list_entries.Goals as goal

pub returns-in-None : goal.returns-in-None
returns-in-None c =
    let is_root : [] ≡ c.args.list.now = sym (nil_from_length c.as_slice-steps.result.now c.in-None.ensures.cases) ∙ c.as_slice-steps.ensures ∙ c.list.view_is in
    c.new.ensures.items ∙ sym (subst (λ (l : List PathStep). entries_of l (chapters_rows c.args.chapters.now) ≡ []) is_root (no_entries [] (chapters_rows c.args.chapters.now) no_entry-root))

pub returns-then-len-gt0 : goal.returns-then-len-gt0
returns-then-len-gt0 c =
    let front = c.in-Some.parts.1.now in
    let last = c.in-Some.parts.0.now in
    let is_list : front ++ last ∷ [] ≡ c.args.list.now = sym c.in-Some.ensures.cases.0 ∙ c.as_slice-steps.ensures ∙ c.list.view_is in
    let keyed = subst (λ n. 0 < n) (c.len.ensures ∙ ap (λ (s : PathStep). length s.keys) c.last.view_is) c.if-len-gt0.true in
    c.new-then-len-gt0.ensures.items
    ∙ sym (subst (λ (l : List PathStep). entries_of l (chapters_rows c.args.chapters.now) ≡ []) is_list
    (no_entries (front ++ last ∷ []) (chapters_rows c.args.chapters.now) (λ p. no_entry-keyed front last p keyed)))

pub entries_among-requires : goal.entries_among-requires
entries_among-requires c = record {
  sorted = rest_sorted c.as_slice-steps.result.now (chapters_rows c.args.chapters.now) c.rows_from.result c.rows_from.ensures c.requires.sorted;
  parts = sym (sym c.in-Some.ensures.cases.0 ∙ c.as_slice-steps.ensures ∙ c.list.view_is);
}

pub returns : goal.returns
returns c =
    let rest : IsRestFor c.args.list.now (chapters_rows c.args.chapters.now) c.rows_from.result =
    subst (λ (l : List PathStep). IsRestFor l (chapters_rows c.args.chapters.now) c.rows_from.result) (c.as_slice-steps.ensures ∙ c.list.view_is) c.rows_from.ensures in
    subst (λ (x : List (List PathStep)). IfOk c.entries_among.result (λ found. found.items ≡ x)) (rest_entries c.args.list.now (chapters_rows c.args.chapters.now) c.rows_from.result rest) c.entries_among.ensures
