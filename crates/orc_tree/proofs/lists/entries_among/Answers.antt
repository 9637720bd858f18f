use Rattle.std.proofs.Common.{◌≡◌, ◌++◌, ◌∷◌, [], List, ap, sym, ◌∙◌, append-nil}
use Rattle.std.specs.FinMap.{is_sorted}
use Rattle.orc_path.specs.Steps.{PathStep}
use Rattle.orc_path.specs.Order.{path_cmp}
use Rattle.orc_tree.specs.inside.Lists.{is_past, entries_of}
use Rattle.orc_tree.proofs.Maps.{Rows}
use Rattle.orc_tree.proofs.Listing.{no_entries-past}
use Rattle.orc_tree.proofs.lists.entries_among.Goals as goal

pub returns-then-is_past : goal.returns-then-is_past
returns-then-is_past c =
    let list = c.args.list.now in
    let row = c.in-Some.row.now in
    let rows = c.next.new.self in
    let whole = c.args.front.now ++ c.args.last.now ∷ [] in
    let parts : list ≡ whole = c.requires.parts in
    let none : entries_of list (row ∷ rows) ≡ [] =
    ap (λ (q : List PathStep). entries_of q (row ∷ rows)) parts
    ∙ no_entries-past c.args.front.now c.args.last.now row rows
    (ap (λ (q : List PathStep). is_past c.args.front.now c.args.last.now.node q row.0) (sym parts) ∙ sym c.is_past.ensures ∙ c.if-is_past.true)
    (ap (is_sorted path_cmp) (sym c.in-Some.ensures.steps) ∙ c.loop-row.invariant.sorted) in
    sym (append-nil c.loop-row.found.items) ∙ ap (λ x. c.loop-row.found.items ++ x) (sym none ∙ ap (λ (r : Rows). entries_of list r) (sym c.in-Some.ensures.steps)) ∙ c.loop-row.invariant.found
