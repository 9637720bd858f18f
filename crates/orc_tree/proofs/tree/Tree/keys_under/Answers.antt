use Rattle.std.proofs.Common.{◌≡◌, IfOk, ap, sym, subst, ◌∙◌}
use Rattle.std.specs.FinMap.{entries}
use Rattle.orc_path.specs.Configurations.{Config}
use Rattle.orc_tree.specs.Pages.{listed, chapters_rows}
use Rattle.orc_tree.specs.inside.Lists.{entries_of}
use Rattle.orc_tree.proofs.Maps.{Rows, entries-of_rows}
use Rattle.orc_tree.proofs.Chaptered.{Chapters}
use Rattle.orc_tree.proofs.tree.Tree.keys_under.Goals as goal

pub returns-clause-keys : goal.returns-clause-keys
returns-clause-keys c =
    let rows_are = ap (λ (cs : Chapters). chapters_rows cs) c.chapters_in.ensures ∙ sym (entries-of_rows (chapters_rows (listed c.self.inside.list)) c.self.invariant.sorted) ∙ ap (λ (m : Config). entries m) c.self.view_is in
    subst (λ (r : Rows). IfOk c.list_entries.result (λ found. found.items ≡ entries_of c.args.list.now r)) rows_are c.list_entries.ensures
