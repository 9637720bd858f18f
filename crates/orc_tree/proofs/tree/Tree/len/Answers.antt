use Rattle.std.proofs.Common.{length, ap, sym, ◌∙◌}
use Rattle.std.specs.FinMap.{entries}
use Rattle.orc_text.specs.Counts.{capped}
use Rattle.orc_path.specs.Configurations.{Config}
use Rattle.orc_tree.specs.Pages.{listed, chapters_rows}
use Rattle.orc_tree.proofs.Maps.{Rows, entries-of_rows}
use Rattle.orc_tree.proofs.Chaptered.{Chapters}
use Rattle.orc_tree.proofs.tree.Tree.len.Goals as goal

pub returns : goal.returns
returns c =
    c.count_all.ensures
    ∙ ap (λ (r : Rows). capped (length r))
    (ap (λ (cs : Chapters). chapters_rows cs) c.chapters_in.ensures ∙ sym (entries-of_rows (chapters_rows (listed c.self.inside.list)) c.self.invariant.sorted)
    ∙ ap (λ (m : Config). entries m) c.self.view_is)
