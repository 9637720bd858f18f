use Rattle.std.proofs.Common.{ap, sym, subst, ◌∙◌}
use Rattle.std.specs.FinMap.{entries}
use Rattle.orc_path.specs.Configurations.{Config}
use Rattle.orc_tree.specs.Pages.{rows_of, pages_of, AreSized, AreFilled, listed, chapters_rows}
use Rattle.orc_tree.proofs.Maps.{entries-of_rows}
use Rattle.orc_tree.proofs.Chaptered.{Chapters, chapters_rows-pages, AreLaid-sized, AreLaid-filled}
use Rattle.orc_tree.proofs.tree.Tree.chapters.Goals as goal

pub returns-clause-rows : goal.returns-clause-rows
returns-clause-rows c =
    let chapters = listed c.self.inside.list in
    ap (λ (cs : Chapters). rows_of (pages_of cs)) c.chapters_in.ensures ∙ chapters_rows-pages chapters ∙ sym (entries-of_rows (chapters_rows chapters) c.self.invariant.sorted)
    ∙ ap (λ (m : Config). entries m) c.self.view_is

pub returns-clause-sized : goal.returns-clause-sized
returns-clause-sized c = subst (λ (cs : Chapters). AreSized (pages_of cs)) (sym c.chapters_in.ensures) (AreLaid-sized (listed c.self.inside.list) c.self.invariant.laid)

pub returns-clause-filled : goal.returns-clause-filled
returns-clause-filled c = subst (λ (cs : Chapters). AreFilled cs) (sym c.chapters_in.ensures) (AreLaid-filled (listed c.self.inside.list) c.self.invariant.laid)
