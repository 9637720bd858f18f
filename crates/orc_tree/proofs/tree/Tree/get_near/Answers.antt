use Rattle.std.proofs.Common.{List, ap, sym, ◌∙◌}
use Rattle.std.specs.FinMap.{find, get}
use Rattle.orc_path.specs.Steps.{PathStep}
use Rattle.orc_path.specs.Order.{path_cmp}
use Rattle.orc_path.specs.Configurations.{Config}
use Rattle.orc_tree.specs.Pages.{listed, chapters_rows}
use Rattle.orc_tree.proofs.Maps.{get-of_rows}
use Rattle.orc_tree.proofs.Chaptered.{Chapters}
use Rattle.orc_tree.proofs.tree.Tree.get_near.Goals as goal

pub returns-clause-item : goal.returns-clause-item
returns-clause-item c =
    let q = c.args.path.now in
    c.find_near.ensures
    ∙ ap (λ (p : List PathStep). find path_cmp p (chapters_rows c.chapters_in.result.now)) (c.as_slice.ensures ∙ c.path.view_is)
    ∙ ap (λ (cs : Chapters). find path_cmp q (chapters_rows cs)) c.chapters_in.ensures
    ∙ sym (get-of_rows (chapters_rows (listed c.self.inside.list)) q c.self.invariant.sorted)
    ∙ ap (λ (m : Config). get m q) c.self.view_is
