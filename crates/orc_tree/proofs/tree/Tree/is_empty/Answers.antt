use Rattle.std.proofs.Common.{◌==◌, length, ap, ◌∙◌}
use Rattle.orc_tree.specs.Pages.{listed}
use Rattle.orc_tree.proofs.Emptied.{empty_where}
use Rattle.orc_tree.proofs.Chaptered.{Chapters}
use Rattle.orc_tree.proofs.tree.Tree.is_empty.Goals as goal

pub returns : goal.returns
returns c =
    empty_where (listed c.self.inside.list) c.args.self.now c.is_empty.result c.self.invariant c.self.view_is
    (c.is_empty.ensures ∙ ap (λ (cs : Chapters). length cs == 0) c.chapters_in.ensures)
