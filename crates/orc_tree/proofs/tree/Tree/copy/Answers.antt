use Rattle.std.proofs.Common.{ap, sym, subst, ◌∙◌}
use Rattle.orc_tree.specs.Pages.{chapters_map}
use Rattle.orc_tree.specs.inside.Places.{AreChapters}
use Rattle.orc_tree.proofs.Chaptered.{Chapters}
use Rattle.orc_tree.proofs.tree.Tree.copy.Goals as goal

pub invariant_of-result : goal.invariant_of-result
invariant_of-result c = subst AreChapters (sym c.in_ok-list.ensures) c.self.invariant

pub returns-clause-equal : goal.returns-clause-equal
returns-clause-equal c = ap (λ (cs : Chapters). chapters_map cs) c.in_ok-list.ensures ∙ c.self.view_is
