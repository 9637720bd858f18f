use Rattle.std.proofs.Common.{ap, sym, ◌∙◌}
use Rattle.std.specs.FinMap.{entries}
use Rattle.orc_path.specs.Configurations.{Config}
use Rattle.orc_tree.specs.Pages.{listed, chapters_rows}
use Rattle.orc_tree.specs.Sameness.{equal_configs}
use Rattle.orc_tree.proofs.Maps.{map_of, entries-of_rows}
use Rattle.orc_tree.proofs.Chaptered.{Chapters}
use Rattle.orc_tree.proofs.Equated.{configs_decided, one_test}
use Rattle.orc_tree.proofs.tree.Tree.equals.Goals as goal

pub returns-clause-equal : goal.returns-clause-equal
returns-clause-equal c =
    let left = ap (λ (cs : Chapters). chapters_rows cs) c.chapters_in.ensures in
    let right = ap (λ (cs : Chapters). chapters_rows cs) c.chapters_in-2.ensures in (
      λ h. sym c.self.view_is ∙ ap map_of (sym left ∙ c.same_rows.ensures.0 h ∙ right) ∙ c.other.view_is,
      λ e. c.same_rows.ensures.1 (left ∙ sym (entries-of_rows (chapters_rows (listed c.self.inside.list)) c.self.invariant.sorted)
          ∙ ap (λ (m : Config). entries m) (c.self.view_is ∙ e ∙ sym c.other.view_is)
          ∙ entries-of_rows (chapters_rows (listed c.other.inside.list)) c.other.invariant.sorted ∙ sym right),
    )

pub returns-clause-test : goal.returns-clause-test
returns-clause-test c =
    one_test c.same_rows.result (equal_configs c.args.self.now c.args.other.now)
    (returns-clause-equal c) (configs_decided c.args.self.now c.args.other.now)
