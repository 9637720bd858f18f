use Rattle.std.proofs.Common.{ap, sym, subst, ◌∙◌}
use Rattle.std.specs.FinMap.{entries, is_sorted}
use Rattle.orc_path.specs.Order.{path_cmp}
use Rattle.orc_path.specs.Configurations.{Config, IsConfig, insert_all}
use Rattle.orc_path.proofs.ConfigurationLaws.{IsConfig-overlay}
use Rattle.orc_tree.specs.Pages.{listed, chapters_rows}
use Rattle.orc_tree.specs.inside.Places.{AreLaid}
use Rattle.orc_tree.proofs.Maps.{Rows, map_of, entries-of_rows}
use Rattle.orc_tree.proofs.Chaptered.{Chapters}
use Rattle.orc_tree.proofs.tree.Tree.overlay_with.Goals as goal

pub returns-clause-ok : goal.returns-clause-ok
returns-clause-ok c =
    ap (λ (cs : Chapters). map_of (chapters_rows cs)) c.in_ok-self-inside.ensures
    ∙ c.in_ok-lay_chapters.ensures.set
    ∙ ap (λ (es : Rows). insert_all es (map_of (chapters_rows c.in_ok-chapters.chapters.items)))
    (ap (λ (cs : Chapters). chapters_rows cs) c.chapters_in-2.ensures ∙ sym (entries-of_rows (chapters_rows (listed c.top.inside.list)) c.top.invariant.sorted) ∙ ap (λ (m : Config). entries m) c.top.view_is)
    ∙ ap (λ (r : Rows). insert_all (entries c.args.top.now) (map_of r)) (c.in_ok-chapters.ensures.rows ∙ ap (λ (cs : Chapters). chapters_rows cs) c.chapters_in.ensures)
    ∙ ap (insert_all (entries c.args.top.now)) c.self.view_is

pub returns-clause-config : goal.returns-clause-config
returns-clause-config c =
    subst IsConfig (sym (returns-clause-ok c))
    (IsConfig-overlay c.args.top.now c.args.self.now (subst IsConfig c.top.view_is c.top.invariant.config) (subst IsConfig c.self.view_is c.self.invariant.config))

pub invariant_of-self : goal.invariant_of-self
invariant_of-self c = record {
  sorted = ap (λ (cs : Chapters). is_sorted path_cmp (chapters_rows cs)) c.in_ok-self-inside.ensures ∙ c.in_ok-lay_chapters.ensures.sorted;
  config = returns-clause-config c;
  laid = subst AreLaid (sym c.in_ok-self-inside.ensures) c.lay_chapters.ensures.laid;
}
