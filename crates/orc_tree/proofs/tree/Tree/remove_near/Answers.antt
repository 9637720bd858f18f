use Rattle.std.proofs.Common.{◌≡◌, ap, subst, ◌∙◌}
use Rattle.std.proofs.lemmas.Result.{on_ok_weaker}
use Rattle.orc_path.specs.Configurations.{Config, IsConfig, drop_item}
use Rattle.orc_path.proofs.ConfigurationLaws.{IsConfig-drop_item}
use Rattle.orc_tree.specs.Pages.{listed, chapters_rows}
use Rattle.orc_tree.specs.inside.Removal.{kept_of}
use Rattle.orc_tree.proofs.Maps.{map_of}
use Rattle.orc_tree.proofs.Edited.{map_of-kept, sorted-kept, AreChapters-edited}
use Rattle.orc_tree.proofs.tree.Tree.remove_near.Goals as goal
use Rattle.orc_tree.proofs.tree.Tree.remove_near.Goals.{After-remove_shared}

removed_is : (c : After-remove_shared) → map_of (kept_of c.args.path.now (chapters_rows (listed c.self.inside.list))) ≡ drop_item c.args.self.now c.args.path.now
removed_is c = map_of-kept c.args.path.now (chapters_rows (listed c.self.inside.list)) c.self.invariant.sorted ∙ ap (λ (m : Config). drop_item m c.args.path.now) c.self.view_is

pub returns-clause-ok : goal.returns-clause-ok
returns-clause-ok c = on_ok_weaker c.remove_shared.result (λ is. ap map_of is ∙ removed_is c) c.remove_shared.ensures.ok

pub invariant_of-self : goal.invariant_of-self
invariant_of-self c =
    AreChapters-edited c.remove_shared.result (listed c.self.inside.list) (listed c.remove_shared.new.list) _ (drop_item c.args.self.now c.args.path.now) c.self.invariant c.remove_shared.ensures.ok c.remove_shared.ensures.err
    (sorted-kept c.args.path.now (chapters_rows (listed c.self.inside.list)) c.self.invariant.sorted)
    (removed_is c)
    (IsConfig-drop_item c.args.self.now c.args.path.now (subst IsConfig c.self.view_is c.self.invariant.config))
    c.remove_shared.ensures.laid

pub returns-clause-config : goal.returns-clause-config
returns-clause-config c = (invariant_of-self c).config
