use Rattle.std.proofs.Common.{◌≡◌, ap, subst, ◌∙◌}
use Rattle.std.specs.FinMap.{insert, put}
use Rattle.std.proofs.lemmas.Result.{on_ok_weaker}
use Rattle.orc_path.specs.Order.{path_cmp}
use Rattle.orc_path.specs.Configurations.{Config, IsConfig, enter_all, ways, put_item}
use Rattle.orc_path.proofs.ConfigurationLaws.{IsConfig-put_item}
use Rattle.orc_tree.specs.Pages.{listed, chapters_rows}
use Rattle.orc_tree.specs.inside.Puts.{put_entries}
use Rattle.orc_tree.proofs.Maps.{map_of}
use Rattle.orc_tree.proofs.Chaptered.{Chapters}
use Rattle.orc_tree.proofs.Edited.{map_of-put_all, sorted-put_all, AreChapters-edited}
use Rattle.orc_tree.proofs.tree.Tree.set_near.Goals as goal
use Rattle.orc_tree.proofs.tree.Tree.set_near.Goals.{After-put_shared}

set_is : (c : After-put_shared) → map_of (put path_cmp c.args.path c.args.item (put_entries c.in_ok-missing.missing.items (chapters_rows (listed c.self.inside.list)))) ≡ put_item c.args.self.now c.args.path c.args.item
set_is c =
    let q = c.args.path in
    let missing = c.in_ok-missing.missing.items in
    map_of-put_all q c.args.item missing (chapters_rows (listed c.self.inside.list)) c.self.invariant.sorted
    ∙ ap (λ (m : Config). insert m q c.args.item)
    (subst (λ (cs : Chapters). enter_all missing (map_of (chapters_rows cs)) ≡ enter_all (ways q) (map_of (chapters_rows cs))) c.chapters_in.ensures c.in_ok-missing.ensures.entered
    ∙ ap (enter_all (ways q)) c.self.view_is)

pub returns-clause-ok : goal.returns-clause-ok
returns-clause-ok c = on_ok_weaker c.put_shared.result (λ is. ap map_of is ∙ set_is c) c.put_shared.ensures.ok

pub invariant_of-self : goal.invariant_of-self
invariant_of-self c =
    AreChapters-edited c.put_shared.result (listed c.self.inside.list) (listed c.put_shared.new.list) _ (put_item c.args.self.now c.args.path c.args.item) c.self.invariant c.put_shared.ensures.ok c.put_shared.ensures.err
    (sorted-put_all c.args.path c.args.item c.in_ok-missing.missing.items (chapters_rows (listed c.self.inside.list)) c.self.invariant.sorted)
    (set_is c)
    (IsConfig-put_item c.args.self.now c.args.path c.args.item (subst IsConfig c.self.view_is c.self.invariant.config) c.in_ok-missing.ensures.path c.requires.fits)
    c.put_shared.ensures.laid

pub returns-clause-config : goal.returns-clause-config
returns-clause-config c = (invariant_of-self c).config
