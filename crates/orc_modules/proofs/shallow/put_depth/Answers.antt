use Rattle.std.proofs.Common.{rules, ◌≡◌, ◌+◌, cond, Some, ◌∙◌, ap}
use Rattle.std.proofs.lemmas.Map.Text.{btree_map_updates_str}
use Rattle.orc_value.specs.Canon.{same_text}
use Rattle.orc_modules.specs.inside.Shallow.{depth_by}
use Rattle.orc_modules.proofs.shallow.put_depth.Goals as goal

pub returns : goal.returns
returns c =
    let next : c.in-Some.next ≡ c.args.depth + 1 = search rules in
    λ q. btree_map_updates_str c.args.name.now c.args.depths.now c.insert.new.self _ c.in_ok-insert.ensures.updates q
    ∙ ap (λ n. cond (same_text c.args.name.now q) (Some n) (depth_by c.args.depths.now q)) next
