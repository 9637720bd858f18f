use Rattle.std.proofs.Common.{◌≡◌, sym, ◌∙◌, ap, cond, Some, rules, ℤ, to_z, of_z, w32}
use Rattle.std.proofs.lemmas.Map.Text.{btree_map_updates_str}
use Rattle.orc_value.specs.Canon.{same_text}
use Rattle.orc_types.specs.inside.Running.{by_name}
use Rattle.orc_types.proofs.Running.{put_behind}
use Rattle.orc_types.proofs.firsts.add_first.Goals as goal

pub returns-in_ok-insert-in-None : goal.returns-in_ok-insert-in-None
returns-in_ok-insert-in-None c =
    let same : to_z w32 (of_z w32 c.args.value) ≡ c.args.value = search rules in
    λ q. put_behind (by_name c.args.firsts.now) (by_name c.insert.new.self) c.args.name.now q c.args.value
    (sym c.in-None.ensures.value)
    (btree_map_updates_str c.args.name.now c.args.firsts.now c.insert.new.self _ c.in_ok-insert-in-None.ensures.updates q
    ∙ ap (λ (v : ℤ). cond (same_text c.args.name.now q) (Some v) (by_name c.args.firsts.now q)) same)
