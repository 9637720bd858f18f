use Rattle.std.proofs.Common.{sym, ap}
use Rattle.std.proofs.lemmas.Map.Text.{btree_map_updates_str}
use Rattle.orc_modules.specs.inside.Blocks.{by_name}
use Rattle.orc_types.proofs.Running.{put_behind}
use Rattle.orc_modules.proofs.ByName.{lent, under}
use Rattle.orc_modules.proofs.firsts.add_first.Goals as goal

pub returns-in_ok-insert-in-None : goal.returns-in_ok-insert-in-None
returns-in_ok-insert-in-None c = λ q. put_behind (by_name c.args.firsts.now) (by_name c.insert.new.self) c.args.name.now q c.args.here.now
    (ap lent (sym c.in-None.ensures.value))
    (under c.args.firsts.now c.insert.new.self c.args.name.now q c.args.here (btree_map_updates_str c.args.name.now c.args.firsts.now c.insert.new.self _ c.in_ok-insert-in-None.ensures.updates q))
