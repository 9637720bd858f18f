use Rattle.std.proofs.Common.{◌∙◌}
use Rattle.std.specs.FinMap.{get}
use Rattle.orc_refs.proofs.PathLaws.{some_copied}
use Rattle.orc_refs.proofs.plan.place_at.Goals as goal

pub ids_at-requires : goal.ids_at-requires
ids_at-requires c = λ some. some_copied c.get_near-here.result (get c.args.store.now.tree.now c.args.path.now) c.get_near-here.ensures.item ∙ c.requires c.args.path.now some
