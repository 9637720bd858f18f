use Rattle.std.proofs.Common.{All, subst}
use Rattle.orc_refs.specs.Stores.{store_of}
use Rattle.orc_refs.specs.inside.Plans.{PutsAtPath}
use Rattle.orc_refs.proofs.PlannedLaws.{looked_ahead}
use Rattle.orc_refs.proofs.planning.preview_moves.Goals as goal

pub returns-in-Ok-clause-leads : goal.returns-in-Ok-clause-leads
returns-in-Ok-clause-leads g c =
    looked_ahead (store_of c.args.base.now c.args.tree.now c.args.backs.now) c.in-Ok.outlook.base c.args.moves.now c.args.edits.now c.in-Ok.outlook.due.set.changes c.set_of.result.changes
    c.in-Ok.ensures.planned.rows c.in-Ok.ensures.base c.requires.kept.store.tree c.in-Ok.ensures.planned.planned
    (subst (All PutsAtPath) c.as_slice.ensures c.put_at_paths.ensures) c.set_of.ensures
