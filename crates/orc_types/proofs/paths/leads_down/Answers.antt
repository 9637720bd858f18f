use Rattle.orc_types.proofs.paths.leads_down.Goals as goal

pub split_at-requires-text-text : goal.split_at-requires-text-text
split_at-requires-text-text c κs = c.loop-part.invariant.utf8
