use Rattle.orc_types.proofs.paths.all_references.Goals as goal

pub split_at-requires-text-text : goal.split_at-requires-text-text
split_at-requires-text-text c κs = c.loop-part.invariant.utf8
