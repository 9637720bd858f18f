use Rattle.std.proofs.Common.{◌∙◌}
use Rattle.orc_refs.proofs.planning.look_ahead.Goals as goal

pub due_on-requires : goal.due_on-requires
due_on-requires g c = record {
  kept = c.requires.kept;
  start = c.requires.start;
  distinct = c.requires.distinct;
  whole = c.requires.whole;
  config = c.in_ok-new.ensures.config;
  changes = c.as_slice-changes.ensures ∙ c.in_ok-new.ensures.changes;
}
