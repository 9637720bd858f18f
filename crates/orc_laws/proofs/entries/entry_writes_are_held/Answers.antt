use Rattle.orc_laws.proofs.EntryWrites.{entry_writes_held}
use Rattle.orc_laws.proofs.entries.entry_writes_are_held.Goals as goal

pub returns : goal.returns
returns c = entry_writes_held c.planned_stands.ensures c.changes_are_held.ensures
