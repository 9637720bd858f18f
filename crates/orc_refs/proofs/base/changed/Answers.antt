use Rattle.std.proofs.Common.{sym, ◌∙◌}
use Rattle.orc_refs.proofs.PlannedLaws.{unedited}
use Rattle.orc_refs.proofs.base.changed.Goals as goal

pub returns-then-is_empty : goal.returns-then-is_empty
returns-then-is_empty c = c.new-changes.ensures ∙ unedited c.args.edits.now c.args.base.now c.args.tree.now (sym c.if-is_empty.ensures) c.requires.edited
