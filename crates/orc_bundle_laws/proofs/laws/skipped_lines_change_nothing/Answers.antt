use Rattle.orc_bundle_laws.proofs.SkippedLines.{changes_nothing}
use Rattle.orc_bundle_laws.proofs.laws.skipped_lines_change_nothing.Goals as goal

pub returns : goal.returns
returns c = changes_nothing
