use Rattle.std.proofs.Common.{◌≡◌, length, take}
use Rattle.orc_text.specs.Counts.{capped}
use Rattle.orc_tree.specs.Pages.{rows_of}
use Rattle.orc_tree.proofs.walk.count_rows.Given as goal

abbrev pub invariant-loop-page : goal.invariant-loop-page
invariant-loop-page l = l.count ≡ capped (length (rows_of (take l.page-index l.pages)))
