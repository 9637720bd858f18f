use Rattle.std.proofs.Common.{◌≡◌, take}
use Rattle.orc_tree.specs.Pages.{rows_of}
use Rattle.orc_tree.specs.inside.Removal.{kept_of}
use Rattle.orc_tree.proofs.removal.copy_kept.Given as goal

abbrev pub invariant-loop-page : goal.invariant-loop-page
invariant-loop-page l = l.kept.items ≡ kept_of l.path (rows_of (take l.page-index l.pages))
