use Rattle.std.proofs.Common.{◌≡◌, ◌≤◌}
use Rattle.std.specs.FinMap.{from_sorted}
use Rattle.orc_path.specs.Configurations.{enter_all, ways_up_to}
use Rattle.orc_tree.specs.Pages.{chapters_rows}
use Rattle.orc_tree.specs.inside.Puts.{AreGaps}
use Rattle.orc_tree.proofs.ways.missing_ways.Given as goal

-- to enter what was found is to enter all ways up to here, and no row stands from any of them up to the path
abbrev pub invariant-loop-at : goal.invariant-loop-at
invariant-loop-at l = record {
  from : l.present ≤ l.at;
  entered : enter_all l.missing.items (from_sorted (chapters_rows l.chapters)) ≡ enter_all (ways_up_to l.at l.path) (from_sorted (chapters_rows l.chapters));
  gaps : AreGaps l.path (chapters_rows l.chapters) l.missing.items;
}
