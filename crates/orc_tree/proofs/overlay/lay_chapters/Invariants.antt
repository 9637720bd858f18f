use Rattle.std.proofs.Common.{◌≡◌, true}
use Rattle.std.specs.FinMap.{from_sorted, is_sorted}
use Rattle.orc_path.specs.Order.{path_cmp}
use Rattle.orc_path.specs.Configurations.{insert_all}
use Rattle.orc_tree.specs.Pages.{chapters_rows}
use Rattle.orc_tree.specs.inside.Places.{AreLaid}
use Rattle.orc_tree.proofs.overlay.lay_chapters.Given as goal

-- to set the rows to come makes what setting all makes
abbrev pub invariant-loop-row : goal.invariant-loop-row
invariant-loop-row l = record {
  next : (goal.iterator-loop-row).can_next l.row-iterator;
  ends : (goal.iterator-loop-row).is_finite l.row-iterator;
  set : insert_all l.row-iterator (from_sorted (chapters_rows l.chapters.items)) ≡ insert_all (chapters_rows l.top) (from_sorted (chapters_rows l.fn.chapters.items));
  sorted : is_sorted path_cmp (chapters_rows l.chapters.items) ≡ true;
  laid : AreLaid l.chapters.items;
}
