use Rattle.std.proofs.Common.{◌≡◌, ◌++◌, ◌+◌, ◌≤◌, true, drop, take}
use Rattle.std.specs.FinMap.{from_sorted}
use Rattle.orc_refs.specs.inside.Marks.{paths_in}
use Rattle.orc_refs.specs.inside.Plans.{all_agree, puts_due, removals_due, rows_due}
use Rattle.orc_refs.proofs.plan.plan_of.Given as goal

-- what is planned so far, with what is left, is all
abbrev pub invariant-loop-row : goal.invariant-loop-row
invariant-loop-row g l = record {
  rows : l.with_pointers ≡ true → l.plan.rows ++ rows_due (from_sorted l.store.backs.now) l.moves (drop l.row-index (paths_in l.touched)) ≡ rows_due (from_sorted l.store.backs.now) l.moves (paths_in l.touched);
  removals : l.plan.removals ++ removals_due (from_sorted l.store.backs.now) l.store.tree.now l.store.base.now l.moves (drop l.row-index (paths_in l.touched)) ≡ removals_due (from_sorted l.store.backs.now) l.store.tree.now l.store.base.now l.moves (paths_in l.touched);
  puts : l.plan.puts ++ puts_due (from_sorted l.store.backs.now) l.store.tree.now l.store.base.now l.moves (drop l.row-index (paths_in l.touched)) ≡ puts_due (from_sorted l.store.backs.now) l.store.tree.now l.store.base.now l.moves (paths_in l.touched);
  before : all_agree (from_sorted l.store.backs.now) l.store.tree.now l.store.base.now l.moves (take l.row-index (paths_in l.touched)) ≡ true;
  steps : l.steps ≤ l.fn.steps + l.row-index;
}
