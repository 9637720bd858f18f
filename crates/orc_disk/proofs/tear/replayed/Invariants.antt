use Rattle.std.proofs.Common.{◌≡◌, ◌≤◌, length, take, []}
use Rattle.orc_disk.specs.History.{content_of, synced_of, IsImage}
use Rattle.orc_disk.specs.inside.Kept.{changes_of, written_count}
use Rattle.orc_disk.proofs.tear.replayed.Given as goal

-- both files are those of the changes so far, and the bytes of the later ones stand after theirs
abbrev pub invariant-loop-change : goal.invariant-loop-change
invariant-loop-change l =
    let so_far = take l.change-index l.changes in
    record {
      whole : l.whole.items ≡ content_of l.start (changes_of [] so_far l.store);
      torn : IsImage l.start (changes_of [] so_far l.store) l.torn.items;
      none : l.choice ≡ 0 → l.torn.items ≡ synced_of l.start (changes_of [] so_far l.store);
      all : l.choice ≡ 3 → l.torn.items ≡ content_of l.start (changes_of [] so_far l.store);
      within : l.from ≤ length l.store;
      from : l.from ≡ written_count so_far;
    }
