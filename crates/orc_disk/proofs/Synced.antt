-- What a sync leaves of the images of a disk in memory.
use Rattle.std.specs.Prelude.{◌≡◌, ℕ, None}
use Rattle.std.proofs.Common.{sym, subst}
use Rattle.orc_disk.specs.Crashes.{LeavesNoMore}
use Rattle.orc_disk.specs.History.{History, changed, IsImage}
use Rattle.orc_disk.specs.laws.History.{IsImage-content}

pub LeavesNoMore-synced : (old now : History) (used : ℕ) → now ≡ changed old None used → LeavesNoMore (IsImage old.start old.changes) (IsImage now.start now.changes)
LeavesNoMore-synced old now used is c left =
    let image = subst (λ (h : History). IsImage h.start h.changes c) is left in
    subst (IsImage old.start old.changes) (sym image.2) (IsImage-content old.start old.changes)

-- no more may be left after a sync, where the history before it is known by another name
pub LeavesNoMore-sync : (old seen now : History) (used : ℕ) → seen ≡ old → now ≡ changed seen None used → LeavesNoMore (IsImage old.start old.changes) (IsImage now.start now.changes)
LeavesNoMore-sync old seen now used same is =
    subst (λ (h : History). LeavesNoMore (IsImage h.start h.changes) (IsImage now.start now.changes)) same (LeavesNoMore-synced seen now used is)
