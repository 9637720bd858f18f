-- What the entries of a journal say of transactions that aren't settled.
use Rattle.std.specs.Prelude.{◌≡◌, ℕ, nat_eq, nat_lt, Bool, true, false, List, [], ◌∷◌, ◌++◌, drop, map, take, IsTrue, if◌then◌else◌}
use Rattle.std.specs.List.{fold, position, position_or_len}
use Rattle.std.specs.Option.{option_map_or}
use Rattle.orc_disk.specs.Meanings.{DiskMeaning}
use Rattle.orc_journal.specs.Opened.{Holds}
use Rattle.orc_journal.specs.Orders.{is_ordered}
use Rattle.orc_journal.specs.declared.entry.Entry.{Entry}
use Rattle.orc_journal.specs.declared.entry.Entry.TheVariants.{Intent, Decide, Abort, Settled}
use Rattle.orc_rules.specs.Admissions.{without}
use Rattle.orc_hub_parts.specs.declared.log.Log.{Log}
use Rattle.orc_hub_parts.specs.declared.log.Unsettled.{Unsettled}

-- the transaction is decided, where it has this number
abbrev pub decided_by : ℕ → Unsettled → Unsettled
decided_by t one = if nat_eq one.t t then record one { is_decided = true } else one

-- how many come before the first with a greater number
abbrev pub place_for : ℕ → List Unsettled → ℕ
place_for t unsettled = position_or_len (λ one. nat_lt t one.t) unsettled

-- with one more, before the first with a greater number
abbrev pub placed_in : Unsettled → List Unsettled → List Unsettled
placed_in one unsettled =
    take (place_for one.t unsettled) unsettled ++ one ∷ drop (place_for one.t unsettled) unsettled

-- without the transaction of this number
abbrev pub has_number : ℕ → Unsettled → Bool
has_number t one = nat_eq one.t t

abbrev pub settled_by : ℕ → List Unsettled → List Unsettled
settled_by t unsettled = option_map_or (λ place. without place unsettled) (position (has_number t) unsettled) unsettled

-- The unsettled transactions with an entry more: an Intent is one of them, a Decide decides one, and a Settled takes one
-- away.
abbrev pub noted : List Unsettled → Entry → List Unsettled
noted unsettled (Intent t call devices) = placed_in (record { t = t; devices = devices; is_decided = false }) unsettled
noted unsettled (Decide t) = map (decided_by t) unsettled
noted unsettled (Abort t) = unsettled
noted unsettled (Settled t) = settled_by t unsettled

-- the unsettled transactions of a journal, in the order of their numbers
abbrev pub unsettled_by : List Entry → List Unsettled
unsettled_by entries = fold noted [] entries

module _ {D : Type 0} (disk : DiskMeaning D) where
  -- The log is that of the journal of these declarations and entries, which stand in their order.
  pub record IsLog (log : Log D) (decls : List ℕ) (entries : List Entry) : Type 0 where
    pub holds : Holds disk log.journal decls entries
    pub ordered : IsTrue (is_ordered entries)
    pub unsettled : log.unsettled ≡ unsettled_by entries
