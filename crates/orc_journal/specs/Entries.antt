-- The entries of a journal, and the bytes of each.
use Rattle.std.specs.Prelude.{ℕ, ◌<◌, ◌^◌, Bool, true, false, List, ◌∷◌, ◌++◌, length, All}
use Rattle.std.specs.Int.{w16, w32, w64, to_be_bytes}
use Rattle.std.specs.List.{flat_map}
use Rattle.std.specs.List.Sorted.{IsStrictlySortedBy}
use Rattle.std.specs.Ordering.{nat_cmp}
use Rattle.orc_call.specs.Encoding.{IsCall, call_bytes}
use Rattle.orc_journal.specs.declared.entry.Entry.{Entry}
use Rattle.orc_journal.specs.declared.entry.Entry.TheVariants.{Intent, Decide, Abort, Settled}
use Rattle.orc_journal.specs.declared.kind.TheConstants.{INTENT, DECIDE, ABORT, SETTLED}

-- the byte that stands for each kind of entry
abbrev pub entry_kind : Entry → ℕ
entry_kind (Intent t call devices) = INTENT
entry_kind (Decide t) = DECIDE
entry_kind (Abort t) = ABORT
entry_kind (Settled t) = SETTLED

-- the number of the transaction that an entry names
abbrev pub number_of : Entry → ℕ
number_of (Intent t call devices) = t
number_of (Decide t) = t
number_of (Abort t) = t
number_of (Settled t) = t

-- how many devices, and the number of each
abbrev pub devices_bytes : List ℕ → List ℕ
devices_bytes devices = to_be_bytes w16 (length devices) ++ flat_map (to_be_bytes w16) devices

-- what an entry says
abbrev pub payload : Entry → List ℕ
payload (Intent t call devices) = to_be_bytes w64 t ++ call_bytes call ++ devices_bytes devices
payload (Decide t) = to_be_bytes w64 t
payload (Abort t) = to_be_bytes w64 t
payload (Settled t) = to_be_bytes w64 t

-- the kind, the length of what it says, and what it says
abbrev pub entry_bytes : Entry → List ℕ
entry_bytes entry = entry_kind entry ∷ to_be_bytes w32 (length (payload entry)) ++ payload entry

-- device numbers that fit their fields, ascending
pub record AreDevices (devices : List ℕ) : Type 0 where
  pub count : length devices < 2 ^ 16
  pub numbers : All (λ device. device < 2 ^ 16) devices
  pub ascending : IsStrictlySortedBy nat_cmp devices

-- each number, count and text of the entry fits its field
abbrev pub IsEntry : Entry → Type 0
IsEntry (Intent t call devices) = (t < 2 ^ 64) × IsCall call × AreDevices devices
IsEntry (Decide t) = t < 2 ^ 64
IsEntry (Abort t) = t < 2 ^ 64
IsEntry (Settled t) = t < 2 ^ 64

-- an entry that has bytes: what it says fits its length too
pub record IsWritable (entry : Entry) : Type 0 where
  pub fields : IsEntry entry
  pub length : length (payload entry) < 2 ^ 32

-- the entries whose bytes take memory to write
abbrev pub is_intent : Entry → Bool
is_intent (Intent t call devices) = true
is_intent (Decide t) = false
is_intent (Abort t) = false
is_intent (Settled t) = false
