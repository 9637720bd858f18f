-- What bytes begin with.
use Rattle.std.specs.Prelude.{◌≡◌, ℕ, ◌<◌, ◌^◌, List, [], ◌∷◌, ◌++◌, length, take, All, IsTrue}
use Rattle.std.specs.Int.{w16, w32, w64, to_be_bytes}
use Rattle.std.specs.List.{flat_map}
use Rattle.orc_call.specs.declared.call.Call.{Call}
use Rattle.orc_call.specs.Encoding.{IsCall, call_bytes}
use Rattle.orc_journal.specs.Entries.{entry_kind, payload, devices_bytes, AreDevices, entry_bytes, IsEntry, IsWritable}
use Rattle.orc_journal.specs.Orders.{follows}
use Rattle.orc_journal.specs.inside.Stages.{AreStages}
use Rattle.orc_journal.specs.declared.order.Stages.{Stages}
use Rattle.orc_journal.specs.declared.entry.Entry.{Entry}

-- the bytes don't begin with this prefix
abbrev pub BeginsOtherwise : List ℕ → List ℕ → Type 0
BeginsOtherwise bytes front = (rest : List ℕ) → bytes ≡ front ++ rest → ⊥

-- the bytes begin with an entry that can be written, and the rest follows
pub record HasEntry (bytes : List ℕ) (entry : Entry) (rest : List ℕ) : Type 0 where
  pub writable : IsWritable entry
  pub parts : bytes ≡ entry_bytes entry ++ rest

-- the bytes begin with no such entry
abbrev pub HasNoEntry : List ℕ → Type 0
HasNoEntry bytes = (entry : Entry) (rest : List ℕ) → HasEntry bytes entry rest → ⊥

-- the bytes begin with no such entry that may stand after these
abbrev pub HasNoNext : List Entry → List ℕ → Type 0
HasNoNext before bytes =
    (entry : Entry) (rest : List ℕ) → HasEntry bytes entry rest → IsTrue (follows before entry) → ⊥

-- they begin with one, after which these entries are read; the rest follows, and the stages are known
pub record HasNext (before : List Entry) (bytes : List ℕ) (after : List Entry) (rest : List ℕ) (stages : Stages)
    : Type 0 where
  pub entry : Entry
  pub there : HasEntry bytes entry rest
  pub may_follow : IsTrue (follows before entry)
  pub read : after ≡ before ++ entry ∷ []
  pub counted : AreStages stages after

-- the bytes are a kind, the length of what an entry says, what it says, and the rest
pub record HasFrame (bytes : List ℕ) (kind : ℕ) (says rest : List ℕ) : Type 0 where
  pub short : length says < 2 ^ 32
  pub parts : bytes ≡ kind ∷ to_be_bytes w32 (length says) ++ (says ++ rest)

abbrev pub HasNoFrame : List ℕ → Type 0
HasNoFrame bytes = (kind : ℕ) (says rest : List ℕ) → HasFrame bytes kind says rest → ⊥

-- an entry of this kind says this
pub record Says (kind : ℕ) (says : List ℕ) (entry : Entry) : Type 0 where
  pub of_kind : kind ≡ entry_kind entry
  pub fields : IsEntry entry
  pub parts : says ≡ payload entry

-- no entry of this kind does
abbrev pub SaysNothing : ℕ → List ℕ → Type 0
SaysNothing kind says = (entry : Entry) → Says kind says entry → ⊥

-- the bytes begin with a number, and the rest follows
pub record HasNumber (bytes : List ℕ) (number : ℕ) (rest : List ℕ) : Type 0 where
  pub fits : number < 2 ^ 64
  pub parts : bytes ≡ to_be_bytes w64 number ++ rest

-- the bytes are no number
abbrev pub IsNoNumber : List ℕ → Type 0
IsNoNumber bytes = (number : ℕ) → HasNumber bytes number [] → ⊥

-- the bytes begin with a count of two bytes, and the rest follows
pub record HasCount (bytes : List ℕ) (count : ℕ) (rest : List ℕ) : Type 0 where
  pub fits : count < 2 ^ 16
  pub parts : bytes ≡ to_be_bytes w16 count ++ rest

-- the bytes begin with the encoding of a call, and the rest follows
pub record HasCall (bytes : List ℕ) (call : Call) (rest : List ℕ) : Type 0 where
  pub lawful : IsCall call
  pub parts : bytes ≡ call_bytes call ++ rest

-- the bytes begin with no call
abbrev pub HasNoCall : List ℕ → Type 0
HasNoCall bytes = (call : Call) (rest : List ℕ) → HasCall bytes call rest → ⊥

-- the bytes are the numbers of devices, after their count
pub record HasDevices (bytes devices : List ℕ) : Type 0 where
  pub lawful : AreDevices devices
  pub parts : bytes ≡ devices_bytes devices

-- they are the numbers of no devices
abbrev pub HasNoDevices : List ℕ → Type 0
HasNoDevices bytes = (devices : List ℕ) → HasDevices bytes devices → ⊥

-- the bytes are so many numbers of two bytes
pub record AreNumbers (bytes : List ℕ) (count : ℕ) (numbers : List ℕ) : Type 0 where
  pub counted : length numbers ≡ count
  pub fit : All (λ number. number < 2 ^ 16) numbers
  pub parts : bytes ≡ flat_map (to_be_bytes w16) numbers

-- the bytes are the first of the file
abbrev pub IsFront : List ℕ → List ℕ → Type 0
IsFront bytes file = bytes ≡ take (length bytes) file
