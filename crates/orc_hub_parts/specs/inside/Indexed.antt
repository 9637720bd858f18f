-- Where the slots of callers are.
use Rattle.std.specs.Prelude.{◌≡◌, ℕ, Bool, true, ◌&&◌, List, [], ◌∷◌, ◌++◌, Option, Some, None, is_some, length, slice_get, slice_set, if◌then◌else◌}
use Rattle.std.specs.BTreeMap.{get}
use Rattle.std.specs.Option.{option_and_then}
use Rattle.std.specs.Ordering.{is_eq, nat_cmp}
use Rattle.orc_decls.specs.Devices.{is_same_text}
use Rattle.orc_decls.specs.Names.{place_of}
use Rattle.orc_hub_parts.specs.declared.index.Calls.{Calls}
use Rattle.orc_hub_parts.specs.declared.index.Index.{Index}
use Rattle.orc_rules.specs.declared.asked.Asked.{Asked}

-- the slots of a caller, where it is known
abbrev pub calls_among : Index → List ℕ → Option Calls
calls_among index caller = option_and_then (λ k. slice_get index.rows k) (place_of index.callers caller)

-- the caller is known
abbrev pub IsKnown : Index → List ℕ → Type 0
IsKnown index caller = is_some (calls_among index caller) ≡ true

-- the place of the slot of a caller and number
abbrev pub place_in : Index → List ℕ → ℕ → Option ℕ
place_in index caller number =
    option_and_then (λ calls. get nat_cmp calls.places number) (calls_among index caller)

-- the place of the slot that a caller opened last
abbrev pub latest_in : Index → List ℕ → Option ℕ
latest_in index caller = option_and_then (λ calls. calls.latest) (calls_among index caller)

-- beside each caller stand its slots
abbrev pub IsPaired : Index → Type 0
IsPaired index = length index.rows ≡ length index.callers

-- with one more caller, and its slots
abbrev pub with_caller : Index → List ℕ → Calls → Index
with_caller index caller calls =
    record { callers = index.callers ++ caller ∷ []; rows = index.rows ++ calls ∷ [] }

-- the slots at this place changed so
abbrev pub ChangesRow : List Calls → List Calls → ℕ → (Calls → Calls → Type 0) → Type 0
ChangesRow old new k IsSo = (before : Calls) × (behind : Calls) × (slice_get old k ≡ Some before)
    × (new ≡ slice_set old k behind) × IsSo before behind

-- the slot of this number is at this place besides
abbrev pub NotesCall : ℕ → ℕ → Calls → Calls → Type 0
NotesCall number place before behind = (behind.latest ≡ before.latest)
    × ((n : ℕ) → get nat_cmp behind.places n ≡ (if is_eq (nat_cmp number n) then Some place else get nat_cmp before.places n))

-- the same slots are found
abbrev pub KeepsCalls : Calls → Calls → Type 0
KeepsCalls before behind =
    (behind.latest ≡ before.latest) × ((n : ℕ) → get nat_cmp behind.places n ≡ get nat_cmp before.places n)

-- the slot that was opened last is at this place
abbrev pub OpensCall : ℕ → Calls → Calls → Type 0
OpensCall place before behind = behind ≡ record before { latest = Some place }

-- the same slots are found
pub record FindsSame (old new : Index) : Type 0 where
  pub places : (caller : List ℕ) (number : ℕ) → place_in new caller number ≡ place_in old caller number
  pub latest : (caller : List ℕ) → latest_in new caller ≡ latest_in old caller

-- the slot of this caller and number is found at this place, and else the same ones are
pub record NotesPlace (old new : Index) (caller : List ℕ) (number place : ℕ) : Type 0 where
  pub places : (other : List ℕ) (n : ℕ) → place_in new other n
      ≡ (if is_same_text caller other && is_eq (nat_cmp number n) then Some place else place_in old other n)
  pub latest : (other : List ℕ) → latest_in new other ≡ latest_in old other

-- the slot that this caller opened last is at this place, and else the same ones are found
pub record NotesOpen (old new : Index) (caller : List ℕ) (place : ℕ) : Type 0 where
  pub latest : (other : List ℕ)
      → latest_in new other ≡ (if is_same_text caller other then Some place else latest_in old other)
  pub places : (other : List ℕ) (n : ℕ) → place_in new other n ≡ place_in old other n

-- Each slot is found by its caller and number, and each open one by its caller; and what is found is a slot of that
-- caller and number.
pub record AreIndexed (slots : List Asked) (index : Index) : Type 0 where
  pub paired : IsPaired index
  pub found : (place : ℕ) (slot : Asked) → slice_get slots place ≡ Some slot
      → place_in index slot.caller slot.number ≡ Some place
  pub there : (caller : List ℕ) (number place : ℕ) → place_in index caller number ≡ Some place
      → (slot : Asked) × (slice_get slots place ≡ Some slot) × (slot.caller ≡ caller) × (slot.number ≡ number)
  pub opened : (place : ℕ) (slot : Asked) → slice_get slots place ≡ Some slot → slot.is_open ≡ true
      → latest_in index slot.caller ≡ Some place
  pub latest_there : (caller : List ℕ) (place : ℕ) → latest_in index caller ≡ Some place
      → (slot : Asked) × (slice_get slots place ≡ Some slot) × (slot.caller ≡ caller)
