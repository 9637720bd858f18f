-- Which numbers of transactions the journal had as it was opened, and which were given since.
use Rattle.std.specs.Prelude.{◌≡◌, ◌⊎◌, ℕ, ◌+◌, ◌^◌, ◌≤◌, ◌<◌, Bool, true, false, ◌&&◌, not, nat_lt, List, All}
use Rattle.std.specs.Ordering.{nat_cmp}
use Rattle.std.specs.BTreeSet.{contains}
use Rattle.orc_journal.specs.Entries.{number_of}
use Rattle.orc_journal.specs.Laws.{IsUnnamed}
use Rattle.orc_journal.specs.declared.entry.Entry.{Entry}
use Rattle.orc_hub_parts.specs.declared.numbers.Numbers.{Numbers}

-- the journal had the number as it was opened
abbrev pub is_noted : Numbers → ℕ → Bool
is_noted numbers t = contains nat_cmp numbers.noted t

-- it was given since
abbrev pub is_given : Numbers → ℕ → Bool
is_given numbers t = not (is_noted numbers t) && nat_lt 0 t && nat_lt t numbers.next

-- this number is noted besides
pub record NotesNumber (old new : Numbers) (t : ℕ) : Type 0 where
  pub noted : is_noted new t ≡ true
  pub others : (other : ℕ) → is_noted old other ≡ true → is_noted new other ≡ true
  pub only : (other : ℕ) → is_noted new other ≡ true → (is_noted old other ≡ true) ⊎ (other ≡ t)
  pub next : new.next ≡ old.next

-- the least number from 1 on that was neither noted nor given
pub record IsLeastFree (numbers : Numbers) (t : ℕ) : Type 0 where
  pub small : t + 1 < 2 ^ 64
  pub positive : 1 ≤ t
  pub behind : numbers.next ≤ t
  pub unnoted : is_noted numbers t ≡ false
  pub least : (lower : ℕ) → 1 ≤ lower → lower < t → (is_given numbers lower ≡ true) ⊎ (is_noted numbers lower ≡ true)

-- this number is given
pub record GivesNumber (old new : Numbers) (t : ℕ) : Type 0 where
  pub noted : new.noted ≡ old.noted
  pub next : new.next ≡ t + 1

-- the number of each entry was noted as the journal was opened, or given since; and each that was noted is an entry's
pub record AreNumbers (numbers : Numbers) (entries : List Entry) : Type 0 where
  pub taken : All (λ entry. (is_noted numbers (number_of entry) ≡ true)
      ⊎ (is_given numbers (number_of entry) ≡ true)) entries
  pub noted : (t : ℕ) → is_noted numbers t ≡ true → IsUnnamed entries t → ⊥
