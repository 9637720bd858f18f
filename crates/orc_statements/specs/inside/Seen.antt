-- The names that a block has so far, in any order.
use Rattle.std.specs.Prelude.{◌≡◌, ◌||◌, ℕ, Bool, true, cond, List}
use Rattle.std.specs.List.{list_any}
use Rattle.orc_value.specs.Canon.{same_text}
use Rattle.orc_statements.specs.Names.{contains_text}

abbrev pub is_seen : List (List ℕ) → List ℕ → Bool
is_seen names name = list_any (same_text name) names

-- the names now are those of before and this one
abbrev pub HasToo : List (List ℕ) → List ℕ → List (List ℕ) → Type 0
HasToo before name now = (q : List ℕ) → is_seen now q ≡ cond (same_text name q) true (is_seen before q)

-- the names now are those of before and these
abbrev pub HasAllToo : List (List ℕ) → List (List ℕ) → List (List ℕ) → Type 0
HasAllToo before more now = (q : List ℕ) → is_seen now q ≡ (is_seen before q || contains_text more q)

-- both have the same names, however often each stands there
abbrev pub HasSame : List (List ℕ) → List (List ℕ) → Type 0
HasSame seen names = (name : List ℕ) → is_seen seen name ≡ contains_text names name
