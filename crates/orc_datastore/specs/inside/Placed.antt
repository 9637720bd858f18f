-- Services in slots, and the place of each by its name.
use Rattle.std.specs.Prelude.{◌≡◌, ℕ, ◌+◌, ◌≤◌, Bool, true, false, is_some, List, map, All, Option, None, if◌then◌else◌, Vec, vec_len, vec_capacity, slice_get}
use Rattle.std.specs.declared.option.Option.TheVariants.{Some}
use Rattle.std.specs.Option.{option_and_then, option_map_or, option_to_list}
use Rattle.std.specs.Ordering.{nat_cmp}
use Rattle.std.specs.Cmp.Lexicographic.{slice_cmp}
use Rattle.std.specs.BTreeMap.{BTreeMap, get}
use Rattle.std.specs.List.{flat_map, IsDistinct}
use Rattle.orc_datastore.specs.States.{has_id}
use Rattle.orc_decls.specs.Devices.{is_same_text}
use Rattle.orc_datastore.specs.declared.service.Service.{Service}

-- the services that stand in slots, some of which may be empty
abbrev pub filled : List (Option Service) → List Service
filled slots = flat_map option_to_list slots

-- the slot of this place holds a service of this name
abbrev pub is_at : List (Option Service) → List ℕ → ℕ → Bool
is_at slots id place =
    option_map_or (λ slot. option_map_or (has_id id) slot false) (slice_get slots place) false

-- the place that each name is found at is the only one at which a service has it
pub record IsPlaced (slots : List (Option Service)) (place_of : List ℕ → Option ℕ) : Type 0 where
  pub there : (id : List ℕ) (place : ℕ) → place_of id ≡ Some place → is_at slots id place ≡ true
  pub alone : (id : List ℕ) (place : ℕ) → is_at slots id place ≡ true → place_of id ≡ Some place

-- no two services have one name
abbrev pub AreNamedOnce : List Service → Type 0
AreNamedOnce live = IsDistinct is_same_text (map (λ service. service.id) live)

-- what is noted of a name
abbrev pub noted : BTreeMap (List ℕ) ℕ → List ℕ → Option ℕ
noted places id = get (slice_cmp nat_cmp) places id

-- the place of each service in a slot is noted under its name
pub record AreNoted (slots : List (Option Service)) (places : BTreeMap (List ℕ) ℕ) : Type 0 where
  pub place : (id : List ℕ) (place : ℕ) → is_at slots id place ≡ true → noted places id ≡ Some place

-- the noted place of a name, where the slot there holds a service of the name
abbrev pub place_among : List (Option Service) → BTreeMap (List ℕ) ℕ → List ℕ → Option ℕ
place_among slots places id =
    option_and_then (λ place. if is_at slots id place then Some place else None) (noted places id)

-- what was noted is noted so still
abbrev pub KeepsNoted : BTreeMap (List ℕ) ℕ → BTreeMap (List ℕ) ℕ → Type 0
KeepsNoted places places' = (id : List ℕ) (place : ℕ) → noted places id ≡ Some place → noted places' id ≡ Some place

-- something is noted still of each name of which something was noted
abbrev pub KeepsNames : BTreeMap (List ℕ) ℕ → BTreeMap (List ℕ) ℕ → Type 0
KeepsNames places places' = (id : List ℕ) → is_some (noted places id) ≡ true → is_some (noted places' id) ≡ true

-- something is noted of the name of each of these services
abbrev pub HasNames : BTreeMap (List ℕ) ℕ → List Service → Type 0
HasNames places services = All (λ service. is_some (noted places service.id) ≡ true) services

-- there is room for so many slots more
abbrev pub HasRoom : {Z : Type 0} → Vec (Option Service) Z → ℕ → Type 0
HasRoom slots count = vec_len slots + count ≤ vec_capacity slots

-- there are as many slots and as much room as before
pub record KeepsRoom {Z : Type 0} (slots slots' : Vec (Option Service) Z) : Type 0 where
  pub len : vec_len slots' ≡ vec_len slots
  pub room : vec_capacity slots ≤ vec_capacity slots'

-- there is a slot more, and no room is lost but its own
pub record UsesRoom {Z : Type 0} (slots slots' : Vec (Option Service) Z) : Type 0 where
  pub len : vec_len slots' ≡ vec_len slots + 1
  pub room : vec_capacity slots ≤ vec_capacity slots'
