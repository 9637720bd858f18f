-- Numbered configurations, and the list of those of all devices that they stand for.
use Rattle.std.proofs.Common.{◌≡◌, ℕ, zero, suc, ◌+◌, ◌-◌, ◌<◌, ◌≤◌, ◌==◌, Bool, true, false, cond, not, List, [], ◌∷◌, ◌++◌, map, length, drop, get_or, slice_get, slice_set, None, Some, refl, sym, ap, ◌∙◌, arith, append_assoc, append-nil}
use Rattle.std.specs.Prelude.{if◌then◌else◌}
use Rattle.std.specs.declared.option.Option.{Option}
use Rattle.std.specs.FinMap.{empty, entries, len, len-empty, len-entries}
use Rattle.std.specs.Option.{option_map_or}
use Rattle.std.specs.List.{position, position_from, IsDistinct, AllByRecursion}
use Rattle.std.proofs.lemmas.Bool.{false≢true, eqb-true, eq-eqb, eqb-false, ne_eqb}
use Rattle.std.proofs.lemmas.Iterator.Adapters.{position_from-zero}
use Rattle.std.proofs.lemmas.List.{drop_more, nil_from_length}
use Rattle.std.specs.Cmp.Lexicographic.{bytes_decides}
use Rattle.orc_path.specs.Configurations.{Config, put_item}
use Rattle.orc_path.specs.Steps.{PathStep}
use Rattle.orc_path.specs.Order.{path_cmp}
use Rattle.orc_path.specs.declared.item.Item.{Item}
use Rattle.orc_call.specs.declared.call.DevicePut.{DevicePut}
use Rattle.orc_call.specs.declared.call.Put.{Put}
use Rattle.orc_template.specs.Expansions.{device_part, device_parts}
use Rattle.orc_decls.specs.Devices.{is_same_text, name_of}
use Rattle.orc_decls.specs.Openings.{put_all}
use Rattle.orc_datastore.specs.Services.{spread, written_on}
use Rattle.orc_datastore.specs.States.{expansion, puts_on}
use Rattle.orc_path.specs.declared.item.Item.TheVariants.{Entry}
use Rattle.orc_datastore.specs.Snapshots.{device_row}
use Rattle.orc_datastore.specs.inside.Sights.{enter_parts}
use Rattle.orc_datastore.specs.inside.Written.{AddsItem, TakesWrite}

abbrev Numbered : Type 0
Numbered = List (ℕ × Config)

abbrev pub at : List Config → ℕ → Config
at configs d = option_map_or (λ config. config) (slice_get configs d) empty

pub spread_length : (w : Numbered) (from count : ℕ) → length (spread w from count) ≡ count
spread_length w from zero = refl
spread_length w from (suc n) = ap suc (spread_length w (from + 1) n)

pub spread_at : (w : Numbered) (from count d : ℕ) → d < count → at (spread w from count) d ≡ written_on w (from + d)
spread_at w from zero d lt = absurd (omega (arith, lt))
spread_at w from (suc n) zero lt = ap (written_on w) (omega arith)
spread_at w from (suc n) (suc d) lt =
    let here : from + 1 + d ≡ from + suc d = omega arith in
    spread_at w (from + 1) n d (omega (arith, lt)) ∙ ap (written_on w) here

pub spread_beyond : (w : Numbered) (from count d : ℕ) → count ≤ d → at (spread w from count) d ≡ empty
spread_beyond w from zero d le = refl
spread_beyond w from (suc n) zero le = absurd (omega (arith, le))
spread_beyond w from (suc n) (suc d) le = spread_beyond w (from + 1) n d (omega (arith, le))

-- the place of a number

abbrev Is : ℕ → ℕ × Config → Bool
Is device one = one.0 == device

pub some_same : {a b : ℕ} → Some a ≡ Some b → a ≡ b
some_same {a} {b} e = ap (λ (o : Option ℕ). option_map_or (λ n. n) o a) e

pub none_some : {X : Type 0} {x : X} → None ≡ Some x → ⊥
none_some {X} {x} e = false≢true (ap (λ (o : Option X). option_map_or (λ _. true) o false) e)

from_ge : {X : Type 0} (p : X → Bool) (from n : ℕ) (xs : List X) → position_from p from xs ≡ Some n → from ≤ n
from_ge p from n [] e = absurd (none_some e)
from_ge p from n (x ∷ xs) e = on (p x) (λ i. from_ge p (from + 1) n xs i) e
  where
    on : (t : Bool) → (position_from p (from + 1) xs ≡ Some n → from + 1 ≤ n) → cond t (Some from) (position_from p (from + 1) xs) ≡ Some n
        → from ≤ n
    on true later is = omega (arith, some_same is)
    on false later is = omega (arith, later is)

pub place_is : {X : Type 0} (p : X → Bool) (xs : List X) → position p xs ≡ position_from p 0 xs
place_is p xs = position_from-zero p xs

-- the configuration that stands there is written anew
set_from : (w : Numbered) (from place device : ℕ) (c : Config) (d : ℕ) → position_from (Is device) from w ≡ Some (from + place)
    → written_on (slice_set w place (device, c)) d ≡ (if device == d then c else written_on w d)
set_from [] from place device c d is = absurd (none_some is)
set_from (x ∷ w) from zero device c d is = on (x.0 == device) refl is
  where
    over : (t : Bool) → (device == d) ≡ t → x.0 ≡ device
        → (if t then c else written_on w d) ≡ (if t then c else (if x.0 == d then x.1 else written_on w d))
    over true e same = refl
    over false e same = ap (λ b. if b then x.1 else written_on w d) (sym e ∙ ap (λ n. n == d) (sym same))

    on : (t : Bool) → (x.0 == device) ≡ t → cond t (Some from) (position_from (Is device) (from + 1) w) ≡ Some (from + 0)
        → (if device == d then c else written_on w d) ≡ (if device == d then c else (if x.0 == d then x.1 else written_on w d))
    on true same e = over (device == d) refl (eqb-true x.0 device same)
    on false same e = absurd (omega (arith, from_ge (Is device) (from + 1) (from + 0) w e))
set_from (x ∷ w) from (suc k) device c d is = on (x.0 == device) refl (λ i. set_from w (from + 1) k device c d i) is
  where
    both : (s t : Bool) → (x.0 == d) ≡ s → (device == d) ≡ t → (x.0 == device) ≡ false
        → (if s then x.1 else (if t then c else written_on w d)) ≡ (if t then c else (if s then x.1 else written_on w d))
    both true true e f differ = absurd (eqb-false x.0 device differ (eqb-true x.0 d e ∙ sym (eqb-true device d f)))
    both true false e f differ = refl
    both false true e f differ = refl
    both false false e f differ = refl

    on : (t : Bool) → (x.0 == device) ≡ t
        → (position_from (Is device) (from + 1) w ≡ Some (from + 1 + k) → written_on (slice_set w k (device, c)) d ≡ (if device == d then c else written_on w d))
        → cond t (Some from) (position_from (Is device) (from + 1) w) ≡ Some (from + suc k)
        → (if x.0 == d then x.1 else written_on (slice_set w k (device, c)) d) ≡ (if device == d then c else (if x.0 == d then x.1 else written_on w d))
    on true same later e = absurd (omega (arith, some_same e))
    on false differ later e =
        let there : from + suc k ≡ from + 1 + k = omega arith in
        ap (λ (m : Config). if x.0 == d then x.1 else m) (later (e ∙ ap Some there))
        ∙ both (x.0 == d) (device == d) refl refl differ

-- what stands there
read_from : (w : Numbered) (from place device : ℕ) (x : ℕ × Config) → position_from (Is device) from w ≡ Some (from + place) → x ≡ get_or w place x
    → (x.0 ≡ device) × (x.1 ≡ written_on w device)
read_from [] from place device x is e = absurd (none_some is)
read_from (y ∷ w) from zero device x is e = on (y.0 == device) refl is
  where
    on : (t : Bool) → (y.0 == device) ≡ t → cond t (Some from) (position_from (Is device) (from + 1) w) ≡ Some (from + 0)
        → (x.0 ≡ device) × (x.1 ≡ (if y.0 == device then y.1 else written_on w device))
    on true same i = (
      ap (λ (z : ℕ × Config). z.0) e ∙ eqb-true y.0 device same,
      ap (λ (z : ℕ × Config). z.1) e ∙ ap (λ b. if b then y.1 else written_on w device) (sym same),
    )
    on false same i = absurd (omega (arith, from_ge (Is device) (from + 1) (from + 0) w i))
read_from (y ∷ w) from (suc k) device x is e = on (y.0 == device) refl (λ i. read_from w (from + 1) k device x i e) is
  where
    on : (t : Bool) → (y.0 == device) ≡ t
        → (position_from (Is device) (from + 1) w ≡ Some (from + 1 + k) → (x.0 ≡ device) × (x.1 ≡ written_on w device))
        → cond t (Some from) (position_from (Is device) (from + 1) w) ≡ Some (from + suc k)
        → (x.0 ≡ device) × (x.1 ≡ (if y.0 == device then y.1 else written_on w device))
    on true same later i = absurd (omega (arith, some_same i))
    on false differ later i =
        let there : from + suc k ≡ from + 1 + k = omega arith in
        let rest = later (i ∙ ap Some there) in
        (rest.0, rest.1 ∙ ap (λ b. if b then y.1 else written_on w device) (sym differ))

pub set_there : (w : Numbered) (place device : ℕ) (path : List PathStep) (item : Item) (x : ℕ × Config) (new : Config) → position (Is device) w ≡ Some place
    → x ≡ get_or w place x → new ≡ put_item x.1 path item → AddsItem device path item w (slice_set w place (x.0, new))
set_there w place device path item x new is e made d =
    let at = sym (place_is (Is device) w) ∙ is in
    let old = read_from w 0 place device x (at ∙ ap Some (omega arith)) e in
    ap (λ n. written_on (slice_set w place (n, new)) d) old.0
    ∙ set_from w 0 place device new d (at ∙ ap Some (omega arith))
    ∙ over (device == d) refl
  where
    over : (t : Bool) → (device == d) ≡ t
        → (if t then new else written_on w d) ≡ (if t then put_item (written_on w d) path item else written_on w d)
    over true same =
        made ∙ ap (λ (m : Config). put_item m path item)
        ((read_from w 0 place device x (sym (place_is (Is device) w) ∙ is ∙ ap Some (omega arith)) e).1 ∙ ap (written_on w) (eqb-true device d same))
    over false same = refl

-- one of a number that none had

bare_from : (w : Numbered) (from device : ℕ) (c : Config) (d : ℕ) → position_from (Is device) from w ≡ None
    → (written_on w device ≡ empty) × (written_on (w ++ (device, c) ∷ []) d ≡ (if device == d then c else written_on w d))
bare_from [] from device c d is = (refl, refl)
bare_from (x ∷ w) from device c d is = on (x.0 == device) refl (λ i. bare_from w (from + 1) device c d i) is
  where
    both : (s t : Bool) → (x.0 == d) ≡ s → (device == d) ≡ t → (x.0 == device) ≡ false
        → (if s then x.1 else (if t then c else written_on w d)) ≡ (if t then c else (if s then x.1 else written_on w d))
    both true true e f differ = absurd (eqb-false x.0 device differ (eqb-true x.0 d e ∙ sym (eqb-true device d f)))
    both true false e f differ = refl
    both false true e f differ = refl
    both false false e f differ = refl

    on : (t : Bool) → (x.0 == device) ≡ t
        → (position_from (Is device) (from + 1) w ≡ None
        → (written_on w device ≡ empty) × (written_on (w ++ (device, c) ∷ []) d ≡ (if device == d then c else written_on w d)))
        → cond t (Some from) (position_from (Is device) (from + 1) w) ≡ None
        → ((if x.0 == device then x.1 else written_on w device) ≡ empty)
        × ((if x.0 == d then x.1 else written_on (w ++ (device, c) ∷ []) d) ≡ (if device == d then c else (if x.0 == d then x.1 else written_on w d)))
    on true same later e = absurd (none_some (sym e))
    on false differ later e =
        let rest = later e in (
          ap (λ b. if b then x.1 else written_on w device) differ ∙ rest.0,
          ap (λ (m : Config). if x.0 == d then x.1 else m) rest.1 ∙ both (x.0 == d) (device == d) refl refl differ,
        )

pub set_new : (w : Numbered) (device : ℕ) (path : List PathStep) (item : Item) (new : Config) (d : ℕ) → position (Is device) w ≡ None
    → new ≡ put_item empty path item
    → written_on (w ++ (device, new) ∷ []) d ≡ (if device == d then put_item (written_on w d) path item else written_on w d)
set_new w device path item new d is made =
    let bare = bare_from w 0 device new d (sym (place_is (Is device) w) ∙ is) in
    bare.1 ∙ over (device == d) refl bare.0
  where
    over : (t : Bool) → (device == d) ≡ t → written_on w device ≡ empty
        → (if t then new else written_on w d) ≡ (if t then put_item (written_on w d) path item else written_on w d)
    over true same none = made ∙ ap (λ (m : Config). put_item m path item) (sym none ∙ ap (written_on w) (eqb-true device d same))
    over false same none = refl

-- names, of which no two are equal

apart : (x : List ℕ) (names : List (List ℕ)) (d : ℕ) → AllByRecursion (λ other. is_same_text x other ≡ false) names → d < length names
    → is_same_text x (name_of names d) ≡ false
apart x [] d h lt = absurd (omega (arith, lt))
apart x (y ∷ names) zero h lt = h.0
apart x (y ∷ names) (suc d) h lt = apart x names d h.1 (omega (arith, lt))

named_from : (names : List (List ℕ)) (name : List ℕ) (from n d : ℕ) → IsDistinct is_same_text names
    → position_from (is_same_text name) from names ≡ Some n → d < length names → is_same_text name (name_of names d) ≡ (n == (from + d))
unfolding IsDistinct
named_from [] name from n d differ is lt = absurd (omega (arith, lt))
named_from (x ∷ names) name from n d differ is lt =
    on (is_same_text name x) refl (λ i k less. named_from names name (from + 1) n k differ.1 i less) is d lt
  where
    on : (t : Bool) → is_same_text name x ≡ t
        → (position_from (is_same_text name) (from + 1) names ≡ Some n → (k : ℕ) → k < length names → is_same_text name (name_of names k) ≡ (n == (from + 1 + k)))
        → cond t (Some from) (position_from (is_same_text name) (from + 1) names) ≡ Some n
        → (k : ℕ) → k < length (x ∷ names) → is_same_text name (name_of (x ∷ names) k) ≡ (n == (from + k))
    on true same later e zero less =
        let here : n ≡ from + 0 = omega (arith, some_same e) in
        same ∙ sym (eq-eqb n (from + 0) here)
    on true same later e (suc k) less =
        let not_here : n ≡ from + suc k → ⊥ = λ h. omega (arith, some_same e, h) in
        ap (λ (own : List ℕ). is_same_text own (name_of names k)) ((bytes_decides name x).0 same)
        ∙ apart x names k differ.0 (omega (arith, less)) ∙ sym (ne_eqb n (from + suc k) not_here)
    on false other later e zero less =
        let not_here : n ≡ from + 0 → ⊥ = λ h. omega (arith, from_ge (is_same_text name) (from + 1) n names e, h) in
        other ∙ sym (ne_eqb n (from + 0) not_here)
    on false other later e (suc k) less =
        let there : from + 1 + k ≡ from + suc k = omega arith in
        later e k (omega (arith, less)) ∙ ap (λ m. n == m) there

pub named_at : (names : List (List ℕ)) (name : List ℕ) (n d : ℕ) → IsDistinct is_same_text names → position (is_same_text name) names ≡ Some n
    → d < length names → is_same_text name (name_of names d) ≡ (n == d)
named_at names name n d differ is lt =
    let same : 0 + d ≡ d = omega arith in
    named_from names name 0 n d differ (sym (place_is (is_same_text name) names) ∙ is) lt ∙ ap (λ k. n == k) same

unnamed_from : (names : List (List ℕ)) (name : List ℕ) (from d : ℕ) → position_from (is_same_text name) from names ≡ None → d < length names
    → is_same_text name (name_of names d) ≡ false
unnamed_from [] name from d is lt = absurd (omega (arith, lt))
unnamed_from (x ∷ names) name from d is lt =
    on (is_same_text name x) refl (λ i k less. unnamed_from names name (from + 1) k i less) is d lt
  where
    on : (t : Bool) → is_same_text name x ≡ t
        → (position_from (is_same_text name) (from + 1) names ≡ None → (k : ℕ) → k < length names → is_same_text name (name_of names k) ≡ false)
        → cond t (Some from) (position_from (is_same_text name) (from + 1) names) ≡ None
        → (k : ℕ) → k < length (x ∷ names) → is_same_text name (name_of (x ∷ names) k) ≡ false
    on true same later e k less = absurd (none_some (sym e))
    on false other later e zero less = other
    on false other later e (suc k) less = later e k (omega (arith, less))

pub unnamed : (names : List (List ℕ)) (name : List ℕ) (d : ℕ) → position (is_same_text name) names ≡ None → d < length names
    → is_same_text name (name_of names d) ≡ false
unnamed names name d is lt = unnamed_from names name 0 d (sym (place_is (is_same_text name) names) ∙ is) lt

-- a write is taken

pub takes : (names : List (List ℕ)) (write : DevicePut) (n : ℕ) (w w' : Numbered) → IsDistinct is_same_text names
    → position (is_same_text write.device) names ≡ Some n → AddsItem n write.path write.item w w' → TakesWrite names write w w'
takes names write n w w' differ is adds d lt =
    adds d ∙ ap (λ b. if b then put_item (written_on w d) write.path write.item else written_on w d)
    (sym (named_at names write.device n d differ is lt))

pub takes_none : (names : List (List ℕ)) (write : DevicePut) (w : Numbered) → position (is_same_text write.device) names ≡ None → TakesWrite names write w w
takes_none names write w is d lt =
    ap (λ b. if b then put_item (written_on w d) write.path write.item else written_on w d) (sym (unnamed names write.device d is lt))

-- the writes so far: what is left puts the rest
pub record HasTaken (names : List (List ℕ)) (writes left : List DevicePut) (w : Numbered) : Type 0 where
  pub each : (d : ℕ) → d < length names
      → put_all (puts_on (name_of names d) left) (written_on w d) ≡ put_all (puts_on (name_of names d) writes) empty

pub one_taken : (names : List (List ℕ)) (writes left : List DevicePut) (write : DevicePut) (w w' : Numbered) → HasTaken names writes (write ∷ left) w
    → TakesWrite names write w w' → HasTaken names writes left w'
one_taken names writes left write w w' so takes = record {
  each = λ d lt.
      ap (put_all (puts_on (name_of names d) left)) (takes d lt) ∙ on (is_same_text write.device (name_of names d)) d ∙ so.each d lt;
}
  where
    on : (t : Bool) (d : ℕ)
        → put_all (puts_on (name_of names d) left) (if t then put_item (written_on w d) write.path write.item else written_on w d)
        ≡ put_all (if t then record { path = write.path; item = write.item } ∷ puts_on (name_of names d) left else puts_on (name_of names d) left) (written_on w d)
    on true d = refl
    on false d = refl

-- all of them
spread_map : (f : List ℕ → Config) (names : List (List ℕ)) (w : Numbered) (from : ℕ)
    → ((d : ℕ) → d < length names → written_on w (from + d) ≡ f (name_of names d)) → spread w from (length names) ≡ map f names
spread_map f [] w from h = refl
spread_map f (name ∷ names) w from h =
    let here : from ≡ from + 0 = omega arith in
    ap (λ (m : Config). m ∷ spread w (from + 1) (length names)) (ap (written_on w) here ∙ h 0 (omega arith))
    ∙ ap (λ (l : List Config). f name ∷ l) (spread_map f names w (from + 1) (λ d lt.
    let there : from + 1 + d ≡ from + suc d = omega arith in
    ap (written_on w) there ∙ h (suc d) (omega (arith, lt))))

pub all_taken : (names : List (List ℕ)) (writes : List DevicePut) (w : Numbered) → HasTaken names writes [] w
    → spread w 0 (length names) ≡ expansion names writes
all_taken names writes w so =
    spread_map (λ name. put_all (puts_on name writes) empty) names w 0 (λ d lt.
    let same : 0 + d ≡ d = omega arith in
    ap (written_on w) same ∙ so.each d lt)

-- the parts of the devices from a number on
pub parts_turn : (w : Numbered) (device count : ℕ) → device < count
    → spread w device (count - device) ≡ written_on w device ∷ spread w (device + 1) (count - (device + 1))
parts_turn w device count lt =
    let one : count - device ≡ suc (count - (device + 1)) = omega (arith, lt) in
    ap (spread w device) one

pub left_parts : (w : Numbered) (device count : ℕ) (done new all : List (ℕ × List Put)) (config : Config) → device < count → config ≡ written_on w device
    → new ≡ done ++ device_part device (entries config)
    → done ++ device_parts device (spread w device (count - device)) ≡ all
    → new ++ device_parts (device + 1) (spread w (device + 1) (count - (device + 1))) ≡ all
left_parts w device count done new all config lt is more so =
    let rest = device_parts (device + 1) (spread w (device + 1) (count - (device + 1))) in
    ap (λ (l : List (ℕ × List Put)). l ++ rest) (more ∙ ap (λ (m : Config). done ++ device_part device (entries m)) is)
    ∙ append_assoc done (device_part device (entries (written_on w device))) rest
    ∙ ap (λ (l : List Config). done ++ device_parts device l) (sym (parts_turn w device count lt)) ∙ so

abbrev no_items : Config
no_items = empty

pub bare_part : (done : List (ℕ × List Put)) (device : ℕ) → done ≡ done ++ device_part device (entries no_items)
bare_part done device =
    sym (append-nil done)
    ∙ ap (λ (rows : List (List PathStep × Item)). done ++ device_part device rows)
    (sym (nil_from_length (entries no_items) (sym (len-entries no_items) ∙ len-empty path_cmp Item)))

-- a list of configurations from a place on

get_at : (parts : List Config) (n : ℕ) (x : Config) → n < length parts → get_or parts n x ≡ at parts n
get_at [] n x lt = absurd (omega (arith, lt))
get_at (c ∷ parts) zero x lt = refl
get_at (c ∷ parts) (suc n) x lt = get_at parts n x (omega (arith, lt))

pub drop_turn : (parts : List Config) (n : ℕ) → n < length parts → drop n parts ≡ at parts n ∷ drop (n + 1) parts
drop_turn parts n lt = drop_more parts n empty lt ∙ ap (λ (c : Config). c ∷ drop (n + 1) parts) (get_at parts n empty lt)

-- one device more is entered

module _ (id : List ℕ) (parts : List Config) (d : ℕ) (known known' all : Config) (used : Bool) (lt : d < length parts)
    (is : used ≡ not (len (at parts d) == 0)) (so : enter_parts id d (drop d parts) known ≡ all) where
  abbrev turned : known' ≡ (if len (at parts d) == 0 then known else put_item known (device_row id d) Entry)
      → enter_parts id (d + 1) (drop (d + 1) parts) known' ≡ all
  turned made =
      ap (enter_parts id (d + 1) (drop (d + 1) parts)) made
      ∙ sym (ap (λ (l : List Config). enter_parts id d l known) (drop_turn parts d lt)) ∙ so

  pub entered_on : used ≡ true → known' ≡ put_item known (device_row id d) Entry → enter_parts id (d + 1) (drop (d + 1) parts) known' ≡ all
  entered_on there made = turned (on (len (at parts d) == 0) (sym is ∙ there))
    where
      on : (t : Bool) → not t ≡ true → known' ≡ (if t then known else put_item known (device_row id d) Entry)
      on true e = absurd (false≢true e)
      on false e = made

  pub entered_off : used ≡ false → known' ≡ known → enter_parts id (d + 1) (drop (d + 1) parts) known' ≡ all
  entered_off none same = turned (on (len (at parts d) == 0) (sym is ∙ none))
    where
      on : (t : Bool) → not t ≡ false → known' ≡ (if t then known else put_item known (device_row id d) Entry)
      on true e = same
      on false e = absurd (false≢true (sym e))
