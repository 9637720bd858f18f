-- A call of a history is found by its caller and number.
use Rattle.std.proofs.Common.{◌≡◌, ℕ, zero, suc, Bool, true, false, cond, ◌&&◌, nat_eq, List, [], ◌∷◌, ◌++◌, ◌⊎◌, inl, inr, length, take, get_or, Some, refl, sym, ap, subst, ◌∙◌}
use Rattle.std.specs.Prelude.{Option, slice_get}
use Rattle.std.specs.Option.{option_map_or}
use Rattle.std.specs.Ordering.{is_eq, nat_cmp}
use Rattle.std.specs.BTreeMap.{BTreeMap, get}
use Rattle.std.specs.Cmp.{Equal-is}
use Rattle.std.specs.Cmp.Lexicographic.{bytes_decides, slice_cmp}
use Rattle.std.proofs.lemmas.Bool.{false≢true, eq-eqb}
use Rattle.std.proofs.lemmas.Map.Lookups.{exact_bytes, exact_pairs, exact_unsigned}
use Rattle.std.proofs.lemmas.Option.{get_or_from_slice_get, none-some, same_Some, slice_get-get_or, slice_get_within}
use Rattle.orc_call.specs.declared.call.Call.{Call}
use Rattle.orc_datastore.specs.Legal.{IsNew, IsSame}
use Rattle.orc_state.specs.inside.Numbered.{ArePlaced, caller_and_number, compared, is_named_as}

abbrev Places : Type 0
Places = BTreeMap (List ℕ × ℕ) ℕ

-- what ties in the order is one caller and one number
same_name : (x y : List ℕ × ℕ) → is_eq (compared x y) ≡ true → x ≡ y
same_name x y h = exact_pairs (slice_cmp nat_cmp) nat_cmp exact_bytes exact_unsigned x y ((Equal-is (compared x y)).0 h)

names_same : (x y : Call) → IsSame x y → caller_and_number x ≡ caller_and_number y
names_same x y same = λ i. (same.0 i, same.1 i)

named_one : (call entry : Call) → IsSame entry call → is_named_as call entry ≡ true
named_one call entry same =
    ap (λ (b : Bool). b && nat_eq entry.number call.number) ((bytes_decides entry.caller call.caller).1 same.0)
    ∙ eq-eqb entry.number call.number same.1

-- where nothing is noted, or no such call stands at the noted place, there is none
pub found_none : (calls : List Call) (places : Places) (call : Call) (o : Option ℕ) → ArePlaced calls places → get compared places (caller_and_number call) ≡ o
    → option_map_or (λ place. option_map_or (is_named_as call) (slice_get calls place) false) o false ≡ false → IsNew calls call
found_none calls places call o placed is none k d within same =
    let entry = get_or calls k d in
    let there : slice_get calls k ≡ Some entry = slice_get-get_or calls k d within in
    let at : o ≡ Some k = sym is ∙ ap (get compared places) (sym (names_same entry call same)) ∙ placed.place k entry there in
    let stood : option_map_or (is_named_as call) (slice_get calls k) false ≡ true = ap (λ (s : Option Call). option_map_or (is_named_as call) s false) there ∙ named_one call entry same in
    false≢true (sym none ∙ ap (λ (p : Option ℕ). option_map_or (λ place. option_map_or (is_named_as call) (slice_get calls place) false) p false) at ∙ stood)

-- a place that is noted of a new call changes nothing for the others
pub placed_still : (calls : List Call) (old new : Places) (call : Call) (key : List ℕ × ℕ) (w : Option ℕ) → ArePlaced calls old → IsNew calls call → key ≡ caller_and_number call
    → ((q : List ℕ × ℕ) → get compared new q ≡ cond (is_eq (compared key q)) w (get compared old q)) → ArePlaced calls new
placed_still calls old new call key w placed fresh is put = record {
  place = λ i entry h. put (caller_and_number entry) ∙ on i entry h (is_eq (compared key (caller_and_number entry))) refl ∙ placed.place i entry h;
}
  where
    on : (i : ℕ) (entry : Call) → slice_get calls i ≡ Some entry → (t : Bool) → is_eq (compared key (caller_and_number entry)) ≡ t
        → cond t w (get compared old (caller_and_number entry)) ≡ get compared old (caller_and_number entry)
    on i entry h true e =
        let one : caller_and_number entry ≡ caller_and_number call = sym (same_name key (caller_and_number entry) e) ∙ is in
        let same : IsSame entry call = (ap (λ (n : List ℕ × ℕ). n.0) one, ap (λ (n : List ℕ × ℕ). n.1) one) in
        absurd (fresh i entry (slice_get_within calls i entry h) (subst (λ (x : Call). IsSame x call) (sym (get_or_from_slice_get calls i entry entry h)) same))
    on i entry h false e = refl

last_or_before : (calls : List Call) (call : Call) (i : ℕ) (entry : Call) → slice_get (calls ++ call ∷ []) i ≡ Some entry
    → (slice_get calls i ≡ Some entry) ⊎ ((i ≡ length calls) × (entry ≡ call))
last_or_before [] call zero entry h = inr (refl, sym (same_Some _ _ h))
last_or_before [] call (suc i) entry h = absurd (none-some entry h)
last_or_before (x ∷ calls) call zero entry h = inl h
last_or_before (x ∷ calls) call (suc i) entry h = elim (last_or_before calls call i entry h) [
  | inl there ↦ inl there
  | inr last ↦ inr (ap suc last.0, last.1)
]

-- one more call, whose place is noted
pub placed_more : (calls after : List Call) (places : Places) (call : Call) (place : ℕ) (key : List ℕ × ℕ) → ArePlaced calls places → key ≡ caller_and_number call
    → place ≡ length calls → get compared places key ≡ Some place → after ≡ calls ++ call ∷ [] → ArePlaced after places
placed_more calls after places call place key placed is last noted grown =
    subst (λ (l : List Call). ArePlaced l places) (sym grown) (record { place = λ i entry h. on i entry (last_or_before calls call i entry h) })
  where
    on : (i : ℕ) (entry : Call) → (slice_get calls i ≡ Some entry) ⊎ ((i ≡ length calls) × (entry ≡ call)) → get compared places (caller_and_number entry) ≡ Some i
    on i entry (inl there) = placed.place i entry there
    on i entry (inr h) = ap (λ (x : Call). get compared places (caller_and_number x)) h.1 ∙ ap (get compared places) (sym is) ∙ noted ∙ ap Some (last ∙ sym h.0)

first_at : (n : ℕ) (calls : List Call) (i : ℕ) (entry : Call) → slice_get (take n calls) i ≡ Some entry → slice_get calls i ≡ Some entry
first_at zero calls i entry h = absurd (none-some entry h)
first_at (suc n) [] i entry h = h
first_at (suc n) (x ∷ calls) zero entry h = h
first_at (suc n) (x ∷ calls) (suc i) entry h = first_at n calls i entry h

-- the first so many
pub fewer : (n : ℕ) (calls few : List Call) (places : Places) → ArePlaced calls places → few ≡ take n calls → ArePlaced few places
fewer n calls few places placed cut =
    subst (λ (l : List Call). ArePlaced l places) (sym cut) (record { place = λ i entry h. placed.place i entry (first_at n calls i entry h) })
