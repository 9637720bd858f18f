-- What a hub notes of transactions that aren't settled is what the entries of its journal say.
use Rattle.std.specs.Prelude.{◌≡◌, ◌≢◌, ◌⊎◌, ◌+◌, ◌<◌, ◌==◌, ℕ, zero, suc, Bool, true, false, cond, not, ◌||◌, nat_eq, nat_lt, Option, None, Some, is_some, List, [], ◌∷◌, ◌++◌, All, Contains, IsTrue, length, map, take, drop}
use Rattle.std.specs.List.{filter, fold, list_any}
use Rattle.std.specs.Option.{option_map_or}
use Rattle.std.specs.Cmp.{first_so, second_so}
use Rattle.std.proofs.Common.{arith, inl, inr, refl, sym, ap, subst, ◌∙◌, ⊎_elim, eqb-true, eq-eqb, lt-ltb, ltb-true, ltb-false}
use Rattle.std.proofs.lemmas.Bool.{false≢true}
use Rattle.std.proofs.lemmas.List.{append_assoc, append-nil}
use Rattle.std.proofs.lemmas.List.Elements.{All-append, All-cons, All-contains, All-head, All-map, All-nil, All-tail, All-weaker}
use Rattle.std.proofs.lemmas.Option.{none-some}
use Rattle.orc_call.specs.declared.call.Call.{Call}
use Rattle.orc_journal.specs.Laws.{IsUnnamed, KeepsOrder, MayFollow}
use Rattle.orc_journal.specs.Orders.{are_ordered, follows, is_ordered}
use Rattle.orc_journal.specs.declared.entry.Entry.{Entry}
use Rattle.orc_journal.specs.declared.entry.Entry.TheVariants.{Intent, Decide, Abort, Settled}
use Rattle.orc_journal.proofs.Orderings.{is_ordered-push}
use Rattle.orc_hub_parts.specs.Logs.{decided_by, noted, place_for, placed_in, settled_by, unsettled_by}
use Rattle.orc_hub.specs.Mends.{names_device, resolved_on}
use Rattle.orc_hub_parts.specs.declared.log.Unsettled.{Unsettled}
use Rattle.orc_hub.proofs.Unsettling.{AreApart, all_decided, all_more, all_settled, both, gone, same_number, settled_cons}
use Rattle.orc_rules.specs.Cells.{updated_at}
use Rattle.orc_rules.specs.Network.{Noted}
use Rattle.orc_rules.specs.Told.{Told, named_call, told_by, told_with}
use Rattle.orc_rules.specs.Worlds.{AreUnsettled, DoAscend, numbers_naming, to_resolve}
use Rattle.orc_rules.proofs.Telling.{told_push, unnamed_told}

-- the number of one
abbrev pub number : Unsettled → ℕ
number one = one.t

-- numbers, in order

abbrev Ascends : List Unsettled → Type 0
Ascends [] = Unit {0}
Ascends (one ∷ later) = All (λ (other : Unsettled). one.t < other.t) later × Ascends later

abbrev Has : List Unsettled → ℕ → Type 0
Has [] t = ⊥
Has (one ∷ later) t = (one.t ≡ t) ⊎ Has later t

ascending : (xs : List Unsettled) → Ascends xs → DoAscend (map number xs)
ascending [] a = tt
ascending (x ∷ xs) a = (All-map (λ (n : ℕ). x.t < n) number xs a.0, ascending xs a.1)

contained : (xs : List Unsettled) (t : ℕ) → Has xs t → Contains (map number xs) t
contained [] t has = absurd has
contained (x ∷ xs) t (inl same) = (zero, omega arith, same)
contained (x ∷ xs) t (inr has) = let in_rest = contained xs t has in (suc in_rest.0, (let less = in_rest.1 in omega (arith, less)), in_rest.2)

apart_of : (xs : List Unsettled) → Ascends xs → AreApart xs
apart_of [] a = tt
apart_of (x ∷ xs) a = (
  All-weaker (λ (other : Unsettled). x.t < other.t) (λ (other : Unsettled). x.t ≢ other.t) (λ other less same. omega (arith, less, same)) xs a.0,
  apart_of xs a.1,
)

-- one more

has_more : (one : Unsettled) (xs : List Unsettled) (t : ℕ) → Has xs t → (n : ℕ) → Has (take n xs ++ one ∷ drop n xs) t
has_more one xs t has zero = inr has
has_more one [] t has (suc n) = absurd has
has_more one (x ∷ xs) t has (suc n) = ⊎_elim (λ same. inl same) (λ rest. inr (has_more one xs t rest n)) has

has_one : (one : Unsettled) (xs : List Unsettled) (n : ℕ) → Has (take n xs ++ one ∷ drop n xs) one.t
has_one one xs zero = inl refl
has_one one [] (suc n) = inl refl
has_one one (x ∷ xs) (suc n) = inr (has_one one xs n)

module _ (one x : Unsettled) (xs : List Unsettled) where
  abbrev at : ℕ → List Unsettled
  at n = take n (x ∷ xs) ++ one ∷ drop n (x ∷ xs)

  next : (m : ℕ) → 1 + m ≡ suc m
  next m = omega arith

  before : nat_lt one.t x.t ≡ true → placed_in one (x ∷ xs) ≡ one ∷ x ∷ xs
  before e = ap (λ (c : Bool). at (cond (not c) (1 + place_for one.t xs) 0)) e

  later : nat_lt one.t x.t ≡ false → placed_in one (x ∷ xs) ≡ x ∷ placed_in one xs
  later e = ap (λ (c : Bool). at (cond (not c) (1 + place_for one.t xs) 0)) e ∙ ap at (next (place_for one.t xs))

placed : (one : Unsettled) (xs : List Unsettled) → All (λ (other : Unsettled). one.t ≢ other.t) xs → Ascends xs → Ascends (placed_in one xs)
placed one [] differs a = (All-nil (λ (other : Unsettled). one.t < other.t), tt)
placed one (x ∷ xs) differs a = on (nat_lt one.t x.t) refl (placed one xs (All-tail (λ (other : Unsettled). one.t ≢ other.t) x xs differs) a.1)
  where
    differ : one.t ≢ x.t
    differ = All-head (λ (other : Unsettled). one.t ≢ other.t) x xs differs

    on : (b : Bool) → nat_lt one.t x.t ≡ b → Ascends (placed_in one xs) → Ascends (placed_in one (x ∷ xs))
    on true e rest =
        let less = ltb-true one.t x.t e in
        subst Ascends (sym (before one x xs e)) (
          All-cons (λ (other : Unsettled). one.t < other.t) x xs less
              (All-weaker (λ (other : Unsettled). x.t < other.t) (λ (other : Unsettled). one.t < other.t) (λ other more. omega (arith, less, more)) xs a.0),
          a,
        )
    on false e rest =
        let not_less = ltb-false one.t x.t e in
        let more : x.t < one.t = omega (arith, not_less, differ) in
        subst Ascends (sym (later one x xs e)) (
          all_more (λ (other : Unsettled). x.t < other.t) one xs more a.0 (place_for one.t xs),
          rest,
        )

-- one decided

ascends_decided : (t : ℕ) (xs : List Unsettled) → Ascends xs → Ascends (map (decided_by t) xs)
ascends_decided t [] a = tt
ascends_decided t (x ∷ xs) a = (
  all_decided (λ n. (decided_by t x).t < n) t xs (subst (λ (n : ℕ). All (λ (other : Unsettled). n < other.t) xs) (sym (same_number t x)) a.0),
  ascends_decided t xs a.1,
)

has_decided : (t : ℕ) (xs : List Unsettled) (u : ℕ) → Has xs u → Has (map (decided_by t) xs) u
has_decided t [] u has = absurd has
has_decided t (x ∷ xs) u (inl same) = inl (same_number t x ∙ same)
has_decided t (x ∷ xs) u (inr has) = inr (has_decided t xs u has)

-- one settled

ascends_settled : (t : ℕ) (xs : List Unsettled) → Ascends xs → Ascends (settled_by t xs)
ascends_settled t [] a = a
ascends_settled t (x ∷ xs) a = on (nat_eq x.t t) refl (ascends_settled t xs a.1)
  where
    on : (b : Bool) → nat_eq x.t t ≡ b → Ascends (settled_by t xs) → Ascends (settled_by t (x ∷ xs))
    on true e rest = subst Ascends (sym (settled_cons t x xs true e)) a.1
    on false e rest = subst Ascends (sym (settled_cons t x xs false e)) (all_settled (λ (other : Unsettled). x.t < other.t) t xs a.0, rest)

has_settled : (t : ℕ) (xs : List Unsettled) (u : ℕ) → (t ≡ u → ⊥) → Has xs u → Has (settled_by t xs) u
has_settled t [] u differ has = absurd has
has_settled t (x ∷ xs) u differ has = on (nat_eq x.t t) refl (has_settled t xs u differ)
  where
    on : (b : Bool) → nat_eq x.t t ≡ b → (Has xs u → Has (settled_by t xs) u) → Has (settled_by t (x ∷ xs)) u
    on true e again =
        subst (λ (l : List Unsettled). Has l u) (sym (settled_cons t x xs true e))
        (⊎_elim (λ same. absurd (differ (sym (eqb-true x.t t e) ∙ same))) (λ rest. rest) has)
    on false e again =
        subst (λ (l : List Unsettled). Has l u) (sym (settled_cons t x xs false e))
        (⊎_elim (λ same. inl same) (λ rest. inr (again rest)) has)

-- what entries say

apart : {A : Type 0} (f : ℕ → A) (t : ℕ) (a : A) (u : ℕ) → (t ≡ u → ⊥) → updated_at f t a u ≡ f u
apart {A = A} f t a u differ = on (nat_eq t u) refl
  where
    on : (b : Bool) → nat_eq t u ≡ b → cond b a (f u) ≡ f u
    on true e = absurd (differ (eqb-true t u e))
    on false e = refl

here_it_is : {A : Type 0} (f : ℕ → A) (t : ℕ) (a : A) → updated_at f t a t ≡ a
here_it_is f t a = ap (λ (b : Bool). cond b a (f t)) (let same : nat_eq t t ≡ true = eq-eqb t t refl in same)

pub record IsNoted (told : Told) (one : Unsettled) : Type 0 where
  pub intent : Noted Call
  pub known : told.intents one.t ≡ Some intent
  pub names : (device : ℕ) → intent.plan.names device ≡ list_any (nat_eq device) one.devices
  pub decided : is_some (told.place one.t) ≡ one.is_decided

pub record AreNoted (told : Told) (xs : List Unsettled) : Type 0 where
  pub each : All (IsNoted told) xs
  pub ascends : Ascends xs
  pub only : (t : ℕ) → told.intents t ≢ None → Has xs t

module _ (entries : List Entry) where
  abbrev now : Told
  now = told_by entries

  abbrev then : Entry → Told
  then e = told_with entries now e

  differs : (xs : List Unsettled) (t : ℕ) → IsUnnamed entries t → All (IsNoted now) xs → All (λ (other : Unsettled). t ≢ other.t) xs
  differs xs t unnamed each =
      All-weaker (IsNoted now) (λ (other : Unsettled). t ≢ other.t)
      (λ other n same. none-some n.intent (sym (unnamed_told t entries unnamed).0 ∙ ap now.intents same ∙ n.known)) xs each

  still_intent : (t : ℕ) (call : Call) (devices : List ℕ) (one : Unsettled) → t ≢ one.t → IsNoted now one → IsNoted (then (Intent t call devices)) one
  still_intent t call devices one differ n = record {
    intent = n.intent;
    known = apart now.intents t (Some (record { plan = named_call call devices; base = now.history })) one.t differ ∙ n.known;
    names = n.names;
    decided = n.decided;
  }

  still_settled : (t : ℕ) (one : Unsettled) → IsNoted now one → one.t ≢ t → IsNoted (then (Settled t)) one
  still_settled t one n differ = record {
    intent = n.intent;
    known = apart now.intents t None one.t (λ same. differ (sym same)) ∙ n.known;
    names = n.names;
    decided = n.decided;
  }

  still_decided : (t : ℕ) (one : Unsettled) → IsNoted now one → IsNoted (then (Decide t)) (decided_by t one)
  still_decided t one n = on (nat_eq one.t t) refl
    where
      on : (b : Bool) → nat_eq one.t t ≡ b → IsNoted (then (Decide t)) (cond b (record one { is_decided = true }) one)
      on true e =
          let same : one.t ≡ t = eqb-true one.t t e in
          record {
            intent = n.intent;
            known = n.known;
            names = n.names;
            decided = subst (λ (u : ℕ). is_some (updated_at now.place t (Some (length now.history + 1)) u) ≡ true) (sym same)
                (ap is_some (here_it_is now.place t (Some (length now.history + 1))));
          }
      on false e =
          let differ : t ≡ one.t → ⊥ = λ same. false≢true (sym e ∙ (let yes : nat_eq one.t t ≡ true = eq-eqb one.t t (sym same) in yes)) in
          record {
            intent = n.intent;
            known = n.known;
            names = n.names;
            decided = ap is_some (apart now.place t (Some (length now.history + 1)) one.t differ) ∙ n.decided;
          }

  one_told : (xs : List Unsettled) (e : Entry) → MayFollow entries e → AreNoted now xs → AreNoted (then e) (noted xs e)
  one_told xs (Intent t call devices) may own =
      let one : Unsettled = record { t = t; devices = devices; is_decided = false } in
      let none = unnamed_told t entries may in
      let others = differs xs t may own.each in
      let new : IsNoted (then (Intent t call devices)) one = record {
        intent = record { plan = named_call call devices; base = now.history };
        known = here_it_is now.intents t (Some (record { plan = named_call call devices; base = now.history }));
        names = λ device. refl;
        decided = ap is_some none.1;
      } in
      record {
        each = all_more (IsNoted (then (Intent t call devices))) one xs new
            (both {P = λ (x : Unsettled). t ≢ x.t} {Q = IsNoted now} {R = IsNoted (then (Intent t call devices))} (λ x differ n. still_intent t call devices x differ n) xs others own.each)
            (place_for t xs);
        ascends = placed one xs others own.ascends;
        only = λ u told. is_there (nat_eq t u) u refl told;
      }
    where
      is_there : (b : Bool) → (u : ℕ) → nat_eq t u ≡ b → updated_at now.intents t (Some (record { plan = named_call call devices; base = now.history })) u ≢ None
          → Has (placed_in (record { t = t; devices = devices; is_decided = false }) xs) u
      is_there true u e told = subst (Has (placed_in (record { t = t; devices = devices; is_decided = false }) xs)) (eqb-true t u e) (has_one (record { t = t; devices = devices; is_decided = false }) xs (place_for t xs))
      is_there false u e told =
          has_more (record { t = t; devices = devices; is_decided = false }) xs u
          (own.only u (λ none. told (apart now.intents t (Some (record { plan = named_call call devices; base = now.history })) u (λ same. false≢true (sym e ∙ (let yes : nat_eq t u ≡ true = eq-eqb t u same in yes))) ∙ none)))
          (place_for t xs)
  one_told xs (Decide t) may own = record {
    each = All-map (IsNoted (then (Decide t))) (decided_by t) xs
        (All-weaker (IsNoted now) (λ (one : Unsettled). IsNoted (then (Decide t)) (decided_by t one)) (still_decided t) xs own.each);
    ascends = ascends_decided t xs own.ascends;
    only = λ u told. has_decided t xs u (own.only u told);
  }
  one_told xs (Abort t) may own = own
  one_told xs (Settled t) may own = record {
    each = both {P = IsNoted now} {Q = λ (x : Unsettled). x.t ≢ t} {R = IsNoted (then (Settled t))} (still_settled t) (settled_by t xs) (all_settled (IsNoted now) t xs own.each)
        (gone t xs (apart_of xs own.ascends));
    ascends = ascends_settled t xs own.ascends;
    only = λ u told. settled_there (nat_eq t u) u refl told;
  }
    where
      settled_there : (b : Bool) (u : ℕ) → nat_eq t u ≡ b → updated_at now.intents t None u ≢ None → Has (settled_by t xs) u
      settled_there true u e told = absurd (told (subst (λ (v : ℕ). updated_at now.intents t None v ≡ None) (eqb-true t u e) (here_it_is now.intents t None)))
      settled_there false u e told =
          let differ : t ≡ u → ⊥ = λ same. false≢true (sym e ∙ (let yes : nat_eq t u ≡ true = eq-eqb t u same in yes)) in
          has_settled t xs u differ (own.only u (λ none. told (apart now.intents t None u differ ∙ none)))

told_along : KeepsOrder → (before rest : List Entry) (xs : List Unsettled) → IsTrue (is_ordered before) → IsTrue (are_ordered before rest) → AreNoted (told_by before) xs
    → AreNoted (told_by (before ++ rest)) (fold noted xs rest)
told_along law before [] xs ordered more own = subst (λ (l : List Entry). AreNoted (told_by l) xs) (sym (append-nil before)) own
told_along law before (e ∷ rest) xs ordered more own =
    let next = first_so (follows before e) (are_ordered (before ++ e ∷ []) rest) more in
    subst (λ (l : List Entry). AreNoted (told_by l) (fold noted (noted xs e) rest)) (append_assoc before (e ∷ []) rest)
    (told_along law (before ++ e ∷ []) rest (noted xs e) (is_ordered-push before e ordered next) (second_so (follows before e) (are_ordered (before ++ e ∷ []) rest) more)
    (subst (λ (told : Told). AreNoted told (noted xs e)) (sym (told_push before e)) (one_told before xs e ((law before e ordered).0 next) own)))

-- what the hub notes of entries in order is what they say
pub noted_so : KeepsOrder → (entries : List Entry) → IsTrue (is_ordered entries) → AreNoted (told_by entries) (unsettled_by entries)
noted_so law entries ordered =
    told_along law [] entries [] refl ordered (record { each = All-nil (IsNoted (told_by [])); ascends = tt; only = λ t told. absurd (told refl) })

pub are_unsettled : (told : Told) (xs : List Unsettled) → AreNoted told xs → AreUnsettled told (map number xs)
are_unsettled told xs own = record {
  ascending = ascending xs own.ascends;
  all = λ t. (
    All-contains (λ (n : ℕ). told.intents n ≢ None) (map number xs) t
        (All-map (λ (n : ℕ). told.intents n ≢ None) number xs
        (All-weaker (IsNoted told) (λ (one : Unsettled). told.intents one.t ≢ None) (λ one n none. none-some n.intent (sym none ∙ n.known)) xs own.each)),
    λ intents. contained xs t (own.only t intents),
  );
}

-- what is to be resolved on a device

nat_eq_turned : (a b : ℕ) → nat_eq a b ≡ (b == a)
nat_eq_turned a b = on (nat_eq a b) refl (nat_eq b a) refl
  where
    on : (x : Bool) → nat_eq a b ≡ x → (y : Bool) → nat_eq b a ≡ y → nat_eq a b ≡ nat_eq b a
    on true e true f = e ∙ sym f
    on false e false f = e ∙ sym f
    on true e false f = absurd (false≢true (sym f ∙ (let yes : nat_eq b a ≡ true = eq-eqb b a (sym (eqb-true a b e)) in yes)))
    on false e true f = absurd (false≢true (sym e ∙ (let yes : nat_eq a b ≡ true = eq-eqb a b (sym (eqb-true b a f)) in yes)))

any_turned : (device : ℕ) (devices : List ℕ) → list_any (nat_eq device) devices ≡ list_any (λ other. other == device) devices
any_turned device [] = refl
any_turned device (other ∷ devices) = λ i. nat_eq_turned device other i || any_turned device devices i

module _ (told : Told) (device : ℕ) where
  abbrev is_named : ℕ → Bool
  is_named t = option_map_or (λ (intent : Noted Call). intent.plan.names device) (told.intents t) false

  abbrev both_of : Unsettled → ℕ × Bool
  both_of one = (one.t, one.is_decided)

  named_same : (one : Unsettled) → IsNoted told one → is_named one.t ≡ names_device device one
  named_same one n =
      ap (λ (o : Option (Noted Call)). option_map_or (λ (intent : Noted Call). intent.plan.names device) o false) n.known ∙ n.names device ∙ any_turned device one.devices

  pub resolved_same : (xs : List Unsettled) → All (IsNoted told) xs → map (to_resolve told) (numbers_naming told device (map number xs)) ≡ resolved_on device xs
  resolved_same [] each = refl
  resolved_same (x ∷ xs) each = on (names_device device x) refl (resolved_same xs (All-tail (IsNoted told) x xs each))
    where
      n : IsNoted told x
      n = All-head (IsNoted told) x xs each

      on : (b : Bool) → names_device device x ≡ b
          → map (to_resolve told) (filter is_named (map number xs)) ≡ map both_of (filter (names_device device) xs)
          → map (to_resolve told) (cond (is_named x.t) (x.t ∷ filter is_named (map number xs)) (filter is_named (map number xs)))
          ≡ map both_of (cond (names_device device x) (x ∷ filter (names_device device) xs) (filter (names_device device) xs))
      on true e rest =
          ap (λ (b : Bool). map (to_resolve told) (cond b (x.t ∷ filter is_named (map number xs)) (filter is_named (map number xs)))) (named_same x n ∙ e)
          ∙ (λ i. (x.t, n.decided i) ∷ rest i)
          ∙ sym (ap (λ (b : Bool). map both_of (cond b (x ∷ filter (names_device device) xs) (filter (names_device device) xs))) e)
      on false e rest =
          ap (λ (b : Bool). map (to_resolve told) (cond b (x.t ∷ filter is_named (map number xs)) (filter is_named (map number xs)))) (named_same x n ∙ e)
          ∙ rest
          ∙ sym (ap (λ (b : Bool). map both_of (cond b (x ∷ filter (names_device device) xs) (filter (names_device device) xs))) e)
