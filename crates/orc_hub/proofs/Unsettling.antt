-- The unsettled transactions of entries in order: a Settled may follow of each, and no two have one number.
use Rattle.std.proofs.Common.{◌≡◌, ◌≢◌, ℕ, zero, suc, Bool, true, false, cond, not, ◌+◌, nat_eq, nat_lt, length, List, [], ◌∷◌, ◌++◌, IsTrue, Option, None, Some, All, map, take, drop, fold, refl, sym, ap, subst, ◌∙◌, append_assoc, append-nil, eqb-true, eq-eqb, lt-ltb, ltb-true, ltb-false, arith}
use Rattle.std.specs.List.{position_or_len}
use Rattle.std.specs.Option.{option_map_or}
use Rattle.std.specs.Cmp.{first_so, second_so}
use Rattle.std.proofs.lemmas.Bool.{false≢true}
use Rattle.std.proofs.lemmas.List.Elements.{All-append, All-cons, All-contains, All-drop, All-head, All-map, All-nil, All-push, All-tail, All-take, All-weaker, Contains-push}
use Rattle.orc_journal.specs.Entries.{number_of}
use Rattle.orc_journal.specs.Laws.{HasIntent, IsUnnamed, IsUnsettled, KeepsOrder, MayFollow}
use Rattle.orc_journal.specs.Orders.{are_ordered, follows, is_ordered}
use Rattle.orc_journal.specs.declared.entry.Entry.{Entry}
use Rattle.orc_journal.specs.declared.entry.Entry.TheVariants.{Intent, Decide, Abort, Settled}
use Rattle.orc_journal.proofs.Orderings.{is_ordered-push}
use Rattle.orc_rules.specs.Admissions.{without}
use Rattle.orc_rules.proofs.Entering.{intent_push, named_by, without_suc}
use Rattle.orc_hub_parts.specs.Logs.{decided_by, has_number, noted, place_for, placed_in, settled_by, unsettled_by}
use Rattle.orc_hub_parts.specs.declared.log.Unsettled.{Unsettled}

-- no two have one number
abbrev pub AreApart : List Unsettled → Type 0
AreApart [] = Unit {0}
AreApart (one ∷ later) = All (λ other. one.t ≢ other.t) later × AreApart later

-- one more among them
apart_more : (one : Unsettled) (xs : List Unsettled) → All (λ other. one.t ≢ other.t) xs → AreApart xs → (n : ℕ) → AreApart (take n xs ++ one ∷ drop n xs)
apart_more one xs differs apart zero = (differs, apart)
apart_more one [] differs apart (suc n) = (All-nil _, tt)
apart_more one (x ∷ xs) differs apart (suc n) = (
  All-append (λ other. x.t ≢ other.t) (take n xs) (one ∷ drop n xs) (All-take (λ other. x.t ≢ other.t) n xs apart.0)
      (All-cons (λ other. x.t ≢ other.t) one (drop n xs) (λ same. All-head (λ other. one.t ≢ other.t) x xs differs (sym same)) (All-drop (λ other. x.t ≢ other.t) n xs apart.0)),
  apart_more one xs (All-tail (λ other. one.t ≢ other.t) x xs differs) apart.1 n,
)

pub all_more : (P : Unsettled → Type 0) (one : Unsettled) (xs : List Unsettled) → P one → All P xs → (n : ℕ) → All P (take n xs ++ one ∷ drop n xs)
all_more P one xs own all n = All-append P (take n xs) (one ∷ drop n xs) (All-take P n xs all) (All-cons P one (drop n xs) own (All-drop P n xs all))

-- one is decided
pub same_number : (t : ℕ) (one : Unsettled) → (decided_by t one).t ≡ one.t
same_number t one = on (nat_eq one.t t) refl
  where
    on : (b : Bool) → nat_eq one.t t ≡ b → (decided_by t one).t ≡ one.t
    on true e = ap (λ (b : Bool). (cond b (record one { is_decided = true }) one).t) e
    on false e = ap (λ (b : Bool). (cond b (record one { is_decided = true }) one).t) e

pub all_decided : (P : ℕ → Type 0) (t : ℕ) (xs : List Unsettled) → All (λ one. P one.t) xs → All (λ one. P one.t) (map (decided_by t) xs)
all_decided P t xs all =
    All-map (λ (one : Unsettled). P one.t) (decided_by t) xs
    (All-weaker (λ (one : Unsettled). P one.t) (λ (one : Unsettled). P (decided_by t one).t) (λ one h. subst P (sym (same_number t one)) h) xs all)

apart_decided : (t : ℕ) (xs : List Unsettled) → AreApart xs → AreApart (map (decided_by t) xs)
apart_decided t [] apart = tt
apart_decided t (x ∷ xs) apart = (
  all_decided (λ n. (decided_by t x).t ≢ n) t xs (All-weaker (λ other. x.t ≢ other.t) (λ other. (decided_by t x).t ≢ other.t) (λ other h same. h (sym (same_number t x) ∙ same)) xs apart.0),
  apart_decided t xs apart.1,
)

-- one is settled
less_again : (m l : ℕ) → nat_lt (suc m) (suc l) ≡ nat_lt m l
less_again m l = on (nat_lt m l) refl (nat_lt (suc m) (suc l)) refl
  where
    on : (b : Bool) → nat_lt m l ≡ b → (c : Bool) → nat_lt (suc m) (suc l) ≡ c → nat_lt (suc m) (suc l) ≡ nat_lt m l
    on true e true h = h ∙ sym e
    on false e false h = h ∙ sym e
    on true e false h = absurd (let lt = ltb-true m l e in let not = ltb-false (suc m) (suc l) h in omega (arith, lt, not))
    on false e true h = absurd (let not = ltb-false m l e in let lt = ltb-true (suc m) (suc l) h in omega (arith, lt, not))

module _ (t : ℕ) (x : Unsettled) (xs : List Unsettled) where
  abbrev at : ℕ → Bool → List Unsettled
  at n b = option_map_or (λ place. without place (x ∷ xs)) (cond b (Some n) None) (x ∷ xs)

  abbrev behind : ℕ → Bool → List Unsettled
  behind n b = option_map_or (λ place. without place xs) (cond b (Some n) None) xs

  later : (n : ℕ) (b : Bool) → at (suc n) b ≡ x ∷ behind n b
  later n true = without_suc n x xs
  later n false = refl

  one : (m : ℕ) → 1 + m ≡ suc m
  one m = omega arith

  pub settled_cons : (b : Bool) → nat_eq x.t t ≡ b → settled_by t (x ∷ xs) ≡ cond b xs (x ∷ settled_by t xs)
  settled_cons true e =
      let m = position_or_len (has_number t) xs in
      ap (λ (c : Bool). at (cond (not c) (1 + m) 0) (nat_lt (cond (not c) (1 + m) 0) (suc (length xs)))) e
      ∙ ap (at zero) (lt-ltb zero (suc (length xs)) (omega arith))
  settled_cons false e =
      let m = position_or_len (has_number t) xs in
      ap (λ (c : Bool). at (cond (not c) (1 + m) 0) (nat_lt (cond (not c) (1 + m) 0) (suc (length xs)))) e
      ∙ ap (λ (n : ℕ). at n (nat_lt n (suc (length xs)))) (one m) ∙ ap (at (suc m)) (less_again m (length xs)) ∙ later m (nat_lt m (length xs))

pub all_settled : (P : Unsettled → Type 0) (t : ℕ) (xs : List Unsettled) → All P xs → All P (settled_by t xs)
all_settled P t [] all = all
all_settled P t (x ∷ xs) all = on (nat_eq x.t t) refl (all_settled P t xs (All-tail P x xs all))
  where
    on : (b : Bool) → nat_eq x.t t ≡ b → All P (settled_by t xs) → All P (settled_by t (x ∷ xs))
    on true e rest = subst (All P) (sym (settled_cons t x xs true e)) (All-tail P x xs all)
    on false e rest = subst (All P) (sym (settled_cons t x xs false e)) (All-cons P x (settled_by t xs) (All-head P x xs all) rest)

apart_settled : (t : ℕ) (xs : List Unsettled) → AreApart xs → AreApart (settled_by t xs)
apart_settled t [] apart = apart
apart_settled t (x ∷ xs) apart = on (nat_eq x.t t) refl (apart_settled t xs apart.1)
  where
    on : (b : Bool) → nat_eq x.t t ≡ b → AreApart (settled_by t xs) → AreApart (settled_by t (x ∷ xs))
    on true e rest = subst AreApart (sym (settled_cons t x xs true e)) apart.1
    on false e rest = subst AreApart (sym (settled_cons t x xs false e)) (all_settled (λ other. x.t ≢ other.t) t xs apart.0, rest)

pub gone : (t : ℕ) (xs : List Unsettled) → AreApart xs → All (λ one. one.t ≢ t) (settled_by t xs)
gone t [] apart = All-nil _
gone t (x ∷ xs) apart = on (nat_eq x.t t) refl (gone t xs apart.1)
  where
    on : (b : Bool) → nat_eq x.t t ≡ b → All (λ one. one.t ≢ t) (settled_by t xs) → All (λ one. one.t ≢ t) (settled_by t (x ∷ xs))
    on true e rest =
        subst (All (λ one. one.t ≢ t)) (sym (settled_cons t x xs true e))
        (All-weaker (λ other. x.t ≢ other.t) (λ one. one.t ≢ t) (λ one h same. h (eqb-true x.t t e ∙ sym same)) xs apart.0)
    on false e rest =
        subst (All (λ one. one.t ≢ t)) (sym (settled_cons t x xs false e))
        (All-cons (λ one. one.t ≢ t) x (settled_by t xs) (λ same. absurd (false≢true (sym e ∙ (let h : nat_eq x.t t ≡ true = eq-eqb x.t t same in h)))) rest)

-- entries

record MaySettle (entries : List Entry) (xs : List Unsettled) : Type 0 where
  pub each : All (λ one. MayFollow entries (Settled one.t)) xs
  pub apart : AreApart xs

still : (entries : List Entry) (e : Entry) (t : ℕ) → (e ≡ Settled t → ⊥) → MayFollow entries (Settled t) → MayFollow (entries ++ e ∷ []) (Settled t)
still entries e t other may = (intent_push t entries e may.0, All-push (λ entry. entry ≡ Settled t → ⊥) entries e may.1 other)

all_still : (entries : List Entry) (e : Entry) (xs : List Unsettled) → ((t : ℕ) → e ≡ Settled t → ⊥) → All (λ one. MayFollow entries (Settled one.t)) xs
    → All (λ one. MayFollow (entries ++ e ∷ []) (Settled one.t)) xs
all_still entries e xs other all =
    All-weaker (λ one. MayFollow entries (Settled one.t)) (λ one. MayFollow (entries ++ e ∷ []) (Settled one.t)) (λ one may. still entries e one.t (other one.t) may) xs all

pub both : {P Q R : Unsettled → Type 0} → ((x : Unsettled) → P x → Q x → R x) → (xs : List Unsettled) → All P xs → All Q xs → All R xs
both f [] p q = All-nil _
both {P = P} {Q = Q} {R = R} f (x ∷ xs) p q = All-cons R x xs (f x (All-head P x xs p) (All-head Q x xs q)) (both f xs (All-tail P x xs p) (All-tail Q x xs q))

one_more : (entries : List Entry) (xs : List Unsettled) (e : Entry) → MaySettle entries xs → MayFollow entries e → MaySettle (entries ++ e ∷ []) (noted xs e)
one_more entries xs (Intent t call devices) so may =
    let e = Intent t call devices in
    let one : Unsettled = record { t = t; devices = devices; is_decided = false } in
    record {
      each = all_more (λ it. MayFollow (entries ++ e ∷ []) (Settled it.t)) one xs (
        (call, devices, Contains-push entries e),
        All-push (λ entry. entry ≡ Settled t → ⊥) entries e (All-weaker (λ entry. number_of entry ≡ t → ⊥) (λ entry. entry ≡ Settled t → ⊥) (λ entry h same. h (ap number_of same)) entries may) (λ no. cc),
      )
          (all_still entries e xs (λ n no. cc) so.each) (place_for t xs);
      apart = apart_more one xs
          (All-weaker (λ it. MayFollow entries (Settled it.t)) (λ other. one.t ≢ other.t) (λ other h same. named_by other.t t entries h.0 may (sym same)) xs so.each) so.apart (place_for t xs);
    }
one_more entries xs (Decide t) so may = record {
  each = all_decided (λ n. MayFollow (entries ++ Decide t ∷ []) (Settled n)) t xs (all_still entries (Decide t) xs (λ n no. cc) so.each);
  apart = apart_decided t xs so.apart;
}
one_more entries xs (Abort t) so may = record { each = all_still entries (Abort t) xs (λ n no. cc) so.each; apart = so.apart }
one_more entries xs (Settled t) so may = record {
  each = both {P = λ one. MayFollow entries (Settled one.t)} {Q = λ one. one.t ≢ t} {R = λ one. MayFollow (entries ++ Settled t ∷ []) (Settled one.t)} (λ one h other. still entries (Settled t) one.t (λ same. other (sym (ap number_of same))) h) (settled_by t xs)
      (all_settled (λ one. MayFollow entries (Settled one.t)) t xs so.each) (gone t xs so.apart);
  apart = apart_settled t xs so.apart;
}

all_along : KeepsOrder → (before rest : List Entry) (xs : List Unsettled) → IsTrue (is_ordered before) → IsTrue (are_ordered before rest) → MaySettle before xs
    → MaySettle (before ++ rest) (fold noted xs rest)
all_along law before [] xs ordered more so = subst (λ (l : List Entry). MaySettle l xs) (sym (append-nil before)) so
all_along law before (e ∷ rest) xs ordered more so =
    let next = first_so (follows before e) (are_ordered (before ++ e ∷ []) rest) more in
    subst (λ (l : List Entry). MaySettle l (fold noted (noted xs e) rest)) (append_assoc before (e ∷ []) rest)
    (all_along law (before ++ e ∷ []) rest (noted xs e) (is_ordered-push before e ordered next) (second_so (follows before e) (are_ordered (before ++ e ∷ []) rest) more)
    (one_more before xs e so ((law before e ordered).0 next)))

-- a Settled may follow of each that is unsettled
pub may_settle : KeepsOrder → (entries : List Entry) → IsTrue (is_ordered entries) → All (λ one. MayFollow entries (Settled one.t)) (unsettled_by entries)
may_settle law entries ordered = (all_along law [] entries [] refl ordered (record { each = All-nil _; apart = tt })).each
