-- What an entry more leaves of the others, and what it brings.
use Rattle.std.proofs.Common.{◌≡◌, ◌≢◌, ℕ, ◌+◌, Bool, true, false, nat_eq, cond, List, [], ◌∷◌, ◌++◌, Option, None, Some, take, drop, All, Contains, refl, sym, ap, subst, ◌∙◌, arith, eq-eqb, eqb-true, zero, suc}
use Rattle.std.specs.Prelude.{slice_get}
use Rattle.std.specs.Option.{option_or}
use Rattle.std.proofs.lemmas.Bool.{false≢true}
use Rattle.std.proofs.lemmas.List.Elements.{All-append, All-cons, All-contains, All-drop, All-head, All-nil, All-tail, All-take, All-weaker, Contains-append_left, Contains-push}
use Rattle.orc_call.specs.declared.call.Call.{Call}
use Rattle.orc_journal.specs.Committed.{call_in, call_of}
use Rattle.orc_journal.specs.Entries.{entry_kind, number_of}
use Rattle.orc_journal.specs.Laws.{HasIntent, HasOnlyIntents, IsUnnamed, IsUnsettled, MayFollow}
use Rattle.orc_journal.specs.declared.entry.Entry.{Entry}
use Rattle.orc_journal.specs.declared.entry.Entry.TheVariants as entry
use Rattle.orc_rules.specs.Admissions.{without}
use Rattle.orc_rules.specs.Kept.{AreWaitingApart, IsOpenIn}
use Rattle.orc_rules.specs.declared.transaction.Transaction.{Transaction}
use Rattle.orc_rules.specs.declared.transaction.Waiting.{Waiting}

pub apart_of : (a b : ℕ) → nat_eq a b ≡ false → b ≡ a → ⊥
apart_of a b apart e = false≢true (sym apart ∙ eq-eqb a b (sym e))

-- calls of transactions

pub call_of-push : (t : ℕ) (entries : List Entry) (e : Entry) → call_in t e ≡ None → call_of t (entries ++ e ∷ []) ≡ call_of t entries
call_of-push t [] e none = none
call_of-push t (x ∷ entries) e none = ap (λ (o : Option Call). option_or o (call_in t x)) (call_of-push t entries e none)

pub call_of-new : (t : ℕ) (entries : List Entry) (e : Entry) (call : Call) → call_in t e ≡ Some call → call_of t (entries ++ e ∷ []) ≡ Some call
call_of-new t [] e call is = is
call_of-new t (x ∷ entries) e call is = ap (λ (o : Option Call). option_or o (call_in t x)) (call_of-new t entries e call is)

-- of another transaction
pub not_in : (t : ℕ) (e : Entry) → (number_of e ≡ t → ⊥) → call_in t e ≡ None
not_in t (entry.Intent u call devices) apart = on (nat_eq u t) refl
  where
    on : (b : Bool) → nat_eq u t ≡ b → cond b (Some call) None ≡ None
    on true is = absurd (apart (eqb-true u t is))
    on false is = refl
not_in t (entry.Decide u) apart = refl
not_in t (entry.Abort u) apart = refl
not_in t (entry.Settled u) apart = refl

-- what may follow

pub intent_push : (t : ℕ) (entries : List Entry) (e : Entry) → HasIntent entries t → HasIntent (entries ++ e ∷ []) t
intent_push t entries e h = (h.0, h.1, Contains-append_left entries (e ∷ []) (entry.Intent t h.0 h.1) h.2)

pub only_push : (t : ℕ) (entries : List Entry) (e : Entry) → (number_of e ≡ t → ⊥) → HasOnlyIntents entries t → HasOnlyIntents (entries ++ e ∷ []) t
only_push t entries e apart h =
    let P : Entry → Type 0 = λ x. number_of x ≡ t → entry_kind x ≡ 1 in
    All-append P entries (e ∷ []) h (All-cons P e [] (λ same. absurd (apart same)) (All-nil P))

pub unsettled_push : (t : ℕ) (entries : List Entry) (e : Entry) → (e ≡ entry.Settled t → ⊥) → IsUnsettled entries t → IsUnsettled (entries ++ e ∷ []) t
unsettled_push t entries e apart h =
    let P : Entry → Type 0 = λ x. x ≡ entry.Settled t → ⊥ in
    All-append P entries (e ∷ []) h (All-cons P e [] apart (All-nil P))

pub unnamed_push : (t : ℕ) (entries : List Entry) (e : Entry) → (number_of e ≡ t → ⊥) → IsUnnamed entries t → IsUnnamed (entries ++ e ∷ []) t
unnamed_push t entries e apart h =
    let P : Entry → Type 0 = λ x. number_of x ≡ t → ⊥ in
    All-append P entries (e ∷ []) h (All-cons P e [] apart (All-nil P))

-- where there are intents alone nothing is settled
pub never_settled : (t : ℕ) (entries : List Entry) → HasOnlyIntents entries t → IsUnsettled entries t
never_settled t entries h =
    All-weaker (λ x. number_of x ≡ t → entry_kind x ≡ 1) (λ x. x ≡ entry.Settled t → ⊥)
    (λ x only is. not_intent (sym (ap entry_kind is) ∙ only (ap number_of is))) entries h
  where
    not_intent : entry_kind (entry.Settled t) ≡ 1 → ⊥
    not_intent e = cc

-- who has its intent isn't unnamed
pub named_by : (t u : ℕ) (entries : List Entry) → HasIntent entries t → IsUnnamed entries u → t ≡ u → ⊥
named_by t u entries h none same = All-of entries (entry.Intent t h.0 h.1) none h.2 same
  where
    All-of : (xs : List Entry) (x : Entry) → All (λ e. number_of e ≡ u → ⊥) xs → Contains xs x → number_of x ≡ u → ⊥
    All-of xs x all at = All-contains (λ e. number_of e ≡ u → ⊥) xs x all at

-- an open one is open after an entry of another
pub open_push : (entries : List Entry) (e : Entry) (it : Transaction) → (number_of e ≡ it.t → ⊥) → IsOpenIn entries it → IsOpenIn (entries ++ e ∷ []) it
open_push entries e it apart own = record {
  call = call_of-push it.t entries e (not_in it.t e apart) ∙ own.call;
  undecided = (intent_push it.t entries e own.undecided.0, only_push it.t entries e apart own.undecided.1);
}

-- one that is to be settled is so after an entry that doesn't settle it
pub settle_push : (t : ℕ) (entries : List Entry) (e : Entry) → (e ≡ entry.Settled t → ⊥) → MayFollow entries (entry.Settled t) → MayFollow (entries ++ e ∷ []) (entry.Settled t)
settle_push t entries e apart h = (intent_push t entries e h.0, unsettled_push t entries e apart h.1)

-- one that was open is to be settled after its Decide or Abort
pub to_settle : (entries : List Entry) (e : Entry) (it : Transaction) → (e ≡ entry.Settled it.t → ⊥) → IsOpenIn entries it → MayFollow (entries ++ e ∷ []) (entry.Settled it.t)
to_settle entries e it apart own = settle_push it.t entries e apart (own.undecided.0, never_settled it.t entries own.undecided.1)

-- a new intent opens it
pub open_new : (entries : List Entry) (it : Transaction) (devices : List ℕ) → IsUnnamed entries it.t → IsOpenIn (entries ++ entry.Intent it.t it.call devices ∷ []) it
open_new entries it devices none = record {
  call = call_of-new it.t entries (entry.Intent it.t it.call devices) it.call (ap (λ (b : Bool). cond b (Some it.call) None) (eq-eqb it.t it.t refl));
  undecided = (
    (it.call, devices, Contains-push entries (entry.Intent it.t it.call devices)),
    All-append P entries (entry.Intent it.t it.call devices ∷ []) (All-weaker (λ x. number_of x ≡ it.t → ⊥) P (λ x no same. absurd (no same)) entries none)
        (All-cons P (entry.Intent it.t it.call devices) [] (λ same. refl) (All-nil P)),
  );
}
  where
    P : Entry → Type 0
    P x = number_of x ≡ it.t → entry_kind x ≡ 1

-- what waits, without one

pub All-without : {X : Type 0} (P : X → Type 0) (place : ℕ) (xs : List X) → All P xs → All P (without place xs)
All-without P place xs h = All-append P (take place xs) (drop (place + 1) xs) (All-take P place xs h) (All-drop P (place + 1) xs h)

pub All-at : {X : Type 0} (P : X → Type 0) (xs : List X) (place : ℕ) (x : X) → All P xs → slice_get xs place ≡ Some x → P x
All-at P [] place x h is = absurd cc
All-at P (y ∷ xs) zero x h is = subst P (let same : Some y ≡ Some x = is in cc) (All-head P y xs h)
All-at P (y ∷ xs) (suc place) x h is = All-at P xs place x (All-tail P y xs h) is

abbrev pub Differ : Waiting → Waiting → Type 0
Differ one other = (one.t ≢ other.t) × (one.call.caller ≢ other.call.caller)

pub without_suc : {X : Type 0} (place : ℕ) (x : X) (xs : List X) → without (suc place) (x ∷ xs) ≡ x ∷ without place xs
without_suc place x xs = ap (λ (n : ℕ). (x ∷ take place xs) ++ drop n (x ∷ xs)) (succ place)
  where
    succ : (n : ℕ) → suc n + 1 ≡ suc (n + 1)
    succ n = omega arith

pub drop_nil : {X : Type 0} (n : ℕ) → drop {A = X} n [] ≡ []
drop_nil zero = refl
drop_nil (suc n) = refl

pub apart_without : (place : ℕ) (xs : List Waiting) → AreWaitingApart xs → AreWaitingApart (without place xs)
apart_without zero [] h = h
apart_without (suc place) [] h = subst (λ (l : List Waiting). AreWaitingApart l) (sym (drop_nil (suc place + 1))) h
apart_without zero (x ∷ xs) h = h.1
apart_without (suc place) (x ∷ xs) h =
    subst (λ (l : List Waiting). AreWaitingApart l) (sym (without_suc place x xs)) (All-without (Differ x) place xs h.0, apart_without place xs h.1)

-- the one taken out differs from the others
pub apart_from : (place : ℕ) (xs : List Waiting) (it : Waiting) → AreWaitingApart xs → slice_get xs place ≡ Some it → All (Differ it) (without place xs)
apart_from place [] it h is = absurd cc
apart_from zero (x ∷ xs) it h is = let same : x ≡ it = (let both : Some x ≡ Some it = is in cc) in subst (λ (y : Waiting). All (Differ y) xs) same h.0
apart_from (suc place) (x ∷ xs) it h is =
    let first : Differ x it = All-at (Differ x) xs place it h.0 is in
    subst (λ (l : List Waiting). All (Differ it) l) (sym (without_suc place x xs))
    (All-cons (Differ it) x (without place xs) ((λ e. first.0 (sym e)), (λ e. first.1 (sym e))) (apart_from place xs it h.1 is))

pub apart_push : (xs : List Waiting) (it : Waiting) → AreWaitingApart xs → All (λ one. Differ one it) xs → AreWaitingApart (xs ++ it ∷ [])
apart_push [] it h all = (All-nil (Differ it), tt)
apart_push (x ∷ xs) it h all = (
  All-append (Differ x) xs (it ∷ []) h.0 (All-cons (Differ x) it [] (All-head (λ one. Differ one it) x xs all) (All-nil (Differ x))),
  apart_push xs it h.1 (All-tail (λ one. Differ one it) x xs all),
)
