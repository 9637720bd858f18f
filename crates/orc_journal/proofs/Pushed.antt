-- What one entry more changes for the next one.
use Rattle.std.proofs.Common.{◌≡◌, ◌↔◌, ℕ, true, false, List, [], ◌∷◌, ◌++◌, Contains, IsTrue, All, refl, ap, subst, arith, ⊎_elim}
use Rattle.std.proofs.lemmas.Bool.{false≢true}
use Rattle.std.proofs.lemmas.List.Elements.{All-push, All-weaker, All-contains, All-contains_itself, Contains-append_left, Contains-push, Contains-push_cases}
use Rattle.orc_call.specs.declared.call.Call.{Call}
use Rattle.orc_journal.specs.Entries.{entry_kind, number_of}
use Rattle.orc_journal.specs.Laws.{IsUnnamed, HasIntent, HasOnlyIntents, IsUnsettled, MayFollow, may_be_next, EntryMoreKeepsOrder}
use Rattle.orc_journal.specs.declared.entry.Entry.{Entry}
use Rattle.orc_journal.specs.declared.entry.Entry.TheVariants.{Intent, Decide, Abort, Settled}
use Rattle.orc_journal.proofs.Rules.{intent_stays, only_unsettled}

-- what holds of all and one more holds of all
but_last : {X : Type 0} (P : X → Type 0) (xs : List X) (x : X) → All P (xs ++ x ∷ []) → All P xs
but_last P xs x h =
    All-weaker (Contains xs) P (λ y is. All-contains P (xs ++ x ∷ []) y h (Contains-append_left xs (x ∷ []) y is)) xs (All-contains_itself xs)

-- and of the last
of_last : {X : Type 0} (P : X → Type 0) (xs : List X) (x : X) → All P (xs ++ x ∷ []) → P x
of_last P xs x h = All-contains P (xs ++ x ∷ []) x h (Contains-push xs x)

module _ (xs : List Entry) (x : Entry) where
  module _ (t : ℕ) (apart : number_of x ≡ t → ⊥) where
    unnamed : IsUnnamed (xs ++ x ∷ []) t ↔ IsUnnamed xs t
    unnamed = (but_last (λ e. number_of e ≡ t → ⊥) xs x, λ h. All-push (λ e. number_of e ≡ t → ⊥) xs x h apart)

    intent : HasIntent (xs ++ x ∷ []) t → HasIntent xs t
    intent h = (h.0, h.1, ⊎_elim (λ is. is) (λ same. absurd (apart (ap number_of same))) (Contains-push_cases xs x (Intent t h.0 h.1) h.2))

    undecided : (HasIntent (xs ++ x ∷ []) t × HasOnlyIntents (xs ++ x ∷ []) t) ↔ (HasIntent xs t × HasOnlyIntents xs t)
    undecided = (
      λ h. (intent h.0, but_last (λ e. number_of e ≡ t → entry_kind e ≡ 1) xs x h.1),
      λ h. (intent_stays xs x t h.0, All-push (λ e. number_of e ≡ t → entry_kind e ≡ 1) xs x h.1 (λ same. absurd (apart same))),
    )

    unsettled : (HasIntent (xs ++ x ∷ []) t × IsUnsettled (xs ++ x ∷ []) t) ↔ (HasIntent xs t × IsUnsettled xs t)
    unsettled = (
      λ h. (intent h.0, but_last (λ e. e ≡ Settled t → ⊥) xs x h.1),
      λ h. (intent_stays xs x t h.0, All-push (λ e. e ≡ Settled t → ⊥) xs x h.1 (λ same. apart (ap number_of same))),
    )

  -- an entry of another transaction
  of_other : (entry : Entry) → (number_of x ≡ number_of entry → ⊥) → (MayFollow (xs ++ x ∷ []) entry ↔ MayFollow xs entry)
  of_other (Intent t call devices) apart = unnamed t apart
  of_other (Decide t) apart = undecided t apart
  of_other (Abort t) apart = undecided t apart
  of_other (Settled t) apart = unsettled t apart

-- where one entry alone stands of a transaction, or none, the next one's test is known

never : {A : Type 0} → (A → ⊥) → A ↔ IsTrue false
never none = (λ a. absurd (none a), λ e. absurd (false≢true e))

always : {A : Type 0} → A → A ↔ IsTrue true
always a = (λ _. refl, λ _. a)

module _ (xs : List Entry) (x : Entry) where
  -- no second intent, and no second decision, comes after an entry of the transaction
  named : (t : ℕ) → number_of x ≡ t → IsUnnamed (xs ++ x ∷ []) t → ⊥
  named t same h = of_last (λ e. number_of e ≡ t → ⊥) xs x h same

  decided : (t : ℕ) → number_of x ≡ t → (entry_kind x ≡ 1 → ⊥) → HasIntent (xs ++ x ∷ []) t × HasOnlyIntents (xs ++ x ∷ []) t → ⊥
  decided t same kind h = kind (of_last (λ e. number_of e ≡ t → entry_kind e ≡ 1) xs x h.1 same)

  settles : (t : ℕ) → (x ≡ Settled t → ⊥) → HasIntent xs t → IsUnsettled xs t → HasIntent (xs ++ x ∷ []) t × IsUnsettled (xs ++ x ∷ []) t
  settles t apart is open_yet = (intent_stays xs x t is, All-push (λ e. e ≡ Settled t → ⊥) xs x open_yet apart)

-- after an intent
module _ (xs : List Entry) (t : ℕ) (call : Call) (devices : List ℕ) (new : IsUnnamed xs t) where
  intent_there : HasIntent (xs ++ Intent t call devices ∷ []) t
  intent_there = (call, devices, Contains-push xs (Intent t call devices))

  only_intents : HasOnlyIntents (xs ++ Intent t call devices ∷ []) t
  only_intents =
      All-push (λ e. number_of e ≡ t → entry_kind e ≡ 1) xs (Intent t call devices)
      (All-weaker (λ e. number_of e ≡ t → ⊥) (λ e. number_of e ≡ t → entry_kind e ≡ 1) (λ e apart same. absurd (apart same)) xs new) (λ same. refl)

  behind_intent : (entry : Entry) → t ≡ number_of entry → (MayFollow (xs ++ Intent t call devices ∷ []) entry ↔ IsTrue (may_be_next (Intent t call devices) entry))
  behind_intent (Intent u other more) same = never (named xs (Intent t call devices) u same)
  behind_intent (Decide u) same = subst (λ n. MayFollow (xs ++ Intent t call devices ∷ []) (Decide n) ↔ IsTrue true) same (always (intent_there, only_intents))
  behind_intent (Abort u) same = subst (λ n. MayFollow (xs ++ Intent t call devices ∷ []) (Abort n) ↔ IsTrue true) same (always (intent_there, only_intents))
  behind_intent (Settled u) same =
      subst (λ n. MayFollow (xs ++ Intent t call devices ∷ []) (Settled n) ↔ IsTrue true) same
      (always (intent_there, only_unsettled (xs ++ Intent t call devices ∷ []) t only_intents))

-- after a decision
behind_decide : (xs : List Entry) (t : ℕ) → HasIntent xs t → HasOnlyIntents xs t → (entry : Entry) → t ≡ number_of entry
    → (MayFollow (xs ++ Decide t ∷ []) entry ↔ IsTrue (may_be_next (Decide t) entry))
behind_decide xs t is only (Intent u other more) same = never (named xs (Decide t) u same)
behind_decide xs t is only (Decide u) same = never (decided xs (Decide t) u same (λ e. omega (arith, e)))
behind_decide xs t is only (Abort u) same = never (decided xs (Decide t) u same (λ e. omega (arith, e)))
behind_decide xs t is only (Settled u) same =
    subst (λ n. MayFollow (xs ++ Decide t ∷ []) (Settled n) ↔ IsTrue true) same
    (always (settles xs (Decide t) t (λ e. absurd cc) is (only_unsettled xs t only)))

behind_abort : (xs : List Entry) (t : ℕ) → HasIntent xs t → HasOnlyIntents xs t → (entry : Entry) → t ≡ number_of entry
    → (MayFollow (xs ++ Abort t ∷ []) entry ↔ IsTrue (may_be_next (Abort t) entry))
behind_abort xs t is only (Intent u other more) same = never (named xs (Abort t) u same)
behind_abort xs t is only (Decide u) same = never (decided xs (Abort t) u same (λ e. omega (arith, e)))
behind_abort xs t is only (Abort u) same = never (decided xs (Abort t) u same (λ e. omega (arith, e)))
behind_abort xs t is only (Settled u) same =
    subst (λ n. MayFollow (xs ++ Abort t ∷ []) (Settled n) ↔ IsTrue true) same
    (always (settles xs (Abort t) t (λ e. absurd cc) is (only_unsettled xs t only)))

-- after the end
behind_settled : (xs : List Entry) (t : ℕ) (entry : Entry) → t ≡ number_of entry
    → (MayFollow (xs ++ Settled t ∷ []) entry ↔ IsTrue (may_be_next (Settled t) entry))
behind_settled xs t (Intent u other more) same = never (named xs (Settled t) u same)
behind_settled xs t (Decide u) same = never (decided xs (Settled t) u same (λ e. omega (arith, e)))
behind_settled xs t (Abort u) same = never (decided xs (Settled t) u same (λ e. omega (arith, e)))
behind_settled xs t (Settled u) same = never (λ h. of_last (λ e. e ≡ Settled u → ⊥) xs (Settled t) h.1 (ap Settled same))

of_same : (xs : List Entry) (x entry : Entry) → number_of x ≡ number_of entry → MayFollow xs x
    → (MayFollow (xs ++ x ∷ []) entry ↔ IsTrue (may_be_next x entry))
of_same xs (Intent t call devices) entry same h = behind_intent xs t call devices h entry same
of_same xs (Decide t) entry same h = behind_decide xs t h.0 h.1 entry same
of_same xs (Abort t) entry same h = behind_abort xs t h.0 h.1 entry same
of_same xs (Settled t) entry same h = behind_settled xs t entry same

pub more_kept : EntryMoreKeepsOrder
more_kept before more entry = (of_other before more entry, of_same before more entry)
