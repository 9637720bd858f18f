-- The order rules in terms of the entries that are there.
use Rattle.std.proofs.Common.{◌≡◌, ◌↔◌, ℕ, Bool, true, false, cond, eqb, List, [], ◌∷◌, ◌++◌, Contains, IsTrue, Option, Some, None, is_some, refl, sym, ap, subst, ◌∙◌, append_assoc, ⊎_elim, arith}
use Rattle.std.proofs.lemmas.Bool.{cases_eq, eq-eqb, ne_eqb}
use Rattle.std.proofs.lemmas.List.{append-nil}
use Rattle.std.proofs.lemmas.List.Elements.{All-nil, All-push, All-weaker, All-contains, Contains-append_left, Contains-push}
use Rattle.orc_journal.specs.Entries.{entry_kind, number_of}
use Rattle.orc_journal.specs.Orders.{next_stage, stage_of, follows, are_ordered, is_ordered}
use Rattle.orc_journal.specs.Laws.{IsUnnamed, HasIntent, HasOnlyIntents, IsUnsettled, MayFollow}
use Rattle.orc_journal.specs.declared.entry.Entry.{Entry}
use Rattle.orc_journal.specs.declared.entry.Entry.TheVariants.{Intent, Decide, Abort, Settled}
use Rattle.orc_journal.specs.declared.stage.Stage.{Stage}
use Rattle.orc_journal.specs.declared.stage.Stage.TheVariants.{Open, Decided, Aborted, Done}
use Rattle.orc_journal.proofs.Orderings.{stage_of-push, parts}

-- another entry of the transaction than an intent is there
abbrev HasMore : List Entry → ℕ → Type 0
HasMore before t = (entry : Entry) × Contains before entry × (number_of entry ≡ t) × (entry_kind entry ≡ 1 → ⊥)

-- what its stage says of a transaction
abbrev Tells : ℕ → List Entry → Option Stage → Type 0
Tells t xs None = IsUnnamed xs t
Tells t xs (Some Open) = HasIntent xs t × HasOnlyIntents xs t
Tells t xs (Some Decided) = HasIntent xs t × HasMore xs t × IsUnsettled xs t
Tells t xs (Some Aborted) = HasIntent xs t × HasMore xs t × IsUnsettled xs t
Tells t xs (Some Done) = HasIntent xs t × Contains xs (Settled t)

module _ (xs : List Entry) (x : Entry) where
  pub intent_stays : (t : ℕ) → HasIntent xs t → HasIntent (xs ++ x ∷ []) t
  intent_stays t h = (h.0, h.1, Contains-append_left xs (x ∷ []) (Intent t h.0 h.1) h.2)

  more_stays : (t : ℕ) → HasMore xs t → HasMore (xs ++ x ∷ []) t
  more_stays t h = (h.0, Contains-append_left xs (x ∷ []) h.0 h.1, h.2, h.3)

  unsettled_stays : (t : ℕ) → (x ≡ Settled t → ⊥) → IsUnsettled xs t → IsUnsettled (xs ++ x ∷ []) t
  unsettled_stays t ne h = All-push (λ e. e ≡ Settled t → ⊥) xs x h ne

  -- an entry of another transaction changes nothing
  other_told : (t : ℕ) (s : Option Stage) → (number_of x ≡ t → ⊥) → Tells t xs s → Tells t (xs ++ x ∷ []) s
  other_told t None ne h = All-push (λ e. number_of e ≡ t → ⊥) xs x h ne
  other_told t (Some Open) ne h = (intent_stays t h.0, All-push (λ e. number_of e ≡ t → entry_kind e ≡ 1) xs x h.1 (λ e. absurd (ne e)))
  other_told t (Some Decided) ne h = (intent_stays t h.0, more_stays t h.1, unsettled_stays t (λ e. ne (ap number_of e)) h.2)
  other_told t (Some Aborted) ne h = (intent_stays t h.0, more_stays t h.1, unsettled_stays t (λ e. ne (ap number_of e)) h.2)
  other_told t (Some Done) ne h = (intent_stays t h.0, Contains-append_left xs (x ∷ []) (Settled t) h.1)

pub only_unsettled : (xs : List Entry) (t : ℕ) → HasOnlyIntents xs t → IsUnsettled xs t
only_unsettled xs t h = All-weaker (λ e. number_of e ≡ t → entry_kind e ≡ 1) (λ e. e ≡ Settled t → ⊥) (λ e one same.
    let kind : entry_kind e ≡ 4 = ap entry_kind same in
    let first : entry_kind e ≡ 1 = one (ap number_of same) in
    omega arith) xs h

-- an entry of the transaction itself, where it may follow
own_told : (s : Option Stage) (x : Entry) (xs : List Entry) → IsTrue (is_some (next_stage s x)) → Tells (number_of x) xs s → Tells (number_of x) (xs ++ x ∷ []) (next_stage s x)
own_told None (Intent t call devices) xs fits h = (
  (call, devices, Contains-push xs (Intent t call devices)),
  All-push (λ e. number_of e ≡ t → entry_kind e ≡ 1) xs (Intent t call devices) (All-weaker (λ e. number_of e ≡ t → ⊥) (λ e. number_of e ≡ t → entry_kind e ≡ 1) (λ e ne same. absurd (ne same)) xs h) (λ same. refl),
)
own_told (Some Open) (Decide t) xs fits h =
    (intent_stays xs (Decide t) t h.0, (Decide t, Contains-push xs (Decide t), refl, λ e. omega (arith, e)), unsettled_stays xs (Decide t) t (λ e. absurd cc) (only_unsettled xs t h.1))
own_told (Some Open) (Abort t) xs fits h =
    (intent_stays xs (Abort t) t h.0, (Abort t, Contains-push xs (Abort t), refl, λ e. omega (arith, e)), unsettled_stays xs (Abort t) t (λ e. absurd cc) (only_unsettled xs t h.1))
own_told (Some Open) (Settled t) xs fits h = (intent_stays xs (Settled t) t h.0, Contains-push xs (Settled t))
own_told (Some Decided) (Settled t) xs fits h = (intent_stays xs (Settled t) t h.0, Contains-push xs (Settled t))
own_told (Some Aborted) (Settled t) xs fits h = (intent_stays xs (Settled t) t h.0, Contains-push xs (Settled t))
own_told s x xs fits h = absurd cc

-- one entry more
push_told : (t : ℕ) (xs : List Entry) (x : Entry) → IsTrue (follows xs x) → Tells t xs (stage_of t xs) → Tells t (xs ++ x ∷ []) (stage_of t (xs ++ x ∷ []))
push_told t xs x fits h = ⊎_elim own other (cases_eq (number_of x) t)
  where
    after : (b : Bool) → eqb (number_of x) t ≡ b → stage_of t (xs ++ x ∷ []) ≡ cond b (next_stage (stage_of t xs) x) (stage_of t xs)
    after b is = stage_of-push t xs x ∙ ap (λ a. cond a (next_stage (stage_of t xs) x) (stage_of t xs)) is

    own : number_of x ≡ t → Tells t (xs ++ x ∷ []) (stage_of t (xs ++ x ∷ []))
    own same =
        let now : IsTrue (is_some (next_stage (stage_of t xs) x)) = subst (λ n. IsTrue (is_some (next_stage (stage_of n xs) x))) same fits in
        let before : Tells (number_of x) xs (stage_of t xs) = subst (λ n. Tells n xs (stage_of t xs)) (sym same) h in
        let behind : Tells t (xs ++ x ∷ []) (next_stage (stage_of t xs) x) = subst (λ n. Tells n (xs ++ x ∷ []) (next_stage (stage_of t xs) x)) same (own_told (stage_of t xs) x xs now before) in
        subst (Tells t (xs ++ x ∷ [])) (sym (after true (eq-eqb (number_of x) t same))) behind

    other : (number_of x ≡ t → ⊥) → Tells t (xs ++ x ∷ []) (stage_of t (xs ++ x ∷ []))
    other ne = subst (Tells t (xs ++ x ∷ [])) (sym (after false (ne_eqb (number_of x) t ne))) (other_told xs x t (stage_of t xs) ne h)

told : (t : ℕ) (before xs : List Entry) → IsTrue (are_ordered before xs) → Tells t before (stage_of t before) → Tells t (before ++ xs) (stage_of t (before ++ xs))
told t before [] ordered h = subst (λ es. Tells t es (stage_of t es)) (sym (append-nil before)) h
told t before (x ∷ xs) ordered h =
    let p = parts (follows before x) (are_ordered (before ++ x ∷ []) xs) ordered in
    subst (λ es. Tells t es (stage_of t es)) (append_assoc before (x ∷ []) xs) (told t (before ++ x ∷ []) xs p.1 (push_told t before x p.0 h))

-- what contradicts what
named : (xs : List Entry) (t : ℕ) → HasIntent xs t → IsUnnamed xs t → ⊥
named xs t h none = All-contains (λ e. number_of e ≡ t → ⊥) xs (Intent t h.0 h.1) none h.2 refl

has_more : (xs : List Entry) (t : ℕ) → HasMore xs t → HasOnlyIntents xs t → ⊥
has_more xs t h only = h.3 (All-contains (λ e. number_of e ≡ t → entry_kind e ≡ 1) xs h.0 only h.1 h.2)

settled : (xs : List Entry) (t : ℕ) → Contains xs (Settled t) → IsUnsettled xs t → ⊥
settled xs t h none = All-contains (λ e. e ≡ Settled t → ⊥) xs (Settled t) none h refl

rule : (xs : List Entry) (x : Entry) (s : Option Stage) → Tells (number_of x) xs s → (IsTrue (is_some (next_stage s x)) ↔ MayFollow xs x)
rule xs (Intent t call devices) None h = (λ _. h, λ _. refl)
rule xs (Intent t call devices) (Some Open) h = (λ fits. absurd cc, λ none. absurd (named xs t h.0 none))
rule xs (Intent t call devices) (Some Decided) h = (λ fits. absurd cc, λ none. absurd (named xs t h.0 none))
rule xs (Intent t call devices) (Some Aborted) h = (λ fits. absurd cc, λ none. absurd (named xs t h.0 none))
rule xs (Intent t call devices) (Some Done) h = (λ fits. absurd cc, λ none. absurd (named xs t h.0 none))
rule xs (Decide t) None h = (λ fits. absurd cc, λ k. absurd (named xs t k.0 h))
rule xs (Decide t) (Some Open) h = (λ _. h, λ _. refl)
rule xs (Decide t) (Some Decided) h = (λ fits. absurd cc, λ k. absurd (has_more xs t h.1 k.1))
rule xs (Decide t) (Some Aborted) h = (λ fits. absurd cc, λ k. absurd (has_more xs t h.1 k.1))
rule xs (Decide t) (Some Done) h = (λ fits. absurd cc, λ k. absurd (settled xs t h.1 (only_unsettled xs t k.1)))
rule xs (Abort t) None h = (λ fits. absurd cc, λ k. absurd (named xs t k.0 h))
rule xs (Abort t) (Some Open) h = (λ _. h, λ _. refl)
rule xs (Abort t) (Some Decided) h = (λ fits. absurd cc, λ k. absurd (has_more xs t h.1 k.1))
rule xs (Abort t) (Some Aborted) h = (λ fits. absurd cc, λ k. absurd (has_more xs t h.1 k.1))
rule xs (Abort t) (Some Done) h = (λ fits. absurd cc, λ k. absurd (settled xs t h.1 (only_unsettled xs t k.1)))
rule xs (Settled t) None h = (λ fits. absurd cc, λ k. absurd (named xs t k.0 h))
rule xs (Settled t) (Some Open) h = (λ _. (h.0, only_unsettled xs t h.1), λ _. refl)
rule xs (Settled t) (Some Decided) h = (λ _. (h.0, h.2), λ _. refl)
rule xs (Settled t) (Some Aborted) h = (λ _. (h.0, h.2), λ _. refl)
rule xs (Settled t) (Some Done) h = (λ fits. absurd cc, λ k. absurd (settled xs t h.1 k.1))

pub order_kept : (before : List Entry) (entry : Entry) → IsTrue (is_ordered before) → (IsTrue (follows before entry) ↔ MayFollow before entry)
order_kept before entry ordered =
    let t = number_of entry in
    rule before entry (stage_of t before) (told t [] before ordered (All-nil (λ e. number_of e ≡ t → ⊥)))
