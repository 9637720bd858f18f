-- The first entry that wrote what a plan read is one.
use Rattle.std.proofs.Common.{◌≡◌, ◌⊎◌, inl, inr, ℕ, zero, suc, ◌+◌, ◌-◌, ◌<◌, ◌≤◌, List, [], ◌∷◌, Some, None, take, drop, length, sym, subst, ◌∙◌, arith}
use Rattle.std.specs.Prelude.{slice_get}
use Rattle.std.proofs.lemmas.Bool.{cases_lt, false≢true}
use Rattle.std.proofs.lemmas.List.{take_all}
use Rattle.std.proofs.lemmas.Option.{slice_get_within}
use Rattle.orc_path.specs.declared.item.Write.{Write}
use Rattle.orc_call.specs.declared.call.Call.{Call}
use Rattle.orc_datastore.specs.Histories.{fold_from}
use Rattle.orc_datastore.specs.Next.{after}
use Rattle.orc_datastore.specs.States.{Datastore, opening}
use Rattle.orc_decls.specs.declared.declarations.Decls.{Decls}
use Rattle.orc_datastore.specs.declared.plan.Plan.{Plan}
use Rattle.orc_plans.specs.Plans.{EachAlong, LeavesReads}
use Rattle.orc_state.specs.Checks.{IsConflict, IsUnread, reads_of}
use Rattle.orc_state.specs.Laws.{ConflictIsOne}
use Rattle.orc_state.specs.States.{state_at}

module _ (IsSo : Datastore → Call → Type 0) (decls : Decls) where
  each_at : (n i : ℕ) (s : Datastore) (history : List Call) (call : Call) → EachAlong IsSo decls s (take n history) → i < n → slice_get history i ≡ Some call
      → IsSo (fold_from decls s (take i history)) call
  each_at zero i s history call h lt is = absurd (omega (arith, lt))
  each_at (suc n) i s [] call h lt is = let not_so : None ≡ Some call = is in absurd cc
  each_at (suc n) zero s (c ∷ history) call h lt is = let same : c ≡ call = cc in subst (IsSo s) same h.0
  each_at (suc n) (suc i) s (c ∷ history) call h lt is = each_at n i (after decls s c) history call h.1 (omega (arith, lt)) is

  told : (front n i : ℕ) (s : Datastore) (history : List Call) (call : Call)
      → EachAlong IsSo decls (fold_from decls s (take front history)) (take n (drop front history)) → front ≤ i → i < front + n
      → slice_get history i ≡ Some call → IsSo (fold_from decls s (take i history)) call
  told zero n i s history call h le lt is = each_at n i s history call h (omega (arith, lt)) is
  told (suc f) n i s [] call h le lt is = let not_so : None ≡ Some call = is in absurd cc
  told (suc f) n zero s (c ∷ history) call h le lt is = absurd (omega (arith, le))
  told (suc f) n (suc i) s (c ∷ history) call h le lt is = told f n i (after decls s c) history call h (omega (arith, le)) (omega (arith, lt)) is

drop_short : {X : Type 0} (n : ℕ) (xs : List X) → length (drop n xs) ≤ length xs
drop_short zero xs = omega arith
drop_short (suc n) [] = omega arith
drop_short (suc n) (x ∷ xs) = let rest = drop_short n xs in omega (arith, rest)

module _ (decls : Decls) (history : List Call) (plan : Plan) where
  -- an entry of which this is said doesn't conflict
  apart : (place n : ℕ) (write : Write) → IsConflict decls history plan place write
      → EachAlong (LeavesReads (reads_of plan)) decls (state_at decls history plan.front) (take n (drop plan.front history)) → place < plan.front + n → ⊥
  apart place n write own leaves lt =
      false≢true (sym (told (LeavesReads (reads_of plan)) decls plan.front n place (opening decls) history own.entry leaves own.later lt own.there write own.written)
      ∙ own.touching)

  never : (place : ℕ) (write : Write) → IsConflict decls history plan place write → IsUnread decls history plan → ⊥
  never place write own unread =
      let whole = take_all (length history) (drop plan.front history) (drop_short plan.front history) in
      apart place (length history) write own
      (subst (EachAlong (LeavesReads (reads_of plan)) decls (state_at decls history plan.front)) (sym whole) unread)
      (let within = slice_get_within history place own.entry own.there in omega (arith, within))

  later : (place other : ℕ) (write another : Write) → IsConflict decls history plan place write → IsConflict decls history plan other another → place < other → ⊥
  later place other write another one two lt =
      apart place (other - plan.front) write one two.unread (let le = two.later in omega (arith, le, lt))

  one_place : (place other : ℕ) (write another : Write) → IsConflict decls history plan place write → IsConflict decls history plan other another → place ≡ other
  one_place place other write another one two = on (cases_lt place other) (cases_lt other place)
    where
      on : (place < other) ⊎ (other ≤ place) → (other < place) ⊎ (place ≤ other) → place ≡ other
      on (inl lt) o = absurd (later place other write another one two lt)
      on (inr le) (inl lt) = absurd (later other place another write two one lt)
      on (inr le) (inr ge) = omega (arith, le, ge)

pub conflict_is_one : ConflictIsOne
conflict_is_one decls history plan place write own =
    (never decls history plan place write own, λ other another two. one_place decls history plan place other write another own two)
