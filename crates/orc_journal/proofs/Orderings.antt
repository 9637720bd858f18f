-- Entries that stand one after another in order.
use Rattle.std.proofs.Common.{◌≡◌, ℕ, Bool, true, false, ◌&&◌, List, [], ◌∷◌, ◌++◌, IsTrue, None, refl, sym, subst, append_assoc}
use Rattle.std.proofs.lemmas.List.Sums.{fold_push}
use Rattle.std.proofs.lemmas.List.{append-nil}
use Rattle.orc_journal.specs.Orders.{stage_after, stage_of, follows, are_ordered, is_ordered}
use Rattle.orc_journal.specs.declared.entry.Entry.{Entry}

pub stage_of-push : (t : ℕ) (before : List Entry) (entry : Entry) → stage_of t (before ++ entry ∷ []) ≡ stage_after t (stage_of t before) entry
stage_of-push t before entry = fold_push (stage_after t) None before entry

both : (a b : Bool) → IsTrue a → IsTrue b → IsTrue (a && b)
both true true h k = refl
both true false h k = absurd cc
both false b h k = absurd cc

pub parts : (a b : Bool) → IsTrue (a && b) → IsTrue a × IsTrue b
parts true true h = (refl, refl)
parts true false h = absurd cc
parts false b h = absurd cc

ordered_push : (before entries : List Entry) (entry : Entry) → IsTrue (are_ordered before entries) → IsTrue (follows (before ++ entries) entry) → IsTrue (are_ordered before (entries ++ entry ∷ []))
ordered_push before [] entry h k = both (follows before entry) true (subst (λ b. IsTrue (follows b entry)) (append-nil before) k) refl
ordered_push before (x ∷ xs) entry h k =
    let p = parts (follows before x) (are_ordered (before ++ x ∷ []) xs) h in
    both (follows before x) (are_ordered (before ++ x ∷ []) (xs ++ entry ∷ [])) p.0
    (ordered_push (before ++ x ∷ []) xs entry p.1 (subst (λ b. IsTrue (follows b entry)) (sym (append_assoc before (x ∷ []) xs)) k))

-- one entry more that may follow
pub is_ordered-push : (entries : List Entry) (entry : Entry) → IsTrue (is_ordered entries) → IsTrue (follows entries entry) → IsTrue (is_ordered (entries ++ entry ∷ []))
is_ordered-push entries entry h k = ordered_push [] entries entry h k
