-- The newest intent of a transaction among entries.
use Rattle.std.proofs.Common.{◌≡◌, ℕ, ◌+◌, ◌<◌, List, [], ◌∷◌, ◌++◌, length, take, drop, get_or, None, Some, refl, sym, ap, ◌∙◌}
use Rattle.std.specs.declared.option.Option.{Option}
use Rattle.std.proofs.lemmas.List.{take-append-drop, drop_more}
use Rattle.std.specs.Option.{option_or}
use Rattle.orc_call.specs.declared.call.Call.{Call}
use Rattle.orc_journal.specs.Committed.{call_in, call_of}
use Rattle.orc_journal.specs.declared.entry.Entry.{Entry}

-- where there is one among the later entries, it is that one
pub call_of-append : (t : ℕ) (xs ys : List Entry) → call_of t (xs ++ ys) ≡ option_or (call_of t ys) (call_of t xs)
call_of-append t [] ys = on (call_of t ys)
  where
    on : (o : Option Call) → o ≡ option_or o None
    on None = refl
    on (Some call) = refl
call_of-append t (x ∷ xs) ys = ap (λ o. option_or o (call_in t x)) (call_of-append t xs ys) ∙ on (call_of t ys) (call_of t xs) (call_in t x)
  where
    on : (o p q : Option Call) → option_or (option_or o p) q ≡ option_or o (option_or p q)
    on None p q = refl
    on (Some call) p q = refl

-- it stands here, where none stands after it
pub found : (t : ℕ) (entries : List Entry) (at : ℕ) (entry : Entry) (call : Call) → at < length entries → entry ≡ get_or entries at entry
    → call_of t (drop (at + 1) entries) ≡ None → call_in t entry ≡ Some call → call_of t entries ≡ Some call
found t entries at entry call within is none here =
    let rest = drop (at + 1) entries in
    let split : entries ≡ take at entries ++ (entry ∷ rest) =
    sym (take-append-drop at entries) ∙ ap (λ l. take at entries ++ l) (drop_more entries at entry within ∙ ap (λ x. x ∷ rest) (sym is)) in
    let mine : call_of t (entry ∷ rest) ≡ Some call = ap (λ o. option_or o (call_in t entry)) none ∙ here in
    ap (call_of t) split ∙ call_of-append t (take at entries) (entry ∷ rest) ∙ ap (λ o. option_or o (call_of t (take at entries))) mine
