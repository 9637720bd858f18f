-- Legal histories, one call more.
use Rattle.std.proofs.Common.{◌≡◌, List, [], ◌∷◌, ◌++◌, length, All, IsTrue, None, refl, sym, subst, arith}
use Rattle.std.proofs.lemmas.List.Elements.{All-nil, All-cons, All-append, All-tail, All-take, All-contains, Contains-push}
use Rattle.std.proofs.Math.Seq.{take-append_seam}
use Rattle.orc_call.specs.declared.call.Call.{Call}
use Rattle.orc_datastore.specs.States.{opening, Datastore}
use Rattle.orc_datastore.specs.Next.{after, refusal}
use Rattle.orc_datastore.specs.Histories.{fold_from, IsUnrefused}
use Rattle.orc_decls.specs.Calls.{is_call}
use Rattle.orc_datastore.specs.Legal.{IsSame, IsNew, AreDistinct, IsLegal, IsDue}
use Rattle.orc_decls.specs.declared.declarations.Decls.{Decls}

pub fold_from-append : (decls : Decls) (s : Datastore) (xs ys : List Call) → fold_from decls s (xs ++ ys) ≡ fold_from decls (fold_from decls s xs) ys
fold_from-append decls s [] ys = refl
fold_from-append decls s (x ∷ xs) ys = fold_from-append decls (after decls s x) xs ys

-- the state after a history with one call more
pub fold_from-push : (decls : Decls) (state : Datastore) (calls : List Call) (call : Call)
    → fold_from decls state (calls ++ call ∷ []) ≡ after decls (fold_from decls state calls) call
fold_from-push decls state calls call = fold_from-append decls state calls (call ∷ [])

unrefused_more : (decls : Decls) (s : Datastore) (history : List Call) (call : Call) → IsUnrefused decls s history
    → refusal decls (fold_from decls s history) call ≡ None → IsUnrefused decls s (history ++ call ∷ [])
unrefused_more decls s [] call h none = (none, tt)
unrefused_more decls s (first ∷ rest) call h none = (h.0, unrefused_more decls (after decls s first) rest call h.1 none)

pub unrefused_last : (decls : Decls) (s : Datastore) (history : List Call) (call : Call) → IsUnrefused decls s (history ++ call ∷ [])
    → refusal decls (fold_from decls s history) call ≡ None
unrefused_last decls s [] call h = h.0
unrefused_last decls s (first ∷ rest) call h = unrefused_last decls (after decls s first) rest call h.1

-- two calls of one caller and number, the other way round
IsSame-sym : (call other : Call) → IsSame call other → IsSame other call
IsSame-sym call other same = (sym same.0, sym same.1)

distinct_more : (history : List Call) (call : Call) → AreDistinct history → IsNew history call
    → AreDistinct (history ++ call ∷ [])
distinct_more [] call h new = (All-nil (λ entry. IsSame entry call → ⊥), tt)
distinct_more (first ∷ rest) call h new = (
  All-append (λ entry. IsSame entry first → ⊥) rest (call ∷ []) h.0
      (All-cons (λ entry. IsSame entry first → ⊥) call [] (λ same. new 0 first (omega arith) (IsSame-sym call first same))
      (All-nil (λ entry. IsSame entry first → ⊥))),
  distinct_more rest call h.1 (All-tail (λ entry. IsSame entry call → ⊥) first rest new),
)

distinct_last : (history : List Call) (call : Call) → AreDistinct (history ++ call ∷ []) → IsNew history call
distinct_last [] call h = All-nil (λ entry. IsSame entry call → ⊥)
distinct_last (first ∷ rest) call h =
    All-cons (λ entry. IsSame entry call → ⊥) first rest
    (λ same. All-contains (λ entry. IsSame entry first → ⊥) (rest ++ call ∷ []) call h.0 (Contains-push rest call) (IsSame-sym first call same))
    (distinct_last rest call h.1)

pub legal_none : (decls : Decls) → IsLegal decls []
legal_none decls = record { lawful = All-nil (λ call. IsTrue (is_call decls call)); unrefused = tt; distinct = tt }

pub legal_more : (decls : Decls) (history : List Call) (call : Call) → IsLegal decls history → IsTrue (is_call decls call) → IsDue decls history call
    → IsLegal decls (history ++ call ∷ [])
legal_more decls history call legal lawful due = record {
  lawful = All-append (λ c. IsTrue (is_call decls c)) history (call ∷ []) legal.lawful (All-cons (λ c. IsTrue (is_call decls c)) call [] lawful (All-nil (λ c. IsTrue (is_call decls c))));
  unrefused = unrefused_more decls (opening decls) history call legal.unrefused due.unrefused;
  distinct = distinct_more history call legal.distinct due.new;
}

pub legal_last : (decls : Decls) (history : List Call) (call : Call) → IsLegal decls (history ++ call ∷ []) → IsTrue (is_call decls call) × IsDue decls history call
legal_last decls history call legal = (
  All-contains (λ c. IsTrue (is_call decls c)) (history ++ call ∷ []) call legal.lawful (Contains-push history call),
  record {
    new = distinct_last history call legal.distinct;
    unrefused = unrefused_last decls (opening decls) history call legal.unrefused;
  },
)

pub unrefused_front : (decls : Decls) (s : Datastore) (a b : List Call) → IsUnrefused decls s (a ++ b) → IsUnrefused decls s a
unrefused_front decls s [] b h = tt
unrefused_front decls s (call ∷ a) b h = (h.0, unrefused_front decls (after decls s call) a b h.1)

-- a fact of each element is one of each element of a prefix
pub All-front : {X : Type 0} (P : X → Type 0) (a b : List X) → All P (a ++ b) → All P a
All-front P a b h = subst (All P) (take-append_seam a b) (All-take P (length a) (a ++ b) h)

distinct_front : (a b : List Call) → AreDistinct (a ++ b) → AreDistinct a
distinct_front [] b h = tt
distinct_front (call ∷ a) b h = (All-front (λ entry. IsSame entry call → ⊥) a b h.0, distinct_front a b h.1)

-- a prefix of a legal history is legal
pub legal_front : (decls : Decls) (a b : List Call) → IsLegal decls (a ++ b) → IsLegal decls a
legal_front decls a b legal = record {
  lawful = All-front (λ call. IsTrue (is_call decls call)) a b legal.lawful;
  unrefused = unrefused_front decls (opening decls) a b legal.unrefused;
  distinct = distinct_front a b legal.distinct;
}
