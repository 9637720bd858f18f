-- Which histories are legal, and what a call gets after one.
use Rattle.std.specs.Prelude.{◌≡◌, ℕ, ◌+◌, List, [], ◌∷◌, All, IsTrue, slice_get, Option}
use Rattle.std.specs.declared.option.Option.TheVariants.{None, Some}
use Rattle.orc_call.specs.declared.call.Call.{Call}
use Rattle.orc_call.specs.declared.answer.Answer.{Answer}
use Rattle.orc_call.specs.declared.answer.Answer.TheVariants.{Committed, Reused}
use Rattle.orc_datastore.specs.States.{opening, Datastore}
use Rattle.orc_datastore.specs.Next.{refusal}
use Rattle.orc_datastore.specs.Histories.{fold_from, IsUnrefused}
use Rattle.orc_decls.specs.Calls.{is_call}
use Rattle.orc_decls.specs.declared.declarations.Decls.{Decls}

-- one caller and number
abbrev pub IsSame : Call → Call → Type 0
IsSame call other = (call.caller ≡ other.caller) × (call.number ≡ other.number)

-- no call of the history has the caller and number of this one
abbrev pub IsNew : List Call → Call → Type 0
IsNew history call = All (λ entry. IsSame entry call → ⊥) history

-- no caller and number stand twice
abbrev pub AreDistinct : List Call → Type 0
AreDistinct [] = Unit {0}
AreDistinct (call ∷ calls) = IsNew calls call × AreDistinct calls

-- A history is legal: each call is one that a call block can give, none is refused where it stands, and no caller and
-- number stand twice.
pub record IsLegal (decls : Decls) (history : List Call) : Type 0 where
  pub lawful : All (λ call. IsTrue (is_call decls call)) history
  pub unrefused : IsUnrefused decls (opening decls) history
  pub distinct : AreDistinct history

-- the state after a history
abbrev pub state_of : Decls → List Call → Datastore
state_of decls history = fold_from decls (opening decls) history

-- why a call is refused after a history, if it is
abbrev pub refusal_of : Decls → List Call → Call → Option Answer
refusal_of decls history call = refusal decls (state_of decls history) call

-- The answer that a call gets after a history without a change. A call whose caller and number the history has: its
-- entry again where the actions are equal, else that the number is taken. A new call: its refusal.
pub data AnswersAtOnce (decls : Decls) (history : List Call) (call : Call) : Answer → Type 0 where
  again : (index : ℕ) → slice_get history index ≡ Some call → AnswersAtOnce decls history call (Committed (index + 1))
  reused : (index : ℕ) (entry : Call)
      → slice_get history index ≡ Some entry → IsSame entry call → (entry ≡ call → ⊥)
      → AnswersAtOnce decls history call (Reused (index + 1))
  refused : (answer : Answer) → IsNew history call → refusal_of decls history call ≡ Some answer
      → AnswersAtOnce decls history call answer

-- no answer is due at once: the call is to be committed
pub record IsDue (decls : Decls) (history : List Call) (call : Call) : Type 0 where
  pub new : IsNew history call
  pub unrefused : refusal_of decls history call ≡ None
