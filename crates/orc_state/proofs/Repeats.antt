-- What a call gets whose caller and number the history has.
use Rattle.std.proofs.Common.{◌≡◌, ℕ, ◌+◌, List, get_or, Some, sym, ap, ◌∙◌}
use Rattle.std.specs.List.{slice_get}
use Rattle.std.proofs.lemmas.Option.{get_or_from_slice_get}
use Rattle.orc_call.specs.declared.call.Call.{Call}
use Rattle.orc_call.specs.declared.answer.Answer.TheVariants.{Committed, Reused}
use Rattle.orc_datastore.specs.Legal as legal
use Rattle.orc_datastore.specs.Legal.{AnswersAtOnce, IsSame}
use Rattle.orc_decls.specs.declared.declarations.Decls.{Decls}

read_there : (history : List Call) (n : ℕ) (entry read : Call) → slice_get history n ≡ Some entry → read ≡ get_or history n read → entry ≡ read
read_there history n entry read at is = sym (get_or_from_slice_get history n entry read at) ∙ sym is

-- the call itself stands there
pub is_again : (decls : Decls) (history : List Call) (call : Call) (n : ℕ) (entry read : Call) → slice_get history n ≡ Some entry → read ≡ get_or history n read
    → read ≡ call → AnswersAtOnce decls history call (Committed (n + 1))
is_again decls history call n entry read at is same = legal.AnswersAtOnce.again n (at ∙ ap Some (read_there history n entry read at is ∙ same))

-- another call of its caller and number stands there
pub is_reused : (decls : Decls) (history : List Call) (call : Call) (n : ℕ) (entry read : Call) → slice_get history n ≡ Some entry → read ≡ get_or history n read
    → IsSame entry call → (read ≡ call → ⊥) → AnswersAtOnce decls history call (Reused (n + 1))
is_reused decls history call n entry read at is one other =
    legal.AnswersAtOnce.reused n entry at one (λ (e : entry ≡ call). other (sym (read_there history n entry read at is) ∙ e))
