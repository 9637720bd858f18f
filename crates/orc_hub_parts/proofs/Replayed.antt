-- A call that was replayed and isn't committed.
use Rattle.std.proofs.Common.{◌≡◌, subst}
use Rattle.std.specs.declared.result.Result.{Result}
use Rattle.std.specs.declared.result.Result.TheVariants.{Ok, Err}
use Rattle.orc_text.specs.declared.memory.Memory.{Memory}
use Rattle.orc_call.specs.declared.answer.Answer.{Answer}
use Rattle.orc_call.specs.declared.call.Call.{Call}
use Rattle.orc_datastore.specs.Legal.{AnswersAtOnce}
use Rattle.orc_decls.specs.declared.declarations.Decls.{Decls}
use Rattle.orc_datastore.specs.declared.plan.Plan.{Plan}
use Rattle.orc_state.specs.Commits.{Replays}
use Rattle.orc_state.specs.States.{State}

-- it is answered without a change, and nothing is changed
pub refused_by : (decls : Decls) (old new : State) (call : Call) (found : Result Plan Answer) → Replays {E = Memory} decls old call (Ok found) new
    → (answer : Answer) → found ≡ Err answer → AnswersAtOnce decls old.history call answer × (new ≡ old)
refused_by decls old new call found replays answer is = subst (λ (f : Result Plan Answer). Replays {E = Memory} decls old call (Ok f) new) is replays
