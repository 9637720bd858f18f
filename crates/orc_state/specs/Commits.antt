-- What committing a call makes of the state and its history.
use Rattle.std.specs.Prelude.{◌≡◌, ℕ, [], ◌∷◌, ◌++◌, length, Result}
use Rattle.std.specs.declared.option.Option.TheVariants.{None, Some}
use Rattle.std.specs.declared.result.Result.TheVariants.{Ok, Err}
use Rattle.orc_call.specs.declared.answer.Answer.{Answer}
use Rattle.orc_call.specs.declared.call.Call.{Call}
use Rattle.orc_datastore.specs.Actions.{data_after}
use Rattle.orc_datastore.specs.Legal.{AnswersAtOnce, IsDue}
use Rattle.orc_datastore.specs.Next.{invalid}
use Rattle.orc_datastore.specs.Plans.{planned}
use Rattle.orc_decls.specs.declared.declarations.Decls.{Decls}
use Rattle.orc_datastore.specs.declared.plan.Plan.{Plan}
use Rattle.orc_state.specs.States.{IsStateUnder, State}

-- The call is the history's next entry, whose number is returned; the state is the one that this history makes, and
-- what the call wrote is kept.
pub record IsCommitted (decls : Decls) (old : State) (call : Call) (number : ℕ) (new : State) : Type 0 where
  pub valid : invalid decls.data_schema (data_after call.actions old.datastore.data) ≡ None
  pub history : new.history ≡ old.history ++ call ∷ []
  pub last : number ≡ length new.history
  pub state : IsStateUnder decls new

-- that, or nothing is changed: the data is broken with the call, or there is no memory
abbrev pub CommitsCall : {E : Type 0} → Decls → State → Call → Result (Result ℕ Answer) E → State → Type 0
CommitsCall decls old call (Ok (Ok number)) new = IsCommitted decls old call number new
CommitsCall decls old call (Ok (Err answer)) new =
    (invalid decls.data_schema (data_after call.actions old.datastore.data) ≡ Some answer) × (new ≡ old)
CommitsCall decls old call (Err fault) new = new ≡ old

-- A call is planned on the state and committed by this plan: no answer was due without a change.
pub record IsReplayed (decls : Decls) (old : State) (call : Call) (plan : Plan) (new : State) : Type 0 where
  pub due : IsDue decls old.history call
  pub planned : planned decls old.datastore (length old.history) call ≡ Ok plan
  pub history : new.history ≡ old.history ++ call ∷ []
  pub state : IsStateUnder decls new

-- that, or nothing is changed: the call is answered without a change, or there is no memory
abbrev pub Replays : {E : Type 0} → Decls → State → Call → Result (Result Plan Answer) E → State → Type 0
Replays decls old call (Ok (Ok plan)) new = IsReplayed decls old call plan new
Replays decls old call (Ok (Err answer)) new = AnswersAtOnce decls old.history call answer × (new ≡ old)
Replays decls old call (Err fault) new = new ≡ old
