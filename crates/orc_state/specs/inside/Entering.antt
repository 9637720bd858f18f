-- A call that is entered with its writes and done, and one that is committed by its plan on the present state.
use Rattle.std.specs.Prelude.{◌≡◌, ℕ, List, [], ◌∷◌, ◌++◌, length, take, Option, Result}
use Rattle.std.specs.declared.option.Option.TheVariants.{None, Some}
use Rattle.std.specs.declared.result.Result.TheVariants.{Ok, Err}
use Rattle.orc_path.specs.declared.item.Write.{Write}
use Rattle.orc_call.specs.declared.answer.Answer.{Answer}
use Rattle.orc_call.specs.declared.call.Call.{Call}
use Rattle.orc_datastore.specs.Legal.{AnswersAtOnce}
use Rattle.orc_datastore.specs.Next.{IsStateOf, after}
use Rattle.orc_decls.specs.declared.declarations.Decls.{Decls}
use Rattle.orc_datastore.specs.declared.plan.Plan.{Plan}
use Rattle.orc_state.specs.Commits.{IsReplayed}
use Rattle.orc_state.specs.States.{State}

-- a call and its writes were entered, and it is done; or they may have been entered in part
abbrev pub Enters : {E : Type 0} → Decls → State → Call → List Write → Result (Unit {0}) E → State → Type 0
Enters decls old call row (Ok done) new =
    (new ≡ record {
      datastore = after decls old.datastore call;
      history = old.history ++ call ∷ [];
      writes = old.writes ++ row ∷ [];
    })
    × IsStateOf decls new.datastore
Enters decls old call row (Err fault) new =
    (new.datastore ≡ old.datastore) × (take (length old.history) new.history ≡ old.history)
    × (take (length old.history) new.writes ≡ old.writes)

-- a call was committed by this plan, or it is answered without a change, or there is no memory
abbrev pub ReplaysBy : {E : Type 0} → Decls → State → Call → Plan → Result (Option Answer) E → State → Type 0
ReplaysBy decls old call plan (Ok None) new = IsReplayed decls old call plan new
ReplaysBy decls old call plan (Ok (Some answer)) new = AnswersAtOnce decls old.history call answer × (new ≡ old)
ReplaysBy decls old call plan (Err fault) new = new ≡ old
