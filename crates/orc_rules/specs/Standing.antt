-- What stays so of a call that has its Intent and isn't decided yet, whatever other calls are committed meanwhile.
use Rattle.std.specs.Prelude.{◌≡◌, ℕ, ◌≤◌, List, [], ◌∷◌, ◌++◌, IsTrue, take, drop, length, slice_get}
use Rattle.std.specs.declared.option.Option.TheVariants.{Some}
use Rattle.orc_call.specs.declared.call.Call.{Call}
use Rattle.orc_queue.specs.Fitting.{FitTogether}
use Rattle.orc_decls.specs.Calls.{is_call}
use Rattle.orc_datastore.specs.Legal.{IsLegal, IsNew, state_of}
use Rattle.orc_decls.specs.declared.declarations.Decls.{Decls}
use Rattle.orc_rules.specs.declared.transaction.Waiting.{Waiting}
use Rattle.orc_plans.specs.Plans.{EachAlong, FitsBeside, StandsOn}
use Rattle.orc_rules.specs.declared.transaction.Transaction.{Transaction}
use Rattle.orc_state.specs.States.{IsPlanAt}

-- the history at its Intent
abbrev pub history_at : List Call → Transaction → List Call
history_at history it = take it.since history

-- the calls that were committed since
abbrev pub committed_since : List Call → Transaction → List Call
committed_since history it = drop it.since history

-- Its plan is that of the call at the plan's front. After the history at its Intent the plan stood and the call made
-- the history legal. Each call that was committed since fits the plan where it was done, and none has this caller and
-- number.
pub record IsAdmitted (decls : Decls) (history : List Call) (it : Transaction) : Type 0 where
  pub lawful : IsTrue (is_call decls it.call)
  pub planned : IsPlanAt decls history it.call it.plan
  pub within : it.since ≤ length history
  pub legal : IsLegal decls (history_at history it ++ it.call ∷ [])
  pub stood : StandsOn decls (state_of decls (history_at history it)) it.call it.plan
  pub fitting : EachAlong (FitsBeside decls it.plan.held) decls (state_of decls (history_at history it))
      (committed_since history it)
  pub fresh : IsNew (committed_since history it) it.call

-- the transactions fit with one another
abbrev pub AreFit : List Transaction → Type 0
AreFit active = (place place' : ℕ) (it other : Transaction) → slice_get active place ≡ Some it
    → slice_get active place' ≡ Some other
    → (place ≡ place' → ⊥) → FitTogether it.plan.held other.plan.held

-- What is so of a call that waits.
pub record IsWaiting (decls : Decls) (history : List Call) (it : Waiting) : Type 0 where
  pub lawful : IsTrue (is_call decls it.call)
  pub planned : IsPlanAt decls history it.call it.plan
  pub fresh : IsNew history it.call
