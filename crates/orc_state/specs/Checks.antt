-- What a planned call is answered at the present front, and what it changes.
use Rattle.std.specs.Prelude.{◌≡◌, ◌≢◌, ℕ, ◌+◌, ◌≤◌, ◌-◌, true, List, take, drop, slice_get, Result, Option}
use Rattle.std.specs.declared.option.Option.TheVariants.{None, Some}
use Rattle.std.specs.declared.result.Result.TheVariants.{Ok, Err}
use Rattle.std.specs.declared.cmp.Ordering.TheVariants.{Less}
use Rattle.std.specs.Option.{option_or}
use Rattle.orc_path.specs.declared.item.Write.{Write}
use Rattle.orc_call.specs.declared.answer.Answer.{Answer}
use Rattle.orc_call.specs.declared.answer.Answer.TheVariants.{Conflict}
use Rattle.orc_call.specs.declared.call.Call.{Call}
use Rattle.orc_expr.specs.Touches.{write_cmp, write_touches_any}
use Rattle.orc_expr.specs.declared.read.Read.{Read}
use Rattle.orc_tree.specs.declared.change.ChangeSet.{ChangeSet}
use Rattle.orc_datastore.specs.Actions.{data_after}
use Rattle.orc_datastore.specs.Legal.{state_of, refusal_of, IsNew}
use Rattle.orc_datastore.specs.Next.{clash, existence, expanded_call, expanded_to, invalid}
use Rattle.orc_datastore.specs.Sets.{sets_of}
use Rattle.orc_datastore.specs.States.{Datastore}
use Rattle.orc_decls.specs.declared.declarations.Decls.{Decls}
use Rattle.orc_datastore.specs.declared.plan.Plan.{Plan}
use Rattle.orc_plans.specs.Plans.{EachAlong, IsWriteOf, LeavesReads, StandsOn}
use Rattle.orc_state.specs.States.{IsPlanAt, state_at}

-- what the plan's expansions and its call read
abbrev pub reads_of : Plan → List Read
reads_of plan = plan.held.reads.reads

-- none of so many entries from the front on has a write that touches one of these reads
abbrev pub AreUnreadTo : Decls → List Call → ℕ → List Read → ℕ → Type 0
AreUnreadTo decls history front reads count =
    EachAlong (LeavesReads reads) decls (state_at decls history front) (take count (drop front history))

-- no entry after the plan's front has a write that touches a read of it
abbrev pub IsUnread : Decls → List Call → Plan → Type 0
IsUnread decls history plan =
    EachAlong (LeavesReads (reads_of plan)) decls (state_at decls history plan.front) (drop plan.front history)

-- The write is the least one by which the entry at this place touches a read of the plan, and no entry between the
-- plan's front and this one touches any.
pub record IsConflict (decls : Decls) (history : List Call) (plan : Plan) (place : ℕ) (write : Write) : Type 0 where
  pub later : plan.front ≤ place
  pub unread : AreUnreadTo decls history plan.front (reads_of plan) (place - plan.front)
  pub entry : Call
  pub there : slice_get history place ≡ Some entry
  pub written : IsWriteOf (state_at decls history place) entry write
  pub touching : write_touches_any (reads_of plan) write ≡ true
  pub least : (other : Write) → IsWriteOf (state_at decls history place) entry other
      → write_touches_any (reads_of plan) other ≡ true → write_cmp other write ≢ Less

-- why a planned call is refused before what it read is looked at: an action at fault, or broken data
abbrev pub refused_early : Decls → Datastore → Call → Option Answer
refused_early decls state call =
    option_or (existence state.live call.actions) (invalid decls.data_schema (data_after call.actions state.data))

-- the clash of what a call comes to
abbrev pub clash_of : Decls → Datastore → Call → Option Answer
clash_of decls state call = clash decls.names state.live (expanded_to (expanded_call decls state call))

-- What a planned call is answered at the end of a history, by the first cause: an action at fault or broken data, an
-- entry that wrote what it read, a clash; or what it changes on each device that it touches, where it isn't refused.
pub data Checks (decls : Decls) (history : List Call) (call : Call) (plan : Plan)
    : Result (List (ℕ × ChangeSet)) Answer → Type 0 where
  early : (answer : Answer) → refused_early decls (state_of decls history) call ≡ Some answer
      → Checks decls history call plan (Err answer)
  conflicts : (place : ℕ) (write : Write) → refused_early decls (state_of decls history) call ≡ None
      → IsConflict decls history plan place write → Checks decls history call plan (Err (Conflict (place + 1) write))
  clashes : (answer : Answer) → refused_early decls (state_of decls history) call ≡ None → IsUnread decls history plan
      → clash_of decls (state_of decls history) call ≡ Some answer → Checks decls history call plan (Err answer)
  passes : IsUnread decls history plan → refusal_of decls history call ≡ None
      → StandsOn decls (state_of decls history) call plan
      → Checks decls history call plan (Ok (sets_of decls (state_of decls history) call))

-- A call that may be committed where the data is valid with it: it is new, its plan is one of the call at the plan's
-- front and still stands, and nothing clashes.
pub record CanCommit (decls : Decls) (history : List Call) (call : Call) (plan : Plan) : Type 0 where
  pub new : IsNew history call
  pub planned : IsPlanAt decls history call plan
  pub stands : StandsOn decls (state_of decls history) call plan
  pub apart : clash_of decls (state_of decls history) call ≡ None
