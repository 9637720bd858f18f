-- What is looked at as a waiting call is admitted, and what begins then.
use Rattle.std.specs.Prelude.{◌≡◌, ◌⊎◌, ◌+◌, ◌<◌, ℕ, List, [], ◌∷◌, ◌++◌, length, map, All, Err, take, drop, slice_set}
use Rattle.std.specs.declared.option.Option.TheVariants.{None, Some}
use Rattle.orc_call.specs.declared.answer.Answer.{Answer}
use Rattle.orc_call.specs.declared.answer.Answer.TheVariants as answer
use Rattle.orc_call.specs.declared.call.Call.{Call}
use Rattle.orc_change.specs.Differences.{difference}
use Rattle.orc_journal.specs.declared.entry.Entry.{Entry}
use Rattle.orc_journal.specs.declared.entry.Entry.TheVariants as entry
use Rattle.orc_plans.specs.Plans.{StandsOn}
use Rattle.orc_datastore.specs.Legal.{refusal_of, state_of}
use Rattle.orc_datastore.specs.Next.{after}
use Rattle.orc_datastore.specs.States.{tree_due}
use Rattle.orc_decls.specs.declared.declarations.Decls.{Decls}
use Rattle.orc_state.specs.Checks.{Checks, IsUnread}
use Rattle.orc_datastore.specs.declared.plan.Plan.{Plan}
use Rattle.orc_tree.specs.declared.change.ChangeSet.{ChangeSet}
use Rattle.orc_worker.specs.Workers.{new_worker}
use Rattle.orc_rules.specs.Fits.{first_stale}
use Rattle.orc_rules.specs.Hubs.{Hub}
use Rattle.orc_rules.specs.declared.duty.Duty.{Duty}
use Rattle.orc_rules.specs.declared.duty.Duty.TheVariants.{Works}
use Rattle.orc_rules.specs.declared.transaction.Phase.TheVariants as phase
use Rattle.orc_rules.specs.declared.transaction.Transaction.{Transaction}
use Rattle.orc_rules.specs.declared.transaction.Waiting.{Waiting}

-- the set is exactly what the call changes in the tree of the device
abbrev pub IsSetOf : Decls → List Call → Call → ℕ × ChangeSet → Type 0
IsSetOf decls history call one =
    let state = state_of decls history in
    one.1.changes ≡ difference (tree_due state one.0) (tree_due (after decls state call) one.0)

-- Nothing refuses it, no entry after its plan's front wrote what it read, its plan stands, and these are its change sets, one for each device that it holds.
pub record Passes (decls : Decls) (history : List Call) (call : Call) (plan : Plan) (sets : List (ℕ × ChangeSet))
    : Type 0 where
  pub unrefused : refusal_of decls history call ≡ None
  pub unread : IsUnread decls history plan
  pub stands : StandsOn decls (state_of decls history) call plan
  pub devices : map (λ one. one.0) sets ≡ plan.held.devices
  pub within : All (λ one. one.0 < length decls.names) sets
  pub exact : All (IsSetOf decls history call) sets

-- workers begin on the devices of these sets
abbrev pub started : ℕ → List (ℕ × ChangeSet) → List Duty → List Duty
started t [] duties = duties
started t (one ∷ sets) duties = started t sets (slice_set duties one.0 (Works (new_worker t one.1)))

-- a waiting call that gets its Intent after so many calls
abbrev pub transaction_begun : ℕ → Waiting → Transaction
transaction_begun since it = record {
  t = it.t;
  call = it.call;
  plan = it.plan;
  asker = it.asker;
  since = since;
  phase = phase.Preparing;
}

-- without the element at a place
abbrev pub without : {X : Type 0} → ℕ → List X → List X
without place xs = take place xs ++ drop (place + 1) xs

-- the Intent of a waiting call
abbrev pub intent_entry : Waiting → Entry
intent_entry it = entry.Intent it.t it.call it.plan.held.devices

-- why it isn't admitted: what the check says, else a stale device, or that memory runs out
abbrev pub IsTurnedAway : Decls → List Call → Hub → Waiting → Answer → Type 0
IsTurnedAway decls history hub it given = (given ≡ answer.Memory)
    ⊎ (Checks decls history it.call it.plan (Err given)
    ⊎ ((sets : List (ℕ × ChangeSet)) × Passes decls history it.call it.plan sets
    × (first_stale it.plan.held.devices hub.stale ≡ Some given)))
