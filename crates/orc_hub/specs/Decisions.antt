-- What `decide` does.
use Rattle.std.specs.Prelude.{◌≡◌, ◌⊎◌, ℕ, ◌+◌, List, true, false, length, slice_get}
use Rattle.std.specs.List.{filter}
use Rattle.std.specs.declared.option.Option.TheVariants.{None, Some}
use Rattle.orc_call.specs.declared.answer.Answer.{Answer}
use Rattle.orc_call.specs.declared.answer.Answer.TheVariants as answer
use Rattle.orc_datastore.specs.Actions.{data_after}
use Rattle.orc_datastore.specs.Next.{invalid}
use Rattle.orc_disk.specs.Meanings.{DiskMeaning}
use Rattle.orc_journal.specs.declared.entry.Entry.TheVariants as entry
use Rattle.orc_rules.specs.Asked.{answered_at}
use Rattle.orc_rules.specs.Due.{is_decision_due, least_due}
use Rattle.orc_rules.specs.Hubs.{answered, hub_told}
use Rattle.orc_rules.specs.Transactions.{is_other, is_settling}
use Rattle.orc_rules.specs.Verdicts.{verdict}
use Rattle.orc_rules.specs.declared.transaction.Phase.TheVariants as phase
use Rattle.orc_rules.specs.declared.transaction.Transaction.{Transaction}
use Rattle.orc_state.specs.Commits.{IsCommitted}
use Rattle.orc_state.specs.States.{State}
use Rattle.orc_hub.specs.Hubs.{record_of, with_record}
use Rattle.orc_hub.specs.Writes.{HasBroken, HasNoRoom, HasWritten}
use Rattle.orc_hub.specs.declared.hub.Decided.{Decided}
use Rattle.orc_hub.specs.declared.hub.Decided.TheVariants as decided
use Rattle.orc_hub.specs.declared.hub.Hub.{Hub}

-- this caller and number get this answer
abbrev pub answered_to : List ℕ × ℕ → Answer → Decided
answered_to name given = decided.Answered name.0 name.1 given

-- the caller and number of a transaction's call
abbrev pub asker_name : Transaction → List ℕ × ℕ
asker_name it = (it.call.caller, it.call.number)

module _ {D : Type 0} (disk : DiskMeaning D) where
  -- What appending the Decide of a transaction does, whose call is the entry of this number: its caller is answered so,
  -- and its workers go on; or the disk failed, or there is no room, and the hub is down.
  abbrev pub WritesDecide : Hub D → ℕ → ℕ → (List ℕ × ℕ) → ℕ → Decided → Hub D → Type 0
  WritesDecide old t asker name n (decided.Answered caller number given) new =
      ((caller, number) ≡ name) × (((given ≡ answer.Committed n)
      × HasWritten disk old (entry.Decide t) new
      × (new ≡ record (with_record old (answered asker given (hub_told t phase.Decided true (record_of old)))) {
        log = new.log;
      }))
      ⊎ ((given ≡ answer.JournalFault)
      × HasBroken disk old (entry.Decide t) (answered_at asker given old.askers) new))
  WritesDecide old t asker name n (decided.Full len) new = HasNoRoom old (entry.Decide t) len new
  WritesDecide old t asker name n decided.Nothing new = ⊥
  WritesDecide old t asker name n (decided.Settled other) new = ⊥
  WritesDecide old t asker name n decided.Down new = ⊥

  -- what appending the Abort of a transaction does, whose caller is to get this answer
  abbrev pub WritesAbort : Hub D → ℕ → ℕ → (List ℕ × ℕ) → Answer → Decided → Hub D → Type 0
  WritesAbort old t asker name due (decided.Answered caller number given) new =
      ((caller, number) ≡ name) × (((given ≡ due)
      × HasWritten disk old (entry.Abort t) new
      × (new ≡ record (with_record old (answered asker given (hub_told t phase.Aborted false (record_of old)))) {
        log = new.log;
      }))
      ⊎ ((given ≡ answer.JournalFault)
      × HasBroken disk old (entry.Abort t) (answered_at asker given old.askers) new))
  WritesAbort old t asker name due (decided.Full len) new = HasNoRoom old (entry.Abort t) len new
  WritesAbort old t asker name due decided.Nothing new = ⊥
  WritesAbort old t asker name due (decided.Settled other) new = ⊥
  WritesAbort old t asker name due decided.Down new = ⊥

  -- The transaction's decision is due, and all its devices are prepared: its call is committed to the state, and its
  -- Decide appended.
  pub record CommitsOne (old : Hub D) (it : Transaction) (result : Decided) (new : Hub D) : Type 0 where
    pub prepared : verdict old.duties it.t it.plan.held.devices ≡ None
    pub behind : State
    pub committed : IsCommitted old.decls old.state it.call (length old.state.history + 1) behind
    pub written : WritesDecide (record old { state = behind }) it.t it.asker (asker_name it)
        (length old.state.history + 1) result new

  -- why it is given up: what its devices say; where these are all prepared, that the data isn't valid with it, or that
  -- memory ran out
  abbrev pub GivesUpFor : Hub D → Transaction → Answer → Type 0
  GivesUpFor old it given = (verdict old.duties it.t it.plan.held.devices ≡ Some given)
      ⊎ ((verdict old.duties it.t it.plan.held.devices ≡ None) × ((given ≡ answer.Memory)
      ⊎ (invalid old.decls.data_schema (data_after it.call.actions old.state.datastore.data) ≡ Some given)))

  -- a transaction is given up for this answer, and its Abort appended
  pub record GivesUp (old : Hub D) (it : Transaction) (result : Decided) (new : Hub D) : Type 0 where
    pub given : Answer
    pub cause : GivesUpFor old it given
    pub written : WritesAbort old it.t it.asker (asker_name it) given result new

  -- what appending the Settled of a transaction does
  abbrev pub WritesSettled : Hub D → ℕ → Decided → Hub D → Type 0
  WritesSettled old t (decided.Settled given) new =
      (given ≡ t) × HasWritten disk old (entry.Settled t) new
      × (new ≡ record old { log = new.log; active = filter (is_other t) old.active })
  WritesSettled old t decided.Down new = HasBroken disk old (entry.Settled t) old.askers new
  WritesSettled old t (decided.Full len) new = HasNoRoom old (entry.Settled t) len new
  WritesSettled old t decided.Nothing new = ⊥
  WritesSettled old t (decided.Answered caller number given) new = ⊥

  -- what is due for the transaction is done: it is settled; or it is committed, or given up
  abbrev pub DecidesOn : Hub D → Transaction → Decided → Hub D → Type 0
  DecidesOn old it result new =
      ((is_settling it.phase ≡ true) × WritesSettled old it.t result new)
      ⊎ ((is_decision_due old.duties it ≡ true) × (CommitsOne old it result new ⊎ GivesUp old it result new))

  -- What `decide` does: nothing where the hub is down or nothing is due; else what is due for a transaction of the
  -- least number for which something is.
  abbrev pub Decides : Hub D → Decided → Hub D → Type 0
  Decides old result new =
      ((old.down ≡ true) × (result ≡ decided.Down) × (new ≡ old))
      ⊎ (((old.down ≡ false) × (least_due old.duties old.active ≡ None) × (result ≡ decided.Nothing) × (new ≡ old))
      ⊎ ((old.down ≡ false) × ((place : ℕ) × (it : Transaction) × (slice_get old.active place ≡ Some it)
      × (least_due old.duties old.active ≡ Some it.t) × DecidesOn old it result new)))
