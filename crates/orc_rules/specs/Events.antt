-- What an event is: when it comes, which entries it appends, and the world after it.
use Rattle.std.specs.Prelude.{◌≡◌, ◌⊎◌, ℕ, ◌+◌, ◌≤◌, true, false, Option, Some, None, List, [], ◌∷◌, ◌++◌, length, take, filter, map, All, Ok, Err, slice_get, if◌then◌else◌}
use Rattle.orc_path.specs.Configurations.{Config}
use Rattle.orc_io.specs.Counts.{next_count}
use Rattle.orc_journal.specs.declared.outcome.Appended.TheVariants as appended
use Rattle.orc_call.specs.declared.answer.Answer.{Answer}
use Rattle.orc_call.specs.declared.answer.Answer.TheVariants as answer
use Rattle.orc_call.specs.declared.answer.RecFault.{RecFault}
use Rattle.orc_call.specs.declared.answer.RecFault.TheVariants as fault
use Rattle.orc_call.specs.declared.answer.Why.TheVariants as why
use Rattle.orc_call.specs.declared.call.Call.{Call}
use Rattle.orc_device.specs.Links.{Way, Way as way, Possible, link_fails, is_stranded, way_node, way_reply, way_session}
use Rattle.orc_device.specs.Listings.{kind_of_op, listed_when, without_first}
use Rattle.orc_device.specs.Nodes.{op_refusal, restarted, ticked}
use Rattle.orc_device.specs.Operations.{mark_of}
use Rattle.orc_device.specs.declared.kind.OpKind.{OpKind}
use Rattle.orc_device.specs.declared.kind.When.{When}
use Rattle.orc_device.specs.declared.op.Op.{Op}
use Rattle.orc_device.specs.declared.op.Op.TheVariants as op
use Rattle.orc_device.specs.declared.reply.Reply.{Reply}
use Rattle.orc_journal.specs.declared.entry.Entry.{Entry}
use Rattle.orc_journal.specs.declared.entry.Entry.TheVariants as entry
use Rattle.orc_node.specs.LinkStates.{listed_way}
use Rattle.orc_recover.specs.Menders.{new_mender}
use Rattle.orc_datastore.specs.Actions.{data_after}
use Rattle.orc_decls.specs.Calls.{is_call}
use Rattle.orc_datastore.specs.Legal.{IsNew, state_of}
use Rattle.orc_datastore.specs.Next.{invalid}
use Rattle.orc_datastore.specs.Plans.{planned}
use Rattle.orc_tree.specs.declared.change.ChangeSet.{ChangeSet}
use Rattle.orc_rules.specs.Admissions.{IsTurnedAway, Passes, transaction_begun, intent_entry, started, without}
use Rattle.orc_rules.specs.Asked.{KeepsAnswer, open_of, slot_of, with_open}
use Rattle.orc_rules.specs.Cells.{updated_at}
use Rattle.orc_rules.specs.Due.{is_decision_due, least_due}
use Rattle.orc_rules.specs.Duties.{is_busy}
use Rattle.orc_rules.specs.Fits.{IsFirstFit, first_stale}
use Rattle.orc_rules.specs.Hubs.{Hub, answered, due_on, hub_reported, hub_told}
use Rattle.orc_rules.specs.Journals.{AppendsRow, Reopens, StaysClosed, entries_read, history_read}
use Rattle.orc_rules.specs.Told.{Told, told_by}
use Rattle.orc_rules.specs.Transactions.{is_other, is_settling}
use Rattle.orc_rules.specs.Verdicts.{verdict}
use Rattle.orc_rules.specs.Worlds.{AnswersSubmission, AreUnsettled, HasNoneOf, IsIdle, IsNextNumber, Link, Setting, World, declared, numbers_naming, new_hub, over, to_resolve, stopped, with_snapshot, without_hub}
use Rattle.orc_rules.specs.declared.asked.Asked.{Asked}
use Rattle.orc_rules.specs.declared.duty.Duty.{Duty}
use Rattle.orc_rules.specs.declared.duty.Duty.TheVariants as duty
use Rattle.orc_rules.specs.declared.event.Event.{Event}
use Rattle.orc_rules.specs.declared.event.Event.TheVariants as event
use Rattle.orc_rules.specs.declared.transaction.Phase.TheVariants as phase
use Rattle.orc_rules.specs.declared.transaction.Transaction.{Transaction}
use Rattle.orc_rules.specs.declared.transaction.Waiting.{Waiting}

-- links

-- the link after an operation to which this happened, where these faults stay listed
abbrev pub link_behind : List (OpKind × When) → Link → ℕ → Op → Way → Reply → Link
link_behind listed link session op happened reply = record {
  session = session;
  listed = listed;
  faults = if link_fails happened then next_count link.faults else link.faults;
  unheard = Some (kind_of_op op, reply);
}

-- the menders of a reconciliation, one for each device, where these transactions are unsettled
abbrev pub mender_on : (ℕ → List Call → Config) → Told → List ℕ → ℕ → Duty
mender_on over told numbers device =
    duty.Mends (new_mender (map (to_resolve told) (numbers_naming told device numbers)) (over device told.history))

-- a reconciliation that failed lets the devices go
abbrev pub mender_freed : Duty → Duty
mender_freed (duty.Mends mender) = duty.Free
mender_freed other = other

module _ {D : Type 0} (here : Setting D) (world : World D) where
  -- the history that a read gives
  abbrev pub history : List Call
  history = history_read world.journal

  -- what the entries that a read gives say
  abbrev pub told_now : Told
  told_now = told_by (entries_read world.journal)

  -- What happens to an operation of a link where memory doesn't run out: the node had ended the session, or it fails where
  -- that is listed, or is done or refused.
  abbrev pub way_due : ℕ → Op → Way
  way_due device op =
      let link = world.links device in let node = world.nodes device in
      if is_stranded node link.session op then way.Stranded
      else listed_way (listed_when (kind_of_op op) link.listed) (op_refusal (here.kinds device) node link.session op)

  -- the world after an operation of a device to which this happened, where these faults of its link stay listed
  abbrev pub performed_with : List (OpKind × When) → ℕ → Op → Way → World D
  performed_with listed device op happened =
      let link = world.links device in let node = world.nodes device in
      record world {
        nodes = updated_at world.nodes device (way_node (here.kinds device) node link.session op happened);
        links = updated_at world.links device
            (link_behind listed link (way_session node link.session op happened) op happened
            (way_reply node op happened));
      }

  -- the world after an operation of a device to which this happened: a fault that was listed for it stays no longer
  abbrev pub performed : ℕ → Op → Way → World D
  performed device op happened =
      performed_with (without_first (kind_of_op op) (world.links device).listed) device op happened

  -- The world after an edit that wasn't sent: the device and its session are as they were, and so is what is listed. The
  -- hub is to hear that memory ran out.
  abbrev pub unsent : ℕ → ChangeSet → World D
  unsent device changes = performed_with (world.links device).listed device (op.Edit changes) way.NoMemory

  -- why a transaction whose decision is due is given up: what its devices say; where these are all prepared, that the
  -- data isn't valid with it; or that memory runs out
  abbrev pub IsGivenUpFor : Hub → Transaction → Answer → Type 0
  IsGivenUpFor hub it said = (said ≡ answer.Memory)
      ⊎ ((verdict hub.duties it.t it.plan.held.devices ≡ Some said)
      ⊎ ((verdict hub.duties it.t it.plan.held.devices ≡ None)
      × (invalid here.decls.data_schema (data_after it.call.actions (state_of here.decls history).data) ≡ Some said)))

  -- Each event with its condition, the entries that it appends, and the world after it, but for the journal: under the
  -- hub that is up.
  pub data DoesUnderHub (hub : Hub) : Event → List Entry → World D → Type 0 where
    begins : (caller : List ℕ)
        → DoesUnderHub hub (event.Begin caller (length history)) []
        (record world { snapshots = with_snapshot world.snapshots caller (Some (length history)) })
    answers : (call : Call) (front : ℕ) (said : Answer) (asked : List Asked) → world.snapshots call.caller ≡ Some front
        → AnswersSubmission here.decls hub history call front said → KeepsAnswer call said hub.asked asked
        → DoesUnderHub hub (event.Submit call front (Some said)) [] (record world {
          snapshots = with_snapshot world.snapshots call.caller None;
          hub = Some (record hub { asked = asked });
        })
    queues : (it : Waiting) (front : ℕ) → world.snapshots it.call.caller ≡ Some front → it.plan.front ≡ front
        → is_call here.decls it.call ≡ true
        → open_of hub.asked it.call.caller ≡ None → HasNoneOf hub it.call.caller → IsNew history it.call
        → it.plan.front ≤ length history
        → planned here.decls (state_of here.decls (take it.plan.front history)) it.plan.front it.call ≡ Ok it.plan
        → IsNextNumber hub (entries_read world.journal) it.t
        → slot_of (with_open it.call hub.asked) it.call ≡ Some it.asker
        → DoesUnderHub hub (event.Submit it.call front None) [] (record world {
          snapshots = with_snapshot world.snapshots it.call.caller None;
          hub = Some (record hub {
            waiting = hub.waiting ++ it ∷ [];
            asked = with_open it.call hub.asked;
            given = updated_at hub.given it.t true;
          });
        })
    turns_away : (place : ℕ) (it : Waiting) (said : Answer) → slice_get hub.waiting place ≡ Some it
        → IsFirstFit hub.active hub.waiting place → hub.mends ≡ None → IsTurnedAway here.decls history hub it said
        → DoesUnderHub hub (event.Admit it.t (Some said)) [] (record world {
          snapshots = with_snapshot world.snapshots it.call.caller None;
          hub = Some (answered it.asker said (record hub { waiting = without place hub.waiting }));
        })
    admits : (place : ℕ) (it : Waiting) (sets : List (ℕ × ChangeSet)) → slice_get hub.waiting place ≡ Some it
        → IsFirstFit hub.active hub.waiting place → hub.mends ≡ None → Passes here.decls history it.call it.plan sets
        → first_stale it.plan.held.devices hub.stale ≡ None
        → DoesUnderHub hub (event.Admit it.t None) (intent_entry it ∷ []) (record world {
          hub = Some (record hub {
            waiting = without place hub.waiting;
            active = hub.active ++ transaction_begun (length history) it ∷ [];
            duties = started it.t sets hub.duties;
          });
        })
    performs : (device : ℕ) (op : Op) (happened : Way) → due_on hub device ≡ Some op
        → (world.links device).unheard ≡ None
        → Possible (here.kinds device) (world.nodes device) (world.links device).session op happened
        → (happened ≡ way_due device op) ⊎ (happened ≡ way.NoMemory)
        → DoesUnderHub hub (event.Perform device (kind_of_op op) (mark_of (way_reply (world.nodes device) op happened))
        ((performed device op happened).links device).faults) [] (performed device op happened)
    leaves_unsent : (device : ℕ) (changes : ChangeSet) → due_on hub device ≡ Some (op.Edit changes)
        → (world.links device).unheard ≡ None
        → DoesUnderHub hub (event.Unsent device) [] (unsent device changes)
    reports : (device : ℕ) (op : OpKind) (reply : Reply) → (world.links device).unheard ≡ Some (op, reply)
        → DoesUnderHub hub (event.Report device op (mark_of reply) (world.links device).faults) [] (record world {
          hub = Some (hub_reported device reply (world.links device).faults hub);
          links = updated_at world.links device (record (world.links device) { unheard = None });
        })
    commits : (place : ℕ) (it : Transaction) → slice_get hub.active place ≡ Some it
        → least_due hub.duties hub.active ≡ Some it.t → is_decision_due hub.duties it ≡ true
        → verdict hub.duties it.t it.plan.held.devices ≡ None
        → invalid here.decls.data_schema (data_after it.call.actions (state_of here.decls history).data) ≡ None
        → DoesUnderHub hub (event.Decide it.t (answer.Committed (length history + 1))) (entry.Decide it.t ∷ [])
        (record world {
          snapshots = with_snapshot world.snapshots it.call.caller None;
          hub = Some (answered it.asker (answer.Committed (length history + 1)) (hub_told it.t phase.Decided true hub));
        })
    aborts : (place : ℕ) (it : Transaction) (said : Answer) → slice_get hub.active place ≡ Some it
        → least_due hub.duties hub.active ≡ Some it.t → is_decision_due hub.duties it ≡ true → IsGivenUpFor hub it said
        → DoesUnderHub hub (event.Decide it.t said) (entry.Abort it.t ∷ []) (record world {
          snapshots = with_snapshot world.snapshots it.call.caller None;
          hub = Some (answered it.asker said (hub_told it.t phase.Aborted false hub));
        })
    settles : (place : ℕ) (it : Transaction) → slice_get hub.active place ≡ Some it
        → least_due hub.duties hub.active ≡ Some it.t → is_settling it.phase ≡ true
        → DoesUnderHub hub (event.Settle it.t) (entry.Settled it.t ∷ [])
        (record world { hub = Some (record hub { active = filter (is_other it.t) hub.active }) })
    stops : DoesUnderHub hub event.Stop [] (stopped world)
    mends : (numbers : List ℕ) → IsIdle hub → AreUnsettled told_now numbers
        → DoesUnderHub hub (event.Reconcile None) [] (record world {
          hub = Some (record hub {
            duties = map (mender_on (over here.decls) told_now numbers) (declared here.decls);
            mends = Some None;
          });
        })
    mended : (numbers : List ℕ) → hub.mends ≡ Some None → All (λ duty. is_busy duty ≡ false) hub.duties
        → ((device : ℕ) → (world.links device).unheard ≡ None) → AreUnsettled told_now numbers
        → DoesUnderHub hub (event.Reconcile (Some (Ok tt))) (map entry.Settled numbers)
        (record world { hub = Some (record hub { active = []; mends = None; duties = map mender_freed hub.duties }) })
    finds_no_memory : hub.mends ≡ Some None → All (λ duty. is_busy duty ≡ false) hub.duties
        → ((device : ℕ) → (world.links device).unheard ≡ None)
        → DoesUnderHub hub (event.Reconcile (Some (Err fault.Memory))) []
        (record world { hub = Some (record hub { mends = None; duties = map mender_freed hub.duties }) })
    fails_to_mend : (met : RecFault) → hub.mends ≡ Some (Some met)
        → ((device : ℕ) → (world.links device).unheard ≡ None)
        → DoesUnderHub hub (event.Reconcile (Some (Err met))) []
        (record world { hub = Some (record hub { mends = None; duties = map mender_freed hub.duties }) })

-- events that come whether a hub is up or not, and where none is
module _ {D : Type 0} (world : World D) where
  pub data DoesAnyway : Event → World D → Type 0 where
    ticks : (seconds : ℕ) → DoesAnyway (event.Tick seconds)
        (record world { nodes = λ device. ticked (world.nodes device) seconds })
    restarts : (device : ℕ)
        → DoesAnyway (event.Restart device)
        (record world { nodes = updated_at world.nodes device (restarted (world.nodes device)) })
    answers_down : (call : Call) (front : ℕ) → world.hub ≡ None
        → DoesAnyway (event.Submit call front (Some answer.Down)) world

-- how an event is seen in which the disk failed, if it is
abbrev pub seen_failing : Event → Option Event
seen_failing (event.Admit t said) = Some (event.Admit t (Some answer.JournalFault))
seen_failing (event.Decide t said) = Some (event.Decide t answer.JournalFault)
seen_failing (event.Reconcile result) = Some (event.Reconcile (Some (Err fault.DiskFault)))
seen_failing other = None

module _ {D : Type 0} (here : Setting D) where
  -- The world after an event that was meant to come, and what is seen of it. What it appends is done; or the armed stop
  -- came in an append, and only the stop is seen; or the disk failed in one; or one had no room. Then no hub is up.
  pub data Steps (old : World D) (meant : Event) : Option Event → World D → Type 0 where
    done : (hub : Hub) (row : List Entry) (next new : World D) → old.hub ≡ Some hub
        → DoesUnderHub here old hub meant row next
        → AppendsRow here.disk here.decls.text here.limit old.journal row appended.Done new.journal
        → new ≡ record next { journal = new.journal } → Steps old meant (Some meant) new
    cut : (hub : Hub) (row : List Entry) (next new : World D) → old.hub ≡ Some hub
        → DoesUnderHub here old hub meant row next
        → AppendsRow here.disk here.decls.text here.limit old.journal row appended.Stopped new.journal
        → new ≡ stopped (record old { journal = new.journal }) → Steps old meant (Some event.Stop) new
    failed : (hub : Hub) (row : List Entry) (next new : World D) → old.hub ≡ Some hub
        → DoesUnderHub here old hub meant row next
        → AppendsRow here.disk here.decls.text here.limit old.journal row appended.Failed new.journal
        → new ≡ without_hub (record old { journal = new.journal }) → Steps old meant (seen_failing meant) new
    full : (hub : Hub) (row : List Entry) (next : World D) (len : ℕ) (new : World D) → old.hub ≡ Some hub
        → DoesUnderHub here old hub meant row next
        → AppendsRow here.disk here.decls.text here.limit old.journal row (appended.Full len) new.journal
        → new ≡ without_hub (record old { journal = new.journal }) → Steps old meant None new
    anyway : (new : World D) → DoesAnyway old meant new → Steps old meant (Some meant) new
    unopened : (new : World D) → old.hub ≡ None → meant ≡ event.Recover
        → StaysClosed here.disk here.decls.text here.limit old.journal new.journal
        → new ≡ record old { journal = new.journal } → Steps old meant None new
    recovers : (new : World D) → old.hub ≡ None → meant ≡ event.Recover
        → Reopens here.disk here.decls here.limit here.granted old.journal new.journal
        → new ≡ record old {
          journal = new.journal;
          hub = Some (new_hub (map (λ device. duty.Free) (declared here.decls))
              (map (λ device. Some why.Recovered) (declared here.decls)));
        } → Steps old meant (Some meant) new

-- one event of a run: the world before it, what was meant to come, what is seen of it, and the world after it
pub record Turn (D : Type 0) : Type 0 where
  pub before : World D
  pub meant : Event
  pub seen : Option Event
  pub behind : World D

-- it came as it may
abbrev pub Comes : {D : Type 0} → Setting D → Turn D → Type 0
Comes here turn = Steps here turn.before turn.meant turn.seen turn.behind
