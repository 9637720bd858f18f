-- Each call of a real hub is an event of the rules: by what its clauses say of it the event comes in the hub's world.
use Rattle.std.specs.Prelude.{◌≡◌, ◌⊎◌, ℕ, ◌≤◌, true, false, not, List, Option, None, Some, Result, Ok, Err, length, slice_get, take}
use Rattle.std.specs.List.{list_all}
use Rattle.orc_call.specs.declared.answer.Answer.{Answer}
use Rattle.orc_call.specs.declared.answer.Answer.TheVariants as answer
use Rattle.orc_call.specs.declared.answer.RecFault.{RecFault}
use Rattle.orc_call.specs.declared.answer.RecFault.TheVariants as fault
use Rattle.orc_call.specs.declared.call.Call.{Call}
use Rattle.orc_datastore.specs.Legal.{state_of}
use Rattle.orc_datastore.specs.Plans.{planned}
use Rattle.orc_datastore.specs.declared.plan.Plan.{Plan}
use Rattle.orc_decls.specs.Calls.{is_call}
use Rattle.orc_device.specs.Links.{Way, Way as way, Possible, way_reply}
use Rattle.orc_device.specs.Listings.{kind_of_op}
use Rattle.orc_device.specs.Operations.{mark_of}
use Rattle.orc_device.specs.declared.kind.OpKind.{OpKind}
use Rattle.orc_device.specs.declared.op.Op.{Op}
use Rattle.orc_device.specs.declared.op.Op.TheVariants as op
use Rattle.orc_device.specs.declared.reply.Reply.{Reply}
use Rattle.orc_disk.specs.Stops.{Stopping, inside}
use Rattle.orc_hub.specs.Admits.{Admits, NoneFits, waiting_name}
use Rattle.orc_hub.specs.Decisions.{Decides}
use Rattle.orc_hub.specs.Hubs.{record_of, with_record}
use Rattle.orc_hub.specs.Keeps.{IsHub}
use Rattle.orc_hub.specs.Mends.{EndsMending, begun_to_mend}
use Rattle.orc_hub.specs.Starts.{HasStarted}
use Rattle.orc_hub.specs.Submits.{Submits}
use Rattle.orc_hub.specs.declared.hub.Admit.{Admit}
use Rattle.orc_hub.specs.declared.hub.Admit.TheVariants as admit
use Rattle.orc_hub.specs.declared.hub.Decided.{Decided}
use Rattle.orc_hub.specs.declared.hub.Decided.TheVariants as decided
use Rattle.orc_hub.specs.declared.hub.Hub.{Hub}
use Rattle.orc_hub.specs.declared.hub.Submitted.{Submitted}
use Rattle.orc_hub.specs.declared.hub.Submitted.TheVariants as submitted
use Rattle.orc_journal.specs.Opened.{OpenJournal}
use Rattle.orc_journal.specs.Opening.{HasOpened, HasRefused}
use Rattle.orc_journal.specs.declared.entry.Entry.{Entry}
use Rattle.orc_journal.specs.declared.fault.OpenFault.{OpenFault}
use Rattle.orc_tree.specs.declared.change.ChangeSet.{ChangeSet}
use Rattle.orc_rules.specs.Cells.{updated_at}
use Rattle.orc_rules.specs.Due.{least_due}
use Rattle.orc_rules.specs.Duties.{is_busy}
use Rattle.orc_rules.specs.Events.{DoesUnderHub, performed, unsent, way_due}
use Rattle.orc_rules.specs.Fits.{IsFirstFit}
use Rattle.orc_rules.specs.Hubs.{due_on, has_met_failure, hub_reported}
use Rattle.orc_rules.specs.Journals.{HoldsEntries, entries_read}
use Rattle.orc_rules.specs.Worlds.{IsIdle, Setting, World, stopped, unheard_of, with_snapshot}
use Rattle.orc_rules.specs.declared.event.Event.{Event}
use Rattle.orc_rules.specs.declared.event.Event.TheVariants as event
use Rattle.orc_rules.specs.declared.transaction.Waiting.{Waiting}
use Rattle.orc_hub_laws.specs.Under.{FailsIn, GoesDown, GoesOnUnder, IsWorldOf, LacksRoomFor, StaysDown}

-- the event admits a call, or turns it away
abbrev pub IsAdmission : Event → Type 0
IsAdmission (event.Admit t given) = Unit {0}
IsAdmission other = ⊥

-- the event decides a transaction, or settles it
abbrev pub IsDecision : Event → Type 0
IsDecision (event.Decide t given) = Unit {0}
IsDecision (event.Settle t) = Unit {0}
IsDecision other = ⊥

-- the event is an operation of the device that is due, which is performed or isn't sent
abbrev pub IsOperationOn : ℕ → Event → Type 0
IsOperationOn device (event.Perform other kind reply count) = other ≡ device
IsOperationOn device (event.Unsent other) = other ≡ device
IsOperationOn device other = ⊥

-- the answer that a submission got at once, if it did
abbrev pub said_at_once : Submitted → Option Answer
said_at_once (submitted.Answered said) = Some said
said_at_once (submitted.Queued t) = None

-- the hub whose journal's disk has this stop armed
abbrev pub armed_with : {D : Type 0} → ℕ → ℕ → Hub (Stopping D) → Hub (Stopping D)
armed_with operation bytes hub = record hub {
  log = record hub.log {
    journal = record hub.log.journal { disk = record hub.log.journal.disk { op = operation; bytes = bytes } };
  };
}

-- the world with a stop armed
abbrev pub world_armed : {D : Type 0} → ℕ → ℕ → World D → World D
world_armed operation bytes world =
    record world { journal = record world.journal { armed = operation; bytes = bytes } }

-- the world with the record of this hub
abbrev pub world_with : {D : Type 0} → Hub (Stopping D) → World D → World D
world_with hub world = record world { hub = Some (record_of hub) }

-- the world with the record of this hub, and without a snapshot of this caller
abbrev pub world_answered : {D : Type 0} → List ℕ → Hub (Stopping D) → World D → World D
world_answered caller hub world =
    record (world_with hub world) { snapshots = with_snapshot world.snapshots caller None }

-- the world once the hub has heard what was replied on this device
abbrev pub world_heard : {D : Type 0} → ℕ → Hub (Stopping D) → World D → World D
world_heard device hub world =
    record (world_with hub world) { links = updated_at world.links device (unheard_of (world.links device)) }

module _ {D : Type 0} (here : Setting D) where
  -- A snapshot that a caller takes of the hub's state is the beginning of a call.
  abbrev pub SnapshotBegins : Type 0
  SnapshotBegins = (world : World D) (hub : Hub (Stopping D)) (caller : List ℕ) → IsWorldOf here world hub
      → GoesOnUnder here world
      (record world { snapshots = with_snapshot world.snapshots caller (Some (length hub.state.history)) })
      (event.Begin caller (length hub.state.history)) hub

  -- What `submit` does is the submission of a call that was planned on its caller's snapshot.
  abbrev pub SubmitIsEvent : Type 0
  SubmitIsEvent = (world : World D) (old new : Hub (Stopping D)) (call : Call) (front : ℕ) (plan : Result Plan Answer)
      (result : Submitted)
      → IsWorldOf here world old → world.snapshots call.caller ≡ Some front → is_call here.decls call ≡ true
      → front ≤ length old.state.history
      → (plan ≡ Err answer.Memory)
      ⊎ (plan ≡ planned old.decls (state_of old.decls (take front old.state.history)) front call)
      → Submits old call front plan result new
      → GoesOnUnder here world (world_answered call.caller new world)
      (event.Submit call front (said_at_once result)) new

  -- what an admission with this result comes to, of this waiting call
  abbrev pub ComesToAdmit : World D → Waiting → Admit → Hub (Stopping D) → Type 0
  ComesToAdmit world it (admit.Admitted t) new =
      (t ≡ it.t) × GoesOnUnder here world (world_with new world) (event.Admit it.t None) new
  ComesToAdmit world it (admit.Answered caller number given) new = ((caller, number) ≡ waiting_name it)
      × (GoesOnUnder here world (world_answered caller new world) (event.Admit it.t (Some given)) new
      ⊎ ((given ≡ answer.JournalFault) × FailsIn here world (event.Admit it.t None) new))
  ComesToAdmit world it (admit.Full len) new = LacksRoomFor here world (event.Admit it.t None) len new
  ComesToAdmit world it admit.Nothing new = ⊥

  -- What `admit` does is the admission of the first waiting call that fits, which is answered, or gets its Intent.
  abbrev pub AdmitIsEvent : Type 0
  AdmitIsEvent = (world : World D) (old new : Hub (Stopping D)) (place : ℕ) (it : Waiting) (result : Admit)
      → IsWorldOf here world old → old.mends ≡ None → slice_get old.waiting place ≡ Some it
      → IsFirstFit old.active old.waiting place → Admits (inside here.disk) old result new
      → ComesToAdmit world it result new

  -- An operation that `order` gives is performed on its device, where what was replied there last was heard.
  abbrev pub OrderIsPerformed : Type 0
  OrderIsPerformed = (world : World D) (hub : Hub (Stopping D)) (device : ℕ) (due : Op) (happened : Way)
      → IsWorldOf here world hub → due_on (record_of hub) device ≡ Some due → (world.links device).unheard ≡ None
      → Possible (here.kinds device) (world.nodes device) (world.links device).session due happened
      → (happened ≡ way_due here world device due) ⊎ (happened ≡ way.NoMemory)
      → GoesOnUnder here world (performed here world device due happened)
      (event.Perform device (kind_of_op due) (mark_of (way_reply (world.nodes device) due happened))
      ((performed here world device due happened).links device).faults) hub

  -- An edit that `order` can't copy isn't sent.
  abbrev pub OrderIsUnsent : Type 0
  OrderIsUnsent = (world : World D) (hub : Hub (Stopping D)) (device : ℕ) (changes : ChangeSet)
      → IsWorldOf here world hub → due_on (record_of hub) device ≡ Some (op.Edit changes)
      → (world.links device).unheard ≡ None
      → GoesOnUnder here world (unsent here world device changes) (event.Unsent device) hub

  -- What `report` does is that the hub hears of what was replied.
  abbrev pub ReportIsEvent : Type 0
  ReportIsEvent = (world : World D) (old new : Hub (Stopping D)) (device : ℕ) (kind : OpKind) (reply : Reply)
      → IsWorldOf here world old → (world.links device).unheard ≡ Some (kind, reply)
      → new ≡ with_record old (hub_reported device reply (world.links device).faults (record_of old))
      → GoesOnUnder here world (world_heard device new world)
      (event.Report device kind (mark_of reply) (world.links device).faults) new

  -- an event is meant to decide the transaction of this number, or to settle it
  abbrev pub MeansToDecide : ℕ → Event → Type 0
  MeansToDecide t meant = ((given : Answer) × (meant ≡ event.Decide t given)) ⊎ (meant ≡ event.Settle t)

  -- what a decision with this result comes to, of the transaction of this number
  abbrev pub ComesToDecide : World D → ℕ → Decided → Hub (Stopping D) → Type 0
  ComesToDecide world t (decided.Answered caller number given) new =
      GoesOnUnder here world (world_answered caller new world) (event.Decide t given) new
      ⊎ ((given ≡ answer.JournalFault) × ((meant : Answer) × FailsIn here world (event.Decide t meant) new))
  ComesToDecide world t (decided.Settled other) new =
      (other ≡ t) × GoesOnUnder here world (world_with new world) (event.Settle t) new
  ComesToDecide world t decided.Down new = FailsIn here world (event.Settle t) new
  ComesToDecide world t (decided.Full len) new =
      (meant : Event) × MeansToDecide t meant × LacksRoomFor here world meant len new
  ComesToDecide world t decided.Nothing new = ⊥

  -- What `decide` does is the decision on the transaction of the least number for which something is due, or its
  -- settling.
  abbrev pub DecideIsEvent : Type 0
  DecideIsEvent = (world : World D) (old new : Hub (Stopping D)) (t : ℕ) (result : Decided) → IsWorldOf here world old
      → least_due old.duties old.active ≡ Some t → Decides (inside here.disk) old result new
      → ComesToDecide world t result new

  -- The controller stops: the hub is let go, and its disk stays.
  abbrev pub LettingGoIsStop : Type 0
  LettingGoIsStop = (world : World D) (hub : Hub (Stopping D)) → IsWorldOf here world hub
      → GoesDown here world (stopped world) event.Stop (Some event.Stop) hub

  -- What `begin_reconcile` does is the beginning of a reconciliation.
  abbrev pub MendingBegins : Type 0
  MendingBegins = (world : World D) (old new : Hub (Stopping D)) → IsWorldOf here world old → IsIdle (record_of old)
      → new ≡ begun_to_mend old → GoesOnUnder here world (world_with new world) (event.Reconcile None) new

  -- what the end of a reconciliation with this result comes to
  abbrev pub ComesToEnd : World D → Result Unit RecFault → Hub (Stopping D) → Type 0
  ComesToEnd world result new = GoesOnUnder here world (world_with new world) (event.Reconcile (Some result)) new
      ⊎ (((result ≡ Err fault.DiskFault) × FailsIn here world (event.Reconcile (Some (Ok tt))) new)
      ⊎ ((len : ℕ) × (result ≡ Err (fault.Full len))
      × LacksRoomFor here world (event.Reconcile (Some (Ok tt))) len new))

  -- What `finish_reconcile` does is the end of a reconciliation, where what was replied was heard.
  abbrev pub MendingEnds : Type 0
  MendingEnds = (world : World D) (old new : Hub (Stopping D)) (result : Result Unit RecFault)
      → IsWorldOf here world old
      → (has_met_failure old.mends ≡ false → list_all (λ duty. not (is_busy duty)) old.duties ≡ true)
      → ((device : ℕ) → (world.links device).unheard ≡ None) → EndsMending (inside here.disk) old result new
      → ComesToEnd world result new

  -- A hub that starts over the journal of a world in which none is up is the recovery. The journal was opened anew, and
  -- isn't empty; where it is taken for granted that a journal reads what was written it does.
  abbrev pub StartIsRecovery : Type 0
  StartIsRecovery = (world : World D) (from : Stopping D) (journal : OpenJournal (Stopping D)) (entries : List Entry)
      (hub : Hub (Stopping D))
      → world.hub ≡ None → HoldsEntries here.disk here.decls.text here.limit world.journal
      → (from.inner ≡ world.journal.disk) × (from.op ≡ 0) × (from.stopped ≡ false)
      → HasOpened (inside here.disk) here.decls.text here.limit from journal entries → journal.fresh ≡ false
      → (here.granted ≡ true → entries ≡ entries_read world.journal)
      → IsHub (inside here.disk) hub entries → HasStarted here.decls journal hub
      → GoesOnUnder here world (world_with hub world) event.Recover hub

  -- A journal that was refused as it was opened stays as it is.
  abbrev pub RefusalStaysDown : Type 0
  RefusalStaysDown = (world : World D) (from to : Stopping D) (cause : OpenFault) → world.hub ≡ None
      → HoldsEntries here.disk here.decls.text here.limit world.journal → from.inner ≡ world.journal.disk
      → HasRefused (inside here.disk) here.decls.text here.limit from to cause → StaysDown here world to.inner

  -- A journal that was opened stays as it is, where no hub starts over it.
  abbrev pub OpeningStaysDown : Type 0
  OpeningStaysDown = (world : World D) (from : Stopping D) (journal : OpenJournal (Stopping D)) (entries : List Entry)
      → world.hub ≡ None → HoldsEntries here.disk here.decls.text here.limit world.journal
      → from.inner ≡ world.journal.disk
      → HasOpened (inside here.disk) here.decls.text here.limit from journal entries
      → StaysDown here world journal.disk.inner

  -- A stop that is armed through the hub is armed in the world.
  abbrev pub ArmingArms : Type 0
  ArmingArms = (world : World D) (hub : Hub (Stopping D)) (operation bytes : ℕ) → IsWorldOf here world hub
      → IsWorldOf here (world_armed operation bytes world) (armed_with operation bytes hub)

  -- Where no waiting call fits, none is admitted and none is turned away.
  abbrev pub NoAdmission : Type 0
  NoAdmission = (world : World D) (hub : Hub (Stopping D)) (meant : Event) (row : List Entry) (next : World D)
      → NoneFits hub.active hub.waiting → IsAdmission meant → DoesUnderHub here world (record_of hub) meant row next → ⊥

  -- Where nothing is due in the journal, nothing is decided and nothing is settled.
  abbrev pub NoDecision : Type 0
  NoDecision = (world : World D) (hub : Hub (Stopping D)) (meant : Event) (row : List Entry) (next : World D)
      → least_due hub.duties hub.active ≡ None → IsDecision meant
      → DoesUnderHub here world (record_of hub) meant row next → ⊥

  -- Where no operation is due on a device, none is performed there, and none is unsent.
  abbrev pub NothingOrdered : Type 0
  NothingOrdered = (world : World D) (hub : Hub (Stopping D)) (device : ℕ) (meant : Event) (row : List Entry)
      (next : World D)
      → due_on (record_of hub) device ≡ None → IsOperationOn device meant
      → DoesUnderHub here world (record_of hub) meant row next → ⊥
