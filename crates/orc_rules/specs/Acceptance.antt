-- What devices accept, and what they may answer to what is due there, at each moment.
use Rattle.std.specs.Prelude.{◌≡◌, ℕ, nat_eq, Bool, true, false, Option, None, Some, List, [], ◌∷◌, ◌++◌, take, slice_get}
use Rattle.std.specs.List.{list_any}
use Rattle.orc_call.specs.declared.answer.RecFault.{RecFault}
use Rattle.orc_call.specs.declared.answer.RecFault.TheVariants as fault
use Rattle.orc_call.specs.declared.answer.Tag.{Tag}
use Rattle.orc_call.specs.declared.answer.Tag.TheVariants.{OperationFailed}
use Rattle.orc_call.specs.declared.call.Call.{Call}
use Rattle.orc_check.specs.declared.acceptance.Accept.{Accept}
use Rattle.orc_decls.specs.Calls.{schema_named}
use Rattle.orc_decls.specs.Declarations.{accept_of}
use Rattle.orc_decls.specs.Devices.{name_of}
use Rattle.orc_decls.specs.declared.declarations.Decls.{Decls}
use Rattle.orc_decls.specs.declared.declarations.Device.{Device}
use Rattle.orc_device.specs.Nodes.{DeviceKind}
use Rattle.orc_device.specs.Operations.{is_fault}
use Rattle.orc_device.specs.declared.kind.OpKind.{OpKind}
use Rattle.orc_device.specs.declared.reply.Reply.{Reply}
use Rattle.orc_node.specs.Kinds.{device_kind, set_stands}
use Rattle.orc_schema_nodes.specs.Schemas.{SchemaTable, plain_table}
use Rattle.orc_recover.specs.Menders.{MenderState, mender_end}
use Rattle.orc_recover.specs.declared.stage.MendStage.{MendStage}
use Rattle.orc_recover.specs.declared.stage.MendStage.TheVariants as mend_stage
use Rattle.orc_worker.specs.Workers.{spoils}
use Rattle.orc_worker.specs.declared.report.Outcome.{Outcome}
use Rattle.orc_worker.specs.declared.report.Outcome.TheVariants as outcome
use Rattle.orc_worker.specs.declared.stage.Stage.{Stage}
use Rattle.orc_worker.specs.declared.stage.Stage.TheVariants as stage
use Rattle.orc_worker.specs.declared.worker.Worker.{Worker}
use Rattle.orc_rules.specs.Hubs.{Hub, duty_on, mend_fault}
use Rattle.orc_rules.specs.Invariant.{RunsAccepted}
use Rattle.orc_rules.specs.Journals.{history_read}
use Rattle.orc_rules.specs.Kept.{heard}
use Rattle.orc_rules.specs.Transactions.{is_preparing}
use Rattle.orc_rules.specs.Worlds.{Link, Setting, World, over}
use Rattle.orc_rules.specs.declared.duty.Duty.{Duty}
use Rattle.orc_rules.specs.declared.duty.Duty.TheVariants as duty
use Rattle.orc_rules.specs.declared.transaction.Transaction.{Transaction}

-- what a device accepts of which nothing is declared: what is valid under the plain schema
abbrev pub plain_accept : Accept
plain_accept = record { schema = plain_table; max = []; forbid = [] }

-- what a device says of configurations, by what is declared of it, or where nothing is
abbrev pub node_kind : List SchemaTable → Option Device → DeviceKind
node_kind schemas None = device_kind plain_accept
node_kind schemas (Some device) = device_kind (accept_of schemas device)

-- the devices of a network as they are declared
abbrev pub declared_kind : Decls → ℕ → DeviceKind
declared_kind decls device = node_kind decls.schemas (slice_get decls.devices device)

-- The device is one of its declared schema: it takes exactly the changes that are typed by it.
abbrev pub IsOfSchema : Decls → ℕ → DeviceKind → Type 0
IsOfSchema decls device kind =
    kind.fits ≡ set_stands (schema_named decls.schemas decls.devices (name_of decls.names device))

-- each device accepts the tree that is due there after each prefix of these calls
abbrev pub AcceptsFronts : Decls → (ℕ → DeviceKind) → List Call → Type 0
AcceptsFronts decls kinds history =
    (count device : ℕ) → (kinds device).accepts (over decls device (take count history)) ≡ true

-- sessions

-- at this stage the worker has a session
abbrev pub works_in_session : Stage → Bool
works_in_session stage.Opening = false
works_in_session stage.Lost = false
works_in_session stage.Reopening = false
works_in_session stage.Over = false
works_in_session stage.LockingRunning = true
works_in_session stage.LockingCandidate = true
works_in_session stage.Editing = true
works_in_session stage.Validating = true
works_in_session stage.Committing = true
works_in_session stage.Refusing = true
works_in_session stage.Prepared = true
works_in_session stage.Confirming = true
works_in_session stage.Cancelling = true
works_in_session stage.Recancelling = true
works_in_session stage.UnlockingCandidate = true
works_in_session stage.UnlockingRunning = true
works_in_session stage.Closing = true

-- at this stage the mender has a session
abbrev pub mends_in_session : MendStage → Bool
mends_in_session mend_stage.Opening = false
mends_in_session mend_stage.Over = false
mends_in_session mend_stage.Resolving = true
mends_in_session (mend_stage.LockingRunning read) = true
mends_in_session (mend_stage.LockingCandidate read) = true
mends_in_session (mend_stage.Editing read) = true
mends_in_session mend_stage.Validating = true
mends_in_session mend_stage.Committing = true
mends_in_session mend_stage.UnlockingCandidate = true
mends_in_session mend_stage.UnlockingRunning = true
mends_in_session mend_stage.Closing = true

-- who works there has opened a session
abbrev pub has_session : Duty → Bool
has_session duty.Free = false
has_session (duty.Works worker) = works_in_session worker.stage
has_session (duty.Mends mender) = mends_in_session mender.stage

-- replies

-- What an outcome of preparing says of the tree that is due with the call: a device that is prepared accepts it, and
-- one refuses it with operation-failed alone, and only where it doesn't accept it.
abbrev pub Tells : Option Outcome → Bool → Type 0
Tells (Some outcome.Prepared) accepted = accepted ≡ true
Tells (Some (outcome.Refused tag)) accepted = (tag ≡ OperationFailed) × (accepted ≡ false)
Tells other accepted = Unit {0}

-- a reply to a worker counts as a fault of the link only where it is one
abbrev pub IsHonest : Duty → Reply → Type 0
IsHonest duty.Free reply = Unit {0}
IsHonest (duty.Works worker) reply = spoils worker.stage reply ≡ true → is_fault reply ≡ true
IsHonest (duty.Mends mender) reply = Unit {0}

module _ (decls : Decls) (kinds : ℕ → DeviceKind) where
  -- What is known of replies under a hub: who has come past the opening of a session has one; what the outcomes of
  -- preparing say; and no worker takes for a fault what is none.
  pub record Replies (history : List Call) (active : List Transaction) (duties : List Duty) (links : ℕ → Link)
      : Type 0 where
    pub opened : (device : ℕ)
        → has_session (heard (links device).unheard (links device).faults (duty_on duties device)) ≡ true
        → nat_eq (links device).session 0 ≡ false
    pub tells : (place : ℕ) (it : Transaction) → slice_get active place ≡ Some it → is_preparing it.phase ≡ true
        → (device : ℕ) (worker : Worker) → list_any (nat_eq device) it.plan.held.devices ≡ true
        → heard (links device).unheard (links device).faults (duty_on duties device) ≡ duty.Works worker
        → worker.t ≡ it.t → Tells worker.outcome ((kinds device).accepts (over decls device (history ++ it.call ∷ [])))
    pub honest : (device : ℕ) (one : OpKind × Reply) → (links device).unheard ≡ Some one
        → IsHonest (duty_on duties device) one.1

-- No device refused what a mender asked of it: none that is heard, nor one that isn't heard yet.
pub record IsNotRefused (mends : Option (Option RecFault)) (duties : List Duty) (links : ℕ → Link) : Type 0 where
  pub met : (device : ℕ) (tag : Tag) → mends ≡ Some (Some (fault.Refused device tag)) → ⊥
  pub unheard : (device : ℕ) (one : OpKind × Reply) (mender : MenderState) → (links device).unheard ≡ Some one
      → duty_on duties device ≡ duty.Mends mender
      → (other : ℕ) (tag : Tag)
      → mend_fault device (mender_end mender one.1 (links device).faults) ≡ Some (fault.Refused other tag) → ⊥

module _ {D : Type 0} (here : Setting D) where
  -- What is kept of replies: each device accepts what it runs and what it would come back to, and what is known of
  -- replies under a hub that is up.
  pub record RepliesKept (world : World D) : Type 0 where
    pub nodes : (device : ℕ) → RunsAccepted (here.kinds device) (world.nodes device)
    pub under : (hub : Hub) → world.hub ≡ Some hub
        → Replies here.decls here.kinds (history_read world.journal) hub.active hub.duties world.links

  -- What is kept of prefixes: each device accepts the tree due after each prefix of the history, and so no
  -- reconciliation is refused.
  pub record FrontsKept (world : World D) : Type 0 where
    pub fronts : AcceptsFronts here.decls here.kinds (history_read world.journal)
    pub under : (hub : Hub) → world.hub ≡ Some hub → IsNotRefused hub.mends hub.duties world.links
