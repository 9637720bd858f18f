-- That the calls keep the hub.
use Rattle.std.specs.Prelude.{◌≡◌, ◌⊎◌, ℕ, ◌≤◌, true, false, IsTrue, List, [], ◌∷◌, ◌++◌, Result, length, slice_get, take}
use Rattle.std.specs.declared.option.Option.TheVariants.{None, Some}
use Rattle.std.specs.declared.result.Result.TheVariants.{Err}
use Rattle.orc_call.specs.declared.answer.Answer.{Answer}
use Rattle.orc_call.specs.declared.answer.Answer.TheVariants as answer
use Rattle.orc_call.specs.declared.answer.RecFault.{RecFault}
use Rattle.orc_call.specs.declared.call.Call.{Call}
use Rattle.orc_datastore.specs.Legal.{state_of}
use Rattle.orc_datastore.specs.Plans.{planned}
use Rattle.orc_datastore.specs.declared.plan.Plan.{Plan}
use Rattle.orc_decls.specs.Calls.{is_call}
use Rattle.orc_device.specs.declared.reply.Reply.{Reply}
use Rattle.orc_disk.specs.Meanings.{DiskMeaning}
use Rattle.orc_journal.specs.declared.entry.Entry.{Entry}
use Rattle.orc_journal.specs.declared.entry.Entry.TheVariants as entry
use Rattle.orc_rules.specs.Admissions.{Passes, without}
use Rattle.orc_rules.specs.Due.{is_decision_due}
use Rattle.orc_rules.specs.Fits.{IsFirstFit}
use Rattle.orc_rules.specs.Hubs.{hub_reported}
use Rattle.orc_rules.specs.Transactions.{is_settling}
use Rattle.orc_rules.specs.Worlds.{IsIdle}
use Rattle.orc_rules.specs.declared.transaction.Transaction.{Transaction}
use Rattle.orc_rules.specs.declared.transaction.Waiting.{Waiting}
use Rattle.orc_tree.specs.declared.change.ChangeSet.{ChangeSet}
use Rattle.orc_hub.specs.Admits.{Admits, TurnsAway, WritesIntent, row_by, waiting_name}
use Rattle.orc_hub.specs.Decisions.{CommitsOne, Decides, GivesUp, WritesSettled}
use Rattle.orc_hub.specs.Hubs.{record_of, with_record}
use Rattle.orc_hub.specs.Keeps.{IsHub, KeepsHub}
use Rattle.orc_hub.specs.Mends.{EndsMending, begun_to_mend, row_ended}
use Rattle.orc_hub.specs.Submits.{Submits}
use Rattle.orc_hub.specs.declared.hub.Admit.{Admit}
use Rattle.orc_hub.specs.declared.hub.Decided.{Decided}
use Rattle.orc_hub.specs.declared.hub.Hub.{Hub}
use Rattle.orc_hub.specs.declared.hub.Submitted.{Submitted}

-- A report keeps what is so of each hub.
abbrev pub ReportKeeps : {D : Type 0} → DiskMeaning D → Type 0
ReportKeeps {D} disk =
    (hub : Hub D) (entries : List Entry) (device : ℕ) (reply : Reply) (faults : ℕ) → IsHub disk hub entries
    → IsHub disk (with_record hub (hub_reported device reply faults (record_of hub))) entries

-- The commit of a transaction whose decision is due keeps the hub, over the entries with its Decide, where it is still
-- up.
abbrev pub CommitKeeps : {D : Type 0} → DiskMeaning D → Type 0
CommitKeeps {D} disk =
    (hub new : Hub D) (entries : List Entry) (place : ℕ) (it : Transaction) (result : Decided) → IsHub disk hub entries
    → slice_get hub.active place ≡ Some it → is_decision_due hub.duties it ≡ true → CommitsOne disk hub it result new
    → new.down ≡ false → IsHub disk new (entries ++ entry.Decide it.t ∷ [])

-- Giving up a transaction keeps the hub, over the entries with its Abort, where it is still up.
abbrev pub AbortKeeps : {D : Type 0} → DiskMeaning D → Type 0
AbortKeeps {D} disk =
    (hub new : Hub D) (entries : List Entry) (place : ℕ) (it : Transaction) (result : Decided) → IsHub disk hub entries
    → slice_get hub.active place ≡ Some it → is_decision_due hub.duties it ≡ true → GivesUp disk hub it result new
    → new.down ≡ false → IsHub disk new (entries ++ entry.Abort it.t ∷ [])

-- Settling a transaction keeps the hub, over the entries with its Settled, where it is still up.
abbrev pub SettleKeeps : {D : Type 0} → DiskMeaning D → Type 0
SettleKeeps {D} disk =
    (hub new : Hub D) (entries : List Entry) (place : ℕ) (it : Transaction) (result : Decided) → IsHub disk hub entries
    → slice_get hub.active place ≡ Some it → is_settling it.phase ≡ true → WritesSettled disk hub it.t result new
    → new.down ≡ false → IsHub disk new (entries ++ entry.Settled it.t ∷ [])

-- A submission that was planned on a snapshot keeps the hub.
abbrev pub SubmitKeeps : {D : Type 0} → DiskMeaning D → Type 0
SubmitKeeps {D} disk =
    (hub new : Hub D) (entries : List Entry) (call : Call) (front : ℕ) (plan : Result Plan Answer) (result : Submitted)
    → IsHub disk hub entries → IsTrue (is_call hub.decls call) → front ≤ length hub.state.history
    → (plan ≡ Err answer.Memory)
    ⊎ (plan ≡ planned hub.decls (state_of hub.decls (take front hub.state.history)) front call)
    → Submits hub call front plan result new → IsHub disk new entries

-- An admission that answers the call keeps the hub.
abbrev pub TurnAwayKeeps : {D : Type 0} → DiskMeaning D → Type 0
TurnAwayKeeps {D} disk =
    (hub new : Hub D) (entries : List Entry) (place : ℕ) (it : Waiting) (given : Answer) (result : Admit)
    → IsHub disk hub entries → slice_get hub.waiting place ≡ Some it
    → TurnsAway (record hub { waiting = without place hub.waiting }) it.asker (waiting_name it) given result new
    → IsHub disk new entries

-- An admission that appends its Intent keeps the hub, over the entries with that, where it is still up.
abbrev pub BeginKeeps : {D : Type 0} → DiskMeaning D → Type 0
BeginKeeps {D} disk =
    (hub new : Hub D) (entries : List Entry) (place : ℕ) (it : Waiting) (sets : List (ℕ × ChangeSet)) (result : Admit)
    → IsHub disk hub entries → hub.mends ≡ None → slice_get hub.waiting place ≡ Some it
    → IsFirstFit hub.active hub.waiting place
    → Passes hub.decls hub.state.history it.call it.plan sets
    → WritesIntent disk (record hub { waiting = without place hub.waiting }) it sets result new → new.down ≡ false
    → IsHub disk new (entries ++ row_by result it)

-- The beginning of a reconciliation keeps the hub, where it is idle.
abbrev pub MendingBegunKeeps : {D : Type 0} → DiskMeaning D → Type 0
MendingBegunKeeps {D} disk =
    (hub : Hub D) (entries : List Entry) → IsHub disk hub entries → IsIdle (record_of hub)
    → IsHub disk (begun_to_mend hub) entries

-- The end of a reconciliation keeps the hub, over the entries with a Settled of each unsettled transaction where it
-- ended well, and where the hub is still up.
abbrev pub MendingEndedKeeps : {D : Type 0} → DiskMeaning D → Type 0
MendingEndedKeeps {D} disk =
    (old new : Hub D) (entries : List Entry) (result : Result Unit RecFault) → IsHub disk old entries
    → EndsMending disk old result new → new.down ≡ false → IsHub disk new (entries ++ row_ended result old)

-- Each report keeps the hub.
abbrev pub EachReportKeeps : {D : Type 0} → DiskMeaning D → Type 0
EachReportKeeps {D} disk =
    (hub : Hub D) (device : ℕ) (reply : Reply) (faults : ℕ)
    → KeepsHub disk hub (with_record hub (hub_reported device reply faults (record_of hub)))

-- Each decision keeps the hub.
abbrev pub EachDecisionKeeps : {D : Type 0} → DiskMeaning D → Type 0
EachDecisionKeeps {D} disk =
    (old new : Hub D) (result : Decided) → Decides disk old result new → KeepsHub disk old new

-- Each submission keeps the hub, where it was planned on a snapshot if the hub is up.
abbrev pub EachSubmissionKeeps : {D : Type 0} → DiskMeaning D → Type 0
EachSubmissionKeeps {D} disk =
    (old new : Hub D) (call : Call) (front : ℕ) (plan : Result Plan Answer) (result : Submitted)
    → IsTrue (is_call old.decls call) → (old.down ≡ false → front ≤ length old.state.history)
    → (old.down ≡ false → (plan ≡ Err answer.Memory)
    ⊎ (plan ≡ planned old.decls (state_of old.decls (take front old.state.history)) front call))
    → Submits old call front plan result new → KeepsHub disk old new

-- Each admission keeps the hub.
abbrev pub EachAdmissionKeeps : {D : Type 0} → DiskMeaning D → Type 0
EachAdmissionKeeps {D} disk =
    (old new : Hub D) (result : Admit) → old.down ≡ false → old.mends ≡ None → Admits disk old result new
    → KeepsHub disk old new

-- The beginning of a reconciliation on an idle hub keeps it, up or down.
abbrev pub EachMendingBegunKeeps : {D : Type 0} → DiskMeaning D → Type 0
EachMendingBegunKeeps {D} disk = (hub : Hub D) → IsIdle (record_of hub) → KeepsHub disk hub (begun_to_mend hub)

-- The end of a reconciliation on a hub that is up keeps it, however it ends.
abbrev pub EachMendingEndedKeeps : {D : Type 0} → DiskMeaning D → Type 0
EachMendingEndedKeeps {D} disk =
    (old new : Hub D) (result : Result Unit RecFault) → old.down ≡ false → EndsMending disk old result new
    → KeepsHub disk old new
