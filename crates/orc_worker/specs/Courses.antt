-- The operations that a transaction does on a device, one reply after another.
use Rattle.std.specs.Prelude.{◌≡◌, ℕ, Bool, false, Option, Some, None, List, [], ◌∷◌, if◌then◌else◌}
use Rattle.orc_tree.specs.declared.change.ChangeSet.{ChangeSet}
use Rattle.orc_device.specs.Operations.{is_ok, is_resolved}
use Rattle.orc_device.specs.declared.op.Op.{Op}
use Rattle.orc_device.specs.declared.op.Op.TheVariants.{OpenSession, LockRunning, LockCandidate, Edit, Validate, CommitConfirmed, Confirm, Cancel, UnlockCandidate, UnlockRunning, CloseSession}
use Rattle.orc_device.specs.declared.reply.Reply.{Reply}
use Rattle.orc_device.specs.declared.reply.Reply.TheVariants as reply
use Rattle.orc_worker.specs.Workers.{new_worker, worker_order, worker_took, worker_told}
use Rattle.orc_worker.specs.declared.stage.Stage.TheVariants.{Prepared, Lost}
use Rattle.orc_worker.specs.declared.worker.Worker.{Worker}

-- the operations by which a transaction prepares a device
abbrev pub preparing : ℕ → ChangeSet → List Op
preparing t set = OpenSession ∷ LockRunning ∷ LockCandidate ∷ Edit set ∷ Validate ∷ CommitConfirmed t 120 ∷ []

-- the operations by which a transaction ends on a device that it prepared, where it is decided, and where it isn't
abbrev pub ending : ℕ → Bool → List Op
ending t commit = (if commit then Confirm t else Cancel t) ∷ UnlockCandidate ∷ UnlockRunning ∷ CloseSession ∷ []

-- an operation that is due, before later ones
abbrev pub asked_first : Option Op → List Op → List Op
asked_first None later = []
asked_first (Some op) later = op ∷ later

-- the operations that a worker asks for, as these replies come, each with the link's count of faults, until none is due
abbrev pub asked_for : Worker → List (Reply × ℕ) → List Op
asked_for worker [] = []
asked_for worker (answer ∷ later) =
    asked_first (worker_order worker) (asked_for (worker_took worker answer.0 answer.1) later)

-- as many of these operations as there are replies
abbrev pub as_many : List Op → List (Reply × ℕ) → List Op
as_many [] replies = []
as_many (op ∷ ops) [] = []
as_many (op ∷ ops) (answer ∷ later) = op ∷ as_many ops later

-- what comes after a reply in preparing: these where it is Ok, nothing after a fault of the link, and else those
abbrev pub after_reply : Reply → List Op → List Op → List Op
after_reply reply.Ok next otherwise = next
after_reply (reply.Tree tree) next otherwise = otherwise
after_reply (reply.Refused tag) next otherwise = otherwise
after_reply reply.Fault next otherwise = []
after_reply reply.Memory next otherwise = otherwise

-- These operations as long as each is answered Ok. After a refusal, or where memory ran out, the session is closed;
-- after a fault of the link nothing more is asked.
abbrev pub while_ok : List Op → List (Reply × ℕ) → List Op
while_ok [] replies = []
while_ok (op ∷ ops) [] = []
while_ok (op ∷ ops) (answer ∷ later) =
    op ∷ after_reply answer.0 (while_ok ops later) (as_many (CloseSession ∷ []) later)

-- the first of these operations, and the others, whatever is replied to them, where the first is done or was not needed
abbrev pub where_resolved : List Op → List (Reply × ℕ) → List Op
where_resolved [] replies = []
where_resolved (op ∷ ops) [] = []
where_resolved (op ∷ ops) (answer ∷ later) = op ∷ (if is_resolved answer.0 then as_many ops later else [])

-- a new session, and these operations in it where it was opened
abbrev pub in_session : (List (Reply × ℕ) → List Op) → List (Reply × ℕ) → List Op
in_session ops [] = []
in_session ops (answer ∷ later) = OpenSession ∷ (if is_ok answer.0 then ops later else [])

-- Along all replies a worker prepares its device, then ends what it prepared by the decision, or cancels what it lost.
pub record CoursesAreThese : Type 0 where
  pub prepares : (t : ℕ) (set : ChangeSet) (replies : List (Reply × ℕ))
      → asked_for (new_worker t set) replies ≡ while_ok (preparing t set) replies
  pub ends : (worker : Worker) (commit : Bool) (replies : List (Reply × ℕ)) → worker.stage ≡ Prepared
      → asked_for (worker_told worker commit) replies ≡ where_resolved (ending worker.t commit) replies
  pub cancels : (worker : Worker) (replies : List (Reply × ℕ)) → worker.stage ≡ Lost
      → asked_for (worker_told worker false) replies
      ≡ in_session (where_resolved (Cancel worker.t ∷ CloseSession ∷ [])) replies
