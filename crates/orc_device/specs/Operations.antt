-- Operations and replies, and which of them hold what takes memory.
use Rattle.std.specs.Prelude.{Bool, true, false}
use Rattle.orc_call.specs.declared.answer.Tag.{Tag}
use Rattle.orc_call.specs.declared.answer.Tag.TheVariants.{LockDenied, InUse, InvalidValue, OperationFailed, NoSession}
use Rattle.orc_device.specs.declared.op.Op.{Op}
use Rattle.orc_device.specs.declared.op.Op.TheVariants.{OpenSession, LockRunning, LockCandidate, Edit, Validate, CommitConfirmed, Commit, Confirm, Cancel, Discard, UnlockCandidate, UnlockRunning, CloseSession, GetRunning}
use Rattle.orc_device.specs.declared.reply.Mark.{Mark}
use Rattle.orc_device.specs.declared.reply.Mark.TheVariants as mark
use Rattle.orc_device.specs.declared.reply.Reply.{Reply}
use Rattle.orc_device.specs.declared.reply.Reply.TheVariants as reply

-- an edit: the one operation that holds changes
abbrev pub IsEdit : Op → Type 0
IsEdit OpenSession = ⊥
IsEdit LockRunning = ⊥
IsEdit LockCandidate = ⊥
IsEdit (Edit set) = Unit {0}
IsEdit Validate = ⊥
IsEdit (CommitConfirmed id seconds) = ⊥
IsEdit Commit = ⊥
IsEdit (Confirm id) = ⊥
IsEdit (Cancel id) = ⊥
IsEdit Discard = ⊥
IsEdit UnlockCandidate = ⊥
IsEdit UnlockRunning = ⊥
IsEdit CloseSession = ⊥
IsEdit GetRunning = ⊥

-- a reply with a tree
abbrev pub IsTree : Reply → Type 0
IsTree reply.Ok = ⊥
IsTree (reply.Tree tree) = Unit {0}
IsTree (reply.Refused tag) = ⊥
IsTree reply.Fault = ⊥
IsTree reply.Memory = ⊥

-- the reply says that the link failed
abbrev pub IsLinkFault : Reply → Type 0
IsLinkFault reply.Ok = ⊥
IsLinkFault (reply.Tree tree) = ⊥
IsLinkFault (reply.Refused tag) = ⊥
IsLinkFault reply.Fault = Unit {0}
IsLinkFault reply.Memory = ⊥

-- Tests of replies ----------------------------------------------------------------------------------------------------

-- the operation was done: the reply is Ok
abbrev pub is_ok : Reply → Bool
is_ok reply.Ok = true
is_ok (reply.Tree tree) = false
is_ok (reply.Refused tag) = false
is_ok reply.Fault = false
is_ok reply.Memory = false

-- the reply says that the link failed, as a test
abbrev pub is_fault : Reply → Bool
is_fault reply.Ok = false
is_fault (reply.Tree tree) = false
is_fault (reply.Refused tag) = false
is_fault reply.Fault = true
is_fault reply.Memory = false

-- the error tag is invalid-value
abbrev pub is_invalid_value : Tag → Bool
is_invalid_value LockDenied = false
is_invalid_value InUse = false
is_invalid_value InvalidValue = true
is_invalid_value OperationFailed = false
is_invalid_value NoSession = false

-- a confirm or a cancel is done, or nothing was pending
abbrev pub is_resolved : Reply → Bool
is_resolved reply.Ok = true
is_resolved (reply.Tree tree) = false
is_resolved (reply.Refused tag) = is_invalid_value tag
is_resolved reply.Fault = false
is_resolved reply.Memory = false

-- a reply without its tree
abbrev pub mark_of : Reply → Mark
mark_of reply.Ok = mark.Ok
mark_of (reply.Tree tree) = mark.Tree
mark_of (reply.Refused tag) = mark.Refused tag
mark_of reply.Fault = mark.Fault
mark_of reply.Memory = mark.Memory
