-- The operations of a link that are to fail: for each the kind, and whether before or after its effect.
use Rattle.std.specs.Prelude.{Bool, true, false, List, [], ◌∷◌, Option, Some, None, if◌then◌else◌}
use Rattle.orc_device.specs.declared.op.Op.{Op}
use Rattle.orc_device.specs.declared.op.Op.TheVariants as op
use Rattle.orc_device.specs.declared.kind.OpKind.{OpKind}
use Rattle.orc_device.specs.declared.kind.OpKind.TheVariants.{OpenSession, LockRunning, LockCandidate, Edit, Validate, CommitConfirmed, Commit, Confirm, Cancel, Discard, UnlockCandidate, UnlockRunning, CloseSession, GetRunning}
use Rattle.orc_device.specs.declared.kind.When.{When}

-- the kind of an operation
abbrev pub kind_of_op : Op → OpKind
kind_of_op op.OpenSession = OpenSession
kind_of_op op.LockRunning = LockRunning
kind_of_op op.LockCandidate = LockCandidate
kind_of_op (op.Edit set) = Edit
kind_of_op op.Validate = Validate
kind_of_op (op.CommitConfirmed id seconds) = CommitConfirmed
kind_of_op op.Commit = Commit
kind_of_op (op.Confirm id) = Confirm
kind_of_op (op.Cancel id) = Cancel
kind_of_op op.Discard = Discard
kind_of_op op.UnlockCandidate = UnlockCandidate
kind_of_op op.UnlockRunning = UnlockRunning
kind_of_op op.CloseSession = CloseSession
kind_of_op op.GetRunning = GetRunning

-- both operations are of one kind
abbrev pub same_kind : OpKind → OpKind → Bool
same_kind OpenSession OpenSession = true
same_kind LockRunning LockRunning = true
same_kind LockCandidate LockCandidate = true
same_kind Edit Edit = true
same_kind Validate Validate = true
same_kind CommitConfirmed CommitConfirmed = true
same_kind Commit Commit = true
same_kind Confirm Confirm = true
same_kind Cancel Cancel = true
same_kind Discard Discard = true
same_kind UnlockCandidate UnlockCandidate = true
same_kind UnlockRunning UnlockRunning = true
same_kind CloseSession CloseSession = true
same_kind GetRunning GetRunning = true
same_kind kind other = false

-- a listed failure is of operations of this kind
abbrev pub is_listed_kind : OpKind → (OpKind × When) → Bool
is_listed_kind kind listing = same_kind listing.0 kind

-- when the next operation of this kind fails, before its effect or after, if one is listed
abbrev pub listed_when : OpKind → List (OpKind × When) → Option When
listed_when kind [] = None
listed_when kind (listing ∷ later) = if is_listed_kind kind listing then Some listing.1 else listed_when kind later

-- the listed failures without the first of this kind
abbrev pub without_first : OpKind → List (OpKind × When) → List (OpKind × When)
without_first kind [] = []
without_first kind (listing ∷ later) = if is_listed_kind kind listing then later else listing ∷ without_first kind later
