-- The operations that a reconciliation does on a device, one reply after another.
use Rattle.std.specs.Prelude.{◌≡◌, ℕ, Bool, Option, Some, None, List, [], ◌∷◌, if◌then◌else◌}
use Rattle.orc_path.specs.Configurations.{Config}
use Rattle.orc_tree.specs.Sameness.{equal_configs}
use Rattle.orc_device.specs.Operations.{is_ok, is_resolved}
use Rattle.orc_device.specs.declared.op.Op.{Op}
use Rattle.orc_device.specs.declared.op.Op.TheVariants.{OpenSession, LockRunning, LockCandidate, Edit, Validate, Commit, UnlockCandidate, UnlockRunning, CloseSession, GetRunning}
use Rattle.orc_device.specs.declared.reply.Reply.{Reply}
use Rattle.orc_device.specs.declared.reply.Reply.TheVariants as reply
use Rattle.orc_recover.specs.Menders.{MenderState, differences, mender_order, mender_took, new_mender, resolving_op}

-- the operations that bring a device from what it runs to what is due, and close the session
abbrev pub bringing : Config → Config → List Op
bringing running due =
    LockRunning ∷ LockCandidate ∷ Edit (differences running due) ∷ Validate ∷ Commit ∷ UnlockCandidate ∷ UnlockRunning
    ∷ CloseSession ∷ []

-- an operation that is due for a mender, before later ones
abbrev pub mended_first : Option Op → List Op → List Op
mended_first None later = []
mended_first (Some op) later = op ∷ later

-- the operations that a mender asks for, as these replies come, until none is due
abbrev pub mender_asks : MenderState → List Reply → List Op
mender_asks mender [] = []
mender_asks mender (answer ∷ later) =
    mended_first (mender_order differences mender) (mender_asks (mender_took equal_configs mender answer) later)

-- these operations as long as each is answered Ok
abbrev pub each_ok : List Op → List Reply → List Op
each_ok [] replies = []
each_ok (op ∷ ops) [] = []
each_ok (op ∷ ops) (answer ∷ later) = op ∷ (if is_ok answer then each_ok ops later else [])

-- after the reading of running: where that is what is due the session is closed, and else the device is brought there
abbrev pub after_reading : Config → Reply → List Reply → List Op
after_reading due reply.Ok later = []
after_reading due (reply.Tree running) later =
    each_ok (if equal_configs running due then CloseSession ∷ [] else bringing running due) later
after_reading due (reply.Refused tag) later = []
after_reading due reply.Fault later = []
after_reading due reply.Memory later = []

-- each of these transactions in turn is confirmed or cancelled, as long as that is done or was not needed; then running
-- is read
abbrev pub resolving_each : List (ℕ × Bool) → Config → List Reply → List Op
resolving_each [] due [] = []
resolving_each [] due (answer ∷ later) = GetRunning ∷ after_reading due answer later
resolving_each (intent ∷ left) due [] = []
resolving_each (intent ∷ left) due (answer ∷ later) =
    resolving_op intent ∷ (if is_resolved answer then resolving_each left due later else [])

-- a session, and the whole reconciliation in it where it was opened
abbrev pub reconciling : List (ℕ × Bool) → Config → List Reply → List Op
reconciling intents due [] = []
reconciling intents due (answer ∷ later) =
    OpenSession ∷ (if is_ok answer then resolving_each intents due later else [])

-- Along all replies a mender reconciles its device.
abbrev pub ReconcilesAlongReplies : Type 0
ReconcilesAlongReplies =
    (intents : List (ℕ × Bool)) (due : Config) (replies : List Reply)
    → mender_asks (new_mender intents due) replies ≡ reconciling intents due replies
