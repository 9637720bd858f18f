-- The words of a line `fault`: which operation of a device fails, and when.
use Rattle.std.specs.Prelude.{ℕ, List, codes, Option, if◌then◌else◌}
use Rattle.std.specs.declared.option.Option.TheVariants.{None, Some}
use Rattle.orc_device.specs.declared.kind.OpKind.{OpKind}
use Rattle.orc_device.specs.declared.kind.OpKind.TheVariants as kind
use Rattle.orc_device.specs.declared.kind.When.{When}
use Rattle.orc_device.specs.declared.kind.When.TheVariants as moment
use Rattle.orc_lines.specs.Words.{is_text}

-- the kind of operations that a word names, as a log prints it
unfoldable pub operation_named : List ℕ → Option OpKind
operation_named word =
    if is_text word (codes "OpenSession") then Some kind.OpenSession else
    if is_text word (codes "LockRunning") then Some kind.LockRunning else
    if is_text word (codes "LockCandidate") then Some kind.LockCandidate else
    if is_text word (codes "Edit") then Some kind.Edit else
    if is_text word (codes "Validate") then Some kind.Validate else
    if is_text word (codes "CommitConfirmed") then Some kind.CommitConfirmed else
    if is_text word (codes "Commit") then Some kind.Commit else
    if is_text word (codes "Confirm") then Some kind.Confirm else
    if is_text word (codes "Cancel") then Some kind.Cancel else
    if is_text word (codes "Discard") then Some kind.Discard else
    if is_text word (codes "UnlockCandidate") then Some kind.UnlockCandidate else
    if is_text word (codes "UnlockRunning") then Some kind.UnlockRunning else
    if is_text word (codes "CloseSession") then Some kind.CloseSession else
    if is_text word (codes "GetRunning") then Some kind.GetRunning else None

-- the operation fails before it takes effect, or after
unfoldable pub moment_named : List ℕ → Option When
moment_named word =
    if is_text word (codes "before") then Some moment.Before else
    if is_text word (codes "after") then Some moment.After else None
