-- What is printed of the operations of a device.
use Rattle.std.specs.Prelude.{[], ℕ, List, ◌++◌, codes}
use Rattle.std.specs.Fmt.{decimal}
use Rattle.std.specs.List.{flat_map}
use Rattle.orc_path.specs.Items.{item_text}
use Rattle.orc_path.specs.Texts.{path_text}
use Rattle.orc_tree.specs.declared.change.Change.{Change}
use Rattle.orc_tree.specs.declared.change.Change.TheVariants as change
use Rattle.orc_device.specs.declared.op.Op.{Op}
use Rattle.orc_device.specs.declared.op.Op.TheVariants as op
use Rattle.orc_device.specs.declared.reply.Mark.{Mark}
use Rattle.orc_device.specs.declared.reply.Mark.TheVariants as mark
use Rattle.orc_device.specs.declared.reply.Logged.{Logged}
use Rattle.orc_print.specs.Causes.{tag_word}

-- the persist id of a transaction
abbrev pub persist_words : ℕ → List ℕ
persist_words t = codes "orc-" ++ decimal t

-- an operation, with its persist id and its seconds, where it has them
abbrev pub operation_words : Op → List ℕ
operation_words op.OpenSession = codes "OpenSession"
operation_words op.LockRunning = codes "LockRunning"
operation_words op.LockCandidate = codes "LockCandidate"
operation_words (op.Edit set) = codes "Edit"
operation_words op.Validate = codes "Validate"
operation_words (op.CommitConfirmed t seconds) =
    codes "CommitConfirmed " ++ persist_words t ++ codes " " ++ decimal seconds
operation_words op.Commit = codes "Commit"
operation_words (op.Confirm t) = codes "Confirm " ++ persist_words t
operation_words (op.Cancel t) = codes "Cancel " ++ persist_words t
operation_words op.Discard = codes "Discard"
operation_words op.UnlockCandidate = codes "UnlockCandidate"
operation_words op.UnlockRunning = codes "UnlockRunning"
operation_words op.CloseSession = codes "CloseSession"
operation_words op.GetRunning = codes "GetRunning"

-- how it was replied to
abbrev pub mark_word : Mark → List ℕ
mark_word mark.Ok = codes "Ok"
mark_word mark.Tree = codes "Tree"
mark_word (mark.Refused said) = tag_word said
mark_word mark.Fault = codes "Fault"
mark_word mark.Memory = codes "Memory"

-- what an edit removes, and what it puts, each with a line of its own
abbrev pub removal_lines : Change → List ℕ
removal_lines (change.Remove path) = codes "  - " ++ path_text path ++ codes "\n"
removal_lines (change.Put path item) = []

abbrev pub put_lines : Change → List ℕ
put_lines (change.Remove path) = []
put_lines (change.Put path item) = codes "  + " ++ item_text path item ++ codes "\n"

-- under an edit stand its changes, those that remove before those that put
abbrev pub change_lines : Op → List ℕ
change_lines (op.Edit set) = flat_map removal_lines set.changes ++ flat_map put_lines set.changes
change_lines other = []

-- the lines of an operation that was performed
abbrev pub performed_lines : Logged → List ℕ
performed_lines row = operation_words row.op ++ codes " " ++ mark_word row.mark ++ codes "\n" ++ change_lines row.op

-- the log of a device: these operations were performed there since it was printed last
abbrev pub log_text : List ℕ → List Logged → List ℕ
log_text name rows = codes "log " ++ name ++ codes "\n" ++ flat_map performed_lines rows ++ codes "end\n"
