-- Why a call or a reconciliation was refused, as it is printed.
use Rattle.std.specs.Prelude.{ℕ, List, ◌++◌, codes}
use Rattle.std.specs.Fmt.{decimal}
use Rattle.orc_path.specs.Texts.{path_text}
use Rattle.orc_path.specs.declared.item.Write.{Write}
use Rattle.orc_path.specs.declared.item.Write.TheVariants as write
use Rattle.orc_call.specs.declared.answer.Tag.{Tag}
use Rattle.orc_call.specs.declared.answer.Tag.TheVariants as tag
use Rattle.orc_call.specs.declared.answer.Why.{Why}
use Rattle.orc_call.specs.declared.answer.Why.TheVariants as why

-- the error tag by which a device refuses
abbrev pub tag_word : Tag → List ℕ
tag_word tag.LockDenied = codes "lock-denied"
tag_word tag.InUse = codes "in-use"
tag_word tag.InvalidValue = codes "invalid-value"
tag_word tag.OperationFailed = codes "operation-failed"
tag_word tag.NoSession = codes "no-session"

-- why the state of a device isn't known
abbrev pub why_words : Why → List ℕ
why_words (why.Fault count) = codes "fault " ++ decimal count
why_words (why.Gone t) = codes "gone " ++ decimal t
why_words why.Recovered = codes "recovered"

-- what a call of the history wrote: a path of the data, or a service
abbrev pub written_words : Write → List ℕ
written_words (write.At path) = path_text path
written_words (write.Service id) = codes "service " ++ id

-- the device of this name refused with this tag
abbrev pub refused_words : List ℕ → Tag → List ℕ
refused_words name said = codes "Refused " ++ name ++ codes " " ++ tag_word said

-- the link of the device of this name failed, the count of its faults having risen to this number
abbrev pub link_fault_words : List ℕ → ℕ → List ℕ
link_fault_words name count = codes "LinkFault " ++ name ++ codes " " ++ decimal count
