-- Blocks in the code.
use Rattle.std.specs.Prelude.{◌≡◌, ℕ, ◌+◌, ◌++◌, Bool, List, Result}
use Rattle.std.specs.declared.result.Result.TheVariants.{Ok, Err}
use Rattle.serde_json.specs.Data.{Data}
use Rattle.orc_path.specs.Configurations.{Config}
use Rattle.orc_path.specs.Steps.{PathStep}
use Rattle.orc_call.specs.declared.call.Put.{Put}
use Rattle.orc_expr.specs.Expressions.{Expression}
use Rattle.orc_expr.specs.declared.read.Read.{Read}
use Rattle.orc_expr.specs.Looks.{nodes_of}
use Rattle.orc_template.specs.Values.{Done, done}
use Rattle.orc_template.specs.Writing.{Ended, ends}
use Rattle.orc_template.specs.Blocks.{blocks_inside}
use Rattle.orc_template.specs.Expansions.{Ground, Failed, device_parts, node_expanded, look_expanded, block_expanded, blocks_expanded}
use Rattle.orc_template.specs.Expansions.{Expanding as Expanded}
use Rattle.orc_template.specs.declared.expanding.Expanding.{Expanding}
use Rattle.orc_template.specs.declared.fault.Halt.{Halt}
use Rattle.orc_template.specs.declared.fault.Halt.TheVariants as halt
use Rattle.orc_template.specs.declared.fault.ExpandFault.{ExpandFault}
use Rattle.orc_template.specs.declared.fault.ExpandFault.TheVariants as fault

abbrev pub expanding_of : Expanding → Expanded
expanding_of e = record { written = e.written.items; reads = e.reads.reads }

-- the answer is what stands afterwards, or the rule with what was read
abbrev pub Stops : Result Expanded Ended → Expanded → Result Unit Halt → Type 0
Stops due new (Ok _) = due ≡ Ok new
Stops due new (Err (halt.Rule rule)) = due ≡ ends rule new.reads
Stops due new (Err halt.Memory) = Unit {0}

-- the answer is what stands afterwards, or the block and the rule with what was read
abbrev pub Expands : Result Expanded Failed → Expanded → Result Unit ExpandFault → Type 0
Expands due new (Ok _) = due ≡ Ok new
Expands due new (Err (fault.At number rule)) =
    due ≡ Err (record { block = number; rule = rule; reads = new.reads })
Expands due new (Err fault.Memory) = Unit {0}

-- an answer with the block's number
abbrev pub numbered : {T : Type 0} → ℕ → Result T Halt → Result T ExpandFault
numbered number (Ok x) = Ok x
numbered number (Err (halt.Rule rule)) = Err (fault.At number rule)
numbered number (Err halt.Memory) = Err fault.Memory

-- An answer of a block that stands after so many others and was done under the first number of these: its number is
-- after theirs; nothing is said where memory runs out.
abbrev pub IsBehind : ℕ → Result Unit ExpandFault → Result Unit ExpandFault → Type 0
IsBehind count answer (Ok x) = answer ≡ Ok x
IsBehind count answer (Err (fault.At number rule)) =
    (first : ℕ) × (answer ≡ Err (fault.At first rule)) × (number ≡ first + count)
IsBehind count answer (Err fault.Memory) = Unit {0}

-- whether a block's condition holds, with the block's number
abbrev pub Judges : ℕ → Done Bool → List Read → Result Bool ExpandFault → Type 0
Judges n due new (Ok holds) = due ≡ done (Ok holds) new
Judges n due new (Err (fault.At number rule)) = (number ≡ n) × (due ≡ done (Err rule) new)
Judges n due new (Err fault.Memory) = Unit {0}

abbrev pub inner : Ground → ℕ → Data → List PathStep → Expanded → Result Expanded Failed
inner g n d here e = blocks_expanded g here (n + 1) (blocks_inside d) e

abbrev pub node_in : Ground → ℕ → Data → List PathStep → Expanded → Result Expanded Failed
node_in g n d here e = node_expanded g n d (inner g n d) here e

abbrev pub each_in : Ground → List PathStep → ℕ → Data → Expression → Expanded → Result Expanded Failed
each_in g here n d each e =
    look_expanded g n d (inner g n d) (nodes_of each here g.view).found (nodes_of each here g.view).reads e

abbrev pub block_in : Ground → List PathStep → ℕ → Data → Expanded → Result Expanded Failed
block_in g here n d e = block_expanded g here n d (inner g n d) e

-- the answer of an expansion that begins with no reads; where memory runs out they are whatever they came to
abbrev pub FindsExpansion : Result Expanded Failed → List Read → Result (List (ℕ × List Put)) ExpandFault → Type 0
FindsExpansion due new (Ok parts) =
    (e : Expanded) × (due ≡ Ok e) × (parts ≡ device_parts 0 e.written) × (new ≡ e.reads)
FindsExpansion due new (Err (fault.At number rule)) =
    due ≡ Err (record { block = number; rule = rule; reads = new })
FindsExpansion due new (Err fault.Memory) = Unit {0}

-- the answer, with what is written on each device, of an expansion that begins with no reads
abbrev pub FindsWriting : Result Expanded Failed → List Read → Result (List Config) ExpandFault → Type 0
FindsWriting due new (Ok trees) = due ≡ Ok (record { written = trees; reads = new })
FindsWriting due new (Err (fault.At number rule)) =
    due ≡ Err (record { block = number; rule = rule; reads = new })
FindsWriting due new (Err fault.Memory) = Unit {0}

-- what was answered, once its reads are added; none are added where memory runs out
abbrev pub AddsReads : {T : Type 0} → Result T ExpandFault → List Read → List Read → List Read
    → Result T ExpandFault → Type 0
AddsReads answer old read new (Ok x) = (answer ≡ Ok x) × (new ≡ old ++ read)
AddsReads answer old read new (Err (fault.At number rule)) =
    (answer ≡ Err (fault.At number rule)) × (new ≡ old ++ read)
AddsReads answer old read new (Err fault.Memory) = new ≡ old
