-- One thing after another, as the code does them; and the answer with its reads.
use Rattle.std.proofs.Common.{◌≡◌, ℕ, List, [], ◌++◌, map, Result, Ok, Err, refl, ap, ◌∙◌}
use Rattle.std.specs.FinMap.{empty}
use Rattle.serde_json.specs.Data.{Data}
use Rattle.orc_path.specs.Steps.{PathStep}
use Rattle.orc_path.specs.Views.{Viewed}
use Rattle.orc_path.specs.Configurations.{Config}
use Rattle.orc_call.specs.declared.call.Put.{Put}
use Rattle.orc_expr.specs.declared.read.Read.{Read}
use Rattle.orc_template.specs.Readers.{Readers}
use Rattle.orc_template.specs.Blocks.{Blocks, blocks_inside}
use Rattle.orc_template.specs.Devices.{DeviceTable}
use Rattle.orc_template.specs.Expansions.{Expanding, Failed, blocks_expanded, expanded, AnswersExpansion}
use Rattle.orc_template.specs.inside.Expanding.{FindsExpansion}
use Rattle.orc_template.specs.declared.fault.ExpandFault.{ExpandFault}
use Rattle.orc_template.specs.declared.fault.ExpandFault.TheVariants as fault

-- an expansion that begins with nothing written and nothing read
pub begins : (readers : Readers) (devices : DeviceTable) (instance : List PathStep) (template : Data) (v : Viewed) (blocks : Blocks) (start : Expanding) → blocks ≡ blocks_inside template
    → start.written ≡ map (λ name. empty) devices.names → start.reads ≡ []
    → blocks_expanded (record { readers = readers; view = v; devices = devices }) instance 1 blocks start ≡ expanded readers devices instance template v
begins readers devices instance template v blocks start are written reads =
    ap (λ b. blocks_expanded (record { readers = readers; view = v; devices = devices }) instance 1 b start) are
    ∙ ap (λ (w : List Config). blocks_expanded (record { readers = readers; view = v; devices = devices }) instance 1 (blocks_inside template) (record { written = w; reads = start.reads })) written
    ∙ ap (λ (rs : List Read). blocks_expanded (record { readers = readers; view = v; devices = devices }) instance 1 (blocks_inside template) (record { written = map (λ name. empty) devices.names; reads = rs })) reads

-- the reads come after those that were there
pub answered : (due : Result Expanding Failed) (old read new : List Read) (result : Result (List (ℕ × List Put)) ExpandFault)
    → FindsExpansion due read result → new ≡ old ++ read → (result ≡ Err fault.Memory → ⊥) → AnswersExpansion due old new result
answered due old read new (Ok parts) finds is some = (finds.0, finds.1, finds.2, is ∙ ap (λ x. old ++ x) finds.3)
answered due old read new (Err (fault.At n rule)) finds is some = (read, finds, is)
answered due old read new (Err fault.Memory) finds is some = absurd (some refl)
