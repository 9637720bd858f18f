-- The first fault of one block.
use Rattle.std.specs.Prelude.{ℕ, ◌+◌, Option}
use Rattle.serde_json.specs.Data.{Data}
use Rattle.orc_template.specs.Blocks.{blocks_inside}
use Rattle.orc_template.specs.Templates.{Site, block_fault, blocks_fault}
use Rattle.orc_template.specs.declared.fault.TemplateFault.{TemplateFault}

abbrev pub one_fault : Site → ℕ → Data → Option TemplateFault
one_fault place n d = block_fault place n d (λ inside. blocks_fault inside (n + 1) (blocks_inside d))
