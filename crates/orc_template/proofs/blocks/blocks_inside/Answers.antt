use Rattle.std.proofs.Common.{Bor, codes, ◌∙◌}
use Rattle.serde_json.specs.View.{view}
use Rattle.serde_json.specs.Find.{get}
use Rattle.serde_json.specs.declared.value.Value.{Value}
use Rattle.orc_template.proofs.Forms.{mapped_some, mapped_none, inside_some, inside_none}
use Rattle.orc_template.proofs.blocks.blocks_inside.Goals as goal

pub returns-in-Some : goal.returns-in-Some
returns-in-Some c =
    let d = view c.args.block.now in
    c.listed.ensures ∙ inside_some d (view c.in-Some.value.now) (mapped_some (λ (v : Bor Value). view v.now) c.get.result (get (codes "blocks") d) c.in-Some.value c.get.ensures c.in-Some.is)

pub returns-in-None : goal.returns-in-None
returns-in-None c =
    let d = view c.args.block.now in
    inside_none d (mapped_none (λ (v : Bor Value). view v.now) c.get.result (get (codes "blocks") d) c.get.ensures c.in-None.is)
