use Rattle.std.proofs.Common.{List, ap, ◌∙◌}
use Rattle.std.specs.List.{list_any}
use Rattle.orc_schema_nodes.specs.declared.line.SchemaLine.{SchemaLine}
use Rattle.orc_revalidate.specs.inside.Led.{leads_into}
use Rattle.orc_revalidate.proofs.led.is_led_to.Goals as goal

pub returns : goal.returns
returns c = c.lead_into.ensures ∙ ap (λ (lines : List SchemaLine). list_any (leads_into c.args.tree.now c.args.steps.now) lines) c.lines-lines.ensures.lines
