use Rattle.std.proofs.Common.{Bor}
use Rattle.serde_json.specs.View.{view}
use Rattle.orc_schema_nodes.specs.Schemas.{SchemaTable}
use Rattle.orc_template.specs.Devices.{device_of, schema_of_device}
use Rattle.orc_template.specs.inside.Machine.{ground}
use Rattle.orc_template.specs.inside.Expanding.{expanding_of}
use Rattle.orc_template.proofs.Forms.{mapped_some, mapped_none}
use Rattle.orc_template.proofs.Targets.{no_schema, on_its_schema}
use Rattle.std.proofs.Common.{sym, ◌∙◌}
use Rattle.orc_template.proofs.expanding.do_name.Goals as goal

pub returns-in-Some-schema : goal.returns-in-Some-schema
returns-in-Some-schema g c =
    let gr = ground (g.V.DataView.viewed c.args.view.now) c.args.devices.now in
    on_its_schema gr c.args.here.now (view c.args.config.now) (device_of c.args.name.now c.args.devices.now.names) (expanding_of c.args.expanding.now) c.in-Some.number c.in-Some-schema.schema.now
    (expanding_of c.do_schema.new.expanding) c.do_schema.result (sym c.number.ensures ∙ c.in-Some.is)
    (mapped_some (λ (s : Bor SchemaTable). s.now) c.schema.result (schema_of_device c.args.devices.now c.in-Some.number) c.in-Some-schema.schema c.schema.ensures c.in-Some-schema.is) c.do_schema.ensures

pub returns-in-None : goal.returns-in-None
returns-in-None g c =
    let gr = ground (g.V.DataView.viewed c.args.view.now) c.args.devices.now in
    no_schema gr c.args.here.now (view c.args.config.now) (device_of c.args.name.now c.args.devices.now.names) (expanding_of c.args.expanding.now) c.in-Some.number (sym c.number.ensures ∙ c.in-Some.is)
    (mapped_none (λ (s : Bor SchemaTable). s.now) c.schema.result (schema_of_device c.args.devices.now c.in-Some.number) c.schema.ensures c.in-None.is)
