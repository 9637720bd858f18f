use Rattle.std.proofs.Common.{◌≡◌, true, sym, subst}
use Rattle.orc_schema_nodes.specs.Schemas.{SchemaTable}
use Rattle.orc_decls.specs.Calls.{is_put}
use Rattle.orc_script.proofs.Lawful.{item_there}
use Rattle.orc_script.proofs.places.read_device_item.Goals as goal

pub returns-clause-lawful : goal.returns-clause-lawful
returns-clause-lawful c =
    item_there c.args.decls.now (record { device = c.in_ok-device.device; path = c.in_ok-put.put.path; item = c.in_ok-put.put.item }) c.requires
    (sym c.if-not-is_declared.ensures)
    (subst (λ (s : SchemaTable). is_put s (record { path = c.in_ok-put.put.path; item = c.in_ok-put.put.item }) ≡ true) c.schema_named-schema.ensures c.in_ok-put.ensures.lawful)
