use Rattle.std.proofs.Common.{◌≡◌, true, sym, subst}
use Rattle.orc_schema_nodes.specs.Schemas.{SchemaTable}
use Rattle.orc_script.specs.Places.{is_node_path}
use Rattle.orc_script.proofs.Placed.{node_step}
use Rattle.orc_script.proofs.places.read_device_node.Goals as goal

pub returns-clause-lawful : goal.returns-clause-lawful
returns-clause-lawful c =
    node_step c.args.decls.now c.in_ok-device.device c.in-Some-device_number.n c.in_ok-path.path (sym c.in-Some-device_number.ensures)
    (subst (λ (s : SchemaTable). is_node_path s c.in_ok-path.path ≡ true) c.schema_named-schema.ensures c.in_ok-path.ensures.lawful)
