use Rattle.std.proofs.Common.{◌≡◌, true, sym, subst}
use Rattle.orc_schema_nodes.specs.Schemas.{SchemaTable}
use Rattle.orc_decls.specs.Calls.{is_path_under}
use Rattle.orc_script.proofs.Lawful.{path_there}
use Rattle.orc_script.proofs.places.read_device_path.Goals as goal

pub returns-clause-lawful : goal.returns-clause-lawful
returns-clause-lawful c =
    path_there c.args.decls.now c.in_ok-device.device c.in_ok-path.path c.requires (sym c.if-not-is_declared.ensures)
    (subst (λ (s : SchemaTable). is_path_under s c.in_ok-path.path ≡ true) c.schema_named-schema.ensures c.in_ok-path.ensures.lawful)
