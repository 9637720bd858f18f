use Rattle.std.proofs.Common.{Option, Some, None, List, ℕ, sym, ap, ◌∙◌}
use Rattle.std.specs.Option.{option_map_or}
use Rattle.orc_schema_nodes.specs.Schemas.{plain_table}
use Rattle.orc_decls.specs.Calls.{schema_in}
use Rattle.orc_decls.specs.Names.{place_of}
use Rattle.orc_decls.specs.declared.declarations.Device.{Device}
use Rattle.orc_decls.proofs.SchemaPlaces.{schema_found, schema_placed}
use Rattle.orc_decls.proofs.schemas.schema_named.Goals as goal

pub returns-in_default : goal.returns-in_default
returns-in_default c =
    c.requires.plain
    ∙ sym (schema_placed c.args.schemas.now c.args.devices.now c.args.name.now None
    (ap (λ (ns : List (List ℕ)). place_of ns c.args.name.now) (sym c.requires.named) ∙ sym c.in_default.ensures.place))

pub returns-in-Some-device_at : goal.returns-in-Some-device_at
returns-in-Some-device_at c =
    c.schema_in.ensures
    ∙ sym (schema_found c.args.schemas.now c.args.devices.now c.args.name.now c.in-Some.n c.in-Some-device_at.device.now
    (ap (λ (ns : List (List ℕ)). place_of ns c.args.name.now) (sym c.requires.named) ∙ sym c.in-Some.ensures.place)
    (sym c.in-Some-device_at.ensures))

pub returns-in-None : goal.returns-in-None
returns-in-None c =
    c.requires.plain
    ∙ sym (schema_placed c.args.schemas.now c.args.devices.now c.args.name.now (Some c.in-Some.n)
    (ap (λ (ns : List (List ℕ)). place_of ns c.args.name.now) (sym c.requires.named) ∙ sym c.in-Some.ensures.place)
    ∙ ap (λ (o : Option Device). option_map_or (λ (x : Device). schema_in c.args.schemas.now x.schema) o plain_table) (sym c.in-None.ensures))
