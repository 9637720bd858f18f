use Rattle.std.proofs.Common.{◌≡◌, ℕ, true, List, ◌∙◌, ap, sym, subst, Some}
use Rattle.orc_schema_nodes.specs.Schemas.{SchemaTable}
use Rattle.orc_decls.specs.Calls.{is_put, schema_named}
use Rattle.orc_lines.specs.Names.{place_of}
use Rattle.orc_declarations.proofs.Lawful.{based}
use Rattle.orc_lines.proofs.Lawful.{schema_at}
use Rattle.orc_lines.proofs.SchemaPlaces.{schema_placed}
use Rattle.orc_declarations.proofs.declarations.take_base.Goals as goal

pub returns-clause-lawful : goal.returns-clause-lawful
returns-clause-lawful c = λ declared.
    let d = c.args.declared.now in
    let n = c.in-Some-place.n in
    let put = c.in_ok-put.put in
    let name = c.in_ok-name.name in
    let placed : schema_named d.schemas d.devices name ≡ schema_at d.schemas d.devices n =
    schema_placed d.schemas d.devices name (Some n) (ap (λ (ns : List (List ℕ)). place_of ns name) (sym declared.named) ∙ sym c.in-Some-place.ensures.place) in
    let lawful : is_put (schema_named d.schemas d.devices name) put ≡ true =
    subst (λ (s : SchemaTable). is_put s put ≡ true) c.schema_named.ensures c.in_ok-put.ensures.lawful in
    based d n c.add_base.new.devices declared put (subst (λ (s : SchemaTable). is_put s put ≡ true) placed lawful) c.in_ok-add_base.ensures
