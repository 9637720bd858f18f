use Rattle.std.proofs.Common.{◌≡◌, ℕ, true, List, ◌∙◌, ap, sym, subst, Some}
use Rattle.orc_schema_nodes.specs.Schemas.{SchemaTable}
use Rattle.orc_decls.specs.Calls.{is_forbid_rule, schema_named}
use Rattle.orc_lines.specs.Names.{place_of}
use Rattle.orc_declarations.proofs.Lawful.{forbidden}
use Rattle.orc_lines.proofs.Lawful.{schema_at}
use Rattle.orc_lines.proofs.SchemaPlaces.{schema_placed}
use Rattle.orc_declarations.proofs.declarations.take_forbid.Goals as goal

pub returns-clause-lawful : goal.returns-clause-lawful
returns-clause-lawful c = λ declared.
    let d = c.args.declared.now in
    let n = c.in-Some.n in
    let leaf = c.in_ok-leaf.leaf in
    let name = c.in_ok-name.name in
    let placed : schema_named d.schemas d.devices name ≡ schema_at d.schemas d.devices n =
    schema_placed d.schemas d.devices name (Some n) (ap (λ (ns : List (List ℕ)). place_of ns name) (sym declared.named) ∙ sym c.in-Some.ensures.place) in
    let lawful : is_forbid_rule (schema_named d.schemas d.devices name) leaf ≡ true =
    subst (λ (s : SchemaTable). is_forbid_rule s leaf ≡ true) c.schema_named.ensures c.in_ok-leaf.ensures.lawful in
    forbidden d n c.add_forbid.new.devices declared leaf (subst (λ (s : SchemaTable). is_forbid_rule s leaf ≡ true) placed lawful) c.in_ok-add_forbid.ensures
