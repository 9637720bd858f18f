use Rattle.std.proofs.Common.{◌≡◌, ℕ, true, List, ◌∙◌, ◌^◌, nat_lt, rules, ap, sym, subst, Some}
use Rattle.orc_path.specs.Steps.{PathStep}
use Rattle.orc_schema_nodes.specs.Schemas.{SchemaTable}
use Rattle.orc_decls.specs.Calls.{is_list_path, is_max_rule, schema_named}
use Rattle.orc_lines.specs.Names.{place_of}
use Rattle.orc_lines.proofs.Lawful.{both, schema_at}
use Rattle.orc_declarations.proofs.Lawful.{limited}
use Rattle.orc_lines.proofs.SchemaPlaces.{schema_placed}
use Rattle.orc_declarations.proofs.declarations.take_max.Goals as goal

pub returns-clause-lawful : goal.returns-clause-lawful
returns-clause-lawful c = λ declared.
    let d = c.args.declared.now in
    let n = c.in-Some-place.n in
    let limit : List PathStep × ℕ = (c.in_ok-path.path, c.in-Some-number_of.count) in
    let small : nat_lt c.in-Some-number_of.count (2 ^ 64) ≡ true = search rules in
    let name = c.in_ok-name.name in
    let placed : schema_named d.schemas d.devices name ≡ schema_at d.schemas d.devices n =
    schema_placed d.schemas d.devices name (Some n) (ap (λ (ns : List (List ℕ)). place_of ns name) (sym declared.named) ∙ sym c.in-Some-place.ensures.place) in
    let lawful : is_max_rule (schema_named d.schemas d.devices name) limit ≡ true =
    subst (λ (s : SchemaTable). is_max_rule s limit ≡ true) c.schema_named.ensures
    (both (is_list_path c.schema_named.result.now c.in_ok-path.path) (nat_lt c.in-Some-number_of.count (2 ^ 64)) c.in_ok-path.ensures.lawful small) in
    limited d n c.add_max.new.devices declared limit (subst (λ (s : SchemaTable). is_max_rule s limit ≡ true) placed lawful) c.in_ok-add_max.ensures
