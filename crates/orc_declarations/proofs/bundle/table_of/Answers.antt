use Rattle.std.proofs.Common.{List, [], map, ap, sym, ◌∙◌}
use Rattle.orc_decls.specs.declared.declarations.Device.{Device}
use Rattle.orc_lines.specs.Lawful.{decls_with}
use Rattle.orc_declarations.proofs.Tables.{made, not_none, some_same}
use Rattle.orc_declarations.proofs.bundle.table_of.Goals as goal

pub unreachable-requires : goal.unreachable-requires
unreachable-requires c =
    let d = c.args.declared.now in
    not_none (decls_with [] d).table
    (sym c.in-None.is ∙ made d c.in_ok-names.names c.in_ok-schemas.schemas c.in_ok-places.places c.of_parts.result c.requires c.in_ok-names.ensures.distinct
    c.in_ok-names.ensures.row c.in_ok-schemas.ensures
    (c.in_ok-places.ensures ∙ ap (λ (devices : List Device). map (λ (device : Device). device.schema) devices) c.as_slice.ensures) c.of_parts.ensures)

pub returns-clause-table : goal.returns-clause-table
returns-clause-table c =
    let d = c.args.declared.now in
    some_same c.in-Some.table (decls_with [] d).table
    (sym c.in-Some.is ∙ made d c.in_ok-names.names c.in_ok-schemas.schemas c.in_ok-places.places c.of_parts.result c.requires c.in_ok-names.ensures.distinct
    c.in_ok-names.ensures.row c.in_ok-schemas.ensures
    (c.in_ok-places.ensures ∙ ap (λ (devices : List Device). map (λ (device : Device). device.schema) devices) c.as_slice.ensures) c.of_parts.ensures)
