use Rattle.std.proofs.Common.{ℕ, List, All, IsTrue, sym, subst}
use Rattle.std.proofs.lemmas.List.Sums.{AllPass-from_list_all}
use Rattle.orc_schema_nodes.specs.Schemas.{SchemaTable}
use Rattle.orc_call.specs.declared.call.Put.{Put}
use Rattle.orc_decls.specs.Calls.{is_device, is_lawful_name}
use Rattle.orc_decls.specs.Openings.{fits_puts}
use Rattle.orc_decls.specs.declared.declarations.Device.{Device}
use Rattle.orc_decls.proofs.Fits.{data-fits}
use Rattle.orc_declarations.proofs.Opened.{lawful_names}
use Rattle.orc_declarations.proofs.opening.broken_opening.Goals as goal

pub opening_data-requires-clause-names : goal.opening_data-requires-clause-names
opening_data-requires-clause-names c =
    subst (λ (names : List (List ℕ)). All (λ name. IsTrue (is_lawful_name name)) names) (sym c.as_slice.ensures.names)
    (lawful_names c.args.declared.now c.requires)

pub opening_data-requires-clause-fit : goal.opening_data-requires-clause-fit
opening_data-requires-clause-fit c =
    subst (λ (puts : List Put). IsTrue (fits_puts puts)) (sym c.as_slice-2.ensures)
    (data-fits c.args.declared.now.data_schema c.args.declared.now.data c.requires.items)

pub broken_bases-requires : goal.broken_bases-requires
broken_bases-requires c =
    let d = c.args.declared.now in
    subst (λ (schemas : List SchemaTable). All (λ device. IsTrue (is_device schemas device)) c.as_slice-in-None-2.result.now) (sym c.as_slice-in-None.ensures)
    (subst (λ (devices : List Device). All (λ device. IsTrue (is_device d.schemas device)) devices) (sym c.as_slice-in-None-2.ensures)
    (AllPass-from_list_all (is_device d.schemas) d.devices c.requires.devices))
