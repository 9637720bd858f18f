use Rattle.std.proofs.Common.{ℕ, List, All, IsTrue, sym, subst}
use Rattle.orc_call.specs.declared.call.Put.{Put}
use Rattle.orc_decls.specs.Openings.{fits_puts}
use Rattle.orc_decls.specs.Calls.{is_lawful_name}
use Rattle.orc_decls.specs.declared.declarations.Device.{Device}
use Rattle.orc_decls.proofs.Fits.{data-fits, devices-fit}
use Rattle.orc_datastore.proofs.Kept.{decls-names}
use Rattle.orc_datastore.proofs.Openings.{opened-kept}
use Rattle.orc_datastore.proofs.Residents.{knows_nothing}
use Rattle.orc_datastore.proofs.datastore.Datastore.open.Goals as goal

pub opening_data-requires-clause-names : goal.opening_data-requires-clause-names
opening_data-requires-clause-names c =
    subst (λ (names : List (List ℕ)). All (λ name. IsTrue (is_lawful_name name)) names) (sym c.names.ensures.names) (decls-names c.args.decls.now c.requires)

pub opening_data-requires-clause-fit : goal.opening_data-requires-clause-fit
opening_data-requires-clause-fit c =
    subst (λ (puts : List Put). IsTrue (fits_puts puts)) (sym c.data.ensures)
    (data-fits c.args.decls.now.data_schema c.args.decls.now.data c.requires.items)

pub idle_stores-requires : goal.idle_stores-requires
idle_stores-requires c =
    subst (λ (devices : List Device). All (λ device. IsTrue (fits_puts device.base)) devices) (sym c.devices.ensures)
    (devices-fit c.args.decls.now.schemas c.args.decls.now.devices c.requires.devices)

pub invariant_of-result : goal.invariant_of-result
invariant_of-result c = (
  opened-kept c.in_ok-stores.stores c.new.result c.new.ensures c.in_ok-stores.ensures.idle,
  knows_nothing c.new.result c.new-2.result c.new.ensures c.new-2.ensures,
)
