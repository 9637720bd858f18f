-- The links as a run begins.
use Rattle.std.proofs.Common.{ℕ, ◌≡◌, Bool, true, false, List, [], ◌∷◌, ◌++◌, map, refl, sym, ap, ◌∙◌, append-nil, append_assoc, IsTrue}
use Rattle.std.specs.List.{list_all}
use Rattle.std.proofs.lemmas.List.Sums.{list_all-from_AllPass}
use Rattle.orc_check.specs.declared.acceptance.Accept.{Accept}
use Rattle.orc_decls.proofs.Fits.{devices-fit}
use Rattle.orc_decls.specs.Declarations.{AreDecls, accept_of, accepts_base}
use Rattle.orc_decls.specs.declared.declarations.Decls.{Decls}
use Rattle.orc_decls.specs.Openings.{declared_base, fits_puts}
use Rattle.orc_decls.specs.declared.declarations.Device.{Device}
use Rattle.orc_node.specs.LinkStates.{LinkState}
use Rattle.orc_schema_nodes.specs.Schemas.{SchemaTable}
use Rattle.orc_links.specs.Networks.{AreAccepted, link_of_device, links_to}

-- so far there are links to the first devices, and the others are left with what they accept
pub record AreLinked (schemas : List SchemaTable) (devices : List Device) (links : List LinkState) (rest : List Device)
    (left : List Accept) : Type 0 where
  pub links_are : links ++ links_to schemas rest ≡ links_to schemas devices
  pub accepted : AreAccepted schemas rest left

-- what is declared of devices is accepted
pub are_accepted : (decls : Decls) (accepts : List Accept) → AreDecls decls → accepts ≡ map (accept_of decls.schemas) decls.devices
    → AreAccepted decls.schemas decls.devices accepts
are_accepted decls accepts are is = record {
  accepts_are = is;
  bases = list_all-from_AllPass (λ (device : Device). fits_puts device.base) decls.devices (devices-fit decls.schemas decls.devices are.devices);
  accepted = are.accepted;
}
