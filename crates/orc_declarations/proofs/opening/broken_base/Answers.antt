use Rattle.std.proofs.Common.{true, [], ◌∷◌, IsTrue, refl}
use Rattle.std.proofs.lemmas.Bool.{and_from}
use Rattle.std.proofs.lemmas.List.Elements.{All-head}
use Rattle.orc_decls.specs.Calls.{is_device}
use Rattle.orc_decls.specs.Openings.{fits_puts}
use Rattle.orc_decls.specs.declared.declarations.Device.{Device}
use Rattle.orc_decls.proofs.Fits.{devices-fit}
use Rattle.orc_declarations.proofs.opening.broken_base.Goals as goal

pub declared_base-requires : goal.declared_base-requires
declared_base-requires c =
    let schemas = c.args.schemas.now in
    let device = c.args.device.now in
    All-head (λ (d : Device). IsTrue (fits_puts d.base)) device []
    (devices-fit schemas (device ∷ []) (and_from (is_device schemas device) true c.requires refl))
