use Rattle.std.proofs.Common.{length, sym, ap, ◌∙◌}
use Rattle.orc_datastore.specs.Services.{LivingService}
use Rattle.orc_datastore.proofs.Spreading.{spread_length}
use Rattle.orc_datastore.proofs.service.Service.devices.Goals as goal

pub returns : goal.returns
returns c =
    sym (spread_length c.self.inside.written 0 c.self.inside.devices)
    ∙ ap (λ (s : LivingService). length s.parts) c.self.view_is
