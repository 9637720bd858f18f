use Rattle.std.proofs.Common.{◌≡◌, ◌+◌, sym, ap, ◌∙◌, arith}
use Rattle.orc_datastore.specs.Services.{LivingService, written_on}
use Rattle.orc_datastore.proofs.Spreading.{at, spread_at, spread_beyond}
use Rattle.orc_datastore.proofs.service.Service.part.Goals as goal

pub returns-then-device-self : goal.returns-then-device-self
returns-then-device-self c =
    let here : 0 + c.args.device ≡ c.args.device = omega arith in
    c.written_on.ensures
    ∙ ap (λ w. written_on w c.args.device) c.as_slice.ensures
    ∙ ap (written_on c.self.inside.written) (sym here)
    ∙ sym (spread_at c.self.inside.written 0 c.self.inside.devices c.args.device c.if-device-self.true)
    ∙ ap (λ (s : LivingService). at s.parts c.args.device) c.self.view_is

pub returns-else-device-self : goal.returns-else-device-self
returns-else-device-self c =
    sym (spread_beyond c.self.inside.written 0 c.self.inside.devices c.args.device c.if-device-self.false)
    ∙ ap (λ (s : LivingService). at s.parts c.args.device) c.self.view_is
