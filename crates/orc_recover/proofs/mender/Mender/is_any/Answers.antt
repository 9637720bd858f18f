use Rattle.std.proofs.Common.{◌∙◌, ap, nat_lt}
use Rattle.orc_recover.specs.Menders.{MenderState, is_any}
use Rattle.orc_recover.proofs.Left.{any_left}
use Rattle.orc_recover.proofs.mender.Mender.is_any.Goals as goal

pub returns : goal.returns
returns c =
    ap (nat_lt c.self.inside.done) c.len.ensures ∙ any_left c.self.inside.intents c.self.inside.done ∙ ap (λ (m : MenderState). is_any m.left) c.self.view_is
