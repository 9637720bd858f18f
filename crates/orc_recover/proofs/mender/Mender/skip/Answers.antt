use Rattle.std.proofs.Common.{◌∙◌, ap}
use Rattle.orc_recover.specs.Menders.{MenderState, behind_first}
use Rattle.orc_recover.proofs.Left.{drop_next}
use Rattle.orc_recover.proofs.mender.Mender.skip.Goals as goal

pub returns-then-self-len : goal.returns-then-self-len
returns-then-self-len c =
    ap (λ left. record { left = left; due = c.self.inside.due; stage = c.self.inside.stage }) (drop_next c.self.inside.intents c.self.inside.done)
    ∙ ap (λ (m : MenderState). record m { left = behind_first m.left }) c.self.view_is
