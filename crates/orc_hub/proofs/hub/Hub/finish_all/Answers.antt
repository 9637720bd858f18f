use Rattle.std.proofs.Common.{List, inl, inr, refl, ap, ◌∙◌}
use Rattle.orc_rules.specs.declared.transaction.Transaction.{Transaction}
use Rattle.orc_hub.specs.Mends.{mending_ended}
use Rattle.orc_hub.proofs.hub.Hub.finish_all.Goals as goal

pub returns-in-Ok : goal.returns-in-Ok
returns-in-Ok g c =
    inr (
      c.requires.well,
      inl (
        refl,
        (
          c.settle_all.new.self,
          c.in-Ok.ensures,
          c.end_mending.ensures ∙ ap (λ (l : List Transaction). mending_ended (record c.settle_all.new.self { active = l })) c.new.ensures,
        ),
      ),
    )

pub returns-in-Err : goal.returns-in-Err
returns-in-Err g c =
    inr (c.requires.well, inr (c.in-Err.fault, refl, (c.settle_all.new.self, c.in-Err.ensures, c.end_mending-in-Err.ensures)))
