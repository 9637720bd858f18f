use Rattle.std.proofs.Common.{inl, inr, refl, ap, ◌∙◌}
use Rattle.orc_call.specs.declared.answer.Answer.{Answer}
use Rattle.orc_rules.specs.Asked.{with_answer}
use Rattle.orc_hub.proofs.Waiting.{kept_answer, kept_none}
use Rattle.orc_hub.proofs.hub.Hub.answer_with.Goals as goal

pub returns-in-Ok : goal.returns-in-Ok
returns-in-Ok g c =
    let asked = c.args.self.now.askers in
    let call = c.args.call.now in (
      inl refl,
      record {
        kept = kept_answer asked c.put.new.self call c.args.answer
            (c.in-Ok.ensures.put ∙ ap (λ (a : Answer). with_answer call a asked) c.requires);
        rest = refl;
      },
    )

pub returns-in-Err : goal.returns-in-Err
returns-in-Err g c = (
  inr (refl, c.in-Err.ensures.none),
  record { kept = kept_none c.args.self.now.askers c.put.new.self c.args.call.now c.in-Err.ensures.none c.in-Err.ensures.kept; rest = refl },
)
