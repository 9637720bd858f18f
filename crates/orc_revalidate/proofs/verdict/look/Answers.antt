use Rattle.std.proofs.Common.{subst, ◌∙◌}
use Rattle.std.specs.declared.option.Option.{Option}
use Rattle.orc_check.specs.Answers.{AnswersBreach}
use Rattle.orc_check.specs.Validity.{Breach}
use Rattle.orc_revalidate.proofs.Least.{least_looked}
use Rattle.orc_revalidate.proofs.verdict.look.Goals as goal

pub returns : goal.returns
returns c =
    subst (λ (due : Option Breach). AnswersBreach due c.answer.result)
    (c.in_ok-best.ensures
    ∙ least_looked c.least_breach_is_least.ensures c.args.schema.now c.lines-lines.ensures.order c.args.old.now c.args.new.now c.chapters-chapters.ensures.config c.args.targets.now c.requires.typed c.requires.valid c.requires.changed c.requires.kept)
    c.answer.ensures
