use Rattle.std.proofs.Common.{subst}
use Rattle.std.specs.Prelude.{MatchOption, Option}
use Rattle.orc_call.specs.declared.answer.Answer.{Answer}
use Rattle.orc_call.specs.declared.answer.Answer.TheVariants as answer
use Rattle.orc_datastore.specs.Legal.{IsNew}
use Rattle.orc_rules.specs.Worlds.AnswersSubmission.{wanting}
use Rattle.orc_hub.specs.Submits.{AnswersAgain}
use Rattle.orc_hub.proofs.Submissions.{again_is, now_is, plan_is}
use Rattle.orc_hub.proofs.hub.Hub.submit_closed.Goals as goal

pub returns-in-Ok-Some : goal.returns-in-Ok-Some
returns-in-Ok-Some g c =
    let hub = c.args.self.now in
    let said = subst (λ (o : Option Answer). MatchOption o (IsNew hub.state.history c.args.call) (AnswersAgain hub.state.history c.args.call)) c.in-Ok-Some.field-0-is c.in-Ok-Some.ensures in
    now_is hub c.args.call c.args.front c.args.plan c.requires.up c.requires.closed c.in-Ok-Some.answer
    (again_is hub c.args.call c.args.front c.args.plan c.requires.up c.requires.closed c.in-Ok-Some.answer said)
    c.answer_now.result c.answer_now.new.self c.answer_now.ensures

pub returns-in-Ok-None : goal.returns-in-Ok-None
returns-in-Ok-None g c =
    let hub = c.args.self.now in
    let fresh = subst (λ (o : Option Answer). MatchOption o (IsNew hub.state.history c.args.call) (AnswersAgain hub.state.history c.args.call)) c.in-Ok-None.field-0-is c.in-Ok-None.ensures in
    plan_is hub c.args.call c.args.front c.args.plan c.requires.up c.requires.closed c.requires.plan fresh c.submit_free.result c.submit_free.new.self c.submit_free.ensures

pub returns-in-Err : goal.returns-in-Err
returns-in-Err g c =
    now_is c.args.self.now c.args.call c.args.front c.args.plan c.requires.up c.requires.closed answer.Memory wanting
    c.answer_now-in-Err.result c.answer_now-in-Err.new.self c.answer_now-in-Err.ensures
