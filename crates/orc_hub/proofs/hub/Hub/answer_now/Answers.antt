use Rattle.orc_hub.proofs.Submissions.{now_with}
use Rattle.orc_hub.proofs.hub.Hub.answer_now.Goals as goal

pub answer_with-requires : goal.answer_with-requires
answer_with-requires g c = c.twice-answer.ensures.same

pub returns : goal.returns
returns g c =
    now_with c.args.self.now c.args.call.now c.args.answer c.twice-answer.result.0 c.twice-answer.ensures.due
    c.answer_with.result c.answer_with.new.self c.answer_with.ensures
