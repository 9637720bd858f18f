use Rattle.std.proofs.Common.{sym, ◌∙◌}
use Rattle.orc_hub.proofs.Submissions.{busy_is, down_is}
use Rattle.orc_hub.proofs.hub.Hub.submit_call.Goals as goal

pub returns-then-self : goal.returns-then-self
returns-then-self g c =
    down_is c.args.self.now c.args.call c.args.front c.args.plan c.if-self.true c.answer_with.result c.answer_with.new.self c.answer_with.ensures

pub returns-in-Some : goal.returns-in-Some
returns-in-Some g c =
    busy_is c.args.self.now c.args.call c.args.front c.args.plan c.if-self.false c.in-Some.number (sym c.open_of.ensures ∙ c.in-Some.is)
    c.answer_busy.result c.answer_busy.new.self c.answer_busy.ensures
