use Rattle.orc_call.specs.Encoding.{action_fields}
use Rattle.orc_call.proofs.Elements.{refuses, lawful_at}
use Rattle.orc_call.proofs.lawful.are_actions.Goals as goal

pub returns-then-not-is_content : goal.returns-then-not-is_content
returns-then-not-is_content c =
    refuses c.is_content.result c.if-not-is_content.true c.is_content.ensures
    (λ all. rw c.action-item.is (lawful_at action_fields c.args.actions.now c.loop-action.action-index c.action-item.result c.loop-action-test.true all).1)
