use Rattle.std.proofs.Common.{◌∙◌, ◌++◌, ap, sym, arith}
use Rattle.std.specs.List.{flat_map}
use Rattle.std.proofs.lemmas.List.{take_all}
use Rattle.orc_call.proofs.Written.{action_bytes, actions_fit, spelled_actions}
use Rattle.orc_call.proofs.encoding.push_actions.Goals as goal

pub push_action-requires : goal.push_action-requires
push_action-requires c = rw c.action-item.is (actions_fit c.args.actions.now c.requires c.loop-action.action-index _ c.loop-action-test.true)

pub returns : goal.returns
returns c =
    c.loop-action.invariant
    ∙ ap (λ xs. c.args.out.now.items ++ flat_map action_bytes xs) (take_all c.loop-action.action-index c.args.actions.now (omega arith))
    ∙ ap (λ t. c.args.out.now.items ++ t) (sym (spelled_actions c.args.actions.now))
