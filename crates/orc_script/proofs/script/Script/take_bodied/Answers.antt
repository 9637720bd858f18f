use Rattle.std.proofs.Common.{◌∷◌, ◌++◌, [], ap, ◌∙◌}
use Rattle.orc_call.specs.declared.call.Action.{Action}
use Rattle.orc_decls.specs.Calls.{has_body, is_service}
use Rattle.orc_script.specs.Scripts.{bodied_action}
use Rattle.orc_lines.proofs.Lawful.{both}
use Rattle.orc_script.proofs.CallLines.{acted, made_lawful, made_new}
use Rattle.orc_script.proofs.script.Script.take_bodied.Goals as goal

pub returns-clause-lawful : goal.returns-clause-lawful
returns-clause-lawful c = λ most so_far here.
    let decls = c.args.decls.now in
    let id = c.in_ok-id.id in
    let body = c.in_ok-id.body in
    let lawful = both (is_service decls id) (has_body decls id body) c.in_ok-id.ensures.lawful c.in_ok-id.ensures.bodied in
    acted decls most c.args.self.now so_far here (bodied_action c.args.word id body) c.push.new.self c.in_ok-id.ensures.room
    (made_lawful decls c.args.word id body lawful) (made_new c.args.self.now.actions c.args.word id body c.in_ok-id.ensures.new)
    (c.in_ok-push.ensures.ok ∙ ap (λ (a : Action). c.args.self.now.actions ++ a ∷ []) c.bodied_action.ensures)
