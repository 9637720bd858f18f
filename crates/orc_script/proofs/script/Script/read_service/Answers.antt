use Rattle.std.proofs.Common.{◌≡◌, true, List, subst}
use Rattle.orc_path.specs.Steps.{PathStep, is_path}
use Rattle.orc_script.proofs.Services.{service_known}
use Rattle.orc_script.proofs.script.Script.read_service.Goals as goal

pub returns-clause-lawful : goal.returns-clause-lawful
returns-clause-lawful c =
    service_known c.args.decls.now c.services-lists.result.now c.data_schema-schema.result.now c.in_ok-path.path c.in_ok-id.id
    (subst (λ (p : List PathStep). is_path p ≡ true) c.path.view_is c.path.invariant) c.services-lists.ensures c.data_schema-schema.ensures c.in_ok-path.ensures.lawful c.in_ok-id.ensures.text
