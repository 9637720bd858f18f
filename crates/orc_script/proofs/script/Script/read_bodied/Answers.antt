use Rattle.std.proofs.Common.{◌≡◌, true, List, subst}
use Rattle.orc_path.specs.Steps.{PathStep, is_path}
use Rattle.orc_script.proofs.Services.{body_known, service_known}
use Rattle.orc_script.proofs.script.Script.read_bodied.Goals as goal

pub returns-clause-lawful : goal.returns-clause-lawful
returns-clause-lawful c =
    service_known c.args.decls.now c.services-lists.result.now c.data_schema-schema.result.now c.in_ok-path.path c.in_ok-id.id
    (subst (λ (p : List PathStep). is_path p ≡ true) c.path.view_is c.path.invariant) c.services-lists.ensures c.data_schema-schema.ensures c.in_ok-path.ensures.lawful c.in_ok-id.ensures.text

pub returns-clause-bodied : goal.returns-clause-bodied
returns-clause-bodied c =
    body_known c.args.decls.now c.data_schema-schema.result.now c.in_ok-path.path c.in_ok-id.id c.in_ok-body.body
    (subst (λ (p : List PathStep). is_path p ≡ true) c.path.view_is c.path.invariant) c.data_schema-schema.ensures c.in_ok-body.ensures.lawful c.in_ok-id.ensures.text
