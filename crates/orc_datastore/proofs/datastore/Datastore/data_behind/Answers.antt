use Rattle.std.proofs.Common.{List, IfOk, ap, subst, ◌∙◌}
use Rattle.std.specs.Prelude.{Option}
use Rattle.orc_path.specs.Configurations.{Config}
use Rattle.orc_schema_nodes.specs.Schemas.{SchemaTable}
use Rattle.orc_call.specs.declared.answer.Answer.{Answer}
use Rattle.orc_call.specs.declared.call.Action.{Action}
use Rattle.orc_datastore.specs.Actions.{data_after}
use Rattle.orc_datastore.specs.Next.{IsDataUnless, existence, first_service_fault}
use Rattle.orc_datastore.specs.States.{Datastore}
use Rattle.orc_datastore.specs.inside.Sights.{knows_service}
use Rattle.orc_datastore.proofs.Sighting.{faults_same}
use Rattle.orc_datastore.proofs.datastore.Datastore.data_behind.Goals as goal

pub returns : goal.returns
returns c =
    let schema = c.args.decls.now.data_schema in
    let actions = c.args.call.now.actions in
    let known = knows_service c.self.inside.known in
    let fault_is =
    ap (first_service_fault known) c.as_slice-actions.ensures ∙ faults_same c.self.inside.live c.self.inside.known actions c.self.invariant.1
    ∙ ap (λ (s : Datastore). existence s.live actions) c.self.view_is in
    let data_is =
    ap (λ (l : List Action). data_after l c.self.inside.data) c.as_slice-actions.ensures ∙ ap (λ (s : Datastore). data_after actions s.data) c.self.view_is in
    let asked =
    subst (λ (s : SchemaTable). IfOk c.data_behind.result (IsDataUnless (first_service_fault known c.as_slice-actions.result.now) s
    (data_after c.as_slice-actions.result.now c.self.inside.data)))
    c.data_schema.ensures c.data_behind.ensures in
    subst (λ (fault : Option Answer). IfOk c.data_behind.result (IsDataUnless fault schema (data_after actions c.args.self.now.data))) fault_is
    (subst (λ (due : Config). IfOk c.data_behind.result (IsDataUnless (first_service_fault known c.as_slice-actions.result.now) schema due)) data_is
    asked)
