use Rattle.std.proofs.Common.{◌≡◌, true, false, not, List, ap, sym, refl, subst}
use Rattle.orc_call.specs.declared.call.Action.TheVariants.{Unset}
use Rattle.orc_schema_nodes.specs.Schemas.{SchemaTable}
use Rattle.orc_services.specs.declared.list.ServiceList.{ServiceList}
use Rattle.orc_decls.specs.Calls.{is_data_path, is_served}
use Rattle.orc_script.proofs.CallLines.{acted}
use Rattle.orc_lines.proofs.Lawful.{both}
use Rattle.orc_script.proofs.script.Script.take_unset.Goals as goal

pub returns-clause-lawful : goal.returns-clause-lawful
returns-clause-lawful c = λ most so_far here.
    let d = c.args.decls.now in
    let path = c.in_ok-path.path in
    let apart : is_served d.services path ≡ false =
    subst (λ (lists : List ServiceList). is_served lists path ≡ false) c.services-lists.ensures c.in_ok-path.ensures.free in
    let there : is_data_path d.data_schema path ≡ true =
    subst (λ (s : SchemaTable). is_data_path s path ≡ true) c.data_schema-schema.ensures c.in_ok-path.ensures.lawful in
    let lawful = both (is_data_path d.data_schema path) (not (is_served d.services path)) there (ap not apart) in
    acted d most c.args.self.now so_far here (Unset path) c.push.new.self (sym c.if-is_call_full.ensures) lawful refl c.in_ok-push.ensures.ok
