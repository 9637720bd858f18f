use Rattle.std.proofs.Common.{◌≡◌, ◌&&◌, true, false, not, List, ap, sym, refl, subst}
use Rattle.std.proofs.lemmas.Bool.{or_parts}
use Rattle.orc_call.specs.declared.call.Action.TheVariants.{Set}
use Rattle.orc_schema_nodes.specs.Schemas.{SchemaTable}
use Rattle.orc_services.specs.declared.list.ServiceList.{ServiceList}
use Rattle.orc_decls.specs.Calls.{is_kept, is_put, is_served}
use Rattle.orc_script.proofs.CallLines.{acted}
use Rattle.orc_lines.proofs.Lawful.{both}
use Rattle.orc_script.proofs.script.Script.take_set.Goals as goal

pub returns-clause-lawful : goal.returns-clause-lawful
returns-clause-lawful c = λ most so_far here.
    let d = c.args.decls.now in
    let put = c.in_ok-put.put in
    let there : is_put d.data_schema put ≡ true = subst (λ (s : SchemaTable). is_put s put ≡ true) c.data_schema-schema.ensures c.in_ok-put.ensures.lawful in
    let parts = or_parts (is_kept put.path) (is_served c.services-lists.result.now put.path) c.in_ok-put.ensures.free in
    let apart : is_served d.services put.path ≡ false =
    subst (λ (lists : List ServiceList). is_served lists put.path ≡ false) c.services-lists.ensures parts.1 in
    let item = both (is_put d.data_schema put) (not (is_kept put.path)) there (ap not parts.0) in
    let lawful = both (is_put d.data_schema put && not (is_kept put.path)) (not (is_served d.services put.path)) item (ap not apart) in
    acted d most c.args.self.now so_far here (Set put) c.push.new.self (sym c.if-is_call_full.ensures) lawful refl c.in_ok-push.ensures.ok
