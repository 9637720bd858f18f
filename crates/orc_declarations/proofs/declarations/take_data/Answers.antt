use Rattle.std.proofs.Common.{◌≡◌, false, List, subst}
use Rattle.std.proofs.lemmas.Bool.{or_parts}
use Rattle.orc_services.specs.declared.list.ServiceList.{ServiceList}
use Rattle.orc_decls.specs.Calls.{is_kept, is_served}
use Rattle.orc_declarations.proofs.Lawful.{data_more}
use Rattle.orc_declarations.proofs.declarations.take_data.Goals as goal

pub returns-clause-lawful : goal.returns-clause-lawful
returns-clause-lawful c = λ declared.
    let put = c.in_ok-put.put in
    let parts = or_parts (is_kept put.path) (is_served c.as_slice.result.now put.path) c.in_ok-put.ensures.free in
    data_more c.args.declared.now put c.push.new.self declared c.in_ok-put.ensures.lawful parts.0
    (subst (λ (lists : List ServiceList). is_served lists put.path ≡ false) c.as_slice.ensures parts.1) c.in_ok-push.ensures.ok
