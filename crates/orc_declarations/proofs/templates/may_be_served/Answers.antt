use Rattle.std.proofs.Common.{◌&&◌, Bool, List, ap, not, ◌∙◌}
use Rattle.std.specs.List.{list_any}
use Rattle.orc_call.specs.declared.call.Put.{Put}
use Rattle.orc_decls.specs.Calls.{meets}
use Rattle.orc_declarations.proofs.templates.may_be_served.Goals as goal

pub returns-then-is_service_list : goal.returns-then-is_service_list
returns-then-is_service_list c =
    let list = c.args.list.now in
    let used : List Put → Bool = λ puts. list_any (λ (put : Put). meets list put.path) puts in
    ap not (c.is_used.ensures ∙ ap used c.as_slice.ensures)
    ∙ ap (λ (b : Bool). b && not (used c.args.declared.now.data)) c.if-is_service_list.ensures
