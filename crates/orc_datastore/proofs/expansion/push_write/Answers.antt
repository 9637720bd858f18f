use Rattle.std.proofs.Common.{◌∙◌, List, sym, subst}
use Rattle.std.proofs.lemmas.Result.{on_ok_weaker}
use Rattle.orc_path.specs.Steps.{PathStep}
use Rattle.orc_path.specs.declared.item.Item.{Item}
use Rattle.orc_datastore.specs.inside.Written.{AddsItem}
use Rattle.orc_datastore.proofs.Spreading.{takes, takes_none}
use Rattle.orc_datastore.proofs.expansion.push_write.Goals as goal

pub returns-in_ok-item-in-Some : goal.returns-in_ok-item-in-Some
returns-in_ok-item-in-Some c =
    let w = c.args.written.now.items in
    let w' = c.put_on.new.written.items in
    on_ok_weaker c.put_on.result
    (λ adds.
    takes c.args.decls.now.names c.args.write.now c.in-Some.device w w' c.names-names.ensures.distinct (sym c.number_of.ensures.place ∙ c.in-Some.is)
    (subst (λ (p : List PathStep). AddsItem c.in-Some.device p c.args.write.now.item w w') c.in_ok-path-in-Some.ensures
    (subst (λ (i : Item). AddsItem c.in-Some.device c.in_ok-path-in-Some.path i w w') c.in_ok-item-in-Some.ensures adds)))
    c.put_on.ensures

pub returns-in-None : goal.returns-in-None
returns-in-None c =
    takes_none c.args.decls.now.names c.args.write.now c.args.written.now.items (sym c.number_of.ensures.place ∙ c.in-None.is)
