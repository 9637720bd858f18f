use Rattle.std.proofs.Common.{◌≡◌, sym, subst, ◌∙◌}
use Rattle.std.specs.Prelude.{IfOk}
use Rattle.orc_path.specs.Configurations.{Config}
use Rattle.orc_refs.specs.Moves.{AreWhole, items_of}
use Rattle.orc_datastore.specs.States.{part}
use Rattle.orc_datastore.proofs.OnDevice.{items_empty}
use Rattle.orc_datastore.proofs.Wholes.{none-whole}
use Rattle.orc_datastore.proofs.turns.items_on.Goals as goal

pub returns-in-Some-clause-items : goal.returns-in-Some-clause-items
returns-in-Some-clause-items c =
    subst (λ (m : Config). IfOk c.items_of.result (λ items. items ≡ items_of m)) c.in-Some.ensures c.items_of.ensures.items

pub returns-in-None-clause-items : goal.returns-in-None-clause-items
returns-in-None-clause-items c =
    c.new.ensures ∙ sym (items_empty (part c.args.service.now c.args.device) (sym c.in-None.ensures))

pub returns-in-None-clause-whole : goal.returns-in-None-clause-whole
returns-in-None-clause-whole c = subst AreWhole (sym c.new.ensures) none-whole
