use Rattle.std.proofs.Common.{◌≡◌, List, Option, get_or, sym, subst}
use Rattle.std.specs.Prelude.{IfOk}
use Rattle.orc_device.specs.declared.op.Op.{Op}
use Rattle.orc_rules.specs.declared.duty.Duty.{Duty}
use Rattle.orc_hub.specs.Hubs.{record_of}
use Rattle.orc_hub.proofs.EditsDue.{due_there, edit_due, on_err}
use Rattle.orc_hub_parts.proofs.Places.{there}
use Rattle.orc_hub.proofs.hub.Hub.order_on.Goals as goal

pub returns-clause-order : goal.returns-clause-order
returns-clause-order g c =
    let hub = c.args.self.now in
    let duty = c.index-as_slice-device.result in
    let is = subst (λ (l : List Duty). duty ≡ get_or l c.args.device duty) c.as_slice.ensures c.index-as_slice-device.is in
    subst (λ (o : Option Op). IfOk c.next_op.result (λ op. op ≡ o))
    (sym (due_there (record_of hub) c.args.device duty (there hub.duties c.args.device duty c.requires.within is) c.requires.well c.requires.come)) c.next_op.ensures.order

pub returns-clause-memory : goal.returns-clause-memory
returns-clause-memory g c =
    let hub = c.args.self.now in
    let duty = c.index-as_slice-device.result in
    let is = subst (λ (l : List Duty). duty ≡ get_or l c.args.device duty) c.as_slice.ensures c.index-as_slice-device.is in
    on_err c.next_op.result
    (λ wants. (
      c.requires.up,
      edit_due (record_of hub) c.args.device duty (there hub.duties c.args.device duty c.requires.within is) c.requires.well c.requires.come wants,
    )) c.next_op.ensures.memory
