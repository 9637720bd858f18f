use Rattle.std.proofs.Common.{sym, ◌∙◌}
use Rattle.orc_hub.specs.Hubs.{record_of}
use Rattle.orc_hub.proofs.EditsDue.{none_yet}
use Rattle.orc_hub.proofs.hub.Hub.order.Goals as goal

pub returns-then-not-has_come_to-clause-order : goal.returns-then-not-has_come_to-clause-order
returns-then-not-has_come_to-clause-order g c =
    none_yet (record_of c.args.self.now) c.args.device c.args.self.now.down (sym c.has_come_to.ensures ∙ c.if-not-has_come_to.true)

pub order_on-requires-clause-come : goal.order_on-requires-clause-come
order_on-requires-clause-come g c = sym c.has_come_to.ensures ∙ c.if-not-has_come_to.false
