use Rattle.std.proofs.Common.{List, sym, ap, ◌∙◌, take}
use Rattle.std.specs.List.{list_all}
use Rattle.std.specs.Prelude.{not}
use Rattle.orc_rules.specs.Duties.{is_busy}
use Rattle.orc_rules.specs.declared.duty.Duty.{Duty}
use Rattle.orc_rules.proofs.Reaching.{come_at_rest, come_begun}
use Rattle.orc_hub.specs.Hubs.{record_of}
use Rattle.orc_hub.proofs.hub.Hub.has_come_to.Goals as goal

pub returns-in-None : goal.returns-in-None
returns-in-None g c = sym (come_at_rest (record_of c.args.self.now) c.args.device c.in-None.is)

pub returns-in-Some : goal.returns-in-Some
returns-in-Some g c =
    c.none_busy_before.ensures ∙ ap (λ (l : List Duty). list_all (λ duty. not (is_busy duty)) (take c.args.device l)) c.as_slice.ensures
    ∙ sym (come_begun (record_of c.args.self.now) c.args.device _ c.in-Some.is)
