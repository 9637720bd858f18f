use Rattle.std.proofs.Common.{List, sym, ap, ◌∙◌, get_or}
use Rattle.orc_rules.specs.declared.asked.Asked.{Asked}
use Rattle.orc_rules.specs.Asked.{open_of}
use Rattle.orc_hub_parts.proofs.Indexed.{open_none, open_some}
use Rattle.orc_hub_parts.proofs.slots.Slots.open_of.Goals as goal

pub returns-in-Some : goal.returns-in-Some
returns-in-Some c = c.open_number.ensures ∙ sym (open_some c.self.inside.rows c.self.inside.index c.self.invariant c.args.caller.now c.in-Some.place c.index-as_slice-place.result
    (sym c.latest.ensures ∙ c.in-Some.is)
    (c.index-as_slice-place.is ∙ ap (λ (l : List Asked). get_or l c.in-Some.place c.index-as_slice-place.result) c.as_slice.ensures))
    ∙ ap (λ (l : List Asked). open_of l c.args.caller.now) c.self.view_is

pub returns-in-None : goal.returns-in-None
returns-in-None c = sym (open_none c.self.inside.rows c.self.inside.index c.self.invariant c.args.caller.now (sym c.latest.ensures ∙ c.in-None.is))
    ∙ ap (λ (l : List Asked). open_of l c.args.caller.now) c.self.view_is
