use Rattle.std.proofs.Common.{List, sym, ap, ◌∙◌, get_or}
use Rattle.orc_rules.specs.declared.asked.Asked.{Asked}
use Rattle.orc_hub_parts.specs.Askers.{answer_of}
use Rattle.orc_hub_parts.proofs.Indexed.{answer_none, answer_some}
use Rattle.orc_hub_parts.proofs.slots.Slots.answer_of.Goals as goal

pub returns-in-Some : goal.returns-in-Some
returns-in-Some c = c.as_ref.ensures.value ∙ ap (λ (one : Asked). one.last) (sym c.index-as_slice-place.is)
    ∙ sym (answer_some c.self.inside.rows c.self.inside.index c.self.invariant c.args.caller.now c.args.number c.in-Some.place c.index-as_slice-place.result
    (sym c.place.ensures ∙ c.in-Some.is)
    (c.index-as_slice-place.is ∙ ap (λ (l : List Asked). get_or l c.in-Some.place c.index-as_slice-place.result) c.as_slice.ensures))
    ∙ ap (λ (l : List Asked). answer_of l c.args.caller.now c.args.number) c.self.view_is

pub returns-in-None : goal.returns-in-None
returns-in-None c = sym (answer_none c.self.inside.rows c.self.inside.index c.self.invariant c.args.caller.now c.args.number (sym c.place.ensures ∙ c.in-None.is))
    ∙ ap (λ (l : List Asked). answer_of l c.args.caller.now c.args.number) c.self.view_is
