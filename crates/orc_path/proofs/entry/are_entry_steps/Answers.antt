use Rattle.std.proofs.Common.{◌≡◌, ◌&&◌, List, [], ◌∷◌, ◌++◌, ap, sym, ◌∙◌}
use Rattle.orc_path.specs.Steps.{PathStep}
use Rattle.orc_path.specs.Configurations.{is_entry_of}
use Rattle.orc_path.specs.inside.Entries.{is_entry_step}
use Rattle.std.proofs.lemmas.List.{nil_from_length}
use Rattle.orc_path.proofs.Listed.{entry_tested, no_entry-root}
use Rattle.orc_path.proofs.entry.are_entry_steps.Goals as goal

pub returns-then-eq : goal.returns-then-eq
returns-then-eq c =
    let list = c.in-Some-split_last in
    let entry = c.in-Some in
    let front = sym c.eq.ensures ∙ c.if-eq.true in
    c.is_entry_step.ensures
    ∙ sym (ap (λ b. b && is_entry_step list.list_step.now entry.step.now) front)
    ∙ entry_tested list.list_front.now list.list_step.now entry.front.now entry.step.now
    ∙ ap (λ (l : List PathStep). is_entry_of l (entry.front.now ++ entry.step.now ∷ [])) (sym list.ensures.cases.0)
    ∙ ap (is_entry_of c.args.list.now) (sym entry.ensures.cases.0)

pub returns-else-eq : goal.returns-else-eq
returns-else-eq c =
    let list = c.in-Some-split_last in
    let entry = c.in-Some in
    let front = sym c.eq.ensures ∙ c.if-eq.false in
    c.if-eq.false
    ∙ sym (ap (λ b. b && is_entry_step list.list_step.now entry.step.now) front)
    ∙ entry_tested list.list_front.now list.list_step.now entry.front.now entry.step.now
    ∙ ap (λ (l : List PathStep). is_entry_of l (entry.front.now ++ entry.step.now ∷ [])) (sym list.ensures.cases.0)
    ∙ ap (is_entry_of c.args.list.now) (sym entry.ensures.cases.0)

pub returns-in-None-split_last : goal.returns-in-None-split_last
returns-in-None-split_last c =
    let root : c.args.list.now ≡ [] = nil_from_length c.args.list.now c.in-None-split_last.ensures.cases in
    sym (ap (λ (l : List PathStep). is_entry_of l c.args.entry.now) root ∙ no_entry-root c.args.entry.now)
