use Rattle.std.proofs.Common.{◌≡◌, ◌∙◌, ap, subst}
use Rattle.std.specs.Prelude.{option_map}
use Rattle.std.specs.List.{find}
use Rattle.orc_modules.specs.Children.{children, child_names}
use Rattle.orc_modules.specs.Stack.{stack, place, modules_of}
use Rattle.orc_statements.specs.declared.fault.SchemaFault.TheVariants.{Duplicate}
use Rattle.orc_statements.specs.Names.{contains_text, names_before}
use Rattle.orc_statements.specs.Meeting.{Meets}
use Rattle.orc_statements.specs.inside.Seen.{is_seen}
use Rattle.orc_statements.proofs.duplicates.repeated_node.Goals as goal

pub returns : goal.returns
returns c =
    let before = names_before (modules_of c.args.modules.now) (place c.args.here.now) in
    let tests : is_seen c.args.earlier.now ≡ contains_text before = λ i name. c.requires name i in
    subst (λ names. Meets (option_map Duplicate (find (contains_text before) names)) c.none_seen.result) (c.as_slice.ensures ∙ c.in_ok-names.ensures
    ∙ ap (λ ss. child_names (children c.args.modules.now.most c.args.modules.now.all.now (stack c.args.here.now.above.now) ss)) c.from_ref.ensures.value)
    (subst (λ test. Meets (option_map Duplicate (find test c.as_slice.result.now)) c.none_seen.result) tests c.none_seen.ensures)
