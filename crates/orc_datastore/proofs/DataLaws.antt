-- Names and paths of the data, and that a call that isn't refused leaves it valid.
use Rattle.std.proofs.Common.{◌≡◌, ℕ, true, false, List, [], ◌∷◌, None, Some, refl, sym, ap, ◌∙◌}
use Rattle.std.specs.declared.option.Option.{Option}
use Rattle.std.specs.Option.{option_or}
use Rattle.orc_path.specs.Steps.{PathStep}
use Rattle.orc_check.specs.Validity.{Breach, broken_of}
use Rattle.orc_call.specs.declared.answer.Answer.TheVariants.{Invalid}
use Rattle.orc_call.specs.declared.call.Call.{Call}
use Rattle.orc_datastore.specs.Actions.{data_after}
use Rattle.orc_datastore.specs.inside.Behind.{begins_as_path}
use Rattle.orc_path.specs.Reading.{path_of}
use Rattle.orc_path.specs.Texts.{path_text}
use Rattle.orc_path.proofs.PathOf.{text_of_path}
use Rattle.orc_datastore.specs.Next.{after, clash, existence, invalid, refusal, expanded_call, expanded_to, unexpanded}
use Rattle.orc_decls.specs.declared.declarations.Decls.{Decls}
use Rattle.orc_datastore.specs.States.{Datastore}
use Rattle.orc_datastore.proofs.Agreement.{map_none, or_none}
use Rattle.orc_decls.proofs.Lists.{true_not_false}

-- a name of a literal service is no path's text
path_begins : (p : List PathStep) → begins_as_path (path_text p) ≡ true
path_begins [] = refl
path_begins (step ∷ steps) = refl

pub no_slash_no_path : (id : List ℕ) → begins_as_path id ≡ false → path_of id ≡ None
no_slash_no_path id h = on (path_of id) refl
  where
    on : (o : Option (List PathStep)) → path_of id ≡ o → o ≡ None
    on None is = refl
    on (Some p) is =
        absurd (true_not_false (sym (path_begins p) ∙ ap begins_as_path (text_of_path p id is).1 ∙ h))

-- a call that isn't refused leaves the data valid

pub after_valid : (decls : Decls) (s : Datastore) (call : Call) → refusal decls s call ≡ None → broken_of decls.data_schema (after decls s call).data ≡ None
after_valid decls s call h =
    let first = or_none (existence s.live call.actions) _ h in
    let acts = expanded_call decls s call in
    let second = or_none (invalid decls.data_schema (data_after call.actions s.data))
    (option_or (unexpanded acts) (clash decls.names s.live (expanded_to acts))) first.1 in
    map_none (λ (breach : Breach). Invalid breach.path breach.rule) (broken_of decls.data_schema (data_after call.actions s.data)) second.0
