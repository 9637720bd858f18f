use Rattle.std.proofs.Common.{◌≡◌, ℕ, List, ◌++◌, ◌∷◌, [], IfOk, Option, sym, ap, subst, ◌∙◌}
use Rattle.orc_schema_nodes.specs.Schemas.{path_names}
use Rattle.orc_value.specs.declared.kind.Kind.{Kind}
use Rattle.orc_typed.specs.Typed.{kind_of_names, canonical_text}
use Rattle.orc_typed.proofs.Keys.{key_read}
use Rattle.orc_typed.proofs.canonical.+with_keys.Goals as goal

pub returns-in_ok-push-in-Some-2 : goal.returns-in_ok-push-in-Some-2
returns-in_ok-push-in-Some-2 t c =
    let kind : List ℕ → Option Kind = λ name. kind_of_names c.args.schema.now (path_names c.args.steps.now ++ name ∷ []) in
    let read = sym c.in-Some-2.is ∙ c.in_ok-text.ensures ∙ ap (λ k. canonical_text k c.in-Some.key.now) c.kind_below.ensures in
    subst (λ keys. IfOk c.with_keys.result (λ found. found ≡ keys))
    (key_read kind c.args.names.now c.in-Some-split_first.below.now c.in-Some-split_first.name.now c.args.keys.now c.in-Some.later.now c.in-Some.key.now
    c.in-Some-split_first.ensures.cases.0 c.in-Some.ensures.cases.0 c.args.done c.push.new.self c.in-Some-2.text read c.in_ok-push-in-Some-2.ensures.ok)
    c.with_keys.ensures
