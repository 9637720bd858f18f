use Rattle.std.proofs.Common.{rules, ◌≡◌, ◌∙◌, ap, cond, true, List, ℤ, to_z, of_z, w32}
use Rattle.std.specs.Ordering.{int_eq}
use Rattle.orc_types.specs.inside.Running.{is_taken}
use Rattle.orc_types.proofs.taken.Taken.add.Goals as goal

pub returns : goal.returns
returns c =
    let same : to_z w32 (of_z w32 c.args.value) ≡ c.args.value = search rules in
    λ z. c.in_ok-insert.ensures.updates.0 z
    ∙ (ap (λ (v : ℤ). cond (int_eq v z) true (is_taken c.self.inside.values.keys z)) same
    ∙ ap (λ (vs : List ℤ). cond (int_eq c.args.value z) true (is_taken vs z)) c.self.view_is)
