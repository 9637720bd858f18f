use Rattle.std.proofs.Common.{rules, ◌≡◌, ◌∙◌, ap, List, ℤ, to_z, of_z, w32}
use Rattle.orc_types.specs.inside.Running.{is_taken}
use Rattle.orc_types.proofs.taken.Taken.has.Goals as goal

pub returns : goal.returns
returns c =
    let same : to_z w32 (of_z w32 c.args.value) ≡ c.args.value = search rules in
    c.contains.ensures ∙ (ap (λ (v : ℤ). is_taken c.self.inside.values.keys v) same ∙ ap (λ (vs : List ℤ). is_taken vs c.args.value) c.self.view_is)
