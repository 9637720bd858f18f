use Rattle.std.proofs.Common.{◌≡◌, true, sym, ap, ◌∙◌}
use Rattle.orc_path.specs.Order.{is_prefix}
use Rattle.orc_path.proofs.Extensions.{path_cmp-extension}
use Rattle.orc_path.proofs.path.Path.is_prefix_of.Goals as goal

pub returns-clause-before : goal.returns-clause-before
returns-clause-before c =
    λ h unlike.
    let self = c.as_slice-2.ensures ∙ c.self.view_is in
    let other = c.as_slice.ensures ∙ c.other.view_is in
    let begins : is_prefix c.args.self.now c.args.other.now ≡ true = ap (is_prefix c.args.self.now) (sym other) ∙ ap (λ p. is_prefix p c.as_slice.result.now) (sym self) ∙ sym c.starts_with.ensures.value ∙ h in
    path_cmp-extension c.args.self.now c.args.other.now begins unlike
