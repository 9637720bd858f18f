use Rattle.std.proofs.Common.{length, refl, ap, sym, ◌∙◌}
use Rattle.std.specs.Option.{option_map_or}
use Rattle.std.specs.Prelude.{nat_lt, false}
use Rattle.std.proofs.lemmas.Option.{slice_get_read}
use Rattle.orc_path.specs.Steps.{PathStep, has_keys}
use Rattle.orc_tree.proofs.ways.has_keys.Goals as goal

pub returns : goal.returns
returns c =
    let steps = c.args.steps.now in
    let s = c.index-steps-at.result in
    ap (nat_lt 0) (c.len.ensures ∙ ap (λ (s : PathStep). length s.keys) c.step.view_is)
    ∙ sym (ap (λ o. option_map_or has_keys o false) (slice_get_read steps _ c.args.at s refl c.requires c.index-steps-at.is))
