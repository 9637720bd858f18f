use Rattle.std.proofs.Common.{◌∙◌, ap, subst}
use Rattle.std.specs.Prelude.{◌≡◌, IfOk, slice_get, option_map}
use Rattle.orc_schema.specs.Drafts.{drafts_of}
use Rattle.orc_schema.proofs.build.node_names.Goals as goal

pub returns : goal.returns
returns c = subst (λ ds. IfOk c.names_of.result (λ names. names ≡ option_map (λ d. d.names) (slice_get ds c.args.number)))
    (c.as_slice.ensures ∙ c.in_ok-drafts.ensures ∙ ap (λ ms. drafts_of ms ms.all) c.in_ok-modules.ensures) c.names_of.ensures
