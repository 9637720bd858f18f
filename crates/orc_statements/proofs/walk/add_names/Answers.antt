use Rattle.std.proofs.Common.{◌∙◌, ap, subst}
use Rattle.std.specs.Prelude.{OnOk}
use Rattle.orc_modules.specs.Children.{children, child_names}
use Rattle.orc_modules.specs.Stack.{stack}
use Rattle.orc_statements.specs.inside.Seen.{HasAllToo}
use Rattle.orc_statements.proofs.walk.add_names.Goals as goal

pub returns : goal.returns
returns c = subst (λ more. OnOk c.push_all.result (HasAllToo c.args.names.now more c.push_all.new.names)) (c.as_slice.ensures ∙ c.in_ok-more.ensures
    ∙ ap (λ ss. child_names (children c.args.modules.now.most c.args.modules.now.all.now (stack c.args.above.now) ss)) c.from_ref.ensures.value) c.push_all.ensures
