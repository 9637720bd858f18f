use Rattle.std.proofs.Common.{◌∙◌, refl}
use Rattle.orc_declarations.proofs.CopiedStatements.{all_taken, same_parts}
use Rattle.orc_declarations.proofs.statements.+copy.Goals as goal

pub returns : goal.returns
returns t c =
    same_parts c.args.statement.now _ _ _ _ c.in_ok-keyword.ensures c.in_ok-argument.ensures
    (c.from_vec.ensures ∙ all_taken _ c.as_slice-sub-items.result.now c.loop-sub.sub-index c.loop-sub-test.false c.loop-sub.invariant ∙ c.as_slice-sub-items.ensures) refl
