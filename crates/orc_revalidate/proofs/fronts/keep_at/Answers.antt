use Rattle.std.proofs.Common.{List, length, sym, ap, ◌∙◌}
use Rattle.std.specs.List.{fold}
use Rattle.orc_check.specs.Validity.{Breach, lesser_breach}
use Rattle.orc_revalidate.proofs.Unbounded.{fronts_lack_nothing}
use Rattle.orc_revalidate.proofs.fronts.keep_at.Goals as goal

pub returns : goal.returns
returns c =
    ap (λ (bs : List Breach). fold lesser_breach c.args.best bs)
    (sym (fronts_lack_nothing c.args.schema.now c.args.tree.now c.args.line.now (sym c.can_lack.ensures ∙ c.if-can_lack.false) c.args.path.now (length c.args.path.now)))
