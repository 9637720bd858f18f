use Rattle.std.proofs.Common.{◌≡◌, List, length, ap, ◌∙◌, arith}
use Rattle.orc_change.specs.Differences.{difference}
use Rattle.orc_change.proofs.Exact.{difference-same}
use Rattle.orc_refs.specs.Moves.{edited}
use Rattle.orc_refs.specs.declared.moves.BaseEdit.{BaseEdit}
use Rattle.orc_refs.proofs.refs.Refs.apply.Goals as goal

pub returns-clause-few : goal.returns-clause-few
returns-clause-few g c =
    let base = c.self.inside.base in
    λ none.
    let same : length (difference base (edited c.args.edits.now base)) ≡ 0 =
    ap length (ap (λ (l : List BaseEdit). difference base (edited l base)) none ∙ difference-same base) in
    omega (arith, c.apply_moves.ensures.steps, same)
