-- A character that a reader refuses in the middle of a text.
use Rattle.std.proofs.Common.{◌≡◌, ℕ, Bool, List, ◌++◌, None, encode_utf8, ap, ◌∙◌}
use Rattle.orc_path.specs.Texts.{IsBadAt}
use Rattle.orc_expr.specs.inside.Grammar.{IsText}
use Rattle.orc_expr.specs.inside.Reading.{Reading, feed_all}
use Rattle.orc_expr.proofs.Parsed.{Stands, stands_refused}
use Rattle.orc_expr.proofs.Wide.{refused_first}

pub taken_refused : (conditional : Bool) (text : List ℕ) (at : ℕ) (rest : List ℕ) (r : Reading) → Stands conditional text at rest r
    → (c : ℕ) (after : List ℕ) → rest ≡ encode_utf8 c ++ after → feed_all r (encode_utf8 c) ≡ None → IsBadAt (IsText conditional) text at
taken_refused conditional text at rest r here c after next never =
    let first = refused_first r c never in
    stands_refused conditional text at rest r here first.0 (first.1.0 ++ after) (next ∙ ap (λ x. x ++ after) first.1.1.0) first.1.1.1
