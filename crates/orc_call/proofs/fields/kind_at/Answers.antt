use Rattle.std.proofs.Common.{◌≡◌, length, get_or, ap, sym, ◌∙◌, arith}
use Rattle.std.proofs.lemmas.Bool.{eqb-true}
use Rattle.orc_call.proofs.ActionKinds.{kind_fails}
use Rattle.orc_call.proofs.fields.kind_at.Goals as goal
use Rattle.orc_call.proofs.fields.kind_at.Goals.{then-is_empty-via-then-is_empty, then-is_empty-via-else-is_empty+then-bytes-lt1, then-is_empty-via-else-is_empty+else-bytes-lt1+then-bytes-gt9}

pub returns-then-is_empty-clause-reads : goal.returns-then-is_empty-clause-reads
returns-then-is_empty-clause-reads c = kind_fails c.args.bytes.now _ c.bad.ensures (λ byte rest least greatest parts.
    let first : get_or c.args.bytes.now 0 0 ≡ byte = ap (λ b. get_or b 0 0) parts in
    let long = ap length parts in
    elim c.then-is_empty.branch [
      | then-is_empty-via-then-is_empty w ↦ omega (arith, eqb-true _ _ (sym c.is_empty.ensures ∙ w.if-is_empty.true), long)
      | then-is_empty-via-else-is_empty+then-bytes-lt1 w ↦ omega (arith, first)
      | then-is_empty-via-else-is_empty+else-bytes-lt1+then-bytes-gt9 w ↦ omega (arith, first)
    ])
