use Rattle.std.proofs.Common.{◌≡◌, ℕ, ◌<◌, ◌^◌, ◌+◌, ◌*◌, List, ◌++◌, length, get_or, take, arith, ap, ◌∙◌}
use Rattle.std.specs.Int.{w16, to_be_bytes}
use Rattle.orc_call.specs.Fields.{a_count_of_actions}
use Rattle.orc_call.proofs.Grammars.{one_fails}
use Rattle.orc_call.proofs.fields.action_count_at.Goals as goal
use Rattle.orc_call.proofs.fields.action_count_at.Goals.{then-count-lt1-via-then-count-lt1, then-count-lt1-via-else-count-lt1+then-count-gt-MOST_ACTIONS}

-- the number that two bytes spell
two_bytes : (bytes front rest : List ℕ) (count x : ℕ) → front ≡ take 2 bytes → count ≡ get_or front 0 0 * 256 + get_or front 1 0 → bytes ≡ to_be_bytes w16 x ++ rest → x < 2 ^ 16 → count ≡ x
two_bytes bytes front rest count x cut is parts fits =
    let whole : front ≡ take 2 (to_be_bytes w16 x ++ rest) = cut ∙ ap (take 2) parts in
    omega (arith, ap (λ b. get_or b 0 0) whole, ap (λ b. get_or b 1 0) whole)

pub returns-then-bytes-lt2-clause-reads : goal.returns-then-bytes-lt2-clause-reads
returns-then-bytes-lt2-clause-reads c = one_fails a_count_of_actions c.args.bytes.now _ 0 c.bad.ensures (λ x rest lawful parts. omega (arith, ap length parts))

pub returns-then-count-lt1-clause-reads : goal.returns-then-count-lt1-clause-reads
returns-then-count-lt1-clause-reads c = one_fails a_count_of_actions c.args.bytes.now _ 0 c.bad-then-count-lt1.ensures (λ x rest lawful parts.
    let fits : x < 2 ^ 16 = omega (arith, lawful.1) in
    let same : c.from_be_bytes-count.result ≡ x = two_bytes c.args.bytes.now c.split_at.result.0.now rest c.from_be_bytes-count.result x c.split_at.ensures.front c.from_be_bytes-count.ensures parts fits in
    elim c.then-count-lt1.branch [ then-count-lt1-via-then-count-lt1 w ↦ omega (arith, same, lawful.0) | then-count-lt1-via-else-count-lt1+then-count-gt-MOST_ACTIONS w ↦ omega (arith, same, lawful.1) ])
