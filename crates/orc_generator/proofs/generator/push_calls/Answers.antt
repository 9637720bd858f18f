use Rattle.std.proofs.Common.{◌≡◌, ℕ, ◌+◌, suc, List, ◌++◌, refl, ap, sym, ◌∙◌}
use native.Mathlib.Numerals.{unary_clauses}
use Rattle.std.proofs.lemmas.List.{append_assoc}
use Rattle.std.specs.String.{string_bytes}
use Rattle.orc_generator.specs.Generated.{
  behind_call,
  behind_calls,
  generated_call,
  generated_calls,
  settle_line,
}
use Rattle.orc_generator.proofs.generator.push_calls.Goals as goal

-- the calls with one more
calls_more : (number devices calls n : ℕ) → generated_calls number devices calls (n + 1)
    ≡ generated_calls number devices calls n
    ++ generated_call devices calls (behind_calls number n) (n + 1) ++ settle_line (n + 1)
calls_more number devices calls n = simp unary_clauses refl

-- the state after one call more
behind_more : (number n : ℕ) → behind_calls number (n + 1) ≡ behind_call (behind_calls number n)
behind_more number n = simp unary_clauses refl

-- the call and what comes after it are added to what stood
pub loop-call-preserved : goal.loop-call-preserved
loop-call-preserved c =
    let is = c.loop-call.invariant in
    let n = c.loop-call.call in
    let a = c.args in
    let call = λ (state : ℕ). generated_call a.devices a.calls state (n + 1) in
    let before = generated_calls a.number a.devices a.calls n in
    let there = call (behind_calls a.number n) in
    let stood = string_bytes a.out.now in
    let settled = settle_line (n + 1) in (
      c.in_ok-push_settle.ensures
          ∙ ap (λ (t : List ℕ). t ++ settled) (
          c.in_ok-push_call.ensures.text
          ∙ ap (λ state. string_bytes c.loop-call.out ++ call state) is.1
          ∙ ap (λ (t : List ℕ). t ++ there) is.0
          ∙ append_assoc stood before there
          )
          ∙ append_assoc stood (before ++ there) settled
          ∙ ap (λ (t : List ℕ). stood ++ t) (sym (calls_more a.number a.devices a.calls n)),
      c.in_ok-push_call.ensures.state ∙ ap behind_call is.1 ∙ sym (behind_more a.number n),
    )
