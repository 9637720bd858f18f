use Rattle.std.proofs.Common.{◌≡◌, ◌↔◌, ℕ, List, Ok, sym, subst}
use Rattle.orc_value.specs.declared.kind.Kind.{Kind}
use Rattle.orc_value.specs.Canon.{canon_of, SameValue, Answers}
use Rattle.orc_value.proofs.CanonLaws.{canon_of-again, canon_of-same, IfOk-from_Answers}
use Rattle.orc_value.proofs.canonical.canon.Goals as goal

pub returns-in-Int-clause-again : goal.returns-in-Int-clause-again
returns-in-Int-clause-again c =
    let answer = subst (λ (kind : Kind). Answers (canon_of kind c.args.text.now) c.canon_integer.result) (sym c.in-Int.is) c.canon_integer.ensures in
    IfOk-from_Answers (λ (t : List ℕ). canon_of c.args.kind.now t ≡ Ok t) (canon_of c.args.kind.now c.args.text.now) c.canon_integer.result answer (canon_of-again c.args.kind.now c.args.text.now)

pub returns-in-Int-clause-same : goal.returns-in-Int-clause-same
returns-in-Int-clause-same c =
    let answer = subst (λ (kind : Kind). Answers (canon_of kind c.args.text.now) c.canon_integer.result) (sym c.in-Int.is) c.canon_integer.ensures in
    IfOk-from_Answers (λ (t : List ℕ). (other : List ℕ) → (canon_of c.args.kind.now other ≡ Ok t) ↔ SameValue c.args.kind.now other c.args.text.now) (canon_of c.args.kind.now c.args.text.now) c.canon_integer.result answer (λ t h other. canon_of-same c.args.kind.now c.args.text.now t other h)

pub returns-in-Decimal-clause-again : goal.returns-in-Decimal-clause-again
returns-in-Decimal-clause-again c =
    let answer = subst (λ (kind : Kind). Answers (canon_of kind c.args.text.now) c.canon_decimal.result) (sym c.in-Decimal.is) c.canon_decimal.ensures in
    IfOk-from_Answers (λ (t : List ℕ). canon_of c.args.kind.now t ≡ Ok t) (canon_of c.args.kind.now c.args.text.now) c.canon_decimal.result answer (canon_of-again c.args.kind.now c.args.text.now)

pub returns-in-Decimal-clause-same : goal.returns-in-Decimal-clause-same
returns-in-Decimal-clause-same c =
    let answer = subst (λ (kind : Kind). Answers (canon_of kind c.args.text.now) c.canon_decimal.result) (sym c.in-Decimal.is) c.canon_decimal.ensures in
    IfOk-from_Answers (λ (t : List ℕ). (other : List ℕ) → (canon_of c.args.kind.now other ≡ Ok t) ↔ SameValue c.args.kind.now other c.args.text.now) (canon_of c.args.kind.now c.args.text.now) c.canon_decimal.result answer (λ t h other. canon_of-same c.args.kind.now c.args.text.now t other h)
