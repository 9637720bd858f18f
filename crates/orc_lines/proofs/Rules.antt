-- What is known where no rule is broken.
use Rattle.std.proofs.Common.{◌≡◌, ℕ, Bool, true, false, not, cond, Result, Ok, Err, Option, Some, None, refl, sym}
use Rattle.orc_decls.specs.declared.rule.Rule.{Rule}
use Rattle.orc_lines.specs.Rules.{or_rule, on_ok, on_line}

-- answers of a known type
abbrev pub ok : (X E : Type 0) → X → Result X E
ok X E x = Ok x

abbrev pub err : (X E : Type 0) → E → Result X E
err X E e = Err e

pub same_ok : {X E : Type 0} (x y : X) → ok X E x ≡ Ok y → x ≡ y
same_ok x y h = cc

pub no_ok : {X E : Type 0} (e : E) (x : X) → err X E e ≡ Ok x → ⊥
no_ok e x h = cc

-- a test that breaks a rule failed
pub passed : {X E : Type 0} (b : Bool) (e : E) (r : Result X E) (x : X) → cond b (Err e) r ≡ Ok x → (b ≡ false) × (r ≡ Ok x)
passed true e r x h = absurd (no_ok e x h)
passed false e r x h = (refl, h)

pub or_rule_ok : {X Y : Type 0} (o : Option X) (r : Rule) (next : X → Result Y Rule) (y : Y)
    → or_rule o r next ≡ Ok y → (x : X) × ((o ≡ Some x) × (next x ≡ Ok y))
or_rule_ok None r next y h = absurd (no_ok r y h)
or_rule_ok (Some x) r next y h = (x, (refl, h))

pub on_ok_ok : {X Y E : Type 0} (o : Result X E) (next : X → Result Y E) (y : Y)
    → on_ok o next ≡ Ok y → (x : X) × ((o ≡ Ok x) × (next x ≡ Ok y))
on_ok_ok (Err e) next y h = absurd (no_ok e y h)
on_ok_ok (Ok x) next y h = (x, (refl, h))

pub on_line_ok : {P X : Type 0} (n : ℕ) (o : Result P Rule) (next : P → Result X (ℕ × Rule)) (x : X)
    → on_line n o next ≡ Ok x → (p : P) × ((o ≡ Ok p) × (next p ≡ Ok x))
on_line_ok n (Err rule) next x h = absurd (no_ok (n, rule) x h)
on_line_ok n (Ok p) next x h = (p, (refl, h))

pub so : (b : Bool) → not b ≡ false → b ≡ true
so true h = refl
so false h = sym h
