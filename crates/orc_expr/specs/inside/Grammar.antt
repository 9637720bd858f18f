-- One grammar for expressions and conditions.
use Rattle.std.specs.Prelude.{◌≡◌, ℕ, Bool, true, false, ◌&&◌, List, IsTrue}
use Rattle.orc_expr.specs.Expressions.{Condition, is_expression, is_test, condition_text}
use Rattle.orc_expr.specs.declared.expr.Test.{Test}
use Rattle.orc_expr.specs.declared.expr.Test.TheVariants.{Any, Equals, Differs}

-- a test may stand in a condition alone
abbrev pub may_test : Bool → Test → Bool
may_test conditional Any = true
may_test false (Equals text) = false
may_test false (Differs text) = false
may_test true (Equals text) = is_test (Equals text)
may_test true (Differs text) = is_test (Differs text)

abbrev pub is_read : Bool → Condition → Bool
is_read conditional condition = is_expression condition.look && may_test conditional condition.test

-- the bytes are the text of some condition, or of some expression
abbrev pub IsText : Bool → List ℕ → Type 0
IsText conditional bytes = (c : Condition) × (IsTrue (is_read conditional c) × (condition_text c ≡ bytes))

-- it is the one condition with this text
pub record IsReading (conditional : Bool) (bytes : List ℕ) (c : Condition) : Type 0 where
  pub kind : IsTrue (is_read conditional c)
  pub text : condition_text c ≡ bytes
  pub only : (other : Condition) → IsTrue (is_read conditional other) → condition_text other ≡ bytes → c ≡ other
