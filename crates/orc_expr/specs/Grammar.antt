-- Which texts are expressions and conditions.
use Rattle.std.specs.Prelude.{◌≡◌, ℕ, List, IsTrue}
use Rattle.orc_path.specs.Texts.{IsBadAt}
use Rattle.orc_expr.specs.Expressions.{Expression, Condition, is_expression, expression_text, is_condition, condition_text}
use Rattle.orc_expr.specs.declared.expr.ExprFault.{ExprFault}
use Rattle.orc_expr.specs.declared.expr.ExprFault.TheVariants.{Bad, Memory}

-- the bytes are the text of some expression
abbrev pub IsExpressionText : List ℕ → Type 0
IsExpressionText bytes =
    (expression : Expression) × (IsTrue (is_expression expression) × (expression_text expression ≡ bytes))

-- the bytes are the text of some condition
abbrev pub IsConditionText : List ℕ → Type 0
IsConditionText bytes =
    (condition : Condition) × (IsTrue (is_condition condition) × (condition_text condition ≡ bytes))

-- the text is none of the kind, and the fault has the length of its longest prefix with which one begins; running out
-- of memory is free
abbrev pub IsExprFault : (List ℕ → Type 0) → List ℕ → ExprFault → Type 0
IsExprFault IsText bytes (Bad at) = IsBadAt IsText bytes at
IsExprFault IsText bytes Memory = Unit {0}
