-- What takes texts back to expressions and conditions.
use Rattle.std.specs.Prelude.{◌≡◌, ℕ, Bool, List, Option, IsTrue}
use Rattle.std.specs.declared.option.Option.TheVariants.{Some}
use Rattle.orc_expr.specs.Expressions.{Expression, Condition, is_expression, expression_text, is_condition, condition_text}

-- what gives the expression, and the condition, that a text is the text of, where there is one
pub record Readers : Type 0 where
  pub expression : List ℕ → Option Expression
  pub condition : List ℕ → Option Condition

-- it gives what has this text, and nothing else
pub record ReadsBack {X : Type 0} (is : X → Bool) (text_of : X → List ℕ) (read : List ℕ → Option X) : Type 0 where
  pub again : (value : X) → IsTrue (is value) → read (text_of value) ≡ Some value
  pub only : (text : List ℕ) (value : X) → read text ≡ Some value → IsTrue (is value) × (text_of value ≡ text)

-- such readers there are, and each two give the same
pub record AreReaders (readers : Readers) : Type 0 where
  pub expressions : ReadsBack is_expression expression_text readers.expression
  pub conditions : ReadsBack is_condition condition_text readers.condition
