-- What the texts of expressions and conditions are read as.
use Rattle.std.proofs.Common.{◌≡◌, ℕ, List, Option, Some, None, refl, sym, ap, ◌∙◌}
use Rattle.std.specs.Prelude.{IsTrue}
use Rattle.orc_expr.specs.Expressions.{Expression, Condition, is_expression, expression_text, is_condition, condition_text}
use Rattle.orc_expr.specs.Grammar.{IsExpressionText, IsConditionText}
use Rattle.orc_template.specs.inside.Machine.{the_readers}
use Rattle.orc_template.proofs.ReadBack.{readers_read}

pub expression_told : (e : Expression) (text : List ℕ) → IsTrue (is_expression e) → expression_text e ≡ text → Some e ≡ the_readers.expression text
expression_told e text kind is = sym (readers_read.expressions.again e kind) ∙ ap the_readers.expression is

pub no_expression : (text : List ℕ) → (IsExpressionText text → ⊥) → None ≡ the_readers.expression text
no_expression text none = on (the_readers.expression text) refl
  where
    on : (o : Option Expression) → the_readers.expression text ≡ o → None ≡ the_readers.expression text
    on None h = sym h
    on (Some e) h = absurd (none (e, readers_read.expressions.only text e h))

pub condition_told : (c : Condition) (text : List ℕ) → IsTrue (is_condition c) → condition_text c ≡ text → Some c ≡ the_readers.condition text
condition_told c text kind is = sym (readers_read.conditions.again c kind) ∙ ap the_readers.condition is

pub no_condition : (text : List ℕ) → (IsConditionText text → ⊥) → None ≡ the_readers.condition text
no_condition text none = on (the_readers.condition text) refl
  where
    on : (o : Option Condition) → the_readers.condition text ≡ o → None ≡ the_readers.condition text
    on None h = sym h
    on (Some c) h = absurd (none (c, readers_read.conditions.only text c h))
