-- Expressions and conditions of one grammar.
use Rattle.std.proofs.Common.{◌≡◌, ℕ, true, false, ◌&&◌, List, [], ◌++◌, refl, sym, ap, ◌∙◌, append-nil}
use Rattle.std.proofs.lemmas.Bool.{and_parts, and_from, false≢true}
use Rattle.orc_expr.specs.Expressions.{Expression, Condition, is_expression, expression_text, is_test, is_condition, condition_text, test_text}
use Rattle.orc_expr.specs.Grammar.{IsExpressionText, IsConditionText, IsExprFault}
use Rattle.orc_expr.specs.inside.Grammar.{may_test, is_read, IsText, IsReading}
use Rattle.orc_expr.specs.declared.expr.ExprFault.{ExprFault}
use Rattle.orc_expr.specs.declared.expr.ExprFault.TheVariants.{Bad, Memory}
use Rattle.orc_expr.specs.declared.expr.Test.{Test}
use Rattle.orc_expr.specs.declared.expr.Test.TheVariants.{Any, Equals, Differs}

-- without a test the text is the expression's
no_test : (test : Test) → may_test false test ≡ true → test_text test ≡ []
no_test Any h = refl
no_test (Equals text) h = absurd (false≢true h)
no_test (Differs text) h = absurd (false≢true h)

alone : (c : Condition) → is_read false c ≡ true → condition_text c ≡ expression_text c.look
alone c h = ap (λ x. expression_text c.look ++ x) (no_test c.test (and_parts _ _ h).1) ∙ append-nil (expression_text c.look)

module _ (text : List ℕ) (c : Condition) (is : IsReading false text c) where
  pub expression_kind : is_expression c.look ≡ true
  expression_kind = (and_parts _ _ is.kind).0

  pub expression_is : expression_text c.look ≡ text
  expression_is = sym (alone c is.kind) ∙ is.text

  pub expression_only : (e : Expression) → is_expression e ≡ true → expression_text e ≡ text → c.look ≡ e
  expression_only e kind written =
      ap (λ (d : Condition). d.look) (is.only (record { look = e; test = Any }) (and_from _ _ kind refl) (append-nil (expression_text e) ∙ written))

tested : (test : Test) → may_test true test ≡ is_test test
tested Any = refl
tested (Equals text) = refl
tested (Differs text) = refl

kinds : (c : Condition) → is_read true c ≡ is_condition c
kinds c = ap (λ t. is_expression c.look && t) (tested c.test)

module _ (text : List ℕ) (c : Condition) (is : IsReading true text c) where
  pub condition_kind : is_condition c ≡ true
  condition_kind = sym (kinds c) ∙ is.kind

  pub condition_only : (d : Condition) → is_condition d ≡ true → condition_text d ≡ text → c ≡ d
  condition_only d kind written = is.only d (kinds d ∙ kind) written

module _ (P Q : List ℕ → Type 0) (to : (bytes : List ℕ) → P bytes → Q bytes) (from : (bytes : List ℕ) → Q bytes → P bytes) where
  fault_same : (text : List ℕ) (fault : ExprFault) → IsExprFault P text fault → IsExprFault Q text fault
  fault_same text Memory bad = tt
  fault_same text (Bad at) bad = record {
    within = bad.within;
    begins = (bad.begins.0, to _ bad.begins.1);
    longest = λ len more in_text begins. bad.longest len more in_text (begins.0, from _ begins.1);
    none = λ is. bad.none (from text is);
  }

expression_to : (bytes : List ℕ) → IsText false bytes → IsExpressionText bytes
expression_to bytes is = (is.0.look, ((and_parts _ _ is.1.0).0, sym (alone is.0 is.1.0) ∙ is.1.1))

expression_from : (bytes : List ℕ) → IsExpressionText bytes → IsText false bytes
expression_from bytes is = (record { look = is.0; test = Any }, (and_from _ _ is.1.0 refl, append-nil (expression_text is.0) ∙ is.1.1))

pub expression_fault : (text : List ℕ) (fault : ExprFault) → IsExprFault (IsText false) text fault → IsExprFault IsExpressionText text fault
expression_fault = fault_same (IsText false) IsExpressionText expression_to expression_from

condition_to : (bytes : List ℕ) → IsText true bytes → IsConditionText bytes
condition_to bytes is = (is.0, (sym (kinds is.0) ∙ is.1.0, is.1.1))

condition_from : (bytes : List ℕ) → IsConditionText bytes → IsText true bytes
condition_from bytes is = (is.0, (kinds is.0 ∙ is.1.0, is.1.1))

pub condition_fault : (text : List ℕ) (fault : ExprFault) → IsExprFault (IsText true) text fault → IsExprFault IsConditionText text fault
condition_fault = fault_same (IsText true) IsConditionText condition_to condition_from
