-- The readers that go byte by byte read back, and all readers that do are one.
use Rattle.std.proofs.Common.{◌≡◌, ℕ, true, false, ◌&&◌, Bool, List, [], ◌++◌, Option, Some, None, length, refl, sym, ap, subst, ◌∙◌, append-nil}
use Rattle.std.specs.Option.{option_map, option_and_then}
use Rattle.std.proofs.lemmas.Bool.{and_parts, and_from, false≢true}
use Rattle.orc_expr.specs.Expressions.{Expression, Condition, is_expression, expression_text, is_test, is_condition, condition_text, test_text}
use Rattle.orc_expr.specs.inside.Grammar.{may_test, is_read, IsReading}
use Rattle.orc_expr.specs.inside.Reading.{Reading, feed_all, start, whole}
use Rattle.orc_expr.specs.declared.expr.Test.{Test}
use Rattle.orc_expr.specs.declared.expr.Test.TheVariants.{Any, Equals, Differs}
use Rattle.orc_expr.proofs.Again.{read_again}
use Rattle.orc_expr.proofs.Grows.{grows_all}
use Rattle.orc_expr.proofs.Parsed.{start_fits, stands_whole}
use Rattle.orc_template.specs.Readers.{Readers, ReadsBack, AreReaders}
use Rattle.orc_template.specs.inside.Machine.{read_text, the_readers}

-- what was written is read
written_is_read : (conditional : Bool) (c : Condition) → is_read conditional c ≡ true → read_text conditional (condition_text c) ≡ Some c
written_is_read conditional c kind =
    let again = read_again conditional c kind in
    ap (option_and_then whole) again.reads ∙ again.is_whole

-- what is read was written so
read_is_written : (conditional : Bool) (text : List ℕ) (c : Condition) → read_text conditional text ≡ Some c → IsReading conditional text c
read_is_written conditional text c h = on (feed_all (start conditional) text) refl h
  where
    on : (o : Option Reading) → feed_all (start conditional) text ≡ o → option_and_then whole o ≡ Some c → IsReading conditional text c
    on None runs is = let never : ⊥ = cc in absurd never
    on (Some r) runs is =
        stands_whole conditional text (length text) [] r
        (record { front = text; cut = sym (append-nil text); len = refl; runs = runs; built_with = grows_all (start conditional) text r (start_fits conditional) runs })
        refl c is

-- without a test the text is the expression's
no_test : (test : Test) → may_test false test ≡ true → test_text test ≡ []
no_test Any h = refl
no_test (Equals text) h = absurd (false≢true h)
no_test (Differs text) h = absurd (false≢true h)

tested : (test : Test) → may_test true test ≡ is_test test
tested Any = refl
tested (Equals text) = refl
tested (Differs text) = refl

abbrev alone : Expression → Condition
alone e = record { look = e; test = Any }

look_is : (o : Option Condition) (e : Expression) → option_map (λ (c : Condition). c.look) o ≡ Some e → (c : Condition) × (o ≡ Some c) × (c.look ≡ e)
look_is None e h = let never : ⊥ = cc in absurd never
look_is (Some c) e h = (c, refl, (let same : c.look ≡ e = cc in same))

expressions : ReadsBack is_expression expression_text (λ text. option_map (λ (c : Condition). c.look) (read_text false text))
expressions = record {
  again = λ e kind. ap (option_map (λ (c : Condition). c.look))
      (ap (read_text false) (sym (append-nil (expression_text e))) ∙ written_is_read false (alone e) (and_from _ _ kind refl));
  only = λ text e h.
      let found = look_is (read_text false text) e h in
      let is = read_is_written false text found.0 found.1 in
      let plain = ap (λ x. expression_text found.0.look ++ x) (no_test found.0.test (and_parts _ _ is.kind).1) ∙ append-nil (expression_text found.0.look) in
      subst (λ (x : Expression). (is_expression x ≡ true) × (expression_text x ≡ text)) found.2 ((and_parts _ _ is.kind).0, sym plain ∙ is.text);
}

conditions : ReadsBack is_condition condition_text (read_text true)
conditions = record {
  again = λ c kind. written_is_read true c (ap (λ t. is_expression c.look && t) (tested c.test) ∙ kind);
  only = λ text c h.
      let is = read_is_written true text c h in
      (sym (ap (λ t. is_expression c.look && t) (tested c.test)) ∙ is.kind, is.text);
}

-- the readers read back
pub readers_read : AreReaders the_readers
unfolding the_readers
readers_read = record { expressions = expressions; conditions = conditions }

module _ {X : Type 0} (is : X → Bool) (text_of : X → List ℕ) (one other : List ℕ → Option X) (first : ReadsBack is text_of one) (second : ReadsBack is text_of other) where
  pub same_read : (text : List ℕ) → one text ≡ other text
  same_read text = on (one text) (other text) refl refl
    where
      given_again : (x : X) → one text ≡ Some x → other text ≡ Some x
      given_again x h = let w = first.only text x h in ap other (sym w.1) ∙ second.again x w.0

      on : (o p : Option X) → one text ≡ o → other text ≡ p → one text ≡ other text
      on (Some x) p h k = h ∙ sym (given_again x h)
      on None None h k = h ∙ sym k
      on None (Some x) h k =
          let w = second.only text x k in
          let found : one text ≡ Some x = ap one (sym w.1) ∙ first.again x w.0 in
          let never : ⊥ = cc in absurd never

module _ (one other : Readers) (first : AreReaders one) (second : AreReaders other) where
  pub expressions_same : (text : List ℕ) → one.expression text ≡ other.expression text
  expressions_same = same_read is_expression expression_text one.expression other.expression first.expressions second.expressions

  pub conditions_same : (text : List ℕ) → one.condition text ≡ other.condition text
  conditions_same = same_read is_condition condition_text one.condition other.condition first.conditions second.conditions

  pub readers_same : one ≡ other
  readers_same i = record { expression = λ text. expressions_same text i; condition = λ text. conditions_same text i }
