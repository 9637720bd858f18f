-- What an expression is, and its text.
use Rattle.std.specs.Prelude.{ℕ, zero, suc, Bool, true, false, not, ◌&&◌, ◌==◌, List, [], ◌++◌, codes}
use Rattle.std.specs.List.{list_all}
use Rattle.orc_path.specs.Alphabet.{is_identifier, is_qualified}
use Rattle.orc_expr.specs.declared.expr.Test.{Test}
use Rattle.orc_expr.specs.declared.expr.Test.TheVariants.{Any, Equals, Differs}

-- An expression, or a term of a predicate.
--     Here                  the context
--     FromRoot name         the top node of this name, which has its module
--     FromContext ups name  the node of this name below the node `ups` steps above the context
--     Below front name      the node of this name below those of `front`
--     Where front key term  those entries among the nodes of `front` whose key `key` has the text of the term
--     Quoted text           a text, as a term alone
pub data Expression : Type 0 where
  Here : Expression
  FromRoot : List ℕ → Expression
  FromContext : ℕ → List ℕ → Expression
  Below : Expression → List ℕ → Expression
  Where : Expression → List ℕ → Expression → Expression
  Quoted : List ℕ → Expression

-- where an expression stands: before a further step or predicate, by itself, or in a predicate
pub data Role : Type 0 where
  Front : Role
  Whole : Role
  Term : Role

-- a text in quotes has neither ' nor }
abbrev pub is_quotable : List ℕ → Bool
is_quotable text = list_all (λ byte. not (byte == 39) && not (byte == 125)) text

-- the context stands alone or as a term, with nothing after it
abbrev pub is_here : Role → Bool
is_here Front = false
is_here Whole = true
is_here Term = true

-- a text in quotes stands as a term alone
abbrev pub is_term : Role → Bool
is_term Front = false
is_term Whole = false
is_term Term = true

-- the expression is one of this role
abbrev pub is_role : Role → Expression → Bool
is_role role Here = is_here role
is_role role (FromRoot name) = is_qualified name
is_role role (FromContext ups name) = is_identifier name
is_role role (Below front name) = is_role Front front && is_identifier name
is_role role (Where front key term) = is_role Front front && is_identifier key && is_role Term term
is_role role (Quoted text) = is_term role && is_quotable text

-- an expression by itself
abbrev pub is_expression : Expression → Bool
is_expression expression = is_role Whole expression

-- `../`, so many times
abbrev pub ups_text : ℕ → List ℕ
ups_text zero = []
ups_text (suc ups) = ups_text ups ++ codes "../"

abbrev pub expression_text : Expression → List ℕ
expression_text Here = codes "."
expression_text (FromRoot name) = codes "/" ++ name
expression_text (FromContext ups name) = ups_text ups ++ name
expression_text (Below front name) = expression_text front ++ codes "/" ++ name
expression_text (Where front key term) =
    expression_text front ++ codes "[" ++ key ++ codes "=" ++ expression_text term ++ codes "]"
expression_text (Quoted text) = codes "'" ++ text ++ codes "'"

-- a condition looks whether an expression gives a text at all, or exactly one that is a given text, or exactly one that
-- isn't
pub record Condition : Type 0 where
  pub look : Expression
  pub test : Test

abbrev pub is_test : Test → Bool
is_test Any = true
is_test (Equals text) = is_quotable text
is_test (Differs text) = is_quotable text

abbrev pub is_condition : Condition → Bool
is_condition condition = is_expression condition.look && is_test condition.test

abbrev pub test_text : Test → List ℕ
test_text Any = []
test_text (Equals text) = codes " = '" ++ text ++ codes "'"
test_text (Differs text) = codes " != '" ++ text ++ codes "'"

abbrev pub condition_text : Condition → List ℕ
condition_text condition = expression_text condition.look ++ test_text condition.test
