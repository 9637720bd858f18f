-- The rules of a line, tried in order, and what a reader of it answers.
use Rattle.std.specs.Prelude.{Bool, List, [], ◌∷◌, Option, Result, if◌then◌else◌, ℕ}
use Rattle.std.specs.declared.option.Option.TheVariants.{None, Some}
use Rattle.std.specs.declared.result.Result.TheVariants.{Ok, Err}
use Rattle.orc_decls.specs.declared.rule.Rule.{Rule}

-- the first rule of a list that is broken, else the answer
abbrev pub checked : {X : Type 0} → List (Bool × Rule) → Result X Rule → Result X Rule
checked [] answer = answer
checked (rule ∷ rules) answer = if rule.0 then Err rule.1 else checked rules answer

-- what follows, where there is a value; else the rule is broken
abbrev pub or_rule : {X Y : Type 0} → Option X → Rule → (X → Result Y Rule) → Result Y Rule
or_rule None rule next = Err rule
or_rule (Some value) rule next = next value

-- a value, or else the rule is broken
abbrev pub of_option : {X : Type 0} → Option X → Rule → Result X Rule
of_option found rule = or_rule found rule (λ value. Ok value)

-- what follows, where nothing is at fault so far
abbrev pub on_ok : {X Y E : Type 0} → Result X E → (X → Result Y E) → Result Y E
on_ok (Ok value) next = next value
on_ok (Err fault) next = Err fault

-- reading line by line

-- what goes on after the line of this number, unless it breaks a rule
abbrev pub on_line : {P X : Type 0} → ℕ → Result P Rule → (P → Result X (ℕ × Rule)) → Result X (ℕ × Rule)
on_line number (Ok value) next = next value
on_line number (Err rule) next = Err (number, rule)
