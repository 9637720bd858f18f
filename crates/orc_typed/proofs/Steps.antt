-- What is said of steps, from the last one.
use Rattle.std.proofs.Common.{◌≡◌, ℕ, Bool, true, false, ◌&&◌, List, [], ◌∷◌, ◌++◌, refl, sym, ap, subst, ◌∙◌, append_assoc}
use Rattle.std.specs.Prelude.{Option, Some, None, option_map, option_and_then}
use Rattle.orc_path.specs.Steps.{PathStep}
use Rattle.orc_schema_nodes.specs.Schemas.{SchemaTable, path_names}
use Rattle.orc_typed.specs.Typed.{each_step, canonical_step, canonical_steps}

and_true : (b : Bool) → (b && true) ≡ b
and_true true = refl
and_true false = refl

and_behind : (a b c : Bool) → (a && (b && c)) ≡ ((a && b) && c)
and_behind true b c = refl
and_behind false b c = refl

-- the last step is looked at after all the others
pub each_step-push : (test : List (List ℕ) → PathStep → Bool) (above : List (List ℕ)) (front : List PathStep) (last : PathStep)
    → each_step test above (front ++ last ∷ []) ≡ (each_step test above front && test (above ++ path_names (front ++ last ∷ [])) last)
each_step-push test above [] last = and_true (test (above ++ last.node ∷ []) last)
each_step-push test above (step ∷ later) last =
    let names = above ++ step.node ∷ [] in
    ap (λ b. test names step && b) (each_step-push test names later last)
    ∙ and_behind (test names step) (each_step test names later) (test (names ++ path_names (later ++ last ∷ [])) last)
    ∙ ap (λ ns. (test names step && each_step test names later) && test ns last) (append_assoc above (step.node ∷ []) (path_names (later ++ last ∷ [])))

-- the first step goes before what stands before the last
swap : (first : Option PathStep) (between : Option (List PathStep)) (last : Option PathStep)
    → option_and_then (λ f. option_map (λ rest. f ∷ rest) (option_and_then (λ done. option_map (λ l. done ++ l ∷ []) last) between)) first
    ≡ option_and_then (λ done. option_map (λ l. done ++ l ∷ []) last) (option_and_then (λ f. option_map (λ rest. f ∷ rest) between) first)
swap None between last = refl
swap (Some f) None last = refl
swap (Some f) (Some done) None = refl
swap (Some f) (Some done) (Some l) = refl

alone : (last : Option PathStep)
    → option_and_then (λ f. option_map (λ rest. f ∷ rest) (Some [])) last ≡ option_map (λ l. [] ++ l ∷ []) last
alone None = refl
alone (Some l) = refl

pub canonical_steps-push : (s : SchemaTable) (above : List (List ℕ)) (front : List PathStep) (last : PathStep)
    → canonical_steps s above (front ++ last ∷ [])
    ≡ option_and_then (λ done. option_map (λ l. done ++ l ∷ []) (canonical_step s (above ++ path_names (front ++ last ∷ [])) last)) (canonical_steps s above front)
canonical_steps-push s above [] last = alone (canonical_step s (above ++ last.node ∷ []) last)
canonical_steps-push s above (step ∷ later) last =
    let names = above ++ step.node ∷ [] in
    let first = canonical_step s names step in
    ap (λ o. option_and_then (λ f. option_map (λ rest. f ∷ rest) o) first) (canonical_steps-push s names later last)
    ∙ swap first (canonical_steps s names later) (canonical_step s (names ++ path_names (later ++ last ∷ [])) last)
    ∙ ap (λ ns. option_and_then (λ done. option_map (λ l. done ++ l ∷ []) (canonical_step s ns last)) (option_and_then (λ f. option_map (λ rest. f ∷ rest) (canonical_steps s names later)) first)) (append_assoc above (step.node ∷ []) (path_names (later ++ last ∷ [])))

-- ---- the last step, by the code

module _ (test : List (List ℕ) → PathStep → Bool) (steps front : List PathStep) (last : PathStep) (is : steps ≡ front ++ last ∷ []) where
  whole : each_step test [] steps ≡ (each_step test [] front && test (path_names steps) last)
  whole = subst (λ xs. each_step test [] xs ≡ (each_step test [] front && test (path_names xs) last)) (sym is) (each_step-push test [] front last)

  pub then_last : (before at : Bool) → before ≡ each_step test [] front → before ≡ true → at ≡ test (path_names steps) last → at ≡ each_step test [] steps
  then_last before at front_is holds last_is = last_is ∙ sym (whole ∙ ap (λ t. t && test (path_names steps) last) (sym front_is ∙ holds))

  pub else_last : (before : Bool) → before ≡ each_step test [] front → before ≡ false → before ≡ each_step test [] steps
  else_last before front_is fails = fails ∙ sym (whole ∙ ap (λ t. t && test (path_names steps) last) (sym front_is ∙ fails))

module _ (s : SchemaTable) (steps front : List PathStep) (last : PathStep) (is : steps ≡ front ++ last ∷ []) where
  abbrev joined : Option (List PathStep) → Option PathStep → Option (List PathStep)
  joined before at = option_and_then (λ done. option_map (λ l. done ++ l ∷ []) at) before

  all_is : canonical_steps s [] steps ≡ joined (canonical_steps s [] front) (canonical_step s (path_names steps) last)
  all_is = subst (λ xs. canonical_steps s [] xs ≡ joined (canonical_steps s [] front) (canonical_step s (path_names xs) last)) (sym is) (canonical_steps-push s [] front last)

  pub each_found : (done all : List PathStep) (step : PathStep) → Some done ≡ canonical_steps s [] front → Some step ≡ canonical_step s (path_names steps) last
      → all ≡ done ++ step ∷ [] → Some all ≡ canonical_steps s [] steps
  each_found done all step front_is last_is pushed =
      ap Some pushed ∙ ap (λ o. joined (Some done) o) last_is ∙ ap (λ o. joined o (canonical_step s (path_names steps) last)) front_is ∙ sym all_is

  pub none_last : (done : List PathStep) → Some done ≡ canonical_steps s [] front → None ≡ canonical_step s (path_names steps) last
      → None ≡ canonical_steps s [] steps
  none_last done front_is last_is =
      ap (λ o. joined (Some done) o) last_is ∙ ap (λ o. joined o (canonical_step s (path_names steps) last)) front_is ∙ sym all_is

  pub none_before : None ≡ canonical_steps s [] front → None ≡ canonical_steps s [] steps
  none_before front_is = ap (λ o. joined o (canonical_step s (path_names steps) last)) front_is ∙ sym all_is
