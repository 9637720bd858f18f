-- Keys after others.
use Rattle.std.proofs.Common.{◌≡◌, ℕ, suc, ◌≤◌, ◌==◌, Bool, true, false, ◌&&◌, List, [], ◌∷◌, ◌++◌, length, map, refl, sym, ap, ◌∙◌, append_assoc, arith}
use Rattle.std.specs.Prelude.{Option, Some, None, option_map, option_and_then}
use Rattle.std.proofs.lemmas.Bool.{true≢false}
use Rattle.std.proofs.lemmas.Bool.Decides.{nat_tests}
use Rattle.orc_value.specs.declared.kind.Kind.{Kind}
use Rattle.orc_typed.specs.Typed.{canonical_text, canonical_keys, is_canonical_text, are_canonical_keys}

-- a text that was read, before the later ones
behind : (done : List (List ℕ)) (text : List ℕ) (later : Option (List (List ℕ)))
    → option_map (λ rest. (done ++ text ∷ []) ++ rest) later ≡ option_map (λ rest. done ++ rest) (option_map (λ rest. text ∷ rest) later)
behind done text None = refl
behind done text (Some rest) = ap Some (append_assoc done (text ∷ []) rest)

-- one key more was read
module _ (f : List ℕ → Option Kind) (names below : List (List ℕ)) (name : List ℕ) (keys later : List (List ℕ)) (key : List ℕ)
    (named : names ≡ name ∷ below) (keyed : keys ≡ key ∷ later) where
  cut : canonical_keys (map f names) keys ≡ canonical_keys (f name ∷ map f below) (key ∷ later)
  cut = ap (λ ns. canonical_keys (map f ns) keys) named ∙ ap (canonical_keys (f name ∷ map f below)) keyed

  abbrev after : Option (List ℕ) → Option (List (List ℕ))
  after text = option_and_then (λ t. option_map (λ ts. t ∷ ts) (canonical_keys (map f below) later)) text

  pub key_read : (done now : List (List ℕ)) (text : List ℕ) → Some text ≡ canonical_text (f name) key → now ≡ done ++ text ∷ []
      → option_map (λ rest. now ++ rest) (canonical_keys (map f below) later) ≡ option_map (λ rest. done ++ rest) (canonical_keys (map f names) keys)
  key_read done now text read pushed =
      ap (λ xs. option_map (λ rest. xs ++ rest) (canonical_keys (map f below) later)) pushed
      ∙ behind done text (canonical_keys (map f below) later)
      ∙ ap (λ o. option_map (λ rest. done ++ rest) (after o)) read
      ∙ ap (λ o. option_map (λ rest. done ++ rest) o) (sym cut)

-- keys where the step has none
pub no_kind : (keys : List (List ℕ)) → (length keys == 0) ≡ false → None ≡ canonical_keys [] keys
no_kind [] h = absurd (true≢false h)
no_kind (key ∷ later) h = refl

pub is_no_key : (keys : List (List ℕ)) → (length keys == 0) ≡ are_canonical_keys [] keys
is_no_key [] = refl
is_no_key (key ∷ later) = some (length later)
  where
    some : (n : ℕ) → (suc n == 0) ≡ false
    some n = grind (arith, nat_tests)

-- more keys than the one that the step has
pub one_alone : (kind : Option Kind) (keys : List (List ℕ)) → 2 ≤ length keys → None ≡ canonical_keys (kind ∷ []) keys
one_alone kind [] h = absurd (omega arith)
one_alone kind (key ∷ []) h = absurd (omega arith)
one_alone kind (key ∷ next ∷ later) h = by (canonical_text kind key)
  where
    by : (first : Option (List ℕ)) → None ≡ option_and_then (λ text. option_map (λ rest. text ∷ rest) None) first
    by None = refl
    by (Some text) = refl

pub one_alone-test : (kind : Option Kind) (keys : List (List ℕ)) → 2 ≤ length keys → false ≡ are_canonical_keys (kind ∷ []) keys
one_alone-test kind [] h = absurd (omega arith)
one_alone-test kind (key ∷ []) h = absurd (omega arith)
one_alone-test kind (key ∷ next ∷ later) h = by (is_canonical_text kind key)
  where
    by : (first : Bool) → false ≡ (first && false)
    by true = refl
    by false = refl
