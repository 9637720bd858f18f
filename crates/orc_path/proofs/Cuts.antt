-- The steps that the text of a path means.
use Rattle.std.proofs.Common.{◌≡◌, ℕ, Bool, true, false, ◌==◌, ◌&&◌, not, cond, nat_eq, List, [], ◌∷◌, ◌++◌, drop, refl, ap, ap₂, ◌∙◌, arith, append_assoc, append-nil}
use Rattle.std.specs.List.{flat_map, list_all}
use Rattle.std.specs.Cmp.Lexicographic.{pointwise}
use Rattle.std.proofs.lemmas.Bool.{and_parts, and_from, false≢true}
use Rattle.orc_path.specs.Alphabet.{is_name_byte, is_identifier, is_qualified, is_qualified_rest, is_key}
use Rattle.orc_path.specs.Steps.{PathStep, is_first_step, is_later_step, is_path}
use Rattle.orc_path.specs.Texts.{escape, key_text, step_text, path_text}
use Rattle.orc_path.specs.Reading.{InName, InKey, Escaped, blank_step, onto_name, onto_key, with_key, steps_of, steps_in}
use Rattle.orc_path.proofs.Parts.{start_is_name_byte}

-- Names have neither a slash nor a bracket

abbrev is_word_byte : ℕ → Bool
is_word_byte b = not (b == 47) && not (b == 91)

name_word : (b : ℕ) → is_name_byte b ≡ true → is_word_byte b ≡ true
name_word b h = grind arith

colon_word : (b : ℕ) → (b == 58) ≡ true → is_word_byte b ≡ true
colon_word b h = grind arith

name_words : (n : List ℕ) → list_all is_name_byte n ≡ true → list_all is_word_byte n ≡ true
name_words [] h = refl
name_words (b ∷ bs) h = let parts = and_parts _ _ h in and_from _ _ (name_word b parts.0) (name_words bs parts.1)

identifier_words : (n : List ℕ) → is_identifier n ≡ true → list_all is_word_byte n ≡ true
identifier_words [] h = absurd (false≢true h)
identifier_words (b ∷ bs) h = let parts = and_parts _ _ h in and_from _ _ (name_word b (start_is_name_byte b parts.0)) (name_words bs parts.1)

rest_words : (n : List ℕ) → is_qualified_rest n ≡ true → list_all is_word_byte n ≡ true
rest_words [] h = absurd (false≢true h)
rest_words (b ∷ bs) h = at (b == 58) refl (rest_words bs) h
  where
    at : (t : Bool) → (b == 58) ≡ t → (is_qualified_rest bs ≡ true → list_all is_word_byte bs ≡ true)
        → cond t (is_identifier bs) (is_name_byte b && is_qualified_rest bs) ≡ true → list_all is_word_byte (b ∷ bs) ≡ true
    at true e more k = and_from _ _ (colon_word b e) (identifier_words bs k)
    at false e more k = let parts = and_parts _ _ k in and_from _ _ (name_word b parts.0) (more parts.1)

qualified_words : (n : List ℕ) → is_qualified n ≡ true → list_all is_word_byte n ≡ true
qualified_words [] h = absurd (false≢true h)
qualified_words (b ∷ bs) h = let parts = and_parts _ _ h in and_from _ _ (name_word b (start_is_name_byte b parts.0)) (rest_words bs parts.1)

-- a name, put before the rest
name_front : (n xs m : List ℕ) (ks : List (List ℕ)) (ss : List PathStep) → list_all is_word_byte n ≡ true → steps_of InName xs ≡ record { node = m; keys = ks } ∷ ss
    → steps_of InName (n ++ xs) ≡ record { node = n ++ m; keys = ks } ∷ ss
name_front [] xs m ks ss h e = e
name_front (b ∷ n) xs m ks ss h e =
    let parts = and_parts _ _ h in
    word_step b parts.0 (blank_step ∷ steps_of InName (n ++ xs)) (steps_of InKey (n ++ xs)) (onto_name b (steps_of InName (n ++ xs)))
    ∙ ap (onto_name b) (name_front n xs m ks ss parts.1 e)
  where
    word_step : (b : ℕ) → is_word_byte b ≡ true → (x y z : List PathStep) → cond (b == 47) x (cond (b == 91) y z) ≡ z
    word_step b h x y z = grind arith

-- Keys

escape_front : (b : ℕ) (xs : List ℕ) → steps_of InKey (escape b ++ xs) ≡ onto_key b (steps_of InKey xs)
escape_front b xs = by (b == 92) refl (b == 93) refl (b == 32) refl (b == 9) refl (b == 10) refl (b == 13) refl
  where
    same : (n : ℕ) → (b == n) ≡ true → onto_key n (steps_of InKey xs) ≡ onto_key b (steps_of InKey xs)
    same n e = let is : n ≡ b = grind arith in ap (λ x. onto_key x (steps_of InKey xs)) is

    by : (t : Bool) → (b == 92) ≡ t → (u : Bool) → (b == 93) ≡ u → (v : Bool) → (b == 32) ≡ v → (w : Bool) → (b == 9) ≡ w → (x : Bool) → (b == 10) ≡ x → (y : Bool) → (b == 13) ≡ y
        → steps_of InKey (cond t (92 ∷ 92 ∷ []) (cond u (92 ∷ 93 ∷ []) (cond v (92 ∷ 115 ∷ []) (cond w (92 ∷ 116 ∷ []) (cond x (92 ∷ 110 ∷ []) (cond y (92 ∷ 114 ∷ []) (b ∷ [])))))) ++ xs) ≡ onto_key b (steps_of InKey xs)
    by true p u q v r w s x h y k = same 92 p
    by false p true q v r w s x h y k = same 93 q
    by false p false q true r w s x h y k = same 32 r
    by false p false q false r true s x h y k = same 9 s
    by false p false q false r false s true h y k = same 10 h
    by false p false q false r false s false h true k = same 13 k
    by false p false q false r false s false h false k =
        ap (λ t. cond t (with_key (steps_of InName xs)) (cond (b == 92) (steps_of Escaped xs) (onto_key b (steps_of InKey xs)))) q
        ∙ ap (λ t. cond t (steps_of Escaped xs) (onto_key b (steps_of InKey xs))) p

key_front : (k xs m : List ℕ) (ks : List (List ℕ)) (ss : List PathStep) → steps_of InName xs ≡ record { node = m; keys = ks } ∷ ss
    → steps_of InKey (flat_map escape k ++ 93 ∷ xs) ≡ record { node = m; keys = k ∷ ks } ∷ ss
key_front [] xs m ks ss e = ap with_key e
key_front (b ∷ k) xs m ks ss e =
    ap (steps_of InKey) (append_assoc (escape b) (flat_map escape k) (93 ∷ xs))
    ∙ escape_front b (flat_map escape k ++ 93 ∷ xs) ∙ ap (onto_key b) (key_front k xs m ks ss e)

keys_front : (more : List (List ℕ)) (xs m : List ℕ) (ks : List (List ℕ)) (ss : List PathStep) → steps_of InName xs ≡ record { node = m; keys = ks } ∷ ss
    → steps_of InName (flat_map key_text more ++ xs) ≡ record { node = m; keys = more ++ ks } ∷ ss
keys_front [] xs m ks ss e = e
keys_front (k ∷ more) xs m ks ss e =
    ap (λ x. steps_of InKey x) (append_assoc (flat_map escape k ++ 93 ∷ []) (flat_map key_text more) xs ∙ append_assoc (flat_map escape k) (93 ∷ []) (flat_map key_text more ++ xs))
    ∙ key_front k (flat_map key_text more ++ xs) m (more ++ ks) ss (keys_front more xs m ks ss e)

-- Steps

step_front : (s : PathStep) (xs : List ℕ) (ss : List PathStep) → list_all is_word_byte s.node ≡ true → steps_of InName xs ≡ blank_step ∷ ss
    → steps_of InName (step_text s ++ xs) ≡ blank_step ∷ s ∷ ss
step_front s xs ss h e =
    ap (λ x. blank_step ∷ steps_of InName x) (append_assoc s.node (flat_map key_text s.keys) xs)
    ∙ ap (λ x. blank_step ∷ x) (name_front s.node (flat_map key_text s.keys ++ xs) [] (s.keys ++ []) ss h (keys_front s.keys xs [] [] ss e)
    ∙ ap₂ (λ (n : List ℕ) (ks : List (List ℕ)). record { node = n; keys = ks } ∷ ss) (append-nil s.node) (append-nil s.keys))

later_front : (ss : List PathStep) → list_all is_later_step ss ≡ true → steps_of InName (flat_map step_text ss) ≡ blank_step ∷ ss
later_front [] h = refl
later_front (s ∷ ss) h =
    let parts = and_parts (is_later_step s) (list_all is_later_step ss) h in
    step_front s (flat_map step_text ss) ss (identifier_words s.node (and_parts (is_identifier s.node) (list_all is_key s.keys) parts.0).0) (later_front ss parts.1)

no_root : (n ks rest : List ℕ) → is_qualified n ≡ true → pointwise nat_eq (47 ∷ ((n ++ ks) ++ rest)) (47 ∷ []) ≡ false
no_root [] ks rest h = absurd (false≢true h)
no_root (b ∷ n) ks rest h = refl

-- the text of a path means its steps
pub steps_again : (p : List PathStep) → is_path p ≡ true → steps_in (path_text p) ≡ p
steps_again [] h = refl
steps_again (s ∷ ss) h =
    let parts = and_parts (is_first_step s) (list_all is_later_step ss) h in
    let node = (and_parts (is_qualified s.node) (list_all is_key s.keys) parts.0).0 in
    ap (λ t. cond t [] (drop 1 (steps_of InName (path_text (s ∷ ss))))) (no_root s.node (flat_map key_text s.keys) (flat_map step_text ss) node)
    ∙ ap (drop 1) (step_front s (flat_map step_text ss) ss (qualified_words s.node node) (later_front ss parts.1))
