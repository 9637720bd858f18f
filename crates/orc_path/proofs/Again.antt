-- The text of a path or a name is read again.
use Rattle.std.proofs.Common.{◌≡◌, ℕ, Bool, true, false, ◌==◌, ◌&&◌, cond, List, [], ◌∷◌, ◌++◌, Some, None, Option, refl, sym, ap, ◌∙◌, arith, append_assoc, append-nil}
use Rattle.std.specs.List.{flat_map, list_all}
use Rattle.std.specs.Option.{option_and_then, option_map_or}
use Rattle.std.specs.Cmp.{first_so, second_so}
use Rattle.orc_path.specs.Alphabet.{is_name_byte, is_identifier, is_qualified, is_qualified_rest, is_key}
use Rattle.orc_path.specs.Steps.{PathStep, is_later_step, is_path}
use Rattle.orc_path.specs.Texts.{escape, key_text, step_text, path_text}
use Rattle.orc_path.specs.inside.Reading.{name_mode, is_key_byte, feed_mark, feed_all, at_start, whole}
use Rattle.orc_path.proofs.Runs.{name_modes, feed_all-append}
use Rattle.orc_path.specs.declared.mode.Mode.{Mode}
use Rattle.orc_path.specs.declared.mode.Mode.TheVariants.{Slash, Module, Colon, Inside, Next, Key, Closed}
use Rattle.orc_path.specs.declared.reader.Reader.{Reader}
use Rattle.orc_path.proofs.Parts.{no_colon}
use Rattle.orc_path.proofs.Plain.{key_bytes}

-- the path, where these bytes bring the reader to the end of one
abbrev pub path_behind : Reader → List ℕ → Option (List PathStep)
path_behind r xs = option_and_then whole (feed_all r xs)

abbrev pub reader_at : Mode → List PathStep → List ℕ → List (List ℕ) → List ℕ → Reader
reader_at m d n ks k = record { mode = m; done = d; node = n; keys = ks; key = k }

-- names

inside_again : (n : List ℕ) → list_all is_name_byte n ≡ true → name_modes Inside n ≡ Some Inside
inside_again [] h = refl
inside_again (b ∷ bs) h = ap (λ t. option_and_then (λ k. name_modes k bs) (cond t (Some Inside) None)) (first_so _ _ h) ∙ inside_again bs (second_so _ _ h)

module_again : (n : List ℕ) → list_all is_name_byte n ≡ true → name_modes Module n ≡ Some Module
module_again [] h = refl
module_again (b ∷ bs) h =
    ap (λ t. option_and_then (λ k. name_modes k bs) (cond t (Some Colon) (cond (is_name_byte b) (Some Module) None))) (no_colon b (first_so _ _ h))
    ∙ ap (λ t. option_and_then (λ k. name_modes k bs) (cond t (Some Module) None)) (first_so _ _ h)
    ∙ module_again bs (second_so _ _ h)

-- an identifier alone
pub identifier_again : (n : List ℕ) → is_identifier n ≡ true → name_modes Slash n ≡ Some Module
identifier_again [] h = let no : ⊥ = cc in absurd no
identifier_again (b ∷ bs) h = ap (λ t. option_and_then (λ k. name_modes k bs) (cond t (Some Module) None)) (first_so _ _ h) ∙ module_again bs (second_so _ _ h)

colon_again : (n : List ℕ) → is_identifier n ≡ true → name_modes Colon n ≡ Some Inside
colon_again [] h = let no : ⊥ = cc in absurd no
colon_again (b ∷ bs) h = ap (λ t. option_and_then (λ k. name_modes k bs) (cond t (Some Inside) None)) (first_so _ _ h) ∙ inside_again bs (second_so _ _ h)

later_again : (n : List ℕ) → is_identifier n ≡ true → name_modes Next n ≡ Some Inside
later_again [] h = let no : ⊥ = cc in absurd no
later_again (b ∷ bs) h = ap (λ t. option_and_then (λ k. name_modes k bs) (cond t (Some Inside) None)) (first_so _ _ h) ∙ inside_again bs (second_so _ _ h)

rest_again_at : (t : Bool) (b : ℕ) (bs : List ℕ) → (is_qualified_rest bs ≡ true → name_modes Module bs ≡ Some Inside) → cond t (is_identifier bs) (is_name_byte b && is_qualified_rest bs) ≡ true
    → option_and_then (λ k. name_modes k bs) (cond t (Some Colon) (cond (is_name_byte b) (Some Module) None)) ≡ Some Inside
rest_again_at true b bs more h = colon_again bs h
rest_again_at false b bs more h = ap (λ t. option_and_then (λ k. name_modes k bs) (cond t (Some Module) None)) (first_so _ _ h) ∙ more (second_so _ _ h)

rest_again : (n : List ℕ) → is_qualified_rest n ≡ true → name_modes Module n ≡ Some Inside
rest_again [] h = let no : ⊥ = cc in absurd no
rest_again (b ∷ bs) h = rest_again_at (b == 58) b bs (λ k. rest_again bs k) h

-- an identifier after a module's name
pub qualified_again : (n : List ℕ) → is_qualified n ≡ true → name_modes Slash n ≡ Some Inside
qualified_again [] h = let no : ⊥ = cc in absurd no
qualified_again (b ∷ bs) h = ap (λ t. option_and_then (λ k. name_modes k bs) (cond t (Some Module) None)) (first_so _ _ h) ∙ rest_again bs (second_so _ _ h)

names_by : (o : Option Mode) (d : List PathStep) (n : List ℕ) (m' : Mode) (b : ℕ) (bs : List ℕ) (other : Option Reader)
    → ((k : Mode) → name_modes k bs ≡ Some m' → feed_all (reader_at k d (n ++ b ∷ []) [] []) bs ≡ Some (reader_at m' d ((n ++ b ∷ []) ++ bs) [] []))
    → option_and_then (λ k. name_modes k bs) o ≡ Some m'
    → option_and_then (λ s. feed_all s bs) (option_map_or (λ k. Some (reader_at k d (n ++ b ∷ []) [] [])) o other) ≡ Some (reader_at m' d ((n ++ b ∷ []) ++ bs) [] [])
names_by None d n m' b bs other more e = let no : ⊥ = cc in absurd no
names_by (Some k) d n m' b bs other more e = more k e

names_again : (m m' : Mode) (d : List PathStep) (n xs : List ℕ) → name_modes m xs ≡ Some m' → feed_all (reader_at m d n [] []) xs ≡ Some (reader_at m' d (n ++ xs) [] [])
names_again m m' d n [] e = let same : m ≡ m' = cc in ap (λ k. Some (reader_at k d n [] [])) same ∙ ap (λ x. Some (reader_at m' d x [] [])) (sym (append-nil n))
names_again m m' d n (b ∷ bs) e =
    names_by (name_mode m b) d n m' b bs (feed_mark m (reader_at m d n [] []) b) (λ k h. names_again k m' d (n ++ b ∷ []) bs h) e
    ∙ ap (λ x. Some (reader_at m' d x [] [])) (append_assoc n (b ∷ []) bs)

-- keys

byte_again : (d : List PathStep) (n : List ℕ) (ks : List (List ℕ)) (k : List ℕ) (b : ℕ) → is_key_byte b ≡ true → feed_all (reader_at Key d n ks k) (escape b) ≡ Some (reader_at Key d n ks (k ++ b ∷ []))
byte_again d n ks k b h = grind arith

key_again : (d : List PathStep) (n : List ℕ) (ks : List (List ℕ)) (k more : List ℕ) → list_all is_key_byte more ≡ true → feed_all (reader_at Key d n ks k) (flat_map escape more) ≡ Some (reader_at Key d n ks (k ++ more))
key_again d n ks k [] h = ap (λ x. Some (reader_at Key d n ks x)) (sym (append-nil k))
key_again d n ks k (b ∷ more) h =
    feed_all-append (reader_at Key d n ks k) (escape b) (flat_map escape more)
    ∙ ap (option_and_then (λ s. feed_all s (flat_map escape more))) (byte_again d n ks k b (first_so _ _ h))
    ∙ key_again d n ks (k ++ b ∷ []) more (second_so _ _ h)
    ∙ ap (λ x. Some (reader_at Key d n ks x)) (append_assoc k (b ∷ []) more)

bracket_again : (d : List PathStep) (n : List ℕ) (ks : List (List ℕ)) (k : List ℕ) → is_key k ≡ true → feed_all (reader_at Key d n ks []) (flat_map escape k ++ 93 ∷ []) ≡ Some (reader_at Closed d n (ks ++ k ∷ []) [])
bracket_again d n ks k h =
    feed_all-append (reader_at Key d n ks []) (flat_map escape k) (93 ∷ [])
    ∙ ap (option_and_then (λ s. feed_all s (93 ∷ []))) (key_again d n ks [] k (key_bytes k h))

keys_again : (d : List PathStep) (n : List ℕ) (ks more : List (List ℕ)) → list_all is_key more ≡ true → feed_all (reader_at Closed d n ks []) (flat_map key_text more) ≡ Some (reader_at Closed d n (ks ++ more) [])
keys_again d n ks [] h = ap (λ x. Some (reader_at Closed d n x [])) (sym (append-nil ks))
keys_again d n ks (k ∷ more) h =
    feed_all-append (reader_at Key d n ks []) (flat_map escape k ++ 93 ∷ []) (flat_map key_text more)
    ∙ ap (option_and_then (λ s. feed_all s (flat_map key_text more))) (bracket_again d n ks k (first_so _ _ h))
    ∙ keys_again d n (ks ++ k ∷ []) more (second_so _ _ h)
    ∙ ap (λ x. Some (reader_at Closed d n x [])) (append_assoc ks (k ∷ []) more)

-- the mode after a name with these keys
abbrev mode_behind : List (List ℕ) → Mode
mode_behind [] = Inside
mode_behind (k ∷ ks) = Closed

first_keys_again : (d : List PathStep) (n : List ℕ) (ks : List (List ℕ)) → list_all is_key ks ≡ true → feed_all (reader_at Inside d n [] []) (flat_map key_text ks) ≡ Some (reader_at (mode_behind ks) d n ks [])
first_keys_again d n [] h = refl
first_keys_again d n (k ∷ more) h =
    feed_all-append (reader_at Key d n [] []) (flat_map escape k ++ 93 ∷ []) (flat_map key_text more)
    ∙ ap (option_and_then (λ s. feed_all s (flat_map key_text more))) (bracket_again d n [] k (first_so _ _ h))
    ∙ keys_again d n (k ∷ []) more (second_so _ _ h)

-- steps

node_again : (m : Mode) (d : List PathStep) (s : PathStep) → name_modes m s.node ≡ Some Inside → list_all is_key s.keys ≡ true
    → feed_all (reader_at m d [] [] []) (s.node ++ flat_map key_text s.keys) ≡ Some (reader_at (mode_behind s.keys) d s.node s.keys [])
node_again m d s h k =
    feed_all-append (reader_at m d [] [] []) s.node (flat_map key_text s.keys)
    ∙ ap (option_and_then (λ r. feed_all r (flat_map key_text s.keys))) (names_again m Inside d [] s.node h)
    ∙ first_keys_again d s.node s.keys k

slash_again : (d : List PathStep) (s : PathStep) (bs : List ℕ) → feed_all (reader_at (mode_behind s.keys) d s.node s.keys []) (47 ∷ bs) ≡ feed_all (reader_at Next (d ++ s ∷ []) [] [] []) bs
slash_again d s bs = slash_by s.node s.keys
  where
    slash_by : (n : List ℕ) (ks : List (List ℕ)) → feed_all (reader_at (mode_behind ks) d n ks []) (47 ∷ bs) ≡ feed_all (reader_at Next (d ++ record { node = n; keys = ks } ∷ []) [] [] []) bs
    slash_by n [] = refl
    slash_by n (k ∷ ks) = refl

end_again : (d : List PathStep) (s : PathStep) → whole (reader_at (mode_behind s.keys) d s.node s.keys []) ≡ Some (d ++ s ∷ [])
end_again d s = end_by s.node s.keys
  where
    end_by : (n : List ℕ) (ks : List (List ℕ)) → whole (reader_at (mode_behind ks) d n ks []) ≡ Some (d ++ record { node = n; keys = ks } ∷ [])
    end_by n [] = refl
    end_by n (k ∷ ks) = refl

steps_again : (d : List PathStep) (s : PathStep) (ss : List PathStep) → list_all is_later_step ss ≡ true
    → path_behind (reader_at (mode_behind s.keys) d s.node s.keys []) (flat_map step_text ss) ≡ Some (d ++ s ∷ ss)
steps_again d s [] h = end_again d s
steps_again d s (t ∷ ss) h =
    let step = first_so _ _ h in
    ap (option_and_then whole)
    (slash_again d s ((t.node ++ flat_map key_text t.keys) ++ flat_map step_text ss)
    ∙ feed_all-append (reader_at Next (d ++ s ∷ []) [] [] []) (t.node ++ flat_map key_text t.keys) (flat_map step_text ss)
    ∙ ap (option_and_then (λ r. feed_all r (flat_map step_text ss))) (node_again Next (d ++ s ∷ []) t (later_again t.node (first_so _ _ step)) (second_so _ _ step)))
    ∙ steps_again (d ++ s ∷ []) t ss (second_so _ _ h)
    ∙ ap Some (append_assoc d (s ∷ []) (t ∷ ss))

-- a path's text is read as that path
pub path_again : (p : List PathStep) → is_path p ≡ true → path_behind at_start (path_text p) ≡ Some p
path_again [] h = refl
path_again (s ∷ ss) h =
    let step = first_so _ _ h in
    ap (option_and_then whole)
    (feed_all-append (reader_at Slash [] [] [] []) (s.node ++ flat_map key_text s.keys) (flat_map step_text ss)
    ∙ ap (option_and_then (λ r. feed_all r (flat_map step_text ss))) (node_again Slash [] s (qualified_again s.node (first_so _ _ step)) (second_so _ _ step)))
    ∙ steps_again [] s ss (second_so _ _ h)
