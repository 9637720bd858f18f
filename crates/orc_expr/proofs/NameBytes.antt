-- Names and the bytes that stand around them.
use Rattle.std.proofs.Common.{◌≡◌, ℕ, ◌==◌, Bool, true, false, cond, not, ◌&&◌, ◌||◌, List, [], ◌∷◌, ◌++◌, refl, sym, ap, ◌∙◌}
use Rattle.std.specs.List.{list_all}
use Rattle.std.proofs.lemmas.Bool.{and_parts, and_from, and_right, false≢true, eqb-true}
use Rattle.orc_path.specs.Alphabet.{is_name_start, is_name_byte, is_identifier, is_qualified, is_qualified_rest, is_node_name}

-- a byte at which a test fails is none at which it holds
pub other_byte : (test : ℕ → Bool) (k : ℕ) → test k ≡ false → (b : ℕ) → test b ≡ true → (b == k) ≡ false
other_byte test k fails b holds = at (b == k) refl
  where
    at : (t : Bool) → (b == k) ≡ t → (b == k) ≡ false
    at false e = e
    at true e = absurd (false≢true (sym fails ∙ ap test (sym (eqb-true b k e)) ∙ holds))

pub identifier_first : (b : ℕ) → is_name_start b ≡ true → is_identifier (b ∷ []) ≡ true
identifier_first b h = and_from _ _ h refl

all_push : (test : ℕ → Bool) (n : List ℕ) (b : ℕ) → list_all test n ≡ true → test b ≡ true → list_all test (n ++ b ∷ []) ≡ true
all_push test [] b h k = and_from _ _ k refl
all_push test (c ∷ n) b h k = let parts = and_parts _ _ h in and_from _ _ parts.0 (all_push test n b parts.1 k)

pub list_all-push : (test : ℕ → Bool) (n : List ℕ) (b : ℕ) → list_all test n ≡ true → test b ≡ true → list_all test (n ++ b ∷ []) ≡ true
list_all-push = all_push

-- a name goes on
pub identifier_more : (n : List ℕ) (b : ℕ) → is_identifier n ≡ true → is_name_byte b ≡ true → is_identifier (n ++ b ∷ []) ≡ true
identifier_more [] b h k = absurd (false≢true h)
identifier_more (c ∷ n) b h k = let parts = and_parts _ _ h in and_from _ _ parts.0 (all_push is_name_byte n b parts.1 k)

rest_more : (n : List ℕ) (b : ℕ) → is_qualified_rest n ≡ true → is_name_byte b ≡ true → is_qualified_rest (n ++ b ∷ []) ≡ true
rest_more [] b h k = absurd (false≢true h)
rest_more (c ∷ n) b h k = at (c == 58) (λ p. rest_more n b p k) h
  where
    at : (t : Bool) → (is_qualified_rest n ≡ true → is_qualified_rest (n ++ b ∷ []) ≡ true)
        → cond t (is_identifier n) (is_name_byte c && is_qualified_rest n) ≡ true
        → cond t (is_identifier (n ++ b ∷ [])) (is_name_byte c && is_qualified_rest (n ++ b ∷ [])) ≡ true
    at true more p = identifier_more n b p k
    at false more p = let parts = and_parts _ _ p in and_from _ _ parts.0 (more parts.1)

pub qualified_more : (n : List ℕ) (b : ℕ) → is_qualified n ≡ true → is_name_byte b ≡ true → is_qualified (n ++ b ∷ []) ≡ true
qualified_more [] b h k = absurd (false≢true h)
qualified_more (c ∷ n) b h k = let parts = and_parts _ _ h in and_from _ _ parts.0 (rest_more n b parts.1 k)

-- a colon and a first byte make a qualified name of an identifier
rest_colon : (n : List ℕ) (b : ℕ) → list_all is_name_byte n ≡ true → is_name_start b ≡ true → is_qualified_rest ((n ++ 58 ∷ []) ++ b ∷ []) ≡ true
rest_colon [] b h k = identifier_first b k
rest_colon (c ∷ n) b h k =
    let parts = and_parts _ _ h in
    ap (λ t. cond t (is_identifier ((n ++ 58 ∷ []) ++ b ∷ [])) (is_name_byte c && is_qualified_rest ((n ++ 58 ∷ []) ++ b ∷ []))) (other_byte is_name_byte 58 refl c parts.0)
    ∙ and_from _ _ parts.0 (rest_colon n b parts.1 k)

pub qualified_colon : (n : List ℕ) (b : ℕ) → is_identifier n ≡ true → is_name_start b ≡ true → is_qualified ((n ++ 58 ∷ []) ++ b ∷ []) ≡ true
qualified_colon [] b h k = absurd (false≢true h)
qualified_colon (c ∷ n) b h k = let parts = and_parts _ _ h in and_from _ _ parts.0 (rest_colon n b parts.1 k)

-- an identifier has no colon
bytes_not_qualified : (n : List ℕ) → list_all is_name_byte n ≡ true → is_qualified_rest n ≡ false
bytes_not_qualified [] h = refl
bytes_not_qualified (c ∷ n) h =
    let parts = and_parts _ _ h in
    ap (λ t. cond t (is_identifier n) (is_name_byte c && is_qualified_rest n)) (other_byte is_name_byte 58 refl c parts.0)
    ∙ and_right (is_name_byte c) _ (bytes_not_qualified n parts.1)

pub identifier_not_qualified : (n : List ℕ) → is_identifier n ≡ true → is_qualified n ≡ false
identifier_not_qualified [] h = refl
identifier_not_qualified (c ∷ n) h =
    let parts = and_parts _ _ h in and_right (is_name_start c) _ (bytes_not_qualified n parts.1)

-- a name that is no identifier is qualified
pub qualified_is_not_identifier : (n : List ℕ) → is_node_name n ≡ true → is_qualified n ≡ not (is_identifier n)
qualified_is_not_identifier n h = at (is_identifier n) refl h
  where
    at : (t : Bool) → is_identifier n ≡ t → (t || is_qualified n) ≡ true → is_qualified n ≡ not t
    at true e h = identifier_not_qualified n e
    at false e h = h
