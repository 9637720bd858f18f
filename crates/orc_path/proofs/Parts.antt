-- Reading a name keeps what was read a part of a name.
use Rattle.std.proofs.Common.{◌≡◌, ℕ, Bool, true, false, ◌==◌, ◌&&◌, cond, List, [], ◌∷◌, ◌++◌, Some, None, Option, refl, sym, ap, subst, ◌∙◌, arith}
use Rattle.std.proofs.lemmas.Bool.{and_from}
use Rattle.std.specs.List.{list_all}
use Rattle.std.specs.Cmp.{first_so, second_so}
use Rattle.std.proofs.lemmas.List.Folds.{list_all-append}
use Rattle.orc_path.specs.Alphabet.{is_name_start, is_name_byte, is_identifier, is_qualified, is_qualified_rest}
use Rattle.orc_path.specs.Steps.{PathStep, is_name_behind}
use Rattle.orc_path.specs.inside.Reading.{name_mode, IsNamePart}
use Rattle.orc_path.specs.declared.mode.Mode.{Mode}
use Rattle.orc_path.specs.declared.mode.Mode.TheVariants.{Start, Slash, Module, Colon, Inside, Next, Key, Escape, Closed}

-- what a choice gave
pub chosen : {A : Type 0} (P : A → Type 0) (t : Bool) (x y : A) (o : Option A) → cond t (Some x) o ≡ Some y → (t ≡ true → P x) → (t ≡ false → o ≡ Some y → P y) → P y
chosen P true x y o e h k = let same : x ≡ y = cc in subst P same (h refl)
chosen P false x y o e h k = k refl e

pub none_given : {A : Type 0} (P : Type 0) (y : A) → None ≡ Some y → P
none_given P y e = let no : ⊥ = cc in absurd no

pub taken : {A : Type 0} (P : A → Type 0) (t : Bool) (x y : A) → cond t (Some x) None ≡ Some y → (t ≡ true → P x) → P y
taken P t x y e h = chosen P t x y None e h (λ f k. none_given (P y) y k)

pub list_all_more : {X : Type 0} (p : X → Bool) (xs : List X) (x : X) → list_all p xs ≡ true → p x ≡ true → list_all p (xs ++ x ∷ []) ≡ true
list_all_more p xs x h k = list_all-append p xs (x ∷ []) ∙ and_from _ _ h (and_from _ _ k refl)

pub no_colon : (b : ℕ) → is_name_byte b ≡ true → (b == 58) ≡ false
no_colon b h = grind arith

pub start_is_name_byte : (b : ℕ) → is_name_start b ≡ true → is_name_byte b ≡ true
start_is_name_byte b h = grind arith

identifier_more : (n : List ℕ) (b : ℕ) → is_identifier n ≡ true → is_name_byte b ≡ true → is_identifier (n ++ b ∷ []) ≡ true
identifier_more [] b h k = let no : ⊥ = cc in absurd no
identifier_more (c ∷ cs) b h k = and_from _ _ (first_so _ _ h) (list_all_more is_name_byte cs b (second_so _ _ h) k)

rest_more_at : (t : Bool) (c : ℕ) (cs : List ℕ) (b : ℕ) → (is_qualified_rest cs ≡ true → is_qualified_rest (cs ++ b ∷ []) ≡ true) → cond t (is_identifier cs) (is_name_byte c && is_qualified_rest cs) ≡ true → is_name_byte b ≡ true
    → cond t (is_identifier (cs ++ b ∷ [])) (is_name_byte c && is_qualified_rest (cs ++ b ∷ [])) ≡ true
rest_more_at true c cs b more h k = identifier_more cs b h k
rest_more_at false c cs b more h k = and_from _ _ (first_so _ _ h) (more (second_so _ _ h))

rest_more : (n : List ℕ) (b : ℕ) → is_qualified_rest n ≡ true → is_name_byte b ≡ true → is_qualified_rest (n ++ b ∷ []) ≡ true
rest_more [] b h k = let no : ⊥ = cc in absurd no
rest_more (c ∷ cs) b h k = rest_more_at (c == 58) c cs b (λ r. rest_more cs b r k) h k

qualified_more : (n : List ℕ) (b : ℕ) → is_qualified n ≡ true → is_name_byte b ≡ true → is_qualified (n ++ b ∷ []) ≡ true
qualified_more [] b h k = let no : ⊥ = cc in absurd no
qualified_more (c ∷ cs) b h k = and_from _ _ (first_so _ _ h) (rest_more cs b (second_so _ _ h) k)

rest_colon : (n : List ℕ) (b : ℕ) → list_all is_name_byte n ≡ true → is_name_start b ≡ true → is_qualified_rest ((n ++ 58 ∷ []) ++ b ∷ []) ≡ true
rest_colon [] b h k = and_from _ _ k refl
rest_colon (c ∷ cs) b h k =
    ap (λ t. cond t (is_identifier ((cs ++ 58 ∷ []) ++ b ∷ [])) (is_name_byte c && is_qualified_rest ((cs ++ 58 ∷ []) ++ b ∷ []))) (no_colon c (first_so _ _ h))
    ∙ and_from _ _ (first_so _ _ h) (rest_colon cs b (second_so _ _ h) k)

identifier_colon : (n : List ℕ) (b : ℕ) → is_identifier n ≡ true → is_name_start b ≡ true → is_qualified ((n ++ 58 ∷ []) ++ b ∷ []) ≡ true
identifier_colon [] b h k = let no : ⊥ = cc in absurd no
identifier_colon (c ∷ cs) b h k = and_from _ _ (first_so _ _ h) (rest_colon cs b (second_so _ _ h) k)

behind_more : (done : List PathStep) (n : List ℕ) (b : ℕ) → is_name_behind done n ≡ true → is_name_byte b ≡ true → is_name_behind done (n ++ b ∷ []) ≡ true
behind_more [] n b h k = qualified_more n b h k
behind_more (s ∷ ss) n b h k = identifier_more n b h k

-- a byte of a name goes on with it
pub name_step : (done : List PathStep) (m m' : Mode) (n : List ℕ) (b : ℕ) → IsNamePart done m n → name_mode m b ≡ Some m' → IsNamePart done m' (n ++ b ∷ [])
name_step done Slash m' n b f e = taken (λ p. IsNamePart done p (n ++ b ∷ [])) (is_name_start b) Module m' e (λ k. (f.0, ap (λ x. is_identifier (x ++ b ∷ [])) f.1 ∙ and_from _ _ k refl))
name_step done Module m' n b f e =
    chosen (λ p. IsNamePart done p (n ++ b ∷ [])) (b == 58) Colon m' _ e
    (λ k. (f.0, λ c start. identifier_colon_at n b c k f.1 start))
    (λ k g. taken (λ p. IsNamePart done p (n ++ b ∷ [])) (is_name_byte b) Module m' g (λ t. (f.0, identifier_more n b f.1 t)))
  where
    identifier_colon_at : (n : List ℕ) (b c : ℕ) → (b == 58) ≡ true → is_identifier n ≡ true → is_name_start c ≡ true → is_qualified ((n ++ b ∷ []) ++ c ∷ []) ≡ true
    identifier_colon_at n b c k h start = let e : b ≡ 58 = grind arith in subst (λ x. is_qualified ((n ++ x ∷ []) ++ c ∷ []) ≡ true) (sym e) (identifier_colon n c h start)
name_step done Colon m' n b f e =
    taken (λ p. IsNamePart done p (n ++ b ∷ [])) (is_name_start b) Inside m' e (λ k. subst (λ d. is_name_behind d (n ++ b ∷ []) ≡ true) (sym f.0) (f.1 b k))
name_step done Inside m' n b f e = taken (λ p. IsNamePart done p (n ++ b ∷ [])) (is_name_byte b) Inside m' e (λ k. behind_more done n b f k)
name_step done Next m' n b f e =
    taken (λ p. IsNamePart done p (n ++ b ∷ [])) (is_name_start b) Inside m' e (λ k. subst (λ x. is_name_behind done (x ++ b ∷ []) ≡ true) (sym f.1) (f.0 (b ∷ []) (and_from _ _ k refl)))
name_step done Start m' n b f e = absurd f
name_step done Key m' n b f e = absurd f
name_step done Escape m' n b f e = absurd f
name_step done Closed m' n b f e = absurd f
