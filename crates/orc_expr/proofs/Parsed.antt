-- A reader in the middle of a text, and at its end.
use Rattle.std.proofs.Common.{◌≡◌, ℕ, zero, suc, ◌+◌, ◌<◌, Bool, true, List, [], ◌∷◌, ◌++◌, Some, None, length, take, refl, sym, ap, subst, ◌∙◌, arith, append_assoc, append-nil, length-append}
use Rattle.std.specs.Option.{option_and_then}
use Rattle.std.proofs.lemmas.List.{nil_from_length}
use Rattle.orc_path.specs.Texts.{CanBegin, IsBadAt}
use Rattle.orc_expr.specs.Expressions.{Condition, condition_text}
use Rattle.orc_expr.specs.inside.Grammar.{is_read, IsText, IsReading}
use Rattle.orc_expr.specs.inside.Reading.{Reading, feed, feed_all, start, whole, Fits, reading_text}
use Rattle.orc_expr.proofs.Grows.{Grown, grows_all}
use Rattle.orc_expr.proofs.Again.{feed_all-append, read_again}
use Rattle.orc_expr.proofs.Ends.{reading_begins, made_of}

pub start_fits : (conditional : Bool) → Fits (start conditional)
start_fits conditional = record { depth = refl; brackets = tt; parts = tt }

-- the reader stands after so many bytes, and before the rest
pub record Stands (conditional : Bool) (text : List ℕ) (at : ℕ) (rest : List ℕ) (r : Reading) : Type 0 where
  pub front : List ℕ
  pub cut : text ≡ front ++ rest
  pub len : length front ≡ at
  pub runs : feed_all (start conditional) front ≡ Some r
  pub built_with : Grown (start conditional) front r

pub stands_first : (conditional : Bool) (text : List ℕ) (r : Reading) → r ≡ start conditional → Stands conditional text 0 text r
stands_first conditional text r is =
    subst (Stands conditional text 0 text) (sym is)
    (record { front = []; cut = refl; len = refl; runs = refl; built_with = grows_all (start conditional) [] (start conditional) (start_fits conditional) refl })

some_same : (a b : Reading) → Some a ≡ Some b → a ≡ b
some_same a b h = cc

module _ (conditional : Bool) (text : List ℕ) (at : ℕ) (rest : List ℕ) (r : Reading) (here : Stands conditional text at rest r) where
  text_is : reading_text r ≡ here.front
  text_is = here.built_with.text

  pub fits : Fits r
  fits = here.built_with.fits

  -- it takes a character
  pub stands_next : (bytes after : List ℕ) (s : Reading) → rest ≡ bytes ++ after → feed_all r bytes ≡ Some s → Stands conditional text (at + length bytes) after s
  stands_next bytes after s next h =
      let runs : feed_all (start conditional) (here.front ++ bytes) ≡ Some s = feed_all-append (start conditional) here.front bytes r here.runs ∙ h in
      record {
        front = here.front ++ bytes;
        cut = here.cut ∙ ap (λ x. here.front ++ x) next ∙ sym (append_assoc here.front bytes after);
        len = length-append here.front bytes ∙ ap (λ n. n + length bytes) here.len;
        runs = runs;
        built_with = grows_all (start conditional) (here.front ++ bytes) s (start_fits conditional) runs;
      }

  -- what was read begins some text
  front_begins : CanBegin (IsText conditional) here.front
  front_begins =
      subst (CanBegin (IsText conditional)) text_is
      (subst (λ k. CanBegin (IsText k) (reading_text r)) here.built_with.kind (reading_begins r fits))

  -- no text begins with what was read and then a byte that is refused
  refused_begins : (b : ℕ) (more : List ℕ) → feed r b ≡ None → CanBegin (IsText conditional) (here.front ++ b ∷ more) → ⊥
  refused_begins b more never begins =
      let c = begins.1.0 in
      let again = read_again conditional c begins.1.1.0 in
      let runs : feed_all (start conditional) ((here.front ++ b ∷ more) ++ begins.0) ≡ Some again.end = ap (feed_all (start conditional)) (sym begins.1.1.1) ∙ again.reads in
      let behind : feed_all r (b ∷ (more ++ begins.0)) ≡ Some again.end =
      sym (feed_all-append (start conditional) here.front (b ∷ (more ++ begins.0)) r here.runs)
      ∙ ap (feed_all (start conditional)) (sym (append_assoc here.front (b ∷ more) begins.0)) ∙ runs in
      let none : None ≡ Some again.end = sym (ap (option_and_then (λ next. feed_all next (more ++ begins.0))) never) ∙ behind in
      let impossible : ⊥ = cc in impossible

  -- it refuses the next byte
  pub stands_refused : (b : ℕ) (after : List ℕ) → rest ≡ b ∷ after → feed r b ≡ None → IsBadAt (IsText conditional) text at
  stands_refused b after next never =
      let whole_is : text ≡ here.front ++ b ∷ after = here.cut ∙ ap (λ x. here.front ++ x) next in
      subst (λ x. IsBadAt (IsText conditional) x at) (sym whole_is) (record {
        within = omega (arith, here.len, length-append here.front (b ∷ after));
        begins = subst (CanBegin (IsText conditional)) (sym (cut_at at here.len)) front_begins;
        longest = λ len more in_text begins. longer len more begins;
        none = λ is. refused_begins b after never ([], subst (IsText conditional) (sym (append-nil (here.front ++ b ∷ after))) is);
      })
    where
      cut_at : (n : ℕ) → length here.front ≡ n → take n (here.front ++ b ∷ after) ≡ here.front
      cut_at n is = subst (λ m. take m (here.front ++ b ∷ after) ≡ here.front) is (take_front here.front (b ∷ after))
        where
          take_front : (xs ys : List ℕ) → take (length xs) (xs ++ ys) ≡ xs
          take_front [] ys = refl
          take_front (x ∷ xs) ys = ap (λ zs. x ∷ zs) (take_front xs ys)

      take_more : (xs ys : List ℕ) (len : ℕ) → length xs < len → (zs : List ℕ) × (take len (xs ++ b ∷ ys) ≡ xs ++ b ∷ zs)
      take_more [] ys zero lt = absurd (omega (arith, lt))
      take_more [] ys (suc n) lt = (take n ys, refl)
      take_more (x ∷ xs) ys zero lt = absurd (omega (arith, lt))
      take_more (x ∷ xs) ys (suc n) lt = let rec = take_more xs ys n (omega (arith, lt)) in (rec.0, ap (λ zs. x ∷ zs) rec.1)

      longer : (len : ℕ) → at < len → CanBegin (IsText conditional) (take len (here.front ++ b ∷ after)) → ⊥
      longer len more begins =
          let cut = take_more here.front after len (omega (arith, more, here.len)) in
          refused_begins b cut.0 never (subst (CanBegin (IsText conditional)) cut.1 begins)

-- it stands at the end of a text
module _ (conditional : Bool) (text : List ℕ) (at : ℕ) (rest : List ℕ) (r : Reading) (here : Stands conditional text at rest r) (end : length rest ≡ 0) where
  ended : text ≡ here.front
  ended = here.cut ∙ ap (λ x. here.front ++ x) (nil_from_length rest end) ∙ append-nil here.front

  runs_text : feed_all (start conditional) text ≡ Some r
  runs_text = ap (feed_all (start conditional)) ended ∙ here.runs

  -- each condition with this text is what was read
  read_whole : (c : Condition) → is_read conditional c ≡ true → condition_text c ≡ text → whole r ≡ Some c
  read_whole c kind is =
      let again = read_again conditional c kind in
      let same : again.end ≡ r = some_same again.end r (sym again.reads ∙ ap (feed_all (start conditional)) is ∙ runs_text) in
      sym (ap whole same) ∙ again.is_whole

  -- where its text may end, a condition was read
  pub stands_whole : (c : Condition) → whole r ≡ Some c → IsReading conditional text c
  stands_whole c is =
      let made = made_of r here.built_with.fits c is in
      record {
        kind = subst (λ k. is_read k c ≡ true) here.built_with.kind made.kind;
        text = made.text ∙ here.built_with.text ∙ sym ended;
        only = λ other kind text_is. let both : Some c ≡ Some other = sym is ∙ read_whole other kind text_is in cc;
      }

  -- and else none has this text
  pub stands_short : whole r ≡ None → IsBadAt (IsText conditional) text at
  stands_short never =
      let long : at ≡ length text = sym here.len ∙ ap (λ (xs : List ℕ). length xs) (sym ended) in
      record {
        within = omega (arith, long);
        begins = subst (CanBegin (IsText conditional)) (ended_cut at long) (front_begins conditional text at rest r here);
        longest = λ len more in_text begins. absurd (omega (arith, more, in_text, long));
        none = λ is. let no_such : None ≡ Some is.0 = sym never ∙ read_whole is.0 is.1.0 is.1.1 in let impossible : ⊥ = cc in impossible;
      }
    where
      take_whole : (xs : List ℕ) → take (length xs) xs ≡ xs
      take_whole [] = refl
      take_whole (x ∷ xs) = ap (λ zs. x ∷ zs) (take_whole xs)

      ended_cut : (n : ℕ) → n ≡ length text → here.front ≡ take n text
      ended_cut n long = sym ended ∙ sym (take_whole text) ∙ ap (λ m. take m text) (sym long)
