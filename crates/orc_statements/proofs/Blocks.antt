-- What is read below a statement, one level opened, and the first fault of a block from a place on.
use Rattle.std.proofs.Common.{◌≡◌, refl, sym, ◌∙◌, ap, subst, List, [], ◌∷◌, ◌++◌, map, ℕ, suc, ◌+◌, ◌<◌, length, get_or, arith}
use Rattle.std.specs.Prelude.{take, drop, Option, Some, None, Result, Err, true, false, cond}
use Rattle.orc_statements.specs.declared.fault.SchemaFault.TheVariants.{Unsupported, Unknown, Duplicate, BadArgument, NoKey, Loop, Memory}
use Rattle.orc_statements.specs.Meeting.{Meets}
use Rattle.std.specs.Option.{option_or}
use Rattle.std.proofs.Math.Seq.{take-suc}
use Rattle.std.proofs.lemmas.List.{drop_more}
use Rattle.orc_yang.specs.declared.statement.Stmt.{Stmt}
use Rattle.orc_yang.specs.declared.statement.Stmt.TheViews.{out-Stmt, roll-out-Stmt}
use Rattle.orc_yang.specs.declared.statement.Stmt.TheFolds.{para-roll-Stmt}
use Rattle.orc_modules.specs.declared.word.Word.{Word}
use Rattle.orc_statements.specs.declared.fault.SchemaFault.{SchemaFault}
use Rattle.orc_types.specs.Statements.{subs}
use Rattle.orc_modules.specs.Statements.{Place, word, places_below, below_step, places_in, read_at, is_read, module_places}
use Rattle.orc_statements.specs.Faults.{first_some}

abbrev pub with_below : Stmt → Stmt × (List Stmt → List Place)
with_below t = (t, places_below t)

pub below_is : (s : Stmt) (above : List Stmt) → places_below s above ≡ places_in (word s) above [] (map with_below (subs s))
below_is s above = ap (λ t. places_below t above) (sym (roll-out-Stmt s)) ∙ ap (λ f. f above) (para-roll-Stmt (List Stmt → List Place) below_step (out-Stmt s))

pub first_some-append : {X Y : Type 0} (f : X → Option Y) (xs ys : List X) → first_some f (xs ++ ys) ≡ option_or (first_some f xs) (first_some f ys)
first_some-append f [] ys = refl
first_some-append f (x ∷ xs) ys = on (f x) (first_some-append f xs ys)
  where
    on : (o : Option _) → first_some f (xs ++ ys) ≡ option_or (first_some f xs) (first_some f ys) → option_or o (first_some f (xs ++ ys)) ≡ option_or (option_or o (first_some f xs)) (first_some f ys)
    on None rest = rest
    on (Some y) rest = refl

pub first_some-step : {X Y : Type 0} (f : X → Option Y) (xs : List X) (i : ℕ) (x : X) → i < length xs → get_or xs i x ≡ x
    → first_some f (drop i xs) ≡ option_or (f x) (first_some f (drop (i + 1) xs))
first_some-step f xs i x below is = ap (first_some f) (drop_more xs i x below) ∙ ap (λ y. first_some f (y ∷ drop (i + 1) xs)) is

-- a block from a place on
abbrev pub rest : Word → List Stmt → List Stmt → ℕ → List Place
rest parent above block i = places_in parent above (take i block) (map with_below (drop i block))

pub rest-step : (parent : Word) (above block : List Stmt) (i : ℕ) (d : Stmt) → i < length block
    → rest parent above block i ≡ read_at parent above (take i block) (get_or block i d) (places_below (get_or block i d) (get_or block i d ∷ above)) ++ rest parent above block (i + 1)
rest-step parent above block i d below = ap (λ r. places_in parent above (take i block) (map with_below r)) (drop_more block i d below)
    ∙ ap (λ b. read_at parent above (take i block) (get_or block i d) (places_below (get_or block i d) (get_or block i d ∷ above)) ++ places_in parent above b (map with_below (drop (i + 1) block)))
    (sym (let e : i + 1 ≡ suc i = omega arith in ap (λ n. take n block) e ∙ take-suc block i d below))

pub rest-at : (parent : Word) (above block : List Stmt) (i : ℕ) (x : Stmt) → i < length block → get_or block i x ≡ x
    → rest parent above block i ≡ read_at parent above (take i block) x (places_below x (x ∷ above)) ++ rest parent above block (i + 1)
rest-at parent above block i x below is = subst (λ y. rest parent above block i ≡ read_at parent above (take i block) y (places_below y (y ∷ above)) ++ rest parent above block (i + 1)) is (rest-step parent above block i x below)

-- what is due first is due
pub Meets-or : (due rest : Option SchemaFault) (f : SchemaFault) → Meets due (Err f) → Meets (option_or due rest) (Err f)
Meets-or due rest (Unsupported keyword) h = ap (λ o. option_or o rest) h
Meets-or due rest (Unknown name) h = ap (λ o. option_or o rest) h
Meets-or due rest (Duplicate name) h = ap (λ o. option_or o rest) h
Meets-or due rest (BadArgument keyword) h = ap (λ o. option_or o rest) h
Meets-or due rest (NoKey list) h = ap (λ o. option_or o rest) h
Meets-or due rest (Loop name) h = ap (λ o. option_or o rest) h
Meets-or due rest Memory h = h

pub Meets-is : (due other : Option SchemaFault) (r : Result (Unit {0}) SchemaFault) → other ≡ due → Meets due r → Meets other r
Meets-is due other r is h = subst (λ o. Meets o r) (sym is) h

module _ (F : Place → Option SchemaFault) (parent : Word) (above block : List Stmt) (i : ℕ) (x : Stmt) (below : i < length block) (is : get_or block i x ≡ x) where
  abbrev left : ℕ → Option SchemaFault
  left n = first_some F (rest parent above block n)

  abbrev at : Place
  at = record { above = above; before = take i block; here = x }

  abbrev under : Option SchemaFault
  under = first_some F (places_below x (x ∷ above))

  pub left-read : is_read parent x ≡ true → left i ≡ option_or (option_or (F at) under) (left (i + 1))
  left-read read = ap (first_some F) (rest-at parent above block i x below is)
      ∙ first_some-append F (read_at parent above (take i block) x (places_below x (x ∷ above))) (rest parent above block (i + 1))
      ∙ ap (λ r. option_or (first_some F (cond r (at ∷ places_below x (x ∷ above)) [])) (left (i + 1))) read

  pub left-unread : is_read parent x ≡ false → left i ≡ left (i + 1)
  left-unread unread = ap (first_some F) (rest-at parent above block i x below is)
      ∙ first_some-append F (read_at parent above (take i block) x (places_below x (x ∷ above))) (rest parent above block (i + 1))
      ∙ ap (λ r. option_or (first_some F (cond r (at ∷ places_below x (x ∷ above)) [])) (left (i + 1))) unread

  pub left-past : is_read parent x ≡ true → F at ≡ None → under ≡ None → left i ≡ left (i + 1)
  left-past read here_none under_none = left-read read ∙ ap (λ o. option_or (option_or o under) (left (i + 1))) here_none ∙ ap (λ o. option_or o (left (i + 1))) under_none

  pub left-under : is_read parent x ≡ true → F at ≡ None → left i ≡ option_or under (left (i + 1))
  left-under read here_none = left-read read ∙ ap (λ o. option_or (option_or o under) (left (i + 1))) here_none

  pub fails-under : is_read parent x ≡ true → F at ≡ None → (whole : Option SchemaFault) → whole ≡ left i → (f : SchemaFault) → Meets under (Err f) → Meets whole (Err f)
  fails-under read here_none whole is_left f h = Meets-is (option_or under (left (i + 1))) whole (Err f) (is_left ∙ left-under read here_none) (Meets-or under (left (i + 1)) f h)

pub block_begins : (s : Stmt) (above : List Stmt) (parent : Word) (block : List Stmt) → parent ≡ word s → block ≡ subs s → places_below s above ≡ rest parent above block 0
block_begins s above parent block is_parent is_block = below_is s above ∙ ap (λ w. places_in w above [] (map with_below (subs s))) (sym is_parent) ∙ ap (λ b. places_in parent above [] (map with_below b)) (sym is_block)

module _ (F : Place → Option SchemaFault) (all : List Stmt) (i : ℕ) (x : Stmt) (below : i < length all) (is : get_or all i x ≡ x) where
  abbrev of_modules : ℕ → Option SchemaFault
  of_modules n = first_some F (module_places (take n all) (drop n all))

  abbrev module_at : Place
  module_at = record { above = []; before = take i all; here = x }

  abbrev in_it : Option SchemaFault
  in_it = first_some F (places_below x (x ∷ []))

  opened : drop i all ≡ x ∷ drop (i + 1) all
  opened = drop_more all i x below ∙ ap (λ y. y ∷ drop (i + 1) all) is

  grown : take i all ++ x ∷ [] ≡ take (i + 1) all
  grown = ap (λ y. take i all ++ y ∷ []) (sym is) ∙ sym (let e : i + 1 ≡ suc i = omega arith in ap (λ n. take n all) e ∙ take-suc all i x below)

  pub modules-step : of_modules i ≡ option_or (option_or (F module_at) in_it) (of_modules (i + 1))
  modules-step = ap (λ r. first_some F (module_places (take i all) r)) opened
      ∙ first_some-append F (module_at ∷ places_below x (x ∷ [])) (module_places (take i all ++ x ∷ []) (drop (i + 1) all))
      ∙ ap (λ b. option_or (option_or (F module_at) in_it) (first_some F (module_places b (drop (i + 1) all)))) grown

  pub modules-past : F module_at ≡ None → in_it ≡ None → of_modules i ≡ of_modules (i + 1)
  modules-past here_none under_none = modules-step ∙ ap (λ o. option_or (option_or o in_it) (of_modules (i + 1))) here_none ∙ ap (λ o. option_or o (of_modules (i + 1))) under_none

  pub modules-fail : F module_at ≡ None → (whole : Option SchemaFault) → whole ≡ of_modules i → (f : SchemaFault) → Meets in_it (Err f) → Meets whole (Err f)
  modules-fail here_none whole is_left f h = Meets-is (option_or in_it (of_modules (i + 1))) whole (Err f)
      (is_left ∙ modules-step ∙ ap (λ o. option_or (option_or o in_it) (of_modules (i + 1))) here_none) (Meets-or in_it (of_modules (i + 1)) f h)
