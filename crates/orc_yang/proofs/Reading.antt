-- One turn of the loop over the characters of a text.
use Rattle.std.proofs.Common.{◌≡◌, ℕ, ◌+◌, ◌-◌, ◌*◌, ◌<◌, ◌≤◌, ◌==◌, Bool, true, false, cond, List, ◌∷◌, length, get_or, drop, Result, Ok, Err, refl, sym, ap, ◌∙◌, subst, arith, length-append, inl, inr}
use Rattle.std.specs.Char.{encode_utf8}
use Rattle.std.specs.Str.{chars, IsUtf8, encode_utf8_all}
use Rattle.std.proofs.lemmas.Str.{chars-encodes}
use Rattle.std.proofs.lemmas.List.{at_drop_more}
use Rattle.std.proofs.Math.Seq.{drop-length}
use Rattle.orc_yang.specs.declared.fault.YangFault.{YangFault}
use Rattle.orc_yang.specs.declared.fault.YangFault.TheVariants.{NotUtf8, BadToken, BadEscape, OpenString, OpenBlock, Depth, Memory}
use Rattle.orc_yang.specs.declared.statement.Stmt.{Stmt}
use Rattle.orc_yang.specs.declared.character.Character.{Character}
use Rattle.orc_yang.specs.Text.{placed, next_column}
use Rattle.orc_yang.specs.Machine.{Machine, Fed, run, feed, fed, finish}
use Rattle.orc_yang.specs.Sorts.{sort_of}
use Rattle.orc_yang.specs.Parsing.{FailsWith}
use Rattle.orc_yang.specs.inside.Wanting.{MayTake, RunMayTake}

-- what follows an index, from the item there on
next_is : (xs : List ℕ) (i x : ℕ) → i < length xs → x ≡ get_or xs i x → drop i xs ≡ x ∷ drop (i + 1) xs
next_is xs i x below is = at_drop_more (λ rest. rest) xs i x below ∙ ap (λ y. y ∷ drop (i + 1) xs) (sym is)

-- the character at n, where a text has come to this place and column
abbrev pub character : ℕ → ℕ → ℕ → ℕ → Character
character at len column c = record { code = c; at = at; last = at + len - 1; column = column }

-- a fault of a step is a fault of the whole
pub fails_on : (fault : YangFault) (answer : Fed) (next : Machine → Result (List Stmt) YangFault) → FailsWith answer fault → FailsWith (fed answer next) fault
fails_on Memory answer next h = tt
fails_on (NotUtf8 at) answer next h = ap (λ a. fed a next) h
fails_on (BadToken at) answer next h = ap (λ a. fed a next) h
fails_on (BadEscape at) answer next h = ap (λ a. fed a next) h
fails_on (OpenString at) answer next h = ap (λ a. fed a next) h
fails_on (OpenBlock at) answer next h = ap (λ a. fed a next) h
fails_on (Depth at) answer next h = ap (λ a. fed a next) h

module _ (cs : List ℕ) (n c at len column end : ℕ) (found : (n < length cs) × (c ≡ get_or cs n c)) (is : len ≡ length (encode_utf8 c)) where
  here : drop n cs ≡ c ∷ drop (n + 1) cs
  here = next_is cs n c found.0 found.1

  pub place_turn : (m : ℕ) → m ≡ n + 1 → at + length (encode_utf8_all (drop n cs)) ≡ end → (at + len) + length (encode_utf8_all (drop m cs)) ≡ end
  place_turn m q h =
      let e : length (encode_utf8_all (drop n cs)) ≡ length (encode_utf8 c) + length (encode_utf8_all (drop (n + 1) cs)) =
      ap (λ r. length (encode_utf8_all r)) here ∙ length-append (encode_utf8 c) (encode_utf8_all (drop (n + 1) cs)) in
      let e' : length (encode_utf8_all (drop m cs)) ≡ length (encode_utf8_all (drop (n + 1) cs)) = ap (λ r. length (encode_utf8_all (drop r cs))) q in
      omega arith

  one : (s : Machine) → run (placed at column (drop n cs)) s end ≡ fed (feed s (character at len column c)) (λ t. run (placed (at + len) (next_column c column) (drop (n + 1) cs)) t end)
  one s =
      let P : ℕ → Type 0 = λ m. run (placed at column (c ∷ drop (n + 1) cs)) s end ≡ fed (feed s (character at m column c)) (λ t. run (placed (at + m) (next_column c column) (drop (n + 1) cs)) t end) in
      ap (λ r. run (placed at column r) s end) here ∙ subst P (sym is) refl

  pub run_turn : (s t : Machine) (m : ℕ) (whole : Result (List Stmt) YangFault) → m ≡ n + 1 → run (placed at column (drop n cs)) s end ≡ whole → feed s (character at len column c) ≡ Ok t
      → run (placed (at + len) (next_column c column) (drop m cs)) t end ≡ whole
  run_turn s t m whole q h e =
      ap (λ r. run (placed (at + len) (next_column c column) (drop r cs)) t end) q
      ∙ (sym (one s ∙ ap (λ a. fed a (λ t. run (placed (at + len) (next_column c column) (drop (n + 1) cs)) t end)) e) ∙ h)

  pub fault_turn : (s : Machine) (fault : YangFault) (whole : Result (List Stmt) YangFault) → run (placed at column (drop n cs)) s end ≡ whole → FailsWith (feed s (character at len column c)) fault → FailsWith whole fault
  fault_turn s fault whole h f =
      let P : Result (List Stmt) YangFault → Type 0 = λ a. FailsWith a fault in
      subst P (sym (one s) ∙ h) (fails_on fault _ (λ t. run (placed (at + len) (next_column c column) (drop (n + 1) cs)) t end) f)

  -- a step that may take memory, and one after which some step may
  pub wants_here : (s : Machine) → MayTake s.work s.frames (sort_of c) → RunMayTake (placed at column (drop n cs)) s
  wants_here s h = let P : List ℕ → Type 0 = λ r. RunMayTake (placed at column r) s in subst P (sym here) (inl h)

  pub wants_turn : (s t : Machine) (m : ℕ) → m ≡ n + 1 → feed s (character at len column c) ≡ Ok t → RunMayTake (placed (at + len) (next_column c column) (drop m cs)) t → RunMayTake (placed at column (drop n cs)) s
  wants_turn s t m q e h =
      let P : List ℕ → Type 0 = λ r. RunMayTake (placed at column r) s in
      let Q : ℕ → Type 0 = λ l. feed s (character at l column c) ≡ Ok t → RunMayTake (placed (at + l) (next_column c column) (drop (n + 1) cs)) t → P (c ∷ drop (n + 1) cs) in
      let R : ℕ → Type 0 = λ l. RunMayTake (placed (at + len) (next_column c column) (drop l cs)) t in
      let here_on : Q (length (encode_utf8 c)) = λ e' h'. inr (t, e', h') in
      subst P (sym here) (subst Q (sym is) here_on e (subst R q h))

-- the fault that was handed on is the step's
pub wanted : {V : Type 0} (r : Result V YangFault) (e f : YangFault) → r ≡ Err e → e ≡ f → r ≡ Err Memory → f ≡ Memory
wanted r e f h h' q = cc

column_of : (b d : Bool) (column at len : ℕ) → column ≤ 8 * at + 1 → 1 ≤ len → cond b 1 (cond d (column + 8) (column + 1)) ≤ 8 * (at + len) + 1
column_of true d column at len h l = omega arith
column_of false true column at len h l = omega arith
column_of false false column at len h l = omega arith

pub next_column-le : (c column at len : ℕ) → column ≤ 8 * at + 1 → 1 ≤ len → next_column c column ≤ 8 * (at + len) + 1
next_column-le c column at len h l = column_of (c == 10) (c == 9) column at len h l

pub spelled : (bs : List ℕ) → IsUtf8 bs → encode_utf8_all (chars bs) ≡ bs
spelled bs u = ap (λ b. encode_utf8_all (chars b)) (sym u.1.1) ∙ (ap encode_utf8_all (chars-encodes u.0 u.1.0) ∙ u.1.1)

-- at the end of the text
pub at_end : (cs : List ℕ) (n at column end : ℕ) (s : Machine) (whole : Result (List Stmt) YangFault) → length cs ≡ n → run (placed at column (drop n cs)) s end ≡ whole → whole ≡ finish s end
at_end cs n at column end s whole q h =
    sym h ∙ ap (λ r. run (placed at column r) s end) (ap (λ m. drop m cs) (sym q) ∙ drop-length cs)
