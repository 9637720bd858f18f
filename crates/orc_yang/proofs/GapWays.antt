-- White space and comments, as ways of the machine.
use Rattle.std.proofs.Common.{◌≡◌, ℕ, Bool, true, false, List, [], ◌∷◌, None, Result, refl, ap, ◌∙◌}
use Rattle.std.specs.Char.{encode_utf8}
use Rattle.std.proofs.lemmas.Bool.{false≢true}
use Rattle.orc_yang.specs.declared.character.Sort.{Sort}
use Rattle.orc_yang.specs.declared.character.Sort.TheVariants.{LineFeed, Blank, Slash, Star, Forbidden}
use Rattle.orc_yang.specs.declared.fault.YangFault.{YangFault}
use Rattle.orc_yang.specs.declared.statement.Stmt.{Stmt}
use Rattle.orc_yang.specs.declared.character.Character.{Character}
use Rattle.orc_yang.specs.declared.parser.Frame.{Frame}
use Rattle.orc_yang.specs.Sorts.{sort_of}
use Rattle.orc_yang.specs.Grammar as grammar
use Rattle.orc_yang.specs.Grammar.{Is, Of}
use Rattle.orc_yang.specs.Machine.{Spot, Between, Keyed, Worded, Strung, Joining, Work, Gap, Slashed, InLine, InBlock, BehindStar, Lone, Machine, run, feed_work, fed}

-- the answer from a state on
abbrev pub Answer : Type 0
Answer = Result (List Stmt) YangFault

module _ (done : List Stmt) (frames : List Frame) (end : ℕ) where
  abbrev pub at_work : Work → Machine
  at_work w = record { work = w; done = done; frames = frames }

  abbrev pub from : List Character → Work → Answer
  from xs w = run xs (at_work w) end

  -- one step, by the sort of the character
  abbrev pub onward : Sort → Work → Character → List Character → Answer
  onward k w x xs = fed (feed_work w k (at_work w) x) (λ t. run xs t end)

  pub step_is : (k : Sort) (w : Work) (x : Character) (xs : List Character) → Is k x → from (x ∷ xs) w ≡ onward k w x xs
  step_is k w x xs e = ap (λ q. onward q w x xs) e

  -- a comment to the end of the line
  on_line : (k : Sort) (spot : Spot) (x : Character) (xs : List Character) → grammar.in_line k ≡ true → onward k (InLine spot) x xs ≡ from xs (InLine spot)
  on_line LineFeed spot x xs h = absurd (false≢true h)
  on_line Forbidden spot x xs h = absurd (false≢true h)
  on_line _ spot x xs h = refl

  at_end_of_line : (spot : Spot) → from [] (InLine spot) ≡ from [] (Gap spot)
  at_end_of_line Between = refl
  at_end_of_line (Keyed h) = refl
  at_end_of_line (Worded h a) = refl
  at_end_of_line (Strung h a) = refl
  at_end_of_line (Joining h a) = refl

  pub line : (spot : Spot) {xs ys : List Character} → grammar.Line xs ys → from xs (InLine spot) ≡ from ys (Gap spot)
  line spot grammar.Line.at_end = at_end_of_line spot
  line spot (grammar.Line.at_feed {x} {xs} e) = step_is LineFeed (InLine spot) x xs e
  line spot (grammar.Line.more {x} {xs} {ys} e d) = on_line (sort_of x.code) spot x xs e ∙ line spot d

  -- a comment in `/*` and `*/`
  abbrev pub comment_work : Bool → Spot → ℕ → Work
  comment_work true spot o = BehindStar spot o None
  comment_work false spot o = InBlock spot o None

  on_star : (b : Bool) (spot : Spot) (o : ℕ) (x : Character) (xs : List Character) → onward Star (comment_work b spot o) x xs ≡ from xs (BehindStar spot o None)
  on_star true spot o x xs = refl
  on_star false spot o x xs = refl

  on_comment : (k : Sort) (spot : Spot) (o : ℕ) (x : Character) (xs : List Character) → grammar.in_comment k ≡ true → onward k (InBlock spot o None) x xs ≡ from xs (InBlock spot o None)
  on_comment Star spot o x xs h = absurd (false≢true h)
  on_comment Forbidden spot o x xs h = absurd (false≢true h)
  on_comment _ spot o x xs h = refl

  on_back : (k : Sort) (spot : Spot) (o : ℕ) (x : Character) (xs : List Character) → grammar.behind_star k ≡ true → onward k (BehindStar spot o None) x xs ≡ from xs (InBlock spot o None)
  on_back Slash spot o x xs h = absurd (false≢true h)
  on_back Star spot o x xs h = absurd (false≢true h)
  on_back Forbidden spot o x xs h = absurd (false≢true h)
  on_back _ spot o x xs h = refl

  pub comment : (b : Bool) (spot : Spot) (o : ℕ) {xs ys : List Character} → grammar.Comment b xs ys → from xs (comment_work b spot o) ≡ from ys (Gap spot)
  comment true spot o (grammar.Comment.ends {x} {xs} e) = step_is Slash (BehindStar spot o None) x xs e
  comment b spot o (grammar.Comment.star {x = x} {xs = xs} e d) = step_is Star (comment_work b spot o) x xs e ∙ (on_star b spot o x xs ∙ comment true spot o d)
  comment false spot o (grammar.Comment.more {x} {xs} e d) = on_comment (sort_of x.code) spot o x xs e ∙ comment false spot o d
  comment true spot o (grammar.Comment.back {x} {xs} e d) = on_back (sort_of x.code) spot o x xs e ∙ comment false spot o d

  -- white space and comments
  on_feed : (spot : Spot) (x : Character) (xs : List Character) → onward LineFeed (Gap spot) x xs ≡ from xs (Gap spot)
  on_feed Between x xs = refl
  on_feed (Keyed h) x xs = refl
  on_feed (Worded h a) x xs = refl
  on_feed (Strung h a) x xs = refl
  on_feed (Joining h a) x xs = refl

  on_blank : (spot : Spot) (x : Character) (xs : List Character) → onward Blank (Gap spot) x xs ≡ from xs (Gap spot)
  on_blank Between x xs = refl
  on_blank (Keyed h) x xs = refl
  on_blank (Worded h a) x xs = refl
  on_blank (Strung h a) x xs = refl
  on_blank (Joining h a) x xs = refl

  on_white : (k : Sort) (spot : Spot) (x : Character) (xs : List Character) → grammar.is_white k ≡ true → onward k (Gap spot) x xs ≡ from xs (Gap spot)
  on_white LineFeed spot x xs h = on_feed spot x xs
  on_white Blank spot x xs h = on_blank spot x xs
  on_white _ spot x xs h = absurd (false≢true h)

  slashes : (spot : Spot) (x y : Character) (xs : List Character) → Is Slash x → Is Slash y → from (x ∷ y ∷ xs) (Gap spot) ≡ from xs (InLine spot)
  slashes Between x y xs e e' = step_is Slash (Gap Between) x (y ∷ xs) e ∙ step_is Slash (Slashed Between x.at) y xs e'
  slashes (Keyed h) x y xs e e' = step_is Slash (Gap (Keyed h)) x (y ∷ xs) e ∙ step_is Slash (Lone h (encode_utf8 x.code) x.at) y xs e'
  slashes (Worded h a) x y xs e e' = step_is Slash (Gap (Worded h a)) x (y ∷ xs) e ∙ step_is Slash (Slashed (Worded h a) x.at) y xs e'
  slashes (Strung h a) x y xs e e' = step_is Slash (Gap (Strung h a)) x (y ∷ xs) e ∙ step_is Slash (Slashed (Strung h a) x.at) y xs e'
  slashes (Joining h a) x y xs e e' = step_is Slash (Gap (Joining h a)) x (y ∷ xs) e ∙ step_is Slash (Slashed (Joining h a) x.at) y xs e'

  opens : (spot : Spot) (x y : Character) (xs : List Character) → Is Slash x → Is Star y → from (x ∷ y ∷ xs) (Gap spot) ≡ from xs (InBlock spot x.at None)
  opens Between x y xs e e' = step_is Slash (Gap Between) x (y ∷ xs) e ∙ step_is Star (Slashed Between x.at) y xs e'
  opens (Keyed h) x y xs e e' = step_is Slash (Gap (Keyed h)) x (y ∷ xs) e ∙ step_is Star (Lone h (encode_utf8 x.code) x.at) y xs e'
  opens (Worded h a) x y xs e e' = step_is Slash (Gap (Worded h a)) x (y ∷ xs) e ∙ step_is Star (Slashed (Worded h a) x.at) y xs e'
  opens (Strung h a) x y xs e e' = step_is Slash (Gap (Strung h a)) x (y ∷ xs) e ∙ step_is Star (Slashed (Strung h a) x.at) y xs e'
  opens (Joining h a) x y xs e e' = step_is Slash (Gap (Joining h a)) x (y ∷ xs) e ∙ step_is Star (Slashed (Joining h a) x.at) y xs e'

  pub piece : (spot : Spot) {xs ys : List Character} → grammar.Piece xs ys → from xs (Gap spot) ≡ from ys (Gap spot)
  piece spot (grammar.Piece.white {x} {xs} e) = on_white (sort_of x.code) spot x xs e
  piece spot (grammar.Piece.line {x} {y} {xs} e e' d) = slashes spot x y xs e e' ∙ line spot d
  piece spot (grammar.Piece.block {x} {y} {xs} e e' d) = opens spot x y xs e e' ∙ comment false spot x.at d

  pub gap : (spot : Spot) {xs ys : List Character} → grammar.Gap xs ys → from xs (Gap spot) ≡ from ys (Gap spot)
  gap spot grammar.Gap.none = refl
  gap spot (grammar.Gap.more p d) = piece spot p ∙ gap spot d
