-- Memory is taken only after white space and comments, where a keyword begins.
use Rattle.std.proofs.Common.{◌≡◌, ℕ, Bool, true, false, ◌⊎◌, inl, inr, List, [], ◌∷◌, Option, Some, None, Ok, refl, sym, ap, ◌∙◌, subst, arith}
use Rattle.orc_yang.specs.declared.character.Sort.{Sort}
use Rattle.orc_yang.specs.declared.character.Sort.TheVariants.{LineFeed, Blank, Slash, Star, Start, Forbidden}
use Rattle.orc_yang.specs.declared.character.Character.{Character}
use Rattle.orc_yang.specs.declared.fault.YangFault.{YangFault}
use Rattle.orc_yang.specs.declared.fault.YangFault.TheVariants.{BadToken, Memory}
use Rattle.orc_yang.specs.declared.statement.Stmt.{Stmt}
use Rattle.orc_yang.specs.Sorts.{sort_of}
use Rattle.orc_yang.specs.Grammar as grammar
use Rattle.orc_yang.specs.Grammar.{Is, Line, Comment, Piece}
use Rattle.orc_yang.specs.Machine as machine
use Rattle.orc_yang.specs.Machine.{Spot, Between, Work, Gap, Slashed, InLine, InBlock, BehindStar, Machine, feed, feed_work, start}
use Rattle.orc_yang.specs.inside.Wanting.{MayTake, RunMayTake}

-- white space and comments, and then the first character of a keyword
abbrev pub Ahead : List Character → Type 0
Ahead xs = (x : Character) × (rest : List Character) × grammar.Gap xs (x ∷ rest) × Is Start x

ahead : {xs ys : List Character} → Piece xs ys → Ahead ys → Ahead xs
ahead piece a = (a.0, a.1, grammar.Gap.more piece a.2, a.3)

-- a comment that is read to its end, white space and comments, and then the first character of a keyword
abbrev pub BehindLine : List Character → Type 0
BehindLine xs = (ys : List Character) × Line xs ys × Ahead ys

abbrev pub BehindComment : Bool → List Character → Type 0
BehindComment b xs = (ys : List Character) × Comment b xs ys × Ahead ys

-- the machine before the first keyword
module _ (done : List Stmt) where
  abbrev pub S : Work → Machine
  S w = record { work = w; done = done; frames = [] }

  -- what stands ahead of this work, where memory is wanted
  abbrev Stands : Work → List Character → Type 0
  Stands (Gap Between) xs = Ahead xs
  Stands (Slashed Between o) xs = (x : Character) → Is Slash x → Ahead (x ∷ xs)
  Stands (InLine Between) xs = BehindLine xs
  Stands (InBlock Between o None) xs = BehindComment false xs
  Stands (InBlock Between o (Some f)) xs = (f ≡ Memory → ⊥) → ⊥
  Stands (BehindStar Between o None) xs = BehindComment true xs
  Stands (BehindStar Between o (Some f)) xs = (f ≡ Memory → ⊥) → ⊥
  Stands _ xs = Unit {0}

  -- a step that may take memory, or one that goes on
  abbrev Turn : Work → Sort → Character → List Character → Type 0
  Turn w k x xs = MayTake w [] k ⊎ ((t : Machine) × (feed_work w k (S w) x ≡ Ok t) × RunMayTake xs t)

  turn : (w : Work) (k : Sort) (x : Character) (xs : List Character) → sort_of x.code ≡ k → RunMayTake (x ∷ xs) (S w) → Turn w k x xs
  turn w k x xs e h = let P : Sort → Type 0 = λ q. Turn w q x xs in subst P e h

  module _ (x : Character) (xs : List Character) (next : (w : Work) → RunMayTake xs (S w) → Stands w xs) where
    on : (w : Work) (t : Machine) → machine.go (S w) w ≡ Ok t → RunMayTake xs t → Stands w xs
    on w t e h = let q : S w ≡ t = cc in next w (subst (λ s. RunMayTake xs s) (sym q) h)

    at_gap : (k : Sort) → sort_of x.code ≡ k → Turn (Gap Between) k x xs → Ahead (x ∷ xs)
    at_gap k e (inl (inl q)) = (x, xs, grammar.Gap.none, e ∙ q)
    at_gap k e (inl (inr q)) = absurd (omega (arith, q))
    at_gap LineFeed e (inr (t, q, h)) = ahead (Piece.white (ap grammar.is_white e)) (on (Gap Between) t q h)
    at_gap Blank e (inr (t, q, h)) = ahead (Piece.white (ap grammar.is_white e)) (on (Gap Between) t q h)
    at_gap Slash e (inr (t, q, h)) = on (Slashed Between x.at) t q h x e
    at_gap Start e (inr r) = (x, xs, grammar.Gap.none, e)
    at_gap k e (inr (t, q, h)) = cc

    at_slash : (o : ℕ) (k : Sort) → sort_of x.code ≡ k → Turn (Slashed Between o) k x xs → (y : Character) → Is Slash y → Ahead (y ∷ x ∷ xs)
    at_slash o k e (inl r) y e' = absurd r
    at_slash o Slash e (inr (t, q, h)) y e' = let r = on (InLine Between) t q h in ahead (Piece.line e' e r.1) r.2
    at_slash o Star e (inr (t, q, h)) y e' = let r = on (InBlock Between o None) t q h in ahead (Piece.block e' e r.1) r.2
    at_slash o k e (inr (t, q, h)) y e' = cc

    in_line : (k : Sort) → sort_of x.code ≡ k → Turn (InLine Between) k x xs → BehindLine (x ∷ xs)
    in_line k e (inl r) = absurd r
    in_line LineFeed e (inr (t, q, h)) = (xs, Line.at_feed e, on (Gap Between) t q h)
    in_line Forbidden e (inr (t, q, h)) = cc
    in_line k e (inr (t, q, h)) = let r = on (InLine Between) t q h in (r.0, Line.more (ap grammar.in_line e) r.1, r.2)

    -- a fault in a comment waits, and no memory is wanted
    other : (at : ℕ) → BadToken at ≡ Memory → ⊥
    other at e = cc

    in_block : (o : ℕ) (p : Option YangFault) (k : Sort) → sort_of x.code ≡ k → Turn (InBlock Between o p) k x xs → Stands (InBlock Between o p) (x ∷ xs)
    in_block o p k e (inl r) = absurd r
    in_block o None Star e (inr (t, q, h)) = let r = on (BehindStar Between o None) t q h in (r.0, Comment.star e r.1, r.2)
    in_block o None Forbidden e (inr (t, q, h)) = absurd (on (InBlock Between o (Some (BadToken x.last))) t q h (other x.last))
    in_block o None k e (inr (t, q, h)) = let r = on (InBlock Between o None) t q h in (r.0, Comment.more (ap grammar.in_comment e) r.1, r.2)
    in_block o (Some f) Star e (inr (t, q, h)) = on (BehindStar Between o (Some f)) t q h
    in_block o (Some f) Forbidden e (inr (t, q, h)) = on (InBlock Between o (Some f)) t q h
    in_block o (Some f) k e (inr (t, q, h)) = on (InBlock Between o (Some f)) t q h

    at_star : (o : ℕ) (p : Option YangFault) (k : Sort) → sort_of x.code ≡ k → Turn (BehindStar Between o p) k x xs → Stands (BehindStar Between o p) (x ∷ xs)
    at_star o None k e (inl r) = cc
    at_star o (Some f) k e (inl r) = λ n. n (let q : f ≡ Memory = cc in q)
    at_star o None Slash e (inr (t, q, h)) = (xs, Comment.ends e, on (Gap Between) t q h)
    at_star o None Star e (inr (t, q, h)) = let r = on (BehindStar Between o None) t q h in (r.0, Comment.star e r.1, r.2)
    at_star o None Forbidden e (inr (t, q, h)) = absurd (on (InBlock Between o (Some (BadToken x.last))) t q h (other x.last))
    at_star o None k e (inr (t, q, h)) = let r = on (InBlock Between o None) t q h in (r.0, Comment.back (ap grammar.behind_star e) r.1, r.2)
    at_star o (Some f) Slash e (inr (t, q, h)) = cc
    at_star o (Some f) Star e (inr (t, q, h)) = on (BehindStar Between o (Some f)) t q h
    at_star o (Some f) Forbidden e (inr (t, q, h)) = on (InBlock Between o (Some f)) t q h
    at_star o (Some f) k e (inr (t, q, h)) = on (InBlock Between o (Some f)) t q h

    step : (w : Work) → Turn w (sort_of x.code) x xs → Stands w (x ∷ xs)
    step (Gap Between) h = at_gap (sort_of x.code) refl h
    step (Slashed Between o) h = at_slash o (sort_of x.code) refl h
    step (InLine Between) h = in_line (sort_of x.code) refl h
    step (InBlock Between o None) h = in_block o None (sort_of x.code) refl h
    step (InBlock Between o (Some f)) h = in_block o (Some f) (sort_of x.code) refl h
    step (BehindStar Between o None) h = at_star o None (sort_of x.code) refl h
    step (BehindStar Between o (Some f)) h = at_star o (Some f) (sort_of x.code) refl h
    step _ h = tt

  stands : (xs : List Character) (w : Work) → RunMayTake xs (S w) → Stands w xs
  stands [] w h = absurd h
  stands (x ∷ xs) w h = step x xs (λ v. stands xs v) w h

-- where memory is wanted, white space and comments stand before a keyword
pub keyword_ahead : (xs : List Character) → RunMayTake xs start → Ahead xs
keyword_ahead xs h = stands [] xs (Gap Between) h
