-- What is read is spelled so: wherever the machine goes on to answer a list, the rest of the text is
-- what the grammar has there.
use Rattle.std.proofs.Common.{◌≡◌, ℕ, List, [], ◌∷◌, Ok, Err, refl, sym, ◌∙◌, subst, append-nil}
use Rattle.orc_yang.specs.declared.character.Sort.{Sort}
use Rattle.orc_yang.specs.declared.statement.Stmt.{Stmt}
use Rattle.orc_yang.specs.declared.character.Character.{Character}
use Rattle.orc_yang.specs.declared.parser.Frame.{Frame}
use Rattle.orc_yang.specs.Sorts.{sort_of}
use Rattle.orc_yang.specs.Grammar as grammar
use Rattle.orc_yang.specs.Grammar.{Is, Of, Line, Comment, Piece, Letters, Keyword, Word, Unquoted, Single, Double, Quoted, Joined, Heading, Statements}
use Rattle.orc_yang.specs.Machine as machine
use Rattle.orc_yang.specs.Machine.{Head, Spot, Between, Keyed, Worded, Strung, Joining, Work, Gap, Slashed, InLine, InBlock, BehindStar, InKeyword, BehindColon, InSecond, Lone, WordSlash, WordStar, InWord, InSingle, InDouble, BehindBackslash, Machine, Fed, run, feed, feed_work, fed, leaf, enter, framed, ended}
use Rattle.orc_yang.proofs.Rests.{Tail, RestGap, Rest, RestFed}
use Rattle.orc_yang.proofs.GapRests.{back_gap}
use Rattle.orc_yang.proofs.TokenRests.{back_slashed, back_line, back_block, back_star, back_first, back_second, back_colon, back_word, back_slash, back_starred, back_lone, back_single, back_double, back_backslash}

module _ (done : List Stmt) (frames : List Frame) (list : List Stmt) where
  abbrev S : Work → Machine
  S w = record { work = w; done = done; frames = frames }

  abbrev R : Work → List Character → Type 0
  R = Rest done frames list

  -- one step back
  back : (w : Work) (k : Sort) (x : Character) (xs : List Character) → Is k x → RestFed list xs (feed_work w k (S w) x) → R w (x ∷ xs)
  back (Gap spot) k x xs e r = back_gap done frames list spot k x xs e r
  back (Slashed spot o) k x xs e r = back_slashed done frames list k spot o x xs e r
  back (InLine spot) k x xs e r = back_line done frames list k spot x xs e r
  back (InBlock spot o p) k x xs e r = back_block done frames list k spot o p x xs e r
  back (BehindStar spot o p) k x xs e r = back_star done frames list k spot o p x xs e r
  back (InKeyword h) k x xs e r = back_first done frames list k h x xs e r
  back (BehindColon h) k x xs e r = back_colon done frames list k h x xs e r
  back (InSecond h) k x xs e r = back_second done frames list k h x xs e r
  back (Lone h a o) k x xs e r = back_lone done frames list k h a o x xs e r
  back (WordSlash h a) k x xs e r = back_slash done frames list k h a x xs e r
  back (WordStar h a) k x xs e r = back_starred done frames list k h a x xs e r
  back (InWord h a) k x xs e r = back_word done frames list grammar.Last.other k h a (InWord h a) x xs refl e r
  back (InSingle h a o p) k x xs e r = back_single done frames list k h a o p x xs e r
  back (InDouble h a o column raw p) k x xs e r = back_double done frames list k h a o column raw p x xs e r
  back (BehindBackslash h a o column raw p) k x xs e r = back_backslash done frames list h a o column raw p x xs r

-- at the end of the text
ends_between : (fs : List Frame) (done list : List Stmt) (end : ℕ) → machine.finish_between fs done end ≡ Ok list → Tail done fs list []
ends_between [] done list end e =
    let q : done ≡ list = cc in
    record { more = []; rest = []; body = Statements.none; closed = (refl, sym q ∙ sym (append-nil done)) }
ends_between (f ∷ fs) done list end e = cc

ends_gap : (spot : Spot) (s : Machine) (list : List Stmt) (end : ℕ) → machine.finish_gap spot s end ≡ Ok list → RestGap s.done s.frames list spot []
ends_gap Between s list end e = ends_between s.frames s.done list end e
ends_gap (Keyed h) s list end e = cc
ends_gap (Worded h a) s list end e = cc
ends_gap (Strung h a) s list end e = cc
ends_gap (Joining h a) s list end e = cc

ends : (w : Work) (s : Machine) (list : List Stmt) (end : ℕ) → machine.finish_work w s end ≡ Ok list → Rest s.done s.frames list w []
ends (Gap spot) s list end e = ends_gap spot s list end e
ends (InLine spot) s list end e = record { rest = []; line = Line.at_end; goes = ends_gap spot s list end e }
ends (Slashed spot o) s list end e = cc
ends (InBlock spot o p) s list end e = cc
ends (BehindStar spot o p) s list end e = cc
ends (InKeyword h) s list end e = cc
ends (BehindColon h) s list end e = cc
ends (InSecond h) s list end e = cc
ends (Lone h a o) s list end e = cc
ends (WordSlash h a) s list end e = cc
ends (WordStar h a) s list end e = cc
ends (InWord h a) s list end e = cc
ends (InSingle h a o p) s list end e = cc
ends (InDouble h a o column raw p) s list end e = cc
ends (BehindBackslash h a o column raw p) s list end e = cc

fed_back : (list : List Stmt) (xs : List Character) (end : ℕ) → ((s : Machine) → run xs s end ≡ Ok list → Rest s.done s.frames list s.work xs)
    → (answer : Fed) → fed answer (λ t. run xs t end) ≡ Ok list → RestFed list xs answer
fed_back list xs end all (Ok s) e = all s e
fed_back list xs end all (Err f) e = cc

-- wherever the machine goes on to answer a list, the rest is what the grammar has there
pub reads : (xs : List Character) (list : List Stmt) (end : ℕ) (s : Machine) → run xs s end ≡ Ok list → Rest s.done s.frames list s.work xs
reads [] list end s e = ends s.work s list end e
reads (x ∷ xs) list end s e =
    back s.done s.frames list s.work (sort_of x.code) x xs refl (fed_back list xs end (λ t. reads xs list end t) (feed s x) e)

whole : {list : List Stmt} {xs : List Character} → Tail [] [] list xs → Statements 0 xs list []
whole {list} {xs} t =
    let A : List Stmt → Type 0 = λ m. Statements 0 xs m [] in
    let B : List Character → Type 0 = λ r. Statements 0 xs t.more r in
    subst A (sym t.closed.1) (subst B t.closed.0 t.body)

-- what is read is spelled so
pub sound : (end : ℕ) {xs : List Character} {list : List Stmt} → run xs machine.start end ≡ Ok list → Statements 0 xs list []
sound end {xs} {list} e = whole (reads xs list end machine.start e)
