-- One step back, from a character between the parts of a statement.
use Rattle.std.proofs.Common.{◌≡◌, ℕ, suc, Bool, true, false, nat_lt, List, [], ◌∷◌, ◌++◌, length, Option, Some, None, Ok, Err, refl, sym, ap, ◌∙◌, subst, cond, append_assoc, append-nil}
use Rattle.std.specs.Char.{encode_utf8}
use Rattle.orc_yang.specs.declared.character.Sort.{Sort}
use Rattle.orc_yang.specs.declared.character.Sort.TheVariants.{LineFeed, Blank, Semicolon, OpenBrace, CloseBrace, DoubleQuote, SingleQuote, Slash, Star, Plus, Start, Forbidden}
use Rattle.orc_yang.specs.declared.fault.YangFault.TheVariants.{Depth}
use Rattle.orc_yang.specs.declared.statement.Stmt.{Stmt}
use Rattle.orc_yang.specs.declared.character.Character.{Character}
use Rattle.orc_yang.specs.declared.parser.Frame.{Frame}
use Rattle.orc_yang.specs.Sorts.{sort_of}
use Rattle.orc_yang.specs.Statement.{statement}
use Rattle.orc_yang.specs.Quoted.{string_value}
use Rattle.orc_yang.specs.Grammar as grammar
use Rattle.orc_yang.specs.Grammar.{Is, Of, Line, Comment, Piece, Letters, Keyword, Word, Unquoted, Single, Double, Quoted, Joined, Heading, Statements}
use Rattle.orc_yang.specs.Machine as machine
use Rattle.orc_yang.specs.Machine.{Head, Spot, Between, Keyed, Worded, Strung, Joining, Work, Gap, Slashed, InLine, InBlock, BehindStar, InKeyword, BehindColon, InSecond, Lone, WordSlash, WordStar, InWord, InSingle, InDouble, BehindBackslash, Machine, Fed, run, feed, feed_work, fed, leaf, enter, framed, ended}
use Rattle.orc_yang.proofs.Rests.{Closed, Tail, Ending, Argued, Stringed, Plussed, AfterKey, KeyEnd, KeyFirst, InWordRest, SingleRest, DoubleRest, RestGap, Parted, Rest, RestFed}

module _ (done : List Stmt) (frames : List Frame) (list : List Stmt) where
  abbrev pub S : Work → Machine
  S w = record { work = w; done = done; frames = frames }

  abbrev pub R : Work → List Character → Type 0
  R = Rest done frames list

  abbrev pub End : Head → Option (List ℕ) → List Character → Type 0
  End = Ending done frames list

  -- `;` and `{` after a heading
  pub back_leaf : (h : Head) (a : Option (List ℕ)) (w : Work) {x : Character} {xs : List Character} → Is Semicolon x → RestFed list xs (leaf (S w) h a) → End h a (x ∷ xs)
  back_leaf h a w e r = Ending.semicolon e r

  deep : (b : Bool) (s : Machine) (x : Character) (xs : List Character) → RestFed list xs (cond b (Ok s) (Err (Depth x.at))) → (b ≡ true) × RestFed list xs (Ok s)
  deep true s x xs r = (refl, r)
  deep false s x xs r = absurd r

  pub back_enter : (h : Head) (a : Option (List ℕ)) (w : Work) {x : Character} {xs : List Character} → Is OpenBrace x → RestFed list xs (enter (S w) h a x) → End h a (x ∷ xs)
  back_enter h a w {x} {xs} e r =
      let d = deep (nat_lt (length frames) 32) (record { work = Gap Between; done = []; frames = framed (S w) h a ∷ frames }) x xs r in
      Ending.brace e d.0 d.1

  -- a piece of a gap before the rest
  tail_piece : {xs ys : List Character} → Piece xs ys → Tail done frames list ys → Tail done frames list xs
  tail_piece p t = record { more = t.more; rest = t.rest; body = Statements.gap p t.body; closed = t.closed }

  pub in_front : (spot : Spot) {xs ys : List Character} → Piece xs ys → RestGap done frames list spot ys → RestGap done frames list spot xs
  in_front Between p t = tail_piece p t
  in_front (Keyed h) p (AfterKey.bare g e) = AfterKey.bare (grammar.Gap.more p g) e
  in_front (Keyed h) p (AfterKey.word g d g' e) = AfterKey.word (grammar.Gap.more p g) d g' e
  in_front (Keyed h) p (AfterKey.strings g d g' e) = AfterKey.strings (grammar.Gap.more p g) d g' e
  in_front (Worded h a) p (Argued.argued g e) = Argued.argued (grammar.Gap.more p g) e
  in_front (Strung h a) p (Stringed.last g e) = Stringed.last (grammar.Gap.more p g) e
  in_front (Strung h a) p (Stringed.joined g q g' d g'' e) = Stringed.joined (grammar.Gap.more p g) q g' d g'' e
  in_front (Joining h a) p (Plussed.plussed g d g' e) = Plussed.plussed (grammar.Gap.more p g) d g' e

  pub white_is : (k : Sort) (x : Character) → Is k x → grammar.is_white k ≡ true → Of grammar.is_white x
  white_is k x e w = ap grammar.is_white e ∙ w

  before_white : (k : Sort) (spot : Spot) (x : Character) (xs : List Character) → Is k x → grammar.is_white k ≡ true → RestGap done frames list spot xs → RestGap done frames list spot (x ∷ xs)
  before_white k spot x xs e w r = in_front spot (Piece.white (white_is k x e w)) r

  -- a slash that must begin a comment
  before_slash : (spot : Spot) (x : Character) (xs : List Character) → Is Slash x → ((y : Character) → Is Slash y → Parted done frames list spot (y ∷ xs)) → RestGap done frames list spot (x ∷ xs)
  before_slash spot x xs e r = let q = r x e in in_front spot q.piece q.goes

  -- a closing brace
  back_close : (fs : List Frame) {x : Character} {xs : List Character} → Is CloseBrace x → RestFed list xs (machine.close fs (record { work = Gap Between; done = done; frames = fs }) x) → Tail done fs list (x ∷ xs)
  back_close [] e r = absurd r
  back_close (f ∷ fs) {x} {xs} e t =
      let C : List Stmt → Type 0 = λ d. Closed fs (ended f d ++ t.more) t.rest list in
      record { more = []; rest = x ∷ xs; body = Statements.none; closed = (x, xs, t.more, t.rest, refl, e, t.body, subst C (sym (append-nil done)) t.closed) }

  -- a statement before the rest
  tail_statement : {x : Character} {xs ys : List Character} {h : Head} {a : Option (List ℕ)} → h.at ≡ x.at → Heading (x ∷ xs) h.keyword a ys → End h a ys → Tail done frames list (x ∷ xs)
  tail_statement {x} {xs} {h = h} {a = a} q d (Ending.semicolon {e} {ys} is t) =
      let st : ℕ → Stmt = λ at. statement h.keyword a [] at in
      let C : List Stmt → Type 0 = λ m. Closed frames m t.rest list in
      let closed' : Closed frames (done ++ st x.at ∷ t.more) t.rest list =
      subst C (append_assoc done (st x.at ∷ []) t.more) (subst (λ (at : ℕ). Closed frames ((done ++ st at ∷ []) ++ t.more) t.rest list) q t.closed) in
      record { more = st x.at ∷ t.more; rest = t.rest; body = Statements.leaf d is t.body; closed = closed' }
  tail_statement {x} {xs} {h = h} {a = a} q d (Ending.brace {o} {ys} is deep' t) =
      let (c, zs, more, us, e, is', body, closed) = t.closed in
      let st : ℕ → Stmt = λ at. statement h.keyword a t.more at in
      let C : List Stmt → Type 0 = λ m. Closed frames m us list in
      let B : List Character → Type 0 = λ r. Statements (suc (length frames)) ys t.more r in
      let closed' : Closed frames (done ++ st x.at ∷ more) us list =
      subst C (append_assoc done (st x.at ∷ []) more) (subst (λ (at : ℕ). Closed frames ((done ++ st at ∷ []) ++ more) us list) q closed) in
      record { more = st x.at ∷ more; rest = us; body = Statements.block d is deep' (subst B e t.body) is' body; closed = closed' }

  headed : {x : Character} {xs ys : List Character} {h : Head} → h.at ≡ x.at → Keyword (x ∷ xs) h.keyword ys → KeyEnd done frames list h ys → Tail done frames list (x ∷ xs)
  headed q d (KeyEnd.bare g e) = tail_statement q (Heading.bare d g) e
  headed q d (KeyEnd.parted p (AfterKey.bare g e)) = tail_statement q (Heading.bare d (grammar.Gap.more p g)) e
  headed q d (KeyEnd.parted p (AfterKey.word g w g' e)) = tail_statement q (Heading.unquoted d p g w g') e
  headed q d (KeyEnd.parted p (AfterKey.strings g w g' e)) = tail_statement q (Heading.quoted d p g w g') e

  started : {x : Character} {xs : List Character} → Is Start x → KeyFirst done frames list (record { keyword = encode_utf8 x.code; at = x.at }) xs → Tail done frames list (x ∷ xs)
  started e (KeyFirst.plain d r) = headed refl (Keyword.plain e d) r
  started e (KeyFirst.prefixed d e' e'' d' r) = headed refl (Keyword.prefixed e d e' e'' d') r

  back_between : (k : Sort) (x : Character) (xs : List Character) → Is k x → RestFed list xs (machine.between k (S (Gap Between)) x) → R (Gap Between) (x ∷ xs)
  back_between LineFeed x xs e r = before_white LineFeed Between x xs e refl r
  back_between Blank x xs e r = before_white Blank Between x xs e refl r
  back_between Slash x xs e r = before_slash Between x xs e r
  back_between CloseBrace x xs e r = back_close frames e r
  back_between Start x xs e r = started e r
  back_between _ x xs e r = absurd r

  -- strings
  reended : (h : Head) (a a' : List ℕ) (ys : List Character) → a ≡ a' → End h (Some a) ys → End h (Some a') ys
  reended h a a' ys q e = let P : List ℕ → Type 0 = λ v. End h (Some v) ys in subst P q e

  quoted_first : (h : Head) (t : List ℕ) (xs ys : List Character) → Quoted xs t ys → Stringed done frames list h t ys → AfterKey done frames list h xs
  quoted_first h t xs ys d (Stringed.last g e) = AfterKey.strings grammar.Gap.none (Joined.one d) g e
  quoted_first h t xs ys d (Stringed.joined g q g' d' g'' e) = AfterKey.strings grammar.Gap.none (Joined.join d g q g' d') g'' e

  quoted_next : (h : Head) (a t : List ℕ) (xs ys : List Character) → Quoted xs t ys → Stringed done frames list h (a ++ t) ys → Plussed done frames list h a xs
  quoted_next h a t xs ys d (Stringed.last g e) = Plussed.plussed grammar.Gap.none (Joined.one d) g e
  quoted_next h a t xs ys d (Stringed.joined {ws = ws} {t = t'} g q g' d' g'' e) =
      Plussed.plussed grammar.Gap.none (Joined.join d g q g' d') g'' (reended h ((a ++ t) ++ t') (a ++ (t ++ t')) ws (append_assoc a t t') e)

  single_first : (h : Head) (x : Character) (xs : List Character) → Is SingleQuote x → SingleRest done frames list h [] xs → AfterKey done frames list h (x ∷ xs)
  single_first h x xs e (SingleRest.single {ys = ys} {t = t} d s) = quoted_first h t (x ∷ xs) ys (Quoted.single e d) s

  double_first : (h : Head) (x : Character) (xs : List Character) → Is DoubleQuote x → DoubleRest done frames list h [] x.column [] xs → AfterKey done frames list h (x ∷ xs)
  double_first h x xs e (DoubleRest.double {ys = ys} {r = r} d s) = quoted_first h (string_value x.column r) (x ∷ xs) ys (Quoted.double e d) s

  single_next : (h : Head) (a : List ℕ) (x : Character) (xs : List Character) → Is SingleQuote x → SingleRest done frames list h a xs → Plussed done frames list h a (x ∷ xs)
  single_next h a x xs e (SingleRest.single {ys = ys} {t = t} d s) = quoted_next h a t (x ∷ xs) ys (Quoted.single e d) s

  double_next : (h : Head) (a : List ℕ) (x : Character) (xs : List Character) → Is DoubleQuote x → DoubleRest done frames list h a x.column [] xs → Plussed done frames list h a (x ∷ xs)
  double_next h a x xs e (DoubleRest.double {ys = ys} {r = r} d s) = quoted_next h a (string_value x.column r) (x ∷ xs) ys (Quoted.double e d) s

  -- unquoted strings
  pub word_first : (l : grammar.Last) (h : Head) (x : Character) (xs : List Character) → Of grammar.in_word x → grammar.last_of (sort_of x.code) ≡ l
      → InWordRest done frames list l h (encode_utf8 x.code) xs → AfterKey done frames list h (x ∷ xs)
  word_first l h x xs e q (InWordRest.word {ys = ys} {w = w} d (Argued.argued g r)) =
      let P : grammar.Last → Type 0 = λ m. Word m xs w ys in
      AfterKey.word grammar.Gap.none (Unquoted.word e (subst P (sym q) d)) g r

  back_keyed : (k : Sort) (h : Head) (x : Character) (xs : List Character) → Is k x → RestFed list xs (machine.keyed k h (S (Gap (Keyed h))) x) → R (Gap (Keyed h)) (x ∷ xs)
  back_keyed LineFeed h x xs e r = before_white LineFeed (Keyed h) x xs e refl r
  back_keyed Blank h x xs e r = before_white Blank (Keyed h) x xs e refl r
  back_keyed Semicolon h x xs e r = AfterKey.bare grammar.Gap.none (back_leaf h None (Gap (Keyed h)) e r)
  back_keyed OpenBrace h x xs e r = AfterKey.bare grammar.Gap.none (back_enter h None (Gap (Keyed h)) e r)
  back_keyed CloseBrace h x xs e r = absurd r
  back_keyed Forbidden h x xs e r = absurd r
  back_keyed DoubleQuote h x xs e r = double_first h x xs e r.1
  back_keyed SingleQuote h x xs e r = single_first h x xs e r.1
  back_keyed Slash h x xs e r = r x e refl
  back_keyed Star h x xs e r = word_first grammar.Last.star h x xs (ap grammar.in_word e) (ap grammar.last_of e) r
  back_keyed _ h x xs e r = word_first grammar.Last.other h x xs (ap grammar.in_word e) (ap grammar.last_of e) r

  back_worded : (k : Sort) (h : Head) (a : List ℕ) (x : Character) (xs : List Character) → Is k x → RestFed list xs (machine.worded k h a (S (Gap (Worded h a))) x) → R (Gap (Worded h a)) (x ∷ xs)
  back_worded LineFeed h a x xs e r = before_white LineFeed (Worded h a) x xs e refl r
  back_worded Blank h a x xs e r = before_white Blank (Worded h a) x xs e refl r
  back_worded Slash h a x xs e r = before_slash (Worded h a) x xs e r
  back_worded Semicolon h a x xs e r = Argued.argued grammar.Gap.none (back_leaf h (Some a) (Gap (Worded h a)) e r)
  back_worded OpenBrace h a x xs e r = Argued.argued grammar.Gap.none (back_enter h (Some a) (Gap (Worded h a)) e r)
  back_worded _ h a x xs e r = absurd r

  plus_next : (h : Head) (a : List ℕ) (x : Character) (xs : List Character) → Is Plus x → Plussed done frames list h a xs → Stringed done frames list h a (x ∷ xs)
  plus_next h a x xs e (Plussed.plussed g d g' r) = Stringed.joined grammar.Gap.none e g d g' r

  back_strung : (k : Sort) (h : Head) (a : List ℕ) (x : Character) (xs : List Character) → Is k x → RestFed list xs (machine.strung k h a (S (Gap (Strung h a))) x) → R (Gap (Strung h a)) (x ∷ xs)
  back_strung LineFeed h a x xs e r = before_white LineFeed (Strung h a) x xs e refl r
  back_strung Blank h a x xs e r = before_white Blank (Strung h a) x xs e refl r
  back_strung Slash h a x xs e r = before_slash (Strung h a) x xs e r
  back_strung Semicolon h a x xs e r = Stringed.last grammar.Gap.none (back_leaf h (Some a) (Gap (Strung h a)) e r)
  back_strung OpenBrace h a x xs e r = Stringed.last grammar.Gap.none (back_enter h (Some a) (Gap (Strung h a)) e r)
  back_strung Plus h a x xs e r = plus_next h a x xs e r
  back_strung _ h a x xs e r = absurd r

  back_joining : (k : Sort) (h : Head) (a : List ℕ) (x : Character) (xs : List Character) → Is k x → RestFed list xs (machine.joining k h a (S (Gap (Joining h a))) x) → R (Gap (Joining h a)) (x ∷ xs)
  back_joining LineFeed h a x xs e r = before_white LineFeed (Joining h a) x xs e refl r
  back_joining Blank h a x xs e r = before_white Blank (Joining h a) x xs e refl r
  back_joining Slash h a x xs e r = before_slash (Joining h a) x xs e r
  back_joining DoubleQuote h a x xs e r = double_next h a x xs e r.1
  back_joining SingleQuote h a x xs e r = single_next h a x xs e r.1
  back_joining _ h a x xs e r = absurd r

  pub back_gap : (spot : Spot) (k : Sort) (x : Character) (xs : List Character) → Is k x → RestFed list xs (machine.feed_gap spot k (S (Gap spot)) x) → R (Gap spot) (x ∷ xs)
  back_gap Between k x xs e r = back_between k x xs e r
  back_gap (Keyed h) k x xs e r = back_keyed k h x xs e r
  back_gap (Worded h a) k x xs e r = back_worded k h a x xs e r
  back_gap (Strung h a) k x xs e r = back_strung k h a x xs e r
  back_gap (Joining h a) k x xs e r = back_joining k h a x xs e r
