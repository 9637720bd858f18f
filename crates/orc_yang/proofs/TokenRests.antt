-- One step back, from a character of a comment, a keyword or a string.
use Rattle.std.proofs.Common.{◌≡◌, ℕ, Bool, true, false, ◌-◌, List, [], ◌∷◌, ◌++◌, Option, Some, None, Ok, refl, sym, ap, ◌∙◌, subst, cond, append_assoc, append-nil}
use Rattle.std.specs.Char.{encode_utf8}
use Rattle.orc_yang.specs.declared.character.Sort.{Sort}
use Rattle.orc_yang.specs.declared.character.Sort.TheVariants.{LineFeed, Blank, Semicolon, OpenBrace, CloseBrace, DoubleQuote, SingleQuote, Slash, Star, Colon, Backslash, Start, Inner, Forbidden}
use Rattle.orc_yang.specs.declared.fault.YangFault.{YangFault}
use Rattle.orc_yang.specs.declared.fault.YangFault.TheVariants.{BadToken, BadEscape}
use Rattle.orc_yang.specs.declared.statement.Stmt.{Stmt}
use Rattle.orc_yang.specs.declared.character.Character.{Character}
use Rattle.orc_yang.specs.declared.parser.Frame.{Frame}
use Rattle.orc_yang.specs.Sorts.{sort_of}
use Rattle.orc_yang.specs.Quoted.{string_value, is_escape}
use Rattle.orc_yang.specs.Grammar as grammar
use Rattle.orc_yang.specs.Grammar.{Is, Of, Line, Comment, Piece, Letters, Keyword, Word, Unquoted, Single, Double, Quoted, Joined, Heading, Statements}
use Rattle.orc_yang.specs.Machine as machine
use Rattle.orc_yang.specs.Machine.{Head, Spot, Between, Keyed, Worded, Strung, Joining, Work, Gap, Slashed, InLine, InBlock, BehindStar, InKeyword, BehindColon, InSecond, Lone, WordSlash, WordStar, InWord, InSingle, InDouble, BehindBackslash, Machine, Fed, run, feed, feed_work, fed, leaf, enter, framed, ended}
use Rattle.orc_yang.proofs.Rests.{Argued, Stringed, AfterKey, KeyEnd, longer, KeyFirst, KeyColon, KeySecond, InWordRest, SingleRest, DoubleRest, EscapeRest, Rest, RestFed}
use Rattle.orc_yang.proofs.GapRests.{back_leaf, back_enter, in_front, white_is, word_first}

module _ (done : List Stmt) (frames : List Frame) (list : List Stmt) where
  abbrev S : Work → Machine
  S w = record { work = w; done = done; frames = frames }

  abbrev R : Work → List Character → Type 0
  R = Rest done frames list

  -- comments
  pub back_slashed : (k : Sort) (spot : Spot) (o : ℕ) (x : Character) (xs : List Character) → Is k x → RestFed list xs (machine.slashed k spot o (S (Slashed spot o)) x) → R (Slashed spot o) (x ∷ xs)
  back_slashed Slash spot o x xs e r = λ y e'. record { rest = r.rest; piece = Piece.line e' e r.line; goes = r.goes }
  back_slashed Star spot o x xs e r = λ y e'. record { rest = r.1.rest; piece = Piece.block e' e r.1.comment; goes = r.1.goes }
  back_slashed _ spot o x xs e r = absurd r

  pub back_line : (k : Sort) (spot : Spot) (x : Character) (xs : List Character) → Is k x → RestFed list xs (machine.feed_line k spot (S (InLine spot)) x) → R (InLine spot) (x ∷ xs)
  back_line LineFeed spot x xs e r = record { rest = xs; line = Line.at_feed e; goes = r }
  back_line Forbidden spot x xs e r = absurd r
  back_line _ spot x xs e r = record { rest = r.rest; line = Line.more (ap grammar.in_line e) r.line; goes = r.goes }

  never : {A : Type 0} (p : Option YangFault) (f : YangFault) → machine.spoilt p f ≡ None → A
  never None f e = cc
  never (Some g) f e = cc

  pub back_block : (k : Sort) (spot : Spot) (o : ℕ) (p : Option YangFault) (x : Character) (xs : List Character) → Is k x
      → RestFed list xs (machine.feed_block k spot o p (S (InBlock spot o p)) x) → R (InBlock spot o p) (x ∷ xs)
  back_block Star spot o p x xs e r = (r.0, record { rest = r.1.rest; comment = Comment.star e r.1.comment; goes = r.1.goes })
  back_block Forbidden spot o p x xs e r = never p (BadToken x.last) r.0
  back_block _ spot o p x xs e r = (r.0, record { rest = r.1.rest; comment = Comment.more (ap grammar.in_comment e) r.1.comment; goes = r.1.goes })

  unspoilt : (p : Option YangFault) (s : Machine) (xs : List Character) → RestFed list xs (machine.unspoilt p (Ok s)) → (p ≡ None) × RestFed list xs (Ok s)
  unspoilt None s xs r = (refl, r)
  unspoilt (Some f) s xs r = absurd r

  pub back_star : (k : Sort) (spot : Spot) (o : ℕ) (p : Option YangFault) (x : Character) (xs : List Character) → Is k x
      → RestFed list xs (machine.feed_star k spot o p (S (BehindStar spot o p)) x) → R (BehindStar spot o p) (x ∷ xs)
  back_star Slash spot o p x xs e r = let q = unspoilt p (S (Gap spot)) xs r in (q.0, record { rest = xs; comment = Comment.ends e; goes = q.1 })
  back_star Star spot o p x xs e r = (r.0, record { rest = r.1.rest; comment = Comment.star e r.1.comment; goes = r.1.goes })
  back_star Forbidden spot o p x xs e r = never p (BadToken x.last) r.0
  back_star _ spot o p x xs e r = (r.0, record { rest = r.1.rest; comment = Comment.back (ap grammar.behind_star e) r.1.comment; goes = r.1.goes })

  -- keywords
  rekeyed : (at : ℕ) (k k' : List ℕ) (ys : List Character) → k ≡ k' → KeyEnd done frames list (record { keyword = k; at = at }) ys → KeyEnd done frames list (record { keyword = k'; at = at }) ys
  rekeyed at k k' ys q r = let P : List ℕ → Type 0 = λ v. KeyEnd done frames list (record { keyword = v; at = at }) ys in subst P q r

  back_end : (k : Sort) (h : Head) (x : Character) (xs : List Character) (w : Work) → Is k x → RestFed list xs (machine.end_keyword k h (S w) x) → KeyEnd done frames list h (x ∷ xs)
  back_end LineFeed h x xs w e r = KeyEnd.parted (Piece.white (white_is done frames list LineFeed x e refl)) r
  back_end Blank h x xs w e r = KeyEnd.parted (Piece.white (white_is done frames list Blank x e refl)) r
  back_end Slash h x xs w e r = let q = r x e in KeyEnd.parted q.piece q.goes
  back_end Semicolon h x xs w e r = KeyEnd.bare grammar.Gap.none (back_leaf done frames list h None w e r)
  back_end OpenBrace h x xs w e r = KeyEnd.bare grammar.Gap.none (back_enter done frames list h None w e r)
  back_end _ h x xs w e r = absurd r

  key_ends : (h : Head) (xs : List Character) → KeyEnd done frames list h xs → KeyEnd done frames list (longer done frames list h []) xs
  key_ends h xs r = rekeyed h.at h.keyword (h.keyword ++ []) xs (sym (append-nil h.keyword)) r

  first_more : (h : Head) (x : Character) (xs : List Character) → Of grammar.in_identifier x → KeyFirst done frames list (machine.grown h x) xs → KeyFirst done frames list h (x ∷ xs)
  first_more h x xs e (KeyFirst.plain {ys = ys} {k = k} d r) =
      let u = encode_utf8 x.code in
      KeyFirst.plain (Letters.more e d) (rekeyed h.at ((h.keyword ++ u) ++ k) (h.keyword ++ (u ++ k)) ys (append_assoc h.keyword u k) r)
  first_more h x xs e (KeyFirst.prefixed {c} {y} {zs = zs} {p = p} {k = k} d e' e'' d' r) =
      let u = encode_utf8 x.code in
      let v = p ++ (encode_utf8 c.code ++ (encode_utf8 y.code ++ k)) in
      KeyFirst.prefixed (Letters.more e d) e' e'' d' (rekeyed h.at ((h.keyword ++ u) ++ v) (h.keyword ++ ((u ++ p) ++ (encode_utf8 c.code ++ (encode_utf8 y.code ++ k)))) zs (simp append_assoc) r)

  first_colon : (h : Head) (x : Character) (xs : List Character) → Is Colon x → KeyColon done frames list (machine.grown h x) xs → KeyFirst done frames list h (x ∷ xs)
  first_colon h x xs e (KeyColon.begun {y} {ys} {zs} {k} e' d r) =
      let u = encode_utf8 x.code in
      let v = encode_utf8 y.code ++ k in
      KeyFirst.prefixed Letters.none e e' d (rekeyed h.at ((h.keyword ++ u) ++ v) (h.keyword ++ ([] ++ (u ++ v))) zs (simp append_assoc) r)

  first_end : (h : Head) (xs : List Character) → KeyEnd done frames list h xs → KeyFirst done frames list h xs
  first_end h xs r = KeyFirst.plain Letters.none (key_ends h xs r)

  pub back_first : (k : Sort) (h : Head) (x : Character) (xs : List Character) → Is k x → RestFed list xs (machine.feed_keyword k h (S (InKeyword h)) x) → R (InKeyword h) (x ∷ xs)
  back_first Start h x xs e r = first_more h x xs (ap grammar.in_identifier e) r
  back_first Inner h x xs e r = first_more h x xs (ap grammar.in_identifier e) r
  back_first Colon h x xs e r = first_colon h x xs e r
  back_first k h x xs e r = first_end h (x ∷ xs) (back_end k h x xs (InKeyword h) e r)

  second_more : (h : Head) (x : Character) (xs : List Character) → Of grammar.in_identifier x → KeySecond done frames list (machine.grown h x) xs → KeySecond done frames list h (x ∷ xs)
  second_more h x xs e (KeySecond.plain {ys = ys} {k = k} d r) =
      let u = encode_utf8 x.code in
      KeySecond.plain (Letters.more e d) (rekeyed h.at ((h.keyword ++ u) ++ k) (h.keyword ++ (u ++ k)) ys (append_assoc h.keyword u k) r)

  second_end : (h : Head) (xs : List Character) → KeyEnd done frames list h xs → KeySecond done frames list h xs
  second_end h xs r = KeySecond.plain Letters.none (key_ends h xs r)

  pub back_second : (k : Sort) (h : Head) (x : Character) (xs : List Character) → Is k x → RestFed list xs (machine.feed_second k h (S (InSecond h)) x) → R (InSecond h) (x ∷ xs)
  back_second Start h x xs e r = second_more h x xs (ap grammar.in_identifier e) r
  back_second Inner h x xs e r = second_more h x xs (ap grammar.in_identifier e) r
  back_second k h x xs e r = second_end h (x ∷ xs) (back_end k h x xs (InSecond h) e r)

  colon_begun : (h : Head) (x : Character) (xs : List Character) → Is Start x → KeySecond done frames list (machine.grown h x) xs → KeyColon done frames list h (x ∷ xs)
  colon_begun h x xs e (KeySecond.plain {ys = ys} {k = k} d r) =
      let u = encode_utf8 x.code in
      KeyColon.begun e d (rekeyed h.at ((h.keyword ++ u) ++ k) (h.keyword ++ (u ++ k)) ys (append_assoc h.keyword u k) r)

  pub back_colon : (k : Sort) (h : Head) (x : Character) (xs : List Character) → Is k x → RestFed list xs (machine.feed_colon k h (S (BehindColon h)) x) → R (BehindColon h) (x ∷ xs)
  back_colon Start h x xs e r = colon_begun h x xs e r
  back_colon _ h x xs e r = absurd r

  -- an unquoted string goes on
  word_more : (l m : grammar.Last) (h : Head) (a : List ℕ) (x : Character) (xs : List Character) → Of grammar.in_word x → Of (grammar.makes_no_mark l) x → grammar.last_of (sort_of x.code) ≡ m
      → InWordRest done frames list m h (a ++ encode_utf8 x.code) xs → InWordRest done frames list l h a (x ∷ xs)
  word_more l m h a x xs e e' q (InWordRest.word {ys = ys} {w = w} d r) =
      let u = encode_utf8 x.code in
      let P : grammar.Last → Type 0 = λ n. Word n xs w ys in
      let A : List ℕ → Type 0 = λ v. Argued done frames list h v ys in
      InWordRest.word (Word.more e e' (subst P (sym q) d)) (subst A (append_assoc a u w) r)

  word_end : (l : grammar.Last) (h : Head) (a : List ℕ) (x : Character) (xs : List Character) → Of grammar.ends_word x → Argued done frames list h a (x ∷ xs) → InWordRest done frames list l h a (x ∷ xs)
  word_end l h a x xs e r =
      let A : List ℕ → Type 0 = λ v. Argued done frames list h v (x ∷ xs) in
      InWordRest.word (Word.ends e) (subst A (sym (append-nil a)) r)

  argued_white : (h : Head) (a : List ℕ) (x : Character) (xs : List Character) → Of grammar.is_white x → Argued done frames list h a xs → Argued done frames list h a (x ∷ xs)
  argued_white h a x xs e r = in_front done frames list (Worded h a) (Piece.white e) r

  pub back_word : (l : grammar.Last) (k : Sort) (h : Head) (a : List ℕ) (w : Work) (x : Character) (xs : List Character) → grammar.makes_no_mark l k ≡ true → Is k x
      → RestFed list xs (machine.feed_word k h a (S w) x) → InWordRest done frames list l h a (x ∷ xs)
  back_word l LineFeed h a w x xs q e r = word_end l h a x xs (ap grammar.ends_word e) (argued_white h a x xs (white_is done frames list LineFeed x e refl) r)
  back_word l Blank h a w x xs q e r = word_end l h a x xs (ap grammar.ends_word e) (argued_white h a x xs (white_is done frames list Blank x e refl) r)
  back_word l Semicolon h a w x xs q e r = word_end l h a x xs (ap grammar.ends_word e) (Argued.argued grammar.Gap.none (back_leaf done frames list h (Some a) w e r))
  back_word l OpenBrace h a w x xs q e r = word_end l h a x xs (ap grammar.ends_word e) (Argued.argued grammar.Gap.none (back_enter done frames list h (Some a) w e r))
  back_word l CloseBrace h a w x xs q e r = absurd r
  back_word l DoubleQuote h a w x xs q e r = absurd r
  back_word l SingleQuote h a w x xs q e r = absurd r
  back_word l Forbidden h a w x xs q e r = absurd r
  back_word l Slash h a w x xs q e r = word_more l grammar.Last.slash h a x xs (ap grammar.in_word e) (ap (grammar.makes_no_mark l) e ∙ q) (ap grammar.last_of e) r
  back_word l Star h a w x xs q e r = word_more l grammar.Last.star h a x xs (ap grammar.in_word e) (ap (grammar.makes_no_mark l) e ∙ q) (ap grammar.last_of e) r
  back_word l _ h a w x xs q e r = word_more l grammar.Last.other h a x xs (ap grammar.in_word e) (ap (grammar.makes_no_mark l) e ∙ q) (ap grammar.last_of e) r

  pub back_slash : (k : Sort) (h : Head) (a : List ℕ) (x : Character) (xs : List Character) → Is k x → RestFed list xs (machine.word_slash k h a (S (WordSlash h a)) x) → R (WordSlash h a) (x ∷ xs)
  back_slash Slash h a x xs e r = absurd r
  back_slash Star h a x xs e r = absurd r
  back_slash k h a x xs e r = back_word grammar.Last.slash k h a (WordSlash h a) x xs refl e r

  pub back_starred : (k : Sort) (h : Head) (a : List ℕ) (x : Character) (xs : List Character) → Is k x → RestFed list xs (machine.word_star k h a (S (WordStar h a)) x) → R (WordStar h a) (x ∷ xs)
  back_starred Slash h a x xs e r = absurd r
  back_starred k h a x xs e r = back_word grammar.Last.star k h a (WordStar h a) x xs refl e r

  lone_word : (h : Head) (a : List ℕ) (y : Character) (xs : List Character) → Is Slash y → a ≡ encode_utf8 y.code → InWordRest done frames list grammar.Last.slash h a xs → AfterKey done frames list h (y ∷ xs)
  lone_word h a y xs e q r =
      let P : List ℕ → Type 0 = λ v. InWordRest done frames list grammar.Last.slash h v xs in
      word_first done frames list grammar.Last.slash h y xs (ap grammar.in_word e) (ap grammar.last_of e) (subst P q r)

  pub back_lone : (k : Sort) (h : Head) (a : List ℕ) (o : ℕ) (x : Character) (xs : List Character) → Is k x → RestFed list xs (machine.lone k h a o (S (Lone h a o)) x) → R (Lone h a o) (x ∷ xs)
  back_lone Slash h a o x xs e r = λ y e' q. in_front done frames list (Keyed h) (Piece.line e' e r.line) r.goes
  back_lone Star h a o x xs e r = λ y e' q. in_front done frames list (Keyed h) (Piece.block e' e r.1.comment) r.1.goes
  back_lone k h a o x xs e r = λ y e' q. lone_word h a y (x ∷ xs) e' q (back_word grammar.Last.slash k h a (Lone h a o) x xs refl e r)

  -- quoted strings go on
  single_more : (h : Head) (a : List ℕ) (x : Character) (xs : List Character) → Of grammar.in_single x → SingleRest done frames list h (a ++ encode_utf8 x.code) xs → SingleRest done frames list h a (x ∷ xs)
  single_more h a x xs e (SingleRest.single {ys = ys} {t = t} d r) =
      let A : List ℕ → Type 0 = λ v. Stringed done frames list h v ys in
      SingleRest.single (Single.more e d) (subst A (append_assoc a (encode_utf8 x.code) t) r)

  single_end : (h : Head) (a : List ℕ) (x : Character) (xs : List Character) → Is SingleQuote x → Stringed done frames list h a xs → SingleRest done frames list h a (x ∷ xs)
  single_end h a x xs e r =
      let A : List ℕ → Type 0 = λ v. Stringed done frames list h v xs in
      SingleRest.single (Single.ends e) (subst A (sym (append-nil a)) r)

  pub back_single : (k : Sort) (h : Head) (a : List ℕ) (o : ℕ) (p : Option YangFault) (x : Character) (xs : List Character) → Is k x
      → RestFed list xs (machine.feed_single k h a o p (S (InSingle h a o p)) x) → R (InSingle h a o p) (x ∷ xs)
  back_single SingleQuote h a o p x xs e r = let q = unspoilt p (S (Gap (Strung h a))) xs r in (q.0, single_end h a x xs e q.1)
  back_single Forbidden h a o p x xs e r = never p (BadToken x.last) r.0
  back_single _ h a o p x xs e r = (r.0, single_more h a x xs (ap grammar.in_single e) r.1)

  revalued : (h : Head) (a : List ℕ) (column : ℕ) (r r' : List ℕ) (ys : List Character) → r ≡ r' → Stringed done frames list h (a ++ string_value column r) ys → Stringed done frames list h (a ++ string_value column r') ys
  revalued h a column r r' ys q s = let P : List ℕ → Type 0 = λ v. Stringed done frames list h (a ++ string_value column v) ys in subst P q s

  double_end : (h : Head) (a : List ℕ) (column : ℕ) (raw : List ℕ) (x : Character) (xs : List Character) → Is DoubleQuote x
      → Stringed done frames list h (a ++ string_value column raw) xs → DoubleRest done frames list h a column raw (x ∷ xs)
  double_end h a column raw x xs e r = DoubleRest.double (Double.ends e) (revalued h a column raw (raw ++ []) xs (sym (append-nil raw)) r)

  double_more : (h : Head) (a : List ℕ) (column : ℕ) (raw : List ℕ) (x : Character) (xs : List Character) → Of grammar.in_double x
      → DoubleRest done frames list h a column (raw ++ x.code ∷ []) xs → DoubleRest done frames list h a column raw (x ∷ xs)
  double_more h a column raw x xs e (DoubleRest.double {ys = ys} {r = r} d s) =
      DoubleRest.double (Double.more e d) (revalued h a column ((raw ++ x.code ∷ []) ++ r) (raw ++ x.code ∷ r) ys (append_assoc raw (x.code ∷ []) r) s)

  double_escape : (h : Head) (a : List ℕ) (column : ℕ) (raw : List ℕ) (x : Character) (xs : List Character) → Is Backslash x
      → EscapeRest done frames list h a column (raw ++ x.code ∷ []) xs → DoubleRest done frames list h a column raw (x ∷ xs)
  double_escape h a column raw x xs e (EscapeRest.escape {y} {ys} {zs} {r} e' d s) =
      DoubleRest.double (Double.escape e e' d) (revalued h a column ((raw ++ x.code ∷ []) ++ y.code ∷ r) (raw ++ x.code ∷ y.code ∷ r) zs (append_assoc raw (x.code ∷ []) (y.code ∷ r)) s)

  pub back_double : (k : Sort) (h : Head) (a : List ℕ) (o column : ℕ) (raw : List ℕ) (p : Option YangFault) (x : Character) (xs : List Character) → Is k x
      → RestFed list xs (machine.feed_double k h a o column raw p (S (InDouble h a o column raw p)) x) → R (InDouble h a o column raw p) (x ∷ xs)
  back_double DoubleQuote h a o column raw p x xs e r = let q = unspoilt p (S (Gap (Strung h (a ++ string_value column raw)))) xs r in (q.0, double_end h a column raw x xs e q.1)
  back_double Backslash h a o column raw p x xs e r = (r.0, double_escape h a column raw x xs e r.1)
  back_double Forbidden h a o column raw p x xs e r = never p (BadToken x.last) r.0
  back_double _ h a o column raw p x xs e r = (r.0, double_more h a column raw x xs (ap grammar.in_double e) r.1)

  escape_more : (h : Head) (a : List ℕ) (column : ℕ) (raw : List ℕ) (x : Character) (xs : List Character) → is_escape x.code ≡ true
      → DoubleRest done frames list h a column (raw ++ x.code ∷ []) xs → EscapeRest done frames list h a column raw (x ∷ xs)
  escape_more h a column raw x xs e (DoubleRest.double {ys = ys} {r = r} d s) =
      EscapeRest.escape e d (revalued h a column ((raw ++ x.code ∷ []) ++ r) (raw ++ x.code ∷ r) ys (append_assoc raw (x.code ∷ []) r) s)

  escapes : (b : Bool) (p : Option YangFault) (f : YangFault) → cond b p (machine.spoilt p f) ≡ None → (b ≡ true) × (p ≡ None)
  escapes true p f e = (refl, e)
  escapes false p f e = never p f e

  pub back_backslash : (h : Head) (a : List ℕ) (o column : ℕ) (raw : List ℕ) (p : Option YangFault) (x : Character) (xs : List Character)
      → RestFed list xs (machine.feed_backslash h a o column raw p (S (BehindBackslash h a o column raw p)) x) → R (BehindBackslash h a o column raw p) (x ∷ xs)
  back_backslash h a o column raw p x xs r =
      let q = escapes (is_escape x.code) p (BadEscape (x.at - 1)) r.0 in (q.1, escape_more h a column raw x xs q.0 r.1)
