-- What is spelled so is read: each relation of the grammar, as a way of the machine.
use Rattle.std.proofs.Common.{◌≡◌, ℕ, suc, Bool, true, false, nat_lt, ◌-◌, List, [], ◌∷◌, ◌++◌, length, Option, Some, None, Ok, refl, sym, ap, ◌∙◌, cond, append_assoc, append-nil}
use Rattle.std.specs.Char.{encode_utf8}
use Rattle.std.proofs.lemmas.Bool.{false≢true}
use Rattle.orc_yang.specs.declared.character.Sort.{Sort}
use Rattle.orc_yang.specs.declared.character.Sort.TheVariants.{LineFeed, Blank, Semicolon, OpenBrace, CloseBrace, DoubleQuote, SingleQuote, Slash, Star, Plus, Colon, Backslash, Start, Inner, Forbidden}
use Rattle.orc_yang.specs.declared.fault.YangFault.TheVariants.{BadEscape}
use Rattle.orc_yang.specs.declared.statement.Stmt.{Stmt}
use Rattle.orc_yang.specs.declared.character.Character.{Character}
use Rattle.orc_yang.specs.declared.parser.Frame.{Frame}
use Rattle.orc_yang.specs.Sorts.{sort_of}
use Rattle.orc_yang.specs.Statement.{statement}
use Rattle.orc_yang.specs.Quoted.{string_value, is_escape}
use Rattle.orc_yang.specs.Grammar as grammar
use Rattle.orc_yang.specs.Grammar.{Is, Of}
use Rattle.orc_yang.specs.Machine as machine
use Rattle.orc_yang.specs.Machine.{Head, Spot, Between, Keyed, Worded, Strung, Joining, Work, Gap, Slashed, InLine, InBlock, BehindStar, InKeyword, BehindColon, InSecond, Lone, WordSlash, WordStar, InWord, InSingle, InDouble, BehindBackslash, Machine, Fed, run, feed, feed_work, fed, leaf, enter, framed, ended}
use Rattle.orc_yang.proofs.GapWays.{Answer, at_work, from, onward, step_is, line, comment, piece, gap}

module _ (done : List Stmt) (frames : List Frame) (end : ℕ) where
  -- what ends a heading: after it stands the `;` or the `{` of this keyword and argument
  pub record Ends (w : Work) (h : Head) (a : Option (List ℕ)) : Type 0 where
    pub semicolon : (x : Character) → feed_work w Semicolon (at_work done frames end w) x ≡ leaf (at_work done frames end w) h a
    pub brace : (x : Character) → feed_work w OpenBrace (at_work done frames end w) x ≡ enter (at_work done frames end w) h a x

  -- a way from these characters to a work that ends a heading
  abbrev pub Heads : Answer → Head → Option (List ℕ) → List Character → Type 0
  Heads answer h a ys = (w : Work) × Ends w h a × (answer ≡ from done frames end ys w)

  -- in a keyword
  data Keying : Work → Head → Type 0 where
    first : {h : Head} → Keying (InKeyword h) h
    second : {h : Head} → Keying (InSecond h) h

  abbrev longer : Head → List ℕ → Head
  longer h k = record { keyword = h.keyword ++ k; at = h.at }

  keying_ends : {w : Work} {h : Head} → Keying w h → Ends w h None
  keying_ends first = record { semicolon = λ x. refl; brace = λ x. refl }
  keying_ends second = record { semicolon = λ x. refl; brace = λ x. refl }

  on_white_key : {w : Work} {h : Head} (k : Sort) (x : Character) (xs : List Character) → Keying w h → grammar.is_white k ≡ true → onward done frames end k w x xs ≡ from done frames end xs (Gap (Keyed h))
  on_white_key LineFeed x xs first h = refl
  on_white_key Blank x xs first h = refl
  on_white_key _ x xs first h = absurd (false≢true h)
  on_white_key LineFeed x xs second h = refl
  on_white_key Blank x xs second h = refl
  on_white_key _ x xs second h = absurd (false≢true h)

  on_slash_key : {w : Work} {h : Head} (x : Character) (xs : List Character) → Keying w h → onward done frames end Slash w x xs ≡ from done frames end xs (Slashed (Keyed h) x.at)
  on_slash_key x xs first = refl
  on_slash_key x xs second = refl

  key_piece : {w : Work} {h : Head} {xs ys : List Character} → Keying w h → grammar.Piece xs ys → from done frames end xs w ≡ from done frames end ys (Gap (Keyed h))
  key_piece {w} {h} q (grammar.Piece.white {x} {xs} e) = on_white_key (sort_of x.code) x xs q e
  key_piece {w} {h} q (grammar.Piece.line {x} {y} {xs} e e' d) =
      step_is done frames end Slash w x (y ∷ xs) e ∙ (on_slash_key x (y ∷ xs) q ∙ (step_is done frames end Slash (Slashed (Keyed h) x.at) y xs e' ∙ line done frames end (Keyed h) d))
  key_piece {w} {h} q (grammar.Piece.block {x} {y} {xs} e e' d) =
      step_is done frames end Slash w x (y ∷ xs) e ∙ (on_slash_key x (y ∷ xs) q ∙ (step_is done frames end Star (Slashed (Keyed h) x.at) y xs e' ∙ comment done frames end false (Keyed h) x.at d))

  on_letter : (k : Sort) (h : Head) (x : Character) (xs : List Character) → grammar.in_identifier k ≡ true → onward done frames end k (InKeyword h) x xs ≡ from done frames end xs (InKeyword (machine.grown h x))
  on_letter Start h x xs e = refl
  on_letter Inner h x xs e = refl
  on_letter _ h x xs e = absurd (false≢true e)

  on_second : (k : Sort) (h : Head) (x : Character) (xs : List Character) → grammar.in_identifier k ≡ true → onward done frames end k (InSecond h) x xs ≡ from done frames end xs (InSecond (machine.grown h x))
  on_second Start h x xs e = refl
  on_second Inner h x xs e = refl
  on_second _ h x xs e = absurd (false≢true e)

  rekeyed : (W : Head → Work) (at : ℕ) (ys : List Character) (k k' : List ℕ) → k ≡ k' → from done frames end ys (W (record { keyword = k; at = at })) ≡ from done frames end ys (W (record { keyword = k'; at = at }))
  rekeyed W at ys k k' e = ap (λ q. from done frames end ys (W (record { keyword = q; at = at }))) e

  letters : (h : Head) {xs ys : List Character} {k : List ℕ} → grammar.Letters xs k ys → from done frames end xs (InKeyword h) ≡ from done frames end ys (InKeyword (longer h k))
  letters h (grammar.Letters.none {xs}) = rekeyed InKeyword h.at xs h.keyword (h.keyword ++ []) (sym (append-nil h.keyword))
  letters h (grammar.Letters.more {x} {xs} {ys} {k} e d) =
      on_letter (sort_of x.code) h x xs e ∙ (letters (machine.grown h x) d ∙ rekeyed InKeyword h.at ys ((h.keyword ++ encode_utf8 x.code) ++ k) (h.keyword ++ (encode_utf8 x.code ++ k)) (append_assoc h.keyword (encode_utf8 x.code) k))

  seconds : (h : Head) {xs ys : List Character} {k : List ℕ} → grammar.Letters xs k ys → from done frames end xs (InSecond h) ≡ from done frames end ys (InSecond (longer h k))
  seconds h (grammar.Letters.none {xs}) = rekeyed InSecond h.at xs h.keyword (h.keyword ++ []) (sym (append-nil h.keyword))
  seconds h (grammar.Letters.more {x} {xs} {ys} {k} e d) =
      on_second (sort_of x.code) h x xs e ∙ (seconds (machine.grown h x) d ∙ rekeyed InSecond h.at ys ((h.keyword ++ encode_utf8 x.code) ++ k) (h.keyword ++ (encode_utf8 x.code ++ k)) (append_assoc h.keyword (encode_utf8 x.code) k))

  -- a keyword, from between two statements
  abbrev Keys : Answer → Head → List Character → Type 0
  Keys answer h ys = (w : Work) × Keying w h × (answer ≡ from done frames end ys w)

  keyword : {x : Character} {xs ys : List Character} {k : List ℕ} → grammar.Keyword (x ∷ xs) k ys → Keys (from done frames end (x ∷ xs) (Gap Between)) (record { keyword = k; at = x.at }) ys
  keyword (grammar.Keyword.plain {x} {xs} {ys} {k} e d) =
      (InKeyword (record { keyword = encode_utf8 x.code ++ k; at = x.at }), first, step_is done frames end Start (Gap Between) x xs e ∙ letters (record { keyword = encode_utf8 x.code; at = x.at }) d)
  keyword (grammar.Keyword.prefixed {x} {c} {y} {xs} {ys} {zs} {p} {k} e d e' e'' d') =
      let u = encode_utf8 x.code in
      let h : Head = record { keyword = u; at = x.at } in
      let g = machine.grown (machine.grown (longer h p) c) y in (
        InSecond (record { keyword = u ++ (p ++ (encode_utf8 c.code ++ (encode_utf8 y.code ++ k))); at = x.at }),
        second,
        step_is done frames end Start (Gap Between) x xs e ∙ (letters h d ∙ (step_is done frames end Colon (InKeyword (longer h p)) c (y ∷ ys) e'
            ∙ (step_is done frames end Start (BehindColon (machine.grown (longer h p) c)) y ys e'' ∙ (seconds g d'
            ∙ rekeyed InSecond x.at zs ((((u ++ p) ++ encode_utf8 c.code) ++ encode_utf8 y.code) ++ k) (u ++ (p ++ (encode_utf8 c.code ++ (encode_utf8 y.code ++ k)))) (simp append_assoc))))),
      )

  -- an unquoted string
  abbrev word_work : grammar.Last → Head → List ℕ → Work
  word_work grammar.Last.slash h a = WordSlash h a
  word_work grammar.Last.star h a = WordStar h a
  word_work grammar.Last.other h a = InWord h a

  on_word : (k : Sort) (h : Head) (a : List ℕ) (x : Character) (xs : List Character) → grammar.in_word k ≡ true
      → onward done frames end k (InWord h a) x xs ≡ from done frames end xs (word_work (grammar.last_of k) h (a ++ encode_utf8 x.code))
  on_word LineFeed h a x xs e = absurd (false≢true e)
  on_word Blank h a x xs e = absurd (false≢true e)
  on_word Semicolon h a x xs e = absurd (false≢true e)
  on_word OpenBrace h a x xs e = absurd (false≢true e)
  on_word CloseBrace h a x xs e = absurd (false≢true e)
  on_word DoubleQuote h a x xs e = absurd (false≢true e)
  on_word SingleQuote h a x xs e = absurd (false≢true e)
  on_word Forbidden h a x xs e = absurd (false≢true e)
  on_word Slash h a x xs e = refl
  on_word Star h a x xs e = refl
  on_word _ h a x xs e = refl

  on_last : (l : grammar.Last) (k : Sort) (h : Head) (a : List ℕ) (x : Character) (xs : List Character) → grammar.makes_no_mark l k ≡ true
      → onward done frames end k (word_work l h a) x xs ≡ onward done frames end k (InWord h a) x xs
  on_last grammar.Last.slash Slash h a x xs e = absurd (false≢true e)
  on_last grammar.Last.slash Star h a x xs e = absurd (false≢true e)
  on_last grammar.Last.slash _ h a x xs e = refl
  on_last grammar.Last.star Slash h a x xs e = absurd (false≢true e)
  on_last grammar.Last.star _ h a x xs e = refl
  on_last grammar.Last.other k h a x xs e = refl

  on_lone : (k : Sort) (h : Head) (a : List ℕ) (o : ℕ) (x : Character) (xs : List Character) → grammar.makes_no_mark grammar.Last.slash k ≡ true
      → onward done frames end k (Lone h a o) x xs ≡ onward done frames end k (InWord h a) x xs
  on_lone Slash h a o x xs e = absurd (false≢true e)
  on_lone Star h a o x xs e = absurd (false≢true e)
  on_lone _ h a o x xs e = refl

  reworded : (l : grammar.Last) (h : Head) (ys : List Character) (a a' : List ℕ) → a ≡ a' → from done frames end ys (word_work l h a) ≡ from done frames end ys (word_work l h a')
  reworded l h ys a a' e = ap (λ q. from done frames end ys (word_work l h q)) e

  -- after an unquoted string
  abbrev Worked : Answer → Head → List ℕ → List Character → Type 0
  Worked answer h a ys = (l : grammar.Last) × (answer ≡ from done frames end ys (word_work l h a))

  word : (l : grammar.Last) (h : Head) (a : List ℕ) {xs ys : List Character} {w : List ℕ} → grammar.Word l xs w ys → Worked (from done frames end xs (word_work l h a)) h (a ++ w) ys
  word l h a (grammar.Word.ends {x = x} {xs = xs} e) = (l, reworded l h (x ∷ xs) a (a ++ []) (sym (append-nil a)))
  word l h a (grammar.Word.more {x = x} {xs = xs} {ys = ys} {w = w} e e' d) =
      let k = sort_of x.code in
      let u = encode_utf8 x.code in
      let r = word (grammar.last_of k) h (a ++ u) d in
      (r.0, on_last l k h a x xs e' ∙ (on_word k h a x xs e ∙ (r.1 ∙ reworded r.0 h ys ((a ++ u) ++ w) (a ++ (u ++ w)) (append_assoc a u w))))

  no_mark_at_end : (k : Sort) → grammar.ends_word k ≡ true → grammar.makes_no_mark grammar.Last.slash k ≡ true
  no_mark_at_end Slash e = absurd (false≢true e)
  no_mark_at_end Star e = absurd (false≢true e)
  no_mark_at_end _ e = refl

  -- an unquoted string that begins with a slash
  lone : (h : Head) (a : List ℕ) (o : ℕ) {xs ys : List Character} {w : List ℕ} → grammar.Word grammar.Last.slash xs w ys → from done frames end xs (Lone h a o) ≡ from done frames end xs (WordSlash h a)
  lone h a o (grammar.Word.ends {x = x} {xs = xs} e) =
      let k = sort_of x.code in
      let q = no_mark_at_end k e in
      on_lone k h a o x xs q ∙ sym (on_last grammar.Last.slash k h a x xs q)
  lone h a o (grammar.Word.more {x = x} {xs = xs} e e' d) =
      let k = sort_of x.code in
      on_lone k h a o x xs e' ∙ sym (on_last grammar.Last.slash k h a x xs e')

  begin_word : (k : Sort) (h : Head) (x : Character) {xs ys : List Character} {w : List ℕ} → grammar.in_word k ≡ true → grammar.Word (grammar.last_of k) xs w ys
      → onward done frames end k (Gap (Keyed h)) x xs ≡ from done frames end xs (word_work (grammar.last_of k) h (encode_utf8 x.code))
  begin_word LineFeed h x e d = absurd (false≢true e)
  begin_word Blank h x e d = absurd (false≢true e)
  begin_word Semicolon h x e d = absurd (false≢true e)
  begin_word OpenBrace h x e d = absurd (false≢true e)
  begin_word CloseBrace h x e d = absurd (false≢true e)
  begin_word DoubleQuote h x e d = absurd (false≢true e)
  begin_word SingleQuote h x e d = absurd (false≢true e)
  begin_word Forbidden h x e d = absurd (false≢true e)
  begin_word Slash h x e d = lone h (encode_utf8 x.code) x.at d
  begin_word Star h x e d = refl
  begin_word _ h x e d = refl

  unquoted : (h : Head) {xs ys : List Character} {w : List ℕ} → grammar.Unquoted xs w ys → Worked (from done frames end xs (Gap (Keyed h))) h w ys
  unquoted h (grammar.Unquoted.word {x} {xs} {ys} {w} e d) =
      let k = sort_of x.code in
      let r = word (grammar.last_of k) h (encode_utf8 x.code) d in
      (r.0, begin_word k h x e d ∙ r.1)

  -- what stands after an unquoted string ends it
  abbrev Ended : List Character → Type 0
  Ended [] = ⊥
  Ended (y ∷ ys) = Of grammar.ends_word y

  word_ended : {l : grammar.Last} {xs ys : List Character} {w : List ℕ} → grammar.Word l xs w ys → Ended ys
  word_ended (grammar.Word.ends e) = e
  word_ended (grammar.Word.more e e' d) = word_ended d

  unquoted_ended : {xs ys : List Character} {w : List ℕ} → grammar.Unquoted xs w ys → Ended ys
  unquoted_ended (grammar.Unquoted.word e d) = word_ended d

  on_word_end : (k : Sort) (l : grammar.Last) (h : Head) (a : List ℕ) (x : Character) (xs : List Character) → grammar.is_white k ≡ true
      → onward done frames end k (word_work l h a) x xs ≡ from done frames end xs (Gap (Worded h a))
  on_word_end LineFeed grammar.Last.slash h a x xs e = refl
  on_word_end Blank grammar.Last.slash h a x xs e = refl
  on_word_end _ grammar.Last.slash h a x xs e = absurd (false≢true e)
  on_word_end LineFeed grammar.Last.star h a x xs e = refl
  on_word_end Blank grammar.Last.star h a x xs e = refl
  on_word_end _ grammar.Last.star h a x xs e = absurd (false≢true e)
  on_word_end LineFeed grammar.Last.other h a x xs e = refl
  on_word_end Blank grammar.Last.other h a x xs e = refl
  on_word_end _ grammar.Last.other h a x xs e = absurd (false≢true e)

  slash_ends_no_word : (x : Character) → Is Slash x → Of grammar.ends_word x → ⊥
  slash_ends_no_word x e h = false≢true (sym (ap grammar.ends_word e) ∙ h)

  word_ends : (l : grammar.Last) (h : Head) (a : List ℕ) → Ends (word_work l h a) h (Some a)
  word_ends grammar.Last.slash h a = record { semicolon = λ x. refl; brace = λ x. refl }
  word_ends grammar.Last.star h a = record { semicolon = λ x. refl; brace = λ x. refl }
  word_ends grammar.Last.other h a = record { semicolon = λ x. refl; brace = λ x. refl }

  after_word : (l : grammar.Last) (h : Head) (a : List ℕ) {xs ys : List Character} → Ended xs → grammar.Gap xs ys → Heads (from done frames end xs (word_work l h a)) h (Some a) ys
  after_word l h a q grammar.Gap.none = (word_work l h a, word_ends l h a, refl)
  after_word l h a q (grammar.Gap.more (grammar.Piece.white {x} {xs} e) d) =
      (Gap (Worded h a), record { semicolon = λ x. refl; brace = λ x. refl }, on_word_end (sort_of x.code) l h a x xs e ∙ gap done frames end (Worded h a) d)
  after_word l h a q (grammar.Gap.more (grammar.Piece.line {x} e e' d') d) = absurd (slash_ends_no_word x e q)
  after_word l h a q (grammar.Gap.more (grammar.Piece.block {x} e e' d') d) = absurd (slash_ends_no_word x e q)

  -- quoted strings
  restrung : (h : Head) (ys : List Character) (a a' : List ℕ) → a ≡ a' → from done frames end ys (Gap (Strung h a)) ≡ from done frames end ys (Gap (Strung h a'))
  restrung h ys a a' e = ap (λ q. from done frames end ys (Gap (Strung h q))) e

  on_single : (k : Sort) (h : Head) (a : List ℕ) (o : ℕ) (x : Character) (xs : List Character) → grammar.in_single k ≡ true
      → onward done frames end k (InSingle h a o None) x xs ≡ from done frames end xs (InSingle h (a ++ encode_utf8 x.code) o None)
  on_single SingleQuote h a o x xs e = absurd (false≢true e)
  on_single Forbidden h a o x xs e = absurd (false≢true e)
  on_single _ h a o x xs e = refl

  single : (h : Head) (a : List ℕ) (o : ℕ) {xs ys : List Character} {t : List ℕ} → grammar.Single xs t ys → from done frames end xs (InSingle h a o None) ≡ from done frames end ys (Gap (Strung h (a ++ t)))
  single h a o (grammar.Single.ends {x} {xs} e) = step_is done frames end SingleQuote (InSingle h a o None) x xs e ∙ restrung h xs a (a ++ []) (sym (append-nil a))
  single h a o (grammar.Single.more {x} {xs} {ys} {t} e d) =
      let u = encode_utf8 x.code in
      on_single (sort_of x.code) h a o x xs e ∙ (single h (a ++ u) o d ∙ restrung h ys ((a ++ u) ++ t) (a ++ (u ++ t)) (append_assoc a u t))

  on_double : (k : Sort) (h : Head) (a : List ℕ) (o column : ℕ) (raw : List ℕ) (x : Character) (xs : List Character) → grammar.in_double k ≡ true
      → onward done frames end k (InDouble h a o column raw None) x xs ≡ from done frames end xs (InDouble h a o column (raw ++ x.code ∷ []) None)
  on_double DoubleQuote h a o column raw x xs e = absurd (false≢true e)
  on_double Backslash h a o column raw x xs e = absurd (false≢true e)
  on_double Forbidden h a o column raw x xs e = absurd (false≢true e)
  on_double _ h a o column raw x xs e = refl

  on_escape : (h : Head) (a : List ℕ) (o column : ℕ) (raw : List ℕ) (x : Character) (xs : List Character) → is_escape x.code ≡ true
      → from done frames end (x ∷ xs) (BehindBackslash h a o column raw None) ≡ from done frames end xs (InDouble h a o column (raw ++ x.code ∷ []) None)
  on_escape h a o column raw x xs e =
      ap (λ q. from done frames end xs (InDouble h a o column (raw ++ x.code ∷ []) (cond q None (machine.spoilt None (BadEscape (x.at - 1)))))) e

  revalued : (h : Head) (a : List ℕ) (column : ℕ) (ys : List Character) (r r' : List ℕ) → r ≡ r'
      → from done frames end ys (Gap (Strung h (a ++ string_value column r))) ≡ from done frames end ys (Gap (Strung h (a ++ string_value column r')))
  revalued h a column ys r r' e = ap (λ q. from done frames end ys (Gap (Strung h (a ++ string_value column q)))) e

  double : (h : Head) (a : List ℕ) (o column : ℕ) (raw : List ℕ) {xs ys : List Character} {r : List ℕ} → grammar.Double xs r ys
      → from done frames end xs (InDouble h a o column raw None) ≡ from done frames end ys (Gap (Strung h (a ++ string_value column (raw ++ r))))
  double h a o column raw (grammar.Double.ends {x} {xs} e) =
      step_is done frames end DoubleQuote (InDouble h a o column raw None) x xs e ∙ revalued h a column xs raw (raw ++ []) (sym (append-nil raw))
  double h a o column raw (grammar.Double.more {x} {xs} {ys} {r} e d) =
      on_double (sort_of x.code) h a o column raw x xs e ∙ (double h a o column (raw ++ x.code ∷ []) d
      ∙ revalued h a column ys ((raw ++ x.code ∷ []) ++ r) (raw ++ x.code ∷ r) (simp append_assoc))
  double h a o column raw (grammar.Double.escape {x} {y} {xs} {ys} {r} e e' d) =
      step_is done frames end Backslash (InDouble h a o column raw None) x (y ∷ xs) e ∙ (on_escape h a o column (raw ++ x.code ∷ []) y xs e'
      ∙ (double h a o column ((raw ++ x.code ∷ []) ++ y.code ∷ []) d
      ∙ revalued h a column ys (((raw ++ x.code ∷ []) ++ y.code ∷ []) ++ r) (raw ++ x.code ∷ y.code ∷ r) (simp append_assoc)))

  first_string : (h : Head) {xs ys : List Character} {t : List ℕ} → grammar.Quoted xs t ys → from done frames end xs (Gap (Keyed h)) ≡ from done frames end ys (Gap (Strung h t))
  first_string h (grammar.Quoted.single {x} {xs} e d) = step_is done frames end SingleQuote (Gap (Keyed h)) x xs e ∙ single h [] x.at d
  first_string h (grammar.Quoted.double {x} {xs} e d) = step_is done frames end DoubleQuote (Gap (Keyed h)) x xs e ∙ double h [] x.at x.column [] d

  next_string : (h : Head) (a : List ℕ) {xs ys : List Character} {t : List ℕ} → grammar.Quoted xs t ys → from done frames end xs (Gap (Joining h a)) ≡ from done frames end ys (Gap (Strung h (a ++ t)))
  next_string h a (grammar.Quoted.single {x} {xs} e d) = step_is done frames end SingleQuote (Gap (Joining h a)) x xs e ∙ single h a x.at d
  next_string h a (grammar.Quoted.double {x} {xs} e d) = step_is done frames end DoubleQuote (Gap (Joining h a)) x xs e ∙ double h a x.at x.column [] d

  next_strings : (h : Head) (a : List ℕ) {xs ys : List Character} {t : List ℕ} → grammar.Joined xs t ys → from done frames end xs (Gap (Joining h a)) ≡ from done frames end ys (Gap (Strung h (a ++ t)))
  next_strings h a (grammar.Joined.one d) = next_string h a d
  next_strings h a (grammar.Joined.join {p} {xs} {ys} {zs} {us} {vs} {t} {ts} d g e g' d') =
      next_string h a d ∙ (gap done frames end (Strung h (a ++ t)) g ∙ (step_is done frames end Plus (Gap (Strung h (a ++ t))) p zs e ∙ (gap done frames end (Joining h (a ++ t)) g'
      ∙ (next_strings h (a ++ t) d' ∙ restrung h vs ((a ++ t) ++ ts) (a ++ (t ++ ts)) (append_assoc a t ts)))))

  strings : (h : Head) {xs ys : List Character} {t : List ℕ} → grammar.Joined xs t ys → from done frames end xs (Gap (Keyed h)) ≡ from done frames end ys (Gap (Strung h t))
  strings h (grammar.Joined.one d) = first_string h d
  strings h (grammar.Joined.join {p} {xs} {ys} {zs} {us} {vs} {t} {ts} d g e g' d') =
      first_string h d ∙ (gap done frames end (Strung h t) g ∙ (step_is done frames end Plus (Gap (Strung h t)) p zs e ∙ (gap done frames end (Joining h t) g' ∙ next_strings h t d')))

  -- a keyword and an argument
  after_keyword : {w : Work} {h : Head} {ys zs : List Character} → Keying w h → grammar.Gap ys zs → Heads (from done frames end ys w) h None zs
  after_keyword {w} {h} q grammar.Gap.none = (w, keying_ends q, refl)
  after_keyword {w} {h} q (grammar.Gap.more p d) = (Gap (Keyed h), record { semicolon = λ x. refl; brace = λ x. refl }, key_piece q p ∙ gap done frames end (Keyed h) d)

  along : (answer answer' : Answer) (h : Head) (a : Option (List ℕ)) (ys : List Character) → answer ≡ answer' → Heads answer' h a ys → Heads answer h a ys
  along answer answer' h a ys e r = (r.0, r.1, e ∙ r.2)

  pub heading : {x : Character} {xs ys : List Character} {k : List ℕ} {a : Option (List ℕ)} → grammar.Heading (x ∷ xs) k a ys
      → Heads (from done frames end (x ∷ xs) (Gap Between)) (record { keyword = k; at = x.at }) a ys
  heading {x} (grammar.Heading.bare {xs} {ys} {zs} {k} d g) =
      let r = keyword d in along _ (from done frames end ys r.0) _ _ _ r.2 (after_keyword r.1 g)
  heading {x} (grammar.Heading.unquoted {xs} {ys} {zs} {us} {vs} {ws} {k} {a} d p g d' g') =
      let h : Head = record { keyword = k; at = x.at } in
      let r = keyword d in
      let u = unquoted h d' in
      along _ (from done frames end vs (word_work u.0 h a)) h (Some a) ws (r.2 ∙ (key_piece r.1 p ∙ (gap done frames end (Keyed h) g ∙ u.1))) (after_word u.0 h a (unquoted_ended d') g')
  heading {x} (grammar.Heading.quoted {xs} {ys} {zs} {us} {vs} {ws} {k} {a} d p g d' g') =
      let h : Head = record { keyword = k; at = x.at } in
      let r = keyword d in
      (Gap (Strung h a), record { semicolon = λ x. refl; brace = λ x. refl }, r.2 ∙ (key_piece r.1 p ∙ (gap done frames end (Keyed h) g ∙ (strings h d' ∙ gap done frames end (Strung h a) g'))))

restart : (frames : List Frame) (end : ℕ) (ys : List Character) (done done' : List Stmt) → done ≡ done' → from done frames end ys (Gap Between) ≡ from done' frames end ys (Gap Between)
restart frames end ys done done' e = ap (λ q. from q frames end ys (Gap Between)) e

opened : (b : Bool) (answer : Fed) (fault : Fed) → b ≡ true → cond b answer fault ≡ answer
opened b answer fault e = ap (λ q. cond q answer fault) e

-- statements, of which the first is read after `done` and inside of `frames`
statements : (done : List Stmt) (frames : List Frame) (end : ℕ) {n : ℕ} {xs ys : List Character} {list : List Stmt} → n ≡ length frames → grammar.Statements n xs list ys
    → from done frames end xs (Gap Between) ≡ from (done ++ list) frames end ys (Gap Between)
statements done frames end q (grammar.Statements.none {n} {xs}) = restart frames end xs done (done ++ []) (sym (append-nil done))
statements done frames end q (grammar.Statements.gap p d) = piece done frames end Between p ∙ statements done frames end q d
statements done frames end q (grammar.Statements.leaf {n} {x} {e} {xs} {ys} {zs} {k} {a} {list} d is rest) =
    let r = heading done frames end d in
    let st = statement k a [] x.at in
    r.2 ∙ (step_is done frames end Semicolon r.0 e ys is ∙ (ap (λ v. fed v (λ t. run ys t end)) (r.1.semicolon e)
    ∙ (statements (done ++ st ∷ []) frames end q rest ∙ restart frames end zs ((done ++ st ∷ []) ++ list) (done ++ st ∷ list) (append_assoc done (st ∷ []) list))))
statements done frames end q (grammar.Statements.block {n} {x} {o} {c} {xs} {ys} {zs} {us} {k} {a} {subs} {list} d is deep inside is' rest) =
    let h : Head = record { keyword = k; at = x.at } in
    let r = heading done frames end d in
    let st = statement k a subs x.at in
    let f = framed (at_work done frames end r.0) h a in
    let deep' : nat_lt (length frames) 32 ≡ true = ap (λ m. nat_lt m 32) (sym q) ∙ deep in
    r.2 ∙ (step_is done frames end OpenBrace r.0 o ys is ∙ (ap (λ v. fed v (λ t. run ys t end)) (r.1.brace o ∙ opened _ _ _ deep')
    ∙ (statements [] (f ∷ frames) end (ap suc q) inside ∙ (step_is subs (f ∷ frames) end CloseBrace (Gap Between) c zs is'
    ∙ (statements (done ++ st ∷ []) frames end q rest ∙ restart frames end us ((done ++ st ∷ []) ++ list) (done ++ st ∷ list) (append_assoc done (st ∷ []) list))))))

-- what is spelled so is read
pub complete : (end : ℕ) {xs : List Character} {list : List Stmt} → grammar.Statements 0 xs list [] → run xs machine.start end ≡ Ok list
complete end d = statements [] [] end refl d
