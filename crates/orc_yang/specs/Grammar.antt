-- The statement grammar of YANG (RFC 7950 section 6), apart from the program that reads it. Each
-- relation says that the characters of its first list begin with what it is named after; its last
-- list is what follows.
use Rattle.std.specs.Prelude.{ℕ, suc, Bool, true, false, ◌≡◌, nat_lt, List, [], ◌∷◌, ◌++◌, Option, Some, None, encode_utf8}
use Rattle.orc_yang.specs.declared.character.Sort.{Sort}
use Rattle.orc_yang.specs.declared.character.Sort.TheVariants.{LineFeed, Blank, Semicolon, OpenBrace, CloseBrace, DoubleQuote, SingleQuote, Slash, Star, Plus, Colon, Backslash, Start, Inner, Forbidden}
use Rattle.orc_yang.specs.declared.statement.Stmt.{Stmt}
use Rattle.orc_yang.specs.declared.statement.TheConstants.{MAX_DEPTH}
use Rattle.orc_yang.specs.declared.character.Character.{Character}
use Rattle.orc_yang.specs.Sorts.{sort_of}
use Rattle.orc_yang.specs.Quoted.{string_value, is_escape}
use Rattle.orc_yang.specs.Statement.{statement}

-- x is of this sort
abbrev pub Is : Sort → Character → Type 0
Is k x = sort_of x.code ≡ k

-- x is of a sort that passes the test
abbrev pub Of : (Sort → Bool) → Character → Type 0
Of test x = test (sort_of x.code) ≡ true

abbrev pub is_white : Sort → Bool
is_white LineFeed = true
is_white Blank = true
is_white _ = false

-- may stand in a comment to the line's end
abbrev pub in_line : Sort → Bool
in_line LineFeed = false
in_line Forbidden = false
in_line _ = true

-- may stand in a comment, and is no `*`
abbrev pub in_comment : Sort → Bool
in_comment Star = false
in_comment Forbidden = false
in_comment _ = true

-- may stand after a `*` in a comment, and is neither `*` nor `/`
abbrev pub behind_star : Sort → Bool
behind_star Slash = false
behind_star k = in_comment k

abbrev pub in_identifier : Sort → Bool
in_identifier Start = true
in_identifier Inner = true
in_identifier _ = false

-- may stand in an unquoted string
abbrev pub in_word : Sort → Bool
in_word LineFeed = false
in_word Blank = false
in_word Semicolon = false
in_word OpenBrace = false
in_word CloseBrace = false
in_word DoubleQuote = false
in_word SingleQuote = false
in_word Forbidden = false
in_word _ = true

-- ends an unquoted string
abbrev pub ends_word : Sort → Bool
ends_word Semicolon = true
ends_word OpenBrace = true
ends_word k = is_white k

-- Two neighbours that make no comment mark. The first is a slash, a `*`, or something else.
pub data Last : Type 0 where
  slash : Last
  star : Last
  other : Last

abbrev pub last_of : Sort → Last
last_of Slash = slash
last_of Star = star
last_of _ = other

abbrev pub makes_no_mark : Last → Sort → Bool
makes_no_mark slash Slash = false
makes_no_mark slash Star = false
makes_no_mark star Slash = false
makes_no_mark _ _ = true

-- may stand in a single-quoted string
abbrev pub in_single : Sort → Bool
in_single SingleQuote = false
in_single Forbidden = false
in_single _ = true

-- may stand in a double-quoted string by itself
abbrev pub in_double : Sort → Bool
in_double DoubleQuote = false
in_double Backslash = false
in_double Forbidden = false
in_double _ = true

-- after `//`: to the end of the line, or of the text
pub data Line : List Character → List Character → Type 0 where
  at_end : Line [] []
  at_feed : {x : Character} {xs : List Character} → Is LineFeed x → Line (x ∷ xs) xs
  more : {x : Character} {xs ys : List Character} → Of in_line x → Line xs ys → Line (x ∷ xs) ys

-- after `/*`: to the first `*/`; the flag says that a `*` stands before
pub data Comment : Bool → List Character → List Character → Type 0 where
  ends : {x : Character} {xs : List Character} → Is Slash x → Comment true (x ∷ xs) xs
  star : {b : Bool} {x : Character} {xs ys : List Character} → Is Star x → Comment true xs ys → Comment b (x ∷ xs) ys
  more : {x : Character} {xs ys : List Character} → Of in_comment x → Comment false xs ys → Comment false (x ∷ xs) ys
  back : {x : Character} {xs ys : List Character} → Of behind_star x → Comment false xs ys → Comment true (x ∷ xs) ys

-- one character of white space, or a comment
pub data Piece : List Character → List Character → Type 0 where
  white : {x : Character} {xs : List Character} → Of is_white x → Piece (x ∷ xs) xs
  line : {x y : Character} {xs ys : List Character} → Is Slash x → Is Slash y → Line xs ys → Piece (x ∷ y ∷ xs) ys
  block : {x y : Character} {xs ys : List Character} → Is Slash x → Is Star y → Comment false xs ys
      → Piece (x ∷ y ∷ xs) ys

-- white space and comments, or nothing
pub data Gap : List Character → List Character → Type 0 where
  none : {xs : List Character} → Gap xs xs
  more : {xs ys zs : List Character} → Piece xs ys → Gap ys zs → Gap xs zs

-- the characters of an identifier after its first (RFC 7950 section 6.2)
pub data Letters : List Character → List ℕ → List Character → Type 0 where
  none : {xs : List Character} → Letters xs [] xs
  more : {x : Character} {xs ys : List Character} {k : List ℕ} → Of in_identifier x → Letters xs k ys
      → Letters (x ∷ xs) (encode_utf8 x.code ++ k) ys

-- an identifier, or a prefix, a colon and an identifier
pub data Keyword : List Character → List ℕ → List Character → Type 0 where
  plain : {x : Character} {xs ys : List Character} {k : List ℕ} → Is Start x → Letters xs k ys
      → Keyword (x ∷ xs) (encode_utf8 x.code ++ k) ys
  prefixed : {x c y : Character} {xs ys zs : List Character} {p k : List ℕ} → Is Start x → Letters xs p (c ∷ y ∷ ys)
      → Is Colon c → Is Start y → Letters ys k zs
      → Keyword (x ∷ xs) (encode_utf8 x.code ++ (p ++ (encode_utf8 c.code ++ (encode_utf8 y.code ++ k)))) zs

-- the characters of an unquoted string after this one
pub data Word : Last → List Character → List ℕ → List Character → Type 0 where
  ends : {l : Last} {x : Character} {xs : List Character} → Of ends_word x → Word l (x ∷ xs) [] (x ∷ xs)
  more : {l : Last} {x : Character} {xs ys : List Character} {w : List ℕ} → Of in_word x → Of (makes_no_mark l) x
      → Word (last_of (sort_of x.code)) xs w ys
      → Word l (x ∷ xs) (encode_utf8 x.code ++ w) ys

-- an unquoted string, up to white space, `;` or `{`
pub data Unquoted : List Character → List ℕ → List Character → Type 0 where
  word : {x : Character} {xs ys : List Character} {w : List ℕ} → Of in_word x
      → Word (last_of (sort_of x.code)) xs w ys → Unquoted (x ∷ xs) (encode_utf8 x.code ++ w) ys

-- after an opening single quote: to the closing one
pub data Single : List Character → List ℕ → List Character → Type 0 where
  ends : {x : Character} {xs : List Character} → Is SingleQuote x → Single (x ∷ xs) [] xs
  more : {x : Character} {xs ys : List Character} {t : List ℕ} → Of in_single x → Single xs t ys
      → Single (x ∷ xs) (encode_utf8 x.code ++ t) ys

-- after an opening double quote: the characters to the closing one
pub data Double : List Character → List ℕ → List Character → Type 0 where
  ends : {x : Character} {xs : List Character} → Is DoubleQuote x → Double (x ∷ xs) [] xs
  more : {x : Character} {xs ys : List Character} {r : List ℕ} → Of in_double x → Double xs r ys
      → Double (x ∷ xs) (x.code ∷ r) ys
  escape : {x y : Character} {xs ys : List Character} {r : List ℕ} → Is Backslash x → is_escape y.code ≡ true
      → Double xs r ys → Double (x ∷ y ∷ xs) (x.code ∷ y.code ∷ r) ys

-- a quoted string, and what it stands for
pub data Quoted : List Character → List ℕ → List Character → Type 0 where
  single : {x : Character} {xs ys : List Character} {t : List ℕ} → Is SingleQuote x → Single xs t ys
      → Quoted (x ∷ xs) t ys
  double : {x : Character} {xs ys : List Character} {r : List ℕ} → Is DoubleQuote x → Double xs r ys
      → Quoted (x ∷ xs) (string_value x.column r) ys

-- quoted strings joined by `+`
pub data Joined : List Character → List ℕ → List Character → Type 0 where
  one : {xs ys : List Character} {t : List ℕ} → Quoted xs t ys → Joined xs t ys
  join : {p : Character} {xs ys zs us vs : List Character} {t ts : List ℕ} → Quoted xs t ys → Gap ys (p ∷ zs)
      → Is Plus p → Gap zs us → Joined us ts vs → Joined xs (t ++ ts) vs

-- a keyword and an optional argument, up to `;` or `{`
pub data Heading : List Character → List ℕ → Option (List ℕ) → List Character → Type 0 where
  bare : {xs ys zs : List Character} {k : List ℕ} → Keyword xs k ys → Gap ys zs → Heading xs k None zs
  unquoted : {xs ys zs us vs ws : List Character} {k a : List ℕ} → Keyword xs k ys → Piece ys zs → Gap zs us
      → Unquoted us a vs → Gap vs ws → Heading xs k (Some a) ws
  quoted : {xs ys zs us vs ws : List Character} {k a : List ℕ} → Keyword xs k ys → Piece ys zs → Gap zs us
      → Joined us a vs → Gap vs ws → Heading xs k (Some a) ws

-- statements inside of n blocks, of which there are MAX_DEPTH at most
pub data Statements : ℕ → List Character → List Stmt → List Character → Type 0 where
  none : {n : ℕ} {xs : List Character} → Statements n xs [] xs
  gap : {n : ℕ} {xs ys zs : List Character} {list : List Stmt} → Piece xs ys → Statements n ys list zs
      → Statements n xs list zs
  leaf : {n : ℕ} {x e : Character} {xs ys zs : List Character} {k : List ℕ} {a : Option (List ℕ)} {list : List Stmt}
      → Heading (x ∷ xs) k a (e ∷ ys) → Is Semicolon e → Statements n ys list zs
      → Statements n (x ∷ xs) (statement k a [] x.at ∷ list) zs
  block : {n : ℕ} {x o c : Character} {xs ys zs us : List Character} {k : List ℕ} {a : Option (List ℕ)}
      {subs list : List Stmt}
      → Heading (x ∷ xs) k a (o ∷ ys) → Is OpenBrace o → nat_lt n MAX_DEPTH ≡ true
      → Statements (suc n) ys subs (c ∷ zs)
      → Is CloseBrace c → Statements n zs list us
      → Statements n (x ∷ xs) (statement k a subs x.at ∷ list) us
