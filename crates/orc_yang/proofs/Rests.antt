-- What the grammar has after each work of the machine.
use Rattle.std.proofs.Common.{◌≡◌, ℕ, Bool, true, false, nat_lt, List, [], ◌∷◌, ◌++◌, length, Option, Some, None, Ok, Err}
use Rattle.std.specs.Char.{encode_utf8}
use Rattle.orc_yang.specs.declared.character.Sort.TheVariants.{Semicolon, OpenBrace, CloseBrace, Slash, Plus, Colon, Start}
use Rattle.orc_yang.specs.declared.statement.Stmt.{Stmt}
use Rattle.orc_yang.specs.declared.character.Character.{Character}
use Rattle.orc_yang.specs.declared.parser.Frame.{Frame}
use Rattle.orc_yang.specs.Statement.{statement}
use Rattle.orc_yang.specs.Quoted.{string_value, is_escape}
use Rattle.orc_yang.specs.Grammar as grammar
use Rattle.orc_yang.specs.Grammar.{Is, Of, Line, Comment, Piece, Letters, Keyword, Word, Unquoted, Single, Double, Quoted, Joined, Heading, Statements}
use Rattle.orc_yang.specs.Machine.{Head, Spot, Between, Keyed, Worded, Strung, Joining, Work, Gap, Slashed, InLine, InBlock, BehindStar, InKeyword, BehindColon, InSecond, Lone, WordSlash, WordStar, InWord, InSingle, InDouble, BehindBackslash, Fed, ended}

-- after the statements of a block: the end of the text, or the closing brace and the rest of the block around
abbrev pub Closed : List Frame → List Stmt → List Character → List Stmt → Type 0
Closed [] d ys list = (ys ≡ []) × (list ≡ d)
Closed (f ∷ fs) d ys list = (c : Character) × (zs : List Character) × (more : List Stmt) × (us : List Character)
    × (ys ≡ c ∷ zs) × Is CloseBrace c × Statements (length fs) zs more us × Closed fs (ended f d ++ more) us list

-- the rest of the text between two statements
pub record Tail (done : List Stmt) (frames : List Frame) (list : List Stmt) (xs : List Character) : Type 0 where
  pub more : List Stmt
  pub rest : List Character
  pub body : Statements (length frames) xs more rest
  pub closed : Closed frames (done ++ more) rest list

module _ (done : List Stmt) (frames : List Frame) (list : List Stmt) where
  -- after a heading
  pub data Ending (h : Head) (a : Option (List ℕ)) : List Character → Type 0 where
    semicolon : {e : Character} {ys : List Character} → Is Semicolon e → Tail (done ++ statement h.keyword a [] h.at ∷ []) frames list ys → Ending h a (e ∷ ys)
    brace : {o : Character} {ys : List Character} → Is OpenBrace o → nat_lt (length frames) 32 ≡ true
        → Tail [] (record { keyword = h.keyword; argument = a; at = h.at; before = done } ∷ frames) list ys → Ending h a (o ∷ ys)

  -- after an unquoted argument
  pub data Argued (h : Head) (a : List ℕ) : List Character → Type 0 where
    argued : {xs ys : List Character} → grammar.Gap xs ys → Ending h (Some a) ys → Argued h a xs

  -- after a quoted string
  pub data Stringed (h : Head) (a : List ℕ) : List Character → Type 0 where
    last : {xs ys : List Character} → grammar.Gap xs ys → Ending h (Some a) ys → Stringed h a xs
    joined : {p : Character} {xs zs us vs ws : List Character} {t : List ℕ} → grammar.Gap xs (p ∷ zs) → Is Plus p → grammar.Gap zs us → Joined us t vs → grammar.Gap vs ws
        → Ending h (Some (a ++ t)) ws → Stringed h a xs

  -- after a plus
  pub data Plussed (h : Head) (a : List ℕ) : List Character → Type 0 where
    plussed : {xs us vs ws : List Character} {t : List ℕ} → grammar.Gap xs us → Joined us t vs → grammar.Gap vs ws → Ending h (Some (a ++ t)) ws → Plussed h a xs

  -- after a keyword and a gap
  pub data AfterKey (h : Head) : List Character → Type 0 where
    bare : {xs ys : List Character} → grammar.Gap xs ys → Ending h None ys → AfterKey h xs
    word : {xs us vs ws : List Character} {a : List ℕ} → grammar.Gap xs us → Unquoted us a vs → grammar.Gap vs ws → Ending h (Some a) ws → AfterKey h xs
    strings : {xs us vs ws : List Character} {a : List ℕ} → grammar.Gap xs us → Joined us a vs → grammar.Gap vs ws → Ending h (Some a) ws → AfterKey h xs

  -- after a keyword
  pub data KeyEnd (h : Head) : List Character → Type 0 where
    bare : {xs ys : List Character} → grammar.Gap xs ys → Ending h None ys → KeyEnd h xs
    parted : {xs ys : List Character} → Piece xs ys → AfterKey h ys → KeyEnd h xs

  abbrev pub longer : Head → List ℕ → Head
  longer h k = record { keyword = h.keyword ++ k; at = h.at }

  pub data KeyFirst (h : Head) : List Character → Type 0 where
    plain : {xs ys : List Character} {k : List ℕ} → Letters xs k ys → KeyEnd (longer h k) ys → KeyFirst h xs
    prefixed : {c y : Character} {xs ys zs : List Character} {p k : List ℕ} → Letters xs p (c ∷ y ∷ ys) → Is Colon c → Is Start y → Letters ys k zs
        → KeyEnd (longer h (p ++ (encode_utf8 c.code ++ (encode_utf8 y.code ++ k)))) zs → KeyFirst h xs

  pub data KeyColon (h : Head) : List Character → Type 0 where
    begun : {y : Character} {ys zs : List Character} {k : List ℕ} → Is Start y → Letters ys k zs → KeyEnd (longer h (encode_utf8 y.code ++ k)) zs → KeyColon h (y ∷ ys)

  pub data KeySecond (h : Head) : List Character → Type 0 where
    plain : {xs ys : List Character} {k : List ℕ} → Letters xs k ys → KeyEnd (longer h k) ys → KeySecond h xs

  pub data InWordRest (l : grammar.Last) (h : Head) (a : List ℕ) : List Character → Type 0 where
    word : {xs ys : List Character} {w : List ℕ} → Word l xs w ys → Argued h (a ++ w) ys → InWordRest l h a xs

  pub data SingleRest (h : Head) (a : List ℕ) : List Character → Type 0 where
    single : {xs ys : List Character} {t : List ℕ} → Single xs t ys → Stringed h (a ++ t) ys → SingleRest h a xs

  pub data DoubleRest (h : Head) (a : List ℕ) (column : ℕ) (raw : List ℕ) : List Character → Type 0 where
    double : {xs ys : List Character} {r : List ℕ} → Double xs r ys → Stringed h (a ++ string_value column (raw ++ r)) ys → DoubleRest h a column raw xs

  pub data EscapeRest (h : Head) (a : List ℕ) (column : ℕ) (raw : List ℕ) : List Character → Type 0 where
    escape : {y : Character} {ys zs : List Character} {r : List ℕ} → is_escape y.code ≡ true → Double ys r zs → Stringed h (a ++ string_value column (raw ++ y.code ∷ r)) zs
        → EscapeRest h a column raw (y ∷ ys)

  abbrev pub RestGap : Spot → List Character → Type 0
  RestGap Between xs = Tail done frames list xs
  RestGap (Keyed h) xs = AfterKey h xs
  RestGap (Worded h a) xs = Argued h a xs
  RestGap (Strung h a) xs = Stringed h a xs
  RestGap (Joining h a) xs = Plussed h a xs

  -- the rest of a comment, and what follows it
  pub record Commented (b : Bool) (spot : Spot) (xs : List Character) : Type 0 where
    pub rest : List Character
    pub comment : Comment b xs rest
    pub goes : RestGap spot rest

  pub record Lined (spot : Spot) (xs : List Character) : Type 0 where
    pub rest : List Character
    pub line : Line xs rest
    pub goes : RestGap spot rest

  pub record Parted (spot : Spot) (xs : List Character) : Type 0 where
    pub rest : List Character
    pub piece : Piece xs rest
    pub goes : RestGap spot rest

  -- the rest of the text, by what the machine goes on with
  abbrev pub Rest : Work → List Character → Type 0
  Rest (Gap spot) xs = RestGap spot xs
  Rest (Slashed spot o) xs = (x : Character) → Is Slash x → Parted spot (x ∷ xs)
  Rest (InLine spot) xs = Lined spot xs
  Rest (InBlock spot o p) xs = (p ≡ None) × Commented false spot xs
  Rest (BehindStar spot o p) xs = (p ≡ None) × Commented true spot xs
  Rest (InKeyword h) xs = KeyFirst h xs
  Rest (BehindColon h) xs = KeyColon h xs
  Rest (InSecond h) xs = KeySecond h xs
  Rest (Lone h a o) xs = (x : Character) → Is Slash x → a ≡ encode_utf8 x.code → AfterKey h (x ∷ xs)
  Rest (WordSlash h a) xs = InWordRest grammar.Last.slash h a xs
  Rest (WordStar h a) xs = InWordRest grammar.Last.star h a xs
  Rest (InWord h a) xs = InWordRest grammar.Last.other h a xs
  Rest (InSingle h a o p) xs = (p ≡ None) × SingleRest h a xs
  Rest (InDouble h a o column raw p) xs = (p ≡ None) × DoubleRest h a column raw xs
  Rest (BehindBackslash h a o column raw p) xs = (p ≡ None) × EscapeRest h a column raw xs

-- the rest after a step
abbrev pub RestFed : List Stmt → List Character → Fed → Type 0
RestFed list xs (Ok s) = Rest s.done s.frames list s.work xs
RestFed list xs (Err fault) = ⊥
