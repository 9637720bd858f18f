-- Reading an expression or a condition byte by byte.
use Rattle.std.specs.Prelude.{◌≡◌, ℕ, ◌-◌, ◌+◌, Bool, true, false, ◌==◌, ◌&&◌, List, [], ◌∷◌, ◌++◌, length, codes, Option, Result, IsTrue, IfOk, MatchBool, if◌then◌else◌}
use Rattle.std.specs.declared.option.Option.TheVariants.{None, Some}
use Rattle.std.specs.Option.{option_and_then}
use Rattle.orc_path.specs.Alphabet.{is_name_start, is_name_byte, is_identifier, is_qualified}
use Rattle.orc_expr.specs.Expressions.{Expression, Here, FromRoot, FromContext, Below, Quoted, Front, Whole, is_role, is_quotable, ups_text, expression_text, Condition}
use Rattle.orc_expr.specs.Parts.{Bracket, closed, built_of}
use Rattle.orc_expr.specs.declared.expr.Test.{Test}
use Rattle.orc_expr.specs.declared.expr.Test.TheVariants.{Any, Equals, Differs}
use Rattle.orc_expr.specs.declared.mode.Mode.{Mode}
use Rattle.orc_expr.specs.declared.mode.Mode.TheVariants as mode
use Rattle.orc_expr.specs.declared.reader.Reader.{Reader}

-- where a reader stands, with what it has of the expression after the last open bracket
pub data Place : Type 0 where
  Begin : Place
  Dot : Place
  Ups : ℕ → Place
  UpDot : ℕ → Place
  UpDots : ℕ → Place
  Slash : Place
  Module : List ℕ → Place
  Colon : List ℕ → Place
  RootName : List ℕ → Place
  FirstName : ℕ → List ℕ → Place
  Next : Expression → Place
  LaterName : Expression → List ℕ → Place
  OpenAt : Expression → Place
  KeyName : Expression → List ℕ → Place
  InQuotes : List ℕ → Place
  EndQuotes : List ℕ → Place
  ClosedAt : Expression → Place
  Spaced : Expression → Place
  Bang : Expression → Place
  Sign : Expression → Bool → Place
  SignSpace : Expression → Bool → Place
  InTest : Expression → Bool → List ℕ → Place
  Tested : Expression → Bool → List ℕ → Place

-- whether a condition is read, how many brackets are open, and these, the innermost first
pub record Reading : Type 0 where
  pub conditional : Bool
  pub depth : ℕ
  pub outer : List Bracket
  pub place : Place

abbrev pub at : Reading → Place → Option Reading
at r place = Some (record r { place = place })

-- after a term, a closing bracket
abbrev pub closing : Reading → Expression → Option Reading
closing r e =
    if r.depth == 0 then None else
    Some (record r {
      depth = r.depth - 1;
      outer = (closed r.outer e).outer;
      place = ClosedAt (closed r.outer e).now;
    })

-- after an expression that ends: a closing bracket, or the space before a test
abbrev pub ended : Reading → Expression → ℕ → Option Reading
ended r e b =
    if b == 93 then closing r e else
    if b == 32 then (if r.conditional && (r.depth == 0) then at r (Spaced e) else None) else None

-- after an expression that a step or a predicate may follow
abbrev pub goes_on : Reading → Expression → ℕ → Option Reading
goes_on r e b =
    if b == 91 then at r (OpenAt e) else
    if b == 47 then at r (Next e) else ended r e b

-- in a name that may go on
abbrev pub in_name : Reading → Place → Expression → ℕ → Option Reading
in_name r longer e b = if is_name_byte b then at r longer else goes_on r e b

abbrev pub starts : Reading → Place → ℕ → Option Reading
starts r place b = if is_name_start b then at r place else None

-- in a text in quotes
abbrev pub in_quotes : Reading → Place → Place → ℕ → Option Reading
in_quotes r longer end b =
    if b == 39 then at r end else
    if b == 125 then None else at r longer

abbrev pub feed_begin : Reading → ℕ → Option Reading
feed_begin r b =
    if b == 46 then at r Dot else
    if b == 47 then at r Slash else
    if b == 39 then (if r.depth == 0 then None else at r (InQuotes [])) else
    starts r (FirstName 0 (b ∷ [])) b

abbrev pub feed_key : Reading → Expression → List ℕ → ℕ → Option Reading
feed_key r e key b =
    if is_name_byte b then at r (KeyName e (key ++ b ∷ [])) else
    if b == 61 then Some (record r {
      depth = r.depth + 1;
      outer = record { front = e; key = key } ∷ r.outer;
      place = Begin;
    }) else None

abbrev pub feed_at : Place → Reading → ℕ → Option Reading
feed_at Begin r b = feed_begin r b
feed_at Dot r b = if b == 46 then at r (UpDots 0) else ended r Here b
feed_at (Ups ups) r b = if b == 46 then at r (UpDot ups) else starts r (FirstName ups (b ∷ [])) b
feed_at (UpDot ups) r b = if b == 46 then at r (UpDots ups) else None
feed_at (UpDots ups) r b = if b == 47 then at r (Ups (ups + 1)) else None
feed_at Slash r b = starts r (Module (b ∷ [])) b
feed_at (Module name) r b =
    if b == 58 then at r (Colon (name ++ b ∷ [])) else
    if is_name_byte b then at r (Module (name ++ b ∷ [])) else None
feed_at (Colon name) r b = starts r (RootName (name ++ b ∷ [])) b
feed_at (RootName name) r b = in_name r (RootName (name ++ b ∷ [])) (FromRoot name) b
feed_at (FirstName ups name) r b = in_name r (FirstName ups (name ++ b ∷ [])) (FromContext ups name) b
feed_at (Next e) r b = starts r (LaterName e (b ∷ [])) b
feed_at (LaterName e name) r b = in_name r (LaterName e (name ++ b ∷ [])) (Below e name) b
feed_at (OpenAt e) r b = starts r (KeyName e (b ∷ [])) b
feed_at (KeyName e key) r b = feed_key r e key b
feed_at (InQuotes text) r b = in_quotes r (InQuotes (text ++ b ∷ [])) (EndQuotes text) b
feed_at (EndQuotes text) r b = if b == 93 then closing r (Quoted text) else None
feed_at (ClosedAt e) r b = goes_on r e b
feed_at (Spaced e) r b =
    if b == 61 then at r (Sign e false) else
    if b == 33 then at r (Bang e) else None
feed_at (Bang e) r b = if b == 61 then at r (Sign e true) else None
feed_at (Sign e differs) r b = if b == 32 then at r (SignSpace e differs) else None
feed_at (SignSpace e differs) r b = if b == 39 then at r (InTest e differs []) else None
feed_at (InTest e differs text) r b =
    in_quotes r (InTest e differs (text ++ b ∷ [])) (Tested e differs text) b
feed_at (Tested e differs text) r b = None

-- the reading after a byte, where one may stand
abbrev pub feed : Reading → ℕ → Option Reading
feed r b = feed_at r.place r b

-- the reading after bytes, where each of them may stand
abbrev pub feed_all : Reading → List ℕ → Option Reading
feed_all r [] = Some r
feed_all r (b ∷ bs) = option_and_then (λ next. feed_all next bs) (feed r b)

abbrev pub start : Bool → Reading
start conditional = record { conditional = conditional; depth = 0; outer = []; place = Begin }

abbrev pub test_of : Bool → List ℕ → Test
test_of true text = Differs text
test_of false text = Equals text

-- the condition, where the text may end here
abbrev pub whole_at : Place → Option Condition
whole_at Begin = None
whole_at Dot = Some (record { look = Here; test = Any })
whole_at (Ups ups) = None
whole_at (UpDot ups) = None
whole_at (UpDots ups) = None
whole_at Slash = None
whole_at (Module name) = None
whole_at (Colon name) = None
whole_at (RootName name) = Some (record { look = FromRoot name; test = Any })
whole_at (FirstName ups name) = Some (record { look = FromContext ups name; test = Any })
whole_at (Next e) = None
whole_at (LaterName e name) = Some (record { look = Below e name; test = Any })
whole_at (OpenAt e) = None
whole_at (KeyName e key) = None
whole_at (InQuotes text) = None
whole_at (EndQuotes text) = None
whole_at (ClosedAt e) = Some (record { look = e; test = Any })
whole_at (Spaced e) = None
whole_at (Bang e) = None
whole_at (Sign e differs) = None
whole_at (SignSpace e differs) = None
whole_at (InTest e differs text) = None
whole_at (Tested e differs text) = Some (record { look = e; test = test_of differs text })

abbrev pub whole : Reading → Option Condition
whole r = if r.depth == 0 then whole_at r.place else None

-- where a reader stands
abbrev pub place_of : Mode → Expression → ℕ → List ℕ → Bool → List ℕ → Place
place_of mode.Begin now ups name differs text = Begin
place_of mode.Dot now ups name differs text = Dot
place_of mode.Ups now ups name differs text = Ups ups
place_of mode.UpDot now ups name differs text = UpDot ups
place_of mode.UpDots now ups name differs text = UpDots ups
place_of mode.Slash now ups name differs text = Slash
place_of mode.Module now ups name differs text = Module name
place_of mode.Colon now ups name differs text = Colon name
place_of mode.RootName now ups name differs text = RootName name
place_of mode.FirstName now ups name differs text = FirstName ups name
place_of mode.Next now ups name differs text = Next now
place_of mode.LaterName now ups name differs text = LaterName now name
place_of mode.OpenAt now ups name differs text = OpenAt now
place_of mode.KeyName now ups name differs text = KeyName now name
place_of mode.InQuotes now ups name differs text = InQuotes text
place_of mode.EndQuotes now ups name differs text = EndQuotes text
place_of mode.ClosedAt now ups name differs text = ClosedAt now
place_of mode.Spaced now ups name differs text = Spaced now
place_of mode.Bang now ups name differs text = Bang now
place_of mode.Sign now ups name differs text = Sign now differs
place_of mode.SignSpace now ups name differs text = SignSpace now differs
place_of mode.InTest now ups name differs text = InTest now differs text
place_of mode.Tested now ups name differs text = Tested now differs text

abbrev pub reading_of : Reader → Reading
reading_of r = record {
  conditional = r.conditional;
  depth = r.depth;
  outer = (built_of r.parts).outer;
  place = place_of r.mode (built_of r.parts).now r.ups r.name r.differs r.text;
}

-- Whether a byte or a character was taken: it was where one may stand there, and this is then the next reading.
abbrev pub Fed : {E : Type 0} → Option Reading → Reader → Result Bool E → Type 0
Fed next new result = IfOk result (λ taken. MatchBool taken (next ≡ Some (reading_of new)) (next ≡ None))

-- an expression that a step or a predicate may follow
abbrev pub IsFront : Expression → Type 0
IsFront e = IsTrue (is_role Front e)

-- a test stands after an expression, in a condition and in no bracket
pub record IsTested (e : Expression) (quoted : List ℕ) (depth : ℕ) (conditional : Bool) : Type 0 where
  pub whole : IsTrue (is_role Whole e)
  pub text : IsTrue (is_quotable quoted)
  pub none : (depth == 0) ≡ true
  pub allowed : conditional ≡ true

-- what the parts are at each place; quotes stand in a bracket, and the test of a condition in none
abbrev pub FitsAt : Place → ℕ → Bool → Type 0
FitsAt Begin depth conditional = Unit {0}
FitsAt Dot depth conditional = Unit {0}
FitsAt (Ups ups) depth conditional = Unit {0}
FitsAt (UpDot ups) depth conditional = Unit {0}
FitsAt (UpDots ups) depth conditional = Unit {0}
FitsAt Slash depth conditional = Unit {0}
FitsAt (Module name) depth conditional = IsTrue (is_identifier name)
FitsAt (Colon name) depth conditional = (b : ℕ) → IsTrue (is_name_start b) → IsTrue (is_qualified (name ++ b ∷ []))
FitsAt (RootName name) depth conditional = IsTrue (is_qualified name)
FitsAt (FirstName ups name) depth conditional = IsTrue (is_identifier name)
FitsAt (Next e) depth conditional = IsFront e
FitsAt (LaterName e name) depth conditional = IsFront e × IsTrue (is_identifier name)
FitsAt (OpenAt e) depth conditional = IsFront e
FitsAt (KeyName e key) depth conditional = IsFront e × IsTrue (is_identifier key)
FitsAt (InQuotes text) depth conditional = IsTrue (is_quotable text) × ((depth == 0) ≡ false)
FitsAt (EndQuotes text) depth conditional = IsTrue (is_quotable text) × ((depth == 0) ≡ false)
FitsAt (ClosedAt e) depth conditional = IsFront e
FitsAt (Spaced e) depth conditional = IsTested e [] depth conditional
FitsAt (Bang e) depth conditional = IsTested e [] depth conditional
FitsAt (Sign e differs) depth conditional = IsTested e [] depth conditional
FitsAt (SignSpace e differs) depth conditional = IsTested e [] depth conditional
FitsAt (InTest e differs text) depth conditional = IsTested e text depth conditional
FitsAt (Tested e differs text) depth conditional = IsTested e text depth conditional

-- each bracket stands after an expression, and its key is a name
abbrev pub FitBrackets : List Bracket → Type 0
FitBrackets [] = Unit {0}
FitBrackets (bracket ∷ outer) =
    IsFront bracket.front × IsTrue (is_identifier bracket.key) × FitBrackets outer

pub record Fits (r : Reading) : Type 0 where
  pub depth : r.depth ≡ length r.outer
  pub brackets : FitBrackets r.outer
  pub parts : FitsAt r.place r.depth r.conditional

-- whether a byte was taken by a step that takes no memory: this is then the next reading
abbrev pub Went : Option Reading → Reader → Bool → Type 0
Went next new taken = MatchBool taken (next ≡ Some (reading_of new)) (next ≡ None)

-- the text of what was read
abbrev pub sign_text : Bool → List ℕ
sign_text true = codes " != '"
sign_text false = codes " = '"

abbrev pub place_text : Place → List ℕ
place_text Begin = []
place_text Dot = codes "."
place_text (Ups ups) = ups_text ups
place_text (UpDot ups) = ups_text ups ++ codes "."
place_text (UpDots ups) = ups_text ups ++ codes ".."
place_text Slash = codes "/"
place_text (Module name) = codes "/" ++ name
place_text (Colon name) = codes "/" ++ name
place_text (RootName name) = codes "/" ++ name
place_text (FirstName ups name) = ups_text ups ++ name
place_text (Next e) = expression_text e ++ codes "/"
place_text (LaterName e name) = expression_text e ++ codes "/" ++ name
place_text (OpenAt e) = expression_text e ++ codes "["
place_text (KeyName e key) = expression_text e ++ codes "[" ++ key
place_text (InQuotes text) = codes "'" ++ text
place_text (EndQuotes text) = codes "'" ++ text ++ codes "'"
place_text (ClosedAt e) = expression_text e
place_text (Spaced e) = expression_text e ++ codes " "
place_text (Bang e) = expression_text e ++ codes " !"
place_text (Sign e true) = expression_text e ++ codes " !="
place_text (Sign e false) = expression_text e ++ codes " ="
place_text (SignSpace e true) = expression_text e ++ codes " != "
place_text (SignSpace e false) = expression_text e ++ codes " = "
place_text (InTest e differs text) = expression_text e ++ (sign_text differs ++ text)
place_text (Tested e differs text) = expression_text e ++ (sign_text differs ++ text ++ codes "'")

abbrev pub bracket_text : Bracket → List ℕ
bracket_text bracket = expression_text bracket.front ++ codes "[" ++ bracket.key ++ codes "="

abbrev pub outer_text : List Bracket → List ℕ
outer_text [] = []
outer_text (bracket ∷ outer) = outer_text outer ++ bracket_text bracket

abbrev pub reading_text : Reading → List ℕ
reading_text r = outer_text r.outer ++ place_text r.place
