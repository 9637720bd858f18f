-- The reader of statements as a machine that takes one character at a time. It computes `statements_of`, and nobody
-- needs to believe it: the law `FollowsGrammar` says by the grammar and the meaning of faults what it gives.
use Rattle.std.specs.Prelude.{ℕ, nat_lt, List, [], ◌∷◌, ◌++◌, ◌-◌, length, Option, Some, None, Result, Ok, Err, if◌then◌else◌, encode_utf8}
use Rattle.orc_yang.specs.declared.character.Sort.{Sort}
use Rattle.orc_yang.specs.declared.character.Sort.TheVariants.{LineFeed, Blank, Semicolon, OpenBrace, CloseBrace, DoubleQuote, SingleQuote, Slash, Star, Plus, Colon, Backslash, Start, Inner, Forbidden}
use Rattle.orc_yang.specs.declared.fault.YangFault.{YangFault}
use Rattle.orc_yang.specs.declared.fault.YangFault.TheVariants.{BadToken, BadEscape, OpenString, OpenBlock, Depth}
use Rattle.orc_yang.specs.declared.statement.Stmt.{Stmt}
use Rattle.orc_yang.specs.declared.statement.TheConstants.{MAX_DEPTH}
use Rattle.orc_yang.specs.declared.character.Character.{Character}
use Rattle.orc_yang.specs.declared.parser.Frame.{Frame}
use Rattle.orc_yang.specs.Sorts.{sort_of}
use Rattle.orc_yang.specs.Quoted.{string_value, is_escape}
use Rattle.orc_yang.specs.Statement.{statement}

-- the keyword of the statement that is being read, and its place
pub record Head : Type 0 where
  pub keyword : List ℕ
  pub at : ℕ

-- between which parts of a statement white space and comments stand
pub data Spot : Type 0 where
  Between : Spot
  Keyed : Head → Spot
  Worded : Head → List ℕ → Spot
  Strung : Head → List ℕ → Spot
  Joining : Head → List ℕ → Spot

-- What the next character goes on with: the argument so far, the place of an opening mark, the
-- first fault in a string or comment.
pub data Work : Type 0 where
  Gap : Spot → Work
  Slashed : Spot → ℕ → Work
  InLine : Spot → Work
  InBlock : Spot → ℕ → Option YangFault → Work
  BehindStar : Spot → ℕ → Option YangFault → Work
  InKeyword : Head → Work
  BehindColon : Head → Work
  InSecond : Head → Work
  Lone : Head → List ℕ → ℕ → Work
  WordSlash : Head → List ℕ → Work
  WordStar : Head → List ℕ → Work
  InWord : Head → List ℕ → Work
  InSingle : Head → List ℕ → ℕ → Option YangFault → Work
  InDouble : Head → List ℕ → ℕ → ℕ → List ℕ → Option YangFault → Work
  BehindBackslash : Head → List ℕ → ℕ → ℕ → List ℕ → Option YangFault → Work

-- the statements so far of the innermost open block, and the open blocks, the innermost first
pub record Machine : Type 0 where
  pub work : Work
  pub done : List Stmt
  pub frames : List Frame

abbrev pub Fed : Type 0
Fed = Result Machine YangFault

abbrev pub go : Machine → Work → Fed
go s work = Ok (record { work = work; done = s.done; frames = s.frames })

abbrev pub bad : Character → Fed
bad x = Err (BadToken x.at)

-- a forbidden character where others stand
abbrev pub cut : Character → Fed
cut x = Err (BadToken x.last)

abbrev pub spoilt : Option YangFault → YangFault → Option YangFault
spoilt None fault = Some fault
spoilt (Some first) fault = Some first

abbrev pub leaf : Machine → Head → Option (List ℕ) → Fed
leaf s head argument = Ok (record {
  work = Gap Between;
  done = s.done ++ statement head.keyword argument [] head.at ∷ [];
  frames = s.frames;
})

abbrev pub framed : Machine → Head → Option (List ℕ) → Frame
framed s head argument = record { keyword = head.keyword; argument = argument; at = head.at; before = s.done }

abbrev pub enter : Machine → Head → Option (List ℕ) → Character → Fed
enter s head argument x =
    if nat_lt (length s.frames) MAX_DEPTH
    then Ok (record { work = Gap Between; done = []; frames = framed s head argument ∷ s.frames })
    else Err (Depth x.at)

abbrev pub ended : Frame → List Stmt → List Stmt
ended f subs = f.before ++ statement f.keyword f.argument subs f.at ∷ []

abbrev pub close : List Frame → Machine → Character → Fed
close [] s x = bad x
close (f ∷ fs) s x = Ok (record { work = Gap Between; done = ended f s.done; frames = fs })

abbrev pub between : Sort → Machine → Character → Fed
between LineFeed s x = Ok s
between Blank s x = Ok s
between Slash s x = go s (Slashed Between x.at)
between CloseBrace s x = close s.frames s x
between Start s x = go s (InKeyword (record { keyword = encode_utf8 x.code; at = x.at }))
between _ s x = bad x

abbrev pub keyed : Sort → Head → Machine → Character → Fed
keyed LineFeed h s x = Ok s
keyed Blank h s x = Ok s
keyed Semicolon h s x = leaf s h None
keyed OpenBrace h s x = enter s h None x
keyed CloseBrace h s x = bad x
keyed Forbidden h s x = cut x
keyed DoubleQuote h s x = go s (InDouble h [] x.at x.column [] None)
keyed SingleQuote h s x = go s (InSingle h [] x.at None)
keyed Slash h s x = go s (Lone h (encode_utf8 x.code) x.at)
keyed Star h s x = go s (WordStar h (encode_utf8 x.code))
keyed _ h s x = go s (InWord h (encode_utf8 x.code))

abbrev pub worded : Sort → Head → List ℕ → Machine → Character → Fed
worded LineFeed h a s x = Ok s
worded Blank h a s x = Ok s
worded Slash h a s x = go s (Slashed (Worded h a) x.at)
worded Semicolon h a s x = leaf s h (Some a)
worded OpenBrace h a s x = enter s h (Some a) x
worded _ h a s x = bad x

abbrev pub strung : Sort → Head → List ℕ → Machine → Character → Fed
strung LineFeed h a s x = Ok s
strung Blank h a s x = Ok s
strung Slash h a s x = go s (Slashed (Strung h a) x.at)
strung Semicolon h a s x = leaf s h (Some a)
strung OpenBrace h a s x = enter s h (Some a) x
strung Plus h a s x = go s (Gap (Joining h a))
strung _ h a s x = bad x

abbrev pub joining : Sort → Head → List ℕ → Machine → Character → Fed
joining LineFeed h a s x = Ok s
joining Blank h a s x = Ok s
joining Slash h a s x = go s (Slashed (Joining h a) x.at)
joining DoubleQuote h a s x = go s (InDouble h a x.at x.column [] None)
joining SingleQuote h a s x = go s (InSingle h a x.at None)
joining _ h a s x = bad x

abbrev pub feed_gap : Spot → Sort → Machine → Character → Fed
feed_gap Between k s x = between k s x
feed_gap (Keyed h) k s x = keyed k h s x
feed_gap (Worded h a) k s x = worded k h a s x
feed_gap (Strung h a) k s x = strung k h a s x
feed_gap (Joining h a) k s x = joining k h a s x

abbrev pub slashed : Sort → Spot → ℕ → Machine → Character → Fed
slashed Slash spot opened s x = go s (InLine spot)
slashed Star spot opened s x = go s (InBlock spot opened None)
slashed _ spot opened s x = bad x

abbrev pub feed_line : Sort → Spot → Machine → Character → Fed
feed_line LineFeed spot s x = go s (Gap spot)
feed_line Forbidden spot s x = cut x
feed_line _ spot s x = Ok s

-- at the end of a string or comment a fault in it counts
abbrev pub unspoilt : Option YangFault → Fed → Fed
unspoilt None fed = fed
unspoilt (Some fault) fed = Err fault

abbrev pub feed_block : Sort → Spot → ℕ → Option YangFault → Machine → Character → Fed
feed_block Star spot opened p s x = go s (BehindStar spot opened p)
feed_block Forbidden spot opened p s x = go s (InBlock spot opened (spoilt p (BadToken x.last)))
feed_block _ spot opened p s x = Ok s

abbrev pub feed_star : Sort → Spot → ℕ → Option YangFault → Machine → Character → Fed
feed_star Slash spot opened p s x = unspoilt p (go s (Gap spot))
feed_star Star spot opened p s x = Ok s
feed_star Forbidden spot opened p s x = go s (InBlock spot opened (spoilt p (BadToken x.last)))
feed_star _ spot opened p s x = go s (InBlock spot opened p)

abbrev pub grown : Head → Character → Head
grown h x = record { keyword = h.keyword ++ encode_utf8 x.code; at = h.at }

abbrev pub end_keyword : Sort → Head → Machine → Character → Fed
end_keyword LineFeed h s x = go s (Gap (Keyed h))
end_keyword Blank h s x = go s (Gap (Keyed h))
end_keyword Slash h s x = go s (Slashed (Keyed h) x.at)
end_keyword Semicolon h s x = leaf s h None
end_keyword OpenBrace h s x = enter s h None x
end_keyword _ h s x = bad x

abbrev pub feed_keyword : Sort → Head → Machine → Character → Fed
feed_keyword Start h s x = go s (InKeyword (grown h x))
feed_keyword Inner h s x = go s (InKeyword (grown h x))
feed_keyword Colon h s x = go s (BehindColon (grown h x))
feed_keyword k h s x = end_keyword k h s x

abbrev pub feed_colon : Sort → Head → Machine → Character → Fed
feed_colon Start h s x = go s (InSecond (grown h x))
feed_colon _ h s x = bad x

abbrev pub feed_second : Sort → Head → Machine → Character → Fed
feed_second Start h s x = go s (InSecond (grown h x))
feed_second Inner h s x = go s (InSecond (grown h x))
feed_second k h s x = end_keyword k h s x

abbrev pub feed_word : Sort → Head → List ℕ → Machine → Character → Fed
feed_word LineFeed h a s x = go s (Gap (Worded h a))
feed_word Blank h a s x = go s (Gap (Worded h a))
feed_word Semicolon h a s x = leaf s h (Some a)
feed_word OpenBrace h a s x = enter s h (Some a) x
feed_word CloseBrace h a s x = bad x
feed_word DoubleQuote h a s x = bad x
feed_word SingleQuote h a s x = bad x
feed_word Forbidden h a s x = cut x
feed_word Slash h a s x = go s (WordSlash h (a ++ encode_utf8 x.code))
feed_word Star h a s x = go s (WordStar h (a ++ encode_utf8 x.code))
feed_word _ h a s x = go s (InWord h (a ++ encode_utf8 x.code))

abbrev pub lone : Sort → Head → List ℕ → ℕ → Machine → Character → Fed
lone Slash h a opened s x = go s (InLine (Keyed h))
lone Star h a opened s x = go s (InBlock (Keyed h) opened None)
lone k h a opened s x = feed_word k h a s x

abbrev pub word_slash : Sort → Head → List ℕ → Machine → Character → Fed
word_slash Slash h a s x = bad x
word_slash Star h a s x = bad x
word_slash k h a s x = feed_word k h a s x

abbrev pub word_star : Sort → Head → List ℕ → Machine → Character → Fed
word_star Slash h a s x = bad x
word_star k h a s x = feed_word k h a s x

abbrev pub feed_single : Sort → Head → List ℕ → ℕ → Option YangFault → Machine → Character → Fed
feed_single SingleQuote h a opened p s x = unspoilt p (go s (Gap (Strung h a)))
feed_single Forbidden h a opened p s x = go s (InSingle h a opened (spoilt p (BadToken x.last)))
feed_single _ h a opened p s x = go s (InSingle h (a ++ encode_utf8 x.code) opened p)

abbrev pub feed_double : Sort → Head → List ℕ → ℕ → ℕ → List ℕ → Option YangFault → Machine → Character → Fed
feed_double DoubleQuote h a opened column raw p s x = unspoilt p (go s (Gap (Strung h (a ++ string_value column raw))))
feed_double Backslash h a opened column raw p s x = go s (BehindBackslash h a opened column (raw ++ x.code ∷ []) p)
feed_double Forbidden h a opened column raw p s x = go s (InDouble h a opened column raw (spoilt p (BadToken x.last)))
feed_double _ h a opened column raw p s x = go s (InDouble h a opened column (raw ++ x.code ∷ []) p)

abbrev pub feed_backslash : Head → List ℕ → ℕ → ℕ → List ℕ → Option YangFault → Machine → Character → Fed
feed_backslash h a opened column raw p s x =
    go s (InDouble h a opened column (raw ++ x.code ∷ [])
    (if is_escape x.code then p else spoilt p (BadEscape (x.at - 1))))

abbrev pub feed_work : Work → Sort → Machine → Character → Fed
feed_work (Gap spot) k s x = feed_gap spot k s x
feed_work (Slashed spot opened) k s x = slashed k spot opened s x
feed_work (InLine spot) k s x = feed_line k spot s x
feed_work (InBlock spot opened p) k s x = feed_block k spot opened p s x
feed_work (BehindStar spot opened p) k s x = feed_star k spot opened p s x
feed_work (InKeyword h) k s x = feed_keyword k h s x
feed_work (BehindColon h) k s x = feed_colon k h s x
feed_work (InSecond h) k s x = feed_second k h s x
feed_work (Lone h a opened) k s x = lone k h a opened s x
feed_work (WordSlash h a) k s x = word_slash k h a s x
feed_work (WordStar h a) k s x = word_star k h a s x
feed_work (InWord h a) k s x = feed_word k h a s x
feed_work (InSingle h a opened p) k s x = feed_single k h a opened p s x
feed_work (InDouble h a opened column raw p) k s x = feed_double k h a opened column raw p s x
feed_work (BehindBackslash h a opened column raw p) k s x = feed_backslash h a opened column raw p s x

-- what one character makes of a state
abbrev pub feed : Machine → Character → Fed
feed s x = feed_work s.work (sort_of x.code) s x

abbrev pub finish_between : List Frame → List Stmt → ℕ → Result (List Stmt) YangFault
finish_between [] done end = Ok done
finish_between (f ∷ fs) done end = Err (OpenBlock end)

abbrev pub finish_gap : Spot → Machine → ℕ → Result (List Stmt) YangFault
finish_gap Between s end = finish_between s.frames s.done end
finish_gap _ s end = Err (OpenBlock end)

-- what the text's end makes of a state
abbrev pub finish_work : Work → Machine → ℕ → Result (List Stmt) YangFault
finish_work (Gap spot) s end = finish_gap spot s end
finish_work (InLine spot) s end = finish_gap spot s end
finish_work (InBlock spot opened p) s end = Err (OpenString opened)
finish_work (BehindStar spot opened p) s end = Err (OpenString opened)
finish_work (InSingle h a opened p) s end = Err (OpenString opened)
finish_work (InDouble h a opened column raw p) s end = Err (OpenString opened)
finish_work (BehindBackslash h a opened column raw p) s end = Err (OpenString opened)
finish_work _ s end = Err (OpenBlock end)

abbrev pub finish : Machine → ℕ → Result (List Stmt) YangFault
finish s end = finish_work s.work s end

abbrev pub fed : Fed → (Machine → Result (List Stmt) YangFault) → Result (List Stmt) YangFault
fed (Ok s) next = next s
fed (Err fault) next = Err fault

-- the answer to a state and the characters that are left of a text of this length
abbrev pub run : List Character → Machine → ℕ → Result (List Stmt) YangFault
run [] s end = finish s end
run (x ∷ xs) s end = fed (feed s x) (λ t. run xs t end)

-- the state before the first character
abbrev pub start : Machine
start = record { work = Gap Between; done = []; frames = [] }
