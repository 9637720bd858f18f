-- The strings and comments that are open after a prefix of a text.
use Rattle.std.proofs.Common.{◌≡◌, ℕ, ◌||◌, Bool, true, false, List, [], ◌∷◌, ◌++◌, length, Option, Some, None, Ok, Err, refl, sym, ap, ◌∙◌, subst, append_assoc}
use Rattle.std.specs.Str.{encode_utf8_all}
use Rattle.orc_yang.specs.declared.character.Sort.{Sort}
use Rattle.orc_yang.specs.declared.character.Sort.TheVariants.{DoubleQuote, SingleQuote, Slash, Star}
use Rattle.orc_yang.specs.declared.fault.YangFault.{YangFault}
use Rattle.orc_yang.specs.declared.fault.YangFault.TheVariants.{NotUtf8, BadToken, BadEscape, OpenString, OpenBlock, Depth, Memory}
use Rattle.orc_yang.specs.declared.statement.Stmt.{Stmt}
use Rattle.orc_yang.specs.declared.parser.Frame.{Frame}
use Rattle.orc_yang.specs.Sorts.{sort_of}
use Rattle.orc_yang.specs.Faults.{TakesString, TakesComment, ends_single, ends_double, ends_comment, is_quote, is_double_quote, is_backslash, is_star, is_slash, FaultOf}
use Rattle.orc_yang.specs.Machine.{Work, Slashed, InBlock, BehindStar, Lone, InSingle, InDouble, BehindBackslash, Fed}
use Rattle.orc_yang.proofs.Viable.{pending}

-- an open string between such quotes, with the opening one in this place: `begins` says of what stands after that quote
-- whether the string ends, and `ends` says so of what is still to come
pub record OpenQuoted (quotes : Sort) (begins ends : List ℕ → Bool) (front : List ℕ) (o : ℕ) : Type 0 where
  pub before : List ℕ
  pub inner : List ℕ
  pub quote : ℕ
  pub is : front ≡ before ++ quote ∷ inner
  pub sort : sort_of quote ≡ quotes
  pub place : o ≡ length (encode_utf8_all before)
  pub takes : TakesString before
  pub goes : (rest : List ℕ) → begins (inner ++ rest) ≡ ends rest

-- a single-quoted one
abbrev pub OpenSingle : List ℕ → ℕ → Type 0
OpenSingle front o = OpenQuoted SingleQuote ends_single ends_single front o

-- a double-quoted one, after a backslash or not
abbrev pub OpenDouble : Bool → List ℕ → ℕ → Type 0
OpenDouble b front o = OpenQuoted DoubleQuote (ends_double false) (ends_double b) front o

-- an open comment, after a `*` or not, with its opening slash in this place
pub record OpenComment (b : Bool) (front : List ℕ) (o : ℕ) : Type 0 where
  pub before : List ℕ
  pub inner : List ℕ
  pub slash : ℕ
  pub star : ℕ
  pub is : front ≡ before ++ slash ∷ star ∷ inner
  pub slash_sort : sort_of slash ≡ Slash
  pub star_sort : sort_of star ≡ Star
  pub place : o ≡ length (encode_utf8_all before)
  pub takes : TakesComment before
  pub goes : (rest : List ℕ) → ends_comment false (inner ++ rest) ≡ ends_comment b rest

-- the first slash of a comment, in this place
pub record OpenSlash (front : List ℕ) (o : ℕ) : Type 0 where
  pub before : List ℕ
  pub slash : ℕ
  pub is : front ≡ before ++ slash ∷ []
  pub sort : sort_of slash ≡ Slash
  pub place : o ≡ length (encode_utf8_all before)
  pub takes : TakesComment before

abbrev pub Opened : List ℕ → Work → Type 0
Opened front (Slashed spot o) = OpenSlash front o
Opened front (Lone h a o) = OpenSlash front o
Opened front (InBlock spot o p) = OpenComment false front o
Opened front (BehindStar spot o p) = OpenComment true front o
Opened front (InSingle h a o p) = OpenSingle front o
Opened front (InDouble h a o column raw p) = OpenDouble false front o
Opened front (BehindBackslash h a o column raw p) = OpenDouble true front o
Opened front _ = Unit {0}

-- the meaning of a fault that the machine finds, which is never that memory runs out
abbrev pub Found : List ℕ → YangFault → Type 0
Found text Memory = ⊥
Found text (NotUtf8 at) = ⊥
Found text (BadToken at) = FaultOf text (BadToken at)
Found text (BadEscape at) = FaultOf text (BadEscape at)
Found text (OpenString at) = FaultOf text (OpenString at)
Found text (OpenBlock at) = FaultOf text (OpenBlock at)
Found text (Depth at) = FaultOf text (Depth at)

-- what waits for the end of a string or comment is the fault of each text that begins so
abbrev pub Pends : List ℕ → Option YangFault → Type 0
Pends front p = (f : YangFault) → p ≡ Some f → (rest : List ℕ) → Found (front ++ rest) f

pub pends_none : (front : List ℕ) → Pends front None
pends_none front = λ f e rest. cc

-- what a step makes
abbrev pub After : List ℕ → ℕ → List ℕ → Fed → Type 0
After front c after (Ok t) = Opened (front ++ c ∷ []) t.work × Pends (front ++ c ∷ []) (pending t.work)
After front c after (Err f) = Found (front ++ c ∷ after) f

module _ (front : List ℕ) (c : ℕ) where
  -- a character that leaves a string open
  quoted_more : {o : ℕ} (quotes : Sort) (begins ends next : List ℕ → Bool) → ((rest : List ℕ) → ends (c ∷ rest) ≡ next rest)
      → OpenQuoted quotes begins ends front o → OpenQuoted quotes begins next (front ++ c ∷ []) o
  quoted_more quotes begins ends next turn w = record {
    before = w.before;
    inner = w.inner ++ c ∷ [];
    place = w.place;
    takes = w.takes;
    quote = w.quote;
    sort = w.sort;
    is = ap (λ l. l ++ c ∷ []) w.is ∙ append_assoc w.before (w.quote ∷ w.inner) (c ∷ []);
    goes = λ rest. ap begins (append_assoc w.inner (c ∷ []) rest) ∙ (w.goes (c ∷ rest) ∙ turn rest);
  }

  pub single_more : {o : ℕ} → is_quote (sort_of c) ≡ false → OpenSingle front o → OpenSingle (front ++ c ∷ []) o
  single_more e w = quoted_more SingleQuote ends_single ends_single ends_single (λ rest. ap (λ b. b || ends_single rest) e) w

  pub double_more : {o : ℕ} (b : Bool) → is_double_quote (sort_of c) ≡ false → is_backslash (sort_of c) ≡ b → OpenDouble false front o → OpenDouble b (front ++ c ∷ []) o
  double_more b e e' w = quoted_more DoubleQuote (ends_double false) (ends_double false) (ends_double b)
      (λ rest. ap (λ q. q || ends_double (is_backslash (sort_of c)) rest) e ∙ ap (λ q. ends_double q rest) e') w

  pub double_escaped : {o : ℕ} → OpenDouble true front o → OpenDouble false (front ++ c ∷ []) o
  double_escaped w = quoted_more DoubleQuote (ends_double false) (ends_double true) (ends_double false) (λ rest. refl) w

  -- a character that leaves a comment open
  comment_goes_on : {o : ℕ} (b next : Bool) → ((rest : List ℕ) → ends_comment b (c ∷ rest) ≡ ends_comment next rest)
      → OpenComment b front o → OpenComment next (front ++ c ∷ []) o
  comment_goes_on b next turn w = record {
    before = w.before;
    inner = w.inner ++ c ∷ [];
    place = w.place;
    takes = w.takes;
    slash = w.slash;
    star = w.star;
    slash_sort = w.slash_sort;
    star_sort = w.star_sort;
    is = ap (λ l. l ++ c ∷ []) w.is ∙ append_assoc w.before (w.slash ∷ w.star ∷ w.inner) (c ∷ []);
    goes = λ rest. ap (ends_comment false) (append_assoc w.inner (c ∷ []) rest) ∙ (w.goes (c ∷ rest) ∙ turn rest);
  }

  pub comment_more : {o : ℕ} (b : Bool) → is_star (sort_of c) ≡ b → OpenComment false front o → OpenComment b (front ++ c ∷ []) o
  comment_more b e w = comment_goes_on false b (λ rest. ap (λ q. ends_comment q rest) e) w

  pub comment_star : {o : ℕ} (b : Bool) → is_slash (sort_of c) ≡ false → is_star (sort_of c) ≡ b → OpenComment true front o → OpenComment b (front ++ c ∷ []) o
  comment_star b e e' w = comment_goes_on true b
      (λ rest. ap (λ q. q || ends_comment (is_star (sort_of c)) rest) e ∙ ap (λ q. ends_comment q rest) e') w

module _ (front : List ℕ) (c : ℕ) (done : List Stmt) (frames : List Frame) where
  -- new strings and comments
  pub single_opens : {o : ℕ} → o ≡ length (encode_utf8_all front) → sort_of c ≡ SingleQuote → TakesString front → OpenSingle (front ++ c ∷ []) o
  single_opens q e t = record { before = front; inner = []; quote = c; is = refl; sort = e; place = q; takes = t; goes = λ rest. refl }

  pub double_opens : {o : ℕ} → o ≡ length (encode_utf8_all front) → sort_of c ≡ DoubleQuote → TakesString front → OpenDouble false (front ++ c ∷ []) o
  double_opens q e t = record { before = front; inner = []; quote = c; is = refl; sort = e; place = q; takes = t; goes = λ rest. refl }

  pub slash_opens : {o : ℕ} → o ≡ length (encode_utf8_all front) → sort_of c ≡ Slash → TakesComment front → OpenSlash (front ++ c ∷ []) o
  slash_opens q e t = record { before = front; slash = c; is = refl; sort = e; place = q; takes = t }

  pub comment_opens : {o : ℕ} → sort_of c ≡ Star → OpenSlash front o → OpenComment false (front ++ c ∷ []) o
  comment_opens e w = record {
    before = w.before;
    inner = [];
    slash = w.slash;
    star = c;
    slash_sort = w.sort;
    star_sort = e;
    place = w.place;
    takes = w.takes;
    is = ap (λ l. l ++ c ∷ []) w.is ∙ append_assoc w.before (w.slash ∷ []) (c ∷ []);
    goes = λ rest. refl;
  }

pub pends_more : (front : List ℕ) (c : ℕ) (p : Option YangFault) → Pends front p → Pends (front ++ c ∷ []) p
pends_more front c p ps f q rest =
    let P : List ℕ → Type 0 = λ l. Found l f in subst P (sym (append_assoc front (c ∷ []) rest)) (ps f q (c ∷ rest))
