-- Each fault of a whole run means what it is said to mean.
use Rattle.std.proofs.Common.{◌≡◌, ℕ, ◌+◌, Bool, true, false, List, [], ◌∷◌, ◌++◌, length, None, Result, Ok, Err, refl, sym, ap, ◌∙◌, subst, append_assoc, append-nil, inl, inr}
use Rattle.std.specs.Char.{encode_utf8}
use Rattle.std.specs.Str.{encode_utf8_all}
use Rattle.orc_yang.specs.declared.fault.YangFault.{YangFault}
use Rattle.orc_yang.specs.declared.fault.YangFault.TheVariants.{OpenString, OpenBlock}
use Rattle.orc_yang.specs.declared.statement.Stmt.{Stmt}
use Rattle.orc_yang.specs.declared.parser.Frame.{Frame}
use Rattle.orc_yang.specs.Sorts.{sort_of}
use Rattle.orc_yang.specs.Text.{placed, next_column}
use Rattle.orc_yang.specs.Faults.{ends_single, ends_double, ends_comment}
use Rattle.orc_yang.specs.Machine as machine
use Rattle.orc_yang.specs.Machine.{Head, Spot, Between, Keyed, Worded, Strung, Joining, Work, Gap, Slashed, InLine, InBlock, BehindStar, InKeyword, BehindColon, InSecond, Lone, WordSlash, WordStar, InWord, InSingle, InDouble, BehindBackslash, Machine, Fed, run, feed, fed, start, finish}
use Rattle.orc_yang.proofs.Complete.{complete}
use Rattle.orc_yang.proofs.Viable.{pending}
use Rattle.orc_yang.proofs.Faults.{character, Came, came_nil, came_more, begins, S}
use Rattle.orc_yang.proofs.Openings.{OpenSingle, OpenDouble, OpenComment, Opened, Pends, After, Found}
use Rattle.orc_yang.proofs.FaultSteps.{step}

abbrev fails : YangFault → Result (List Stmt) YangFault
fails f = Err f

abbrev gives : List Stmt → Result (List Stmt) YangFault
gives list = Ok list

err_of : {f g : YangFault} → fails f ≡ fails g → f ≡ g
err_of e = cc

never : {B : Type 0} {list : List Stmt} {f : YangFault} → gives list ≡ fails f → B
never e = cc

-- at the end of the text
module _ (front : List ℕ) (end : ℕ) (q : end ≡ length (encode_utf8_all front)) where
  single_open : (o : ℕ) → OpenSingle front o → Found front (OpenString o)
  single_open o w = (
    w.before,
    w.quote ∷ w.inner,
    w.is,
    w.place,
    inl (w.quote, w.inner, refl, w.sort, w.takes, ap ends_single (sym (append-nil w.inner)) ∙ w.goes []),
  )

  double_open : (b : Bool) (o : ℕ) → ends_double b [] ≡ false → OpenDouble b front o → Found front (OpenString o)
  double_open b o e w = (
    w.before,
    w.quote ∷ w.inner,
    w.is,
    w.place,
    inr (inl (w.quote, w.inner, refl, w.sort, w.takes, ap (ends_double false) (sym (append-nil w.inner)) ∙ (w.goes [] ∙ e))),
  )

  comment_open : (b : Bool) (o : ℕ) → ends_comment b [] ≡ false → OpenComment b front o → Found front (OpenString o)
  comment_open b o e w = (
    w.before,
    w.slash ∷ w.star ∷ w.inner,
    w.is,
    w.place,
    inr (inr (w.slash, w.star, w.inner, refl, w.slash_sort, w.star_sort, w.takes, ap (ends_comment false) (sym (append-nil w.inner)) ∙ (w.goes [] ∙ e))),
  )

  module _ (s : Machine) (w : Came front s) (h : run [] s end ≡ Err (OpenBlock end)) (clean : pending s.work ≡ None) where
    block_open : Found front (OpenBlock end)
    block_open = (
      q,
      begins front s w clean,
      λ list d.
          never (sym (complete end d) ∙ (ap (λ l. run (placed 0 1 l) start end) (sym (append-nil front)) ∙ (w.goes [] end ∙ h))),
    )

  to : (f g : YangFault) → f ≡ g → Found front f → Found front g
  to f g e r = let P : YangFault → Type 0 = λ v. Found front v in subst P e r

  between_end : (done : List Stmt) (frames : List Frame) (v : Work) (w : Came front (S done frames v)) (f : YangFault) → pending v ≡ None → run [] (S done frames v) end ≡ machine.finish_between frames done end
      → machine.finish_between frames done end ≡ Err f → Found front f
  between_end done [] v w f p r e = never e
  between_end done (g ∷ gs) v w f p r e = to (OpenBlock end) f (err_of e) (block_open (S done (g ∷ gs) v) w r p)

  ended : (v : Work) (done : List Stmt) (frames : List Frame) (w : Came front (S done frames v)) → Opened front v → (f : YangFault) → run [] (S done frames v) end ≡ Err f → Found front f
  ended (Gap Between) done frames w op f e = between_end done frames (Gap Between) w f refl refl e
  ended (Gap (Keyed h)) done frames w op f e = to (OpenBlock end) f (err_of e) (block_open _ w refl refl)
  ended (Gap (Worded h a)) done frames w op f e = to (OpenBlock end) f (err_of e) (block_open _ w refl refl)
  ended (Gap (Strung h a)) done frames w op f e = to (OpenBlock end) f (err_of e) (block_open _ w refl refl)
  ended (Gap (Joining h a)) done frames w op f e = to (OpenBlock end) f (err_of e) (block_open _ w refl refl)
  ended (InLine Between) done frames w op f e = between_end done frames (InLine Between) w f refl refl e
  ended (InLine (Keyed h)) done frames w op f e = to (OpenBlock end) f (err_of e) (block_open _ w refl refl)
  ended (InLine (Worded h a)) done frames w op f e = to (OpenBlock end) f (err_of e) (block_open _ w refl refl)
  ended (InLine (Strung h a)) done frames w op f e = to (OpenBlock end) f (err_of e) (block_open _ w refl refl)
  ended (InLine (Joining h a)) done frames w op f e = to (OpenBlock end) f (err_of e) (block_open _ w refl refl)
  ended (Slashed spot o) done frames w op f e = to (OpenBlock end) f (err_of e) (block_open _ w refl refl)
  ended (InKeyword h) done frames w op f e = to (OpenBlock end) f (err_of e) (block_open _ w refl refl)
  ended (BehindColon h) done frames w op f e = to (OpenBlock end) f (err_of e) (block_open _ w refl refl)
  ended (InSecond h) done frames w op f e = to (OpenBlock end) f (err_of e) (block_open _ w refl refl)
  ended (Lone h a o) done frames w op f e = to (OpenBlock end) f (err_of e) (block_open _ w refl refl)
  ended (WordSlash h a) done frames w op f e = to (OpenBlock end) f (err_of e) (block_open _ w refl refl)
  ended (WordStar h a) done frames w op f e = to (OpenBlock end) f (err_of e) (block_open _ w refl refl)
  ended (InWord h a) done frames w op f e = to (OpenBlock end) f (err_of e) (block_open _ w refl refl)
  ended (InBlock spot o p) done frames w op f e = to (OpenString o) f (err_of e) (comment_open false o refl op)
  ended (BehindStar spot o p) done frames w op f e = to (OpenString o) f (err_of e) (comment_open true o refl op)
  ended (InSingle h a o p) done frames w op f e = to (OpenString o) f (err_of e) (single_open o op)
  ended (InDouble h a o column raw p) done frames w op f e = to (OpenString o) f (err_of e) (double_open false o refl op)
  ended (BehindBackslash h a o column raw p) done frames w op f e = to (OpenString o) f (err_of e) (double_open true o refl op)

-- from any state on
fed_on : (front : List ℕ) (c : ℕ) (rest : List ℕ) (s : Machine) (w : Came front s) (end : ℕ) (f : YangFault) (answer : Fed) → feed s (character (length (encode_utf8_all front)) w.column c) ≡ answer → After front c rest answer
    → ((t : Machine) → Came (front ++ c ∷ []) t → Opened (front ++ c ∷ []) t.work → Pends (front ++ c ∷ []) (pending t.work) → Found (front ++ c ∷ rest) f)
    → fed answer (λ t. run (placed (length (encode_utf8_all front) + length (encode_utf8 c)) (next_column c w.column) rest) t end) ≡ Err f → Found (front ++ c ∷ rest) f
fed_on front c rest s w end f (Ok t) q a next e = next t (came_more front s t w c q) a.0 a.1
fed_on front c rest s w end f (Err g) q a next e = let P : YangFault → Type 0 = λ v. Found (front ++ c ∷ rest) v in subst P (err_of e) a

faulty : (rest front : List ℕ) (s : Machine) (w : Came front s) (end : ℕ) → end ≡ length (encode_utf8_all (front ++ rest)) → Opened front s.work → Pends front (pending s.work) → (f : YangFault)
    → run (placed 0 1 (front ++ rest)) start end ≡ Err f → Found (front ++ rest) f
faulty [] front s w end q op ps f e =
    let P : List ℕ → Type 0 = λ l. Found l f in
    subst P (sym (append-nil front)) (ended front end (q ∙ ap (λ l. length (encode_utf8_all l)) (append-nil front)) s.work s.done s.frames w op f (sym (w.goes [] end) ∙ e))
faulty (c ∷ rest) front s w end q op ps f e =
    let joined = append_assoc front (c ∷ []) rest in
    fed_on front c rest s w end f (feed s (character (length (encode_utf8_all front)) w.column c)) refl (step front c rest s.done s.frames s.work w op ps (sort_of c) refl)
    (λ t v op' ps'.
    let P : List ℕ → Type 0 = λ l. Found l f in
    subst P joined (faulty rest (front ++ c ∷ []) t v end (q ∙ ap (λ l. length (encode_utf8_all l)) (sym joined)) op' ps' f (ap (λ l. run (placed 0 1 l) start end) joined ∙ e)))
    (sym (w.goes (c ∷ rest) end) ∙ e)

-- a fault of a whole text
pub fault_of : (text : List ℕ) (end : ℕ) → end ≡ length (encode_utf8_all text) → (f : YangFault) → run (placed 0 1 text) start end ≡ Err f → Found text f
fault_of text end q f e = faulty text [] start came_nil end q tt (λ g i rest. cc) f e
