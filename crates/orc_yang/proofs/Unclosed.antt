-- A string or a comment that has no end is the fault, whatever else stands in it.
use Rattle.std.proofs.Common.{◌≡◌, ℕ, ◌+◌, ◌||◌, Bool, true, false, List, [], ◌∷◌, ◌++◌, length, Option, Some, None, Result, Ok, Err, refl, sym, ap, ◌∙◌, subst, append_assoc, append-nil, inl, inr}
use Rattle.std.specs.Char.{encode_utf8}
use Rattle.std.specs.Str.{encode_utf8_all, all_scalars}
use Rattle.std.proofs.lemmas.Bool.{false≢true}
use Rattle.orc_yang.specs.declared.character.Sort.{Sort}
use Rattle.orc_yang.specs.declared.character.Sort.TheVariants.{DoubleQuote, SingleQuote, Slash, Star, Backslash, Forbidden}
use Rattle.orc_yang.specs.declared.fault.YangFault.{YangFault}
use Rattle.orc_yang.specs.declared.fault.YangFault.TheVariants.{OpenString}
use Rattle.orc_yang.specs.declared.statement.Stmt.{Stmt}
use Rattle.orc_yang.specs.declared.character.Character.{Character}
use Rattle.orc_yang.specs.declared.parser.Frame.{Frame}
use Rattle.orc_yang.specs.Sorts.{sort_of}
use Rattle.orc_yang.specs.Text.{placed, next_column, ReadsAs}
use Rattle.orc_yang.specs.Faults.{CanOpen, CanFollow, TakesString, TakesComment, ends_single, ends_double, ends_comment, is_quote, is_double_quote, is_backslash, is_star, is_slash, IsUnclosed}
use Rattle.orc_yang.specs.Machine.{Head, Spot, Between, Keyed, Worded, Strung, Joining, Work, Gap, Slashed, InLine, InBlock, BehindStar, InKeyword, BehindColon, InSecond, Lone, WordSlash, WordStar, InWord, InSingle, InDouble, BehindBackslash, Machine, Fed, run, feed, feed_work, fed, start}
use Rattle.orc_yang.proofs.Complete.{complete}
use Rattle.orc_yang.proofs.Viable.{pending}
use Rattle.orc_yang.proofs.Faults.{character, Came, came_nil, came_more, stops_err, stops_doomed, can_follow, doomed, S}

-- A prefix that can begin a text brings the machine to a state without a fault.
pub record Comes (front : List ℕ) : Type 0 where
  pub state : Machine
  pub came : Came front state
  pub clean : pending state.work ≡ None

abbrev fails : YangFault → Result (List Stmt) YangFault
fails f = Err f

abbrev gives : List Stmt → Result (List Stmt) YangFault
gives list = Ok list

never : {B : Type 0} {list : List Stmt} {f : YangFault} → fails f ≡ gives list → B
never e = cc

module _ (more : List ℕ) (list : List Stmt) where
  arrived : (front : List ℕ) (s : Machine) (w : Came front s) → run (placed 0 1 (front ++ more)) start 0 ≡ Ok list → (p : Option YangFault) → pending s.work ≡ p → Comes front
  arrived front s w e None q = record { state = s; came = w; clean = q }
  arrived front s w e (Some f) q = absurd (doomed s f q (placed (length (encode_utf8_all front)) w.column more) list 0 (sym (w.goes more 0) ∙ e))

  arrives_on : (c : ℕ) (rest front : List ℕ) (s : Machine) (w : Came front s) (answer : Fed) → feed s (character (length (encode_utf8_all front)) w.column c) ≡ answer
      → fed answer (λ t. run (placed (length (encode_utf8_all front) + length (encode_utf8 c)) (next_column c w.column) (rest ++ more)) t 0) ≡ Ok list
      → ((t : Machine) → Came (front ++ c ∷ []) t → Comes (front ++ c ∷ rest)) → Comes (front ++ c ∷ rest)
  arrives_on c rest front s w (Ok t) q e next = next t (came_more front s t w c q)
  arrives_on c rest front s w (Err f) q e next = never e

  arrives : (rest front : List ℕ) (s : Machine) → Came front s → run (placed 0 1 ((front ++ rest) ++ more)) start 0 ≡ Ok list → Comes (front ++ rest)
  arrives [] front s w e =
      let P : List ℕ → Type 0 = λ l. Comes l in
      subst P (sym (append-nil front)) (arrived front s w (ap (λ l. run (placed 0 1 (l ++ more)) start 0) (sym (append-nil front)) ∙ e) (pending s.work) refl)
  arrives (c ∷ rest) front s w e =
      let P : List ℕ → Type 0 = λ l. Comes l in
      let joined = append_assoc front (c ∷ []) rest in
      let e' = sym (w.goes (c ∷ (rest ++ more)) 0) ∙ (ap (λ l. run (placed 0 1 l) start 0) (sym (append_assoc front (c ∷ rest) more)) ∙ e) in
      arrives_on c rest front s w (feed s (character (length (encode_utf8_all front)) w.column c)) refl e'
      (λ t v. subst P joined (arrives rest (front ++ c ∷ []) t v (ap (λ l. run (placed 0 1 (l ++ more)) start 0) joined ∙ e)))

comes_by : (front more : List ℕ) (list : List Stmt) → ReadsAs (front ++ more) list → Comes front
comes_by front more list d = arrives more list front [] start came_nil (complete 0 d)

pub comes : (front cs : List ℕ) → CanOpen (front ++ cs) → Comes front
comes front cs b =
    let P : List ℕ → Type 0 = λ l. ReadsAs l b.1 in
    comes_by front (cs ++ b.0) b.1 (subst P (append_assoc front cs b.0) b.3)

module _ (front : List ℕ) (done : List Stmt) (frames : List Frame) where
  abbrev C : Work → Type 0
  C v = Came front (S done frames v)

  -- where a string may begin
  data StringSpot : Work → Type 0 where
    keyed : {h : Head} → StringSpot (Gap (Keyed h))
    joining : {h : Head} {a : List ℕ} → StringSpot (Gap (Joining h a))

  string_spot : (v : Work) → C v → pending v ≡ None → TakesString front → StringSpot v
  string_spot (Gap Between) w q t = absurd (stops_err front _ w 34 _ refl t.0)
  string_spot (Gap (Keyed h)) w q t = StringSpot.keyed
  string_spot (Gap (Worded h a)) w q t = absurd (stops_err front _ w 34 _ refl t.0)
  string_spot (Gap (Strung h a)) w q t = absurd (stops_err front _ w 34 _ refl t.0)
  string_spot (Gap (Joining h a)) w q t = StringSpot.joining
  string_spot (Slashed spot o) w q t = absurd (stops_err front _ w 34 _ refl t.0)
  string_spot (InLine spot) w q t = absurd (t.2 (can_follow front _ _ w 125 refl refl))
  string_spot (InBlock spot o p) w q t = absurd (t.2 (can_follow front _ _ w 125 refl q))
  string_spot (BehindStar spot o p) w q t = absurd (t.2 (can_follow front _ _ w 125 refl q))
  string_spot (InKeyword h) w q t = absurd (stops_err front _ w 34 _ refl t.0)
  string_spot (BehindColon h) w q t = absurd (stops_err front _ w 34 _ refl t.0)
  string_spot (InSecond h) w q t = absurd (stops_err front _ w 34 _ refl t.0)
  string_spot (Lone h a o) w q t = absurd (stops_err front _ w 34 _ refl t.0)
  string_spot (WordSlash h a) w q t = absurd (stops_err front _ w 34 _ refl t.0)
  string_spot (WordStar h a) w q t = absurd (stops_err front _ w 34 _ refl t.0)
  string_spot (InWord h a) w q t = absurd (stops_err front _ w 34 _ refl t.0)
  string_spot (InSingle h a o p) w q t = absurd (t.2 (can_follow front _ _ w 125 refl q))
  string_spot (InDouble h a o column raw p) w q t = absurd (t.2 (can_follow front _ _ w 125 refl q))
  string_spot (BehindBackslash h a o column raw None) w q t = absurd (stops_doomed front _ _ w 39 _ refl refl t.1)
  string_spot (BehindBackslash h a o column raw (Some f)) w q t = cc

  -- where a comment may begin
  record CommentSpot (v : Work) : Type 0 where
    spot : Spot
    mid : Character → Work
    slash : (x : Character) → feed_work v Slash (S done frames v) x ≡ Ok (S done frames (mid x))
    star : (x y : Character) → feed_work (mid x) Star (S done frames (mid x)) y ≡ Ok (S done frames (InBlock spot x.at None))

  gap_spot : (spot : Spot) → CommentSpot (Gap spot)
  gap_spot Between = record { spot = Between; mid = λ x. Slashed Between x.at; slash = λ x. refl; star = λ x y. refl }
  gap_spot (Keyed h) = record { spot = Keyed h; mid = λ x. Lone h (encode_utf8 x.code) x.at; slash = λ x. refl; star = λ x y. refl }
  gap_spot (Worded h a) = record { spot = Worded h a; mid = λ x. Slashed (Worded h a) x.at; slash = λ x. refl; star = λ x y. refl }
  gap_spot (Strung h a) = record { spot = Strung h a; mid = λ x. Slashed (Strung h a) x.at; slash = λ x. refl; star = λ x y. refl }
  gap_spot (Joining h a) = record { spot = Joining h a; mid = λ x. Slashed (Joining h a) x.at; slash = λ x. refl; star = λ x y. refl }

  -- what can follow here, cut short
  shorter : (cs ds : List ℕ) → ((b : CanOpen (front ++ (cs ++ ds))) → all_scalars (ds ++ b.0) ≡ true) → CanOpen (front ++ (cs ++ ds)) → CanOpen (front ++ cs)
  shorter cs ds q b =
      let P : List ℕ → Type 0 = λ l. ReadsAs l b.1 in
      let e : (front ++ (cs ++ ds)) ++ b.0 ≡ (front ++ cs) ++ (ds ++ b.0) = simp append_assoc in
      (ds ++ b.0, b.1, q b, subst P e b.3)

  one : TakesComment front → CanFollow front 47
  one t = shorter (47 ∷ []) (42 ∷ 42 ∷ 47 ∷ []) (λ b. b.2) t.0

  two : TakesComment front → CanFollow (front ++ 47 ∷ []) 42
  two t = let P : List ℕ → Type 0 = λ l. CanOpen l in subst P (sym (append_assoc front (47 ∷ []) (42 ∷ []))) (shorter (47 ∷ 42 ∷ []) (42 ∷ 47 ∷ []) (λ b. b.2) t.0)

  four : TakesComment front → CanFollow (((front ++ 47 ∷ []) ++ 42 ∷ []) ++ 42 ∷ []) 47
  four t =
      let q : front ++ 47 ∷ 42 ∷ 42 ∷ 47 ∷ [] ≡ (((front ++ 47 ∷ []) ++ 42 ∷ []) ++ 42 ∷ []) ++ 47 ∷ [] = simp append_assoc in
      let P : List ℕ → Type 0 = λ l. CanOpen l in subst P q t.0

  -- a brace after a slash
  braced : (u : Work) (t : Machine) (w : Came (front ++ 47 ∷ []) (S done frames u)) → feed (S done frames u) (character (length (encode_utf8_all (front ++ 47 ∷ []))) w.column 125) ≡ Ok t → pending t.work ≡ None → CanOpen (front ++ 47 ∷ 125 ∷ [])
  braced u t w e q = let P : List ℕ → Type 0 = λ l. CanOpen l in subst P (append_assoc front (47 ∷ []) (125 ∷ [])) (can_follow (front ++ 47 ∷ []) (S done frames u) t w 125 e q)

  -- after a `*` of a comment, a slash ends the comment
  star_spot : (spot : Spot) (o : ℕ) → C (BehindStar spot o None) → TakesComment front → ⊥
  star_spot Between o w t = stops_err (front ++ 47 ∷ []) _ (came_more front _ _ w 47 refl) 42 _ refl (two t)
  star_spot (Keyed h) o w t =
      let w1 = came_more front _ (S done frames (Gap (Keyed h))) w 47 refl in
      let w2 = came_more (front ++ 47 ∷ []) _ (S done frames (WordStar h (encode_utf8 42))) w1 42 refl in
      let w3 = came_more ((front ++ 47 ∷ []) ++ 42 ∷ []) _ (S done frames (WordStar h (encode_utf8 42 ++ encode_utf8 42))) w2 42 refl in
      stops_err (((front ++ 47 ∷ []) ++ 42 ∷ []) ++ 42 ∷ []) _ w3 47 _ refl (four t)
  star_spot (Worded h a) o w t = stops_err (front ++ 47 ∷ []) _ (came_more front _ _ w 47 refl) 42 _ refl (two t)
  star_spot (Strung h a) o w t = stops_err (front ++ 47 ∷ []) _ (came_more front _ _ w 47 refl) 42 _ refl (two t)
  star_spot (Joining h a) o w t = stops_err (front ++ 47 ∷ []) _ (came_more front _ _ w 47 refl) 42 _ refl (two t)

  comment_spot : (v : Work) → C v → pending v ≡ None → TakesComment front → CommentSpot v
  comment_spot (Gap spot) w q t = gap_spot spot
  comment_spot (InKeyword h) w q t = record { spot = Keyed h; mid = λ x. Slashed (Keyed h) x.at; slash = λ x. refl; star = λ x y. refl }
  comment_spot (InSecond h) w q t = record { spot = Keyed h; mid = λ x. Slashed (Keyed h) x.at; slash = λ x. refl; star = λ x y. refl }
  comment_spot (Slashed spot o) w q t = absurd (t.1 (braced (InLine spot) _ (came_more front _ _ w 47 refl) refl refl))
  comment_spot (InLine spot) w q t = absurd (t.1 (braced (InLine spot) _ (came_more front _ _ w 47 refl) refl refl))
  comment_spot (InBlock spot o p) w q t = absurd (t.1 (braced (InBlock spot o p) _ (came_more front _ _ w 47 refl) refl q))
  comment_spot (BehindStar spot o None) w q t = absurd (star_spot spot o w t)
  comment_spot (BehindStar spot o (Some f)) w q t = cc
  comment_spot (BehindColon h) w q t = absurd (stops_err front _ w 47 _ refl (one t))
  comment_spot (Lone h a o) w q t = absurd (t.1 (braced (InLine (Keyed h)) _ (came_more front _ _ w 47 refl) refl refl))
  comment_spot (WordSlash h a) w q t = absurd (stops_err front _ w 47 _ refl (one t))
  comment_spot (WordStar h a) w q t = absurd (stops_err front _ w 47 _ refl (one t))
  comment_spot (InWord h a) w q t = absurd (stops_err (front ++ 47 ∷ []) _ (came_more front _ _ w 47 refl) 42 _ refl (two t))
  comment_spot (InSingle h a o p) w q t = absurd (t.1 (braced (InSingle h (a ++ encode_utf8 47) o p) _ (came_more front _ _ w 47 refl) refl q))
  comment_spot (InDouble h a o column raw p) w q t = absurd (t.1 (braced (InDouble h a o column (raw ++ 47 ∷ []) p) _ (came_more front _ _ w 47 refl) refl q))
  comment_spot (BehindBackslash h a o column raw None) w q t = absurd (stops_doomed front _ _ w 47 _ refl refl (one t))
  comment_spot (BehindBackslash h a o column raw (Some f)) w q t = cc

or_false : (a b : Bool) → a || b ≡ false → (a ≡ false) × (b ≡ false)
or_false true b e = absurd (false≢true (sym e))
or_false false b e = (refl, e)

module _ (done : List Stmt) (frames : List Frame) (end : ℕ) where
  abbrev from : List Character → Work → Result (List Stmt) YangFault
  from xs w = run xs (S done frames w) end

  abbrev onward : Sort → Work → Character → List Character → Result (List Stmt) YangFault
  onward k w x xs = fed (feed_work w k (S done frames w) x) (λ t. run xs t end)

  on_single : (k : Sort) (h : Head) (a : List ℕ) (o : ℕ) (p : Option YangFault) (x : Character) (xs : List Character) → is_quote k ≡ false
      → ((a' : List ℕ) (p' : Option YangFault) → from xs (InSingle h a' o p') ≡ Err (OpenString o)) → onward k (InSingle h a o p) x xs ≡ Err (OpenString o)
  on_single SingleQuote h a o p x xs e next = absurd (false≢true (sym e))
  on_single Forbidden h a o p x xs e next = next _ _
  on_single _ h a o p x xs e next = next _ _

  single_runs : (cs : List ℕ) (at column : ℕ) (h : Head) (a : List ℕ) (o : ℕ) (p : Option YangFault) → ends_single cs ≡ false → from (placed at column cs) (InSingle h a o p) ≡ Err (OpenString o)
  single_runs [] at column h a o p e = refl
  single_runs (c ∷ cs) at column h a o p e =
      let q = or_false (is_quote (sort_of c)) (ends_single cs) e in
      on_single (sort_of c) h a o p _ _ q.0 (λ a' p'. single_runs cs _ _ h a' o p' q.1)

  abbrev double_work : Bool → Head → List ℕ → ℕ → ℕ → List ℕ → Option YangFault → Work
  double_work true h a o column raw p = BehindBackslash h a o column raw p
  double_work false h a o column raw p = InDouble h a o column raw p

  on_double : (k : Sort) (h : Head) (a : List ℕ) (o column : ℕ) (raw : List ℕ) (p : Option YangFault) (x : Character) (xs : List Character) → is_double_quote k ≡ false
      → ((raw' : List ℕ) (p' : Option YangFault) → from xs (double_work (is_backslash k) h a o column raw' p') ≡ Err (OpenString o)) → onward k (InDouble h a o column raw p) x xs ≡ Err (OpenString o)
  on_double DoubleQuote h a o column raw p x xs e next = absurd (false≢true (sym e))
  on_double Backslash h a o column raw p x xs e next = next _ _
  on_double Forbidden h a o column raw p x xs e next = next _ _
  on_double _ h a o column raw p x xs e next = next _ _

  double_runs : (cs : List ℕ) (b : Bool) (at col : ℕ) (h : Head) (a : List ℕ) (o column : ℕ) (raw : List ℕ) (p : Option YangFault) → ends_double b cs ≡ false
      → from (placed at col cs) (double_work b h a o column raw p) ≡ Err (OpenString o)
  double_runs [] true at col h a o column raw p e = refl
  double_runs [] false at col h a o column raw p e = refl
  double_runs (c ∷ cs) true at col h a o column raw p e = double_runs cs false _ _ h a o column _ _ e
  double_runs (c ∷ cs) false at col h a o column raw p e =
      let q = or_false (is_double_quote (sort_of c)) (ends_double (is_backslash (sort_of c)) cs) e in
      on_double (sort_of c) h a o column raw p _ _ q.0 (λ raw' p'. double_runs cs (is_backslash (sort_of c)) _ _ h a o column raw' p' q.1)

  abbrev comment_work : Bool → Spot → ℕ → Option YangFault → Work
  comment_work true spot o p = BehindStar spot o p
  comment_work false spot o p = InBlock spot o p

  on_comment : (k : Sort) (spot : Spot) (o : ℕ) (p : Option YangFault) (x : Character) (xs : List Character)
      → ((p' : Option YangFault) → from xs (comment_work (is_star k) spot o p') ≡ Err (OpenString o)) → onward k (InBlock spot o p) x xs ≡ Err (OpenString o)
  on_comment Star spot o p x xs next = next _
  on_comment Forbidden spot o p x xs next = next _
  on_comment _ spot o p x xs next = next _

  on_star : (k : Sort) (spot : Spot) (o : ℕ) (p : Option YangFault) (x : Character) (xs : List Character) → is_slash k ≡ false
      → ((p' : Option YangFault) → from xs (comment_work (is_star k) spot o p') ≡ Err (OpenString o)) → onward k (BehindStar spot o p) x xs ≡ Err (OpenString o)
  on_star Slash spot o p x xs e next = absurd (false≢true (sym e))
  on_star Star spot o p x xs e next = next _
  on_star Forbidden spot o p x xs e next = next _
  on_star _ spot o p x xs e next = next _

  comment_runs : (cs : List ℕ) (b : Bool) (at col : ℕ) (spot : Spot) (o : ℕ) (p : Option YangFault) → ends_comment b cs ≡ false → from (placed at col cs) (comment_work b spot o p) ≡ Err (OpenString o)
  comment_runs [] true at col spot o p e = refl
  comment_runs [] false at col spot o p e = refl
  comment_runs (c ∷ cs) true at col spot o p e =
      let q = or_false (is_slash (sort_of c)) (ends_comment (is_star (sort_of c)) cs) e in
      on_star (sort_of c) spot o p _ _ q.0 (λ p'. comment_runs cs (is_star (sort_of c)) _ _ spot o p' q.1)
  comment_runs (c ∷ cs) false at col spot o p e = on_comment (sort_of c) spot o p _ _ (λ p'. comment_runs cs (is_star (sort_of c)) _ _ spot o p' e)

module _ (front : List ℕ) (end : ℕ) where
  abbrev at : ℕ
  at = length (encode_utf8_all front)

  single_from : (done : List Stmt) (frames : List Frame) (v : Work) → StringSpot front done frames v → (w : Came front (S done frames v)) → (q : ℕ) (after : List ℕ) → sort_of q ≡ SingleQuote → ends_single after ≡ false
      → run (placed at w.column (q ∷ after)) (S done frames v) end ≡ Err (OpenString at)
  single_from done frames v StringSpot.keyed w q after e n =
      ap (λ k. fed (feed_work v k (S done frames v) (character at w.column q)) (λ t. run (placed (at + length (encode_utf8 q)) (next_column q w.column) after) t end)) e ∙ single_runs done frames end after _ _ _ _ _ _ n
  single_from done frames v StringSpot.joining w q after e n =
      ap (λ k. fed (feed_work v k (S done frames v) (character at w.column q)) (λ t. run (placed (at + length (encode_utf8 q)) (next_column q w.column) after) t end)) e ∙ single_runs done frames end after _ _ _ _ _ _ n

  double_from : (done : List Stmt) (frames : List Frame) (v : Work) → StringSpot front done frames v → (w : Came front (S done frames v)) → (q : ℕ) (after : List ℕ) → sort_of q ≡ DoubleQuote → ends_double false after ≡ false
      → run (placed at w.column (q ∷ after)) (S done frames v) end ≡ Err (OpenString at)
  double_from done frames v StringSpot.keyed w q after e n =
      ap (λ k. fed (feed_work v k (S done frames v) (character at w.column q)) (λ t. run (placed (at + length (encode_utf8 q)) (next_column q w.column) after) t end)) e ∙ double_runs done frames end after false _ _ _ _ _ _ _ _ n
  double_from done frames v StringSpot.joining w q after e n =
      ap (λ k. fed (feed_work v k (S done frames v) (character at w.column q)) (λ t. run (placed (at + length (encode_utf8 q)) (next_column q w.column) after) t end)) e ∙ double_runs done frames end after false _ _ _ _ _ _ _ _ n

  comment_from : (done : List Stmt) (frames : List Frame) (v : Work) → CommentSpot front done frames v → (w : Came front (S done frames v)) → (c d : ℕ) (after : List ℕ) → sort_of c ≡ Slash → sort_of d ≡ Star → ends_comment false after ≡ false
      → run (placed at w.column (c ∷ d ∷ after)) (S done frames v) end ≡ Err (OpenString at)
  comment_from done frames v m w c d after e e' n =
      let x = character at w.column c in
      let y = character (at + length (encode_utf8 c)) (next_column c w.column) d in
      let next = λ (t : Machine). run (placed (at + length (encode_utf8 c)) (next_column c w.column) (d ∷ after)) t end in
      let last = λ (t : Machine). run (placed ((at + length (encode_utf8 c)) + length (encode_utf8 d)) (next_column d (next_column c w.column)) after) t end in
      ap (λ k. fed (feed_work v k (S done frames v) x) next) e ∙ (ap (λ a. fed a next) (m.slash x)
      ∙ (ap (λ k. fed (feed_work (m.mid x) k (S done frames (m.mid x)) y) last) e' ∙ (ap (λ a. fed a last) (m.star x y) ∙ comment_runs done frames end after false _ _ _ _ _ n)))

-- a string or comment without end is the fault
pub unclosed : (front rest : List ℕ) (end : ℕ) → IsUnclosed front rest → run (placed 0 1 (front ++ rest)) start end ≡ Err (OpenString (length (encode_utf8_all front)))
unclosed front rest end (inl (q, after, e, sort, t, n)) =
    let s = comes front (34 ∷ []) t.0 in
    let done = s.state.done in
    let frames = s.state.frames in
    let v = s.state.work in
    s.came.goes rest end ∙ (ap (λ l. run (placed (length (encode_utf8_all front)) s.came.column l) s.state end) e
    ∙ single_from front end done frames v (string_spot front done frames v s.came s.clean t) s.came q after sort n)
unclosed front rest end (inr (inl (q, after, e, sort, t, n))) =
    let s = comes front (34 ∷ []) t.0 in
    let done = s.state.done in
    let frames = s.state.frames in
    let v = s.state.work in
    s.came.goes rest end ∙ (ap (λ l. run (placed (length (encode_utf8_all front)) s.came.column l) s.state end) e
    ∙ double_from front end done frames v (string_spot front done frames v s.came s.clean t) s.came q after sort n)
unclosed front rest end (inr (inr (x, y, after, e, sort, sort', t, n))) =
    let s = comes front (47 ∷ 42 ∷ 42 ∷ 47 ∷ []) t.0 in
    let done = s.state.done in
    let frames = s.state.frames in
    let v = s.state.work in
    s.came.goes rest end ∙ (ap (λ l. run (placed (length (encode_utf8_all front)) s.came.column l) s.state end) e
    ∙ comment_from front end done frames v (comment_spot front done frames v s.came s.clean t) s.came x y after sort sort' n)
