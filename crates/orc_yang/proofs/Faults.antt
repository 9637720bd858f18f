-- Each fault of the machine means what it is said to mean.
use Rattle.std.proofs.Common.{◌≡◌, ℕ, ◌+◌, ◌-◌, true, List, [], ◌∷◌, ◌++◌, length, Option, Some, None, Ok, Err, refl, sym, ap, ◌∙◌, subst, append_assoc, append-nil, length-append}
use Rattle.std.specs.Char.{encode_utf8}
use Rattle.std.specs.Str.{all_scalars, encode_utf8_all}
use Rattle.std.proofs.lemmas.Str.{encodes-append}
use Rattle.orc_yang.specs.declared.character.Sort.TheVariants.{CloseBrace, Star}
use Rattle.orc_yang.specs.declared.fault.YangFault.{YangFault}
use Rattle.orc_yang.specs.declared.fault.YangFault.TheVariants.{BadToken}
use Rattle.orc_yang.specs.declared.statement.Stmt.{Stmt}
use Rattle.orc_yang.specs.declared.character.Character.{Character}
use Rattle.orc_yang.specs.declared.parser.Frame.{Frame}
use Rattle.orc_yang.specs.Text.{placed, next_column}
use Rattle.orc_yang.specs.Faults.{CanOpen, CanFollow, IsEscaping, TakesString, TakesComment}
use Rattle.orc_yang.specs.Machine.{Head, Spot, Between, Keyed, Worded, Strung, Joining, Work, Gap, Slashed, InLine, InBlock, BehindStar, InKeyword, BehindColon, InSecond, Lone, WordSlash, WordStar, InWord, InSingle, InDouble, BehindBackslash, Machine, run, feed, feed_work, fed, start}
use Rattle.orc_yang.proofs.Complete.{complete}
use Rattle.orc_yang.proofs.Rests.{Rest}
use Rattle.orc_yang.proofs.Sound.{sound, reads}
use Rattle.orc_yang.proofs.Viable.{pending, accepts}

-- the character in this place and column
abbrev pub character : ℕ → ℕ → ℕ → Character
character at column c = record { code = c; at = at; last = at + length (encode_utf8 c) - 1; column = column }

-- The machine comes from the beginning through these characters to this state.
pub record Came (front : List ℕ) (s : Machine) : Type 0 where
  pub column : ℕ
  pub goes : (rest : List ℕ) (end : ℕ) → run (placed 0 1 (front ++ rest)) start end ≡ run (placed (length (encode_utf8_all front)) column rest) s end

pub came_nil : Came [] start
came_nil = record { column = 1; goes = λ rest end. refl }

pub came_more : (front : List ℕ) (s t : Machine) (w : Came front s) (c : ℕ) → feed s (character (length (encode_utf8_all front)) w.column c) ≡ Ok t → Came (front ++ c ∷ []) t
came_more front s t w c e = record {
  column = next_column c w.column;
  goes = λ rest end.
      let at = length (encode_utf8_all front) in
      let q : length (encode_utf8_all (front ++ c ∷ [])) ≡ at + length (encode_utf8 c) =
      ap length (encodes-append front (c ∷ [])) ∙ (length-append (encode_utf8_all front) (encode_utf8_all (c ∷ [])) ∙ ap (λ l. at + length l) (append-nil (encode_utf8 c))) in
      ap (λ l. run (placed 0 1 l) start end) (append_assoc front (c ∷ []) rest)
      ∙ (w.goes (c ∷ rest) end
      ∙ (ap (λ f. fed f (λ u. run (placed (at + length (encode_utf8 c)) (next_column c w.column) rest) u end)) e
      ∙ ap (λ m. run (placed m (next_column c w.column) rest) t end) (sym q)));
}

-- what an accepted end says of the prefix
pub begins_by : (front : List ℕ) (s : Machine) → Came front s → (cs more : List ℕ) (list : List Stmt) → all_scalars more ≡ true
    → ((at column end : ℕ) → run (placed at column (cs ++ more)) s end ≡ Ok list) → CanOpen (front ++ cs)
begins_by front s w cs more list q h =
    (more, list, q, sound 0 (ap (λ l. run (placed 0 1 l) start 0) (append_assoc front cs more) ∙ (w.goes (cs ++ more) 0 ∙ h (length (encode_utf8_all front)) w.column 0)))

pub begins : (front : List ℕ) (s : Machine) → Came front s → pending s.work ≡ None → CanOpen front
begins front s w q =
    let a = accepts s q in
    (a.0, a.1, a.2, sound 0 (w.goes a.0 0 ∙ a.3 (length (encode_utf8_all front)) w.column 0))

-- a fault that waits is never forgotten
some_none : {A : Type 0} (f : YangFault) (p : Option YangFault) → p ≡ Some f → p ≡ None → A
some_none f p e e' = cc

doomed_work : (w : Work) (s : Machine) (list : List Stmt) (xs : List Character) (f : YangFault) → pending w ≡ Some f → Rest s.done s.frames list w xs → ⊥
doomed_work (InBlock spot o p) s list xs f q r = some_none f p q r.0
doomed_work (BehindStar spot o p) s list xs f q r = some_none f p q r.0
doomed_work (InSingle h a o p) s list xs f q r = some_none f p q r.0
doomed_work (InDouble h a o column raw p) s list xs f q r = some_none f p q r.0
doomed_work (BehindBackslash h a o column raw p) s list xs f q r = some_none f p q r.0
doomed_work _ s list xs f q r = cc

pub doomed : (s : Machine) (f : YangFault) → pending s.work ≡ Some f → (xs : List Character) (list : List Stmt) (end : ℕ) → run xs s end ≡ Ok list → ⊥
doomed s f q xs list end e = doomed_work s.work s list xs f q (reads xs list end s e)

-- where a step faults, the character can't follow
pub stops_err : (front : List ℕ) (s : Machine) (w : Came front s) (c : ℕ) (f : YangFault) → feed s (character (length (encode_utf8_all front)) w.column c) ≡ Err f → CanFollow front c → ⊥
stops_err front s w c f e b =
    let at = length (encode_utf8_all front) in
    let q = sym (w.goes (c ∷ b.0) 0) ∙ (ap (λ l. run (placed 0 1 l) start 0) (sym (append_assoc front (c ∷ []) b.0)) ∙ complete 0 b.3) in
    let r = ap (λ g. fed g (λ u. run (placed (at + length (encode_utf8 c)) (next_column c w.column) b.0) u 0)) e in
    err_ok (sym r ∙ q)
  where
    err_ok : {A B : Type 0} {x : A} {y : B} → Err x ≡ Ok y → ⊥
    err_ok h = cc

pub stops_doomed : (front : List ℕ) (s t : Machine) (w : Came front s) (c : ℕ) (f : YangFault) → feed s (character (length (encode_utf8_all front)) w.column c) ≡ Ok t → pending t.work ≡ Some f
    → CanFollow front c → ⊥
stops_doomed front s t w c f e q b =
    let v = came_more front s t w c e in
    doomed t f q (placed (length (encode_utf8_all (front ++ c ∷ []))) v.column b.0) b.1 0 (sym (v.goes b.0 0) ∙ complete 0 b.3)

-- where a step goes on without a fault, the character can follow
pub can_follow : (front : List ℕ) (s t : Machine) (w : Came front s) (c : ℕ) → feed s (character (length (encode_utf8_all front)) w.column c) ≡ Ok t → pending t.work ≡ None → CanFollow front c
can_follow front s t w c e q = begins (front ++ c ∷ []) t (came_more front s t w c e) q

abbrev pub S : List Stmt → List Frame → Work → Machine
S done frames w = record { work = w; done = done; frames = frames }

module _ (front : List ℕ) (done : List Stmt) (frames : List Frame) where
  pub takes_keyed : (h : Head) → Came front (S done frames (Gap (Keyed h))) → TakesString front
  takes_keyed h w = (can_follow front _ _ w 34 refl refl, can_follow front _ _ w 39 refl refl, stops_err front _ w 125 _ refl)

  pub takes_joining : (h : Head) (a : List ℕ) → Came front (S done frames (Gap (Joining h a))) → TakesString front
  takes_joining h a w = (can_follow front _ _ w 34 refl refl, can_follow front _ _ w 39 refl refl, stops_err front _ w 125 _ refl)

  ungrouped : (P : List ℕ → Type 0) (cs ds : List ℕ) → P (front ++ (cs ++ ds)) → P ((front ++ cs) ++ ds)
  ungrouped P cs ds p = subst P (sym (append_assoc front cs ds)) p

  -- from the work after the first slash
  takes_slashed : (v : Work) (spot : Spot) (o : ℕ) → Came (front ++ 47 ∷ []) (S done frames v)
      → ((x : Character) → feed_work v Star (S done frames v) x ≡ Ok (S done frames (InBlock spot o None)))
      → ((x : Character) → feed_work v CloseBrace (S done frames v) x ≡ Err (BadToken x.at))
      → TakesComment front
  takes_slashed v spot o w e e' =
      let w2 = came_more (front ++ 47 ∷ []) _ _ w 42 (e _) in
      let w3 = came_more ((front ++ 47 ∷ []) ++ 42 ∷ []) _ (S done frames (BehindStar spot o None)) w2 42 refl in
      let w4 = came_more (((front ++ 47 ∷ []) ++ 42 ∷ []) ++ 42 ∷ []) _ (S done frames (Gap spot)) w3 47 refl in
      let b = begins ((((front ++ 47 ∷ []) ++ 42 ∷ []) ++ 42 ∷ []) ++ 47 ∷ []) _ w4 refl in
      let q : (((front ++ 47 ∷ []) ++ 42 ∷ []) ++ 42 ∷ []) ++ 47 ∷ [] ≡ front ++ 47 ∷ 42 ∷ 42 ∷ 47 ∷ [] = simp append_assoc in
      (subst CanOpen q b, λ b'. stops_err (front ++ 47 ∷ []) _ w 125 _ (e' _) (ungrouped CanOpen (47 ∷ []) (125 ∷ []) b'))

  pub takes_gap : (spot : Spot) → Came front (S done frames (Gap spot)) → TakesComment front
  takes_gap Between w = takes_slashed (Slashed Between _) Between _ (came_more front _ _ w 47 refl) (λ x. refl) (λ x. refl)
  takes_gap (Keyed h) w = takes_slashed (Lone h _ _) (Keyed h) _ (came_more front _ _ w 47 refl) (λ x. refl) (λ x. refl)
  takes_gap (Worded h a) w = takes_slashed (Slashed (Worded h a) _) (Worded h a) _ (came_more front _ _ w 47 refl) (λ x. refl) (λ x. refl)
  takes_gap (Strung h a) w = takes_slashed (Slashed (Strung h a) _) (Strung h a) _ (came_more front _ _ w 47 refl) (λ x. refl) (λ x. refl)
  takes_gap (Joining h a) w = takes_slashed (Slashed (Joining h a) _) (Joining h a) _ (came_more front _ _ w 47 refl) (λ x. refl) (λ x. refl)

  pub takes_first : (h : Head) → Came front (S done frames (InKeyword h)) → TakesComment front
  takes_first h w = takes_slashed (Slashed (Keyed h) _) (Keyed h) _ (came_more front _ _ w 47 refl) (λ x. refl) (λ x. refl)

  pub takes_second : (h : Head) → Came front (S done frames (InSecond h)) → TakesComment front
  takes_second h w = takes_slashed (Slashed (Keyed h) _) (Keyed h) _ (came_more front _ _ w 47 refl) (λ x. refl) (λ x. refl)

  -- only after a backslash in a double-quoted string
  pub escaping : (h : Head) (a : List ℕ) (o column : ℕ) (raw : List ℕ) → Came front (S done frames (BehindBackslash h a o column raw None)) → IsEscaping front
  escaping h a o column raw w = (can_follow front _ _ w 110 refl refl, can_follow front _ _ w 34 refl refl, stops_doomed front _ _ w 97 _ refl refl)

  pub not_escaping : (w : Work) → pending w ≡ None → ((h : Head) (a : List ℕ) (o column : ℕ) (raw : List ℕ) → w ≡ BehindBackslash h a o column raw None → ⊥) → Came front (S done frames w) → IsEscaping front → ⊥
  not_escaping (Gap Between) q n w e = stops_err front _ w 34 _ refl e.1
  not_escaping (Gap (Keyed h)) q n w e = e.2 (can_follow front _ _ w 97 refl refl)
  not_escaping (Gap (Worded h a)) q n w e = stops_err front _ w 34 _ refl e.1
  not_escaping (Gap (Strung h a)) q n w e = stops_err front _ w 34 _ refl e.1
  not_escaping (Gap (Joining h a)) q n w e = stops_err front _ w 110 _ refl e.0
  not_escaping (Slashed spot o) q n w e = stops_err front _ w 34 _ refl e.1
  not_escaping (InLine spot) q n w e = e.2 (can_follow front _ _ w 97 refl refl)
  not_escaping (InBlock spot o p) q n w e = e.2 (can_follow front _ _ w 97 refl q)
  not_escaping (BehindStar spot o p) q n w e = e.2 (can_follow front _ _ w 97 refl q)
  not_escaping (InKeyword h) q n w e = stops_err front _ w 34 _ refl e.1
  not_escaping (BehindColon h) q n w e = stops_err front _ w 34 _ refl e.1
  not_escaping (InSecond h) q n w e = stops_err front _ w 34 _ refl e.1
  not_escaping (Lone h a o) q n w e = stops_err front _ w 34 _ refl e.1
  not_escaping (WordSlash h a) q n w e = stops_err front _ w 34 _ refl e.1
  not_escaping (WordStar h a) q n w e = stops_err front _ w 34 _ refl e.1
  not_escaping (InWord h a) q n w e = stops_err front _ w 34 _ refl e.1
  not_escaping (InSingle h a o p) q n w e = e.2 (can_follow front _ _ w 97 refl q)
  not_escaping (InDouble h a o column raw p) q n w e = e.2 (can_follow front _ _ w 97 refl q)
  not_escaping (BehindBackslash h a o column raw None) q n w e = n h a o column raw refl
  not_escaping (BehindBackslash h a o column raw (Some f)) q n w e = cc
