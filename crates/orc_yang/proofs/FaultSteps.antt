-- What a fault of a step means.
use Rattle.std.proofs.Common.{◌≡◌, ℕ, ◌+◌, ◌-◌, Bool, true, false, cond, nat_lt, List, [], ◌∷◌, ◌++◌, length, Option, Some, None, Ok, Err, refl, sym, ap, ◌∙◌, subst, arith, append_assoc, append-nil, inl, inr}
use Rattle.std.specs.Char.{encode_utf8}
use Rattle.std.specs.Str.{encode_utf8_all}
use Rattle.std.proofs.lemmas.Str.{length-le-encodes}
use Rattle.orc_yang.specs.declared.character.Sort.{Sort}
use Rattle.orc_yang.specs.declared.character.Sort.TheVariants.{LineFeed, Blank, Semicolon, OpenBrace, CloseBrace, DoubleQuote, SingleQuote, Slash, Star, Plus, Colon, Backslash, Start, Inner, Forbidden}
use Rattle.orc_yang.specs.declared.fault.YangFault.{YangFault}
use Rattle.orc_yang.specs.declared.fault.YangFault.TheVariants.{BadToken, BadEscape, Depth}
use Rattle.orc_yang.specs.declared.statement.Stmt.{Stmt}
use Rattle.orc_yang.specs.declared.character.Character.{Character}
use Rattle.orc_yang.specs.declared.parser.Frame.{Frame}
use Rattle.orc_yang.specs.Sorts.{sort_of}
use Rattle.orc_yang.specs.Quoted.{is_escape}
use Rattle.orc_yang.specs.Faults.{CanFollow, TakesComment, is_quote, is_double_quote, is_backslash, is_star, is_slash, IsFirstMisfit, IsPlace}
use Rattle.orc_yang.specs.Machine as machine
use Rattle.orc_yang.specs.Machine.{Head, Spot, Between, Keyed, Worded, Strung, Joining, Work, Gap, Slashed, InLine, InBlock, BehindStar, InKeyword, BehindColon, InSecond, Lone, WordSlash, WordStar, InWord, InSingle, InDouble, BehindBackslash, Machine, Fed, run, feed, feed_work, fed}
use Rattle.orc_yang.proofs.Viable.{pending}
use Rattle.orc_yang.proofs.Faults.{character, Came, begins, stops_err, stops_doomed, can_follow, S, takes_keyed, takes_joining, takes_gap, takes_first, takes_second, escaping, not_escaping}
use Rattle.orc_yang.proofs.Openings.{OpenSingle, OpenDouble, OpenComment, OpenSlash, Opened, Pends, pends_none, After, single_more, double_more, double_escaped, comment_more, comment_star, single_opens, double_opens, slash_opens, comment_opens, pends_more, Found}

module _ (front : List ℕ) (c : ℕ) (after : List ℕ) (done : List Stmt) where
  abbrev at : ℕ
  at = length (encode_utf8_all front)

  module _ (frames : List Frame) where
    abbrev C : Work → Type 0
    C v = Came front (S done frames v)

    abbrev x : (v : Work) → C v → Character
    x v w = character at w.column c

    abbrev F : (v : Work) → C v → Fed
    F v w = feed (S done frames v) (x v w)

    abbrev N : Work → Type 0
    N v = (h : Head) (a : List ℕ) (o column : ℕ) (raw : List ℕ) → v ≡ BehindBackslash h a o column raw None → ⊥

    halts : (v : Work) (w : C v) (f : YangFault) → pending v ≡ None → F v w ≡ Err f → IsFirstMisfit (front ++ c ∷ after) front c
    halts v w f q e = record { after = after; is = refl; opens = begins front (S done frames v) w q; misfits = stops_err front (S done frames v) w c f e }

    bad_fault : (v : Work) (w : C v) → pending v ≡ None → N v → F v w ≡ Err (BadToken at) → (sort_of c ≡ OpenBrace → CanFollow front 59 → ⊥) → (sort_of c ≡ Forbidden → CanFollow front 128 → ⊥)
        → Found (front ++ c ∷ after) (BadToken at)
    bad_fault v w q n e b b' = (front, c, halts v w (BadToken at) q e, inl (refl, b'), not_escaping front done frames v q n w, b)

    last_place : sort_of c ≡ Forbidden → CanFollow front 128 → IsPlace front c (at + length (encode_utf8 c) - 1)
    last_place e b = inr (omega (arith, length-le-encodes (c ∷ []), ap length (append-nil (encode_utf8 c))), e, b)

    not_brace : (k : Sort) → (k ≡ OpenBrace → ⊥) → sort_of c ≡ k → sort_of c ≡ OpenBrace → CanFollow front 59 → ⊥
    not_brace k n e q b = n (sym e ∙ q)

    not_forbidden : (k : Sort) → (k ≡ Forbidden → ⊥) → sort_of c ≡ k → sort_of c ≡ Forbidden → CanFollow front 128 → ⊥
    not_forbidden k n e q b = n (sym e ∙ q)

    cut_fault : (v : Work) (w : C v) → pending v ≡ None → N v → F v w ≡ Err (BadToken (at + length (encode_utf8 c) - 1)) → sort_of c ≡ Forbidden → CanFollow front 128
        → Found (front ++ c ∷ after) (BadToken (at + length (encode_utf8 c) - 1))
    cut_fault v w q n e k b =
        (front, c, halts v w (BadToken (at + length (encode_utf8 c) - 1)) q e, last_place k b, not_escaping front done frames v q n w, not_brace Forbidden (λ z. cc) k)

    -- a block too deep
    enters : (b : Bool) (t : Machine) (v : Work) (w : C v) → pending v ≡ None → pending t.work ≡ None → Opened (front ++ c ∷ []) t.work → F v w ≡ cond b (Ok t) (Err (Depth at)) → CanFollow front 59 → sort_of c ≡ OpenBrace
        → After front c after (cond b (Ok t) (Err (Depth at)))
    enters true t v w q q' o e s k = (o, let P : Option YangFault → Type 0 = λ p. Pends (front ++ c ∷ []) p in subst P (sym q') (pends_none (front ++ c ∷ [])))
    enters false t v w q q' o e s k = (front, c, halts v w (Depth at) q e, k, s, refl)

    none : Pends (front ++ c ∷ []) None
    none = pends_none (front ++ c ∷ [])

    f_is : (v : Work) (w : C v) (k : Sort) → sort_of c ≡ k → F v w ≡ feed_work v k (S done frames v) (x v w)
    f_is v w k e = ap (λ q. feed_work v q (S done frames v) (x v w)) e

    between_spot : (w : C (Gap Between)) (k : Sort) → sort_of c ≡ k → (k ≡ CloseBrace → ⊥) → After front c after (machine.between k (S done frames (Gap Between)) (x (Gap Between) w))
    between_spot w LineFeed e z = (tt, none)
    between_spot w Blank e z = (tt, none)
    between_spot w Slash e z = (slash_opens front c done frames refl e (takes_gap front done frames Between w), none)
    between_spot w CloseBrace e z = absurd (z refl)
    between_spot w Start e z = (tt, none)
    between_spot w OpenBrace e z = bad_fault (Gap Between) w refl (λ h a o column raw i. cc) (f_is (Gap Between) w OpenBrace e) (λ q b. stops_err front _ w 59 _ refl b) (λ q b. stops_err front _ w 128 _ refl b)
    between_spot w k e z = bad_fault (Gap Between) w refl (λ h a o column raw i. cc) (f_is (Gap Between) w k e) (not_brace k (λ i. cc) e) (λ q b. stops_err front _ w 128 _ refl b)

    keyed_spot : (h : Head) (w : C (Gap (Keyed h))) (k : Sort) → sort_of c ≡ k → After front c after (machine.keyed k h (S done frames (Gap (Keyed h))) (x (Gap (Keyed h)) w))
    keyed_spot h w LineFeed e = (tt, none)
    keyed_spot h w Blank e = (tt, none)
    keyed_spot h w Semicolon e = (tt, none)
    keyed_spot h w OpenBrace e = enters (nat_lt (length frames) 32) _ (Gap (Keyed h)) w refl refl tt (f_is (Gap (Keyed h)) w OpenBrace e) (can_follow front _ _ w 59 refl refl) e
    keyed_spot h w CloseBrace e = bad_fault (Gap (Keyed h)) w refl (λ h a o column raw i. cc) (f_is (Gap (Keyed h)) w CloseBrace e) (not_brace CloseBrace (λ i. cc) e) (not_forbidden CloseBrace (λ i. cc) e)
    keyed_spot h w Forbidden e = cut_fault (Gap (Keyed h)) w refl (λ h a o column raw i. cc) (f_is (Gap (Keyed h)) w Forbidden e) e (can_follow front _ _ w 128 refl refl)
    keyed_spot h w DoubleQuote e = (double_opens front c done frames refl e (takes_keyed front done frames h w), none)
    keyed_spot h w SingleQuote e = (single_opens front c done frames refl e (takes_keyed front done frames h w), none)
    keyed_spot h w Slash e = (slash_opens front c done frames refl e (takes_gap front done frames (Keyed h) w), none)
    keyed_spot h w Star e = (tt, none)
    keyed_spot h w _ e = (tt, none)

    worded_spot : (h : Head) (a : List ℕ) (w : C (Gap (Worded h a))) (k : Sort) → sort_of c ≡ k → After front c after (machine.worded k h a (S done frames (Gap (Worded h a))) (x (Gap (Worded h a)) w))
    worded_spot h a w LineFeed e = (tt, none)
    worded_spot h a w Blank e = (tt, none)
    worded_spot h a w Slash e = (slash_opens front c done frames refl e (takes_gap front done frames (Worded h a) w), none)
    worded_spot h a w Semicolon e = (tt, none)
    worded_spot h a w OpenBrace e = enters (nat_lt (length frames) 32) _ (Gap (Worded h a)) w refl refl tt (f_is (Gap (Worded h a)) w OpenBrace e) (can_follow front _ _ w 59 refl refl) e
    worded_spot h a w k e = bad_fault (Gap (Worded h a)) w refl (λ h a o column raw i. cc) (f_is (Gap (Worded h a)) w k e) (not_brace k (λ i. cc) e) (λ q b. stops_err front _ w 128 _ refl b)

    strung_spot : (h : Head) (a : List ℕ) (w : C (Gap (Strung h a))) (k : Sort) → sort_of c ≡ k → After front c after (machine.strung k h a (S done frames (Gap (Strung h a))) (x (Gap (Strung h a)) w))
    strung_spot h a w LineFeed e = (tt, none)
    strung_spot h a w Blank e = (tt, none)
    strung_spot h a w Slash e = (slash_opens front c done frames refl e (takes_gap front done frames (Strung h a) w), none)
    strung_spot h a w Semicolon e = (tt, none)
    strung_spot h a w OpenBrace e = enters (nat_lt (length frames) 32) _ (Gap (Strung h a)) w refl refl tt (f_is (Gap (Strung h a)) w OpenBrace e) (can_follow front _ _ w 59 refl refl) e
    strung_spot h a w Plus e = (tt, none)
    strung_spot h a w k e = bad_fault (Gap (Strung h a)) w refl (λ h a o column raw i. cc) (f_is (Gap (Strung h a)) w k e) (not_brace k (λ i. cc) e) (λ q b. stops_err front _ w 128 _ refl b)

    joining_spot : (h : Head) (a : List ℕ) (w : C (Gap (Joining h a))) (k : Sort) → sort_of c ≡ k → After front c after (machine.joining k h a (S done frames (Gap (Joining h a))) (x (Gap (Joining h a)) w))
    joining_spot h a w LineFeed e = (tt, none)
    joining_spot h a w Blank e = (tt, none)
    joining_spot h a w Slash e = (slash_opens front c done frames refl e (takes_gap front done frames (Joining h a) w), none)
    joining_spot h a w DoubleQuote e = (double_opens front c done frames refl e (takes_joining front done frames h a w), none)
    joining_spot h a w SingleQuote e = (single_opens front c done frames refl e (takes_joining front done frames h a w), none)
    joining_spot h a w OpenBrace e = bad_fault (Gap (Joining h a)) w refl (λ h a o column raw i. cc) (f_is (Gap (Joining h a)) w OpenBrace e) (λ q b. stops_err front _ w 59 _ refl b) (λ q b. stops_err front _ w 128 _ refl b)
    joining_spot h a w k e = bad_fault (Gap (Joining h a)) w refl (λ h a o column raw i. cc) (f_is (Gap (Joining h a)) w k e) (not_brace k (λ i. cc) e) (λ q b. stops_err front _ w 128 _ refl b)

    slashed_work : (spot : Spot) (o : ℕ) (w : C (Slashed spot o)) → OpenSlash front o → (k : Sort) → sort_of c ≡ k → After front c after (machine.slashed k spot o (S done frames (Slashed spot o)) (x (Slashed spot o) w))
    slashed_work spot o w op Slash e = (tt, none)
    slashed_work spot o w op Star e = (comment_opens front c done frames e op, none)
    slashed_work spot o w op OpenBrace e = bad_fault (Slashed spot o) w refl (λ h a o column raw i. cc) (f_is (Slashed spot o) w OpenBrace e) (λ q b. stops_err front _ w 59 _ refl b) (λ q b. stops_err front _ w 128 _ refl b)
    slashed_work spot o w op k e = bad_fault (Slashed spot o) w refl (λ h a o column raw i. cc) (f_is (Slashed spot o) w k e) (not_brace k (λ i. cc) e) (λ q b. stops_err front _ w 128 _ refl b)

    line_work : (spot : Spot) (w : C (InLine spot)) (k : Sort) → sort_of c ≡ k → After front c after (machine.feed_line k spot (S done frames (InLine spot)) (x (InLine spot) w))
    line_work spot w LineFeed e = (tt, none)
    line_work spot w Forbidden e = cut_fault (InLine spot) w refl (λ h a o column raw i. cc) (f_is (InLine spot) w Forbidden e) e (can_follow front _ _ w 128 refl refl)
    line_work spot w _ e = (tt, none)

    -- a fault in a string or comment waits for its end
    spoils : (v : Work) (w : C v) (t : Machine) (f : YangFault) → pending v ≡ None → N v → F v w ≡ Ok t → pending t.work ≡ Some (BadToken (at + length (encode_utf8 c) - 1)) → sort_of c ≡ Forbidden → CanFollow front 128
        → Some (BadToken (at + length (encode_utf8 c) - 1)) ≡ Some f → (rest : List ℕ) → Found ((front ++ c ∷ []) ++ rest) f
    spoils v w t f q n e p k b i rest =
        let g = BadToken (at + length (encode_utf8 c) - 1) in
        let j : g ≡ f = cc in
        let P : YangFault → Type 0 = λ h. Found ((front ++ c ∷ []) ++ rest) h in
        subst P j (
          front,
          c,
          record { after = rest; is = append_assoc front (c ∷ []) rest; opens = begins front (S done frames v) w q; misfits = stops_doomed front (S done frames v) t w c g e p },
          last_place k b,
          not_escaping front done frames v q n w,
          not_brace Forbidden (λ z. cc) k,
        )

    block_work : (spot : Spot) (o : ℕ) (p : Option YangFault) (w : C (InBlock spot o p)) → OpenComment false front o → Pends front p → (k : Sort) → sort_of c ≡ k
        → After front c after (machine.feed_block k spot o p (S done frames (InBlock spot o p)) (x (InBlock spot o p) w))
    block_work spot o p w op ps Star e = (comment_more front c true (ap is_star e) op, pends_more front c p ps)
    block_work spot o None w op ps Forbidden e =
        (comment_more front c false (ap is_star e) op, λ f i rest. spoils (InBlock spot o None) w _ f refl (λ h a o column raw i. cc) (f_is (InBlock spot o None) w Forbidden e) refl e (can_follow front _ _ w 128 refl refl) i rest)
    block_work spot o (Some g) w op ps Forbidden e = (comment_more front c false (ap is_star e) op, pends_more front c (Some g) ps)
    block_work spot o p w op ps _ e = (comment_more front c false (ap is_star e) op, pends_more front c p ps)

    unspoilt : (p : Option YangFault) (t : Machine) → Pends front p → Opened (front ++ c ∷ []) t.work → pending t.work ≡ None → After front c after (machine.unspoilt p (Ok t))
    unspoilt None t ps o q = (o, let P : Option YangFault → Type 0 = λ v. Pends (front ++ c ∷ []) v in subst P (sym q) none)
    unspoilt (Some f) t ps o q = ps f refl (c ∷ after)

    star_work : (spot : Spot) (o : ℕ) (p : Option YangFault) (w : C (BehindStar spot o p)) → OpenComment true front o → Pends front p → (k : Sort) → sort_of c ≡ k
        → After front c after (machine.feed_star k spot o p (S done frames (BehindStar spot o p)) (x (BehindStar spot o p) w))
    star_work spot o p w op ps Slash e = unspoilt p (S done frames (Gap spot)) ps tt refl
    star_work spot o p w op ps Star e = (comment_star front c true (ap is_slash e) (ap is_star e) op, pends_more front c p ps)
    star_work spot o None w op ps Forbidden e =
        (comment_star front c false (ap is_slash e) (ap is_star e) op, λ f i rest. spoils (BehindStar spot o None) w _ f refl (λ h a o column raw i. cc) (f_is (BehindStar spot o None) w Forbidden e) refl e (can_follow front _ _ w 128 refl refl) i rest)
    star_work spot o (Some g) w op ps Forbidden e = (comment_star front c false (ap is_slash e) (ap is_star e) op, pends_more front c (Some g) ps)
    star_work spot o p w op ps _ e = (comment_star front c false (ap is_slash e) (ap is_star e) op, pends_more front c p ps)

    end_key : (h : Head) (v : Work) (w : C v) → pending v ≡ None → N v → TakesComment front → CanFollow front 59 → (CanFollow front 128 → ⊥) → (k : Sort) → sort_of c ≡ k
        → F v w ≡ machine.end_keyword k h (S done frames v) (x v w) → After front c after (machine.end_keyword k h (S done frames v) (x v w))
    end_key h v w q n t s b LineFeed e fe = (tt, none)
    end_key h v w q n t s b Blank e fe = (tt, none)
    end_key h v w q n t s b Slash e fe = (slash_opens front c done frames refl e t, none)
    end_key h v w q n t s b Semicolon e fe = (tt, none)
    end_key h v w q n t s b OpenBrace e fe = enters (nat_lt (length frames) 32) _ v w q refl tt fe s e
    end_key h v w q n t s b k e fe = bad_fault v w q n fe (not_brace k (λ i. cc) e) (λ q'. b)

    keyword_work : (h : Head) (w : C (InKeyword h)) (k : Sort) → sort_of c ≡ k → After front c after (machine.feed_keyword k h (S done frames (InKeyword h)) (x (InKeyword h) w))
    keyword_work h w Start e = (tt, none)
    keyword_work h w Inner e = (tt, none)
    keyword_work h w Colon e = (tt, none)
    keyword_work h w k e = end_key h (InKeyword h) w refl (λ h a o column raw i. cc) (takes_first front done frames h w) (can_follow front _ _ w 59 refl refl) (λ b. stops_err front _ w 128 _ refl b) k e (f_is (InKeyword h) w k e)

    second_work : (h : Head) (w : C (InSecond h)) (k : Sort) → sort_of c ≡ k → After front c after (machine.feed_second k h (S done frames (InSecond h)) (x (InSecond h) w))
    second_work h w Start e = (tt, none)
    second_work h w Inner e = (tt, none)
    second_work h w k e = end_key h (InSecond h) w refl (λ h a o column raw i. cc) (takes_second front done frames h w) (can_follow front _ _ w 59 refl refl) (λ b. stops_err front _ w 128 _ refl b) k e (f_is (InSecond h) w k e)

    colon_work : (h : Head) (w : C (BehindColon h)) (k : Sort) → sort_of c ≡ k → After front c after (machine.feed_colon k h (S done frames (BehindColon h)) (x (BehindColon h) w))
    colon_work h w Start e = (tt, none)
    colon_work h w OpenBrace e = bad_fault (BehindColon h) w refl (λ h a o column raw i. cc) (f_is (BehindColon h) w OpenBrace e) (λ q b. stops_err front _ w 59 _ refl b) (λ q b. stops_err front _ w 128 _ refl b)
    colon_work h w k e = bad_fault (BehindColon h) w refl (λ h a o column raw i. cc) (f_is (BehindColon h) w k e) (not_brace k (λ i. cc) e) (λ q b. stops_err front _ w 128 _ refl b)

    -- in an unquoted string, whatever its last character was
    word_work : (h : Head) (a : List ℕ) (v : Work) (w : C v) → pending v ≡ None → N v → CanFollow front 59 → CanFollow front 128 → (k : Sort) → sort_of c ≡ k
        → F v w ≡ machine.feed_word k h a (S done frames v) (x v w) → After front c after (machine.feed_word k h a (S done frames v) (x v w))
    word_work h a v w q n s b LineFeed e fe = (tt, none)
    word_work h a v w q n s b Blank e fe = (tt, none)
    word_work h a v w q n s b Semicolon e fe = (tt, none)
    word_work h a v w q n s b OpenBrace e fe = enters (nat_lt (length frames) 32) _ v w q refl tt fe s e
    word_work h a v w q n s b CloseBrace e fe = bad_fault v w q n fe (not_brace CloseBrace (λ i. cc) e) (not_forbidden CloseBrace (λ i. cc) e)
    word_work h a v w q n s b DoubleQuote e fe = bad_fault v w q n fe (not_brace DoubleQuote (λ i. cc) e) (not_forbidden DoubleQuote (λ i. cc) e)
    word_work h a v w q n s b SingleQuote e fe = bad_fault v w q n fe (not_brace SingleQuote (λ i. cc) e) (not_forbidden SingleQuote (λ i. cc) e)
    word_work h a v w q n s b Forbidden e fe = cut_fault v w q n fe e b
    word_work h a v w q n s b Slash e fe = (tt, none)
    word_work h a v w q n s b Star e fe = (tt, none)
    word_work h a v w q n s b _ e fe = (tt, none)

    lone_work : (h : Head) (a : List ℕ) (o : ℕ) (w : C (Lone h a o)) → OpenSlash front o → (k : Sort) → sort_of c ≡ k → After front c after (machine.lone k h a o (S done frames (Lone h a o)) (x (Lone h a o) w))
    lone_work h a o w op Slash e = (tt, none)
    lone_work h a o w op Star e = (comment_opens front c done frames e op, none)
    lone_work h a o w op k e = word_work h a (Lone h a o) w refl (λ h a o column raw i. cc) (can_follow front _ _ w 59 refl refl) (can_follow front _ _ w 128 refl refl) k e (f_is (Lone h a o) w k e)

    bad_mark : (v : Work) (w : C v) → pending v ≡ None → N v → F v w ≡ Err (BadToken at) → (k : Sort) → (k ≡ OpenBrace → ⊥) → (k ≡ Forbidden → ⊥) → sort_of c ≡ k → Found (front ++ c ∷ after) (BadToken at)
    bad_mark v w q n fe k z z' e = bad_fault v w q n fe (not_brace k z e) (not_forbidden k z' e)

    word_slash : (h : Head) (a : List ℕ) (w : C (WordSlash h a)) → (k : Sort) → sort_of c ≡ k → After front c after (machine.word_slash k h a (S done frames (WordSlash h a)) (x (WordSlash h a) w))
    word_slash h a w Slash e = bad_mark (WordSlash h a) w refl (λ h a o column raw i. cc) (f_is (WordSlash h a) w Slash e) Slash (λ i. cc) (λ i. cc) e
    word_slash h a w Star e = bad_mark (WordSlash h a) w refl (λ h a o column raw i. cc) (f_is (WordSlash h a) w Star e) Star (λ i. cc) (λ i. cc) e
    word_slash h a w k e = word_work h a (WordSlash h a) w refl (λ h a o column raw i. cc) (can_follow front _ _ w 59 refl refl) (can_follow front _ _ w 128 refl refl) k e (f_is (WordSlash h a) w k e)

    word_star : (h : Head) (a : List ℕ) (w : C (WordStar h a)) → (k : Sort) → sort_of c ≡ k → After front c after (machine.word_star k h a (S done frames (WordStar h a)) (x (WordStar h a) w))
    word_star h a w Slash e = bad_mark (WordStar h a) w refl (λ h a o column raw i. cc) (f_is (WordStar h a) w Slash e) Slash (λ i. cc) (λ i. cc) e
    word_star h a w k e = word_work h a (WordStar h a) w refl (λ h a o column raw i. cc) (can_follow front _ _ w 59 refl refl) (can_follow front _ _ w 128 refl refl) k e (f_is (WordStar h a) w k e)

    single_work : (h : Head) (a : List ℕ) (o : ℕ) (p : Option YangFault) (w : C (InSingle h a o p)) → OpenSingle front o → Pends front p → (k : Sort) → sort_of c ≡ k
        → After front c after (machine.feed_single k h a o p (S done frames (InSingle h a o p)) (x (InSingle h a o p) w))
    single_work h a o p w op ps SingleQuote e = unspoilt p (S done frames (Gap (Strung h a))) ps tt refl
    single_work h a o None w op ps Forbidden e =
        (single_more front c (ap is_quote e) op, λ f i rest. spoils (InSingle h a o None) w _ f refl (λ h a o column raw i. cc) (f_is (InSingle h a o None) w Forbidden e) refl e (can_follow front _ _ w 128 refl refl) i rest)
    single_work h a o (Some g) w op ps Forbidden e = (single_more front c (ap is_quote e) op, pends_more front c (Some g) ps)
    single_work h a o p w op ps _ e = (single_more front c (ap is_quote e) op, pends_more front c p ps)

    double_work : (h : Head) (a : List ℕ) (o column : ℕ) (raw : List ℕ) (p : Option YangFault) (w : C (InDouble h a o column raw p)) → OpenDouble false front o → Pends front p → (k : Sort) → sort_of c ≡ k
        → After front c after (machine.feed_double k h a o column raw p (S done frames (InDouble h a o column raw p)) (x (InDouble h a o column raw p) w))
    double_work h a o column raw p w op ps DoubleQuote e = unspoilt p (S done frames _) ps tt refl
    double_work h a o column raw p w op ps Backslash e = (double_more front c true (ap is_double_quote e) (ap is_backslash e) op, pends_more front c p ps)
    double_work h a o column raw None w op ps Forbidden e = (
      double_more front c false (ap is_double_quote e) (ap is_backslash e) op,
      λ f i rest. spoils (InDouble h a o column raw None) w _ f refl (λ h a o column raw i. cc) (f_is (InDouble h a o column raw None) w Forbidden e) refl e (can_follow front _ _ w 128 refl refl) i rest,
    )
    double_work h a o column raw (Some g) w op ps Forbidden e = (double_more front c false (ap is_double_quote e) (ap is_backslash e) op, pends_more front c (Some g) ps)
    double_work h a o column raw p w op ps _ e = (double_more front c false (ap is_double_quote e) (ap is_backslash e) op, pends_more front c p ps)

    -- a bad escape
    escape_pends : (h : Head) (a : List ℕ) (o column : ℕ) (raw : List ℕ) (p : Option YangFault) (w : C (BehindBackslash h a o column raw p)) → Pends front p → (b : Bool) → is_escape c ≡ b
        → Pends (front ++ c ∷ []) (cond b p (machine.spoilt p (BadEscape (at - 1))))
    escape_pends h a o column raw p w ps true e = pends_more front c p ps
    escape_pends h a o column raw (Some g) w ps false e = pends_more front c (Some g) ps
    escape_pends h a o column raw None w ps false e = λ f i rest.
        let g = BadEscape (at - 1) in
        let j : g ≡ f = cc in
        let P : YangFault → Type 0 = λ h. Found ((front ++ c ∷ []) ++ rest) h in
        let v = BehindBackslash h a o column raw None in
        let q : cond (is_escape c) None (Some g) ≡ Some g = ap (λ b. cond b None (Some g)) e in
        subst P j (
          front,
          c,
          record { after = rest; is = append_assoc front (c ∷ []) rest; opens = begins front (S done frames v) w refl; misfits = stops_doomed front (S done frames v) _ w c g refl q },
          escaping front done frames h a o column raw w,
          refl,
        )

    backslash_work : (h : Head) (a : List ℕ) (o column : ℕ) (raw : List ℕ) (p : Option YangFault) (w : C (BehindBackslash h a o column raw p)) → OpenDouble true front o → Pends front p
        → After front c after (machine.feed_backslash h a o column raw p (S done frames (BehindBackslash h a o column raw p)) (x (BehindBackslash h a o column raw p) w))
    backslash_work h a o column raw p w op ps = (double_escaped front c op, escape_pends h a o column raw p w ps (is_escape c) refl)

  -- a closing brace
  closing : (frames : List Frame) (w : C frames (Gap Between)) → sort_of c ≡ CloseBrace → After front c after (machine.close frames (S done frames (Gap Between)) (x frames (Gap Between) w))
  closing [] w e = bad_fault [] (Gap Between) w refl (λ h a o column raw i. cc) (f_is [] (Gap Between) w CloseBrace e) (not_brace [] CloseBrace (λ i. cc) e) (not_forbidden [] CloseBrace (λ i. cc) e)
  closing (f ∷ fs) w e = (tt, pends_none (front ++ c ∷ []))

  between_step : (frames : List Frame) (w : C frames (Gap Between)) (k : Sort) → sort_of c ≡ k → After front c after (machine.between k (S done frames (Gap Between)) (x frames (Gap Between) w))
  between_step frames w CloseBrace e = closing frames w e
  between_step frames w k e = between_spot frames w k e (λ i. cc)

  -- one step
  pub step : (frames : List Frame) (v : Work) (w : C frames v) → Opened front v → Pends front (pending v) → (k : Sort) → sort_of c ≡ k → After front c after (feed_work v k (S done frames v) (x frames v w))
  step frames (Gap Between) w op ps k e = between_step frames w k e
  step frames (Gap (Keyed h)) w op ps k e = keyed_spot frames h w k e
  step frames (Gap (Worded h a)) w op ps k e = worded_spot frames h a w k e
  step frames (Gap (Strung h a)) w op ps k e = strung_spot frames h a w k e
  step frames (Gap (Joining h a)) w op ps k e = joining_spot frames h a w k e
  step frames (Slashed spot o) w op ps k e = slashed_work frames spot o w op k e
  step frames (InLine spot) w op ps k e = line_work frames spot w k e
  step frames (InBlock spot o p) w op ps k e = block_work frames spot o p w op ps k e
  step frames (BehindStar spot o p) w op ps k e = star_work frames spot o p w op ps k e
  step frames (InKeyword h) w op ps k e = keyword_work frames h w k e
  step frames (BehindColon h) w op ps k e = colon_work frames h w k e
  step frames (InSecond h) w op ps k e = second_work frames h w k e
  step frames (Lone h a o) w op ps k e = lone_work frames h a o w op k e
  step frames (WordSlash h a) w op ps k e = word_slash frames h a w k e
  step frames (WordStar h a) w op ps k e = word_star frames h a w k e
  step frames (InWord h a) w op ps k e = word_work frames h a (InWord h a) w refl (λ h a o column raw i. cc) (can_follow front _ _ w 59 refl refl) (can_follow front _ _ w 128 refl refl) k e (f_is frames (InWord h a) w k e)
  step frames (InSingle h a o p) w op ps k e = single_work frames h a o p w op ps k e
  step frames (InDouble h a o column raw p) w op ps k e = double_work frames h a o column raw p w op ps k e
  step frames (BehindBackslash h a o column raw p) w op ps k e = backslash_work frames h a o column raw p w op ps
