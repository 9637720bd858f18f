-- Where a text is refused, and what is read.
use Rattle.std.proofs.Common.{◌≡◌, ℕ, ◌<◌, ◌≤◌, ◌+◌, ◌-◌, ◌%◌, Bool, true, false, cond, List, [], ◌∷◌, ◌++◌, Some, None, Option, length, length-append, encode_utf8, encode_utf8_all, chars, IsUtf8, refl, sym, ap, subst, ◌∙◌, arith, append_assoc, append-nil}
use Rattle.std.proofs.Math.Dec.{ltb}
use Rattle.std.specs.List.{flat_map, list_all}
use Rattle.std.specs.Option.{option_and_then}
use Rattle.std.specs.Str.{all_scalars}
use Rattle.std.specs.Char.{IsScalar}
use Rattle.std.proofs.lemmas.Bool.{and_parts, and_from, ltb-true, ltb-false, leb-true, false≢true}
use Rattle.std.proofs.lemmas.Grind.{flat_map-append}
use Rattle.std.proofs.lemmas.List.Folds.{list_all-append}
use Rattle.std.proofs.lemmas.Str.{chars-append, chars-encodes, encode_ascii, IsUtf8-append, IsUtf8-encode}
use Rattle.orc_text.specs.Characters.{is_plain_character}
use Rattle.orc_path.specs.Steps.{PathStep, is_path}
use Rattle.orc_path.specs.Texts.{step_text, path_text, IsPathText, CanBegin, IsBadAt}
use Rattle.orc_path.specs.inside.Reading.{present_step, feed_all, feed_character, begun_in, at_start, whole_at, whole, IsStepRead, FitsAt}
use Rattle.orc_path.proofs.Runs.{feed_all-append}
use Rattle.orc_path.specs.declared.mode.Mode.{Mode}
use Rattle.orc_path.specs.declared.mode.Mode.TheVariants.{Start, Slash, Module, Colon, Inside, Next, Key, Escape, Closed}
use Rattle.orc_path.specs.declared.reader.Reader.{Reader}
use Rattle.orc_path.proofs.Parts.{none_given}
use Rattle.orc_path.proofs.Stops.{given_before, can_begin_front, bad_behind, bad_end}
use Rattle.orc_path.proofs.Encoded.{are_wide, fellow, IsWide, is_wide}
use Rattle.orc_text.proofs.Plain.{plain_parts}
use Rattle.orc_path.proofs.Plain.{are_wide-encode, fellow_is_plain}
use Rattle.orc_path.proofs.Feeds.{front, read_at, blank_front, is_path_more}
use Rattle.orc_path.proofs.Again.{reader_at, path_behind, path_again}
use Rattle.orc_path.proofs.Characters.{is_plain_text-path_text}
use Rattle.orc_path.proofs.Behind.{IsBehind, steps, all_steps, InKey, in_key, inside, outside, wide_in, wide_refused, encode_some}

-- the path of a whole text
path_text-snoc : (d : List PathStep) (s : PathStep) → path_text (d ++ s ∷ []) ≡ flat_map step_text d ++ step_text s
path_text-snoc [] s = append-nil (step_text s)
path_text-snoc (t ∷ ts) s = ap (λ x. step_text t ++ x) (flat_map-append step_text ts (s ∷ []) ∙ ap (λ x. flat_map step_text ts ++ x) (append-nil (step_text s))) ∙ sym (append_assoc (step_text t) (flat_map step_text ts) (step_text s))

abbrev pub IsTextOf : List PathStep → List ℕ → Type 0
IsTextOf p xs = (is_path p ≡ true) × (path_text p ≡ xs)

step_whole : (r : Reader) (p : List PathStep) → IsStepRead r → Some (r.done ++ present_step r ∷ []) ≡ Some p → IsTextOf p (front r)
step_whole r p f e =
    let is : r.done ++ present_step r ∷ [] ≡ p = cc in
    subst (λ q. IsTextOf q (front r)) is (is_path_more r.done (present_step r) f.before f.node f.keys, path_text-snoc r.done (present_step r))

whole_by : (m : Mode) (r : Reader) (p : List PathStep) → FitsAt m r → whole_at m r ≡ Some p → IsTextOf p (read_at m r)
whole_by Slash r p f e = let is : [] ≡ p = cc in subst (λ q. IsTextOf q (front r)) is (refl, sym (blank_front r f.node.0 f.node.1 f.keys))
whole_by Inside r p f e = step_whole r p f.0 e
whole_by Closed r p f e = step_whole r p f e
whole_by Start r p f e = none_given _ p e
whole_by Module r p f e = none_given _ p e
whole_by Colon r p f e = none_given _ p e
whole_by Next r p f e = none_given _ p e
whole_by Key r p f e = none_given _ p e
whole_by Escape r p f e = none_given _ p e

-- what is read as a path is its text
pub whole_text : (r : Reader) (p : List PathStep) (xs : List ℕ) → IsBehind xs r → whole r ≡ Some p → IsTextOf p xs
whole_text r p xs b w = subst (IsTextOf p) b.is (whole_by r.mode r p b.fits w)

-- a path's text is read
texts_are_fed : (p : List PathStep) (xs : List ℕ) → IsTextOf p xs → path_behind at_start xs ≡ Some p
texts_are_fed p xs t = subst (λ x. path_behind at_start x ≡ Some p) t.1 (path_again p t.0)

-- each beginning of a path's text is fed
begun_fed : (xs : List ℕ) → CanBegin IsPathText xs → (r : Reader) × (feed_all at_start xs ≡ Some r)
begun_fed xs b =
    let whole = given_before (feed_all at_start (xs ++ b.0)) whole b.1.0 (texts_are_fed b.1.0 (xs ++ b.0) b.1.1) in
    given_before (feed_all at_start xs) (λ s. feed_all s b.0) whole.0 (sym (feed_all-append at_start xs b.0) ∙ whole.1)

-- bytes that bring the reader to the end of a path
abbrev pub ending : Mode → List ℕ
ending Start = 47 ∷ []
ending Slash = []
ending Module = 58 ∷ 97 ∷ []
ending Colon = 97 ∷ []
ending Inside = []
ending Next = 97 ∷ []
ending Key = 93 ∷ []
ending Escape = 92 ∷ 93 ∷ []
ending Closed = []

ends : (m : Mode) (d : List PathStep) (n : List ℕ) (ks : List (List ℕ)) (k : List ℕ) → (p : List PathStep) × (path_behind (reader_at m d n ks k) (ending m) ≡ Some p)
ends Start d n ks k = (_, refl)
ends Slash d n ks k = (_, refl)
ends Module d n ks k = (_, refl)
ends Colon d n ks k = (_, refl)
ends Inside d n ks k = (_, refl)
ends Next d n ks k = (_, refl)
ends Key d n ks k = (_, refl)
ends Escape d n ks k = (_, refl)
ends Closed d n ks k = (_, refl)

-- they are characters
record IsEnding (bs : List ℕ) : Type 0 where
  scalars : all_scalars bs ≡ true
  plain : list_all is_plain_character bs ≡ true
  bytes : encode_utf8_all bs ≡ bs

one : (b : ℕ) (bs : List ℕ) → b < 128 → encode_utf8_all bs ≡ bs → encode_utf8_all (b ∷ bs) ≡ b ∷ bs
one b bs l e = ap (λ x. x ++ encode_utf8_all bs) (encode_ascii b l) ∙ ap (λ x. b ∷ x) e

endings : (m : Mode) → IsEnding (ending m)
endings Start = record { scalars = refl; plain = refl; bytes = one 47 [] (omega arith) refl }
endings Slash = record { scalars = refl; plain = refl; bytes = refl }
endings Module = record { scalars = refl; plain = refl; bytes = one 58 (97 ∷ []) (omega arith) (one 97 [] (omega arith) refl) }
endings Colon = record { scalars = refl; plain = refl; bytes = one 97 [] (omega arith) refl }
endings Inside = record { scalars = refl; plain = refl; bytes = refl }
endings Next = record { scalars = refl; plain = refl; bytes = one 97 [] (omega arith) refl }
endings Key = record { scalars = refl; plain = refl; bytes = one 93 [] (omega arith) refl }
endings Escape = record { scalars = refl; plain = refl; bytes = one 92 (93 ∷ []) (omega arith) (one 93 [] (omega arith) refl) }
endings Closed = record { scalars = refl; plain = refl; bytes = refl }

-- what is read so far begins a path's text
begins_by : (o : Option Reader) (xs : List ℕ) (r : Reader) (p : List PathStep) → IsBehind xs r → feed_all r (ending r.mode) ≡ o → option_and_then whole o ≡ Some p → CanBegin IsPathText xs
begins_by None xs r p b f e = none_given _ p e
begins_by (Some s) xs r p b f e =
    let end = endings r.mode in
    let behind : IsBehind (xs ++ ending r.mode) s = subst (λ bs. IsBehind (xs ++ bs) s) end.bytes (all_steps (ending r.mode) xs r s end.scalars end.plain b (ap (feed_all r) end.bytes ∙ f)) in
    (ending r.mode, (p, whole_text s p (xs ++ ending r.mode) behind e))

pub begins : (xs : List ℕ) (r : Reader) → IsBehind xs r → CanBegin IsPathText xs
begins xs r b = let end = ends r.mode r.done r.node r.keys r.key in begins_by (feed_all r (ending r.mode)) xs r end.0 b refl end.1

-- a text that ends where no path may end
pub unfinished : (xs : List ℕ) (r : Reader) → IsBehind xs r → whole r ≡ None → IsBadAt IsPathText xs (length xs)
unfinished xs r b w = bad_end IsPathText xs (begins xs r b) (λ t. none_given ⊥ t.0 (sym (ap (option_and_then whole) b.fed ∙ w) ∙ texts_are_fed t.0 xs t.1))

-- a character that is refused

-- it is none of the characters of a path's text where it is not plain
plain_in : (xs rest : List ℕ) (c : ℕ) → IsScalar c → IsUtf8 xs → list_all is_plain_character (chars ((xs ++ encode_utf8 c) ++ rest)) ≡ true → is_plain_character c ≡ true
plain_in xs rest c s u h =
    let single : chars (encode_utf8 c) ≡ c ∷ [] = ap chars (sym (append-nil (encode_utf8 c))) ∙ chars-encodes (c ∷ []) (and_from _ _ s refl) in
    let cut : chars ((xs ++ encode_utf8 c) ++ rest) ≡ (chars xs ++ c ∷ []) ++ chars rest =
    chars-append (xs ++ encode_utf8 c) rest (IsUtf8-append xs (encode_utf8 c) u (IsUtf8-encode c s)) ∙ ap (λ x. x ++ chars rest) (chars-append xs (encode_utf8 c) u ∙ ap (λ x. chars xs ++ x) single) in
    let both = and_parts _ _ (sym (list_all-append is_plain_character (chars xs ++ c ∷ []) (chars rest)) ∙ ap (list_all is_plain_character) (sym cut) ∙ h) in
    let last = and_parts _ _ (sym (list_all-append is_plain_character (chars xs) (c ∷ [])) ∙ both.0) in
    (and_parts _ _ last.1).0

not_plain_ends : (xs : List ℕ) (r : Reader) (c : ℕ) → IsBehind xs r → IsScalar c → is_plain_character c ≡ false → CanBegin IsPathText (xs ++ encode_utf8 c) → ⊥
not_plain_ends xs r c b s no_plain k =
    let text = k.1 in
    let all = plain_parts (path_text text.0) (is_plain_text-path_text text.0 text.1.0) in
    let so = plain_in xs k.0 c s (plain_parts xs b.plain).0 (subst (λ x. list_all is_plain_character (chars x) ≡ true) text.1.1 all.1) in
    false≢true (sym no_plain ∙ so)

not_fed_ends : (xs bs : List ℕ) (r : Reader) → IsBehind xs r → feed_all r bs ≡ None → CanBegin IsPathText (xs ++ bs) → ⊥
not_fed_ends xs bs r b e k =
    let t = begun_fed (xs ++ bs) k in
    none_given ⊥ t.0 (sym (feed_all-append at_start xs bs ∙ ap (option_and_then (λ s. feed_all s bs)) b.fed ∙ e) ∙ t.1)

-- so it ends what begins a path's text
refused_ends : (t : Bool) (xs : List ℕ) (r : Reader) (c : ℕ) → is_plain_character c ≡ t → IsBehind xs r → IsScalar c → cond t (feed_all r (encode_utf8 c)) None ≡ None → CanBegin IsPathText (xs ++ encode_utf8 c) → ⊥
refused_ends true xs r c p b s e k = not_fed_ends xs (encode_utf8 c) r b e k
refused_ends false xs r c p b s e k = not_plain_ends xs r c b s p k

-- a key that is refused one can hold its fellow
fellow_begins : (xs : List ℕ) (r : Reader) (c : ℕ) (w : IsWide c) → 128 ≤ c → IsBehind xs r → r.mode ≡ Key → IsScalar c → is_plain_character c ≡ false → CanBegin IsPathText (xs ++ w.front)
fellow_begins xs r c w high b key s no_plain =
    let d = fellow c in
    let so = fellow_is_plain c high s no_plain in
    let fed = wide_in r.mode r (encode_utf8 d) refl key (are_wide-encode d so.high) in
    let behind = steps xs r (record r { key = r.key ++ encode_utf8 d }) d so.scalar so.plain b fed in
    can_begin_front IsPathText (xs ++ w.front) (128 ∷ [])
    (subst (CanBegin IsPathText) (ap (λ x. xs ++ x) w.other ∙ sym (append_assoc xs w.front (128 ∷ []))) (begins (xs ++ encode_utf8 d) _ behind))

-- what the refused character begins
abbrev IsRefusedAt : List ℕ → Reader → ℕ → List ℕ → Type 0
IsRefusedAt xs r c rest = IsBadAt IsPathText ((xs ++ encode_utf8 c) ++ rest) (length xs + begun_in r.mode c)

low_refused : (xs : List ℕ) (r : Reader) (c : ℕ) (rest : List ℕ) → c < 128 → IsBehind xs r → (CanBegin IsPathText (xs ++ encode_utf8 c) → ⊥) → IsRefusedAt xs r c rest
low_refused xs r c rest low b no_more =
    let one = encode_ascii c low in
    let none_begun = begun_low r.mode in
    subst (λ n. IsBadAt IsPathText ((xs ++ encode_utf8 c) ++ rest) n) (sym none_begun)
    (subst (λ bs. IsBadAt IsPathText ((xs ++ bs) ++ rest) (length xs)) (sym one)
    (bad_behind IsPathText xs c rest (begins xs r b) (λ k. no_more (subst (λ bs. CanBegin IsPathText (xs ++ bs)) (sym one) k))))
  where
    begun_low : (m : Mode) → length xs + begun_in m c ≡ length xs
    begun_low Key = let l = ap length (encode_ascii c low) in omega arith
    begun_low Start = omega arith
    begun_low Slash = omega arith
    begun_low Module = omega arith
    begun_low Colon = omega arith
    begun_low Inside = omega arith
    begun_low Next = omega arith
    begun_low Escape = omega arith
    begun_low Closed = omega arith

key_refused : (m : Mode) (xs : List ℕ) (r : Reader) (c : ℕ) (rest : List ℕ) → m ≡ Key → r.mode ≡ m → 128 ≤ c → IsBehind xs r → IsScalar c → is_plain_character c ≡ false → (CanBegin IsPathText (xs ++ encode_utf8 c) → ⊥) → IsBadAt IsPathText ((xs ++ encode_utf8 c) ++ rest) (length xs + begun_in m c)
key_refused Key xs r c rest key at high b s no_plain no_more =
    let w = is_wide c high in
    let last : ℕ = 128 + c % 64 in
    let parts : ((xs ++ w.front) ++ last ∷ []) ++ rest ≡ (xs ++ encode_utf8 c) ++ rest =
    ap (λ x. x ++ rest) (append_assoc xs w.front (last ∷ []) ∙ ap (λ x. xs ++ x) (sym w.bytes)) in
    let long : length (xs ++ w.front) ≡ length xs + (length (encode_utf8 c) - 1) =
    let l = ap length w.bytes in let k = length-append w.front (last ∷ []) in let n = length-append xs w.front in omega arith in
    subst (λ n. IsBadAt IsPathText ((xs ++ encode_utf8 c) ++ rest) n) long
    (subst (λ x. IsBadAt IsPathText x (length (xs ++ w.front))) parts
    (bad_behind IsPathText (xs ++ w.front) last rest (fellow_begins xs r c w high b at s no_plain)
    (λ k. no_more (subst (CanBegin IsPathText) (append_assoc xs w.front (last ∷ []) ∙ ap (λ x. xs ++ x) (sym w.bytes)) k))))
key_refused Start xs r c rest key at high b s no_plain no_more = let not_so : ⊥ = cc in absurd not_so
key_refused Slash xs r c rest key at high b s no_plain no_more = let not_so : ⊥ = cc in absurd not_so
key_refused Module xs r c rest key at high b s no_plain no_more = let not_so : ⊥ = cc in absurd not_so
key_refused Colon xs r c rest key at high b s no_plain no_more = let not_so : ⊥ = cc in absurd not_so
key_refused Inside xs r c rest key at high b s no_plain no_more = let not_so : ⊥ = cc in absurd not_so
key_refused Next xs r c rest key at high b s no_plain no_more = let not_so : ⊥ = cc in absurd not_so
key_refused Escape xs r c rest key at high b s no_plain no_more = let not_so : ⊥ = cc in absurd not_so
key_refused Closed xs r c rest key at high b s no_plain no_more = let not_so : ⊥ = cc in absurd not_so

-- a place where no key stands takes not even its first byte
other_refused : (bs xs : List ℕ) (r : Reader) (c : ℕ) (rest : List ℕ) → encode_utf8 c ≡ bs → (r.mode ≡ Key → ⊥) → 128 ≤ c → IsBehind xs r → IsRefusedAt xs r c rest
other_refused [] xs r c rest is out high b = absurd (encode_some c is)
other_refused (first ∷ more) xs r c rest is out high b =
    let w = leb-true 128 first (and_parts _ _ (ap are_wide (sym is) ∙ are_wide-encode c high)).0 in
    let parts : (xs ++ first ∷ []) ++ (more ++ rest) ≡ (xs ++ encode_utf8 c) ++ rest =
    append_assoc xs (first ∷ []) (more ++ rest) ∙ sym (append_assoc xs (first ∷ more) rest) ∙ ap (λ bs. (xs ++ bs) ++ rest) (sym is) in
    let stops : feed_all r (first ∷ []) ≡ None = ap (option_and_then (λ s. Some s)) (wide_refused r.mode r first w out) in
    subst (λ n. IsBadAt IsPathText ((xs ++ encode_utf8 c) ++ rest) n) (sym (none_begun r.mode out))
    (subst (λ x. IsBadAt IsPathText x (length xs)) parts
    (bad_behind IsPathText xs first (more ++ rest) (begins xs r b) (not_fed_ends xs (first ∷ []) r b stops)))
  where
    none_begun : (m : Mode) → (m ≡ Key → ⊥) → length xs + begun_in m c ≡ length xs
    none_begun Key o = absurd (o refl)
    none_begun Start o = omega arith
    none_begun Slash o = omega arith
    none_begun Module o = omega arith
    none_begun Colon o = omega arith
    none_begun Inside o = omega arith
    none_begun Next o = omega arith
    none_begun Escape o = omega arith
    none_begun Closed o = omega arith

-- a character of several bytes that a key refuses is not plain
key_takes : (t : Bool) (r : Reader) (c : ℕ) → is_plain_character c ≡ t → r.mode ≡ Key → 128 ≤ c → cond t (feed_all r (encode_utf8 c)) None ≡ None → is_plain_character c ≡ false
key_takes false r c p key high e = p
key_takes true r c p key high e = none_given _ _ (sym e ∙ wide_in r.mode r (encode_utf8 c) refl key (are_wide-encode c high))

-- where a character is refused
pub refused : (xs : List ℕ) (r : Reader) (c : ℕ) (rest : List ℕ) → IsScalar c → IsBehind xs r → feed_character r c ≡ None → IsRefusedAt xs r c rest
refused xs r c rest s b e = by (ltb c 128) refl (in_key r.mode)
  where
    no_more : CanBegin IsPathText (xs ++ encode_utf8 c) → ⊥
    no_more = refused_ends (is_plain_character c) xs r c refl b s e

    by : (t : Bool) → ltb c 128 ≡ t → InKey r.mode → IsRefusedAt xs r c rest
    by true low _ = low_refused xs r c rest (ltb-true c 128 low) b no_more
    by false high (inside key) =
        key_refused r.mode xs r c rest key refl (ltb-false c 128 high) b s (key_takes (is_plain_character c) r c refl key (ltb-false c 128 high) e) no_more
    by false high (outside out) = other_refused (encode_utf8 c) xs r c rest refl out (ltb-false c 128 high) b
