-- What a byte adds to the text read so far.
use Rattle.std.proofs.Common.{◌≡◌, ℕ, ◌<◌, true, ◌==◌, List, [], ◌∷◌, ◌++◌, Some, None, Option, refl, sym, ap, subst, ◌∙◌, arith, append_assoc, append-nil}
use Rattle.std.proofs.lemmas.Bool.{and_from}
use Rattle.std.specs.List.{flat_map, list_all}
use Rattle.std.specs.Option.{option_map, option_map_or}
use Rattle.std.specs.Cmp.{first_so, second_so}
use Rattle.std.proofs.lemmas.Grind.{flat_map-append}
use Rattle.orc_path.specs.Alphabet.{is_key}
use Rattle.orc_path.specs.Steps.{PathStep, is_path, is_later_step, is_name_behind}
use Rattle.orc_path.specs.Texts.{escape, key_text, step_text}
use Rattle.orc_path.specs.inside.Reading.{unescape, is_key_byte, is_raw, name_mode, present_step, feed_end, feed_key, feed_escape, feed_mark, feed_at, IsNamePart, IsStepRead, IsKeyPart, FitsAt, Fits}
use Rattle.orc_path.specs.declared.mode.Mode.{Mode}
use Rattle.orc_path.specs.declared.mode.Mode.TheVariants.{Start, Slash, Module, Colon, Inside, Next, Key, Escape, Closed}
use Rattle.orc_path.specs.declared.reader.Reader.{Reader}
use Rattle.orc_path.proofs.Parts.{chosen, none_given, taken, list_all_more, name_step}
use Rattle.orc_text.proofs.Plain.{is_plain_text-nil, is_plain_text-append}
use Rattle.orc_path.proofs.Plain.{is_plain_text-byte}

-- a step after others
pub is_path_more : (done : List PathStep) (s : PathStep) → is_path done ≡ true → is_name_behind done s.node ≡ true → list_all is_key s.keys ≡ true → is_path (done ++ s ∷ []) ≡ true
is_path_more [] s h k l = and_from _ _ (and_from _ _ k l) refl
is_path_more (t ∷ ts) s h k l = and_from _ _ (first_so _ _ h) (list_all_more is_later_step ts s (second_so _ _ h) (and_from _ _ k l))

later_behind : (done : List PathStep) (s : PathStep) (m : List ℕ) → is_name_behind (done ++ s ∷ []) m ≡ is_name_behind (s ∷ []) m
later_behind [] s m = refl
later_behind (t ∷ ts) s m = refl

-- the steps that are whole, and the present one
abbrev pub front : Reader → List ℕ
front r = flat_map step_text r.done ++ step_text (present_step r)

-- the text that was read so far
abbrev pub read_at : Mode → Reader → List ℕ
read_at Start r = []
read_at Key r = front r ++ 91 ∷ flat_map escape r.key
read_at Escape r = (front r ++ 91 ∷ flat_map escape r.key) ++ 92 ∷ []
read_at Slash r = front r
read_at Module r = front r
read_at Colon r = front r
read_at Inside r = front r
read_at Next r = front r
read_at Closed r = front r

abbrev pub read : Reader → List ℕ
read r = read_at r.mode r

-- the parts fit, and the byte stands after what was read
abbrev pub Grows : Mode → Reader → ℕ → Reader → Type 0
Grows m r b s = Fits s × (read s ≡ read_at m r ++ b ∷ [])

pub blank_front : (r : Reader) → r.done ≡ [] → r.node ≡ [] → r.keys ≡ [] → front r ≡ 47 ∷ []
blank_front r d n k = cc

start_grows : (r s : Reader) (b : ℕ) → FitsAt Start r → feed_at Start r b ≡ Some s → Grows Start r b s
start_grows r s b f e =
    taken (Grows Start r b) (b == 47) (record r { mode = Slash }) s e
    (λ k. let same : b ≡ 47 = grind arith in (record { before = f.before; node = f.node; keys = f.keys }, blank_front r f.node.0 f.node.1 f.keys ∙ ap (λ x. x ∷ []) (sym same)))

node_grows : (d n : List ℕ) (ks : List (List ℕ)) (b : ℕ) → ks ≡ [] → d ++ 47 ∷ ((n ++ b ∷ []) ++ flat_map key_text ks) ≡ (d ++ 47 ∷ (n ++ flat_map key_text ks)) ++ b ∷ []
node_grows d n ks b e = grind (arith, append_assoc, append-nil)

end_grows : (m : Mode) (r s : Reader) (b : ℕ) → read_at m r ≡ front r → IsStepRead r → feed_end r b ≡ Some s → Grows m r b s
end_grows m r s b same f e =
    chosen (Grows m r b) (b == 91) (record r { mode = Key; key = [] }) s _ e
    (λ k. let is : b ≡ 91 = grind arith in (record { step = record { before = f.before; node = f.node; keys = f.keys }; key = is_plain_text-nil }, ap (λ x. front r ++ x ∷ []) (sym is) ∙ ap (λ x. x ++ b ∷ []) (sym same)))
    (λ k g. taken (Grows m r b) (b == 47) (record r { mode = Next; done = r.done ++ present_step r ∷ []; node = []; keys = [] }) s g
    (λ l. let is : b ≡ 47 = grind arith in (
      record {
        before = is_path_more r.done (present_step r) f.before f.node f.keys;
        node = ((λ n h. later_behind r.done (present_step r) n ∙ h), refl);
        keys = refl;
      },
      step_grows r.done (present_step r) ∙ ap (λ x. front r ++ x ∷ []) (sym is) ∙ ap (λ x. x ++ b ∷ []) (sym same),
    )))
  where
    step_grows : (done : List PathStep) (p : PathStep) → flat_map step_text (done ++ p ∷ []) ++ 47 ∷ [] ≡ (flat_map step_text done ++ step_text p) ++ 47 ∷ []
    step_grows done p = grind (arith, flat_map-append, append_assoc, append-nil)

key_closes : (d n : List ℕ) (ks : List (List ℕ)) (k : List ℕ)
    → d ++ 47 ∷ (n ++ flat_map key_text (ks ++ k ∷ [])) ≡ ((d ++ 47 ∷ (n ++ flat_map key_text ks)) ++ 91 ∷ flat_map escape k) ++ 93 ∷ []
key_closes d n ks k = grind (arith, flat_map-append, append_assoc, append-nil)

key_grows_by : (d k : List ℕ) (c : ℕ) → d ++ 91 ∷ flat_map escape (k ++ c ∷ []) ≡ (d ++ 91 ∷ flat_map escape k) ++ escape c
key_grows_by d k c = grind (arith, flat_map-append, append_assoc, append-nil)

raw_escape : (b : ℕ) → is_raw b ≡ true → escape b ≡ b ∷ []
raw_escape b h = grind arith

raw_is_key_byte : (b : ℕ) → is_raw b ≡ true → is_key_byte b ≡ true
raw_is_key_byte b h = grind arith

unescape_escape : (b c : ℕ) → unescape b ≡ Some c → escape c ≡ 92 ∷ b ∷ []
unescape_escape b c h = grind arith

unescape_is_key_byte : (b c : ℕ) → unescape b ≡ Some c → is_key_byte c ≡ true
unescape_is_key_byte b c h = grind arith

unescape_low : (b c : ℕ) → unescape b ≡ Some c → c < 128
unescape_low b c h = grind arith

key_grows : (r s : Reader) (b : ℕ) → b < 128 → r.mode ≡ Key → IsKeyPart r → feed_key r b ≡ Some s → Grows Key r b s
key_grows r s b low at f e =
    chosen (Grows Key r b) (b == 93) (record r { mode = Closed; keys = r.keys ++ r.key ∷ []; key = [] }) s _ e
    (λ k. let is : b ≡ 93 = grind arith in (
      record { before = f.step.before; node = f.step.node; keys = list_all_more is_key r.keys r.key f.step.keys f.key },
      subst (λ x. front (record r { mode = Closed; keys = r.keys ++ r.key ∷ []; key = [] }) ≡ read_at Key r ++ x ∷ []) (sym is) (key_closes (flat_map step_text r.done) r.node r.keys r.key),
    ))
    (λ k g. chosen (Grows Key r b) (b == 92) (record r { mode = Escape }) s _ g
    (λ l. let is : b ≡ 92 = grind arith in
    (record { step = record { before = f.step.before; node = f.step.node; keys = f.step.keys }; key = f.key }, ap (λ x. read_at Key r ++ x ∷ []) (sym is)))
    (λ l i. taken (Grows Key r b) (is_raw b) (record r { key = r.key ++ b ∷ [] }) s i
    (λ p. subst (λ m. FitsAt m (record r { key = r.key ++ b ∷ [] }) × (read_at m (record r { key = r.key ++ b ∷ [] }) ≡ read_at Key r ++ b ∷ [])) (sym at) (
      record { step = record { before = f.step.before; node = f.step.node; keys = f.step.keys }; key = is_plain_text-append r.key (b ∷ []) f.key (is_plain_text-byte b low (raw_is_key_byte b p)) },
      key_grows_by (front r) r.key b ∙ ap (λ x. read_at Key r ++ x) (raw_escape b p),
    ))))

escape_grows : (r s : Reader) (b : ℕ) → IsKeyPart r → feed_escape r b ≡ Some s → Grows Escape r b s
escape_grows r s b f e = mapped (unescape b) refl e
  where
    mapped : (o : Option ℕ) → unescape b ≡ o → option_map (λ c. record r { mode = Key; key = r.key ++ c ∷ [] }) o ≡ Some s → Grows Escape r b s
    mapped None u g = none_given (Grows Escape r b s) s g
    mapped (Some c) u g =
        let is : record r { mode = Key; key = r.key ++ c ∷ [] } ≡ s = cc in
        subst (Grows Escape r b) is (
          record { step = record { before = f.step.before; node = f.step.node; keys = f.step.keys }; key = is_plain_text-append r.key (c ∷ []) f.key (is_plain_text-byte c (unescape_low b c u) (unescape_is_key_byte b c u)) },
          key_grows_by (front r) r.key c ∙ ap (λ x. read_at Key r ++ x) (unescape_escape b c u) ∙ sym (append_assoc (front r ++ 91 ∷ flat_map escape r.key) (92 ∷ []) (b ∷ [])),
        )

mark_grows : (m : Mode) (r s : Reader) (b : ℕ) → b < 128 → r.mode ≡ m → FitsAt m r → feed_mark m r b ≡ Some s → Grows m r b s
mark_grows Start r s b low at f e = start_grows r s b f e
mark_grows Inside r s b low at f e = end_grows Inside r s b refl f.0 e
mark_grows Closed r s b low at f e = end_grows Closed r s b refl f e
mark_grows Key r s b low at f e = key_grows r s b low at f e
mark_grows Escape r s b low at f e = escape_grows r s b f e
mark_grows Slash r s b low at f e = none_given (Grows Slash r b s) s e
mark_grows Module r s b low at f e = none_given (Grows Module r b s) s e
mark_grows Colon r s b low at f e = none_given (Grows Colon r b s) s e
mark_grows Next r s b low at f e = none_given (Grows Next r b s) s e

-- what a name needs of the parts around it
record IsAround (m : Mode) (r : Reader) : Type 0 where
  before : is_path r.done ≡ true
  node : IsNamePart r.done m r.node
  keys : r.keys ≡ []
  text : read_at m r ≡ front r

around : (m to : Mode) (r : Reader) (b : ℕ) → FitsAt m r → name_mode m b ≡ Some to → IsAround m r
around Slash to r b f e = record { before = f.before; node = f.node; keys = f.keys; text = refl }
around Module to r b f e = record { before = f.before; node = f.node; keys = f.keys; text = refl }
around Colon to r b f e = record { before = f.before; node = f.node; keys = f.keys; text = refl }
around Next to r b f e = record { before = f.before; node = f.node; keys = f.keys; text = refl }
around Inside to r b f e = record { before = f.0.before; node = f.0.node; keys = f.1; text = refl }
around Start to r b f e = none_given (IsAround Start r) to e
around Key to r b f e = none_given (IsAround Key r) to e
around Escape to r b f e = none_given (IsAround Escape r) to e
around Closed to r b f e = none_given (IsAround Closed r) to e

-- what it gives again
fits_around : (m : Mode) (r : Reader) → is_path r.done ≡ true → IsNamePart r.done m r.node → r.keys ≡ [] → FitsAt m r × (read_at m r ≡ front r)
fits_around Slash r h n k = (record { before = h; node = n; keys = k }, refl)
fits_around Module r h n k = (record { before = h; node = n; keys = k }, refl)
fits_around Colon r h n k = (record { before = h; node = n; keys = k }, refl)
fits_around Next r h n k = (record { before = h; node = n; keys = k }, refl)
fits_around Inside r h n k = ((record { before = h; node = n; keys = subst (λ x. list_all is_key x ≡ true) (sym k) refl }, k), refl)
fits_around Start r h n k = absurd n
fits_around Key r h n k = absurd n
fits_around Escape r h n k = absurd n
fits_around Closed r h n k = absurd n

name_grows : (m to : Mode) (r : Reader) (b : ℕ) → FitsAt m r → name_mode m b ≡ Some to → Grows m r b (record r { mode = to; node = r.node ++ b ∷ [] })
name_grows m to r b f e =
    let a : IsAround m r = around m to r b f e in
    let so = fits_around to (record r { mode = to; node = r.node ++ b ∷ [] }) a.before (name_step r.done m to r.node b a.node e) a.keys in
    (so.0, so.1 ∙ node_grows (flat_map step_text r.done) r.node r.keys b a.keys ∙ ap (λ x. x ++ b ∷ []) (sym a.text))

-- a byte of ASCII that is taken stands after the text that was read so far
pub feed_grows : (m : Mode) (r s : Reader) (b : ℕ) → b < 128 → r.mode ≡ m → FitsAt m r → feed_at m r b ≡ Some s → Grows m r b s
feed_grows m r s b low at f e = by_name (name_mode m b) refl e
  where
    by_name : (o : Option Mode) → name_mode m b ≡ o → option_map_or (λ to. Some (record r { mode = to; node = r.node ++ b ∷ [] })) o (feed_mark m r b) ≡ Some s → Grows m r b s
    by_name None n g = mark_grows m r s b low at f g
    by_name (Some to) n g = let is : record r { mode = to; node = r.node ++ b ∷ [] } ≡ s = cc in subst (Grows m r b) is (name_grows m to r b f n)
