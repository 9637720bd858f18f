-- Bytes have one fault only.
use Rattle.std.proofs.Common.{◌≡◌, ◌≢◌, ℕ, ◌-◌, true, List, [], ◌∷◌, ◌++◌, length, Some, None, refl, sym, ap, ◌∙◌, subst, arith, append_assoc, inl, inr}
use Rattle.std.specs.Str.{chars, IsUtf8, IsValidUpTo, all_scalars, encode_utf8_all}
use Rattle.std.proofs.lemmas.Str.{chars-encodes, utf8_valid_len-IsValidUpTo}
use Rattle.std.proofs.Math.Seq.{take-length}
use Rattle.orc_yang.specs.declared.fault.YangFault.{YangFault}
use Rattle.orc_yang.specs.declared.fault.YangFault.TheVariants.{NotUtf8, BadToken, BadEscape, OpenString, OpenBlock, Depth, Memory}
use Rattle.orc_yang.specs.declared.statement.Stmt.{Stmt}
use Rattle.orc_yang.specs.declared.parser.Frame.{Frame}
use Rattle.orc_yang.specs.Sorts.{sort_of}
use Rattle.orc_yang.specs.Faults.{CanOpen, CanFollow, IsEscaping, IsFirstMisfit, IsPlace, FaultOf, IsFault}
use Rattle.orc_yang.specs.Laws.{GoesFirst}
use Rattle.orc_yang.specs.Machine.{Work, BehindBackslash}
use Rattle.orc_yang.proofs.Viable.{pending}
use Rattle.orc_yang.proofs.Faults.{Came, begins, stops_doomed, not_escaping, S}
use Rattle.orc_yang.proofs.Unclosed.{comes}

-- what begins a beginning is one
shrinks : (xs ys : List ℕ) → CanOpen (xs ++ ys) → CanOpen xs
shrinks xs ys b = let s = comes xs ys b in begins xs s.state s.came s.clean

-- the longest beginning of a text, and what follows it
one_stop : (P : List ℕ → Type 0) → ((xs ys : List ℕ) → P (xs ++ ys) → P xs) → (front other after rest : List ℕ) (c d : ℕ) → front ++ c ∷ after ≡ other ++ d ∷ rest → P front → P other
    → (P (front ++ c ∷ []) → ⊥) → (P (other ++ d ∷ []) → ⊥) → (front ≡ other) × (c ≡ d)
one_stop P s [] [] after rest c d e p p' n n' = (refl, let q : c ≡ d = cc in q)
one_stop P s [] (y ∷ other) after rest c d e p p' n n' =
    let q : c ≡ y = cc in
    absurd (n (s (c ∷ []) other (subst (λ x. P (x ∷ other)) (sym q) p')))
one_stop P s (x ∷ front) [] after rest c d e p p' n n' =
    let q : x ≡ d = cc in
    absurd (n' (s (d ∷ []) front (subst (λ y. P (y ∷ front)) q p)))
one_stop P s (x ∷ front) (y ∷ other) after rest c d e p p' n n' =
    let q : x ≡ y = cc in
    let r : front ++ c ∷ after ≡ other ++ d ∷ rest = cc in
    let w =
    one_stop (λ l. P (x ∷ l)) (λ xs ys. s (x ∷ xs) ys) front other after rest c d r p (subst (λ z. P (z ∷ other)) (sym q) p') n (λ h. n' (subst (λ z. P (z ∷ (other ++ d ∷ []))) q h)) in
    (ap (λ z. z ∷ front) q ∙ ap (λ l. y ∷ l) w.0, w.1)

-- after a backslash of a string, no `;` can follow
closes_no_escape : (front : List ℕ) (done : List Stmt) (frames : List Frame) (w : Work) → pending w ≡ None → Came front (S done frames w) → IsEscaping front → CanFollow front 59 → ⊥
closes_no_escape front done frames (BehindBackslash h a o column raw None) q c e b = stops_doomed front _ _ c 59 _ refl refl b
closes_no_escape front done frames (BehindBackslash h a o column raw (Some f)) q c e b = cc
closes_no_escape front done frames w q c e b = not_escaping front done frames w q (λ h a o column raw i. cc) c e

escape_brace : (front : List ℕ) → IsEscaping front → CanFollow front 59 → ⊥
escape_brace front e b = let s = comes front (59 ∷ []) b in closes_no_escape front s.state.done s.state.frames s.state.work s.clean s.came e b

one_place : (front : List ℕ) (c at other : ℕ) → IsPlace front c at → IsPlace front c other → at ≡ other
one_place front c at other (inl (e, n)) (inl (e', n')) = e ∙ sym e'
one_place front c at other (inl (e, n)) (inr (e', k, b)) = absurd (n k b)
one_place front c at other (inr (e, k, b)) (inl (e', n')) = absurd (n' k b)
one_place front c at other (inr (e, k, b)) (inr (e', k', b')) = omega (arith, e, e')

module _ (text : List ℕ) where
  same_stop : (front other : List ℕ) (c d : ℕ) → IsFirstMisfit text front c → IsFirstMisfit text other d → (front ≡ other) × (c ≡ d)
  same_stop front other c d s t = one_stop (λ l. CanOpen l) shrinks front other s.after t.after c d (sym s.is ∙ t.is) s.opens t.opens s.misfits t.misfits

  token_token : (a b : ℕ) → FaultOf text (BadToken a) → FaultOf text (BadToken b) → BadToken a ≡ BadToken b
  token_token a b (f, c, s, p, n, z) (g, d, t, p', n', z') =
      let q = same_stop f g c d s t in
      let p1 : IsPlace f d b = subst (λ l. IsPlace l d b) (sym q.0) p' in
      let p2 : IsPlace f c b = subst (λ x. IsPlace f x b) (sym q.1) p1 in
      ap BadToken (one_place f c a b p p2)

  token_escape : {A : Type 0} (a b : ℕ) → FaultOf text (BadToken a) → FaultOf text (BadEscape b) → A
  token_escape a b (f, c, s, p, n, z) (g, d, t, e, i) = let q = same_stop f g c d s t in absurd (n (subst (λ l. IsEscaping l) (sym q.0) e))

  token_depth : {A : Type 0} (a b : ℕ) → FaultOf text (BadToken a) → FaultOf text (Depth b) → A
  token_depth a b (f, c, s, p, n, z) (g, d, t, k, m, i) =
      let q = same_stop f g c d s t in absurd (z (ap sort_of q.1 ∙ k) (subst (λ l. CanFollow l 59) (sym q.0) m))

  escape_escape : (a b : ℕ) → FaultOf text (BadEscape a) → FaultOf text (BadEscape b) → BadEscape a ≡ BadEscape b
  escape_escape a b (f, c, s, e, i) (g, d, t, e', i') =
      let q = same_stop f g c d s t in ap BadEscape (i ∙ (ap (λ l. length (encode_utf8_all l) - 1) q.0 ∙ sym i'))

  escape_depth : {A : Type 0} (a b : ℕ) → FaultOf text (BadEscape a) → FaultOf text (Depth b) → A
  escape_depth a b (f, c, s, e, i) (g, d, t, k, m, i') = let q = same_stop f g c d s t in absurd (escape_brace g (subst (λ l. IsEscaping l) q.0 e) m)

  depth_depth : (a b : ℕ) → FaultOf text (Depth a) → FaultOf text (Depth b) → Depth a ≡ Depth b
  depth_depth a b (f, c, s, k, m, i) (g, d, t, k', m', i') = let q = same_stop f g c d s t in ap Depth (i ∙ (ap (λ l. length (encode_utf8_all l)) q.0 ∙ sym i'))

  block_block : (a b : ℕ) → FaultOf text (OpenBlock a) → FaultOf text (OpenBlock b) → OpenBlock a ≡ OpenBlock b
  block_block a b x y = ap OpenBlock (x.0 ∙ sym y.0)

  -- a text that begins one of statements stops nowhere
  block_stops : {A : Type 0} (f : List ℕ) (c : ℕ) → CanOpen text → IsFirstMisfit text f c → A
  block_stops f c b s =
      absurd (s.misfits (shrinks (f ++ c ∷ []) s.after (subst (λ l. CanOpen l) (s.is ∙ sym (append_assoc f (c ∷ []) s.after)) b)))

  same : (f g : YangFault) → FaultOf text f → FaultOf text g → f ≢ Memory → g ≢ Memory → ((at : ℕ) → f ≢ OpenString at) → ((at : ℕ) → g ≢ OpenString at) → f ≡ g
  same (NotUtf8 a) g x y nf ng of og = absurd x
  same Memory g x y nf ng of og = absurd (nf refl)
  same (OpenString a) g x y nf ng of og = absurd (of a refl)
  same f (NotUtf8 b) x y nf ng of og = absurd y
  same f Memory x y nf ng of og = absurd (ng refl)
  same f (OpenString b) x y nf ng of og = absurd (og b refl)
  same (BadToken a) (BadToken b) x y nf ng of og = token_token a b x y
  same (BadToken a) (BadEscape b) x y nf ng of og = token_escape a b x y
  same (BadToken a) (OpenBlock b) x y nf ng of og = block_stops x.0 x.1 y.1 x.2
  same (BadToken a) (Depth b) x y nf ng of og = token_depth a b x y
  same (BadEscape a) (BadToken b) x y nf ng of og = token_escape b a y x
  same (BadEscape a) (BadEscape b) x y nf ng of og = escape_escape a b x y
  same (BadEscape a) (OpenBlock b) x y nf ng of og = block_stops x.0 x.1 y.1 x.2
  same (BadEscape a) (Depth b) x y nf ng of og = escape_depth a b x y
  same (OpenBlock a) (BadToken b) x y nf ng of og = block_stops y.0 y.1 x.1 y.2
  same (OpenBlock a) (BadEscape b) x y nf ng of og = block_stops y.0 y.1 x.1 y.2
  same (OpenBlock a) (OpenBlock b) x y nf ng of og = block_block a b x y
  same (OpenBlock a) (Depth b) x y nf ng of og = block_stops y.0 y.1 x.1 y.2
  same (Depth a) (BadToken b) x y nf ng of og = token_depth b a y x
  same (Depth a) (BadEscape b) x y nf ng of og = escape_depth b a y x
  same (Depth a) (OpenBlock b) x y nf ng of og = block_stops x.0 x.1 y.1 x.2
  same (Depth a) (Depth b) x y nf ng of og = depth_depth a b x y

-- a fault of bytes that are a text
abbrev TextFault : List ℕ → YangFault → Type 0
TextFault bytes f = (text : List ℕ) × (all_scalars text ≡ true) × (encode_utf8_all text ≡ bytes) × FaultOf text f

same_text : (bytes : List ℕ) (f g : YangFault) → TextFault bytes f → TextFault bytes g → f ≢ Memory → g ≢ Memory → ((at : ℕ) → f ≢ OpenString at) → ((at : ℕ) → g ≢ OpenString at) → f ≡ g
same_text bytes f g x y nf ng of og =
    let q : y.0 ≡ x.0 = sym (ap chars (sym y.2) ∙ chars-encodes y.0 y.1) ∙ (ap chars (sym x.2) ∙ chars-encodes x.0 x.1) in
    same x.0 f g x.3 (subst (λ l. FaultOf l g) q y.3) nf ng of og

not_text : {A : Type 0} (bytes : List ℕ) (at : ℕ) (f : YangFault) → IsValidUpTo bytes at → TextFault bytes f → A
not_text bytes at f v x = absurd (v.longest (length bytes) v.short (subst (λ l. IsUtf8 l) (sym (take-length bytes)) (x.0, (x.1, x.2))))

-- a string or a comment without end goes first
opened : (bytes : List ℕ) (at : ℕ) (g : YangFault) → TextFault bytes (OpenString at) → GoesFirst bytes g → g ≡ OpenString at
opened bytes at g (text, s, e, (front, rest, i, q, u)) first = first front rest (ap all_scalars (sym i) ∙ s) (ap encode_utf8_all (sym i) ∙ e) u ∙ ap OpenString (sym q)

pub one_fault : (bytes : List ℕ) (f g : YangFault) → IsFault bytes f → IsFault bytes g → GoesFirst bytes f → GoesFirst bytes g → f ≢ Memory → g ≢ Memory → f ≡ g
one_fault bytes (OpenString a) g x y ff fg nf ng = sym (opened bytes a g x fg)
one_fault bytes f (OpenString b) x y ff fg nf ng = opened bytes b f y ff
one_fault bytes Memory g x y ff fg nf ng = absurd (nf refl)
one_fault bytes f Memory x y ff fg nf ng = absurd (ng refl)
one_fault bytes (NotUtf8 a) (NotUtf8 b) x y ff fg nf ng = ap NotUtf8 (sym (utf8_valid_len-IsValidUpTo bytes a x) ∙ utf8_valid_len-IsValidUpTo bytes b y)
one_fault bytes (NotUtf8 a) g x y ff fg nf ng = not_text bytes a g x y
one_fault bytes f (NotUtf8 b) x y ff fg nf ng = not_text bytes b f y x
one_fault bytes f g x y ff fg nf ng = same_text bytes f g x y nf ng (λ at i. cc) (λ at i. cc)
