-- One canonical text for each number of a type.
use Rattle.std.proofs.Common.{◌≡◌, Decides, ℕ, ◌<◌, ◌^◌, ◌≤◌, ℤ, pos, negsuc, Bool, true, false, cond, List, Option, Some, None, Result, Ok, Err, refl, sym, ap, ◌∙◌, arith, ◌↔◌, subst}
use Rattle.std.specs.Prelude.{◌&&◌, unsigned_abs, IfOk}
use Rattle.std.proofs.lemmas.Bool.{false≢true}
use Rattle.std.proofs.lemmas.Bool.Decides.{nat_tests}
use Rattle.std.proofs.lemmas.Slice.Eq.{bytes_eq-Decides}
use Rattle.std.specs.Str.Parse.{starts_with_minus}
use Rattle.orc_value.specs.declared.kind.IntKind.{IntKind}
use Rattle.orc_value.specs.declared.kind.Kind.{Kind}
use Rattle.orc_value.specs.declared.kind.Kind.TheVariants.{Int, Decimal, Str, Bool as Boolean, Enum, Empty}
use Rattle.orc_value.specs.declared.fault.ValueFault.{ValueFault}
use Rattle.orc_value.specs.Canon.{canon_of, gives_text, is_canonical, kept, string_rule, bool_rule, enum_rule, empty_rule, SameValue, Answers}
use Rattle.orc_value.specs.Numerals.{admitted, number_text, signed}
use Rattle.orc_value.specs.Integers.{int_value, has_integer, int_text}
use Rattle.orc_value.specs.Decimals.{is_fraction_digits, is_decimal, is_scalable, scaled, whole_of, fraction_of, decimal_value, is_decimal_value, decimal_text}
use Rattle.orc_value.proofs.IntegerLaws.{has_integer-abs, admitted-yes, and_left}
use Rattle.orc_value.proofs.RoundTrips.{int_value-int_text, decimal_value-decimal_text}

-- the number that a canonical text stands for
abbrev IsTextOf : (ℤ → List ℕ) → (ℤ → Bool) → Option ℤ → List ℕ → Type 0
IsTextOf text_of has o t = (z : ℤ) × (o ≡ Some z) × (has z ≡ true) × (t ≡ text_of z)

choose : (text_of : ℤ → List ℕ) (has : ℤ → Bool) (z : ℤ) (t : List ℕ) (b : Bool) → has z ≡ b
    → number_text text_of (cond b (Ok z) (Err 2)) ≡ Ok t → IsTextOf text_of has (Some z) t
choose text_of has z t true e h = (z, refl, e, cc)
choose text_of has z t false e h = cc

pub number_of : (text_of : ℤ → List ℕ) (has : ℤ → Bool) (o : Option ℤ) (t : List ℕ) → number_text text_of (admitted has o) ≡ Ok t → IsTextOf text_of has o t
number_of text_of has None t h = cc
number_of text_of has (Some z) t h = choose text_of has z t (has z) refl h

-- values are read back from their texts
abbrev ReadsBack : (List ℕ → Option ℤ) → (ℤ → List ℕ) → (ℤ → Bool) → Type 0
ReadsBack value text_of has = (bs : List ℕ) (z : ℤ) → value bs ≡ Some z → has z ≡ true → value (text_of z) ≡ Some z

module _ (value : List ℕ → Option ℤ) (text_of : ℤ → List ℕ) (has : ℤ → Bool) (back : ReadsBack value text_of has) where
  -- a canonical text denotes what its text did
  pub value_kept : (bs t : List ℕ) → number_text text_of (admitted has (value bs)) ≡ Ok t → value t ≡ value bs
  value_kept bs t h =
      let found = number_of text_of has (value bs) t h in
      ap value found.3 ∙ (back bs found.0 found.1 found.2 ∙ sym found.1)

  pub again : (bs t : List ℕ) → number_text text_of (admitted has (value bs)) ≡ Ok t → number_text text_of (admitted has (value t)) ≡ Ok t
  again bs t h = ap (λ (o : Option ℤ). number_text text_of (admitted has o)) (value_kept bs t h) ∙ h

  pub same : (bs t other : List ℕ) → number_text text_of (admitted has (value bs)) ≡ Ok t
      → (number_text text_of (admitted has (value other)) ≡ Ok t) ↔ (value other ≡ value bs)
  same bs t other h = (
    λ h'. sym (value_kept other t h') ∙ value_kept bs t h,
    λ e. ap (λ (o : Option ℤ). number_text text_of (admitted has o)) e ∙ h,
  )

pub int_reads_back : (kind : IntKind) → ReadsBack int_value int_text (has_integer kind)
int_reads_back kind bs z e has = int_value-int_text z (has_integer-abs kind z has)

pub is_decimal_value-abs : (z : ℤ) → is_decimal_value z ≡ true → unsigned_abs z < 2 ^ 64
is_decimal_value-abs (pos n) h = grind (arith, nat_tests)
is_decimal_value-abs (negsuc n) h = grind (arith, nat_tests)

value_places : (b : Bool) (o : ℤ) (z : ℤ) → cond b (Some o) None ≡ Some z → b ≡ true
value_places true o z h = refl
value_places false o z h = cc

places_of : (n : ℕ) → is_fraction_digits n ≡ true → (1 ≤ n) × (n ≤ 18)
places_of n h = (grind (arith, nat_tests), grind (arith, nat_tests))

pub decimal_reads_back : (n : ℕ) → ReadsBack (decimal_value n) (decimal_text n) is_decimal_value
decimal_reads_back n bs z e has =
    let test = value_places (is_fraction_digits n && is_decimal bs && is_scalable n (whole_of bs) (fraction_of bs)) (signed (starts_with_minus bs) (scaled n (whole_of bs) (fraction_of bs))) z e in
    let places = places_of n (and_left (is_fraction_digits n) (is_decimal bs) (and_left (is_fraction_digits n && is_decimal bs) (is_scalable n (whole_of bs) (fraction_of bs)) test)) in
    decimal_value-decimal_text n z places.0 places.1 (is_decimal_value-abs z has)

kept_is : (rule : Option ℕ) (text t : List ℕ) → kept rule text ≡ Ok t → text ≡ t
kept_is None text t h = cc
kept_is (Some rule) text t h = cc

kept_again : (rule : List ℕ → Option ℕ) (text t : List ℕ) → kept (rule text) text ≡ Ok t → kept (rule t) t ≡ Ok t
kept_again rule text t h = subst (λ (x : List ℕ). kept (rule x) x ≡ Ok t) (kept_is (rule text) text t h) h

kept_same : (rule : List ℕ → Option ℕ) (text t other : List ℕ) → kept (rule text) text ≡ Ok t → (kept (rule other) other ≡ Ok t) ↔ (other ≡ text)
kept_same rule text t other h = (
  λ h'. kept_is (rule other) other t h' ∙ sym (kept_is (rule text) text t h),
  λ e. ap (λ (x : List ℕ). kept (rule x) x) e ∙ h,
)

-- a canonical text is its own canonical text
pub canon_of-again : (kind : Kind) (text t : List ℕ) → canon_of kind text ≡ Ok t → canon_of kind t ≡ Ok t
canon_of-again (Int kind) text t h = again int_value int_text (has_integer kind) (int_reads_back kind) text t h
canon_of-again (Decimal n) text t h = again (decimal_value n) (decimal_text n) is_decimal_value (decimal_reads_back n) text t h
canon_of-again (Str lengths) text t h = kept_again (string_rule lengths) text t h
canon_of-again Boolean text t h = kept_again bool_rule text t h
canon_of-again (Enum names) text t h = kept_again (enum_rule names) text t h
canon_of-again Empty text t h = kept_again empty_rule text t h

-- just the texts that denote the same value have one canonical text
pub canon_of-same : (kind : Kind) (text t other : List ℕ) → canon_of kind text ≡ Ok t → (canon_of kind other ≡ Ok t) ↔ SameValue kind other text
canon_of-same (Int kind) text t other h = same int_value int_text (has_integer kind) (int_reads_back kind) text t other h
canon_of-same (Decimal n) text t other h = same (decimal_value n) (decimal_text n) is_decimal_value (decimal_reads_back n) text t other h
canon_of-same (Str lengths) text t other h = kept_same (string_rule lengths) text t other h
canon_of-same Boolean text t other h = kept_same bool_rule text t other h
canon_of-same (Enum names) text t other h = kept_same (enum_rule names) text t other h
canon_of-same Empty text t other h = kept_same empty_rule text t other h

-- what an answer says where it is a text
pub IfOk-from_Answers : (P : List ℕ → Type 0) (verdict : Result (List ℕ) ℕ) (r : Result (List ℕ) ValueFault) → Answers verdict r
    → ((t : List ℕ) → verdict ≡ Ok t → P t) → IfOk r P
IfOk-from_Answers P verdict (Ok t) h f = f t h
IfOk-from_Answers P verdict (Err e) h f = tt

-- the text of an integer of the type is canonical
pub int_text_canonical : (kind : IntKind) (z : ℤ) (t : List ℕ) → has_integer kind z ≡ true → t ≡ int_text z → canon_of (Int kind) t ≡ Ok t
int_text_canonical kind z t has e =
    let text : canon_of (Int kind) (int_text z) ≡ Ok (int_text z) =
    ap (λ (o : Option ℤ). number_text int_text (admitted (has_integer kind) o)) (int_value-int_text z (has_integer-abs kind z has))
    ∙ ap (number_text int_text) (admitted-yes (has_integer kind) (Some z) z refl has) in
    subst (λ (x : List ℕ). canon_of (Int kind) x ≡ Ok x) (sym e) text

gives_text-Decides : (text : List ℕ) (verdict : Result (List ℕ) ℕ) → Decides (gives_text text verdict) (verdict ≡ Ok text)
gives_text-Decides text (Ok t) =
    let test = bytes_eq-Decides t text in
    (λ yes. ap Ok (test.0 yes), λ e. test.1 (cc))
gives_text-Decides text (Err rule) = (λ wrong. absurd (false≢true wrong), λ e. cc)

-- the test decides what it says
pub is_canonical-Decides : (kind : Kind) (text : List ℕ) → Decides (is_canonical kind text) (canon_of kind text ≡ Ok text)
is_canonical-Decides kind text = gives_text-Decides text (canon_of kind text)
