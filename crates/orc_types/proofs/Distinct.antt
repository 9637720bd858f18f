-- No two enums of an enumeration without a fault have one name or one value.
use Rattle.std.proofs.Common.{◌≡◌, ◌≢◌, ℕ, zero, suc, ◌<◌, ℤ, pos, Bool, true, false, cond, eqb, List, [], ◌∷◌, ◌++◌, length, get_or, Option, Some, None, refl, sym, ap, ◌∙◌, arith, subst}
use Rattle.std.specs.Prelude.{◌&&◌, ◌||◌, not, int_le, int_lt, ◌+ℤ◌, codes, is_some, unwrap_or}
use Rattle.std.specs.Option.{option_or, option_map_or}
use Rattle.std.specs.List.{list_any, find, AllPairs}
use Rattle.std.specs.Cmp.Lexicographic.{same_text as same_from_test}
use Rattle.std.proofs.lemmas.Int.{ints}
use Rattle.std.proofs.lemmas.Bool.{false≢true}
use Rattle.std.proofs.lemmas.Bool.Decides.{nat_tests, Decides-int_eq}
use Rattle.std.proofs.lemmas.List.{append_assoc, append-nil}
use Rattle.std.proofs.lemmas.List.Sums.{fold-append}
use Rattle.std.proofs.lemmas.List.Folds.{list_any-append}
use Rattle.std.proofs.lemmas.List.Quantifiers.{all_pairs_push}
use Rattle.orc_value.specs.Canon.{same_text}
use Rattle.orc_value.proofs.IntegerLaws.{and_right}
use Rattle.orc_yang.specs.declared.statement.Stmt.{Stmt}
use Rattle.orc_types.specs.declared.types.EnumName.{EnumName}
use Rattle.orc_types.specs.declared.types.Base.TheVariants.{Enumeration}
use Rattle.orc_types.specs.declared.fault.TypeFault.{TypeFault}
use Rattle.orc_types.specs.declared.fault.TypeFault.TheVariants.{Unsupported, Duplicate, BadArgument}
use Rattle.orc_types.specs.Numbers.{only_if, is_int32, int32_of}
use Rattle.orc_types.specs.Statements.{keyword, subs, argument, is_a, has, first_of, is_idle, none_below}
use Rattle.orc_types.specs.Enums.{has_name, has_value, greatest, next_value, own_value, given_value, enum_value, add_enum, is_valued, enums_of, is_enum_name, name_fault, number_fault, value_fault, values_fault}
use Rattle.orc_types.specs.Types.{fault_at, first_fault, restriction_fault}
use Rattle.orc_types.specs.Laws.{Differ, EnumsDiffer}
use Rattle.orc_types.proofs.Narrowing.{le_trans}

-- ---- the next value is above all

le_self : (a : ℤ) → int_le a a ≡ true
le_self a = grind (arith, ints)

le_from_lt : (a b : ℤ) → int_lt a b ≡ true → int_le a b ≡ true
le_from_lt a b h = grind (arith, ints)

le_from_not_lt : (a b : ℤ) → int_lt a b ≡ false → int_le b a ≡ true
le_from_not_lt a b h = grind (arith, ints)

below_next : (a b : ℤ) → int_le a b ≡ true → int_lt a (b +ℤ pos 1) ≡ true
below_next a b h = grind (arith, ints)

below_itself : (a : ℤ) → int_lt a a ≡ true → ⊥
below_itself a h = grind (arith, ints)

other_value : (a b : ℤ) → int_lt a b ≡ true → a ≢ b
other_value a b h same = below_itself a (subst (λ (x : ℤ). int_lt a x ≡ true) (sym same) h)

start_pick : (v w : ℤ) (es : List EnumName) (b : Bool) → int_lt v w ≡ b → int_le w (greatest w es) ≡ true → int_le v (greatest v es) ≡ true → int_le v (greatest (cond b w v) es) ≡ true
start_pick v w es true lt far near = le_trans v w (greatest w es) (le_from_lt v w lt) far
start_pick v w es false lt far near = near

greatest-start : (v : ℤ) (es : List EnumName) → int_le v (greatest v es) ≡ true
greatest-start v [] = le_self v
greatest-start v (e ∷ es) = start_pick v e.value es (int_lt v e.value) refl (greatest-start e.value es) (greatest-start v es)

first_pick : (v w : ℤ) (es : List EnumName) (b : Bool) → int_lt v w ≡ b → int_le w (greatest (cond b w v) es) ≡ true
first_pick v w es true lt = greatest-start w es
first_pick v w es false lt = le_trans w v (greatest v es) (le_from_not_lt v w lt) (greatest-start v es)

greatest-at : (v : ℤ) (es : List EnumName) (k : ℕ) (d : EnumName) → k < length es → int_le (get_or es k d).value (greatest v es) ≡ true
greatest-at v [] k d h = absurd (omega arith)
greatest-at v (e ∷ es) zero d h = first_pick v e.value es (int_lt v e.value) refl
greatest-at v (e ∷ es) (suc k) d h = greatest-at (cond (int_lt v e.value) e.value v) es k d (omega arith)

next_value-above : (es : List EnumName) (k : ℕ) (d : EnumName) → k < length es → int_lt (get_or es k d).value (next_value es) ≡ true
next_value-above [] k d h = absurd (omega arith)
next_value-above (e ∷ es) zero d h = below_next e.value (greatest e.value es) (greatest-start e.value es)
next_value-above (e ∷ es) (suc k) d h = below_next (get_or es k d).value (greatest e.value es) (greatest-at e.value es k d (omega arith))

-- ---- what no enum has

or_false_left : (a b : Bool) → (a || b) ≡ false → a ≡ false
or_false_left true b h = absurd (false≢true (sym h))
or_false_left false b h = refl

or_false_right : (a b : Bool) → (a || b) ≡ false → b ≡ false
or_false_right true b h = absurd (false≢true (sym h))
or_false_right false b h = h

fails_at : (test : EnumName → Bool) (es : List EnumName) (k : ℕ) (d : EnumName) → list_any test es ≡ false → k < length es → test (get_or es k d) ≡ false
fails_at test [] k d h below = absurd (omega arith)
fails_at test (e ∷ es) zero d h below = or_false_left (test e) (list_any test es) h
fails_at test (e ∷ es) (suc k) d h below = fails_at test es k d (or_false_right (test e) (list_any test es) h) (omega arith)

eqb_self : (x : ℕ) → eqb x x ≡ true
eqb_self x = grind (arith, nat_tests)

same_text-self : (xs : List ℕ) → same_text xs xs ≡ true
same_text-self [] = refl
same_text-self (x ∷ xs) = ap (λ (b : Bool). b && same_text xs xs) (eqb_self x) ∙ same_text-self xs

other_name : (name : List ℕ) (e : EnumName) → has_name name e ≡ false → e.name ≢ name
other_name name e h same = false≢true (sym h ∙ (ap (λ (t : List ℕ). same_text t name) same ∙ same_text-self name))

other_number : (z : ℤ) (e : EnumName) → has_value z e ≡ false → e.value ≢ z
other_number z e h same = false≢true (sym h ∙ (Decides-int_eq e.value z).1 same)

-- ---- statements without a fault

or_none_left : (a b : Option TypeFault) → option_or a b ≡ None → a ≡ None
or_none_left None b h = refl
or_none_left (Some f) b h = absurd cc

or_none_right : (a b : Option TypeFault) → option_or a b ≡ None → b ≡ None
or_none_right None b h = h
or_none_right (Some f) b h = absurd cc

some_none : {X : Type 0} {x : X} {A : Type 0} → Some x ≡ None → A
some_none h = absurd cc

-- a test that a fault hangs on
no_fault : (b : Bool) (f : TypeFault) (o : Option TypeFault) → cond b (Some f) o ≡ None → (b ≡ false) × (o ≡ None)
no_fault true f o h = some_none h
no_fault false f o h = (refl, h)

well : (b : Bool) (f : TypeFault) → cond b None (Some f) ≡ None → b ≡ true
well true f h = refl
well false f h = some_none h

not_idle : (word : List ℕ) (text : List ℕ) → is_idle word ≡ false → same_text text word ≡ true → is_idle text ≡ false
not_idle word text h same = ap is_idle (same_from_test text word (sym same)) ∙ h

opened : (i a h : Bool) (u d : TypeFault) (n b : Option TypeFault) → i ≡ false → a ≡ true → h ≡ false → cond i None (cond (not a) (Some u) (cond h (Some d) (option_or n b))) ≡ None → n ≡ None
opened true a h u d n b i_is a_is h_is e = absurd (false≢true (sym i_is))
opened false false h u d n b i_is a_is h_is e = absurd (false≢true a_is)
opened false true true u d n b i_is a_is h_is e = absurd (false≢true (sym h_is))
opened false true false u d n b i_is a_is h_is e = or_none_left n b e

-- the first `value` below an `enum` has no fault
first_value : (es : List EnumName) (name : List ℕ) (earlier vs : List Stmt) (v : Stmt) → values_fault None es name earlier vs ≡ None → has (codes "value") earlier ≡ false → find (is_a (codes "value")) vs ≡ Some v → number_fault None es name v (int32_of (argument v)) ≡ None
first_value es name earlier [] v h none found = some_none (sym found)
first_value es name earlier (w ∷ vs) v h none found =
    let here = or_none_left (value_fault None es name earlier w) (values_fault None es name (earlier ++ w ∷ []) vs) h in
    let rest = or_none_right (value_fault None es name earlier w) (values_fault None es name (earlier ++ w ∷ []) vs) h in
    on (is_a (codes "value") w) refl here (first_value es name (earlier ++ w ∷ []) vs v rest) found
  where
    still_none : is_a (codes "value") w ≡ false → has (codes "value") (earlier ++ w ∷ []) ≡ false
    still_none e = list_any-append (is_a (codes "value")) earlier (w ∷ []) ∙ (ap (λ (b : Bool). b || has (codes "value") (w ∷ [])) none ∙ ap (λ (b : Bool). b || false) e)

    this : is_a (codes "value") w ≡ true → value_fault None es name earlier w ≡ None → number_fault None es name w (int32_of (argument w)) ≡ None
    this e here =
        opened (is_idle (keyword w)) (is_a (codes "value") w) (has (codes "value") earlier) (Unsupported (keyword w)) (Duplicate (keyword w)) (number_fault None es name w (int32_of (argument w))) (none_below w) (not_idle (codes "value") (keyword w) refl e) e none here

    on : (b : Bool) → is_a (codes "value") w ≡ b → value_fault None es name earlier w ≡ None → (has (codes "value") (earlier ++ w ∷ []) ≡ false → find (is_a (codes "value")) vs ≡ Some v → number_fault None es name v (int32_of (argument v)) ≡ None) → cond b (Some w) (find (is_a (codes "value")) vs) ≡ Some v → number_fault None es name v (int32_of (argument v)) ≡ None
    on true e here further same =
        let is : w ≡ v = cc in
        subst (λ (x : Stmt). number_fault None es name x (int32_of (argument x)) ≡ None) is (this e here)
    on false e here further same = further (still_none e) same

-- a given value that has no fault is no other enum's
sound_value : (es : List EnumName) (name : List ℕ) (v : Stmt) (o : Option ℤ) → number_fault None es name v o ≡ None → list_any (has_value (unwrap_or o (pos 0))) es ≡ false
sound_value es name v None h = some_none h
sound_value es name v (Some z) h = (no_fault (list_any (has_value z) es) (Duplicate (argument v)) None h).0

find_none : (test : Stmt → Bool) (ss : List Stmt) → find test ss ≡ None → list_any test ss ≡ false
find_none test [] h = refl
find_none test (s ∷ ss) h = on (test s) h (find_none test ss)
  where
    on : (b : Bool) → cond b (Some s) (find test ss) ≡ None → (find test ss ≡ None → list_any test ss ≡ false) → (b || list_any test ss) ≡ false
    on true h rest = some_none h
    on false h rest = rest h

left_value : (z : ℤ) → is_some (only_if is_int32 z) ≡ true → unwrap_or (only_if is_int32 z) (pos 0) ≡ z
left_value z h = on (is_int32 z) h
  where
    on : (b : Bool) → is_some (cond b (Some z) None) ≡ true → unwrap_or (cond b (Some z) None) (pos 0) ≡ z
    on true h = refl
    on false h = absurd (false≢true h)

abbrev Values : List EnumName → ℤ → Type 0
Values es z = (k : ℕ) (d : EnumName) → k < length es → (get_or es k d).value ≢ z

-- the value of an enum without a fault is no other one's
new_value : (es : List EnumName) (s : Stmt) → name_fault None es s ≡ None → values_fault None es (argument s) [] (subs s) ≡ None → Values es (enum_value None es s)
new_value es s named valued = on (first_of (codes "value") (subs s)) refl
  where
    after_names : cond (list_any (has_name (argument s)) es) (Some (Duplicate (argument s))) (cond (is_enum_name (argument s) && is_valued None es s) None (Some (BadArgument (keyword s)))) ≡ None
    after_names = named

    well_formed : (is_enum_name (argument s) && is_valued None es s) ≡ true
    well_formed = well (is_enum_name (argument s) && is_valued None es s) (BadArgument (keyword s)) (no_fault (list_any (has_name (argument s)) es) (Duplicate (argument s)) (cond (is_enum_name (argument s) && is_valued None es s) None (Some (BadArgument (keyword s)))) after_names).1

    on : (o : Option Stmt) → first_of (codes "value") (subs s) ≡ o → Values es (option_map_or given_value o (unwrap_or (own_value None es (argument s)) (pos 0)))
    on None e k d below =
        let absent : has (codes "value") (subs s) ≡ false = find_none (is_a (codes "value")) (subs s) e in
        let either : is_valued None es s ≡ true = and_right (is_enum_name (argument s)) (is_valued None es s) well_formed in
        let left : is_some (own_value None es (argument s)) ≡ true = ap (λ (b : Bool). b || is_some (own_value None es (argument s))) (sym absent) ∙ either in
        let is : unwrap_or (own_value None es (argument s)) (pos 0) ≡ next_value es = left_value (next_value es) left in
        subst (λ (z : ℤ). (get_or es k d).value ≢ z) (sym is) (other_value (get_or es k d).value (next_value es) (next_value-above es k d below))
    on (Some v) e k d below =
        let sound = first_value es (argument s) [] (subs s) v valued refl e in
        other_number (unwrap_or (int32_of (argument v)) (pos 0)) (get_or es k d) (fails_at (has_value (unwrap_or (int32_of (argument v)) (pos 0))) es k d (sound_value es (argument s) v (int32_of (argument v)) sound) below)

new_name : (es : List EnumName) (s : Stmt) → name_fault None es s ≡ None → list_any (has_name (argument s)) es ≡ false
new_name es s named = (no_fault (list_any (has_name (argument s)) es) (Duplicate (argument s)) (cond (is_enum_name (argument s) && is_valued None es s) None (Some (BadArgument (keyword s)))) named).0

-- ---- a block

enum_opened : (i a : Bool) (u : TypeFault) (n v r : Option TypeFault) → i ≡ false → a ≡ true → cond i None (cond (not a) (Some u) (cond a (option_or n v) r)) ≡ None → (n ≡ None) × (v ≡ None)
enum_opened true a u n v r i_is a_is e = absurd (false≢true (sym i_is))
enum_opened false false u n v r i_is a_is e = absurd (false≢true a_is)
enum_opened false true u n v r i_is a_is e = (or_none_left n v e, or_none_right n v e)

abbrev Apart : List EnumName → Type 0
Apart es = AllPairs Differ es

added : (before : List Stmt) (s : Stmt) → fault_at Enumeration before s ≡ None → Apart (enums_of None before) → Apart (add_enum None (enums_of None before) s)
added before s h apart = on (is_a (codes "enum") s) refl
  where
    on : (b : Bool) → is_a (codes "enum") s ≡ b → Apart (cond b (enums_of None before ++ record { name = argument s; value = enum_value None (enums_of None before) s } ∷ []) (enums_of None before))
    on false e = apart
    on true e =
        let es = enums_of None before in
        let both = enum_opened (is_idle (keyword s)) (is_a (codes "enum") s) (Unsupported (keyword s)) (name_fault None es s) (values_fault None es (argument s) [] (subs s)) (restriction_fault Enumeration before s) (not_idle (codes "enum") (keyword s) refl e) e h in
        let fresh : EnumName = record { name = argument s; value = enum_value None es s } in
        all_pairs_push Differ es fresh apart (λ k d below. record {
          names = other_name (argument s) (get_or es k d) (fails_at (has_name (argument s)) es k d (new_name es s both.0) below);
          values = new_value es s both.0 both.1 k d below;
        })

one_more : (before : List Stmt) (s : Stmt) → fault_at Enumeration before s ≡ None → Apart (enums_of None before) → Apart (enums_of None (before ++ s ∷ []))
one_more before s h apart = subst Apart (sym (fold-append (add_enum None) [] before (s ∷ []))) (added before s h apart)

all_apart : (before ss : List Stmt) → first_fault Enumeration before ss ≡ None → Apart (enums_of None before) → Apart (enums_of None (before ++ ss))
all_apart before [] h apart = subst (λ (xs : List Stmt). Apart (enums_of None xs)) (sym (append-nil before)) apart
all_apart before (s ∷ ss) h apart =
    let here = or_none_left (fault_at Enumeration before s) (first_fault Enumeration (before ++ s ∷ []) ss) h in
    let rest = or_none_right (fault_at Enumeration before s) (first_fault Enumeration (before ++ s ∷ []) ss) h in
    subst (λ (xs : List Stmt). Apart (enums_of None xs)) (append_assoc before (s ∷ []) ss) (all_apart (before ++ s ∷ []) ss rest (one_more before s here apart))

no_pair : Apart []
no_pair i j d below within = absurd (omega arith)

pub enums_differ : EnumsDiffer
enums_differ ss h = all_apart [] ss h no_pair
