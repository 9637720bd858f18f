-- Names that are kept in any order are the same names.
use Rattle.std.proofs.Common.{◌≡◌, refl, sym, ◌∙◌, ap, subst, List, [], ◌∷◌, ◌++◌, ℕ, ◌+◌, ◌<◌, Bool, true, false, cond, length, get_or}
use Rattle.std.specs.Prelude.{take, drop, ◌||◌}
use Rattle.std.specs.List.{list_any}
use Rattle.std.specs.Ordering.{is_eq, nat_cmp}
use Rattle.std.specs.Cmp.Lexicographic.{slice_cmp}
use Rattle.std.proofs.lemmas.List.{drop_more}
use Rattle.std.proofs.lemmas.List.Folds.{list_any-append}
use Rattle.std.proofs.lemmas.Map.Text.{is_eq-slice_cmp}
use Rattle.orc_yang.specs.declared.statement.Stmt.{Stmt}
use Rattle.orc_value.specs.Canon.{same_text}
use Rattle.orc_modules.specs.Children.{children, child_names}
use Rattle.orc_statements.specs.Names.{contains_text}
use Rattle.orc_statements.specs.inside.Seen.{is_seen, HasToo, HasAllToo, HasSame}
use Rattle.orc_statements.proofs.ChildNames.{names-grown}

abbrev Name : Type 0
Name = List ℕ

or_false : (b : Bool) → (b || false) ≡ b
or_false true = refl
or_false false = refl

-- a name that is new, before the others or after them
either : (is was : Bool) → cond is true was ≡ (was || is)
either true true = refl
either true false = refl
either false true = refl
either false false = refl

moved : (is was rest : Bool) → (cond is true was || rest) ≡ (was || (is || rest))
moved true true rest = refl
moved true false rest = refl
moved false true rest = refl
moved false false rest = refl

-- two texts are one where neither comes before the other
by_order : (names : List Name) (q : Name) → list_any (λ k. is_eq (slice_cmp nat_cmp q k)) names ≡ is_seen names q
by_order names q = ap (λ (test : Name → Bool). list_any test names) (λ i k. is_eq-slice_cmp q k i)

pub has_by : (names now : List Name) (q : Name) → names ≡ now → list_any (λ k. is_eq (slice_cmp nat_cmp q k)) names ≡ is_seen now q
has_by names now q same = by_order names q ∙ ap (λ ns. is_seen ns q) same

pub put_by : (before old now : List Name) (n q : Name) → before ≡ old
    → list_any (λ k. is_eq (slice_cmp nat_cmp q k)) now ≡ cond (is_eq (slice_cmp nat_cmp n q)) true (list_any (λ k. is_eq (slice_cmp nat_cmp q k)) before)
    → is_seen now q ≡ cond (same_text n q) true (is_seen old q)
put_by before old now n q same put = sym (by_order now q) ∙ (put
    ∙ (ap (λ b. cond b true (list_any (λ k. is_eq (slice_cmp nat_cmp q k)) before)) (is_eq-slice_cmp n q)
    ∙ ap (λ b. cond (same_text n q) true b) (has_by before old q same)))

pub none_seen : HasSame [] []
none_seen = λ t. refl

pub seen_more : (xs now ys : List Name) (n : Name) → HasSame xs ys → HasToo xs n now → HasSame now (ys ++ n ∷ [])
seen_more xs now ys n h put t = put t ∙ (either (same_text n t) (is_seen xs t) ∙ (ap (λ b. b || same_text n t) (h t) ∙ sym more))
  where
    more : contains_text (ys ++ n ∷ []) t ≡ (contains_text ys t || same_text n t)
    more = list_any-append (λ y. same_text y t) ys (n ∷ []) ∙ ap (λ b. contains_text ys t || b) (or_false (same_text n t))

pub all_more : (xs now ys ns : List Name) → HasSame xs ys → HasAllToo xs ns now → HasSame now (ys ++ ns)
all_more xs now ys ns h put t = put t ∙ (ap (λ b. b || contains_text ns t) (h t) ∙ sym (list_any-append (λ y. same_text y t) ys ns))

-- what is left of the names that are added
pub more_left : (was now ns : List Name) (i : ℕ) (n q : Name) → i < length ns → get_or ns i n ≡ n → HasToo was n now
    → (is_seen now q || contains_text (drop (i + 1) ns) q) ≡ (is_seen was q || contains_text (drop i ns) q)
more_left was now ns i n q below is put = ap (λ b. b || contains_text (drop (i + 1) ns) q) (put q)
    ∙ (moved (same_text n q) (is_seen was q) (contains_text (drop (i + 1) ns) q)
    ∙ ap (λ rest. is_seen was q || contains_text rest q) (sym (drop_more ns i n below ∙ ap (λ y. y ∷ drop (i + 1) ns) is)))

pub none_left : (was : List Name) (q : Name) → (is_seen was q || contains_text [] q) ≡ is_seen was q
none_left was q = or_false (is_seen was q)

pub seen-grown : (n : ℕ) (modules above block : List Stmt) (i : ℕ) (x : Stmt) → i < length block → get_or block i x ≡ x → (xs now : List Name)
    → HasSame xs (child_names (children n modules above (take i block))) → HasAllToo xs (child_names (children n modules above (x ∷ []))) now
    → HasSame now (child_names (children n modules above (take (i + 1) block)))
seen-grown n modules above block i x below is xs now h grown = subst (λ l. HasSame now l) (names-grown n modules above block i x below is)
    (all_more xs now (child_names (children n modules above (take i block))) (child_names (children n modules above (x ∷ []))) h grown)
