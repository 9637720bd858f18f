-- Rows in path order, parted at their first step.
use Rattle.std.proofs.Common.{◌≡◌, ◌≢◌, ℕ, suc, ◌+◌, Bool, true, false, cond, T, List, [], ◌∷◌, ◌++◌, length, take, Option, Some, None, refl, sym, ap, subst, ◌∙◌, arith, append_assoc}
use Rattle.std.specs.Prelude.{◌&&◌, is_some}
use Rattle.std.specs.Option.{option_or}
use Rattle.std.specs.FinMap.{find as find_in, is_sorted}
use Rattle.std.specs.FinMap.Entries.{below_all}
use Rattle.std.specs.Ordering.{is_eq, is_lt, eq_by_cmp, ordering_then, ordering_reverse}
use Rattle.std.specs.declared.cmp.Ordering.{Ordering}
use Rattle.std.specs.declared.cmp.Ordering.TheVariants.{Less, Equal, Greater}
use Rattle.std.proofs.lemmas.Bool.{false≢true}
use Rattle.std.proofs.lemmas.Cmp.{tied_itself, alike_right}
use Rattle.orc_path.specs.Configurations.{IsWay}
use Rattle.orc_path.specs.Order.{step_cmp, path_cmp}
use Rattle.orc_path.specs.Steps.{PathStep}
use Rattle.orc_path.specs.declared.item.Item.{Item}
use Rattle.orc_path.proofs.Bools.{first_of_both, second_of_both}
use Rattle.orc_path.proofs.ConfigurationLaws.{same_path, path_ties}
use Rattle.orc_path.proofs.PathOrder.{step_cmp_total, path_cmp_exact}
use Rattle.orc_tree.proofs.InOrder.{is_less}
use Rattle.orc_json.specs.Written.{Rows}

abbrev pub Path : Type 0
Path = List PathStep

-- the item at a path among rows
abbrev pub look : Rows → Path → Option Item
look rows p = find_in path_cmp p rows

-- rows with a step added before their paths
abbrev pub with_step : PathStep → Rows → Rows
with_step st [] = []
with_step st (row ∷ rows) = (st ∷ row.0, row.1) ∷ with_step st rows

-- rows below a path
abbrev pub below_path : Path → Rows → Rows
below_path at [] = []
below_path at (row ∷ rows) = (at ++ row.0, row.1) ∷ below_path at rows

pub below_path-append : (at : Path) (xs ys : Rows) → below_path at (xs ++ ys) ≡ below_path at xs ++ below_path at ys
below_path-append at [] ys = refl
below_path-append at (x ∷ xs) ys = ap (λ (r : Rows). (at ++ x.0, x.1) ∷ r) (below_path-append at xs ys)

pub below_path-step : (at : Path) (st : PathStep) (rows : Rows) → below_path at (with_step st rows) ≡ below_path (at ++ st ∷ []) rows
below_path-step at st [] = refl
below_path-step at st (row ∷ rows) =
    ap (λ (p : Path). (p, row.1) ∷ below_path at (with_step st rows)) (sym (append_assoc at (st ∷ []) row.0))
    ∙ ap (λ (r : Rows). ((at ++ st ∷ []) ++ row.0, row.1) ∷ r) (below_path-step at st rows)

pub below_path-root : (rows : Rows) → below_path [] rows ≡ rows
below_path-root [] = refl
below_path-root (row ∷ rows) = ap (λ (r : Rows). row ∷ r) (below_path-root rows)

pub filled : (x : PathStep) (xs : Path) → x ∷ xs ≢ []
filled x xs e = omega (arith, ap length e)

-- Orders

pub unlike : (o r : Ordering) → o ≡ r → is_lt o ≡ true → is_lt r ≡ false → ⊥
unlike o r e h n = false≢true (sym n ∙ ap is_lt (sym e) ∙ h)

pub same_step : (st : PathStep) (x y : Path) → path_cmp (st ∷ x) (st ∷ y) ≡ path_cmp x y
same_step st x y = ap (λ o. ordering_then o (path_cmp x y)) (tied_itself step_cmp_total st)

not_tied : (o r : Ordering) → is_eq o ≡ false → is_eq (ordering_then o r) ≡ false
not_tied Less r h = refl
not_tied Equal r h = absurd (false≢true (sym h))
not_tied Greater r h = refl

abbrev first_or : PathStep → Path → PathStep
first_or other [] = other
first_or other (st ∷ later) = st

first_is : (a b : PathStep) (x y : Path) → a ∷ x ≡ b ∷ y → a ≡ b
first_is a b x y e = ap (first_or a) e

step_tied : (a b : PathStep) → step_cmp a b ≡ Equal → a ≡ b
step_tied a b h = first_is a b [] [] (path_cmp_exact (a ∷ []) (b ∷ []) (ap (λ o. ordering_then o Equal) h))

-- Looking among rows

pub none_from : {X : Type 0} (o : Option X) → (is_some o ≡ true → ⊥) → o ≡ None
none_from None h = refl
none_from (Some x) h = absurd (h refl)

or_none : {X : Type 0} (o : Option X) → option_or o None ≡ o
or_none None = refl
or_none (Some x) = refl

pub look-head : (p : Path) (it : Item) (rows : Rows) → look ((p, it) ∷ rows) p ≡ Some it
look-head p it rows = ap (λ t. cond t (Some it) (look rows p)) (path_ties p p refl)

pub look-append : (xs ys : Rows) (p : Path) → look (xs ++ ys) p ≡ option_or (look xs p) (look ys p)
look-append [] ys p = refl
look-append (x ∷ xs) ys p = on (eq_by_cmp path_cmp p x.0) (look-append xs ys p)
  where
    on : (t : Bool) → look (xs ++ ys) p ≡ option_or (look xs p) (look ys p)
        → cond t (Some x.1) (look (xs ++ ys) p) ≡ option_or (cond t (Some x.1) (look xs p)) (look ys p)
    on true h = refl
    on false h = h

pub look-step : (st : PathStep) (rows : Rows) (x : Path) → look (with_step st rows) (st ∷ x) ≡ look rows x
look-step st [] x = refl
look-step st (row ∷ rows) x =
    ap (λ o. cond (is_eq o) (Some row.1) (look (with_step st rows) (st ∷ x))) (same_step st x row.0)
    ∙ ap (λ o. cond (is_eq (path_cmp x row.0)) (Some row.1) o) (look-step st rows x)

look-other : (st other : PathStep) (rows : Rows) (x : Path) → is_eq (step_cmp other st) ≡ false → look (with_step st rows) (other ∷ x) ≡ None
look-other st other [] x h = refl
look-other st other (row ∷ rows) x h =
    ap (λ t. cond t (Some row.1) (look (with_step st rows) (other ∷ x))) (not_tied (step_cmp other st) (path_cmp x row.0) h)
    ∙ look-other st other rows x h

-- what stands among rows that a path is less than is greater
pub look-above : (q : Path) (rows : Rows) (p : Path) → T (below_all path_cmp q rows) → is_some (look rows p) ≡ true → path_cmp q p ≡ Less
look-above q [] p above h = absurd (false≢true h)
look-above q (row ∷ rows) p above h =
    on (eq_by_cmp path_cmp p row.0) refl h (λ more. look-above q rows p (second_of_both (is_lt (path_cmp q row.0)) (below_all path_cmp q rows) above) more)
  where
    on : (t : Bool) → eq_by_cmp path_cmp p row.0 ≡ t → is_some (cond t (Some row.1) (look rows p)) ≡ true
        → (is_some (look rows p) ≡ true → path_cmp q p ≡ Less) → path_cmp q p ≡ Less
    on true is h rec =
        subst (λ (x : Path). path_cmp q x ≡ Less) (sym (same_path p row.0 is))
        (is_less (path_cmp q row.0) (first_of_both (is_lt (path_cmp q row.0)) (below_all path_cmp q rows) above))
    on false is h rec = rec h

-- Order of rows

both : (a b : Bool) → T a → T b → T (a && b)
both true b p q = q
both false b p q = absurd p

below-front : (q : Path) (xs ys : Rows) → T (below_all path_cmp q (xs ++ ys)) → T (below_all path_cmp q xs)
below-front q [] ys h = tt
below-front q (x ∷ xs) ys h =
    both (is_lt (path_cmp q x.0)) (below_all path_cmp q xs) (first_of_both (is_lt (path_cmp q x.0)) (below_all path_cmp q (xs ++ ys)) h)
    (below-front q xs ys (second_of_both (is_lt (path_cmp q x.0)) (below_all path_cmp q (xs ++ ys)) h))

pub sorted-front : (xs ys : Rows) → T (is_sorted path_cmp (xs ++ ys)) → T (is_sorted path_cmp xs)
sorted-front [] ys h = tt
sorted-front (x ∷ xs) ys h =
    both (below_all path_cmp x.0 xs) (is_sorted path_cmp xs)
    (below-front x.0 xs ys (first_of_both (below_all path_cmp x.0 (xs ++ ys)) (is_sorted path_cmp (xs ++ ys)) h))
    (sorted-front xs ys (second_of_both (below_all path_cmp x.0 (xs ++ ys)) (is_sorted path_cmp (xs ++ ys)) h))

pub sorted-back : (xs ys : Rows) → T (is_sorted path_cmp (xs ++ ys)) → T (is_sorted path_cmp ys)
sorted-back [] ys h = h
sorted-back (x ∷ xs) ys h = sorted-back xs ys (second_of_both (below_all path_cmp x.0 (xs ++ ys)) (is_sorted path_cmp (xs ++ ys)) h)

below-step : (st : PathStep) (x : Path) (rows : Rows) → T (below_all path_cmp (st ∷ x) (with_step st rows)) → T (below_all path_cmp x rows)
below-step st x [] h = tt
below-step st x (row ∷ rows) h =
    both (is_lt (path_cmp x row.0)) (below_all path_cmp x rows)
    (subst (λ (o : Ordering). T (is_lt o)) (same_step st x row.0) (first_of_both (is_lt (path_cmp (st ∷ x) (st ∷ row.0))) (below_all path_cmp (st ∷ x) (with_step st rows)) h))
    (below-step st x rows (second_of_both (is_lt (path_cmp (st ∷ x) (st ∷ row.0))) (below_all path_cmp (st ∷ x) (with_step st rows)) h))

pub sorted-step : (st : PathStep) (rows : Rows) → T (is_sorted path_cmp (with_step st rows)) → T (is_sorted path_cmp rows)
sorted-step st [] h = tt
sorted-step st (row ∷ rows) h =
    both (below_all path_cmp row.0 rows) (is_sorted path_cmp rows)
    (below-step st row.0 rows (first_of_both (below_all path_cmp (st ∷ row.0) (with_step st rows)) (is_sorted path_cmp (with_step st rows)) h))
    (sorted-step st rows (second_of_both (below_all path_cmp (st ∷ row.0) (with_step st rows)) (is_sorted path_cmp (with_step st rows)) h))

-- How much there is

abbrev pub weight : Rows → ℕ
weight [] = 0
weight (row ∷ rows) = suc (length row.0) + weight rows

weight-append : (xs ys : Rows) → weight (xs ++ ys) ≡ weight xs + weight ys
weight-append [] ys = omega arith
weight-append (x ∷ xs) ys = let rec = weight-append xs ys in omega (arith, rec)

weight-step : (st : PathStep) (rows : Rows) → weight (with_step st rows) ≡ length rows + weight rows
weight-step st [] = omega arith
weight-step st (row ∷ rows) = let rec = weight-step st rows in omega (arith, rec)

pub weight-parted : (st : PathStep) (inner later : Rows) → weight (with_step st inner ++ later) ≡ (length inner + weight inner) + weight later
weight-parted st inner later = weight-append (with_step st inner) later ∙ ap (λ n. n + weight later) (weight-step st inner)

-- Parting

-- the first step of the path is greater
abbrev pub is_after : PathStep → Path → Bool
is_after st [] = false
is_after st (step ∷ later) = is_lt (step_cmp st step)

abbrev pub AreAfter : PathStep → Rows → Type 0
AreAfter st rows = (p : Path) → is_some (look rows p) ≡ true → is_after st p ≡ true

-- rows that begin with a step, and then those whose first step is greater
pub record Parted (st : PathStep) (rows : Rows) : Type 0 where
  pub inner : Rows
  pub later : Rows
  pub whole : rows ≡ with_step st inner ++ later
  pub after : AreAfter st later

beyond : (st step other : PathStep) (r : Ordering) → step_cmp st step ≡ Less → ordering_then (step_cmp step other) r ≡ Less → is_lt (step_cmp st other) ≡ true
beyond st step other r first h = on (step_cmp step other) refl h
  where
    on : (o : Ordering) → step_cmp step other ≡ o → ordering_then o r ≡ Less → is_lt (step_cmp st other) ≡ true
    on Less is h = ap is_lt (step_cmp_total.trans st step other first is)
    on Equal is h = ap is_lt (sym (alike_right step_cmp_total step other st is) ∙ first)
    on Greater is h = absurd (false≢true (ap is_lt h))

after_first : (st step : PathStep) (rest : Path) (it : Item) (rows : Rows) → step_cmp st step ≡ Less → T (below_all path_cmp (step ∷ rest) rows)
    → AreAfter st ((step ∷ rest, it) ∷ rows)
after_first st step rest it rows first above p h = on (eq_by_cmp path_cmp p (step ∷ rest)) refl h
  where
    behind : (q : Path) → path_cmp (step ∷ rest) q ≡ Less → is_after st q ≡ true
    behind [] less = absurd (false≢true (ap is_lt less))
    behind (other ∷ x) less = beyond st step other (path_cmp rest x) first less

    on : (t : Bool) → eq_by_cmp path_cmp p (step ∷ rest) ≡ t → is_some (cond t (Some it) (look rows p)) ≡ true → is_after st p ≡ true
    on true is h = subst (λ (x : Path). is_after st x ≡ true) (sym (same_path p (step ∷ rest) is)) (ap is_lt first)
    on false is h = behind p (look-above (step ∷ rest) rows p above h)

pub part : (st : PathStep) (x : Path) (rows : Rows) → T (below_all path_cmp (st ∷ x) rows) → T (is_sorted path_cmp rows) → Parted st rows
part st x [] above sorted = record { inner = []; later = []; whole = refl; after = λ p h. absurd (false≢true h) }
part st x (([], it) ∷ rows) above sorted = absurd above
part st x ((step ∷ rest, it) ∷ rows) above sorted =
    on (step_cmp st step) refl (first_of_both (is_lt (path_cmp (st ∷ x) (step ∷ rest))) (below_all path_cmp (st ∷ x) rows) above)
    (part st x rows (second_of_both (is_lt (path_cmp (st ∷ x) (step ∷ rest))) (below_all path_cmp (st ∷ x) rows) above)
    (second_of_both (below_all path_cmp (step ∷ rest) rows) (is_sorted path_cmp rows) sorted))
  where
    on : (o : Ordering) → step_cmp st step ≡ o → T (is_lt (ordering_then o (path_cmp x rest))) → Parted st rows → Parted st ((step ∷ rest, it) ∷ rows)
    on Less is h rec = record {
      inner = [];
      later = (step ∷ rest, it) ∷ rows;
      whole = refl;
      after = after_first st step rest it rows is (first_of_both (below_all path_cmp (step ∷ rest) rows) (is_sorted path_cmp rows) sorted);
    }
    on Equal is h rec = record {
      inner = (rest, it) ∷ rec.inner;
      later = rec.later;
      whole = ap (λ (u : PathStep). (u ∷ rest, it) ∷ rows) (sym (step_tied st step is)) ∙ ap (λ (r : Rows). (st ∷ rest, it) ∷ r) rec.whole;
      after = rec.after;
    }
    on Greater is h rec = absurd h

-- Looking among parted rows

-- an entry on the way to a path begins with the path's first step
pub way-first : (st : PathStep) (w p : Path) → IsWay w p → is_after st w ≡ is_after st p
way-first st [] p way = absurd (false≢true way.keyed)
way-first st (a ∷ w) [] way = absurd (omega (arith, way.shorter))
way-first st (a ∷ w) (b ∷ x) way = ap (λ (u : PathStep). is_lt (step_cmp st u)) (first_is a b w (take (length w) x) way.begins)

-- with one step more before both, it is still on the way
pub way-step : (st : PathStep) (w p : Path) → IsWay w p → IsWay (st ∷ w) (st ∷ p)
way-step st [] p way = absurd (false≢true way.keyed)
way-step st (a ∷ w) p way = record {
  shorter = omega (arith, way.shorter);
  begins = ap (λ (x : Path). st ∷ x) way.begins;
  keyed = way.keyed;
}

module _ (st : PathStep) (inner later : Rows) (after : AreAfter st later) where
  pub look-later : (p : Path) → is_after st p ≡ true → look (with_step st inner ++ later) p ≡ look later p
  look-later [] h = absurd (false≢true h)
  look-later (step ∷ x) h =
      look-append (with_step st inner) later (step ∷ x)
      ∙ ap (λ (o : Option Item). option_or o (look later (step ∷ x))) (look-other st step inner x (apart (step_cmp st step) refl h))
    where
      apart : (o : Ordering) → step_cmp st step ≡ o → is_lt o ≡ true → is_eq (step_cmp step st) ≡ false
      apart Less is h = ap is_eq (step_cmp_total.antisymm step st ∙ ap ordering_reverse is)
      apart Equal is h = absurd (false≢true h)
      apart Greater is h = absurd (false≢true h)

  pub look-inner : (x : Path) → look (with_step st inner ++ later) (st ∷ x) ≡ look inner x
  look-inner x =
      look-append (with_step st inner) later (st ∷ x)
      ∙ ap (λ (o : Option Item). option_or o (look later (st ∷ x))) (look-step st inner x)
      ∙ ap (λ (o : Option Item). option_or (look inner x) o) (none_from (look later (st ∷ x)) (λ some. false≢true (sym (ap is_lt (tied_itself step_cmp_total st)) ∙ after (st ∷ x) some)))
      ∙ or_none (look inner x)
