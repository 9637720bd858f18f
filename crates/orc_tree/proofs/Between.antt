-- What stands between a path and one that begins with it.
use Rattle.std.proofs.Common.{◌≡◌, ◌≢◌, ℕ, zero, suc, ◌+◌, ◌<◌, Bool, true, false, ◌||◌, List, [], ◌∷◌, ◌++◌, length, take, get_or, Some, refl, sym, ap, subst, ◌∙◌, arith, add-one, append-nil}
use Rattle.std.specs.declared.option.Option.{Option}
use Rattle.std.specs.declared.option.Option.TheVariants.{None}
use Rattle.std.specs.Option.{is_some, is_none}
use Rattle.std.specs.List.{list_all}
use Rattle.std.specs.Ordering.{is_lt, is_gt}
use Rattle.std.specs.declared.cmp.Ordering.{Ordering}
use Rattle.std.specs.declared.cmp.Ordering.TheVariants.{Less, Equal, Greater}
use Rattle.std.specs.Cmp.{tied_itself}
use Rattle.std.specs.FinMap.{get, find, is_sorted}
use Rattle.std.proofs.lemmas.Bool.{false≢true, and_parts, and_from}
use Rattle.std.proofs.lemmas.List.{length-append, length-take-le, take_at, take-append-drop}
use Rattle.orc_path.specs.Steps.{PathStep, ends_in_keys}
use Rattle.orc_path.specs.Order.{path_cmp, step_cmp, step_eq, is_prefix}
use Rattle.orc_path.proofs.PathOrder.{path_cmp_total, path_cmp_exact, step_cmp_total}
use Rattle.orc_path.proofs.Prefixes.{ends_in_keys-take}
use Rattle.orc_path.specs.Configurations.{IsWay, IsConfig, is_entry, has_keys_at}
use Rattle.orc_path.specs.declared.item.Item.{Item}
use Rattle.orc_path.proofs.Equality.{step_eq_decides}
use Rattle.orc_path.proofs.Extensions.{is_prefix_rest, is_prefix-append, path_cmp-extension}
use Rattle.std.proofs.lemmas.List.Elements.{All-push}
use Rattle.orc_tree.specs.inside.Puts.{none_between, AreGaps}
use Rattle.orc_tree.proofs.InOrder.{is_true_T, find_here, turned_by}
use Rattle.orc_tree.proofs.Answered.{there}
use Rattle.orc_tree.proofs.Maps.{Rows, map_of, get-of_rows}
use Rattle.orc_tree.proofs.Listing.{then_equal, then_up_to, same_step}

-- between a path and one that begins with it, each path begins with it
pub prefix_between : (w r p : List PathStep) → is_prefix w p ≡ true → is_gt (path_cmp w r) ≡ false → is_gt (path_cmp r p) ≡ false → is_prefix w r ≡ true
prefix_between [] r p h a b = refl
prefix_between (s ∷ ss) [] p h a b = absurd (false≢true (sym a))
prefix_between (s ∷ ss) (t ∷ ts) [] h a b = absurd (false≢true h)
prefix_between (s ∷ ss) (t ∷ ts) (u ∷ us) h a b =
    let parts = and_parts (step_eq s u) (is_prefix ss us) h in
    let is : s ≡ u = (step_eq_decides s u).0 parts.0 in
    let down : is_gt (step_cmp t s) ≡ false = subst (λ (x : PathStep). is_gt (step_cmp t x) ≡ false) (sym is) (then_up_to _ _ b) in
    let same : s ≡ t = same_step s t (then_up_to _ _ a) down in
    let level : step_cmp s t ≡ Equal = subst (λ (x : PathStep). step_cmp s x ≡ Equal) same (tied_itself step_cmp_total s) in
    let level_on : step_cmp t u ≡ Equal = subst (λ (x : PathStep). step_cmp x u ≡ Equal) same (subst (λ (x : PathStep). step_cmp s x ≡ Equal) is (tied_itself step_cmp_total s)) in
    and_from _ _ ((step_eq_decides s t).1 same)
    (prefix_between ss ts us parts.1 (sym (ap is_gt (then_equal _ _ level)) ∙ a) (sym (ap is_gt (then_equal _ _ level_on)) ∙ b))

unlike : (o : Ordering) → o ≡ Less → o ≡ Equal → ⊥
unlike o l e = cc

-- a path that ends in keys is a way of those that go on after it
pub is_way : (w r : List PathStep) → is_prefix w r ≡ true → path_cmp w r ≡ Less → ends_in_keys w ≡ true → IsWay w r
is_way w r h l k =
    let more = is_prefix_rest w r h in
    record {
      shorter = subst (λ (x : List PathStep). length w < length x) (sym more.1) (longer more.0 more.1);
      begins = sym (ap (take (length w)) more.1 ∙ take_at w more.0 (length w) refl);
      keyed = k;
    }
  where
    longer : (rest : List PathStep) → r ≡ w ++ rest → length w < length (w ++ rest)
    longer [] e = absurd (unlike (path_cmp w r) l (subst (λ (x : List PathStep). path_cmp w x ≡ Equal) (sym (e ∙ append-nil w)) (tied_itself path_cmp_total w)))
    longer (s ∷ ss) e = omega (arith, length-append w (s ∷ ss))

pub is_prefix-take : (n : ℕ) (p : List PathStep) → is_prefix (take n p) p ≡ true
is_prefix-take n p = ap (is_prefix (take n p)) (sym (take-append-drop n p)) ∙ is_prefix-append (take n p) _

-- a row's path is found
pub present : (rows : Rows) (k : ℕ) (d : List PathStep × Item) → is_sorted path_cmp rows ≡ true → k < length rows → is_some (find path_cmp (get_or rows k d).0 rows) ≡ true
present rows k d s l =
    ap is_some (find_here path_cmp path_cmp_total (get_or rows k d).0 rows k (is_true_T _ s) l (λ e. ap (λ (row : List PathStep × Item). row.0) (same_at rows k e d l)))
    ∙ there (λ (e : List PathStep × Item). e.1) rows k l
  where
    same_at : (rows : Rows) (k : ℕ) (d e : List PathStep × Item) → k < length rows → get_or rows k d ≡ get_or rows k e
    same_at [] k d e l = absurd (omega arith)
    same_at (row ∷ rows) zero d e l = refl
    same_at (row ∷ rows) (suc k) d e l = same_at rows k d e (omega arith)

all_pass : {X : Type 0} (test : X → Bool) (xs : List X) → ((k : ℕ) (d : X) → k < length xs → test (get_or xs k d) ≡ true) → list_all test xs ≡ true
all_pass test [] h = refl
all_pass test (x ∷ xs) h = and_from _ _ (h 0 x (omega arith)) (all_pass test xs (λ k d l. h (suc k) d (omega arith)))

either : (w p r : List PathStep) → ((path_cmp w r ≡ Equal) → ⊥) → (path_cmp w r ≡ Less → is_gt (path_cmp r p) ≡ false → ⊥) → (is_gt (path_cmp w r) || is_lt (path_cmp p r)) ≡ true
either w p r no_tie no_way = on (path_cmp w r) (path_cmp p r) refl refl
  where
    on : (o u : Ordering) → path_cmp w r ≡ o → path_cmp p r ≡ u → (is_gt o || is_lt u) ≡ true
    on Greater u e f = refl
    on Equal u e f = absurd (no_tie e)
    on Less Less e f = refl
    on Less Equal e f = absurd (no_way e (ap is_gt (turned_by path_cmp path_cmp_total p r Equal f)))
    on Less Greater e f = absurd (no_way e (ap is_gt (turned_by path_cmp path_cmp_total p r Greater f)))

absent_here : (o : Option Item) → is_none o ≡ true → is_some o ≡ true → ⊥
absent_here o n s = cc

-- no row stands from a missing entry up to a path that goes on after it
pub missing_gap : (w p : List PathStep) (rows : Rows) → is_sorted path_cmp rows ≡ true → IsConfig (map_of rows) → ends_in_keys w ≡ true → is_prefix w p ≡ true
    → is_none (find path_cmp w rows) ≡ true → none_between w p rows ≡ true
missing_gap w p rows s config keyed before none =
    all_pass (λ (row : List PathStep × Item). is_gt (path_cmp w row.0) || is_lt (path_cmp p row.0)) rows (λ k d l.
    let r = (get_or rows k d).0 in
    let has : is_some (find path_cmp r rows) ≡ true = present rows k d s l in
    either w p r
    (λ tie. absent_here (find path_cmp w rows) none (subst (λ (x : List PathStep). is_some (find path_cmp x rows) ≡ true) (sym (path_cmp_exact w r tie)) has))
    (λ less upto.
    let way : IsWay w r = is_way w r (prefix_between w r p before (ap is_gt less) upto) less keyed in
    let held : is_entry (get (map_of rows) w) ≡ true = config.ways r w (ap is_some (get-of_rows rows r s) ∙ has) way in
    absent_here (find path_cmp w rows) none (some_entry _ (ap is_entry (sym (get-of_rows rows w s)) ∙ held))))
  where
    some_entry : (o : Option Item) → is_entry o ≡ true → is_some o ≡ true
    some_entry None h = absurd (false≢true h)
    some_entry (Some item) h = refl

-- one missing entry more
pub gaps_more : (p : List PathStep) (n : ℕ) (rows : Rows) (w : List PathStep) (found new : List (List PathStep)) → is_sorted path_cmp rows ≡ true → IsConfig (map_of rows)
    → n + 1 < length p → has_keys_at p n ≡ true → is_none (find path_cmp (take (n + 1) p) rows) ≡ true
    → AreGaps p rows found → w ≡ take (n + 1) p → new ≡ found ++ w ∷ [] → AreGaps p rows new
gaps_more p n rows w found new s config l keys none gaps is push =
    let short : length (take (n + 1) p) ≡ n + 1 = length-take-le (n + 1) p (omega arith) in
    let apart : take (n + 1) p ≢ p = λ e. omega (arith, ap length e, short) in
    let keyed : ends_in_keys (take (n + 1) p) ≡ true = rw add-one (ends_in_keys-take p n (omega arith) ∙ keys) in
    let gap : (path_cmp (take (n + 1) p) p ≡ Less) × (none_between (take (n + 1) p) p rows ≡ true) = (
      path_cmp-extension (take (n + 1) p) p (is_prefix-take (n + 1) p) apart,
      missing_gap (take (n + 1) p) p rows s config keyed (is_prefix-take (n + 1) p) none,
    ) in
    subst (λ (x : List (List PathStep)). AreGaps p rows x) (sym push)
    (All-push (λ (x : List PathStep). (path_cmp x p ≡ Less) × (none_between x p rows ≡ true)) found w gaps
    (subst (λ (x : List PathStep). (path_cmp x p ≡ Less) × (none_between x p rows ≡ true)) (sym is) gap))
