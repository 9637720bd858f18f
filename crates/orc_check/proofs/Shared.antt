-- Rows that begin with the same steps stand together, and a value of a leafref's target is one of those that share.
use Rattle.std.proofs.Common.{◌≡◌, ℕ, zero, suc, Bool, true, false, not, List, [], ◌∷◌, ◌++◌, take, refl, sym, ap, subst, ◌∙◌}
use Rattle.std.specs.Ordering.{is_lt, is_gt}
use Rattle.std.specs.declared.cmp.Ordering.{Ordering}
use Rattle.std.specs.declared.cmp.Ordering.TheVariants.{Less, Equal, Greater}
use Rattle.std.specs.Cmp.{tied_itself}
use Rattle.std.specs.List.{list_any}
use Rattle.std.specs.FinMap.{is_sorted}
use Rattle.std.specs.FinMap.Entries.{below_all}
use Rattle.std.proofs.lemmas.Bool.{false≢true, and_parts, and_from, or_from}
use Rattle.orc_path.specs.Steps.{PathStep}
use Rattle.orc_path.specs.Order.{path_cmp, step_cmp, step_eq, is_prefix}
use Rattle.orc_path.specs.declared.item.Item.{Item}
use Rattle.orc_path.proofs.PathOrder.{step_cmp_total}
use Rattle.orc_path.proofs.Equality.{step_eq_decides, path_eq_decides}
use Rattle.orc_tree.specs.inside.Places.{above_all}
use Rattle.orc_tree.proofs.Maps.{Rows}
use Rattle.orc_tree.proofs.Listing.{then_equal, then_up_to, same_step}
use Rattle.orc_schema_nodes.specs.Schemas.{SchemaTable}
use Rattle.orc_schema_nodes.specs.declared.line.Target.{Target}
use Rattle.orc_check.specs.Validity.{shares, is_value_of, values_of, row_has}
use Rattle.orc_check.specs.inside.Sharing.{begins_past}

not_true : (b : Bool) → (b ≡ true → ⊥) → b ≡ false
not_true true f = absurd (f refl)
not_true false f = refl

less_up : (o : Ordering) → is_lt o ≡ true → is_gt o ≡ false
less_up Less h = refl
less_up Equal h = refl
less_up Greater h = absurd (false≢true h)

level : (s t : PathStep) → s ≡ t → step_cmp s t ≡ Equal
level s t e = ap (λ (x : PathStep). step_cmp s x) (sym e) ∙ tied_itself step_cmp_total s

-- a path that begins with others isn't less than these
not_above : (steps p : List PathStep) → is_prefix steps p ≡ true → is_gt (path_cmp steps p) ≡ false
not_above [] [] h = refl
not_above [] (x ∷ xs) h = refl
not_above (s ∷ ss) [] h = absurd (false≢true h)
not_above (s ∷ ss) (t ∷ ts) h =
    let parts = and_parts (step_eq s t) (is_prefix ss ts) h in
    ap is_gt (then_equal (step_cmp s t) (path_cmp ss ts) (level s t ((step_eq_decides s t).0 parts.0))) ∙ not_above ss ts parts.1

-- what stands between steps and a path that begins with them begins with them too
begins_between : (w r p : List PathStep) → is_prefix w p ≡ true → is_gt (path_cmp w r) ≡ false → is_gt (path_cmp r p) ≡ false → is_prefix w r ≡ true
begins_between [] r p h a b = refl
begins_between (s ∷ ss) [] p h a b = absurd (false≢true (sym a))
begins_between (s ∷ ss) (t ∷ ts) [] h a b = absurd (false≢true h)
begins_between (s ∷ ss) (t ∷ ts) (u ∷ us) h a b =
    let parts = and_parts (step_eq s u) (is_prefix ss us) h in
    let is : s ≡ u = (step_eq_decides s u).0 parts.0 in
    let down : is_gt (step_cmp t s) ≡ false = subst (λ (x : PathStep). is_gt (step_cmp t x) ≡ false) (sym is) (then_up_to (step_cmp t u) (path_cmp ts us) b) in
    let same : s ≡ t = same_step s t (then_up_to (step_cmp s t) (path_cmp ss ts) a) down in
    and_from (step_eq s t) (is_prefix ss ts) ((step_eq_decides s t).1 same)
    (begins_between ss ts us parts.1 (sym (ap is_gt (then_equal (step_cmp s t) (path_cmp ss ts) (level s t same))) ∙ a)
    (sym (ap is_gt (then_equal (step_cmp t u) (path_cmp ts us) (level t u (sym same ∙ is)))) ∙ b))

begins_take : (n : ℕ) (p : List PathStep) → is_prefix (take n p) p ≡ true
begins_take zero p = refl
begins_take (suc n) [] = refl
begins_take (suc n) (x ∷ xs) = and_from (step_eq x x) (is_prefix (take n xs) xs) ((step_eq_decides x x).1 refl) (begins_take n xs)

-- a row that has a value of the target begins with the steps that are shared
pub row_begins : (s : SchemaTable) (target : Target) (text : List ℕ) (path : List PathStep) (row : List PathStep × Item) → row_has s target text path row ≡ true
    → is_prefix (take target.shared path) row.0 ≡ true
row_begins s target text path row h =
    let parts = and_parts (shares target.shared row.0 path) (list_any (is_value_of target.names text) (values_of s row)) h in
    subst (λ (p : List PathStep). is_prefix p row.0 ≡ true) ((path_eq_decides (take target.shared row.0) (take target.shared path)).0 parts.0) (begins_take target.shared row.0)

module _ (f : (List PathStep × Item) → Bool) (steps : List PathStep) (only : (row : List PathStep × Item) → f row ≡ true → is_prefix steps row.0 ≡ true) where
  pub none_above : (rows : Rows) → above_all steps rows ≡ true → list_any f rows ≡ false
  none_above [] h = refl
  none_above (row ∷ rows) h =
      let parts = and_parts (is_gt (path_cmp steps row.0)) (above_all steps rows) h in
      or_from (f row) (list_any f rows) (not_true (f row) (λ e. false≢true (sym (not_above steps row.0 (only row e)) ∙ parts.0))) (none_above rows parts.1)

  none_further : (row : List PathStep × Item) (rows : Rows) → is_lt (path_cmp steps row.0) ≡ true → is_prefix steps row.0 ≡ false → below_all path_cmp row.0 rows ≡ true → list_any f rows ≡ false
  none_further row [] l u h = refl
  none_further row (next ∷ rows) l u h =
      let parts = and_parts (is_lt (path_cmp row.0 next.0)) (below_all path_cmp row.0 rows) h in
      or_from (f next) (list_any f rows)
      (not_true (f next) (λ e. false≢true (sym u ∙ begins_between steps row.0 next.0 (only next e) (less_up _ l) (less_up _ parts.0))))
      (none_further row rows l u parts.1)

  pub none_past : (rows more : Rows) → begins_past steps rows ≡ true → is_sorted path_cmp (rows ++ more) ≡ true → list_any f (rows ++ more) ≡ false
  none_past [] more past s = absurd (false≢true past)
  none_past (row ∷ rows) more past s =
      let parts = and_parts (is_lt (path_cmp steps row.0)) (not (is_prefix steps row.0)) past in
      let behind = and_parts (below_all path_cmp row.0 (rows ++ more)) (is_sorted path_cmp (rows ++ more)) s in
      let off : is_prefix steps row.0 ≡ false = not_not (is_prefix steps row.0) parts.1 in
      or_from (f row) (list_any f (rows ++ more)) (not_true (f row) (λ e. false≢true (sym off ∙ only row e))) (none_further row (rows ++ more) parts.0 off behind.0)
    where
      not_not : (b : Bool) → not b ≡ true → b ≡ false
      not_not true h = absurd (false≢true h)
      not_not false h = refl
