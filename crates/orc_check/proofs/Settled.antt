-- Rows stand in path order, so the least breach is one of the first row that has any.
use Rattle.std.proofs.Common.{◌≡◌, ℕ, Bool, true, false, not, List, [], ◌∷◌, ◌++◌, refl, sym, ap, subst, ◌∙◌}
use Rattle.std.specs.Prelude.{Option, Some, None, is_some, if◌then◌else◌}
use Rattle.std.specs.List.{fold, flat_map, list_any}
use Rattle.std.specs.Ordering.{is_lt, ordering_reverse, ordering_then, nat_cmp}
use Rattle.std.specs.declared.cmp.Ordering.{Ordering}
use Rattle.std.specs.declared.cmp.Ordering.TheVariants.{Less, Equal, Greater}
use Rattle.std.specs.FinMap.{is_sorted, entries, entries_sorted}
use Rattle.std.specs.FinMap.Entries.{below_all}
use Rattle.std.proofs.lemmas.Bool.{false≢true, and_parts}
use Rattle.std.proofs.lemmas.List.Sums.{fold-append}
use Rattle.orc_path.specs.Steps.{PathStep}
use Rattle.orc_path.specs.Order.{path_cmp}
use Rattle.orc_path.specs.Configurations.{Config}
use Rattle.orc_path.specs.declared.item.Item.{Item}
use Rattle.orc_path.proofs.PathOrder.{path_cmp_total}
use Rattle.orc_tree.proofs.InOrder.{T_is_true}
use Rattle.orc_tree.proofs.Maps.{Rows}
use Rattle.orc_schema_nodes.specs.Schemas.{SchemaTable}
use Rattle.orc_check.specs.declared.found.Found.{Found}
use Rattle.orc_check.specs.Found.{found_breach}
use Rattle.orc_check.specs.Validity.{Breach, breach_cmp, breach_if, is_of_kind, has_canonical_last_keys, lacks_instance, values_of, row_breaches, lesser_breach}
use Rattle.orc_check.specs.declared.rules.TheConstants.{KIND, KEY, LEAFREF}

-- ---- the best is at one path

abbrev IsAt : List PathStep → Option Breach → Type 0
IsAt path None = Unit {0}
IsAt path (Some b) = b.path ≡ path

stays_at : (path : List PathStep) (best : Option Breach) (broken : Bool) (rule : ℕ) → IsAt path best → IsAt path (fold lesser_breach best (breach_if broken path rule))
stays_at path best false rule at = at
stays_at path None true rule at = refl
stays_at path (Some a) true rule at = on (is_lt (breach_cmp (record { path = path; rule = rule }) a))
  where
    on : (b : Bool) → IsAt path (if b then Some (record { path = path; rule = rule }) else Some a)
    on true = refl
    on false = at

-- ---- what is at a later path isn't less

is_less : (o : Ordering) → is_lt o ≡ true → o ≡ Less
is_less Less h = refl
is_less Equal h = absurd (false≢true h)
is_less Greater h = absurd (false≢true h)

behind : (p q : List PathStep) → is_lt (path_cmp p q) ≡ true → path_cmp q p ≡ Greater
behind p q h = path_cmp_total.antisymm q p ∙ ap ordering_reverse (is_less (path_cmp p q) h)

keeps : (a : Breach) (broken : Bool) (path : List PathStep) (rule : ℕ) → path_cmp path a.path ≡ Greater
    → fold lesser_breach (Some a) (breach_if broken path rule) ≡ Some a
keeps a false path rule h = refl
keeps a true path rule h = ap (λ o. if is_lt (ordering_then o (nat_cmp rule a.rule)) then Some (record { path = path; rule = rule }) else Some a) h

module _ (s : SchemaTable) (c : Config) where
  row_is_at : (row : List PathStep × Item) → IsAt row.0 (fold lesser_breach None (row_breaches s c row))
  row_is_at row = three row.0 (not (is_of_kind s row)) (not (has_canonical_last_keys s row.0)) (list_any (lacks_instance s c row.0) (values_of s row)) KIND KEY LEAFREF
    where
      three : (path : List PathStep) (x y z : Bool) (k l m : ℕ)
          → IsAt path (fold lesser_breach None (breach_if x path k ++ (breach_if y path l ++ breach_if z path m)))
      three path x y z k l m =
          let first = fold lesser_breach None (breach_if x path k) in
          let second = fold lesser_breach first (breach_if y path l) in
          subst (IsAt path)
          (sym (fold-append lesser_breach None (breach_if x path k) (breach_if y path l ++ breach_if z path m)
          ∙ fold-append lesser_breach first (breach_if y path l) (breach_if z path m)))
          (stays_at path second z m (stays_at path first y l (stays_at path None x k tt)))

  row_keeps : (a : Breach) (row : List PathStep × Item) → path_cmp row.0 a.path ≡ Greater → fold lesser_breach (Some a) (row_breaches s c row) ≡ Some a
  row_keeps a row h =
      three row.0 h (not (is_of_kind s row)) (not (has_canonical_last_keys s row.0)) (list_any (lacks_instance s c row.0) (values_of s row)) KIND KEY LEAFREF
    where
      three : (path : List PathStep) → path_cmp path a.path ≡ Greater → (x y z : Bool) (k l m : ℕ)
          → fold lesser_breach (Some a) (breach_if x path k ++ (breach_if y path l ++ breach_if z path m)) ≡ Some a
      three path h x y z k l m =
          fold-append lesser_breach (Some a) (breach_if x path k) (breach_if y path l ++ breach_if z path m)
          ∙ ap (λ (o : Option Breach). fold lesser_breach o (breach_if y path l ++ breach_if z path m)) (keeps a x path k h)
          ∙ fold-append lesser_breach (Some a) (breach_if y path l) (breach_if z path m)
          ∙ ap (λ (o : Option Breach). fold lesser_breach o (breach_if z path m)) (keeps a y path l h)
          ∙ keeps a z path m h

  rows_keep : (a : Breach) (rows : Rows) → below_all path_cmp a.path rows ≡ true → fold lesser_breach (Some a) (flat_map (row_breaches s c) rows) ≡ Some a
  rows_keep a [] h = refl
  rows_keep a (row ∷ rows) h =
      let parts = and_parts (is_lt (path_cmp a.path row.0)) (below_all path_cmp a.path rows) h in
      fold-append lesser_breach (Some a) (row_breaches s c row) (flat_map (row_breaches s c) rows)
      ∙ ap (λ (o : Option Breach). fold lesser_breach o (flat_map (row_breaches s c) rows)) (row_keeps a row (behind a.path row.0 parts.0))
      ∙ rows_keep a rows parts.1

  -- a row that breaks anything settles the least of it and of the rows after it
  pub settled : (row : List PathStep × Item) (rows : Rows) (best : Option Breach) → is_sorted path_cmp (row ∷ rows) ≡ true
      → best ≡ fold lesser_breach None (row_breaches s c row) → is_some best ≡ true
      → best ≡ fold lesser_breach None (flat_map (row_breaches s c) (row ∷ rows))
  settled row rows None sorted e some = absurd (false≢true some)
  settled row rows (Some a) sorted e some =
      let parts = and_parts (below_all path_cmp row.0 rows) (is_sorted path_cmp rows) sorted in
      let at : a.path ≡ row.0 = subst (IsAt row.0) (sym e) (row_is_at row) in
      sym (fold-append lesser_breach None (row_breaches s c row) (flat_map (row_breaches s c) rows)
      ∙ ap (λ (o : Option Breach). fold lesser_breach o (flat_map (row_breaches s c) rows)) (sym e)
      ∙ rows_keep a rows (ap (λ (p : List PathStep). below_all path_cmp p rows) at ∙ parts.0))

  -- one that breaks nothing leaves it to these
  pub passed : (row : List PathStep × Item) (rows : Rows) (best : Option Breach) → best ≡ fold lesser_breach None (row_breaches s c row) → is_some best ≡ false
      → fold lesser_breach None (flat_map (row_breaches s c) (row ∷ rows)) ≡ fold lesser_breach None (flat_map (row_breaches s c) rows)
  passed row rows (Some a) e some = absurd (false≢true (sym some))
  passed row rows None e some =
      fold-append lesser_breach None (row_breaches s c row) (flat_map (row_breaches s c) rows)
      ∙ ap (λ (o : Option Breach). fold lesser_breach o (flat_map (row_breaches s c) rows)) (sym e)

pub found_some : (best : Option Found) → is_some best ≡ true → is_some (found_breach best) ≡ true
found_some None h = h
found_some (Some found) h = refl

pub in_order : (c : Config) → is_sorted path_cmp (entries c) ≡ true
in_order c = T_is_true _ (entries_sorted c)
