-- The rows of a configuration, and what is found at their paths.
use Rattle.std.proofs.Common.{◌≡◌, ◌≢◌, inl, inr, Bool, true, false, cond, List, [], ◌∷◌, Some, refl, sym, ap, ◌∙◌, is_some}
use Rattle.std.specs.declared.option.Option.{Option}
use Rattle.std.specs.Ordering.{eq_by_cmp, is_eq, is_lt, ordering_reverse}
use Rattle.std.specs.declared.cmp.Ordering.TheVariants.{Less}
use Rattle.std.specs.Cmp.Lexicographic.{bytes_decides}
use Rattle.std.specs.FinMap.{get, entries, find, is_sorted, entries_sorted, get-entries}
use Rattle.std.specs.FinMap.Entries.{below_all}
use Rattle.std.proofs.lemmas.Bool.{false≢true, and_parts}
use Rattle.std.proofs.lemmas.Option.{same_Some}
use Rattle.orc_path.specs.Steps.{PathStep}
use Rattle.orc_path.specs.Order.{path_cmp}
use Rattle.orc_path.specs.Configurations.{Config}
use Rattle.orc_path.specs.declared.item.Item.{Item}
use Rattle.orc_path.specs.declared.item.Item.TheVariants as item
use Rattle.orc_path.proofs.PathOrder.{path_cmp_total}
use Rattle.orc_path.proofs.ConfigurationLaws.{same_path, path_ties}
use Rattle.orc_tree.proofs.InOrder.{T_is_true}
use Rattle.orc_tree.proofs.Pieces.{lt_is}
use Rattle.orc_change.specs.Differences.{has_item}
use Rattle.orc_change.proofs.Exact.{has_item_is}
use Rattle.orc_revalidate.specs.inside.Looked.{has_row}
use Rattle.orc_revalidate.proofs.Members.{In}

abbrev pub Path : Type 0
Path = List PathStep

abbrev pub Row : Type 0
Row = Path × Item

found_in : (rows : List Row) (q : Path) (x : Item) → find path_cmp q rows ≡ Some x → In rows (q, x)
found_in [] q x h = absurd (false≢true (ap is_some h))
found_in (row ∷ rows) q x h = on (eq_by_cmp path_cmp q row.0) refl h (found_in rows q x)
  where
    on : (b : Bool) → eq_by_cmp path_cmp q row.0 ≡ b → cond b (Some row.1) (find path_cmp q rows) ≡ Some x
        → (find path_cmp q rows ≡ Some x → In rows (q, x)) → In (row ∷ rows) (q, x)
    on true is e later =
        let path : row.0 ≡ q = sym (same_path q row.0 is) in
        let item : row.1 ≡ x = same_Some row.1 x e in
        inl (λ i. (path i, item i))
    on false is e later = inr (later e)

below_in : (p : Path) (rows : List Row) (row : Row) → below_all path_cmp p rows ≡ true → In rows row → is_lt (path_cmp p row.0) ≡ true
below_in p [] row below h = absurd h
below_in p (r ∷ rows) row below (inl e) =
    ap (λ (x : Row). is_lt (path_cmp p x.0)) (sym e) ∙ (and_parts (is_lt (path_cmp p r.0)) (below_all path_cmp p rows) below).0
below_in p (r ∷ rows) row below (inr h) = below_in p rows row (and_parts (is_lt (path_cmp p r.0)) (below_all path_cmp p rows) below).1 h

in_found : (rows : List Row) (row : Row) → is_sorted path_cmp rows ≡ true → In rows row → find path_cmp row.0 rows ≡ Some row.1
in_found [] row sorted h = absurd h
in_found (r ∷ rows) row sorted (inl e) =
    ap (λ b. cond b (Some r.1) (find path_cmp row.0 rows)) (path_ties row.0 r.0 (ap (λ (x : Row). x.0) (sym e))) ∙ ap (λ (x : Row). Some x.1) e
in_found (r ∷ rows) row sorted (inr h) =
    let parts = and_parts (below_all path_cmp r.0 rows) (is_sorted path_cmp rows) sorted in
    let less : path_cmp r.0 row.0 ≡ Less = lt_is (path_cmp r.0 row.0) (below_in r.0 rows row parts.0 h) in
    let apart : eq_by_cmp path_cmp row.0 r.0 ≡ false = ap is_eq (path_cmp_total.antisymm row.0 r.0 ∙ ap ordering_reverse less) in
    ap (λ b. cond b (Some r.1) (find path_cmp row.0 rows)) apart ∙ in_found rows row parts.1 h

pub in_order : (c : Config) → is_sorted path_cmp (entries c) ≡ true
in_order c = T_is_true (is_sorted path_cmp (entries c)) (entries_sorted c)

-- what is found is a row
pub row_in : (c : Config) (q : Path) (x : Item) → get c q ≡ Some x → In (entries c) (q, x)
row_in c q x h = found_in (entries c) q x (sym (get-entries c q) ∙ h)

-- and a row is found
pub row_found : (c : Config) (row : Row) → In (entries c) row → get c row.0 ≡ Some row.1
row_found c row h = get-entries c row.0 ∙ in_found (entries c) row (in_order c) h

had_item : (o : Option Item) (x : Item) → o ≡ Some x → has_item o x ≡ true
had_item o item.Entry e = ap (λ (p : Option Item). has_item p item.Entry) e
had_item o (item.Leaf t) e = ap (λ (p : Option Item). has_item p (item.Leaf t)) e ∙ (bytes_decides t t).1 refl

-- a configuration has its rows, and only these
pub had : (c : Config) (row : Row) → In (entries c) row → has_row c row ≡ true
had c row h = had_item (get c row.0) row.1 (row_found c row h)

pub has : (c : Config) (row : Row) → has_row c row ≡ true → In (entries c) row
has c row h = row_in c row.0 row.1 (has_item_is (get c row.0) row.1 h)

-- a row that one of two configurations has alone shows that they differ at its path
pub differs : (old new : Config) (row : Row) → In (entries new) row → has_row old row ≡ false → get old row.0 ≢ get new row.0
differs old new row h lacks same = false≢true (sym lacks ∙ had_item (get old row.0) row.1 (same ∙ row_found new row h))
