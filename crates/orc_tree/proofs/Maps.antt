-- The map that rows in path order stand for.
use Rattle.std.proofs.Common.{◌≡◌, Bool, true, cond, not, List, [], None, sym, ap, subst, ◌∙◌}
use Rattle.std.specs.FinMap.{empty, get, insert, remove, retain_keys, entries, find, put, is_sorted, from_sorted, same_entries_map, entries-from_sorted, entries-insert, get-from_sorted, get-remove, get-retain_keys, get-empty}
use Rattle.std.specs.FinMap.Entries.{where_key, is_sorted-put, is_sorted-where_key, find-where_key}
use Rattle.std.specs.Ordering.{eq_by_cmp}
use Rattle.std.specs.Cmp.{eq_by_cmp_equiv}
use Rattle.orc_path.specs.Steps.{PathStep}
use Rattle.orc_path.specs.Order.{path_cmp}
use Rattle.orc_path.proofs.PathOrder.{path_cmp_total, path_cmp_exact}
use Rattle.orc_path.specs.declared.item.Item.{Item}
use Rattle.orc_path.specs.Configurations.{Config, IsConfig}
use Rattle.orc_path.proofs.ConfigurationLaws.{same_config, IsConfig-empty}
use Rattle.orc_path.proofs.Bools.{not_cond}
use Rattle.orc_tree.proofs.InOrder.{is_true_T, T_is_true}

abbrev pub Rows : Type 0
Rows = List (List PathStep × Item)

abbrev pub map_of : Rows → Config
map_of rows = from_sorted rows

pub map_of-nil : map_of [] ≡ empty
map_of-nil = same_config _ _ (λ q. get-from_sorted path_cmp [] q tt ∙ sym (get-empty path_cmp q))

pub IsConfig-nil : IsConfig (map_of [])
IsConfig-nil = subst IsConfig (sym map_of-nil) IsConfig-empty

pub get-of_rows : (rows : Rows) (q : List PathStep) → is_sorted path_cmp rows ≡ true → get (map_of rows) q ≡ find path_cmp q rows
get-of_rows rows q s = get-from_sorted path_cmp rows q (is_true_T _ s)

pub entries-of_rows : (rows : Rows) → is_sorted path_cmp rows ≡ true → entries (map_of rows) ≡ rows
entries-of_rows rows s = entries-from_sorted path_cmp rows (is_true_T _ s)

pub map_of-put : (rows new : Rows) (q : List PathStep) (v : Item) → is_sorted path_cmp rows ≡ true → is_sorted path_cmp new ≡ true
    → new ≡ put path_cmp q v rows → map_of new ≡ insert (map_of rows) q v
map_of-put rows new q v s t e =
    same_entries_map _ _ (entries-of_rows new t ∙ e ∙ ap (put path_cmp q v) (sym (entries-of_rows rows s)) ∙ sym (entries-insert path_cmp_total (map_of rows) q v))

pub sorted-put : {X : Type 0} (q : List PathStep) (v : X) (rows : List (List PathStep × X)) → is_sorted path_cmp rows ≡ true → is_sorted path_cmp (put path_cmp q v rows) ≡ true
sorted-put q v rows s = T_is_true _ (is_sorted-put path_cmp path_cmp_total q v rows (is_true_T _ s))

pub sorted-where_key : (p : List PathStep → Bool) (rows : Rows) → is_sorted path_cmp rows ≡ true → is_sorted path_cmp (where_key path_cmp p rows) ≡ true
sorted-where_key p rows s = T_is_true _ (is_sorted-where_key path_cmp p rows (is_true_T _ s))

get-where_key : (p : List PathStep → Bool) (rows : Rows) (q : List PathStep) → is_sorted path_cmp rows ≡ true
    → get (map_of (where_key path_cmp p rows)) q ≡ cond (p q) (get (map_of rows) q) None
get-where_key p rows q s =
    get-of_rows (where_key path_cmp p rows) q (sorted-where_key p rows s)
    ∙ find-where_key path_cmp p q (λ x t. ap p (sym (path_cmp_exact q x t))) rows
    ∙ ap (λ o. cond (p q) o None) (sym (get-of_rows rows q s))

pub map_of-where_key : (p : List PathStep → Bool) (rows : Rows) → is_sorted path_cmp rows ≡ true
    → map_of (where_key path_cmp p rows) ≡ retain_keys (map_of rows) p
map_of-where_key p rows s = same_config _ _ (λ q.
    get-where_key p rows q s ∙ sym (get-retain_keys (map_of rows) p q (λ x t. ap p (sym (path_cmp_exact q x t)))))

pub map_of-without : (k : List PathStep) (rows : Rows) → is_sorted path_cmp rows ≡ true
    → map_of (where_key path_cmp (λ x. not (eq_by_cmp path_cmp k x)) rows) ≡ remove (map_of rows) k
map_of-without k rows s = same_config _ _ (λ q.
    get-where_key (λ x. not (eq_by_cmp path_cmp k x)) rows q s
    ∙ not_cond (eq_by_cmp path_cmp k q) _ _
    ∙ ap (λ b. cond b None (get (map_of rows) q)) ((eq_by_cmp_equiv path_cmp_total).symm k q)
    ∙ sym (get-remove path_cmp_total (map_of rows) k q))
