-- What an edit of rows makes of their map.
use Rattle.std.proofs.Common.{◌≡◌, Bool, true, false, not, cond, List, [], ◌∷◌, refl, sym, ap, subst, ◌∙◌}
use Rattle.std.specs.Result.{OnOk, OnErr}
use Rattle.std.specs.declared.result.Result.{Result}
use Rattle.std.specs.declared.result.Result.TheVariants.{Ok, Err}
use Rattle.std.specs.FinMap.{insert, put, remove, retain_keys, is_sorted}
use Rattle.std.specs.FinMap.Entries.{where_key}
use Rattle.std.specs.Ordering.{eq_by_cmp}
use Rattle.orc_path.specs.Steps.{PathStep, ends_in_keys}
use Rattle.orc_path.specs.Order.{path_cmp, is_prefix}
use Rattle.orc_path.specs.Configurations.{Config, IsConfig, enter_all, is_removed_with, drop_item, insert_all}
use Rattle.orc_path.specs.declared.item.Item.{Item}
use Rattle.orc_path.specs.declared.item.Item.TheVariants.{Entry}
use Rattle.orc_tree.specs.Pages.{chapters_rows}
use Rattle.orc_tree.specs.inside.Places.{AreLaid, AreChapters}
use Rattle.orc_tree.specs.inside.Puts.{put_entries}
use Rattle.orc_tree.specs.inside.Removal.{kept_of}
use Rattle.orc_tree.proofs.Maps.{Rows, map_of, map_of-put, map_of-where_key, map_of-without, sorted-put, sorted-where_key}
use Rattle.orc_tree.proofs.Chaptered.{Chapters}

-- what holds of both outcomes holds of what came
pub either_way : {T E X : Type 0} (r : Result T E) (P : X → Type 0) (new a b : X) → OnOk r (new ≡ a) → OnErr r (new ≡ b) → P a → P b → P new
either_way (Ok x) P new a b ok err pa pb = subst P (sym ok) pa
either_way (Err e) P new a b ok err pa pb = subst P (sym err) pb

-- what holds holds of an error
pub OnErr-held : {T E : Type 0} (r : Result T E) {P : Type 0} → P → OnErr r P
OnErr-held (Ok x) p = tt
OnErr-held (Err e) p = p

sorted-put_entries : (ws : List (List PathStep)) (rows : Rows) → is_sorted path_cmp rows ≡ true → is_sorted path_cmp (put_entries ws rows) ≡ true
sorted-put_entries [] rows s = s
sorted-put_entries (w ∷ ws) rows s = sorted-put_entries ws (put path_cmp w Entry rows) (sorted-put w Entry rows s)

map_of-put_entries : (ws : List (List PathStep)) (rows : Rows) → is_sorted path_cmp rows ≡ true → map_of (put_entries ws rows) ≡ enter_all ws (map_of rows)
map_of-put_entries [] rows s = refl
map_of-put_entries (w ∷ ws) rows s =
    map_of-put_entries ws (put path_cmp w Entry rows) (sorted-put w Entry rows s)
    ∙ ap (enter_all ws) (map_of-put rows (put path_cmp w Entry rows) w Entry s (sorted-put w Entry rows s) refl)

pub sorted-put_all : (q : List PathStep) (v : Item) (ws : List (List PathStep)) (rows : Rows) → is_sorted path_cmp rows ≡ true → is_sorted path_cmp (put path_cmp q v (put_entries ws rows)) ≡ true
sorted-put_all q v ws rows s = sorted-put q v (put_entries ws rows) (sorted-put_entries ws rows s)

pub map_of-put_all : (q : List PathStep) (v : Item) (ws : List (List PathStep)) (rows : Rows) → is_sorted path_cmp rows ≡ true
    → map_of (put path_cmp q v (put_entries ws rows)) ≡ insert (enter_all ws (map_of rows)) q v
map_of-put_all q v ws rows s =
    map_of-put (put_entries ws rows) (put path_cmp q v (put_entries ws rows)) q v (sorted-put_entries ws rows s) (sorted-put_all q v ws rows s) refl
    ∙ ap (λ (m : Config). insert m q v) (map_of-put_entries ws rows s)

-- chapters that hold what an edit made, or else what they held
pub AreChapters-edited : {T E : Type 0} (r : Result T E) (old new : Chapters) (rows : Rows) (m : Config) → AreChapters old → OnOk r (chapters_rows new ≡ rows) → OnErr r (chapters_rows new ≡ chapters_rows old)
    → is_sorted path_cmp rows ≡ true → map_of rows ≡ m → IsConfig m → AreLaid new → AreChapters new
AreChapters-edited r old new rows m are ok err s e c laid = record {
  sorted = either_way r (λ (x : Rows). is_sorted path_cmp x ≡ true) (chapters_rows new) rows (chapters_rows old) ok err s are.sorted;
  config = either_way r (λ (x : Rows). IsConfig (map_of x)) (chapters_rows new) rows (chapters_rows old) ok err (subst IsConfig (sym e) c) are.config;
  laid = laid;
}

-- what removing a path leaves, as a map
pub map_of-kept : (p : List PathStep) (rows : Rows) → is_sorted path_cmp rows ≡ true → map_of (kept_of p rows) ≡ drop_item (map_of rows) p
map_of-kept p rows s = on (ends_in_keys p)
  where
    on : (b : Bool) → map_of (where_key path_cmp (λ q. not (cond b (is_prefix p q) (eq_by_cmp path_cmp p q))) rows)
        ≡ cond b (retain_keys (map_of rows) (λ q. not (is_prefix p q))) (remove (map_of rows) p)
    on true = map_of-where_key (λ q. not (is_prefix p q)) rows s
    on false = map_of-without p rows s

pub sorted-kept : (p : List PathStep) (rows : Rows) → is_sorted path_cmp rows ≡ true → is_sorted path_cmp (kept_of p rows) ≡ true
sorted-kept p rows s = sorted-where_key (λ q. not (is_removed_with p q)) rows s

-- a row put is a row laid
pub insert_all-put : (q : List PathStep) (v : Item) (ws : List (List PathStep)) (old new : Rows) → is_sorted path_cmp old ≡ true → ws ≡ [] → new ≡ put path_cmp q v (put_entries ws old)
    → map_of new ≡ insert_all ((q, v) ∷ []) (map_of old)
insert_all-put q v ws old new s none is =
    ap map_of is ∙ map_of-put_all q v ws old s ∙ ap (λ (x : List (List PathStep)). insert (enter_all x (map_of old)) q v) none

pub sorted_after : (q : List PathStep) (v : Item) (ws : List (List PathStep)) (old new : Rows) → is_sorted path_cmp old ≡ true → new ≡ put path_cmp q v (put_entries ws old) → is_sorted path_cmp new ≡ true
sorted_after q v ws old new s is = ap (is_sorted path_cmp) is ∙ sorted-put_all q v ws old s
