-- Rows with an item and the missing entries on its way put among them.
use Rattle.std.specs.Prelude.{◌≡◌, ℕ, ◌+◌, ◌<◌, ◌≤◌, Bool, ◌||◌, List, [], ◌∷◌, ◌++◌, length, take, drop, IsTrue, is_none}
use Rattle.std.specs.Ordering.{is_gt, is_lt}
use Rattle.std.specs.declared.cmp.Ordering.TheVariants.{Less}
use Rattle.std.specs.List.{list_all, All}
use Rattle.std.specs.FinMap.{put, find}
use Rattle.std.specs.declared.alloc.Global.{Global}
use Rattle.std.specs.declared.sync.Arc.{Arc}
use Rattle.orc_path.specs.Steps.{PathStep}
use Rattle.orc_path.specs.Order.{path_cmp}
use Rattle.orc_path.specs.Configurations.{has_keys_at}
use Rattle.orc_path.specs.declared.item.Item.{Item}
use Rattle.orc_path.specs.declared.item.Item.TheVariants.{Entry}
use Rattle.orc_tree.specs.declared.page.Page.{Page}
use Rattle.orc_tree.specs.declared.chapter.Chapter.{Chapter}
use Rattle.orc_tree.specs.Pages.{rows_of, chapters_rows}

-- with an entry at each of these paths
abbrev pub put_entries : List (List PathStep) → List (List PathStep × Item) → List (List PathStep × Item)
put_entries [] rows = rows
put_entries (way ∷ rest) rows = put_entries rest (put path_cmp way Entry rows)

-- with an entry at each of these paths and then the item at its path
abbrev pub put_with
    : List (List PathStep) → List PathStep → Item → List (List PathStep × Item) → List (List PathStep × Item)
put_with missing path item rows = put path_cmp path item (put_entries missing rows)

-- the rows of pages with other rows in the place of those of the pages from one up to another
abbrev pub rows_with
    : List (Arc Page Global) → ℕ → ℕ → List (List PathStep × Item) → List (List PathStep × Item)
rows_with pages from to rows = rows_of (take from pages) ++ (rows ++ rows_of (drop to pages))

-- the rows of chapters with other rows in the place of those of the chapters from one up to another
abbrev pub chapters_with
    : List (Arc Chapter Global) → ℕ → ℕ → List (List PathStep × Item) → List (List PathStep × Item)
chapters_with chapters from to rows = chapters_rows (take from chapters) ++ (rows ++ chapters_rows (drop to chapters))

-- no row stands from the way up to the path
abbrev pub none_between : List PathStep → List PathStep → List (List PathStep × Item) → Bool
none_between way path rows = list_all (λ row. is_gt (path_cmp way row.0) || is_lt (path_cmp path row.0)) rows

-- each of these ways comes before the path, and no row stands from it up to the path
abbrev pub AreGaps : List PathStep → List (List PathStep × Item) → List (List PathStep) → Type 0
AreGaps path rows ways = All (λ way. (path_cmp way path ≡ Less) × IsTrue (none_between way path rows)) ways

-- no entry on the way to the path that has more than so many steps has a row
abbrev pub HasNoneBeyond : ℕ → List PathStep → List (List PathStep × Item) → Type 0
HasNoneBeyond len path rows =
    (at : ℕ) → len ≤ at → at + 1 < length path → IsTrue (has_keys_at path at)
    → IsTrue (is_none (find path_cmp (take (at + 1) path) rows))
