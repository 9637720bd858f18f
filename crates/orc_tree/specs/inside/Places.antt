-- A tree's chapters and their pages, and a path's place among them.
use Rattle.std.specs.Prelude.{◌≡◌, ℕ, suc, ◌<◌, ◌≤◌, Bool, false, List, [], ◌∷◌, ◌++◌, length, take, drop, get_or, IsTrue}
use Rattle.std.specs.Ordering.{is_gt, is_lt}
use Rattle.std.specs.List.{list_all, flat_map, All}
use Rattle.std.specs.FinMap.{is_sorted}
use Rattle.std.specs.FinMap.Entries.{below_all}
use Rattle.std.specs.declared.alloc.Global.{Global}
use Rattle.std.specs.declared.sync.Arc.{Arc}
use Rattle.orc_path.specs.Steps.{PathStep}
use Rattle.orc_path.specs.Order.{path_cmp}
use Rattle.orc_path.specs.Configurations.{IsConfig}
use Rattle.orc_path.specs.declared.item.Item.{Item}
use Rattle.orc_tree.specs.declared.page.Page.{Page}
use Rattle.orc_tree.specs.declared.chapter.Chapter.{Chapter}
use Rattle.orc_tree.specs.Pages.{page_rows, rows_of, chapter_pages, chapter_rows, chapters_rows, chapters_map, AreSized}

-- the rows of pages stand in path order, each path once
abbrev pub AreInOrder : List (Arc Page Global) → Type 0
AreInOrder pages = IsTrue (is_sorted path_cmp (rows_of pages))

-- the rows of chapters stand in path order, each path once
abbrev pub AreChaptersInOrder : List (Arc Chapter Global) → Type 0
AreChaptersInOrder chapters = IsTrue (is_sorted path_cmp (chapters_rows chapters))

-- a chapter's pages are sized, and it has a row
abbrev pub IsLaid : Arc Chapter Global → Type 0
IsLaid chapter = AreSized (chapter_pages chapter) × (1 ≤ length (chapter_rows chapter))

-- each of the chapters is so
abbrev pub AreLaid : List (Arc Chapter Global) → Type 0
AreLaid chapters = All IsLaid chapters

-- the chapters' rows stand in path order, each path once, and the rows' map is a configuration
pub record AreChapters (chapters : List (Arc Chapter Global)) : Type 0 where
  pub sorted : AreChaptersInOrder chapters
  pub config : IsConfig (chapters_map chapters)
  pub laid : AreLaid chapters

-- each of the rows comes before the path
abbrev pub above_all : List PathStep → List (List PathStep × Item) → Bool
above_all path rows = list_all (λ row. is_gt (path_cmp path row.0)) rows

-- the first of the rows comes after the path
abbrev pub starts_behind : List PathStep → List (List PathStep × Item) → Bool
starts_behind path [] = false
starts_behind path (row ∷ rows) = is_lt (path_cmp path row.0)

-- the rows of the parts before that one come before the path, and those of the parts after it come after the path
pub record IsPartFor
    {E : Type 0} (rows : E → List (List PathStep × Item)) (path : List PathStep) (parts : List E) (at : ℕ)
    : Type 0 where
  pub within : at < length parts
  pub before : IsTrue (above_all path (flat_map rows (take at parts)))
  pub behind : IsTrue (below_all path_cmp path (flat_map rows (drop (suc at) parts)))

-- the page is the path's among pages
abbrev pub IsPageFor : List PathStep → List (Arc Page Global) → ℕ → Type 0
IsPageFor path pages at = IsPartFor page_rows path pages at

-- the chapter is the path's among chapters
abbrev pub IsChapterFor : List PathStep → List (Arc Chapter Global) → ℕ → Type 0
IsChapterFor path chapters at = IsPartFor chapter_rows path chapters at

-- the rows after a page, both in its chapter and in the chapters after that, come after the path
pub record AreBehind
    (path : List PathStep) (chapters : List (Arc Chapter Global)) (chapter : ℕ) (pages : List (Arc Page Global)) (page : ℕ)
    : Type 0 where
  pub inside : IsTrue (below_all path_cmp path (rows_of (drop (suc page) pages)))
  pub after : IsTrue (below_all path_cmp path (chapters_rows (drop (suc chapter) chapters)))

-- the chapter is the path's among chapters, and the page the path's among the pages of that
pub record IsPlaceFor (path : List PathStep) (chapters : List (Arc Chapter Global)) (chapter page : ℕ) : Type 0 where
  pub among : IsChapterFor path chapters chapter
  pub inside : (default : Arc Chapter Global) → IsPageFor path (chapter_pages (get_or chapters chapter default)) page

-- the rest of the rows, before which only rows stand that come before the path
pub record IsRestFor (path : List PathStep) (whole rest : List (List PathStep × Item)) : Type 0 where
  pub front : List (List PathStep × Item)
  pub parts : whole ≡ front ++ rest
  pub before : IsTrue (above_all path front)
