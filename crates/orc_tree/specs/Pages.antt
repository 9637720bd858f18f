-- The pages that a tree's rows stand in.
use Rattle.std.specs.Prelude.{◌≤◌, List, [], length}
use Rattle.std.specs.declared.option.Option.{Option}
use Rattle.std.specs.declared.option.Option.TheVariants.{None, Some}
use Rattle.std.specs.Arc.{arc_value}
use Rattle.std.specs.List.{flat_map, All}
use Rattle.std.specs.FinMap.{from_sorted}
use Rattle.std.specs.declared.alloc.Global.{Global}
use Rattle.std.specs.declared.sync.Arc.{Arc}
use Rattle.orc_path.specs.Steps.{PathStep}
use Rattle.orc_path.specs.Configurations.{Config}
use Rattle.orc_path.specs.declared.item.Item.{Item}
use Rattle.orc_tree.specs.declared.page.Page.{Page}
use Rattle.orc_tree.specs.declared.chapter.Chapter.{Chapter}
use Rattle.orc_tree.specs.declared.chapter.ChapterList.{ChapterList}
use Rattle.orc_tree.specs.declared.page.TheConstants.{PAGE_ROWS}

-- the rows of a page
abbrev pub page_rows : Arc Page Global → List (List PathStep × Item)
page_rows page = (arc_value page).rows

-- the rows of the pages, one after another
abbrev pub rows_of : List (Arc Page Global) → List (List PathStep × Item)
rows_of pages = flat_map page_rows pages

-- a page has 1 to `PAGE_ROWS` rows
abbrev pub IsSized : Arc Page Global → Type 0
IsSized page = (1 ≤ length (page_rows page)) × (length (page_rows page) ≤ PAGE_ROWS)

-- each of the pages has
abbrev pub AreSized : List (Arc Page Global) → Type 0
AreSized pages = All IsSized pages

-- the pages of a chapter
abbrev pub chapter_pages : Arc Chapter Global → List (Arc Page Global)
chapter_pages chapter = (arc_value chapter).pages

-- the pages of chapters, one after another
abbrev pub pages_of : List (Arc Chapter Global) → List (Arc Page Global)
pages_of chapters = flat_map chapter_pages chapters

-- a chapter has a page
abbrev pub IsFilled : Arc Chapter Global → Type 0
IsFilled chapter = 1 ≤ length (chapter_pages chapter)

-- each of the chapters has
abbrev pub AreFilled : List (Arc Chapter Global) → Type 0
AreFilled chapters = All IsFilled chapters

-- the rows of a chapter's pages
abbrev pub chapter_rows : Arc Chapter Global → List (List PathStep × Item)
chapter_rows chapter = rows_of (chapter_pages chapter)

-- the rows of chapters, one after another
abbrev pub chapters_rows : List (Arc Chapter Global) → List (List PathStep × Item)
chapters_rows chapters = flat_map chapter_rows chapters

-- the map of the rows of chapters
abbrev pub chapters_map : List (Arc Chapter Global) → Config
chapters_map chapters = from_sorted (chapters_rows chapters)

-- the chapters of a list of chapters that trees share
abbrev pub list_chapters : Arc ChapterList Global → List (Arc Chapter Global)
list_chapters list = (arc_value list).chapters.items

-- its chapters where there is a list, and else none
abbrev pub listed : Option (Arc ChapterList Global) → List (Arc Chapter Global)
listed None = []
listed (Some list) = list_chapters list
