-- The rows of chapters, and of the pages that stand in them.
use Rattle.std.proofs.Common.{◌≡◌, ◌==◌, ℕ, zero, suc, ◌-◌, ◌<◌, ◌≤◌, Bool, false, List, [], ◌∷◌, ◌++◌, length, take, drop, get_or, refl, sym, ap, subst, ◌∙◌, arith}
use Rattle.std.specs.List.{slice_range, splice}
use Rattle.std.specs.declared.alloc.Global.{Global}
use Rattle.std.specs.declared.sync.Arc.{Arc}
use Rattle.std.proofs.lemmas.Bool.{false≢true}
use Rattle.std.proofs.lemmas.List.{length-append, length-drop}
use Rattle.std.proofs.lemmas.List.Elements.{All-append, All-head, All-tail, All-take, All-drop}
use Rattle.orc_tree.specs.declared.chapter.Chapter.{Chapter}
use Rattle.orc_tree.specs.Pages.{page_rows, rows_of, chapter_pages, pages_of, IsSized, AreSized, AreFilled, chapter_rows, chapters_rows}
use Rattle.orc_tree.specs.inside.Places.{IsLaid, AreLaid, AreChapters}
use Rattle.orc_tree.proofs.Maps.{Rows, IsConfig-nil}
use Rattle.orc_tree.proofs.Paged.{Pages, HaveRows, rows_of-append}

abbrev pub Chapters : Type 0
Chapters = List (Arc Chapter Global)

-- the rows of chapters are those of their pages
pub chapters_rows-pages : (cs : Chapters) → rows_of (pages_of cs) ≡ chapters_rows cs
chapters_rows-pages [] = refl
chapters_rows-pages (c ∷ cs) = rows_of-append page_rows (chapter_pages c) (pages_of cs) ∙ ap (λ (r : Rows). chapter_rows c ++ r) (chapters_rows-pages cs)

pub IsLaid-at : (cs : Chapters) (i : ℕ) (c : Arc Chapter Global) → AreLaid cs → i < length cs → c ≡ get_or cs i c → IsLaid c
IsLaid-at cs i c laid l is = subst IsLaid (sym is) (laid i c l)

pub AreLaid-some : (cs : Chapters) → AreLaid cs → HaveRows chapter_rows cs
AreLaid-some cs laid = λ k d l. (laid k d l).1

pub AreLaid-sized : (cs : Chapters) → AreLaid cs → AreSized (pages_of cs)
AreLaid-sized [] laid = λ k d l. absurd (omega arith)
AreLaid-sized (c ∷ cs) laid =
    All-append IsSized (chapter_pages c) (pages_of cs) (All-head IsLaid c cs laid).0 (AreLaid-sized cs (All-tail IsLaid c cs laid))

pub AreLaid-splice : (cs new : Chapters) (from to : ℕ) → AreLaid cs → AreLaid new → AreLaid (splice cs from to new)
AreLaid-splice cs new from to laid made = All-append IsLaid _ _ (All-take IsLaid from cs laid) (All-append IsLaid _ _ made (All-drop IsLaid to cs laid))

-- a list that isn't empty has an element
pub some_from_test : {X : Type 0} (xs : List X) (b : Bool) → b ≡ (length xs == 0) → b ≡ false → 1 ≤ length xs
some_from_test [] b is h = absurd (false≢true (sym h ∙ is))
some_from_test (x ∷ xs) b is h = omega arith

pub some_page : (ps : Pages) → 1 ≤ length (rows_of ps) → 1 ≤ length ps
some_page [] l = absurd (omega arith)
some_page (p ∷ ps) l = omega arith

pub some_rows : (ps : Pages) → AreSized ps → 1 ≤ length ps → 1 ≤ length (rows_of ps)
some_rows [] sized l = absurd (omega arith)
some_rows (p ∷ ps) sized l = omega (arith, (All-head IsSized p ps sized).0, length-append (page_rows p) (rows_of ps))

-- chapters, at least one, have a row, and so have those from one on to a later one
some_in_front : (cs : Chapters) (n : ℕ) → AreLaid cs → 1 ≤ n → 1 ≤ length cs → 1 ≤ length (chapters_rows (take n cs))
some_in_front [] n laid some within = absurd (omega (arith, within))
some_in_front (c ∷ cs) zero laid some within = absurd (omega (arith, some))
some_in_front (c ∷ cs) (suc n) laid some within = omega (arith, (All-head IsLaid c cs laid).1, length-append (chapter_rows c) (chapters_rows (take n cs)))

pub some_in_span : (cs : Chapters) (at end : ℕ) → AreLaid cs → at < end → at < length cs → 1 ≤ length (chapters_rows (slice_range cs at end))
some_in_span cs at end laid more within =
    some_in_front (drop at cs) (end - at) (All-drop IsLaid at cs laid) (omega (arith, more)) (omega (arith, within, length-drop at cs))

pub AreLaid-filled : (cs : Chapters) → AreLaid cs → AreFilled cs
AreLaid-filled cs laid = λ k d l. some_page (chapter_pages (get_or cs k d)) (laid k d l).1

-- a chapter of sized pages, at least one
pub IsLaid-made : (c : Arc Chapter Global) (ps : Pages) → chapter_pages c ≡ ps → AreSized ps → 1 ≤ length ps → IsLaid c
IsLaid-made c ps is sized some =
    (subst AreSized (sym is) sized, subst (λ (qs : Pages). 1 ≤ length (rows_of qs)) (sym is) (some_rows ps sized some))

pub AreChapters-nil : AreChapters []
AreChapters-nil = record { sorted = refl; config = IsConfig-nil; laid = λ k d l. absurd (omega arith) }
