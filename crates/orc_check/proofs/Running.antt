-- The rows of chapters from a path's page on, in runs.
use Rattle.std.proofs.Common.{◌≡◌, ℕ, zero, suc, ◌+◌, ◌-◌, ◌<◌, true, List, [], ◌∷◌, ◌++◌, None, length, take, drop, map, get_or, refl, sym, ap, subst, ◌∙◌, arith}
use Rattle.std.specs.Ordering.{is_lt}
use Rattle.std.specs.List.{All}
use Rattle.std.specs.declared.alloc.Global.{Global}
use Rattle.std.specs.declared.sync.Arc.{Arc}
use Rattle.std.specs.FinMap.{find, is_sorted}
use Rattle.std.specs.FinMap.Entries.{below_all}
use Rattle.std.proofs.lemmas.Bool.{and_parts, and_from}
use Rattle.std.proofs.lemmas.List.{append_assoc, take_rest}
use Rattle.std.proofs.lemmas.List.Folds.{list_all-append}
use Rattle.std.proofs.lemmas.List.Elements.{All-nil, All-cons, All-head, All-tail}
use Rattle.orc_path.specs.Steps.{PathStep}
use Rattle.orc_path.specs.Order.{path_cmp}
use Rattle.orc_path.proofs.PathOrder.{path_cmp_total}
use Rattle.orc_tree.specs.declared.chapter.Chapter.{Chapter}
use Rattle.orc_tree.specs.Pages.{page_rows, rows_of, chapter_pages, pages_of, IsSized, AreSized, IsFilled, AreFilled, chapter_rows, chapters_rows}
use Rattle.orc_tree.specs.inside.Places.{above_all, IsLaid, AreLaid, IsPageFor, IsChapterFor, IsRestFor}
use Rattle.orc_tree.proofs.Maps.{Rows}
use Rattle.orc_tree.proofs.Pieces.{sorted_behind, find_piece}
use Rattle.orc_tree.proofs.Paged.{Pages, rows_of-append, rows_of-at, rows_of-cut}
use Rattle.orc_tree.proofs.Chaptered.{Chapters, chapters_rows-pages, some_rows}
use Rattle.orc_check.specs.inside.Runs.{all_rows}

-- ---- what chapters promise

All-front : {X : Type 0} (P : X → Type 0) (xs ys : List X) → All P (xs ++ ys) → All P xs
All-front P [] ys h = All-nil P
All-front P (x ∷ xs) ys h = All-cons P x xs (All-head P x (xs ++ ys) h) (All-front P xs ys (All-tail P x (xs ++ ys) h))

All-behind : {X : Type 0} (P : X → Type 0) (xs ys : List X) → All P (xs ++ ys) → All P ys
All-behind P [] ys h = h
All-behind P (x ∷ xs) ys h = All-behind P xs ys (All-tail P x (xs ++ ys) h)

pub are_laid : (cs : Chapters) → AreSized (pages_of cs) → AreFilled cs → AreLaid cs
are_laid [] sized filled = All-nil IsLaid
are_laid (c ∷ cs) sized filled =
    let here : AreSized (chapter_pages c) = All-front IsSized (chapter_pages c) (pages_of cs) sized in
    All-cons IsLaid c cs (here, some_rows (chapter_pages c) here (All-head IsFilled c cs filled))
    (are_laid cs (All-behind IsSized (chapter_pages c) (pages_of cs) sized) (All-tail IsFilled c cs filled))

-- ---- the runs from a page on

all_rows-map : (ps : Pages) → all_rows (map page_rows ps) ≡ rows_of ps
all_rows-map [] = refl
all_rows-map (p ∷ ps) = ap (λ (r : Rows). page_rows p ++ r) (all_rows-map ps)

-- pages, and those of chapters
runs_rows : (ps : Pages) (cs : Chapters) → all_rows (map page_rows (ps ++ pages_of cs)) ≡ rows_of ps ++ chapters_rows cs
runs_rows ps cs = all_rows-map (ps ++ pages_of cs) ∙ rows_of-append page_rows ps (pages_of cs) ∙ ap (λ (r : Rows). rows_of ps ++ r) (chapters_rows-pages cs)

below_both : (q : List PathStep) (xs ys : Rows) → below_all path_cmp q xs ≡ true → below_all path_cmp q ys ≡ true → below_all path_cmp q (xs ++ ys) ≡ true
below_both q [] ys h k = k
below_both q (x ∷ xs) ys h k =
    let parts = and_parts (is_lt (path_cmp q x.0)) (below_all path_cmp q xs) h in
    and_from (is_lt (path_cmp q x.0)) (below_all path_cmp q (xs ++ ys)) parts.0 (below_both q xs ys parts.1 k)

-- without the first of the pages from one on
drop_first : (ps : Pages) (n : ℕ) (more : Pages) → n < length ps → drop 1 (map page_rows (drop n ps ++ more)) ≡ map page_rows (drop (suc n) ps ++ more)
drop_first [] n more l = absurd (omega arith)
drop_first (p ∷ ps) zero more l = refl
drop_first (p ∷ ps) (suc n) more l = drop_first ps n more (omega arith)

module _ (q : List PathStep) (cs : Chapters) (i : ℕ) (c : Arc Chapter Global) (n : ℕ) (for : IsChapterFor q cs i) (is : c ≡ get_or cs i c) (page : IsPageFor q (chapter_pages c) n) where
  rest_from : (ps : Pages) (ds : Chapters) → ps ≡ drop n (chapter_pages c) → ds ≡ drop (suc i) cs → IsRestFor q (chapters_rows cs) (all_rows (map page_rows (ps ++ pages_of ds)))
  rest_from ps ds same later =
      let front : Rows = chapters_rows (take i cs) ++ rows_of (take n (chapter_pages c)) in
      record {
        front = front;
        parts = rows_of-at chapter_rows cs i c for.within is
            ∙ ap (λ (r : Rows). chapters_rows (take i cs) ++ (r ++ chapters_rows (drop (suc i) cs))) (rows_of-cut page_rows (chapter_pages c) n)
            ∙ ap (λ (r : Rows). chapters_rows (take i cs) ++ r) (append_assoc (rows_of (take n (chapter_pages c))) (rows_of (drop n (chapter_pages c))) (chapters_rows (drop (suc i) cs)))
            ∙ sym (append_assoc (chapters_rows (take i cs)) (rows_of (take n (chapter_pages c))) (rows_of (drop n (chapter_pages c)) ++ chapters_rows (drop (suc i) cs)))
            ∙ ap (λ (r : Rows). front ++ r) (sym (runs_rows (drop n (chapter_pages c)) (drop (suc i) cs)))
            ∙ ap (λ (x : Pages). front ++ all_rows (map page_rows (x ++ pages_of (drop (suc i) cs)))) (sym same)
            ∙ ap (λ (x : Chapters). front ++ all_rows (map page_rows (ps ++ pages_of x))) (sym later);
        before = list_all-append _ (chapters_rows (take i cs)) (rows_of (take n (chapter_pages c)))
            ∙ and_from (above_all q (chapters_rows (take i cs))) (above_all q (rows_of (take n (chapter_pages c)))) for.before page.before;
      }

  behind_from : (ps : Pages) (ds : Chapters) → ps ≡ drop n (chapter_pages c) → ds ≡ drop (suc i) cs → below_all path_cmp q (all_rows (drop 1 (map page_rows (ps ++ pages_of ds)))) ≡ true
  behind_from ps ds same later =
      ap (λ (x : Pages). below_all path_cmp q (all_rows (drop 1 (map page_rows (x ++ pages_of ds))))) same
      ∙ ap (λ (x : Chapters). below_all path_cmp q (all_rows (drop 1 (map page_rows (drop n (chapter_pages c) ++ pages_of x))))) later
      ∙ ap (λ (r : List Rows). below_all path_cmp q (all_rows r)) (drop_first (chapter_pages c) n (pages_of (drop (suc i) cs)) page.within)
      ∙ ap (below_all path_cmp q) (runs_rows (drop (suc n) (chapter_pages c)) (drop (suc i) cs))
      ∙ below_both q (rows_of (drop (suc n) (chapter_pages c))) (chapters_rows (drop (suc i) cs)) page.behind for.behind

-- the runs from a page of a chapter on, as they are lent: the rest of the pages, and the chapters after it
abbrev pub lent_runs : Pages → ℕ → Chapters → ℕ → List Rows
lent_runs pages n cs i = map page_rows (take (length pages - n) (drop n pages) ++ pages_of (take (length cs - (i + 1)) (drop (i + 1) cs)))

pub lent_from : (q : List PathStep) (cs : Chapters) (i : ℕ) (c : Arc Chapter Global) (n : ℕ) (pages : Pages) → IsChapterFor q cs i → c ≡ get_or cs i c → pages ≡ chapter_pages c → IsPageFor q pages n
    → IsRestFor q (chapters_rows cs) (all_rows (lent_runs pages n cs i)) × (below_all path_cmp q (all_rows (drop 1 (lent_runs pages n cs i))) ≡ true)
lent_from q cs i c n pages for is same page =
    let own : IsPageFor q (chapter_pages c) n = subst (λ (ps : Pages). IsPageFor q ps n) same page in
    let next : i + 1 ≡ suc i = omega arith in
    let here : take (length pages - n) (drop n pages) ≡ drop n (chapter_pages c) = take_rest pages n ∙ ap (λ (ps : Pages). drop n ps) same in
    let later : take (length cs - (i + 1)) (drop (i + 1) cs) ≡ drop (suc i) cs = take_rest cs (i + 1) ∙ ap (λ k. drop k cs) next in
    (rest_from q cs i c n for is own _ _ here later, behind_from q cs i c n for is own _ _ here later)

-- ---- what is sought in runs

module _ (q : List PathStep) (all : Rows) (runs : List Rows) (for : IsRestFor q all (all_rows runs)) where
  pub find_first : (first : Rows) (rest : List Rows) → below_all path_cmp q (all_rows (drop 1 runs)) ≡ true → runs ≡ first ∷ rest → find path_cmp q all ≡ find path_cmp q first
  find_first first rest behind is =
      ap (find path_cmp q) (for.parts ∙ ap (λ (r : List Rows). for.front ++ all_rows r) is)
      ∙ find_piece path_cmp path_cmp_total q for.front first (all_rows rest) for.before (ap (λ (r : List Rows). below_all path_cmp q (all_rows (drop 1 r))) (sym is) ∙ behind)

  pub find_none : runs ≡ [] → find path_cmp q all ≡ None
  find_none is =
      ap (find path_cmp q) (for.parts ∙ ap (λ (r : List Rows). for.front ++ all_rows r) is)
      ∙ find_piece path_cmp path_cmp_total q for.front [] [] for.before refl

  pub sorted_runs : is_sorted path_cmp all ≡ true → is_sorted path_cmp (all_rows runs) ≡ true
  sorted_runs s = sorted_behind path_cmp path_cmp_total for.front (all_rows runs) (ap (is_sorted path_cmp) (sym for.parts) ∙ s)
