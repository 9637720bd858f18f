-- Where a finger is: a page that begins at a path or before it, and before the next one, is the path's, and so is its chapter.
use Rattle.std.proofs.Common.{◌≡◌, ℕ, suc, ◌+◌, ◌<◌, ◌≤◌, true, false, List, [], ◌∷◌, ◌++◌, length, take, drop, get_or, sym, ap, subst, ◌∙◌, arith}
use Rattle.std.specs.declared.alloc.Global.{Global}
use Rattle.std.specs.declared.sync.Arc.{Arc}
use Rattle.std.specs.Ordering.{is_lt}
use Rattle.std.specs.FinMap.{is_sorted}
use Rattle.std.specs.FinMap.Entries.{below_all}
use Rattle.std.proofs.lemmas.Bool.{and_parts}
use Rattle.std.proofs.lemmas.List.{append_assoc, drop_all, get_or_default}
use Rattle.orc_path.specs.Steps.{PathStep}
use Rattle.orc_path.specs.Order.{path_cmp}
use Rattle.orc_path.proofs.PathOrder.{path_cmp_total}
use Rattle.orc_tree.specs.declared.page.Page.{Page}
use Rattle.orc_tree.specs.declared.chapter.Chapter.{Chapter}
use Rattle.orc_tree.specs.Pages.{page_rows, rows_of, chapter_pages, chapter_rows, chapters_rows, AreSized}
use Rattle.orc_tree.specs.inside.Places.{AreBehind, AreLaid, IsPageFor, IsPlaceFor, above_all, starts_behind}
use Rattle.orc_tree.proofs.Maps.{Rows}
use Rattle.orc_tree.proofs.Pieces.{gt_is, below_behind, sorted_behind, sorted_front}
use Rattle.orc_tree.proofs.Paged.{Pages, AreSized-some, rows_of-at, rows_of-parts, before_part, behind_part, starts_less}
use Rattle.orc_tree.proofs.Chaptered.{Chapters, AreLaid-some}

-- rows begin behind a path only where none of them comes before it
not_behind : (q : List PathStep) (front part rest : Rows) → above_all q front ≡ true → 1 ≤ length part → starts_behind q part ≡ false
    → starts_behind q (front ++ (part ++ rest)) ≡ false
not_behind q [] [] rest above some h = absurd (omega (arith, some))
not_behind q [] (row ∷ part) rest above some h = h
not_behind q (row ∷ front) part rest above some h = ap is_lt (gt_is _ (and_parts _ (above_all q front) above).0)

-- what stands behind pages comes after a path that the first row of one of them comes after
behind_pages : (q : List PathStep) (pages : Pages) (at : ℕ) (page : Arc Page Global) (rest : Rows)
    → at < length pages → page ≡ get_or pages at page → starts_behind q (page_rows page) ≡ true
    → is_sorted path_cmp (rows_of pages ++ rest) ≡ true → below_all path_cmp q rest ≡ true
behind_pages q pages at page rest within is ends sorted =
    let front = rows_of (take at pages) in
    let others = rows_of (drop (suc at) pages) in
    let cut : rows_of pages ++ rest ≡ front ++ (page_rows page ++ (others ++ rest)) =
    ap (λ (r : Rows). r ++ rest) (rows_of-at page_rows pages at page within is)
    ∙ append_assoc front (page_rows page ++ others) rest
    ∙ ap (λ (r : Rows). front ++ r) (append_assoc (page_rows page) others rest) in
    let after : is_sorted path_cmp (page_rows page ++ (others ++ rest)) ≡ true =
    sorted_behind path_cmp path_cmp_total front _ (ap (is_sorted path_cmp) (sym cut) ∙ sorted) in
    below_behind path_cmp path_cmp_total q others rest
    (below_behind path_cmp path_cmp_total q (page_rows page) (others ++ rest) (starts_less q (page_rows page) (others ++ rest) after ends))

first_of : {X : Type 0} (xs : List X) (n : ℕ) → n < length xs → X
first_of [] n l = absurd (omega (arith, l))
first_of (x ∷ xs) n l = x

module _ (q : List PathStep) (chapters : Chapters) (at page : ℕ) (pages : Pages)
    (sorted : is_sorted path_cmp (chapters_rows chapters) ≡ true) (within : at < length chapters)
    (are : (d : Arc Chapter Global) → chapter_pages (get_or chapters at d) ≡ pages) where
  any : Arc Chapter Global
  any = first_of chapters at within

  whole : chapters_rows chapters ≡ chapters_rows (take at chapters) ++ (rows_of pages ++ chapters_rows (drop (suc at) chapters))
  whole = rows_of-parts chapter_rows chapters at any within
      ∙ ap (λ (ps : Pages). chapters_rows (take at chapters) ++ (rows_of ps ++ chapters_rows (drop (suc at) chapters))) (are any)

  on_from : is_sorted path_cmp (rows_of pages ++ chapters_rows (drop (suc at) chapters)) ≡ true
  on_from = sorted_behind path_cmp path_cmp_total (chapters_rows (take at chapters)) _ (ap (is_sorted path_cmp) (sym whole) ∙ sorted)

  on_pages : is_sorted path_cmp (rows_of pages) ≡ true
  on_pages = sorted_front path_cmp path_cmp_total (rows_of pages) _ on_from

  -- the next page of the chapter starts behind the path
  pub behind_page : (next : Arc Page Global) → page + 1 < length pages → next ≡ get_or pages (page + 1) next
      → starts_behind q (page_rows next) ≡ true → AreBehind q chapters at pages page
  behind_page next more is ends =
      let one : page + 1 ≡ suc page = omega arith in
      let is' : next ≡ get_or pages (suc page) next = is ∙ ap (λ n. get_or pages n next) one in
      record {
        inside = behind_part page_rows q pages (suc page) next on_pages (omega (arith, more)) is' ends;
        after = behind_pages q pages (suc page) next _ (omega (arith, more)) is' ends on_from;
      }

  -- the next chapter does, and there is no next page
  pub behind_chapter : (next : Arc Chapter Global) → length pages ≤ suc page → at + 1 < length chapters → next ≡ get_or chapters (at + 1) next
      → starts_behind q (chapter_rows next) ≡ true → AreBehind q chapters at pages page
  behind_chapter next last more is ends =
      let one : at + 1 ≡ suc at = omega arith in
      record {
        inside = ap (λ (ps : Pages). below_all path_cmp q (rows_of ps)) (drop_all (suc page) pages last);
        after = behind_part chapter_rows q chapters (suc at) next sorted (omega (arith, more)) (is ∙ ap (λ n. get_or chapters n next) one) ends;
      }

  -- there is neither
  pub behind_none : length pages ≤ suc page → length chapters ≤ suc at → AreBehind q chapters at pages page
  behind_none last end = record {
    inside = ap (λ (ps : Pages). below_all path_cmp q (rows_of ps)) (drop_all (suc page) pages last);
    after = ap (λ (cs : Chapters). below_all path_cmp q (chapters_rows cs)) (drop_all (suc at) chapters end);
  }

  -- a page that begins at the path or before it, and before what stands behind it, is at the path's place
  pub place_here : (here : Arc Page Global) → AreLaid chapters → page < length pages → here ≡ get_or pages page here
      → starts_behind q (page_rows here) ≡ false → AreBehind q chapters at pages page → IsPlaceFor q chapters at page
  place_here here laid inside is begins behind =
      let sized : AreSized pages = subst AreSized (are any) (laid at any within).0 in
      let some : 1 ≤ length (page_rows here) = subst (λ (p : Arc Page Global). 1 ≤ length (page_rows p)) (sym is) (sized page here inside).0 in
      let front : above_all q (rows_of (take page pages)) ≡ true = before_part page_rows q pages page here on_pages (AreSized-some pages sized) inside is begins in
      let chapter = get_or chapters at any in
      let starts : starts_behind q (chapter_rows chapter) ≡ false =
      ap (λ (ps : Pages). starts_behind q (rows_of ps)) (are any)
      ∙ ap (starts_behind q) (rows_of-at page_rows pages page here inside is)
      ∙ not_behind q (rows_of (take page pages)) (page_rows here) (rows_of (drop (suc page) pages)) front some begins in
      record {
        among = record {
          within = within;
          before = before_part chapter_rows q chapters at chapter sorted (AreLaid-some chapters laid) within (get_or_default chapters at any chapter within) starts;
          behind = behind.after;
        };
        inside = λ e. subst (λ (ps : Pages). IsPageFor q ps page) (sym (are e)) (record { within = inside; before = front; behind = behind.inside });
      }
