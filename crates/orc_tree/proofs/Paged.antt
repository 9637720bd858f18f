-- The rows of parts, cut at one part: of the pages of a chapter, and of the chapters of a tree.
use Rattle.std.proofs.Common.{◌≡◌, ℕ, zero, suc, ◌+◌, ◌<◌, ◌≤◌, true, false, List, [], ◌∷◌, ◌++◌, map, length, take, drop, get_or, set, insert, refl, sym, ap, subst, ◌∙◌, arith, append-nil}
use Rattle.std.specs.Ordering.{is_lt}
use Rattle.std.specs.List.{splice, flat_map, All}
use Rattle.std.specs.declared.alloc.Global.{Global}
use Rattle.std.specs.declared.sync.Arc.{Arc}
use Rattle.std.specs.declared.cmp.Ordering.{Ordering}
use Rattle.std.specs.declared.cmp.Ordering.TheVariants.{Less, Equal, Greater}
use Rattle.std.specs.FinMap.{find, is_sorted}
use Rattle.std.specs.FinMap.Entries.{below_all}
use Rattle.std.proofs.lemmas.Bool.{false≢true, and_parts, and_from}
use Rattle.std.proofs.lemmas.List.{length-append, length-map, take-append-drop, append_assoc, drop_more, set_split}
use Rattle.std.proofs.lemmas.List.Concat.{flat_map-append}
use Rattle.std.proofs.lemmas.List.Elements.{All-append, All-take, All-drop, All-push, All-set}
use Rattle.orc_path.specs.Steps.{PathStep}
use Rattle.orc_path.specs.Order.{path_cmp}
use Rattle.orc_path.proofs.PathOrder.{path_cmp_total, path_cmp_exact}
use Rattle.orc_tree.specs.declared.page.Page.{Page}
use Rattle.orc_tree.specs.Pages.{page_rows, rows_of, IsSized, AreSized}
use Rattle.orc_tree.specs.inside.Places.{IsPartFor, above_all, starts_behind}
use Rattle.orc_tree.proofs.Maps.{Rows}
use Rattle.orc_tree.proofs.Pieces.{lt_is, below_less, above_greater, sorted_behind, sorted_front, sorted_before, find_piece}

abbrev pub Pages : Type 0
Pages = List (Arc Page Global)

-- a part whose first row comes after the path
pub starts_less : (q : List PathStep) (part rest : Rows) → is_sorted path_cmp (part ++ rest) ≡ true → starts_behind q part ≡ true → below_all path_cmp q (part ++ rest) ≡ true
starts_less q [] rest s h = absurd (false≢true h)
starts_less q (row ∷ part) rest s h =
    and_from _ _ h (below_less path_cmp path_cmp_total q row.0 (part ++ rest) (lt_is _ h) (and_parts (below_all path_cmp row.0 (part ++ rest)) _ s).0)

not_less : (a b : List PathStep) (x : Rows) → is_lt (path_cmp a b) ≡ false → above_all b x ≡ true → above_all a x ≡ true
not_less a b x h above = on (path_cmp a b) refl h
  where
    on : (r : Ordering) → path_cmp a b ≡ r → is_lt r ≡ false → above_all a x ≡ true
    on Less e h = absurd (false≢true (sym h))
    on Equal e h = subst (λ (k : List PathStep). above_all k x ≡ true) (sym (path_cmp_exact a b e)) above
    on Greater e h = above_greater path_cmp path_cmp_total a b x e above

starts_above : (q : List PathStep) (front part rest : Rows) → is_sorted path_cmp (front ++ (part ++ rest)) ≡ true → 1 ≤ length part → starts_behind q part ≡ false → above_all q front ≡ true
starts_above q front [] rest s l h = absurd (omega arith)
starts_above q front (row ∷ part) rest s l h = not_less q row.0 front h (sorted_before path_cmp path_cmp_total front row (part ++ rest) s)

module _ {E : Type 0} (f : E → Rows) where
  -- each of the parts has a row
  abbrev pub HaveRows : List E → Type 0
  HaveRows ps = All (λ (p : E). 1 ≤ length (f p)) ps

  pub rows_of-append : (ps qs : List E) → flat_map f (ps ++ qs) ≡ flat_map f ps ++ flat_map f qs
  rows_of-append ps qs = flat_map-append f ps qs

  pub rows_of-push : (ps : List E) (p : E) → flat_map f (ps ++ p ∷ []) ≡ flat_map f ps ++ f p
  rows_of-push ps p = rows_of-append ps (p ∷ []) ∙ ap (λ (r : Rows). flat_map f ps ++ r) (append-nil (f p))

  pub rows_of-parts : (ps : List E) (i : ℕ) (d : E) → i < length ps → flat_map f ps ≡ flat_map f (take i ps) ++ (f (get_or ps i d) ++ flat_map f (drop (suc i) ps))
  rows_of-parts ps i d l =
      let next : i + 1 ≡ suc i = omega arith in
      ap (λ (qs : List E). flat_map f qs) (sym (take-append-drop i ps)) ∙ rows_of-append (take i ps) (drop i ps)
      ∙ ap (λ (qs : List E). flat_map f (take i ps) ++ flat_map f qs) (drop_more ps i d l ∙ ap (λ n. get_or ps i d ∷ drop n ps) next)

  pub rows_of-at : (ps : List E) (i : ℕ) (p : E) → i < length ps → p ≡ get_or ps i p → flat_map f ps ≡ flat_map f (take i ps) ++ (f p ++ flat_map f (drop (suc i) ps))
  rows_of-at ps i p l is = rows_of-parts ps i p l ∙ ap (λ (x : E). flat_map f (take i ps) ++ (f x ++ flat_map f (drop (suc i) ps))) (sym is)

  pub rows_of-cut : (ps : List E) (i : ℕ) → flat_map f ps ≡ flat_map f (take i ps) ++ flat_map f (drop i ps)
  rows_of-cut ps i = ap (λ (qs : List E). flat_map f qs) (sym (take-append-drop i ps)) ∙ rows_of-append (take i ps) (drop i ps)

  rows_of-set : (ps : List E) (i : ℕ) (p : E) → i < length ps → flat_map f (set ps i p) ≡ flat_map f (take i ps) ++ (f p ++ flat_map f (drop (suc i) ps))
  rows_of-set ps i p l = ap (λ (qs : List E). flat_map f qs) (set_split ps i p l) ∙ rows_of-append (take i ps) (p ∷ drop (suc i) ps)

  pub rows_of-changed : (ps : List E) (i : ℕ) (p : E) (rows : Rows) → i < length ps → f p ≡ rows
      → flat_map f (set ps i p) ≡ flat_map f (take i ps) ++ (rows ++ flat_map f (drop (suc i) ps))
  rows_of-changed ps i p rows l is = rows_of-set ps i p l ∙ ap (λ (r : Rows). flat_map f (take i ps) ++ (r ++ flat_map f (drop (suc i) ps))) is

  pub rows_of-splice : (ps new : List E) (from to : ℕ) → flat_map f (splice ps from to new) ≡ flat_map f (take from ps) ++ (flat_map f new ++ flat_map f (drop to ps))
  rows_of-splice ps new from to =
      rows_of-append (take from ps) (new ++ drop to ps) ∙ ap (λ (r : Rows). flat_map f (take from ps) ++ r) (rows_of-append new (drop to ps))

  pub behind_part : (q : List PathStep) (ps : List E) (i : ℕ) (p : E) → is_sorted path_cmp (flat_map f ps) ≡ true → i < length ps → p ≡ get_or ps i p
      → starts_behind q (f p) ≡ true → below_all path_cmp q (flat_map f (drop i ps)) ≡ true
  behind_part q ps i p s l is h =
      let parts : drop i ps ≡ p ∷ drop (i + 1) ps = drop_more ps i p l ∙ ap (λ (x : E). x ∷ drop (i + 1) ps) (sym is) in
      let sorted : is_sorted path_cmp (flat_map f (drop i ps)) ≡ true = sorted_behind path_cmp path_cmp_total (flat_map f (take i ps)) (flat_map f (drop i ps)) (ap (is_sorted path_cmp) (sym (rows_of-cut ps i)) ∙ s) in
      ap (λ (qs : List E). below_all path_cmp q (flat_map f qs)) parts
      ∙ starts_less q (f p) (flat_map f (drop (i + 1) ps)) (ap (λ (qs : List E). is_sorted path_cmp (flat_map f qs)) (sym parts) ∙ sorted) h

  pub before_part : (q : List PathStep) (ps : List E) (i : ℕ) (p : E) → is_sorted path_cmp (flat_map f ps) ≡ true → HaveRows ps → i < length ps → p ≡ get_or ps i p
      → starts_behind q (f p) ≡ false → above_all q (flat_map f (take i ps)) ≡ true
  before_part q ps i p s some l is h =
      let long : 1 ≤ length (f p) = subst (λ (x : E). 1 ≤ length (f x)) (sym is) (some i p l) in
      starts_above q (flat_map f (take i ps)) (f p) (flat_map f (drop (suc i) ps)) (ap (is_sorted path_cmp) (sym (rows_of-at ps i p l is)) ∙ s) long h

  pub laid_out : (ps : List E) (p : E) (part rest rows : Rows) → flat_map f ps ++ (part ++ rest) ≡ rows → f p ≡ part → flat_map f (ps ++ p ∷ []) ++ rest ≡ rows
  laid_out ps p part rest rows so is =
      ap (λ (r : Rows). r ++ rest) (rows_of-push ps p ∙ ap (λ (r : Rows). flat_map f ps ++ r) is) ∙ append_assoc (flat_map f ps) part rest ∙ so

  pub sorted_part : (ps : List E) (i : ℕ) (p : E) → is_sorted path_cmp (flat_map f ps) ≡ true → i < length ps → p ≡ get_or ps i p → is_sorted path_cmp (f p) ≡ true
  sorted_part ps i p s l is =
      sorted_front path_cmp path_cmp_total (f p) (flat_map f (drop (suc i) ps))
      (sorted_behind path_cmp path_cmp_total (flat_map f (take i ps)) (f p ++ flat_map f (drop (suc i) ps)) (ap (is_sorted path_cmp) (sym (rows_of-at ps i p l is)) ∙ s))

  pub find_in_part : (q : List PathStep) (ps : List E) (i : ℕ) (p : E) → IsPartFor f q ps i → p ≡ get_or ps i p → find path_cmp q (flat_map f ps) ≡ find path_cmp q (f p)
  find_in_part q ps i p for is =
      ap (find path_cmp q) (rows_of-at ps i p for.within is)
      ∙ find_piece path_cmp path_cmp_total q (flat_map f (take i ps)) (f p) (flat_map f (drop (suc i) ps)) for.before for.behind

  pub IsPartFor-like : (q r : List PathStep) (ps qs : List E) (i : ℕ) → r ≡ q → qs ≡ ps → IsPartFor f r qs i → IsPartFor f q ps i
  IsPartFor-like q r ps qs i same is for = subst (λ (x : List E). IsPartFor f q x i) is (subst (λ (x : List PathStep). IsPartFor f x qs i) same for)

  -- the rows of the parts up to a place, and of those from there on, are told by the rows of each part
  rows_before : (ps : List E) (i : ℕ) → flat_map (λ (r : Rows). r) (take i (map f ps)) ≡ flat_map f (take i ps)
  rows_before ps zero = refl
  rows_before [] (suc i) = refl
  rows_before (p ∷ ps) (suc i) = ap (λ (r : Rows). f p ++ r) (rows_before ps i)

  rows_from : (ps : List E) (i : ℕ) → flat_map (λ (r : Rows). r) (drop i (map f ps)) ≡ flat_map f (drop i ps)
  rows_from [] zero = refl
  rows_from (p ∷ ps) zero = ap (λ (r : Rows). f p ++ r) (rows_from ps zero)
  rows_from [] (suc i) = refl
  rows_from (p ∷ ps) (suc i) = rows_from ps i

  -- so a path's part is its part among others that have the same rows one by one
  pub IsPartFor-again : (q : List PathStep) (ps qs : List E) (i : ℕ) → map f ps ≡ map f qs → IsPartFor f q qs i → IsPartFor f q ps i
  IsPartFor-again q ps qs i same for = record {
    within = subst (λ n. i < n) (sym (length-map qs f) ∙ ap length (sym same) ∙ length-map ps f) for.within;
    before = ap (above_all q) (sym (rows_before ps i) ∙ ap (λ (rs : List Rows). flat_map (λ (r : Rows). r) (take i rs)) same ∙ rows_before qs i) ∙ for.before;
    behind = ap (below_all path_cmp q) (sym (rows_from ps (suc i)) ∙ ap (λ (rs : List Rows). flat_map (λ (r : Rows). r) (drop (suc i) rs)) same ∙ rows_from qs (suc i)) ∙ for.behind;
  }

  -- two parts that stand next to each other, cut out of the others
  pub rows_of-two : (ps : List E) (i : ℕ) (p q : E) → i + 1 < length ps → p ≡ get_or ps i p → q ≡ get_or ps (i + 1) q
      → flat_map f (take i ps) ++ ((f p ++ f q) ++ flat_map f (drop (i + 2) ps)) ≡ flat_map f ps
  rows_of-two ps i p q l is next =
      let second : suc i ≡ i + 1 = omega arith in
      let third : i + 1 + 1 ≡ i + 2 = omega arith in
      let rest : flat_map f (drop (suc i) ps) ≡ f q ++ flat_map f (drop (i + 2) ps) =
      ap (λ n. flat_map f (drop n ps)) second ∙ ap (λ (qs : List E). flat_map f qs) (drop_more ps (i + 1) q l)
      ∙ ap (λ (x : E). f x ++ flat_map f (drop (i + 1 + 1) ps)) (sym next)
      ∙ ap (λ n. f q ++ flat_map f (drop n ps)) third in
      sym (rows_of-at ps i p (omega arith) is
      ∙ ap (λ (r : Rows). flat_map f (take i ps) ++ (f p ++ r)) rest
      ∙ ap (λ (r : Rows). flat_map f (take i ps) ++ r) (sym (append_assoc (f p) (f q) (flat_map f (drop (i + 2) ps)))))

-- Pages of the right size

pub AreSized-some : (ps : Pages) → AreSized ps → HaveRows page_rows ps
AreSized-some ps sized = λ k d l. (sized k d l).0

pub AreSized-splice : (ps new : Pages) (from to : ℕ) → AreSized ps → AreSized new → AreSized (splice ps from to new)
AreSized-splice ps new from to s t = All-append IsSized _ _ (All-take IsSized from ps s) (All-append IsSized _ _ t (All-drop IsSized to ps s))

pub AreSized-push : (ps : Pages) (p : Arc Page Global) → AreSized ps → 1 ≤ length (page_rows p) → length (page_rows p) ≤ 8 → AreSized (ps ++ p ∷ [])
AreSized-push ps p s low high = All-push IsSized ps p s (low, high)

pub AreSized-set : (ps : Pages) (i : ℕ) (p : Arc Page Global) → AreSized ps → 1 ≤ length (page_rows p) → length (page_rows p) ≤ 8 → AreSized (set ps i p)
AreSized-set ps i p s low high = All-set IsSized ps i p (low, high) s

-- One page cut in two

pub rows_of-split : (ps : Pages) (i : ℕ) (p front behind : Arc Page Global) → i < length ps → page_rows front ++ page_rows behind ≡ page_rows (get_or ps i p)
    → rows_of (insert (set ps i front) (suc i) behind) ≡ rows_of ps
rows_of-split [] i p front behind l e = absurd (omega arith)
rows_of-split (q ∷ ps) zero p front behind l e =
    sym (append_assoc (page_rows front) (page_rows behind) (rows_of ps)) ∙ ap (λ (r : Rows). r ++ rows_of ps) e
rows_of-split (q ∷ ps) (suc i) p front behind l e = ap (λ (r : Rows). page_rows q ++ r) (rows_of-split ps i p front behind (omega arith) e)

pub AreSized-insert : (ps : Pages) (i : ℕ) (p : Arc Page Global) → AreSized ps → 1 ≤ length (page_rows p) → length (page_rows p) ≤ 8 → AreSized (insert ps i p)
AreSized-insert ps i p s low high = AreSized-splice ps (p ∷ []) i i s (AreSized-push [] p (λ k d l. absurd (omega arith)) low high)

-- the rest of a full page
pub half_left : (whole front behind : Rows) → front ++ behind ≡ whole → length whole ≡ 8 → length front ≡ 6 → length behind ≡ 2
half_left whole front behind e l n = omega (arith, ap length e, length-append front behind, l, n)
