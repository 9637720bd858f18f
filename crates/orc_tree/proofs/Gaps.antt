-- Entries and an item that are put into one part.
use Rattle.std.proofs.Common.{◌≡◌, ℕ, suc, ◌<◌, ◌≤◌, Bool, true, false, ◌||◌, ◌&&◌, List, [], ◌∷◌, ◌++◌, length, take, drop, get_or, refl, sym, ap, subst, ◌∙◌, arith}
use Rattle.std.specs.Ordering.{is_lt, is_gt}
use Rattle.std.specs.List.{flat_map, All}
use Rattle.std.specs.Result.{OnOk, OnErr}
use Rattle.std.specs.declared.result.Result.{Result}
use Rattle.std.specs.declared.result.Result.TheVariants.{Ok, Err}
use Rattle.std.specs.declared.cmp.Ordering.{Ordering}
use Rattle.std.specs.declared.cmp.Ordering.TheVariants.{Less, Equal, Greater}
use Rattle.std.specs.FinMap.{put}
use Rattle.std.specs.FinMap.Entries.{below_all, by_order}
use Rattle.std.proofs.lemmas.Bool.{false≢true, and_parts, and_from}
use Rattle.std.proofs.lemmas.List.Elements.{All-head, All-tail, All-weaker}
use Rattle.std.proofs.lemmas.List.Folds.{list_all-append}
use Rattle.orc_path.specs.Steps.{PathStep}
use Rattle.orc_path.specs.Order.{path_cmp}
use Rattle.orc_path.proofs.PathOrder.{path_cmp_total}
use Rattle.orc_path.specs.declared.item.Item.{Item}
use Rattle.orc_path.specs.declared.item.Item.TheVariants.{Entry}
use Rattle.orc_tree.specs.inside.Places.{IsPartFor, above_all}
use Rattle.orc_tree.specs.inside.Puts.{put_entries, none_between, AreGaps}
use Rattle.orc_tree.proofs.Maps.{Rows}
use Rattle.orc_tree.proofs.Pieces.{gt_is, below_less, put_piece}
use Rattle.orc_tree.proofs.Paged.{rows_of-at}

-- each of the paths stands after the first rows and before the last ones
abbrev AreWithin : Rows → Rows → List (List PathStep) → Type 0
AreWithin front behind ws = All (λ w. (above_all w front ≡ true) × (below_all path_cmp w behind ≡ true)) ws

put_entries-piece : (ws : List (List PathStep)) (front page behind : Rows) → AreWithin front behind ws
    → put_entries ws (front ++ (page ++ behind)) ≡ front ++ (put_entries ws page ++ behind)
put_entries-piece [] front page behind all = refl
put_entries-piece (w ∷ ws) front page behind all =
    let first = All-head (λ w. (above_all w front ≡ true) × (below_all path_cmp w behind ≡ true)) w ws all in
    ap (put_entries ws) (put_piece path_cmp path_cmp_total w Entry front page behind first.0 first.1)
    ∙ put_entries-piece ws front (put path_cmp w Entry page) behind (All-tail (λ w. (above_all w front ≡ true) × (below_all path_cmp w behind ≡ true)) w ws all)

gap_above : (w q : List PathStep) (rows : Rows) → above_all q rows ≡ true → none_between w q rows ≡ true → above_all w rows ≡ true
gap_above w q [] a n = refl
gap_above w q (row ∷ rows) a n =
    let before = and_parts (is_gt (path_cmp q row.0)) (above_all q rows) a in
    let apart = and_parts (is_gt (path_cmp w row.0) || is_lt (path_cmp q row.0)) (none_between w q rows) n in
    and_from _ _ (only (is_gt (path_cmp w row.0)) (path_cmp q row.0) (gt_is _ before.0) apart.0) (gap_above w q rows before.1 apart.1)
  where
    only : (b : Bool) (o : Ordering) → o ≡ Greater → (b || is_lt o) ≡ true → b ≡ true
    only true o g h = refl
    only false o g h = absurd (false≢true (sym (ap is_lt g) ∙ h))

gap_within : (q : List PathStep) (front page behind : Rows) (w : List PathStep) → above_all q front ≡ true → below_all path_cmp q behind ≡ true
    → (path_cmp w q ≡ Less) × (none_between w q (front ++ (page ++ behind)) ≡ true) → (above_all w front ≡ true) × (below_all path_cmp w behind ≡ true)
gap_within q front page behind w a b gap = (
  gap_above w q front a (and_parts _ _ (sym (list_all-append (λ (row : List PathStep × Item). is_gt (path_cmp w row.0) || is_lt (path_cmp q row.0)) front (page ++ behind)) ∙ gap.1)).0,
  below_less path_cmp path_cmp_total w q behind gap.0 b,
)

pub put_all_in_part : {E : Type 0} (f : E → Rows) (q : List PathStep) (v : Item) (ws : List (List PathStep)) (ps : List E) (i : ℕ) (p : E) → IsPartFor f q ps i → p ≡ get_or ps i p
    → AreGaps q (flat_map f ps) ws
    → put path_cmp q v (put_entries ws (flat_map f ps)) ≡ flat_map f (take i ps) ++ (put path_cmp q v (put_entries ws (f p)) ++ flat_map f (drop (suc i) ps))
put_all_in_part f q v ws ps i p for is gaps =
    let front = flat_map f (take i ps) in
    let behind = flat_map f (drop (suc i) ps) in
    let parts : flat_map f ps ≡ front ++ (f p ++ behind) = rows_of-at f ps i p for.within is in
    let within : AreWithin front behind ws =
    All-weaker (λ w. (path_cmp w q ≡ Less) × (none_between w q (front ++ (f p ++ behind)) ≡ true)) (λ w. (above_all w front ≡ true) × (below_all path_cmp w behind ≡ true))
    (λ w gap. gap_within q front (f p) behind w for.before for.behind gap) ws (subst (λ (r : Rows). AreGaps q r ws) parts gaps) in
    ap (λ (r : Rows). put path_cmp q v (put_entries ws r)) parts
    ∙ ap (put path_cmp q v) (put_entries-piece ws front (f p) behind within)
    ∙ put_piece path_cmp path_cmp_total q v front (put_entries ws (f p)) behind for.before for.behind

-- what has no row among all of them has none among those of a part
gap_part : (q : List PathStep) (front part behind : Rows) (w : List PathStep) → (path_cmp w q ≡ Less) × (none_between w q (front ++ (part ++ behind)) ≡ true)
    → (path_cmp w q ≡ Less) × (none_between w q part ≡ true)
gap_part q front part behind w gap =
    let test : List PathStep × Item → Bool = λ row. is_gt (path_cmp w row.0) || is_lt (path_cmp q row.0) in
    let rest : (none_between w q part && none_between w q behind) ≡ true = sym (list_all-append test part behind) ∙ (and_parts _ _ (sym (list_all-append test front (part ++ behind)) ∙ gap.1)).1 in
    (gap.0, (and_parts _ _ rest).0)

pub gaps_in_part : {E : Type 0} (f : E → Rows) (q : List PathStep) (ws : List (List PathStep)) (ps : List E) (i : ℕ) (p : E) → i < length ps → p ≡ get_or ps i p
    → AreGaps q (flat_map f ps) ws → AreGaps q (f p) ws
gaps_in_part f q ws ps i p within is gaps =
    let front = flat_map f (take i ps) in
    let behind = flat_map f (drop (suc i) ps) in
    All-weaker (λ w. (path_cmp w q ≡ Less) × (none_between w q (front ++ (f p ++ behind)) ≡ true)) (λ w. (path_cmp w q ≡ Less) × (none_between w q (f p) ≡ true))
    (λ w gap. gap_part q front (f p) behind w gap) ws (subst (λ (r : Rows). AreGaps q r ws) (rows_of-at f ps i p within is) gaps)

-- something stands where something was put
put_some : (q : List PathStep) (v : Item) (rows : Rows) → 1 ≤ length (put path_cmp q v rows)
put_some q v [] = omega arith
put_some q v (row ∷ rows) = on (path_cmp q row.0)
  where
    on : (o : Ordering) → 1 ≤ length (by_order o ((q, v) ∷ row ∷ rows) ((row.0, v) ∷ rows) (row ∷ put path_cmp q v rows))
    on Less = omega arith
    on Equal = omega arith
    on Greater = omega arith

pub some_after : {T E : Type 0} (r : Result T E) (q : List PathStep) (v : Item) (rows old new : Rows) → OnOk r (new ≡ put path_cmp q v rows) → OnErr r (new ≡ old) → 1 ≤ length old → 1 ≤ length new
some_after (Ok x) q v rows old new ok err l = subst (λ (r : Rows). 1 ≤ length r) (sym ok) (put_some q v rows)
some_after (Err e) q v rows old new ok err l = subst (λ (r : Rows). 1 ≤ length r) (sym err) l
