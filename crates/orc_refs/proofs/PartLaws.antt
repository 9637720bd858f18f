-- Parts that have rows (shelves, racks), cut at one of them.
use Rattle.std.proofs.Common.{◌≡◌, ℕ, zero, suc, ◌+◌, ◌<◌, ◌≤◌, true, false, List, [], ◌∷◌, ◌++◌, length, map, take, drop, get_or, refl, sym, ap, subst, ◌∙◌, arith, eqb-true, ◌==◌}
use Rattle.std.specs.Arc.{arc_value}
use Rattle.std.specs.declared.alloc.Global.{Global}
use Rattle.std.specs.declared.sync.Arc.{Arc}
use Rattle.std.specs.declared.option.Option.{Option}
use Rattle.std.specs.Option.{option_map_or}
use Rattle.std.specs.Ordering.{is_lt}
use Rattle.std.specs.List.{All, flat_map, remove as remove_at}
use Rattle.std.specs.declared.cmp.Ordering.{Ordering}
use Rattle.std.specs.declared.cmp.Ordering.TheVariants.{Less, Equal, Greater}
use Rattle.std.specs.FinMap.{find, is_sorted, from_sorted}
use Rattle.std.specs.FinMap.Entries.{below_all}
use Rattle.std.proofs.lemmas.Bool.{false≢true, and_parts, and_from}
use Rattle.std.proofs.lemmas.List.{append_assoc, append_cancel_left, take-append-drop, drop_more, get_or-map, length-map, nil_from_length}
use Rattle.std.proofs.lemmas.List.Concat.{flat_map-append}
use Rattle.std.proofs.lemmas.List.Folds.{flat_map-map}
use Rattle.std.proofs.lemmas.List.Elements.{All-map}
use Rattle.orc_path.specs.Steps.{PathStep}
use Rattle.orc_path.specs.Order.{path_cmp}
use Rattle.orc_path.proofs.PathOrder.{path_cmp_total, path_cmp_exact}
use Rattle.orc_tree.proofs.Pieces.{lt_is, below_less, above_greater, sorted_behind, sorted_front, sorted_before, find_piece}
use Rattle.orc_refs.specs.Stores.{ids_in}
use Rattle.orc_refs.specs.inside.Shelves.{IsPartFor, all_before, starts_behind}
use Rattle.orc_refs.proofs.RowLaws.{BackRows, get-rows, ids-none}

abbrev Ids : Type 0
Ids = List (List ℕ)

-- the rows before a part, its own, and those after it
pub parts-at : {X : Type 0} (f : X → BackRows) (ps : List X) (i : ℕ) (p : X) → i < length ps → p ≡ get_or ps i p
    → flat_map f ps ≡ flat_map f (take i ps) ++ (f p ++ flat_map f (drop (suc i) ps))
parts-at {X} f ps i p l is =
    let next : i + 1 ≡ suc i = omega arith in
    ap (flat_map f) (sym (take-append-drop i ps)) ∙ flat_map-append f (take i ps) (drop i ps)
    ∙ ap (λ (qs : List X). flat_map f (take i ps) ++ flat_map f qs) (drop_more ps i p l ∙ ap (λ n. get_or ps i p ∷ drop n ps) next)
    ∙ ap (λ (x : X). flat_map f (take i ps) ++ (f x ++ flat_map f (drop (suc i) ps))) (sym is)

-- The search for a part

starts_less : (q : List PathStep) (part rest : BackRows) → is_sorted path_cmp (part ++ rest) ≡ true → starts_behind q part ≡ true → below_all path_cmp q (part ++ rest) ≡ true
starts_less q [] rest s h = absurd (false≢true h)
starts_less q (row ∷ part) rest s h =
    and_from _ _ h (below_less path_cmp path_cmp_total q row.0 (part ++ rest) (lt_is _ h) (and_parts (below_all path_cmp row.0 (part ++ rest)) _ s).0)

pub behind_part : {X : Type 0} (f : X → BackRows) (q : List PathStep) (ps : List X) (i : ℕ) (p : X) → is_sorted path_cmp (flat_map f ps) ≡ true → i < length ps → p ≡ get_or ps i p
    → starts_behind q (f p) ≡ true → below_all path_cmp q (flat_map f (drop i ps)) ≡ true
behind_part {X} f q ps i p s l is h =
    let parts : drop i ps ≡ p ∷ drop (i + 1) ps = drop_more ps i p l ∙ ap (λ (x : X). x ∷ drop (i + 1) ps) (sym is) in
    let cut : flat_map f ps ≡ flat_map f (take i ps) ++ flat_map f (drop i ps) = ap (flat_map f) (sym (take-append-drop i ps)) ∙ flat_map-append f (take i ps) (drop i ps) in
    let sorted : is_sorted path_cmp (flat_map f (drop i ps)) ≡ true = sorted_behind path_cmp path_cmp_total (flat_map f (take i ps)) (flat_map f (drop i ps)) (ap (is_sorted path_cmp) (sym cut) ∙ s) in
    ap (λ (qs : List X). below_all path_cmp q (flat_map f qs)) parts
    ∙ starts_less q (f p) (flat_map f (drop (i + 1) ps)) (ap (λ (qs : List X). is_sorted path_cmp (flat_map f qs)) (sym parts) ∙ sorted) h

not_less : (a b : List PathStep) (x : BackRows) → is_lt (path_cmp a b) ≡ false → all_before b x ≡ true → all_before a x ≡ true
not_less a b x h above = on (path_cmp a b) refl h
  where
    on : (r : Ordering) → path_cmp a b ≡ r → is_lt r ≡ false → all_before a x ≡ true
    on Less e h = absurd (false≢true (sym h))
    on Equal e h = subst (λ (k : List PathStep). all_before k x ≡ true) (sym (path_cmp_exact a b e)) above
    on Greater e h = above_greater path_cmp path_cmp_total a b x e above

starts_above : (q : List PathStep) (front part rest : BackRows) → is_sorted path_cmp (front ++ (part ++ rest)) ≡ true → 1 ≤ length part → starts_behind q part ≡ false → all_before q front ≡ true
starts_above q front [] rest s l h = absurd (omega arith)
starts_above q front (row ∷ part) rest s l h = not_less q row.0 front h (sorted_before path_cmp path_cmp_total front row (part ++ rest) s)

pub before_part : {X : Type 0} (f : X → BackRows) (q : List PathStep) (ps : List X) (i : ℕ) (p : X) → is_sorted path_cmp (flat_map f ps) ≡ true → All (λ (x : X). 1 ≤ length (f x)) ps
    → i < length ps → p ≡ get_or ps i p → starts_behind q (f p) ≡ false → all_before q (flat_map f (take i ps)) ≡ true
before_part {X} f q ps i p s full l is h =
    let long : 1 ≤ length (f p) = subst (λ (x : X). 1 ≤ length (f x)) (sym is) (full i p l) in
    starts_above q (flat_map f (take i ps)) (f p) (flat_map f (drop (suc i) ps)) (ap (is_sorted path_cmp) (sym (parts-at f ps i p l is)) ∙ s) long h

-- One part among the others

pub sorted_part : {X : Type 0} (f : X → BackRows) (ps : List X) (i : ℕ) (p : X) → is_sorted path_cmp (flat_map f ps) ≡ true → i < length ps → p ≡ get_or ps i p
    → is_sorted path_cmp (f p) ≡ true
sorted_part f ps i p s l is =
    sorted_front path_cmp path_cmp_total (f p) (flat_map f (drop (suc i) ps))
    (sorted_behind path_cmp path_cmp_total (flat_map f (take i ps)) (f p ++ flat_map f (drop (suc i) ps)) (ap (is_sorted path_cmp) (sym (parts-at f ps i p l is)) ∙ s))

-- what a path has on its part it has
pub ids-on_part : {X : Type 0} (f : X → BackRows) (q : List PathStep) (ps : List X) (i : ℕ) (p : X) → is_sorted path_cmp (flat_map f ps) ≡ true → IsPartFor f q ps i → p ≡ get_or ps i p
    → ids_in (from_sorted (f p)) q ≡ ids_in (from_sorted (flat_map f ps)) q
ids-on_part f q ps i p s for is =
    ap (λ (o : Option Ids). option_map_or (λ (x : Ids). x) o [])
    (get-rows (f p) q (sorted_part f ps i p s for.within is)
    ∙ sym (get-rows (flat_map f ps) q s ∙ ap (find path_cmp q) (parts-at f ps i p for.within is)
    ∙ find_piece path_cmp path_cmp_total q (flat_map f (take i ps)) (f p) (flat_map f (drop (suc i) ps)) for.before for.behind))

-- without a part no path has back pointers
pub ids-no_part : {X : Type 0} (f : X → BackRows) (q : List PathStep) (ps : List X) → (length ps == 0) ≡ true → [] ≡ ids_in (from_sorted (flat_map f ps)) q
ids-no_part {X} f q ps e =
    let none : ps ≡ [] = nil_from_length ps (eqb-true (length ps) 0 e) in
    sym (ap (λ (x : List X). ids_in (from_sorted (flat_map f x)) q) none ∙ ids-none _ (get-rows [] q refl))

-- Parts put among others

-- one part put at a place, and then another one there
pub inserted_twice : {X : Type 0} (f : X → BackRows) (old new : List X) (i : ℕ) (front behind rows : BackRows) → take i new ≡ take i old
    → flat_map f new ≡ flat_map f (take i old) ++ (behind ++ flat_map f (drop i old)) → front ++ behind ≡ rows
    → flat_map f (take i new) ++ (front ++ flat_map f (drop i new)) ≡ flat_map f (take i old) ++ (rows ++ flat_map f (drop i old))
inserted_twice {X} f old new i front behind rows same is whole =
    let cut : flat_map f new ≡ flat_map f (take i old) ++ flat_map f (drop i new) =
    ap (flat_map f) (sym (take-append-drop i new)) ∙ flat_map-append f (take i new) (drop i new) ∙ ap (λ (qs : List X). flat_map f qs ++ flat_map f (drop i new)) same in
    let rest : flat_map f (drop i new) ≡ behind ++ flat_map f (drop i old) = append_cancel_left (flat_map f (take i old)) _ _ (sym cut ∙ is) in
    ap (λ (qs : List X). flat_map f qs ++ (front ++ flat_map f (drop i new))) same
    ∙ ap (λ (r : BackRows). flat_map f (take i old) ++ (front ++ r)) rest
    ∙ ap (λ (r : BackRows). flat_map f (take i old) ++ r) (sym (append_assoc front behind (flat_map f (drop i old))) ∙ ap (λ (r : BackRows). r ++ flat_map f (drop i old)) whole)

-- no rows put anywhere
pub nothing_inserted : {X : Type 0} (f : X → BackRows) (ps : List X) (i : ℕ) (rows : BackRows) → rows ≡ [] → flat_map f ps ≡ flat_map f (take i ps) ++ (rows ++ flat_map f (drop i ps))
nothing_inserted f ps i rows none =
    ap (flat_map f) (sym (take-append-drop i ps)) ∙ flat_map-append f (take i ps) (drop i ps)
    ∙ ap (λ (r : BackRows). flat_map f (take i ps) ++ (r ++ flat_map f (drop i ps))) (sym none)

pub none_from_len : {X : Type 0} (xs : List X) (n : ℕ) → n ≡ length xs → (n == 0) ≡ true → xs ≡ []
none_from_len xs n is e = nil_from_length xs (sym is ∙ eqb-true n 0 e)

-- A part taken out of others

pub remove-front : {X : Type 0} (ps : List X) (i : ℕ) → i < length ps → take i (remove_at ps i) ≡ take i ps
remove-front [] i l = absurd (omega arith)
remove-front (q ∷ ps) zero l = refl
remove-front {X} (q ∷ ps) (suc i) l = ap (λ (r : List X). q ∷ r) (remove-front ps i (omega arith))

pub remove-behind : {X : Type 0} (ps : List X) (i : ℕ) → i < length ps → drop i (remove_at ps i) ≡ drop (suc i) ps
remove-behind [] i l = absurd (omega arith)
remove-behind (q ∷ ps) zero l = refl
remove-behind (q ∷ ps) (suc i) l = remove-behind ps i (omega arith)

-- Parts held by other owners

pub flat-values : {V : Type 0} (f : V → BackRows) (ps qs : List (Arc V Global)) → map arc_value ps ≡ map arc_value qs
    → flat_map (λ (p : Arc V Global). f (arc_value p)) ps ≡ flat_map (λ (p : Arc V Global). f (arc_value p)) qs
flat-values f ps qs same = sym (flat_map-map f arc_value ps) ∙ ap (flat_map f) same ∙ flat_map-map f arc_value qs

pub All-values : {V : Type 0} (P : V → Type 0) (ps qs : List (Arc V Global)) → map arc_value ps ≡ map arc_value qs
    → All (λ (p : Arc V Global). P (arc_value p)) qs → All (λ (p : Arc V Global). P (arc_value p)) ps
All-values {V} P ps qs same all = λ k d l.
    subst P (get_or-map arc_value ps k d (arc_value d) l) (subst (All P) (sym same) (All-map P arc_value qs all) k (arc_value d) (subst (λ n. k < n) (sym (length-map ps arc_value)) l))
