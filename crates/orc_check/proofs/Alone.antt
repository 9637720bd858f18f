-- A test of rows that one path alone can meet.
use Rattle.std.proofs.Common.{◌≡◌, ◌-◌, ℕ, Bool, true, false, ◌||◌, cond, List, [], ◌∷◌, ◌++◌, length, take, drop, refl, sym, ap, subst, ◌∙◌}
use Rattle.std.specs.declared.cmp.Ordering.{Ordering}
use Rattle.std.specs.declared.cmp.Ordering.TheVariants.{Less, Equal, Greater}
use Rattle.std.specs.Ordering.{is_lt, is_eq}
use Rattle.std.specs.Prelude.{Option, Some, None, is_none, option_map}
use Rattle.std.specs.Option.{option_map_or}
use Rattle.std.specs.List.{list_any}
use Rattle.std.specs.Cmp.{tied_itself}
use Rattle.std.specs.FinMap.{find, get, entries, is_sorted, entries_sorted, get-entries}
use Rattle.std.specs.FinMap.Entries.{below_all}
use Rattle.std.proofs.lemmas.Bool.{false≢true, and_parts, or_from}
use Rattle.std.proofs.lemmas.List.{take_rest}
use Rattle.orc_path.specs.Steps.{PathStep}
use Rattle.orc_path.specs.Order.{path_cmp}
use Rattle.orc_path.specs.Configurations.{Config}
use Rattle.orc_path.specs.declared.item.Item.{Item}
use Rattle.orc_path.proofs.PathOrder.{path_cmp_total, path_cmp_exact}
use Rattle.orc_tree.proofs.InOrder.{T_is_true}
use Rattle.orc_tree.proofs.Maps.{Rows}
use Rattle.orc_schema_nodes.specs.declared.line.Target.{Target}
use Rattle.orc_check.specs.Validity.{plain_steps}
use Rattle.orc_check.specs.inside.Named.{named_path, leaf_path}

not_true : (b : Bool) → (b ≡ true → ⊥) → b ≡ false
not_true true f = absurd (f refl)
not_true false f = refl

pub or_false : (b : Bool) → (b || false) ≡ b
or_false true = refl
or_false false = refl

module _ (f : (List PathStep × Item) → Bool) (q : List PathStep) (only : (row : List PathStep × Item) → f row ≡ true → row.0 ≡ q) where
  differs : (row : List PathStep × Item) → is_eq (path_cmp q row.0) ≡ false → f row ≡ false
  differs row e = not_true (f row) (λ h. false≢true (sym e ∙ ap (λ (p : List PathStep). is_eq (path_cmp q p)) (only row h) ∙ ap is_eq (tied_itself path_cmp_total q)))

  less_differs : (r : Ordering) → is_lt r ≡ true → is_eq r ≡ false
  less_differs Less h = refl
  less_differs Equal h = absurd (false≢true h)
  less_differs Greater h = refl

  none_behind : (rows : Rows) → below_all path_cmp q rows ≡ true → list_any f rows ≡ false
  none_behind [] h = refl
  none_behind (row ∷ rows) h =
      let parts = and_parts (is_lt (path_cmp q row.0)) (below_all path_cmp q rows) h in
      or_from (f row) (list_any f rows) (differs row (less_differs (path_cmp q row.0) parts.0)) (none_behind rows parts.1)

  any_find : (rows : Rows) → is_sorted path_cmp rows ≡ true → list_any f rows ≡ option_map_or (λ item. f (q, item)) (find path_cmp q rows) false
  any_find [] s = refl
  any_find (row ∷ rows) s = on (path_cmp q row.0) refl (any_find rows parts.1)
    where
      parts : (below_all path_cmp row.0 rows ≡ true) × (is_sorted path_cmp rows ≡ true)
      parts = and_parts (below_all path_cmp row.0 rows) (is_sorted path_cmp rows) s

      passes : is_eq (path_cmp q row.0) ≡ false → list_any f rows ≡ option_map_or (λ item. f (q, item)) (find path_cmp q rows) false
          → (f row || list_any f rows) ≡ option_map_or (λ item. f (q, item)) (find path_cmp q rows) false
      passes e go = ap (λ b. b || list_any f rows) (differs row e) ∙ go

      on : (o : Ordering) → path_cmp q row.0 ≡ o → list_any f rows ≡ option_map_or (λ item. f (q, item)) (find path_cmp q rows) false
          → (f row || list_any f rows) ≡ option_map_or (λ item. f (q, item)) (cond (is_eq o) (Some row.1) (find path_cmp q rows)) false
      on Less e go = passes (ap is_eq e) go
      on Greater e go = passes (ap is_eq e) go
      on Equal e go =
          let same : q ≡ row.0 = path_cmp_exact q row.0 e in
          ap (λ b. f row || b) (none_behind rows (subst (λ (k : List PathStep). below_all path_cmp k rows ≡ true) (sym same) parts.0))
          ∙ or_false (f row) ∙ ap (λ (p : List PathStep). f (p, row.1)) (sym same)

  pub any_at : (c : Config) → list_any f (entries c) ≡ option_map_or (λ item. f (q, item)) (get c q) false
  any_at c = any_find (entries c) (T_is_true _ (entries_sorted c)) ∙ ap (λ o. option_map_or (λ item. f (q, item)) o false) (sym (get-entries c q))

-- what a test says of the row that was found at a path, or of none, at the path that this one is
module _ (none : Bool) (f : (List PathStep × Item) → Bool) where
  here_of : (q : List PathStep) (o : Option Item) (row : List PathStep × Item) → Some row ≡ option_map (λ (item : Item). (q, item)) o → f row ≡ option_map_or (λ item. f (q, item)) o none
  here_of q None row e = cc
  here_of q (Some item) row e = let same : row ≡ (q, item) = cc in ap f same

  nothing_of : (q : List PathStep) (o : Option Item) → ◌≡◌ {A = Option (List PathStep × Item)} None (option_map (λ (item : Item). (q, item)) o) → none ≡ option_map_or (λ item. f (q, item)) o none
  nothing_of q None e = refl
  nothing_of q (Some item) e = cc

  module _ {p q : List PathStep} (same : p ≡ q) (c : Config) where
    pub here : (row : List PathStep × Item) → Some row ≡ option_map (λ (item : Item). (p, item)) (get c p) → f row ≡ option_map_or (λ item. f (q, item)) (get c q) none
    here row e = subst (λ (at : List PathStep). f row ≡ option_map_or (λ item. f (at, item)) (get c at) none) same (here_of p (get c p) row e)

    pub nothing : ◌≡◌ {A = Option (List PathStep × Item)} None (option_map (λ (item : Item). (p, item)) (get c p)) → none ≡ option_map_or (λ item. f (q, item)) (get c q) none
    nothing e = subst (λ (at : List PathStep). none ≡ option_map_or (λ item. f (at, item)) (get c at) none) same (nothing_of p (get c p) e)

-- the paths that a target names, as they are lent in parts
pub named_path_is : (target : Target) (before : List (List ℕ)) (list text : List ℕ) (path : List PathStep) {front : List PathStep} → front ≡ take target.shared path
    → front ++ (plain_steps (take (length before - target.shared) (drop target.shared before)) ++ record { node = list; keys = text ∷ [] } ∷ []) ≡ named_path target before list text path
named_path_is target before list text path is =
    let last : PathStep = record { node = list; keys = text ∷ [] } in
    ap (λ (xs : List PathStep). xs ++ (plain_steps (take (length before - target.shared) (drop target.shared before)) ++ last ∷ [])) is
    ∙ ap (λ (names : List (List ℕ)). take target.shared path ++ (plain_steps names ++ last ∷ [])) (take_rest before target.shared)

pub leaf_path_is : (target : Target) (path : List PathStep) {front : List PathStep} {names : List (List ℕ)} → front ≡ take target.shared path → names ≡ target.names
    → front ++ plain_steps (take (length names - target.shared) (drop target.shared names)) ≡ leaf_path target path
leaf_path_is target path {names = names} is are =
    ap (λ (xs : List PathStep). xs ++ plain_steps (take (length names - target.shared) (drop target.shared names))) is
    ∙ ap (λ (later : List (List ℕ)). take target.shared path ++ plain_steps later) (take_rest names target.shared ∙ ap (drop target.shared) are)

pub is_there : (q : List PathStep) (o : Option Item) (row : List PathStep × Item) → Some row ≡ option_map (λ (item : Item). (q, item)) o → false ≡ is_none o
is_there q None row e = cc
is_there q (Some item) row e = refl

pub is_nowhere : (q : List PathStep) (o : Option Item) → ◌≡◌ {A = Option (List PathStep × Item)} None (option_map (λ (item : Item). (q, item)) o) → true ≡ is_none o
is_nowhere q None e = refl
is_nowhere q (Some item) e = cc
