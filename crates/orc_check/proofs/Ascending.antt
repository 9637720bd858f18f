-- Lines in the order of their names that lead on from a place stand together, and each other one breaks nothing there.
use Rattle.std.proofs.Common.{◌≡◌, ℕ, zero, suc, ◌+◌, ◌<◌, Bool, true, false, not, ◌||◌, List, [], ◌∷◌, ◌++◌, length, take, drop, map, get_or, refl, sym, ap, ◌∙◌, arith}
use Rattle.std.specs.Prelude.{Option, Some, None, is_some, option_and_then, if◌then◌else◌}
use Rattle.std.specs.Option.{option_map_or}
use Rattle.std.specs.List.{list_any, flat_map, AllByRecursion}
use Rattle.std.specs.Ordering.{is_lt, nat_cmp, ordering_then}
use Rattle.std.specs.declared.cmp.Ordering.{Ordering}
use Rattle.std.specs.declared.cmp.Ordering.TheVariants.{Less, Equal, Greater}
use Rattle.std.specs.Cmp.{IsTotalOrder, tied_itself}
use Rattle.std.specs.Cmp.Lexicographic.{slice_cmp, lists_total, nat_list_cmp_total, bytes_decides}
use Rattle.std.specs.FinMap.{slice_cmp-IsAntisymmetric, nat_cmp-IsAntisymmetric}
use Rattle.std.proofs.lemmas.Map.Keys.{sorted_head, sorted_tail}
use Rattle.std.proofs.lemmas.Bool.{false≢true, or_from}
use Rattle.orc_path.specs.Steps.{PathStep}
use Rattle.orc_path.specs.Configurations.{Config}
use Rattle.orc_value.specs.Canon.{same_text}
use Rattle.orc_schema_nodes.specs.Names.{names_cmp}
use Rattle.orc_schema_nodes.specs.Schemas.{SchemaTable, Ascends, path_names}
use Rattle.orc_schema_nodes.specs.declared.line.SchemaLine.{SchemaLine}
use Rattle.orc_tree.proofs.Pieces.{lt_is}
use Rattle.orc_check.specs.Validity.{Breach, behind, goes_down, plain_steps, node_breaches, line_breaches}
use Rattle.orc_check.specs.inside.Lines.{leads_on, is_before}

abbrev Names : Type 0
Names = List (List ℕ)

names_total : IsTotalOrder names_cmp
names_total = lists_total nat_list_cmp_total

-- names that begin with others are not less
not_before : (place : List PathStep) (names : Names) → is_lt (names_cmp names (path_names place)) ≡ true → is_some (behind place names) ≡ false
not_before [] [] h = absurd (false≢true h)
not_before [] (x ∷ xs) h = absurd (false≢true h)
not_before (step ∷ place) [] h = refl
not_before (step ∷ place) (name ∷ names) h = on (same_text step.node name) refl (not_before place names)
  where
    on : (b : Bool) → same_text step.node name ≡ b → (is_lt (names_cmp names (path_names place)) ≡ true → is_some (behind place names) ≡ false)
        → is_some (if b then behind place names else None) ≡ false
    on false e go = refl
    on true e go =
        let same : step.node ≡ name = (bytes_decides step.node name).0 e in
        let tied : slice_cmp nat_cmp name step.node ≡ Equal =
        ap (λ (n : List ℕ). slice_cmp nat_cmp name n) same ∙ tied_itself nat_list_cmp_total name in
        go (ap (λ o. is_lt (ordering_then o (names_cmp names (path_names place)))) (sym tied) ∙ h)

-- names between those of a place and names that begin with these begin with them too
between : (place : List PathStep) (x y : Names) → is_lt (names_cmp x (path_names place)) ≡ false → names_cmp x y ≡ Less → is_some (behind place y) ≡ true
    → is_some (behind place x) ≡ true
between [] x y up less h = refl
between (step ∷ place) x [] up less h = absurd (false≢true h)
between (step ∷ place) [] (y ∷ ys) up less h = absurd (false≢true (sym up))
between (step ∷ place) (x ∷ xs) (y ∷ ys) up less h = on (same_text step.node y) refl h (between place xs ys)
  where
    by : (o : Ordering) → slice_cmp nat_cmp x step.node ≡ o → is_lt (ordering_then o (names_cmp xs (path_names place))) ≡ false
        → ordering_then o (names_cmp xs ys) ≡ Less → is_some (behind place ys) ≡ true
        → (is_lt (names_cmp xs (path_names place)) ≡ false → names_cmp xs ys ≡ Less → is_some (behind place ys) ≡ true → is_some (behind place xs) ≡ true)
        → is_some (if same_text step.node x then behind place xs else None) ≡ true
    by Less e up less h go = absurd (false≢true (sym up))
    by Greater e up less h go = absurd (false≢true (ap is_lt less))
    by Equal e up less h go =
        let same : x ≡ step.node = slice_cmp-IsAntisymmetric nat_cmp-IsAntisymmetric x step.node e in
        let is : same_text step.node x ≡ true = (bytes_decides step.node x).1 (sym same) in
        ap (λ b. is_some (if b then behind place xs else None)) is ∙ go up less h

    on : (b : Bool) → same_text step.node y ≡ b → is_some (if b then behind place ys else None) ≡ true
        → (is_lt (names_cmp xs (path_names place)) ≡ false → names_cmp xs ys ≡ Less → is_some (behind place ys) ≡ true → is_some (behind place xs) ≡ true)
        → is_some (if same_text step.node x then behind place xs else None) ≡ true
    on false e h go = absurd (false≢true h)
    on true e h go =
        let same : step.node ≡ y = (bytes_decides step.node y).0 e in
        by (slice_cmp nat_cmp x step.node) refl up (ap (λ (n : List ℕ). ordering_then (slice_cmp nat_cmp x n) (names_cmp xs ys)) same ∙ less) h go

-- ---- the lines before

less_all : (names : Names) (lines : List SchemaLine) → AllByRecursion (λ y. names_cmp names y ≡ Less) (map (λ l. l.names) lines) → (i : ℕ) (d : SchemaLine) → i < length lines
    → names_cmp names (get_or lines i d).names ≡ Less
less_all names [] all i d l = absurd (omega arith)
less_all names (x ∷ lines) all zero d l = all.0
less_all names (x ∷ lines) all (suc i) d l = less_all names lines all.1 i d (omega arith)

-- where a line is before a place, so are those before it
pub none_up_to : (place : List PathStep) (lines : List SchemaLine) → Ascends lines → (i : ℕ) (d : SchemaLine) → i < length lines → is_before place (get_or lines i d) ≡ true
    → list_any (leads_on place) (take (i + 1) lines) ≡ false
none_up_to place [] s i d l h = absurd (omega arith)
none_up_to place (x ∷ lines) s zero d l h = or_from (leads_on place x) false (not_before place x.names h) refl
none_up_to place (x ∷ lines) s (suc i) d l h =
    let further : i < length lines = omega arith in
    let less : names_cmp x.names (get_or lines i d).names ≡ Less = less_all x.names lines (sorted_head names_cmp x.names (map (λ l. l.names) lines) s) i d further in
    let before : names_cmp x.names (path_names place) ≡ Less = names_total.trans x.names (get_or lines i d).names (path_names place) less (lt_is _ h) in
    ap (λ n. list_any (leads_on place) (take n (x ∷ lines))) {x = suc i + 1} {y = suc (i + 1)} (omega arith)
    ∙ or_from (leads_on place x) (list_any (leads_on place) (take (i + 1) lines)) (not_before place x.names (ap is_lt before))
    (none_up_to place lines (sorted_tail names_cmp x.names (map (λ l. l.names) lines) s) i d further h)

-- ---- the lines after

none_after : (place : List PathStep) (x : SchemaLine) (lines : List SchemaLine) → AllByRecursion (λ y. names_cmp x.names y ≡ Less) (map (λ l. l.names) lines)
    → is_before place x ≡ false → leads_on place x ≡ false → list_any (leads_on place) lines ≡ false
none_after place x [] all up off = refl
none_after place x (y ∷ lines) all up off =
    or_from (leads_on place y) (list_any (leads_on place) lines) (not_true (leads_on place y) (λ h. false≢true (sym off ∙ between place x.names y.names up all.0 h)))
    (none_after place x lines all.1 up off)
  where
    not_true : (b : Bool) → (b ≡ true → ⊥) → b ≡ false
    not_true true f = absurd (f refl)
    not_true false f = refl

pub none_from : (place : List PathStep) (x : SchemaLine) (lines : List SchemaLine) → Ascends (x ∷ lines) → is_before place x ≡ false → leads_on place x ≡ false
    → list_any (leads_on place) (x ∷ lines) ≡ false
none_from place x lines s up off =
    or_from (leads_on place x) (list_any (leads_on place) lines) off
    (none_after place x lines (sorted_head names_cmp x.names (map (λ l. l.names) lines) s) up off)

pub ascends_drop : (n : ℕ) (lines : List SchemaLine) → Ascends lines → Ascends (drop n lines)
ascends_drop zero lines s = s
ascends_drop (suc n) [] s = s
ascends_drop (suc n) (x ∷ lines) s = ascends_drop n lines (sorted_tail names_cmp x.names (map (λ l. l.names) lines) s)

-- ---- what they break

module _ (s : SchemaTable) (c : Config) (place : List PathStep) where
  one_none : (line : SchemaLine) → leads_on place line ≡ false → line_breaches s c place line ≡ []
  one_none line h = on (behind place line.names) h
    where
      on : (o : Option Names) → is_some o ≡ false
          → option_map_or (node_breaches c line.node) (option_and_then (λ later. if goes_down s (path_names place) later then Some (place ++ plain_steps later) else None) o) []
          ≡ []
      on None h = refl
      on (Some later) h = absurd (false≢true (sym h))

  pub none_broken : (lines : List SchemaLine) → list_any (leads_on place) lines ≡ false → flat_map (line_breaches s c place) lines ≡ []
  none_broken [] h = refl
  none_broken (x ∷ lines) h = on (leads_on place x) refl h (none_broken lines)
    where
      on : (b : Bool) → leads_on place x ≡ b → (b || list_any (leads_on place) lines) ≡ false
          → (list_any (leads_on place) lines ≡ false → flat_map (line_breaches s c place) lines ≡ [])
          → (line_breaches s c place x ++ flat_map (line_breaches s c place) lines) ≡ []
      on true e h go = absurd (false≢true (sym h))
      on false e h go =
          ap (λ (bs : List Breach). bs ++ flat_map (line_breaches s c place) lines) (one_none x e) ∙ go h

pub not_not : (b : Bool) → not b ≡ true → b ≡ false
not_not true h = absurd (false≢true h)
not_not false h = refl
