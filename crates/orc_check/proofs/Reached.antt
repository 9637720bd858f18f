-- The names after those of a place, and the nodes that are reached by them.
use Rattle.std.proofs.Common.{◌≡◌, ℕ, ◌+◌, ◌<◌, ◌≤◌, Bool, true, false, ◌&&◌, List, [], ◌∷◌, ◌++◌, length, take, drop, get_or, refl, sym, ap, ◌∙◌, arith}
use Rattle.std.specs.Prelude.{Some, None, option_and_then, if◌then◌else◌}
use Rattle.std.specs.Cmp.Lexicographic.{bytes_decides}
use Rattle.std.proofs.lemmas.List.{drop_more, drop_all, take_more}
use Rattle.orc_path.specs.Steps.{PathStep}
use Rattle.orc_value.specs.Canon.{same_text}
use Rattle.orc_schema_nodes.specs.Schemas.{SchemaTable, path_names, node_at}
use Rattle.orc_check.specs.Validity.{is_container, behind, goes_down, reached}
use Rattle.orc_check.specs.inside.Lent.{reached_names}

abbrev Names : Type 0
Names = List (List ℕ)

module _ (s : SchemaTable) (names : Names) (above : ℕ) where
  pub down_last : above + 1 ≡ length names → goes_down s (take above names) (drop above names) ≡ true
  down_last e =
      let within : above < length names = omega arith in
      let short : length names ≤ above + 1 = omega arith in
      ap (λ (ns : Names). goes_down s (take above names) ns) (drop_more names above [] within ∙ ap (λ (ns : Names). get_or names above [] ∷ ns) (drop_all (above + 1) names short))

  pub down_next : above + 1 < length names
      → goes_down s (take above names) (drop above names) ≡ (is_container (node_at s (take (above + 1) names)) && goes_down s (take (above + 1) names) (drop (above + 1) names))
  down_next l =
      let within : above < length names = omega arith in
      let first = get_or names above [] in
      let next = get_or names (above + 1) [] in
      let rest = drop (above + 1 + 1) names in
      let longer : take (above + 1) names ≡ take above names ++ first ∷ [] = take_more names above [] within in
      let last : drop (above + 1) names ≡ next ∷ rest = drop_more names (above + 1) [] l in
      ap (λ (ns : Names). goes_down s (take above names) ns) (drop_more names above [] within ∙ ap (λ (ns : Names). first ∷ ns) last)
      ∙ ap (λ (ns : Names). is_container (node_at s ns) && goes_down s ns (next ∷ rest)) (sym longer)
      ∙ ap (λ (ns : Names). is_container (node_at s (take (above + 1) names)) && goes_down s (take (above + 1) names) ns) (sym last)

-- the names are those of the steps, and then the others
pub record Behind (steps : List PathStep) (names later : Names) : Type 0 where
  pub within : length steps ≤ length names
  pub front : take (length steps) names ≡ path_names steps
  pub back : drop (length steps) names ≡ later

pub is_behind : (steps : List PathStep) (names later : Names) → behind steps names ≡ Some later → Behind steps names later
is_behind [] names later h =
    let same : names ≡ later = cc in
    record { within = omega arith; front = refl; back = same }
is_behind (step ∷ steps) [] later h = cc
is_behind (step ∷ steps) (name ∷ names) later h = on (same_text step.node name) refl (is_behind steps names later) h
  where
    on : (b : Bool) → same_text step.node name ≡ b → (behind steps names ≡ Some later → Behind steps names later)
        → (if b then behind steps names else None) ≡ Some later → Behind (step ∷ steps) (name ∷ names) later
    on false e go h = cc
    on true e go h =
        let more = go h in
        let same : step.node ≡ name = (bytes_decides step.node name).0 e in
        let within : length steps ≤ length names = more.within in
        record {
          within = omega arith;
          front = ap (λ (n : List ℕ). n ∷ take (length steps) names) (sym same) ∙ ap (λ (ns : Names). step.node ∷ ns) more.front;
          back = more.back;
        }

module _ (s : SchemaTable) (place : List PathStep) (names : Names) where
  -- the test on all names, cut after the place's
  pub down_behind : (later : Names) (down : Bool) → Some later ≡ behind place names → down ≡ goes_down s (take (length place) names) (drop (length place) names)
      → (if down then Some later else None) ≡ reached_names s place names
  down_behind later down e h =
      let is = is_behind place names later (sym e) in
      ap (λ b. if b then Some later else None)
      (h ∙ ap (λ (ns : Names). goes_down s ns (drop (length place) names)) is.front ∙ ap (λ (ns : Names). goes_down s (path_names place) ns) is.back)
      ∙ ap (option_and_then (λ l. if goes_down s (path_names place) l then Some l else None)) e
