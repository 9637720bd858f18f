-- The places on a path, and what is looked at below them.
use Rattle.std.proofs.Common.{◌≡◌, ◌⊎◌, ℕ, zero, suc, ◌+◌, ◌<◌, ◌≤◌, inl, inr, Bool, true, false, List, [], ◌∷◌, ◌++◌, length, take, Some, None, refl, sym, ap, subst, ◌∙◌, arith}
use Rattle.std.specs.declared.option.Option.{Option}
use Rattle.std.specs.Prelude.{if◌then◌else◌}
use Rattle.std.specs.Option.{option_map_or}
use Rattle.std.specs.List.{filter, flat_map}
use Rattle.std.specs.FinMap.{get, entries}
use Rattle.std.proofs.lemmas.Bool.{false≢true, cases_lt}
use Rattle.std.proofs.lemmas.List.{length-append}
use Rattle.orc_path.specs.Steps.{PathStep}
use Rattle.orc_path.specs.Configurations.{Config, list_of, is_entry_of}
use Rattle.orc_path.specs.declared.item.Item.{Item}
use Rattle.orc_path.proofs.ConfigurationLaws.{is_entry_of_decides, length-list_of}
use Rattle.orc_schema_nodes.specs.Schemas.{SchemaTable, Ascends, path_names}
use Rattle.orc_schema_nodes.specs.declared.line.SchemaLine.{SchemaLine}
use Rattle.orc_check.specs.Validity.{Breach, is_place, places, line_breaches, place_breaches, plain_steps}
use Rattle.orc_revalidate.specs.inside.Looked.{stands, line_at, standing_breaches, front_breaches, node_breaches_on}
use Rattle.orc_revalidate.proofs.Members.{In, in_left, in_right, in_parts, in_flat_map, in_filter, in_map, from_filter, from_map}
use Rattle.orc_revalidate.proofs.Rowed.{Path, Row, row_in, row_found}
use Rattle.orc_revalidate.proofs.Sames.{line_among, line_found}

module _ (s : SchemaTable) (c : Config) where
  -- ---- places

  -- what stands is a place, and a place is the root or stands
  pub standing_place : (place : Path) → stands s c place ≡ true → In (places s c) place
  standing_place place h = on (get c place) refl h
    where
      on : (o : Option Item) → get c place ≡ o → option_map_or (λ item. is_place s (place, item)) o false ≡ true → In (places s c) place
      on None is h = absurd (false≢true h)
      on (Some x) is h =
          inr (in_map (λ (row : Row). row.0) (filter (is_place s) (entries c)) (place, x) (in_filter (is_place s) (entries c) (place, x) (row_in c place x is) h))

  -- a row is a place's
  pub record IsPlaceRow (place : Path) (row : Row) : Type 0 where
    pub among : In (entries c) row
    pub listed : is_place s row ≡ true
    pub at : row.0 ≡ place

  pub place_row : (place : Path) → In (places s c) place → ([] ≡ place) ⊎ ((row : Row) × IsPlaceRow place row)
  place_row place (inl e) = inl e
  place_row place (inr h) =
      let found = from_map (λ (row : Row). row.0) (filter (is_place s) (entries c)) place h in
      let parts = from_filter (is_place s) (entries c) found.source found.among in
      inr (found.source, record { among = parts.0; listed = parts.1; at = found.is })

  pub row_stands : (place : Path) (row : Row) → IsPlaceRow place row → stands s c place ≡ true
  row_stands place row is =
      subst (λ (p : Path). stands s c p ≡ true) is.at
      (ap (λ (o : Option Item). option_map_or (λ (x : Item). is_place s (row.0, x)) o false) (row_found c row is.among) ∙ is.listed)

  -- ---- what is looked at below them

  standing_in : (line : SchemaLine) (place : Path) (b : Breach) → stands s c place ≡ true → In (line_breaches s c place line) b → In (standing_breaches s c line place) b
  standing_in line place b h there = subst (λ (t : Bool). In (if t then line_breaches s c place line else []) b) (sym h) there

  -- below a place that the first steps of a path are
  front_in : (line : SchemaLine) (path place : Path) (b : Breach) → In (places s c) place → In (line_breaches s c place line) b
      → (n : ℕ) → length place ≤ n → take (length place) path ≡ place → In (front_breaches s c line path n) b
  front_in line path [] b here there zero within front = there
  front_in line path (step ∷ place) b here there zero within front = absurd (omega (arith, within))
  front_in line path place b here there (suc n) within front = on (cases_lt n (length place)) (λ more. front_in line path place b here there n more front)
    where
      by : n < length place → place ≡ take (suc n) path → ([] ≡ place) ⊎ ((row : Row) × IsPlaceRow place row) → In (front_breaches s c line path (suc n)) b
      by less same (inl none) = absurd (let no : 0 ≡ length place = ap length none in omega (arith, less, no))
      by less same (inr found) =
          in_left (standing_breaches s c line (take (suc n) path)) (front_breaches s c line path n) b
          (subst (λ (p : Path). In (standing_breaches s c line p) b) same (standing_in line place b (row_stands place found.0 found.1) there))

      whole : n < length place → In (front_breaches s c line path (suc n)) b
      whole less =
          let long : length place ≡ suc n = omega (arith, within, less) in
          by less (sym front ∙ ap (λ (k : ℕ). take k path) long) (place_row place here)

      on : (n < length place) ⊎ (length place ≤ n) → (length place ≤ n → In (front_breaches s c line path n) b) → In (front_breaches s c line path (suc n)) b
      on (inl less) later = whole less
      on (inr more) later = in_right (standing_breaches s c line (take (suc n) path)) (front_breaches s c line path n) b (later more)

  -- what is broken at a node below a place is looked at on each path of the node below that place
  pub node_in : Ascends s.lines → (line : SchemaLine) (path place : Path) (b : Breach) → In s.lines line → path_names path ≡ line.names → In (places s c) place
      → take (length place) path ≡ place → length place ≤ length path → In (line_breaches s c place line) b → In (node_breaches_on s c path) b
  node_in ascends line path place b among names here front short there =
      subst (λ (o : Option SchemaLine). In (option_map_or (λ l. front_breaches s c l path (length path)) o []) b) (sym (line_found s path line ascends among names))
      (front_in line path place b here there (length path) short front)

  -- ---- and all that is looked at is a breach

  front_breach : (line : SchemaLine) (path : Path) (b : Breach) → In s.lines line → (n : ℕ) → In (front_breaches s c line path n) b → In (flat_map (place_breaches s c) (places s c)) b
  front_breach line path b among zero h = in_flat_map (place_breaches s c) (places s c) [] b (inl refl) (in_flat_map (line_breaches s c []) s.lines line b among h)
  front_breach line path b among (suc n) h =
      on (in_parts (standing_breaches s c line (take (suc n) path)) (front_breaches s c line path n) b h) (front_breach line path b among n)
    where
      by : (t : Bool) → stands s c (take (suc n) path) ≡ t → In (if t then line_breaches s c (take (suc n) path) line else []) b → In (flat_map (place_breaches s c) (places s c)) b
      by true is there = in_flat_map (place_breaches s c) (places s c) (take (suc n) path) b (standing_place (take (suc n) path) is)
          (in_flat_map (line_breaches s c (take (suc n) path)) s.lines line b among there)
      by false is there = absurd there

      on : In (standing_breaches s c line (take (suc n) path)) b ⊎ In (front_breaches s c line path n) b
          → (In (front_breaches s c line path n) b → In (flat_map (place_breaches s c) (places s c)) b) → In (flat_map (place_breaches s c) (places s c)) b
      on (inl there) later = by (stands s c (take (suc n) path)) refl there
      on (inr there) later = later there

  pub node_breach : (path : Path) (b : Breach) → In (node_breaches_on s c path) b → In (flat_map (place_breaches s c) (places s c)) b
  node_breach path b h = on (line_at s path) refl h
    where
      on : (o : Option SchemaLine) → line_at s path ≡ o → In (option_map_or (λ line. front_breaches s c line path (length path)) o []) b
          → In (flat_map (place_breaches s c) (places s c)) b
      on None is there = absurd there
      on (Some line) is there = front_breach line path b (line_among s path line is) (length path) there

-- ---- the steps that an entry's path begins with

heads : (x y : PathStep) (xs ys : Path) → x ∷ xs ≡ y ∷ ys → x ≡ y
heads x y xs ys e = cc

tails : (x y : PathStep) (xs ys : Path) → x ∷ xs ≡ y ∷ ys → xs ≡ ys
tails x y xs ys e = cc

-- an entry's path has the steps of its list's but the last
list_front : (place : Path) (next : PathStep) (later entry : Path) → list_of entry ≡ place ++ next ∷ later → take (length place) entry ≡ place
list_front [] next later entry e = refl
list_front (step ∷ place) next later [] e = absurd (omega (arith, ap length e))
list_front (step ∷ place) next later (last ∷ []) e =
    absurd (let long : length ((step ∷ place) ++ next ∷ later) ≡ length (step ∷ place) + length (next ∷ later) = length-append (step ∷ place) (next ∷ later) in
    omega (arith, ap length e, long))
list_front (step ∷ place) next later (first ∷ second ∷ rest) e =
    ap (λ (p : PathStep). p ∷ take (length place) (second ∷ rest)) (heads first step (list_of (second ∷ rest)) (place ++ next ∷ later) e)
    ∙ ap (λ (ps : Path). step ∷ ps) (list_front place next later (second ∷ rest) (tails first step (list_of (second ∷ rest)) (place ++ next ∷ later) e))

list_names : (entry : Path) → path_names (list_of entry) ≡ path_names entry
list_names [] = refl
list_names (last ∷ []) = refl
list_names (first ∷ second ∷ rest) = ap (λ (ns : List (List ℕ)). first.node ∷ ns) (list_names (second ∷ rest))

-- what is so of an entry of a list that stands below a place
pub record IsEntryBelow (place list entry : Path) : Type 0 where
  pub front : take (length place) entry ≡ place
  pub short : length place ≤ length entry
  pub names : path_names entry ≡ path_names list

pub entry_below : (place : Path) (next : List ℕ) (later : List (List ℕ)) (list entry : Path) → list ≡ place ++ plain_steps (next ∷ later) → is_entry_of list entry ≡ true
    → IsEntryBelow place list entry
entry_below place next later list entry is h =
    let own : list_of entry ≡ list = ((is_entry_of_decides list entry).0 h).1 in
    let long : length entry ≡ length place + length (plain_steps (next ∷ later)) =
    sym (length-list_of entry) ∙ ap length (own ∙ is) ∙ length-append place (plain_steps (next ∷ later)) in
    record {
      front = list_front place (record { node = next; keys = [] }) (plain_steps later) entry (own ∙ is);
      short = omega (arith, long);
      names = sym (list_names entry) ∙ ap path_names own;
    }
