-- The rows of a configuration that keeps the rules of kinds and keys are typed.
use Rattle.std.proofs.Common.{◌≡◌, ℕ, zero, suc, ◌+◌, ◌<◌, Bool, true, false, cond, not, ◌&&◌, ◌||◌, nat_lt, List, [], ◌∷◌, ◌++◌, length, take, get_or, refl, sym, ap, subst, ◌∙◌, arith, append_assoc}
use Rattle.std.specs.declared.cmp.Ordering.{Ordering}
use Rattle.std.specs.declared.cmp.Ordering.TheVariants.{Less, Equal, Greater}
use Rattle.std.specs.Prelude.{Option, Some, None, is_some, All, IsSome, if◌then◌else◌}
use Rattle.std.specs.Ordering.{is_eq}
use Rattle.std.specs.Cmp.{tied_itself}
use Rattle.std.specs.FinMap.{find, get, entries, get-entries}
use Rattle.std.specs.List.{flat_map}
use Rattle.std.proofs.lemmas.Bool.{false≢true, true≢false, and_parts, and_from, or_right, lt-ltb}
use Rattle.std.proofs.lemmas.List.{map-append, length-append}
use Rattle.std.proofs.Math.Seq.{take-append_seam}
use Rattle.std.proofs.lemmas.List.Elements.{All-nil, All-cons, All-head, All-tail, All-weaker}
use Rattle.orc_path.specs.Steps.{PathStep, has_keys, ends_in_keys}
use Rattle.orc_path.specs.Order.{path_cmp}
use Rattle.orc_path.specs.Configurations.{Config, IsWay, IsConfig}
use Rattle.orc_path.specs.declared.item.Item.{Item}
use Rattle.orc_path.specs.declared.item.Item.TheVariants as item
use Rattle.orc_path.proofs.ConfigurationLaws.{is_entry-some}
use Rattle.orc_path.proofs.PathOrder.{path_cmp_total, path_cmp_exact}
use Rattle.orc_schema_nodes.specs.Schemas.{SchemaTable, path_names, kind_at_path}
use Rattle.orc_typed.specs.Typed.{is_in_schema, kinds_at, are_canonical_keys, has_canonical_keys, are_canonical_steps, each_step, is_canonical_value}
use Rattle.orc_check.specs.declared.rules.TheConstants.{KIND, KEY, LEAFREF}
use Rattle.orc_check.specs.Validity.{Breach, breach_if, last_keys, is_of_kind, row_breaches, least_breach, breaches, broken_of}
use Rattle.orc_check.specs.TypedRows.{is_type_rule, KeepsTypes, IsTypedRow, ValidIsTyped}
use Rattle.orc_check.proofs.Least.{least_is}

abbrev Path : Type 0
Path = List PathStep

abbrev Row : Type 0
Row = Path × Item

-- ---- rows and look-ups

still_some : (b : Bool) (x : Item) (o : Option Item) → is_some o ≡ true → is_some (cond b (Some x) o) ≡ true
still_some true x o h = refl
still_some false x o h = h

-- the path of a row finds an item
row_found : (rows : List Row) (i : ℕ) (d : Row) → i < length rows → is_some (find path_cmp (get_or rows i d).0 rows) ≡ true
row_found [] i d lt = absurd (omega arith)
row_found (row ∷ rows) zero d lt = ap (λ r. is_some (cond (is_eq r) (Some row.1) (find path_cmp row.0 rows))) (tied_itself path_cmp_total row.0)
row_found (row ∷ rows) (suc i) d lt =
    still_some (is_eq (path_cmp (get_or rows i d).0 row.0)) row.1 (find path_cmp (get_or rows i d).0 rows) (row_found rows i d (omega arith))

same_some : (x y : Item) → Some x ≡ Some y → x ≡ y
same_some x y e = cc

-- what is so of each row is so of what is found
found_row : (P : Row → Type 0) (rows : List Row) (q : Path) (x : Item) → All P rows → find path_cmp q rows ≡ Some x → P (q, x)
found_row P [] q x h e = let not_so : ⊥ = cc in absurd not_so
found_row P (row ∷ rows) q x h e = on (path_cmp q row.0) refl (found_row P rows q x (All-tail P row rows h))
  where
    passed : (r : Ordering) → path_cmp q row.0 ≡ r → is_eq r ≡ false → find path_cmp q rows ≡ Some x
    passed r is no_tie = sym (ap (λ o. cond (is_eq o) (Some row.1) (find path_cmp q rows)) is ∙ ap (λ b. cond b (Some row.1) (find path_cmp q rows)) no_tie) ∙ e

    on : (r : Ordering) → path_cmp q row.0 ≡ r → (find path_cmp q rows ≡ Some x → P (q, x)) → P (q, x)
    on Less is later = later (passed Less is refl)
    on Greater is later = later (passed Greater is refl)
    on Equal is later =
        let text : row.1 ≡ x = same_some row.1 x (sym (ap (λ o. cond (is_eq o) (Some row.1) (find path_cmp q rows)) is) ∙ e) in
        let at : q ≡ row.0 = path_cmp_exact q row.0 is in
        subst (λ (p : Path). P (p, x)) (sym at) (subst (λ (y : Item). P (row.0, y)) text (All-head P row rows h))

-- ---- what a row breaks

abbrev IsOther : Breach → Type 0
IsOther breach = is_type_rule breach.rule ≡ false

abbrev three : Bool → Bool → Bool → Path → List Breach
three kind keys link path = breach_if (not kind) path KIND ++ (breach_if (not keys) path KEY ++ breach_if link path LEAFREF)

of_kind : (kind keys link : Bool) (path : Path) → All IsOther (three kind keys link path) → kind ≡ true
of_kind true keys link path h = refl
of_kind false keys link path h =
    absurd (true≢false (All-head IsOther (record { path = path; rule = KIND }) (breach_if (not keys) path KEY ++ breach_if link path LEAFREF) h))

of_keys : (kind keys link : Bool) (path : Path) → All IsOther (three kind keys link path) → keys ≡ true
of_keys true true link path h = refl
of_keys true false link path h = absurd (true≢false (All-head IsOther (record { path = path; rule = KEY }) (breach_if link path LEAFREF) h))
of_keys false keys link path h = absurd (false≢true (of_kind false keys link path h))

others : (kind keys link : Bool) (path : Path) → kind ≡ true → keys ≡ true → All IsOther (three kind keys link path)
others true true true path a b = All-cons IsOther (record { path = path; rule = LEAFREF }) [] refl (All-nil IsOther)
others true true false path a b = All-nil IsOther
others true false link path a b = absurd (false≢true b)
others false keys link path a b = absurd (false≢true a)

-- ---- the last step of a path

last_keys-push : (front : Path) (last : PathStep) → last_keys (front ++ last ∷ []) ≡ last.keys
last_keys-push [] last = refl
last_keys-push (s ∷ []) last = refl
last_keys-push (s ∷ t ∷ ss) last = last_keys-push (t ∷ ss) last

ends_in_keys-push : (front : Path) (last : PathStep) → ends_in_keys (front ++ last ∷ []) ≡ has_keys last
ends_in_keys-push [] last = refl
ends_in_keys-push (s ∷ []) last = refl
ends_in_keys-push (s ∷ t ∷ ss) last = ends_in_keys-push (t ∷ ss) last

-- the keys of the last step are canonical
abbrev own_keys : SchemaTable → Path → Bool
own_keys s path = are_canonical_keys (kinds_at s (path_names path)) (last_keys path)

-- where each step has canonical keys, the last one has
last_step : (s : SchemaTable) (above : List (List ℕ)) (steps : Path) → each_step (has_canonical_keys s) above steps ≡ true
    → are_canonical_keys (kinds_at s (above ++ path_names steps)) (last_keys steps) ≡ true
last_step s above [] h = refl
last_step s above (step ∷ []) h = (and_parts (has_canonical_keys s (above ++ step.node ∷ []) step) true h).0
last_step s above (step ∷ next ∷ later) h =
    let names = above ++ step.node ∷ [] in
    let rest = (and_parts (has_canonical_keys s names step) (each_step (has_canonical_keys s) names (next ∷ later)) h).1 in
    subst (λ (ns : List (List ℕ)). are_canonical_keys (kinds_at s ns) (last_keys (next ∷ later)) ≡ true)
    (append_assoc above (step.node ∷ []) (path_names (next ∷ later))) (last_step s names (next ∷ later) rest)

-- a prefix of a path that ends in keys is on its way
is_way : (front : Path) (step next : PathStep) (later path : Path) → path ≡ front ++ step ∷ next ∷ later → has_keys step ≡ true → IsWay (front ++ step ∷ []) path
is_way front step next later path e keyed =
    let cut : path ≡ (front ++ step ∷ []) ++ next ∷ later = e ∙ sym (append_assoc front (step ∷ []) (next ∷ later)) in
    let long : length path ≡ length (front ++ step ∷ []) + length (next ∷ later) = ap length cut ∙ length-append (front ++ step ∷ []) (next ∷ later) in
    record {
      shorter = omega (arith, long);
      begins = sym (ap (take (length (front ++ step ∷ []))) cut ∙ take-append_seam (front ++ step ∷ []) (next ∷ later));
      keyed = ends_in_keys-push front step ∙ keyed;
    }

module _ (s : SchemaTable) (c : Config) where
  -- ---- rows that keep the rules

  module _ (is : IsConfig c) (keep : All (KeepsTypes s c) (entries c)) where
    keys_kept : (row : Row) → KeepsTypes s c row → own_keys s row.0 ≡ true
    keys_kept row h = of_keys (is_of_kind s row) (own_keys s row.0) _ row.0 h

    -- what is so of each row is so where an item is found
    found_keeps : (path : Path) (x : Item) → get c path ≡ Some x → KeepsTypes s c (path, x)
    found_keeps path x e = found_row (KeepsTypes s c) (entries c) path x keep (sym (get-entries c path) ∙ e)

    module _ (path : Path) (there : IsSome (get c path)) (own : own_keys s path ≡ true) where
      -- the keys of each step are canonical, by the row of the path that ends there
      at_step : (front : Path) (step : PathStep) (later : Path) → path ≡ front ++ step ∷ later → own_keys s (front ++ step ∷ []) ≡ true
      at_step front step [] e = subst (λ (p : Path). own_keys s p ≡ true) e own
      at_step front step (next ∷ later) e = on step.keys refl
        where
          on : (keys : List (List ℕ)) → step.keys ≡ keys → own_keys s (front ++ step ∷ []) ≡ true
          on [] none = ap (are_canonical_keys (kinds_at s (path_names (front ++ step ∷ [])))) (last_keys-push front step ∙ none)
          on (key ∷ keys) some =
              let keyed : has_keys step ≡ true = ap (λ ks. nat_lt 0 (length ks)) some ∙ lt-ltb 0 (length (key ∷ keys)) (omega arith) in
              let way = is_way front step next later path e keyed in
              keys_kept (front ++ step ∷ [], item.Entry)
              (found_keeps (front ++ step ∷ []) item.Entry (is_entry-some (get c (front ++ step ∷ [])) (is.ways path (front ++ step ∷ []) there way)))

      steps_from : (above later : Path) → path ≡ above ++ later → each_step (has_canonical_keys s) (path_names above) later ≡ true
      steps_from above [] e = refl
      steps_from above (step ∷ later) e =
          let names : path_names (above ++ step ∷ []) ≡ path_names above ++ step.node ∷ [] = map-append (λ (t : PathStep). t.node) above (step ∷ []) in
          let here : has_canonical_keys s (path_names above ++ step.node ∷ []) step ≡ true =
          ap (λ (ns : List (List ℕ)). are_canonical_keys (kinds_at s ns) step.keys) (sym names)
          ∙ ap (are_canonical_keys (kinds_at s (path_names (above ++ step ∷ [])))) (sym (last_keys-push above step))
          ∙ at_step above step later e in
          and_from (has_canonical_keys s (path_names above ++ step.node ∷ []) step) (each_step (has_canonical_keys s) (path_names above ++ step.node ∷ []) later) here
          (subst (λ (ns : List (List ℕ)). each_step (has_canonical_keys s) ns later ≡ true) names
          (steps_from (above ++ step ∷ []) later (e ∙ sym (append_assoc above (step ∷ []) later))))

    row_typed : (row : Row) → IsSome (get c row.0) → KeepsTypes s c row → IsTypedRow s row
    row_typed row there h =
        let kind = and_parts (is_in_schema s row.0 row.1) (is_canonical_value (kind_at_path s row.0) row.1) (of_kind (is_of_kind s row) (own_keys s row.0) _ row.0 h) in
        or_right s.plain (is_in_schema s row.0 row.1 && (are_canonical_steps s [] row.0 && is_canonical_value (kind_at_path s row.0) row.1))
        (and_from (is_in_schema s row.0 row.1) (are_canonical_steps s [] row.0 && is_canonical_value (kind_at_path s row.0) row.1) kind.0
        (and_from (are_canonical_steps s [] row.0) (is_canonical_value (kind_at_path s row.0) row.1) (steps_from row.0 there (keys_kept row h) [] row.0 refl) kind.1))

    typed_rows : All (IsTypedRow s) (entries c)
    typed_rows i d lt =
        row_typed (get_or (entries c) i d) (ap is_some (get-entries c (get_or (entries c) i d).0) ∙ row_found (entries c) i d lt) (keep i d lt)

  -- ---- rows that are typed

  row_kept : s.plain ≡ false → (row : Row) → IsTypedRow s row → KeepsTypes s c row
  row_kept modules row h =
      let inside = is_in_schema s row.0 row.1 in
      let steps = are_canonical_steps s [] row.0 in
      let value = is_canonical_value (kind_at_path s row.0) row.1 in
      let parts = and_parts inside (steps && value) (sym (ap (λ b. b || (inside && (steps && value))) modules) ∙ h) in
      let canonical = and_parts steps value parts.1 in
      others (is_of_kind s row) (own_keys s row.0) _ row.0 (and_from inside value parts.0 canonical.1) (last_step s [] row.0 canonical.0)

  -- ---- where nothing is broken

  front_nil : (xs ys : List Breach) → xs ++ ys ≡ [] → xs ≡ []
  front_nil [] ys e = refl
  front_nil (x ∷ xs) ys e = cc

  back_nil : (xs ys : List Breach) → xs ++ ys ≡ [] → ys ≡ []
  back_nil [] ys e = e
  back_nil (x ∷ xs) ys e = cc

  none_broken : (f : Row → List Breach) (rows : List Row) → flat_map f rows ≡ [] → All (λ row. f row ≡ []) rows
  none_broken f [] e = All-nil (λ row. f row ≡ [])
  none_broken f (row ∷ rows) e =
      All-cons (λ row. f row ≡ []) row rows (front_nil (f row) (flat_map f rows) e) (none_broken f rows (back_nil (f row) (flat_map f rows) e))

  none_keep : s.plain ≡ false → broken_of s c ≡ None → All (KeepsTypes s c) (entries c)
  none_keep modules e =
      let least : least_breach (breaches s c) ≡ None = sym (ap (λ b. if b then None else least_breach (breaches s c)) modules) ∙ e in
      let none : breaches s c ≡ [] = (least_is (breaches s c)).none least in
      All-weaker (λ row. row_breaches s c row ≡ []) (KeepsTypes s c) (λ row h. subst (All IsOther) (sym h) (All-nil IsOther)) (entries c)
      (none_broken (row_breaches s c) (entries c) (front_nil (flat_map (row_breaches s c) (entries c)) _ none))

pub types_are_kept : ValidIsTyped
types_are_kept s c modules is = record {
  typed = typed_rows s c is;
  kept = All-weaker (IsTypedRow s) (KeepsTypes s c) (row_kept s c modules) (entries c);
  found = λ keep path x at. found_row (IsTypedRow s) (entries c) path x (typed_rows s c is keep) (sym (get-entries c path) ∙ at);
  valid = none_keep s c modules;
}
