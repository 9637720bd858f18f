-- Where the schema lets an item stand, it lets the entries on the way to it stand, too.
use Rattle.std.proofs.Common.{◌≡◌, ℕ, zero, suc, Bool, true, false, ◌&&◌, ◌||◌, nat_eq, nat_lt, List, [], ◌∷◌, ◌++◌, length, take, is_some, None, Some, refl, sym, subst, arith, append_assoc}
use Rattle.std.specs.Prelude.{Option}
use Rattle.std.specs.Option.{option_map_or}
use Rattle.std.specs.Cmp.{first_so, second_so}
use Rattle.std.proofs.lemmas.Bool.{and_from, eqb-true, false≢true}
use Rattle.orc_path.specs.Steps.{PathStep, ends_in_keys, has_keys}
use Rattle.orc_path.specs.Configurations.{IsWay}
use Rattle.orc_path.specs.declared.item.Item.{Item}
use Rattle.orc_path.specs.declared.item.Item.TheVariants.{Entry}
use Rattle.orc_schema_nodes.specs.Schemas.{SchemaTable, kind_at_path, node_at, path_names}
use Rattle.orc_schema_nodes.specs.declared.line.Node.{Node}
use Rattle.orc_schema_nodes.specs.declared.line.Node.TheVariants.{Container, List as ListOf, Leaf, LeafList}
use Rattle.orc_typed.specs.Typed.{are_canonical_steps, carries, each_step, has_canonical_keys, is_canonical_value, is_carried, is_typed, stand, stands_at, step_kinds}

-- what is so of each step of a path is so of each step of a prefix
front_steps : (test : List (List ℕ) → PathStep → Bool) (above : List (List ℕ)) (n : ℕ) (steps : List PathStep)
    → each_step test above steps ≡ true → each_step test above (take n steps) ≡ true
front_steps test above zero steps h = refl
front_steps test above (suc n) [] h = refl
front_steps test above (suc n) (step ∷ later) h =
    let names = above ++ step.node ∷ [] in
    and_from (test names step) (each_step test names (take n later)) (first_so (test names step) (each_step test names later) h)
    (front_steps test names n later (second_so (test names step) (each_step test names later) h))

no_keys : (keys : List (List ℕ)) → nat_eq (length keys) 0 ≡ true → nat_lt 0 (length keys) ≡ true → ⊥
no_keys [] none some = false≢true some
no_keys (key ∷ keys) none some = let nothing : length (key ∷ keys) ≡ 0 = eqb-true _ _ none in absurd (omega (arith, nothing))

module _ (s : SchemaTable) where
  -- a node of which a step has keys carries an entry
  keyed_carries : (names : List (List ℕ)) (step : PathStep) (o : Option Node)
      → (is_some o && nat_eq (length step.keys) (length (option_map_or (step_kinds s names) o []))) ≡ true → has_keys step ≡ true
      → option_map_or (λ (node : Node). carries node Entry) o false ≡ true
  keyed_carries names step None h keyed = absurd (false≢true h)
  keyed_carries names step (Some Container) h keyed = absurd (no_keys step.keys h keyed)
  keyed_carries names step (Some (ListOf l)) h keyed = refl
  keyed_carries names step (Some (Leaf l)) h keyed = absurd (no_keys step.keys h keyed)
  keyed_carries names step (Some (LeafList l)) h keyed = refl

  carried_below : (above : List (List ℕ)) (steps : List PathStep) → stand s above steps ≡ true → ends_in_keys steps ≡ true
      → option_map_or (λ (node : Node). carries node Entry) (node_at s (above ++ path_names steps)) false ≡ true
  carried_below above [] h keyed = absurd (false≢true keyed)
  carried_below above (step ∷ []) h keyed =
      let names = above ++ step.node ∷ [] in
      keyed_carries names step (node_at s names) (first_so (stands_at s names step) true h) keyed
  carried_below above (step ∷ next ∷ later) h keyed =
      let names = above ++ step.node ∷ [] in
      subst (λ (ns : List (List ℕ)). option_map_or (λ (node : Node). carries node Entry) (node_at s ns) false ≡ true)
      (append_assoc above (step.node ∷ []) (path_names (next ∷ later)))
      (carried_below names (next ∷ later) (second_so (stands_at s names step) (stand s names (next ∷ later)) h) keyed)

  entry_carried : (way : List PathStep) → stand s [] way ≡ true → ends_in_keys way ≡ true → is_carried s way Entry ≡ true
  entry_carried [] h keyed = absurd (false≢true keyed)
  entry_carried (step ∷ later) h keyed = carried_below [] (step ∷ later) h keyed

  -- an entry on the way may stand there
  pub way_typed : (p : List PathStep) (item : Item) (w : List PathStep) → is_typed s p item ≡ true → IsWay w p → is_typed s w Entry ≡ true
  way_typed p item w h way = on s.plain h
    where
      value : Bool
      value = is_canonical_value (kind_at_path s p) item

      on : (t : Bool) → (t || ((t || (stand s [] p && is_carried s p item)) && (are_canonical_steps s [] p && value))) ≡ true
          → (t || ((t || (stand s [] w && is_carried s w Entry)) && (are_canonical_steps s [] w && true))) ≡ true
      on true h = refl
      on false h =
          let inside = stand s [] p && is_carried s p item in
          let canonical = are_canonical_steps s [] p && value in
          let stands : stand s [] w ≡ true = subst (λ (q : List PathStep). stand s [] q ≡ true) (sym way.begins)
          (front_steps (stands_at s) [] (length w) p (first_so (stand s [] p) (is_carried s p item) (first_so inside canonical h))) in
          let keys : are_canonical_steps s [] w ≡ true = subst (λ (q : List PathStep). are_canonical_steps s [] q ≡ true) (sym way.begins)
          (front_steps (has_canonical_keys s) [] (length w) p (first_so (are_canonical_steps s [] p) value (second_so inside canonical h))) in
          and_from (stand s [] w && is_carried s w Entry) (are_canonical_steps s [] w && true)
          (and_from (stand s [] w) (is_carried s w Entry) stands (entry_carried w stands way.keyed))
          (and_from (are_canonical_steps s [] w) true keys refl)
