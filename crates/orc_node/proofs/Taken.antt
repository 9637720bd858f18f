-- The changes between two trees of a schema stand in it.
use Rattle.std.proofs.Common.{◌≡◌, Bool, true, false, ◌&&◌, ◌||◌, List, [], ◌∷◌, ◌++◌, Option, Some, None, refl, sym, ◌∙◌, ap, cond}
use Rattle.std.specs.Prelude.{IsTrue, is_none}
use Rattle.std.specs.Cmp.{first_so, second_so}
use Rattle.std.proofs.lemmas.Bool.{and_from, or_left, or_right}
use Rattle.std.proofs.lemmas.List.Folds.{list_all-append}
use Rattle.std.specs.List.{list_all}
use Rattle.std.specs.Option.{option_map_or}
use Rattle.std.specs.FinMap.{get, entries}
use Rattle.orc_path.specs.Steps.{PathStep}
use Rattle.orc_path.specs.Items.{fits}
use Rattle.orc_path.specs.Configurations.{Config, IsConfig}
use Rattle.orc_path.specs.declared.item.Item.{Item}
use Rattle.orc_path.specs.declared.item.Item.TheVariants.{Entry, Leaf}
use Rattle.orc_schema_nodes.specs.Schemas.{SchemaTable, path_names, node_at}
use Rattle.orc_schema_nodes.specs.declared.line.Node.{Node}
use Rattle.orc_schema_nodes.specs.declared.line.Node.TheVariants as node
use Rattle.orc_typed.specs.Typed.{is_typed, is_in_schema, is_carried, carries, stand, are_canonical_steps, has_place, has_place_in_schema}
use Rattle.orc_tree.specs.declared.change.Change.{Change}
use Rattle.orc_tree.specs.declared.change.Change.TheVariants.{Put, Remove}
use Rattle.orc_change.specs.Differences.{difference, removals, new_puts, has_item}
use Rattle.orc_change.specs.inside.Held.{AreHeld}
use Rattle.orc_change.proofs.Exact.{entries_are}
use Rattle.orc_node.specs.Kinds.{change_stands}
use Rattle.orc_node.specs.Laws.{IsTypedTree}

-- whether a node carries a leaf doesn't depend on its text
carries_any : (n : Node) (text : List _) → carries n (Leaf text) ≡ carries n (Leaf [])
carries_any node.Container text = refl
carries_any (node.List l) text = refl
carries_any (node.Leaf l) text = refl
carries_any (node.LeafList l) text = refl

carried_any : (s : SchemaTable) (path : List PathStep) (text : List _) → is_carried s path (Leaf text) ≡ is_carried s path (Leaf [])
carried_any s [] text = refl
carried_any s (first ∷ later) text = on (node_at s (path_names (first ∷ later)))
  where
    on : (o : Option Node) → option_map_or (λ n. carries n (Leaf text)) o false ≡ option_map_or (λ n. carries n (Leaf [])) o false
    on None = refl
    on (Some n) = carries_any n text

some_carried : (s : SchemaTable) (path : List PathStep) (it : Item) → is_in_schema s path it ≡ true → has_place_in_schema s path ≡ true
some_carried s path Entry h = or_left (is_in_schema s path Entry) (is_in_schema s path (Leaf [])) h
some_carried s path (Leaf text) h =
    or_right (is_in_schema s path Entry) (is_in_schema s path (Leaf [])) (ap (λ b. s.plain || (stand s [] path && b)) (sym (carried_any s path text)) ∙ h)

place_bools : (plain x y z some : Bool) → (x ≡ true → some ≡ true) → (plain || (x && (y && z))) ≡ true → (plain || (some && y)) ≡ true
place_bools true x y z some f h = refl
place_bools false true true true some f h = and_from some true (f refl) refl
place_bools false true true false some f h = cc
place_bools false true false z some f h = cc
place_bools false false y z some f h = cc

typed_place : (s : SchemaTable) (path : List PathStep) (it : Item) → is_typed s path it ≡ true → has_place s path ≡ true
typed_place s path it h = place_bools s.plain (is_in_schema s path it) (are_canonical_steps s [] path) _ (has_place_in_schema s path) (some_carried s path it) h

removals_stand : (s : SchemaTable) (es : List (List PathStep × Item)) (from to : Config) → IsTypedTree s from → AreHeld from es → list_all (change_stands s) (removals es to) ≡ true
removals_stand s [] from to typed held = refl
removals_stand s (e ∷ es) from to typed held =
    let rest = removals_stand s es from to typed held.1 in
    elim (is_none (get to e.0)) as (λ b. list_all (change_stands s) (cond b (Remove e.0 ∷ removals es to) (removals es to)) ≡ true) [
      | true ↦ and_from (has_place s e.0) _ (typed_place s e.0 e.1 (typed e.0 e.1 held.0)) rest
      | false ↦ rest
    ]

puts_stand : (s : SchemaTable) (es : List (List PathStep × Item)) (from to : Config) → IsTypedTree s to → IsConfig to → AreHeld to es → list_all (change_stands s) (new_puts es from) ≡ true
puts_stand s [] from to typed config held = refl
puts_stand s (e ∷ es) from to typed config held =
    let rest = puts_stand s es from to typed config held.1 in
    elim (has_item (get from e.0) e.1) as (λ b. list_all (change_stands s) (cond b (new_puts es from) (Put e.0 e.1 ∷ new_puts es from)) ≡ true) [
      | true ↦ rest
      | false ↦ and_from (is_typed s e.0 e.1 && fits e.0 e.1) _ (and_from (is_typed s e.0 e.1) (fits e.0 e.1) (typed e.0 e.1 held.0) (config.fit e.0 e.1 held.0)) rest
    ]

pub difference_stands : (s : SchemaTable) (from to : Config) → IsTypedTree s from → IsTypedTree s to → IsConfig to → list_all (change_stands s) (difference from to) ≡ true
difference_stands s from to typed due config =
    list_all-append (change_stands s) (removals (entries from) to) (new_puts (entries to) from)
    ∙ and_from _ _ (removals_stand s (entries from) from to typed (entries_are from)) (puts_stand s (entries to) from to due config (entries_are to))
