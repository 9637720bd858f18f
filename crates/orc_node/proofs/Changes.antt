-- What changes make of a configuration differs from it inside their targets alone.
use Rattle.std.proofs.Common.{◌≡◌, ◌⊎◌, inl, inr, Bool, true, false, List, [], ◌∷◌, ◌++◌, Contains, map, None, Some, refl, sym, ap, subst, ◌∙◌, cond}
use Rattle.std.specs.Prelude.{Option}
use Rattle.std.specs.FinMap.{get}
use Rattle.std.specs.Ordering.{eq_by_cmp}
use Rattle.std.proofs.lemmas.List.Elements.{Contains-append_left, Contains-append_right, Contains-push}
use Rattle.orc_path.specs.Steps.{PathStep, ends_in_keys}
use Rattle.orc_path.specs.Order.{is_prefix, path_cmp}
use Rattle.orc_path.specs.Configurations.{Config, IsWay, drop_item, is_removed_with, put_item}
use Rattle.orc_path.specs.declared.item.Item.{Item}
use Rattle.orc_path.specs.declared.item.Item.TheVariants.{Entry}
use Rattle.orc_path.proofs.ConfigurationLaws.{get-drop_item, put_item_cases, same_path}
use Rattle.orc_path.proofs.Extensions.{is_prefix-append}
use Rattle.orc_tree.specs.Changes.{applied, drop_each, put_each}
use Rattle.orc_tree.specs.declared.change.Change.{Change}
use Rattle.orc_tree.specs.declared.change.Change.TheVariants.{Put, Remove}
use Rattle.orc_expr.specs.Touches.{IsInside}
use Rattle.orc_expr.specs.declared.read.Target.{Target}
use Rattle.orc_expr.specs.declared.read.Target.TheVariants.{One, Under}
use Rattle.orc_revalidate.specs.Changes.{DiffersInside}
use Rattle.orc_node.specs.inside.Changed.{target_of}

-- one of the targets is around the path
abbrev IsInsideOne : List Target → List PathStep → Type 0
IsInsideOne targets path = (target : Target) × Contains targets target × IsInside target path

later_in : (target : Target) (targets : List Target) (path : List PathStep) → IsInsideOne targets path → IsInsideOne (target ∷ targets) path
later_in target targets path one = (one.0, Contains-append_right (target ∷ []) targets one.0 one.1, one.2)

first_in : (target : Target) (targets : List Target) (path : List PathStep) → IsInside target path → IsInsideOne (target ∷ targets) path
first_in target targets path h = (target, Contains-append_left (target ∷ []) targets target (Contains-push [] target), h)

below_itself : (path : List PathStep) → is_prefix path path ≡ true
below_itself path = subst (λ (q : List PathStep). is_prefix path q ≡ true) (append_none path) (is_prefix-append path [])
  where
    append_none : (xs : List PathStep) → xs ++ [] ≡ xs
    append_none [] = refl
    append_none (x ∷ xs) = ap (λ l. x ∷ l) (append_none xs)

drop_changes : (path : List PathStep) (m : Config) (q : List PathStep) → IsInside (Under path) q ⊎ (get (drop_item m path) q ≡ get m q)
drop_changes path m q = on (is_removed_with path q) refl
  where
    below : (t : Bool) → cond t (is_prefix path q) (eq_by_cmp path_cmp path q) ≡ true → is_prefix path q ≡ true
    below true h = h
    below false h = subst (λ (x : List PathStep). is_prefix path x ≡ true) (same_path path q h) (below_itself path)

    on : (t : Bool) → is_removed_with path q ≡ t → IsInside (Under path) q ⊎ (get (drop_item m path) q ≡ get m q)
    on true is = inl (below (ends_in_keys path) is)
    on false is = inr (get-drop_item m path q ∙ ap (λ t. cond t None (get m q)) is)

put_changes : (path : List PathStep) (item : Item) (m : Config) (q : List PathStep) → IsInside (One path) q ⊎ (get (put_item m path item) q ≡ get m q)
put_changes path item m q = on (put_item_cases m path item q)
  where
    on : ((q ≡ path) × (get (put_item m path item) q ≡ Some item)) ⊎ ((IsWay q path × (get (put_item m path item) q ≡ Some Entry)) ⊎ (get (put_item m path item) q ≡ get m q))
        → IsInside (One path) q ⊎ (get (put_item m path item) q ≡ get m q)
    on (inl one) = inl (inl one.0)
    on (inr (inl one)) = inl (inr one.0)
    on (inr (inr same)) = inr same

-- one change, and then the others
joined : (target : Target) (targets : List Target) (q : List PathStep) (a b c : Option Item)
    → IsInside target q ⊎ (b ≡ a) → IsInsideOne targets q ⊎ (c ≡ b) → IsInsideOne (target ∷ targets) q ⊎ (c ≡ a)
joined target targets q a b c (inl one) later = inl (first_in target targets q one)
joined target targets q a b c (inr one) (inl later) = inl (later_in target targets q later)
joined target targets q a b c (inr one) (inr later) = inr (later ∙ one)

passed : (target : Target) (targets : List Target) (q : List PathStep) (a c : Option Item)
    → IsInsideOne targets q ⊎ (c ≡ a) → IsInsideOne (target ∷ targets) q ⊎ (c ≡ a)
passed target targets q a c (inl later) = inl (later_in target targets q later)
passed target targets q a c (inr later) = inr later

drops_change : (changes : List Change) (m : Config) (q : List PathStep) → IsInsideOne (map target_of changes) q ⊎ (get (drop_each changes m) q ≡ get m q)
drops_change [] m q = inr refl
drops_change (Remove path ∷ changes) m q =
    joined (Under path) (map target_of changes) q (get m q) (get (drop_item m path) q) (get (drop_each changes (drop_item m path)) q)
    (drop_changes path m q) (drops_change changes (drop_item m path) q)
drops_change (Put path item ∷ changes) m q =
    passed (One path) (map target_of changes) q (get m q) (get (drop_each changes m) q) (drops_change changes m q)

puts_change : (changes : List Change) (m : Config) (q : List PathStep) → IsInsideOne (map target_of changes) q ⊎ (get (put_each changes m) q ≡ get m q)
puts_change [] m q = inr refl
puts_change (Put path item ∷ changes) m q =
    joined (One path) (map target_of changes) q (get m q) (get (put_item m path item) q) (get (put_each changes (put_item m path item)) q)
    (put_changes path item m q) (puts_change changes (put_item m path item) q)
puts_change (Remove path ∷ changes) m q =
    passed (Under path) (map target_of changes) q (get m q) (get (put_each changes m) q) (puts_change changes m q)

-- what changes make of a configuration differs from it inside their targets alone
pub differs_inside : (changes : List Change) (m : Config) → DiffersInside (map target_of changes) m (applied changes m)
differs_inside changes m path differs = on (drops_change changes m path) (puts_change changes (drop_each changes m) path)
  where
    on : IsInsideOne (map target_of changes) path ⊎ (get (drop_each changes m) path ≡ get m path)
        → IsInsideOne (map target_of changes) path ⊎ (get (applied changes m) path ≡ get (drop_each changes m) path)
        → IsInsideOne (map target_of changes) path
    on (inl one) later = one
    on (inr same) (inl later) = later
    on (inr same) (inr later) = absurd (differs (sym (later ∙ same)))
