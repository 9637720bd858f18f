-- Changes that lead towards a configuration, and what they leave.
use Rattle.std.proofs.Common.{◌≡◌, ◌⊎◌, inl, inr, ⊎_elim, suc, ◌+◌, true, false, cond, List, [], ◌∷◌, ◌++◌, length, take, Some, None, refl, sym, ap, subst, ◌∙◌, arith, is_some}
use Rattle.std.specs.declared.option.Option.{Option}
use Rattle.std.specs.Ordering.{eq_by_cmp}
use Rattle.std.specs.FinMap.{get}
use Rattle.std.proofs.lemmas.Bool.{false≢true, cond-true}
use Rattle.std.proofs.lemmas.Option.{none-some}
use Rattle.std.proofs.lemmas.List.{length-append}
use Rattle.orc_path.specs.Steps.{PathStep, ends_in_keys}
use Rattle.orc_path.specs.Order.{path_cmp, is_prefix}
use Rattle.orc_path.specs.Configurations.{Config, IsConfig, IsWay, is_entry, is_removed_with, put_item, drop_item}
use Rattle.orc_path.proofs.ConfigurationLaws.{same_path, path_ties, get-drop_item, get-put_item-here, put_item_cases}
use Rattle.orc_path.specs.declared.item.Item.{Item}
use Rattle.orc_path.specs.declared.item.Item.TheVariants.{Entry, Leaf}
use Rattle.orc_path.proofs.Extensions.{is_prefix_rest, is_prefix-append}
use Rattle.orc_tree.specs.Changes.{drop_each, put_each, applied}
use Rattle.orc_tree.specs.declared.change.Change.{Change}
use Rattle.orc_tree.specs.declared.change.Change.TheVariants.{Put, Remove}

-- what stands at each path
abbrev pub Items : Type 0
Items = List PathStep → Option Item

-- every entry on the way to what stands there stands there too
abbrev pub HasWays : Items → Type 0
HasWays n = (p w : List PathStep) → is_some (n p) ≡ true → IsWay w p → n w ≡ Some Entry

-- each change gives its path what stands there
abbrev pub Towards : Items → List Change → Type 0
Towards n [] = Unit {0}
Towards n (Remove p ∷ cs) = (n p ≡ None) × Towards n cs
Towards n (Put p item ∷ cs) = (n p ≡ Some item) × Towards n cs

-- some change is of the path
abbrev pub Mentions : List PathStep → List Change → Type 0
Mentions q [] = ⊥
Mentions q (Remove p ∷ cs) = (q ≡ p) ⊎ Mentions q cs
Mentions q (Put p item ∷ cs) = (q ≡ p) ⊎ Mentions q cs

-- a configuration does so
pub HasWays-config : (m : Config) → IsConfig m → HasWays (get m)
HasWays-config m c p w h way = entry (get m w) (c.ways p w h way)
  where
    entry : (o : Option Item) → is_entry o ≡ true → o ≡ Some Entry
    entry None e = absurd (false≢true e)
    entry (Some Entry) e = refl
    entry (Some (Leaf t)) e = absurd (false≢true e)

take-front : {X : Type 0} (xs ys : List X) → take (length xs) (xs ++ ys) ≡ xs
take-front [] ys = refl
take-front (x ∷ xs) ys = ap (λ l. x ∷ l) (take-front xs ys)

-- a path that ends in keys and begins another one is that one or an entry on its way
same_or_way : (p q : List PathStep) → ends_in_keys p ≡ true → is_prefix p q ≡ true → (q ≡ p) ⊎ IsWay p q
same_or_way p q keyed h = on (is_prefix_rest p q h).0 (is_prefix_rest p q h).1
  where
    on : (rest : List PathStep) → q ≡ p ++ rest → (q ≡ p) ⊎ IsWay p q
    on [] e = inl (e ∙ append-nothing p)
      where
        append-nothing : (xs : List PathStep) → xs ++ [] ≡ xs
        append-nothing [] = refl
        append-nothing (x ∷ xs) = ap (λ l. x ∷ l) (append-nothing xs)
    on (s ∷ rest) e = inr (record {
      shorter = let l : length q ≡ length p + suc (length rest) = ap length e ∙ length-append p (s ∷ rest) in omega (arith, l);
      begins = sym (ap (take (length p)) e ∙ take-front p (s ∷ rest));
      keyed = keyed;
    })

nothing_there : (o : Option Item) → (is_some o ≡ true → ⊥) → o ≡ None
nothing_there None h = refl
nothing_there (Some x) h = absurd (h refl)

-- where nothing stands at a path, nothing stands at what is removed with it
removed_none : (n : Items) → HasWays n → (p q : List PathStep) → n p ≡ None → is_removed_with p q ≡ true → n q ≡ None
removed_none n ways p q none =
    elim (ends_in_keys p) as (λ b. ends_in_keys p ≡ b → cond b (is_prefix p q) (eq_by_cmp path_cmp p q) ≡ true → n q ≡ None) [
      | true ↦ λ keyed h. ⊎_elim
          (λ (same : q ≡ p). ap n same ∙ none)
          (λ (way : IsWay p q). nothing_there (n q) (λ some. none-some Entry (sym none ∙ ways q p some way)))
          (same_or_way p q keyed h)
      | false ↦ λ leaf h. ap n (sym (same_path p q h)) ∙ none
    ] refl

-- one removal keeps what is right, and makes its own path right
dropped : (n : Items) → HasWays n → (m : Config) (p q : List PathStep) → n p ≡ None → get m q ≡ n q → get (drop_item m p) q ≡ n q
dropped n ways m p q none right =
    get-drop_item m p q ∙ elim (is_removed_with p q) as (λ b. is_removed_with p q ≡ b → cond b None (get m q) ≡ n q) [
      | true ↦ λ h. sym (removed_none n ways p q none h)
      | false ↦ λ h. right
    ] refl

removes_itself : (p : List PathStep) → is_removed_with p p ≡ true
removes_itself p = elim (ends_in_keys p) as (λ b. cond b (is_prefix p p) (eq_by_cmp path_cmp p p) ≡ true) [
  | true ↦ subst (λ (q : List PathStep). is_prefix p q ≡ true) (nothing p) (is_prefix-append p [])
  | false ↦ path_ties p p refl
]
  where
    nothing : (xs : List PathStep) → xs ++ [] ≡ xs
    nothing [] = refl
    nothing (x ∷ xs) = ap (λ l. x ∷ l) (nothing xs)

dropped_here : (n : Items) (m : Config) (p : List PathStep) → n p ≡ None → get (drop_item m p) p ≡ n p
dropped_here n m p none = get-drop_item m p p ∙ cond-true _ _ _ (removes_itself p) ∙ sym none

-- one put does too
put_right : (n : Items) → HasWays n → (m : Config) (p : List PathStep) (item : Item) (q : List PathStep) → n p ≡ Some item → get m q ≡ n q → get (put_item m p item) q ≡ n q
put_right n ways m p item q some right =
    ⊎_elim
    (λ (here : (q ≡ p) × (get (put_item m p item) q ≡ Some item)). here.1 ∙ sym some ∙ ap n (sym here.0))
    (⊎_elim
    (λ (way : IsWay q p × (get (put_item m p item) q ≡ Some Entry)). way.1 ∙ sym (ways p q (ap is_some some) way.0))
    (λ (old : get (put_item m p item) q ≡ get m q). old ∙ right))
    (put_item_cases m p item q)

drop_each_right : (n : Items) → HasWays n → (cs : List Change) → Towards n cs → (m : Config) (q : List PathStep) → get m q ≡ n q → get (drop_each cs m) q ≡ n q
drop_each_right n ways [] t m q right = right
drop_each_right n ways (Remove p ∷ cs) t m q right = drop_each_right n ways cs t.1 (drop_item m p) q (dropped n ways m p q t.0 right)
drop_each_right n ways (Put p item ∷ cs) t m q right = drop_each_right n ways cs t.1 m q right

put_each_right : (n : Items) → HasWays n → (cs : List Change) → Towards n cs → (m : Config) (q : List PathStep) → get m q ≡ n q → get (put_each cs m) q ≡ n q
put_each_right n ways [] t m q right = right
put_each_right n ways (Remove p ∷ cs) t m q right = put_each_right n ways cs t.1 m q right
put_each_right n ways (Put p item ∷ cs) t m q right = put_each_right n ways cs t.1 (put_item m p item) q (put_right n ways m p item q t.0 right)

-- a path that some change is of
put_each_mentioned : (n : Items) → HasWays n → (cs : List Change) → Towards n cs → (m : Config) (q : List PathStep) → is_some (n q) ≡ true → Mentions q cs → get (put_each cs m) q ≡ n q
put_each_mentioned n ways [] t m q some never = elim never [ ]
put_each_mentioned n ways (Remove p ∷ cs) t m q some (inl here) = absurd (false≢true (sym (ap is_some (ap n here ∙ t.0)) ∙ some))
put_each_mentioned n ways (Remove p ∷ cs) t m q some (inr later) = put_each_mentioned n ways cs t.1 m q some later
put_each_mentioned n ways (Put p item ∷ cs) t m q some (inl here) =
    put_each_right n ways cs t.1 (put_item m p item) q
    (subst (λ (x : List PathStep). get (put_item m p item) x ≡ n x) (sym here) (get-put_item-here m p item ∙ sym t.0))
put_each_mentioned n ways (Put p item ∷ cs) t m q some (inr later) = put_each_mentioned n ways cs t.1 (put_item m p item) q some later

drop_each_mentioned : (n : Items) → HasWays n → (cs : List Change) → Towards n cs → (m : Config) (q : List PathStep) → n q ≡ None → Mentions q cs → get (drop_each cs m) q ≡ n q
drop_each_mentioned n ways [] t m q none never = elim never [ ]
drop_each_mentioned n ways (Remove p ∷ cs) t m q none (inl here) =
    drop_each_right n ways cs t.1 (drop_item m p) q
    (subst (λ (x : List PathStep). get (drop_item m p) x ≡ n x) (sym here) (dropped_here n m p t.0))
drop_each_mentioned n ways (Remove p ∷ cs) t m q none (inr later) = drop_each_mentioned n ways cs t.1 (drop_item m p) q none later
drop_each_mentioned n ways (Put p item ∷ cs) t m q none (inl here) = absurd (none-some item (sym none ∙ ap n here ∙ t.0))
drop_each_mentioned n ways (Put p item ∷ cs) t m q none (inr later) = drop_each_mentioned n ways cs t.1 m q none later

-- where a path is right already or a change is of it, it is right once the changes are done
pub applied_towards : (n : Items) → HasWays n → (cs : List Change) → Towards n cs → (m : Config) (q : List PathStep)
    → (get m q ≡ n q) ⊎ Mentions q cs → get (applied cs m) q ≡ n q
applied_towards n ways cs t m q (inl right) = put_each_right n ways cs t (drop_each cs m) q (drop_each_right n ways cs t m q right)
applied_towards n ways cs t m q (inr mentioned) = on (n q) refl
  where
    on : (o : Option Item) → n q ≡ o → get (applied cs m) q ≡ n q
    on None e = put_each_right n ways cs t (drop_each cs m) q (drop_each_mentioned n ways cs t m q e mentioned)
    on (Some item) e = put_each_mentioned n ways cs t (drop_each cs m) q (ap is_some e) mentioned
