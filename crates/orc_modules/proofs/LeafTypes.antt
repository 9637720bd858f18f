-- The type that is found statement by statement is that of the leaf that a block has.
use Rattle.std.proofs.Common.{◌≡◌, refl, sym, ◌∙◌, ap, ℕ, zero, suc, Bool, true, false, List, [], ◌∷◌, ◌++◌}
use Rattle.std.specs.Prelude.{Option, Some, None, codes, cond, option_map, if◌then◌else◌}
use Rattle.std.specs.List.{find}
use Rattle.std.specs.Option.{option_map_or, option_or}
use Rattle.std.proofs.lemmas.List.Folds.{find-append}
use Rattle.orc_yang.specs.declared.statement.Stmt.{Stmt}
use Rattle.orc_types.specs.Statements.{subs}
use Rattle.orc_modules.specs.declared.meant.Typed.{Typed}
use Rattle.orc_modules.specs.declared.parts.Part.{Part}
use Rattle.orc_modules.specs.declared.parts.Part.TheVariants.{Node as node, Uses as uses, Nothing as nothing}
use Rattle.orc_modules.specs.Bases.{type_in, type_found}
use Rattle.orc_modules.specs.Children.{block_part, grouping, is_deeper, deeper_in, child, children_by, brought, brought_by, is_leaf_named, leaf_named}
use Rattle.orc_modules.specs.Scopes.{Modules, Found}
use Rattle.orc_modules.specs.Statements.{defines}
use Rattle.orc_modules.specs.inside.Leaves.{leaf_at, leaf_by, leaf_brought, leaf_of_grouping, leaf_in_block}

module _ (ms : Modules) (name : List ℕ) where
  -- the type of the leaf of this name among nodes
  abbrev typed : List Found → Option (Option Typed)
  typed cs = option_map (type_found ms) (find (is_leaf_named name) cs)

  or-typed : (o p : Option Found) → option_map (type_found ms) (option_or o p) ≡ option_or (option_map (type_found ms) o) (option_map (type_found ms) p)
  or-typed None p = refl
  or-typed (Some c) p = refl

  typed-append : (cs ds : List Found) → typed (cs ++ ds) ≡ option_or (typed cs) (typed ds)
  typed-append cs ds = ap (option_map (type_found ms)) (find-append (is_leaf_named name) cs ds)
      ∙ or-typed (find (is_leaf_named name) cs) (find (is_leaf_named name) ds)

  module _ (types : Found → Option (Option Typed)) (nodes : Found → List Found) (alike : (g : Found) → types g ≡ typed (nodes g)) (above : List Stmt) where
    one-node : (s : Stmt) (b : Bool) → defines (codes "leaf") name s ≡ b
        → (if b then Some (type_in ms.most ms.all above s) else None) ≡ typed (record { above = above; here = s } ∷ [])
    one-node s true is = sym (ap (λ b. option_map (type_found ms) (cond b (Some (record { above = above; here = s })) None)) is)
    one-node s false is = sym (ap (λ b. option_map (type_found ms) (cond b (Some (record { above = above; here = s })) None)) is)

    one-uses : (o : Option Found) → option_map_or types o None ≡ typed (option_map_or nodes o [])
    one-uses None = refl
    one-uses (Some g) = alike g

    one : (s : Stmt) (p : Part) → leaf_at types ms above name s p ≡ typed (child nodes ms.all above s p)
    one s node = one-node s (defines (codes "leaf") name s) refl
    one s uses = one-uses (grouping ms.all above s)
    one s nothing = refl

    pub by : (ss : List Stmt) → leaf_by types ms above name ss ≡ typed (children_by nodes ms.all above ss)
    by [] = refl
    by (s ∷ ss) = ap (λ o. option_or o (leaf_by types ms above name ss)) (one s (block_part s))
        ∙ ap (option_or (typed (child nodes ms.all above s (block_part s)))) (by ss)
        ∙ sym (typed-append (child nodes ms.all above s (block_part s)) (children_by nodes ms.all above ss))

  brought-is : (n : ℕ) (above ss : List Stmt) → leaf_brought n ms above name ss ≡ typed (brought n ms.all above ss)
  brought-is zero above ss = refl
  brought-is (suc n) above ss = by (λ g. leaf_brought n ms (g.here ∷ g.above) name (subs g.here)) (λ g. brought n ms.all (g.here ∷ g.above) (subs g.here))
      (λ g. brought-is n (g.here ∷ g.above) (subs g.here)) above ss

  of_grouping : (g : Found) (b : Bool) → (if b then None else leaf_brought ms.most ms (g.here ∷ g.above) name (subs g.here))
      ≡ typed (if b then [] else brought ms.most ms.all (g.here ∷ g.above) (subs g.here))
  of_grouping g true = refl
  of_grouping g false = brought-is ms.most (g.here ∷ g.above) (subs g.here)

  pub in_block-is : (above ss : List Stmt) → leaf_in_block ms above name ss ≡ option_map (type_found ms) (leaf_named ms.most ms.all above ss name)
  in_block-is above ss = by (leaf_of_grouping ms name) (brought_by ms.most ms.all) (λ g. of_grouping g (deeper_in (is_deeper ms.most ms.all) g)) above ss
