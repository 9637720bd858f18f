-- One typedef further, and one statement of a block further.
use Rattle.std.proofs.Common.{◌≡◌, ◌∙◌, ap, ℕ, suc, ◌+◌, ◌<◌, length, get_or, Bool, false, List, ◌∷◌}
use Rattle.std.specs.Prelude.{Some, None, codes, drop, ◌||◌}
use Rattle.std.specs.List.{list_any}
use Rattle.std.specs.Option.{option_map_or}
use Rattle.std.proofs.lemmas.List.{drop_more}
use Rattle.orc_yang.specs.declared.statement.Stmt.{Stmt}
use Rattle.orc_types.specs.BuiltIn.{built_in}
use Rattle.orc_types.specs.Statements.{subs, argument, first_of}
use Rattle.orc_types.specs.declared.types.Base.{Base}
use Rattle.orc_modules.specs.declared.meant.Named.TheVariants.{Unclear}
use Rattle.orc_modules.specs.declared.parts.Part.TheVariants.{Node as node, Uses as uses}
use Rattle.orc_modules.specs.Bases.{base_of, built_in_named, typedef_named, named_typedef}
use Rattle.orc_modules.specs.Children.{block_part, grouping, deeper_at, deeper_in}
use Rattle.orc_modules.specs.Scopes.{Found, meaning}
use Rattle.orc_modules.specs.Statements.{argument_below}

module _ (n : ℕ) (modules above : List Stmt) (t : Stmt) where
  pub base_of-built : (b : Base) → built_in (argument t) ≡ Some b → base_of (suc n) modules above t ≡ built_in_named above b
  base_of-built b is = ap (λ o. option_map_or (built_in_named above) o (typedef_named (base_of n modules) (meaning modules (codes "typedef") (argument t) above))) is

  pub base_of-on : (d : Found) (u : Stmt) → built_in (argument t) ≡ None → meaning modules (codes "typedef") (argument t) above ≡ Some d → first_of (codes "type") (subs d.here) ≡ Some u
      → base_of (suc n) modules above t ≡ named_typedef (argument_below (codes "default") d.here) u (base_of n modules (d.here ∷ d.above) u)
  base_of-on d u none found inner = ap (λ o. option_map_or (built_in_named above) o (typedef_named (base_of n modules) (meaning modules (codes "typedef") (argument t) above))) none
      ∙ ap (typedef_named (base_of n modules)) found
      ∙ ap (λ o. option_map_or (λ v. named_typedef (argument_below (codes "default") d.here) v (base_of n modules (d.here ∷ d.above) v)) o Unclear) inner

pub any-past : {X : Type 0} (f : X → Bool) (xs : List X) (i : ℕ) (x : X) → i < length xs → get_or xs i x ≡ x → f x ≡ false → list_any f (drop i xs) ≡ list_any f (drop (i + 1) xs)
any-past f xs i x below is fails = ap (list_any f) (drop_more xs i x below ∙ ap (λ y. y ∷ drop (i + 1) xs) is) ∙ ap (λ b. b || list_any f (drop (i + 1) xs)) fails

module _ (inner : List Stmt → Stmt → Bool) (modules above : List Stmt) (s : Stmt) where
  pub deeper-node : block_part s ≡ node → inner (s ∷ above) s ≡ false → deeper_at inner modules above s (block_part s) ≡ false
  deeper-node is shallow = ap (deeper_at inner modules above s) is ∙ shallow

  pub deeper-uses : (g : Found) → block_part s ≡ uses → grouping modules above s ≡ Some g → inner (g.here ∷ g.above) g.here ≡ false → deeper_at inner modules above s (block_part s) ≡ false
  deeper-uses g is found shallow = ap (deeper_at inner modules above s) is ∙ ap (λ o. option_map_or (deeper_in inner) o false) found ∙ shallow
