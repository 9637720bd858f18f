-- One statement of a block that doesn't lead to a grouping, and one typedef further.
use Rattle.std.proofs.Common.{◌≡◌, ◌∙◌, ap, ℕ, suc, Bool, false, List, ◌∷◌}
use Rattle.std.specs.Prelude.{◌||◌, Some, None, codes}
use Rattle.std.specs.Option.{option_map_or}
use Rattle.orc_yang.specs.declared.statement.Stmt.{Stmt}
use Rattle.orc_types.specs.Statements.{subs, first_of}
use Rattle.orc_modules.specs.declared.parts.Part.TheVariants.{Node as node, Uses as uses, Nothing as nothing}
use Rattle.orc_modules.specs.Children.{block_part, grouping}
use Rattle.orc_modules.specs.Loops.{is_same, part_leads, grouping_leads, typedef, typedef_leads, type_leads}
use Rattle.orc_modules.specs.Scopes.{Found}

module _ (inner : List Stmt → Stmt → Bool) (modules : List Stmt) (e : Found) (above : List Stmt) (s : Stmt) where
  pub leads-node : block_part s ≡ node → inner (s ∷ above) s ≡ false → part_leads inner modules e above s (block_part s) ≡ false
  leads-node is ends = ap (part_leads inner modules e above s) is ∙ ends

  pub leads-uses : (g : Found) → block_part s ≡ uses → grouping modules above s ≡ Some g → is_same g e ≡ false → inner (g.here ∷ g.above) g.here ≡ false → part_leads inner modules e above s (block_part s) ≡ false
  leads-uses g is found other ends = ap (part_leads inner modules e above s) is ∙ ap (λ o. option_map_or (grouping_leads inner e) o false) found
      ∙ ap (λ b. b || inner (g.here ∷ g.above) g.here) other ∙ ends

  pub leads-missing : block_part s ≡ uses → grouping modules above s ≡ None → part_leads inner modules e above s (block_part s) ≡ false
  leads-missing is none = ap (part_leads inner modules e above s) is ∙ ap (λ o. option_map_or (grouping_leads inner e) o false) none

  pub leads-nothing : block_part s ≡ nothing → part_leads inner modules e above s (block_part s) ≡ false
  leads-nothing is = ap (part_leads inner modules e above s) is

-- One typedef further.
module _ (n : ℕ) (modules : List Stmt) (e : Found) (above : List Stmt) (t : Stmt) where
  pub type_leads-on : (d : Found) (u : Stmt) → typedef modules above t ≡ Some d → is_same d e ≡ false → first_of (codes "type") (subs d.here) ≡ Some u
      → type_leads (suc n) modules e above t ≡ type_leads n modules e (d.here ∷ d.above) u
  type_leads-on d u named other inner = ap (λ o. option_map_or (typedef_leads (type_leads n modules e) e) o false) named
      ∙ ap (λ b. b || option_map_or (type_leads n modules e (d.here ∷ d.above)) (first_of (codes "type") (subs d.here)) false) other
      ∙ ap (λ o. option_map_or (type_leads n modules e (d.here ∷ d.above)) o false) inner
