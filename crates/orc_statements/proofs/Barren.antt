-- Groupings that bring nothing leave no gap.
use Rattle.std.proofs.Common.{◌≡◌, refl, ◌∙◌, ap, ℕ, zero, suc, Bool, true, false, List, [], ◌∷◌}
use Rattle.std.specs.Prelude.{Option, Some, None, ◌||◌}
use Rattle.std.specs.List.{list_any}
use Rattle.std.specs.Option.{option_map_or}
use Rattle.std.proofs.lemmas.Bool.{or_parts}
use Rattle.orc_yang.specs.declared.statement.Stmt.{Stmt}
use Rattle.orc_types.specs.Statements.{subs}
use Rattle.orc_modules.specs.declared.parts.Part.{Part}
use Rattle.orc_modules.specs.declared.parts.Part.TheVariants.{Node as node, Uses as uses, Nothing as nothing}
use Rattle.orc_modules.specs.Scopes.{Found}
use Rattle.orc_modules.specs.Bare.{brings_in, brings_at, may_bring}
use Rattle.orc_modules.specs.Children.{block_part, grouping}
use Rattle.orc_statements.specs.Gaps.{gap_in, gap_at, is_incomplete}

module _ (modules : List Stmt) (inner : List Stmt → Stmt → Bool) (other : List Stmt → Stmt → Bool)
    (less : (a : List Stmt) (s : Stmt) → inner a s ≡ false → other a s ≡ false) (above : List Stmt) where
  complete_of : (o : Option Found) → option_map_or (brings_in inner) o true ≡ false → option_map_or (gap_in other) o true ≡ false
  complete_of None h = h
  complete_of (Some g) h = less (g.here ∷ g.above) g.here h

  complete_one : (t : Stmt) (p : Part) → brings_at inner modules above t p ≡ false → gap_at other modules above t p ≡ false
  complete_one t node h = refl
  complete_one t uses h = complete_of (grouping modules above t) h
  complete_one t nothing h = refl

  complete_all : (ss : List Stmt) → list_any (λ t. brings_at inner modules above t (block_part t)) ss ≡ false
      → list_any (λ t. gap_at other modules above t (block_part t)) ss ≡ false
  complete_all [] h = refl
  complete_all (t ∷ ts) h =
      let one : Bool = brings_at inner modules above t (block_part t) in
      let rest : Bool = list_any (λ u. brings_at inner modules above u (block_part u)) ts in
      ap (λ b. b || list_any (λ u. gap_at other modules above u (block_part u)) ts) (complete_one t (block_part t) (or_parts one rest h).0)
      ∙ complete_all ts (or_parts one rest h).1

pub no_gap : (modules : List Stmt) (n : ℕ) (a : List Stmt) (s : Stmt) → may_bring n modules a s ≡ false → is_incomplete n modules a s ≡ false
no_gap modules zero a s h = h
no_gap modules (suc n) a s h = complete_all modules (may_bring n modules) (is_incomplete n modules) (no_gap modules n) a (subs s) h
