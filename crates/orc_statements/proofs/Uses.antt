-- A statement of a block that brings no gap.
use Rattle.std.proofs.Common.{◌≡◌, ◌∙◌, ap, List, ◌∷◌, ℕ, ◌+◌, ◌<◌, length, get_or, Bool, true, false}
use Rattle.std.specs.Prelude.{drop, Some, ◌||◌}
use Rattle.std.specs.List.{list_any}
use Rattle.std.specs.Option.{option_map_or}
use Rattle.std.proofs.lemmas.List.{drop_more}
use Rattle.orc_yang.specs.declared.statement.Stmt.{Stmt}
use Rattle.orc_modules.specs.declared.parts.Part.TheVariants.{Node as node, Uses as uses, Nothing as nothing}
use Rattle.orc_modules.specs.Scopes.{Found}
use Rattle.orc_modules.specs.Children.{block_part, grouping}
use Rattle.orc_statements.specs.Gaps.{gap_in, gap_at}

pub any-past : {X : Type 0} (f : X → Bool) (xs : List X) (i : ℕ) (x : X) → i < length xs → get_or xs i x ≡ x → f x ≡ false → list_any f (drop i xs) ≡ list_any f (drop (i + 1) xs)
any-past f xs i x below is fails = ap (list_any f) (drop_more xs i x below ∙ ap (λ y. y ∷ drop (i + 1) xs) is) ∙ ap (λ b. b || list_any f (drop (i + 1) xs)) fails

module _ (inner : List Stmt → Stmt → Bool) (modules above : List Stmt) (s : Stmt) where
  pub gap-node : block_part s ≡ node → gap_at inner modules above s (block_part s) ≡ false
  gap-node is = ap (gap_at inner modules above s) is

  pub gap-nothing : block_part s ≡ nothing → gap_at inner modules above s (block_part s) ≡ false
  gap-nothing is = ap (gap_at inner modules above s) is

  pub gap-uses : (g : Found) → block_part s ≡ uses → grouping modules above s ≡ Some g → inner (g.here ∷ g.above) g.here ≡ false → gap_at inner modules above s (block_part s) ≡ false
  gap-uses g is found fails = ap (gap_at inner modules above s) is ∙ ap (λ o. option_map_or (gap_in inner) o true) found ∙ fails
