-- The search by halves for the part of a path: for its page among those of a chapter, and for its chapter among a tree's.
use Rattle.std.proofs.Common.{◌≡◌, ℕ, suc, ◌<◌, ◌≤◌, true, false, List, length, take, drop, get_or, subst, arith}
use Rattle.std.specs.List.{flat_map}
use Rattle.std.specs.FinMap.{is_sorted}
use Rattle.std.specs.FinMap.Entries.{below_all}
use Rattle.orc_path.specs.Steps.{PathStep}
use Rattle.orc_path.specs.Order.{path_cmp}
use Rattle.orc_tree.specs.inside.Places.{IsPartFor, above_all, starts_behind}
use Rattle.orc_tree.proofs.Maps.{Rows}
use Rattle.orc_tree.proofs.Paged.{HaveRows, behind_part, before_part}

-- the rows of the parts below `low` come before the path, and those from `high` on after it
pub record IsHalved {E : Type 0} (rows : E → Rows) (path : List PathStep) (parts : List E) (low high : ℕ) : Type 0 where
  pub order : low < high
  pub within : high ≤ length parts
  pub before : above_all path (flat_map rows (take low parts)) ≡ true
  pub behind : below_all path_cmp path (flat_map rows (drop high parts)) ≡ true

module _ {E : Type 0} (rows : E → Rows) (path : List PathStep) (parts : List E) (low high : ℕ) (known : IsHalved rows path parts low high) where
  -- the one part that is left is the path's
  pub last_part : high ≡ suc low → IsPartFor rows path parts low
  last_part last = record {
    within = omega (arith, known.order, known.within);
    before = known.before;
    behind = subst (λ n. below_all path_cmp path (flat_map rows (drop n parts)) ≡ true) last known.behind;
  }

  -- a part between the two parts them again
  module _ (sorted : is_sorted path_cmp (flat_map rows parts) ≡ true) (at : ℕ) (part : E) (is : part ≡ get_or parts at part) (least : low < at) (most : at < high) where
    pub lower_half : starts_behind path (rows part) ≡ true → IsHalved rows path parts low at
    lower_half h = record {
      order = least;
      within = omega (arith, most, known.within);
      before = known.before;
      behind = behind_part rows path parts at part sorted (omega (arith, most, known.within)) is h;
    }

    pub upper_half : HaveRows rows parts → starts_behind path (rows part) ≡ false → IsHalved rows path parts at high
    upper_half some h = record {
      order = most;
      within = known.within;
      before = before_part rows path parts at part sorted some (omega (arith, most, known.within)) is h;
      behind = known.behind;
    }
