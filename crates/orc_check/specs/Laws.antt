-- What the least breach is.
use Rattle.std.specs.Prelude.{◌≡◌, false, List, [], Contains, All, Some, None}
use Rattle.std.specs.Ordering.{is_lt}
use Rattle.orc_check.specs.Validity.{Breach, breach_cmp, least_breach}

-- a breach is one of these, and none of them is less
pub record IsLeastBreach (all : List Breach) (breach : Breach) : Type 0 where
  pub among : Contains all breach
  pub least : All (λ other. is_lt (breach_cmp other breach) ≡ false) all

-- there is a least breach wherever there is any
pub record HasLeastBreach (all : List Breach) : Type 0 where
  pub some : (breach : Breach) → least_breach all ≡ Some breach → IsLeastBreach all breach
  pub none : least_breach all ≡ None → all ≡ []

abbrev pub LeastBreachIsLeast : Type 0
LeastBreachIsLeast = (all : List Breach) → HasLeastBreach all
