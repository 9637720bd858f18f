-- Rows of parts, one after another.
use Rattle.std.proofs.Common.{[], ◌≡◌, Bool, false, ◌∷◌, ◌++◌}
use Rattle.std.proofs.lemmas.Bool.{false≢true}
use Rattle.orc_rules.specs.Events.{Comes, Turn}
use Rattle.orc_rules.specs.Worlds.{Setting}
use Rattle.orc_runs.specs.Scripts.{Goes, IsCalledFor, IsOf, Part, Part as part, comes_again}

module _ {D : Type 0} (here : Setting D) where
  -- a single turn of a part
  pub goes_once : (ended : Bool) (one : Part) (turn : Turn D) → comes_again one ≡ false → IsOf one turn.meant → IsCalledFor here turn.before one
      → Comes here turn → Goes here ended (one ∷ []) turn.before (turn ∷ []) turn.behind
  goes_once ended one turn single is called comes =
      Goes.once one [] turn [] turn.behind single is called comes (Goes.whole turn.behind)
