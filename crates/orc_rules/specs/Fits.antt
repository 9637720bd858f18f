-- Which waiting call is admitted next: the first that fits with every active one and with every earlier waiting one.
use Rattle.std.specs.Prelude.{◌≡◌, ℕ, ◌<◌, List, [], ◌∷◌, All, Option, option_map, take, slice_get}
use Rattle.std.specs.declared.option.Option.TheVariants.{None, Some}
use Rattle.std.specs.Option.{option_map_or, option_or}
use Rattle.orc_call.specs.declared.answer.Answer.{Answer}
use Rattle.orc_call.specs.declared.answer.Answer.TheVariants.{OutOfSync}
use Rattle.orc_call.specs.declared.answer.Why.{Why}
use Rattle.orc_queue.specs.Fitting.{FitTogether}
use Rattle.orc_rules.specs.declared.transaction.Transaction.{Transaction}
use Rattle.orc_rules.specs.declared.transaction.Waiting.{Waiting}

-- the waiting call at this place fits with every active one and with every one that waits before it
pub record FitsNow (active : List Transaction) (waiting : List Waiting) (place : ℕ) (it : Waiting) : Type 0 where
  pub there : slice_get waiting place ≡ Some it
  pub active_ones : All (λ other. FitTogether it.plan.held other.plan.held) active
  pub earlier_ones : All (λ other. FitTogether it.plan.held other.plan.held) (take place waiting)

-- and it is the first
pub record IsFirstFit (active : List Transaction) (waiting : List Waiting) (place : ℕ) : Type 0 where
  pub it : Waiting
  pub fits : FitsNow active waiting place it
  pub first : (other : ℕ) (one : Waiting) → other < place → FitsNow active waiting other one → ⊥

-- the answer to a call with this device, where that is stale, with the first cause
abbrev pub stale_one : ℕ → List (Option Why) → Option Answer
stale_one device stale =
    option_map_or (option_map (λ why. OutOfSync device why)) (slice_get stale device) None

-- the answer for the least of these devices, which ascend, that is stale
abbrev pub first_stale : List ℕ → List (Option Why) → Option Answer
first_stale [] stale = None
first_stale (device ∷ devices) stale = option_or (stale_one device stale) (first_stale devices stale)
