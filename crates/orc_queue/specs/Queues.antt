-- Which of what waits may go on first.
use Rattle.std.specs.Prelude.{◌≡◌, ℕ, ◌<◌, List, All, take, slice_get}
use Rattle.std.specs.declared.option.Option.TheVariants.{Some}
use Rattle.orc_queue.specs.Fitting.{FitTogether}
use Rattle.orc_queue.specs.declared.held.Held.{Held}

module _ {A W : Type 0} (active_held : A → Held) (waiting_held : W → Held) where
  -- The one that waits at this place fits with each active one and with each one that waits before it, by what they
  -- hold.
  pub record FitsAt (active : List A) (waiting : List W) (place : ℕ) (it : W) : Type 0 where
    pub there : slice_get waiting place ≡ Some it
    pub active_ones : All (λ other. FitTogether (waiting_held it) (active_held other)) active
    pub earlier_ones : All (λ other. FitTogether (waiting_held it) (waiting_held other)) (take place waiting)

  -- and none before it does
  pub record IsFirstToFit (active : List A) (waiting : List W) (place : ℕ) : Type 0 where
    pub it : W
    pub fits : FitsAt active waiting place it
    pub first : (other : ℕ) (one : W) → other < place → FitsAt active waiting other one → ⊥

  -- none that waits does
  abbrev pub NoneToFit : List A → List W → Type 0
  NoneToFit active waiting = (place : ℕ) (one : W) → FitsAt active waiting place one → ⊥
