-- A line that is done is not passed over.
use Rattle.std.proofs.Common.{◌≡◌, ℕ, false, Option, Some, None, List, [], ◌∷◌, inl, inr, refl, subst}
use Rattle.orc_rules.specs.Events.{DoesAnyway, DoesUnderHub, Turn}
use Rattle.orc_rules.specs.Hubs.{Hub}
use Rattle.orc_rules.specs.Worlds.{Setting, World, stopped}
use Rattle.orc_rules.specs.declared.event.Event.TheVariants as event
use Rattle.orc_runs.specs.Runs.{IsDone, LineDone}
use Rattle.orc_runs.specs.Scripts.{Goes, Part as part, line_parts, set_by}
use Rattle.orc_script.specs.declared.step.ScriptStep.{ScriptStep}
use Rattle.orc_script.specs.declared.step.ScriptStep.TheVariants as step
use Rattle.orc_run_cases.specs.Refused.{RecoversCome, RestartsCome, TicksCome}

module _ {D : Type 0} (here : Setting D) where
  -- what a line that was done with nothing in it would be
  quiet : (at : ScriptStep) (line : LineDone D) → IsDone here false line → line.step ≡ at → line.turns ≡ []
      → Goes here false (line_parts here.decls at) (set_by line.step line.before) [] line.behind
  quiet at line done is none =
      subst (λ (s : ScriptStep). Goes here false (line_parts here.decls s) (set_by line.step line.before) [] line.behind) is
      (subst (λ (l : List (Turn D)). Goes here false (line_parts here.decls line.step) (set_by line.step line.before) l line.behind) none done.goes)

  no_tick : (seconds : ℕ) (world last : World D) → Goes here false (part.Ticking seconds ∷ []) world [] last → ⊥
  no_tick seconds world last (Goes.broken _ _ is) = absurd cc
  no_tick seconds world last (Goes.none _ _ _ _ _ none _) = none (event.Tick seconds) refl (inr (inl (_, DoesAnyway.ticks seconds)))

  no_restart : (device : ℕ) (world last : World D) → Goes here false (part.Restarting device ∷ []) world [] last → ⊥
  no_restart device world last (Goes.broken _ _ is) = absurd cc
  no_restart device world last (Goes.none _ _ _ _ _ none _) = none (event.Restart device) refl (inr (inl (_, DoesAnyway.restarts device)))

  no_recovery : (world last : World D) → world.hub ≡ None → Goes here false (part.Recovery ∷ []) world [] last → ⊥
  no_recovery world last down (Goes.broken _ _ is) = absurd cc
  no_recovery world last down (Goes.none _ _ _ _ _ none _) = none event.Recover tt (inr (inr (refl, down)))

  no_recover : (world last : World D) (hub : Option Hub) → world.hub ≡ hub → Goes here false (part.Stopping ∷ part.Recovery ∷ []) world [] last → ⊥
  no_recover world last hub is (Goes.broken _ _ ended) = absurd cc
  no_recover world last None is (Goes.none _ _ _ _ _ none goes) = no_recovery world last is goes
  no_recover world last (Some hub) is (Goes.none _ _ _ _ _ none goes) = none event.Stop tt (inl (hub, [], stopped world, is, DoesUnderHub.stops))

  pub ticks_come : TicksCome here
  ticks_come seconds line done at none = no_tick seconds (set_by line.step line.before) line.behind (quiet (step.Tick seconds) line done at none)

  pub restarts_come : RestartsCome here
  restarts_come device line done at none = no_restart device (set_by line.step line.before) line.behind (quiet (step.Restart device) line done at none)

  pub recovers_come : RecoversCome here
  recovers_come line done at none =
      no_recover (set_by line.step line.before) line.behind (set_by line.step line.before).hub refl (quiet step.Recover line done at none)
