-- What is kept of each turn of a run, from its beginning on, and what follows for devices and the history.
use Rattle.std.proofs.Common.{ℕ, Contains, List}
use Rattle.orc_decls.specs.Declarations.{AreDecls}
use Rattle.orc_journal.specs.Laws.{KeepsOrder}
use Rattle.orc_plans.specs.Plans.{LegalStands, PlanStands}
use Rattle.orc_rules.specs.Events.{Turn}
use Rattle.orc_rules.specs.Invariant.{IsLawful}
use Rattle.orc_rules.specs.Kept.{FitAt, HistoryKept, StandsAt, ValidAt}
use Rattle.orc_rules.specs.Network.{Planning}
use Rattle.orc_rules.specs.UnderHub.{DevicesKept, IsOfHub}
use Rattle.orc_rules.specs.Worlds.{Setting, World, over}
use Rattle.orc_runs.specs.Runs.{Run, turns_of}
use Rattle.orc_runs.specs.Starts.{StartsRun}
use Rattle.orc_script.specs.declared.step.ScriptStep.{ScriptStep}
use Rattle.orc_runs.proofs.InStep.{IsTracked, runs_reconciled, tracked}
use Rattle.orc_runs.proofs.Whole.{starts_devices, starts_kept}
use Rattle.orc_run_cases.specs.Refused.{FollowsDecisions}
use Rattle.orc_run_cases.proofs.WrongTurns.{commits_prepared}
use Rattle.orc_run_cases.proofs.WrongRuns.{cancels_undecided, changes_named, confirms_synced, enters_once}

module _ {D : Type 0} (here : Setting D)
    (only_now : (d : D) (c : List ℕ) → here.disk.left_since d (here.disk.moment d) c → here.disk.may_leave d c)
    (are : AreDecls here.decls) (plans : PlanStands) (legally : LegalStands) (order : KeepsOrder)
    (kinds : (device : ℕ) → IsOfHub (here.kinds device)) (lawful : (device : ℕ) → IsLawful (here.kinds device) (over here.decls device))
    (planning : Planning (over here.decls) (StandsAt here.decls) (FitAt here.decls) (ValidAt here.decls))
    (script : List ScriptStep) (first last : World D) (run : Run here script first last) (starts : StartsRun here first) (turn : Turn D)
    (among : Contains (turns_of run) turn) where
  kept : HistoryKept here first
  kept = starts_kept here first starts are plans legally order

  own : DevicesKept here.decls first
  own = starts_devices here first starts lawful planning

  is : IsTracked here only_now are plans legally order kinds lawful planning last turn
  is = tracked here only_now are plans legally order kinds lawful planning script first last run kept own turn among

  pub follows : FollowsDecisions here turn
  follows = record {
    commits = commits_prepared here turn is.comes is.before.1;
    cancels = cancels_undecided here kinds turn is.comes is.before.1;
    confirms = confirms_synced here kinds turn is.comes is.before.0 is.before.1;
    changes = changes_named here kinds turn is.comes is.before.1;
    reconciles = λ device within differs seen. differs
        (runs_reconciled here only_now are plans legally order kinds lawful planning script first last run kept own turn device among within seen);
    enters = enters_once here turn is.behind.0;
  }
