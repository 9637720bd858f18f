-- What is kept of replies over whole runs.
use Rattle.std.proofs.Common.{ℕ, Option, List, Contains}
use Rattle.orc_decls.specs.Declarations.{AreDecls}
use Rattle.orc_journal.specs.Laws.{KeepsOrder}
use Rattle.orc_plans.specs.Plans.{LegalStands, PlanStands}
use Rattle.orc_rules.specs.Acceptance.{RepliesKept}
use Rattle.orc_rules.specs.Events.{Steps, Turn}
use Rattle.orc_rules.specs.Invariant.{IsFitting, IsLawful}
use Rattle.orc_rules.specs.Kept.{FitAt, HistoryKept, StandsAt, ValidAt}
use Rattle.orc_rules.specs.Network.{Planning}
use Rattle.orc_rules.specs.UnderHub.{DevicesKept, IsOfHub}
use Rattle.orc_rules.specs.Worlds.{Setting, World, over}
use Rattle.orc_rules.specs.declared.event.Event.{Event}
use Rattle.orc_rules.proofs.Replied.{steps_reply}
use Rattle.orc_rules.proofs.Tracking.{steps_devices}
use Rattle.orc_runs.specs.Runs.{Run, turns_of}
use Rattle.orc_runs.specs.Scripts.{set_by}
use Rattle.orc_script.specs.declared.step.ScriptStep.{ScriptStep}
use Rattle.orc_runs.proofs.Faulted.{set_replies}
use Rattle.orc_runs.proofs.InStep.{set_devices}
use Rattle.orc_runs.proofs.Lasting.{IsKept, each_in, run_survives}

module _ {D : Type 0} (here : Setting D)
    (only_now : (d : D) (c : List ℕ) → here.disk.left_since d (here.disk.moment d) c → here.disk.may_leave d c)
    (are : AreDecls here.decls) (plans : PlanStands) (legally : LegalStands) (order : KeepsOrder)
    (kinds : (device : ℕ) → IsOfHub (here.kinds device)) (lawful : (device : ℕ) → IsLawful (here.kinds device) (over here.decls device))
    (planning : Planning (over here.decls) (StandsAt here.decls) (FitAt here.decls) (ValidAt here.decls))
    (fit : (device : ℕ) → IsFitting (here.kinds device) (over here.decls device)) where
  abbrev pub RepliedWorld : World D → Type 0
  RepliedWorld world = DevicesKept here.decls world × RepliesKept here world

  abbrev pub replied_steps : (old new : World D) (meant : Event) (seen : Option Event) → HistoryKept here old → RepliedWorld old → Steps here old meant seen new → RepliedWorld new
  replied_steps old new meant seen kept own steps = (
    steps_devices here are plans kinds lawful planning old new meant seen kept own.0 steps,
    steps_reply here are plans kinds lawful planning fit old new meant seen kept own.0 own.1 steps,
  )

  abbrev pub replied_set : (at : ScriptStep) (world : World D) → RepliedWorld world → RepliedWorld (set_by at world)
  replied_set at world own = (set_devices here at world own.0, set_replies here at world own.1)

  -- what is kept of a turn, with the devices and their replies
  abbrev pub IsReplied : World D → Turn D → Type 0
  IsReplied last turn = IsKept here only_now are plans legally order RepliedWorld replied_steps replied_set last turn

  pub replied : (script : List ScriptStep) (first last : World D) (run : Run here script first last) → HistoryKept here first → DevicesKept here.decls first → RepliesKept here first
      → (turn : Turn D) → Contains (turns_of run) turn → IsReplied last turn
  replied script first last run kept devices replies turn among =
      each_in (IsReplied last) (turns_of run) turn
      (run_survives here only_now are plans legally order RepliedWorld replied_steps replied_set script first last run (kept, (devices, replies))).each among
