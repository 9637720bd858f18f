-- How a run is carried on.
use Rattle.std.proofs.Common.{◌≡◌, ℕ, true, []}
use Rattle.orc_decls.specs.Declarations.{AreDecls}
use Rattle.orc_journal.specs.Laws.{KeepsOrder}
use Rattle.orc_plans.specs.Plans.{LegalStands, PlanStands}
use Rattle.orc_rules.specs.Invariant.{IsFitting, IsLawful}
use Rattle.orc_rules.specs.Kept.{FitAt, StandsAt, ValidAt}
use Rattle.orc_rules.specs.Network.{Planning}
use Rattle.orc_rules.specs.UnderHub.{IsOfHub}
use Rattle.orc_rules.specs.Worlds.{Setting, over}
use Rattle.orc_rules.proofs.Replied.{steps_reply}
use Rattle.orc_rules.proofs.Tracking.{steps_devices}
use Rattle.orc_rules.proofs.Turning.{steps_keep}
use Rattle.orc_runs.specs.Laws.{RunsAreCarried}
use Rattle.orc_runs.proofs.Faulted.{set_replies}
use Rattle.orc_runs.proofs.InStep.{set_devices}
use Rattle.orc_runs.proofs.Lasting.{set_kept}
use Rattle.orc_runs.proofs.Rested.{set_rested, steps_rest}
use Rattle.orc_runs.proofs.Settled.{idle_now, set_serves, steps_serve}
use Rattle.orc_runs.proofs.Whole.{starts_devices, starts_kept, starts_replies, starts_rested, starts_served}

module _ {D : Type 0} (here : Setting D) (are : AreDecls here.decls) (plans : PlanStands) (legally : LegalStands) (order : KeepsOrder)
    (kinds : (device : ℕ) → IsOfHub (here.kinds device)) (lawful : (device : ℕ) → IsLawful (here.kinds device) (over here.decls device))
    (planning : Planning (over here.decls) (StandsAt here.decls) (FitAt here.decls) (ValidAt here.decls))
    (fit : (device : ℕ) → IsFitting (here.kinds device) (over here.decls device))
    (accepted : (device : ℕ) → (here.kinds device).accepts (over here.decls device []) ≡ true) where
  pub carried : RunsAreCarried here
  carried = record {
    starts = λ first starts. (
      record {
        history = starts_kept here first starts are plans legally order;
        devices = starts_devices here first starts lawful planning;
        replies = starts_replies here first starts accepted;
        serves = starts_served here first starts;
      },
      starts_rested here first starts,
    );
    events = λ old new meant seen own steps. record {
      history = steps_keep here are plans legally order old new meant seen own.history steps;
      devices = steps_devices here are plans kinds lawful planning old new meant seen own.history own.devices steps;
      replies = steps_reply here are plans kinds lawful planning fit old new meant seen own.history own.devices own.replies steps;
      serves = steps_serve here are plans kinds lawful planning old new meant seen own.history own.devices own.serves steps;
    };
    rests = λ old new meant seen steps other rested. steps_rest here old new meant seen steps other rested;
    settings = λ at world own. record {
      history = set_kept here at world own.history;
      devices = set_devices here at world own.devices;
      replies = set_replies here at world own.replies;
      serves = set_serves at world own.serves;
    };
    rests_set = λ at world rested. set_rested here at world rested;
    idle = λ world hub own rested up still. idle_now here are plans kinds lawful planning world hub up own.history own.devices (own.serves hub up) still (rested hub up);
  }
