-- A transaction whose decision is due: what is known of its call, and of the one who asked.
use Rattle.std.proofs.Common.{◌≡◌, ℕ, true, false, List, [], Some, IsTrue, refl, ap, ◌∙◌}
use Rattle.std.specs.Prelude.{Option, slice_get}
use Rattle.std.specs.Cmp.{first_so}
use Rattle.std.specs.Option.{option_map_or}
use Rattle.orc_call.specs.declared.call.Call.{Call}
use Rattle.orc_disk.specs.Meanings.{DiskMeaning}
use Rattle.orc_plans.specs.Plans.{PlanStands, UnclashedStands}
use Rattle.orc_rules.specs.Due.{is_decision_due}
use Rattle.orc_rules.specs.Transactions.{is_preparing}
use Rattle.orc_rules.specs.Verdicts.{are_heard}
use Rattle.orc_rules.specs.declared.asked.Asked.{Asked}
use Rattle.orc_rules.specs.declared.transaction.Transaction.{Transaction}
use Rattle.orc_state.specs.Checks.{CanCommit}
use Rattle.orc_hub_parts.specs.Askers.{IsOpenAt, named_at}
use Rattle.orc_hub.specs.Decisions.{asker_name}
use Rattle.orc_hub.specs.Keeps.{IsAsker, IsHub, IsSoundHub}
use Rattle.orc_hub.specs.declared.hub.Hub.{Hub}
use Rattle.orc_hub.proofs.Standing.{may_commit}

-- who asked has an open slot, of the caller and number of the call
pub open_there : (asked : List Asked) (place : ℕ) (call : Call) → IsAsker asked place call → IsOpenAt asked place
open_there asked place call own = record { slot = own.slot; there = own.there; is = own.is_open }

pub named_there : (asked : List Asked) (place : ℕ) (call : Call) → IsAsker asked place call → named_at asked place ≡ (call.caller, call.number)
named_there asked place call own =
    ap (λ (o : Option Asked). option_map_or (λ (slot : Asked). (slot.caller, slot.number)) o ([], 0)) own.there ∙ (λ i. (own.caller i, own.number i))

module _ {D : Type 0} (disk : DiskMeaning D) (hub : Hub D) (kept : IsSoundHub disk hub) (up : hub.down ≡ false) (place : ℕ) (it : Transaction)
    (is : slice_get hub.active place ≡ Some it) (due : is_decision_due hub.duties it ≡ true) where
  pub preparing : is_preparing it.phase ≡ true
  preparing = first_so (is_preparing it.phase) (are_heard hub.duties it.t it.plan.held.devices) due

  pub asks : IsAsker hub.askers it.asker it.call
  asks = (kept up).1.askers.prepares place it is preparing

  pub ready : UnclashedStands → PlanStands → CanCommit hub.decls hub.state.history it.call it.plan
  ready unclashed law =
      let own = (kept up).1 in
      may_commit unclashed law hub.decls hub.state.history it own.decls (own.kept.admitted place it is preparing) (own.kept.fresh place it is preparing)
