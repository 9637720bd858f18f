-- Events that don't come.
use Rattle.std.specs.Prelude.{◌≡◌, ◌⊎◌, ℕ, Option, None, Some, List}
use Rattle.std.proofs.Common.{sym, ap, subst, ◌∙◌}
use Rattle.std.proofs.lemmas.Option.{none-some}
use Rattle.orc_device.specs.declared.op.Op.TheVariants as op
use Rattle.orc_hub.specs.Hubs.{record_of}
use Rattle.orc_journal.specs.declared.entry.Entry.{Entry}
use Rattle.orc_rules.specs.Due.{least_due}
use Rattle.orc_rules.specs.Events.{DoesUnderHub}
use Rattle.orc_rules.specs.Fits.{FitsNow, IsFirstFit}
use Rattle.orc_rules.specs.Hubs.{Hub as HubState, due_on}
use Rattle.orc_rules.specs.Worlds.{Setting, World}
use Rattle.orc_rules.specs.declared.event.Event.{Event}
use Rattle.orc_rules.specs.declared.transaction.Waiting.{Waiting}
use Rattle.orc_hub.specs.Admits.{NoneFits}
use Rattle.orc_hub_laws.specs.Turns.{IsAdmission, IsDecision, IsOperationOn, NoAdmission, NoDecision, NothingOrdered}

module _ {D : Type 0} (here : Setting D) where
  module _ (world : World D) (hub : HubState) (none : NoneFits hub.active hub.waiting) where
    first_none : (place : ℕ) → IsFirstFit hub.active hub.waiting place → ⊥
    first_none place first = none place first.it first.fits

    none_admitted : (meant : Event) (row : List Entry) (next : World D) → IsAdmission meant → DoesUnderHub here world hub meant row next → ⊥
    none_admitted _ _ _ is (DoesUnderHub.begins caller) = is
    none_admitted _ _ _ is (DoesUnderHub.answers call front said asked snap cause keeps) = is
    none_admitted _ _ _ is (DoesUnderHub.queues it front snap same lawful closed apart new within made number slot) = is
    none_admitted _ _ _ is (DoesUnderHub.turns_away place it said there first mended cause) = first_none place first
    none_admitted _ _ _ is (DoesUnderHub.admits place it sets there first mended passes known) = first_none place first
    none_admitted _ _ _ is (DoesUnderHub.performs device due happened on unheard possible way) = is
    none_admitted _ _ _ is (DoesUnderHub.leaves_unsent device changes on unheard) = is
    none_admitted _ _ _ is (DoesUnderHub.reports device kind reply unheard) = is
    none_admitted _ _ _ is (DoesUnderHub.commits place it there least due prepared valid) = is
    none_admitted _ _ _ is (DoesUnderHub.aborts place it said there least due cause) = is
    none_admitted _ _ _ is (DoesUnderHub.settles place it there least settling) = is
    none_admitted _ _ _ is DoesUnderHub.stops = is
    none_admitted _ _ _ is (DoesUnderHub.mends numbers idle unsettled) = is
    none_admitted _ _ _ is (DoesUnderHub.mended numbers mends free unheard unsettled) = is
    none_admitted _ _ _ is (DoesUnderHub.finds_no_memory mends free unheard) = is
    none_admitted _ _ _ is (DoesUnderHub.fails_to_mend met mends unheard) = is

  module _ (world : World D) (hub : HubState) (none : least_due hub.duties hub.active ≡ None) where
    least_none : (t : ℕ) → least_due hub.duties hub.active ≡ Some t → ⊥
    least_none t least = none-some t (sym none ∙ least)

    none_decided : (meant : Event) (row : List Entry) (next : World D) → IsDecision meant → DoesUnderHub here world hub meant row next → ⊥
    none_decided _ _ _ is (DoesUnderHub.begins caller) = is
    none_decided _ _ _ is (DoesUnderHub.answers call front said asked snap cause keeps) = is
    none_decided _ _ _ is (DoesUnderHub.queues it front snap same lawful closed apart new within made number slot) = is
    none_decided _ _ _ is (DoesUnderHub.turns_away place it said there first mended cause) = is
    none_decided _ _ _ is (DoesUnderHub.admits place it sets there first mended passes known) = is
    none_decided _ _ _ is (DoesUnderHub.performs device due happened on unheard possible way) = is
    none_decided _ _ _ is (DoesUnderHub.leaves_unsent device changes on unheard) = is
    none_decided _ _ _ is (DoesUnderHub.reports device kind reply unheard) = is
    none_decided _ _ _ is (DoesUnderHub.commits place it there least due prepared valid) = least_none it.t least
    none_decided _ _ _ is (DoesUnderHub.aborts place it said there least due cause) = least_none it.t least
    none_decided _ _ _ is (DoesUnderHub.settles place it there least settling) = least_none it.t least
    none_decided _ _ _ is DoesUnderHub.stops = is
    none_decided _ _ _ is (DoesUnderHub.mends numbers idle unsettled) = is
    none_decided _ _ _ is (DoesUnderHub.mended numbers mends free unheard unsettled) = is
    none_decided _ _ _ is (DoesUnderHub.finds_no_memory mends free unheard) = is
    none_decided _ _ _ is (DoesUnderHub.fails_to_mend met mends unheard) = is

  module _ (world : World D) (hub : HubState) (device : ℕ) (none : due_on hub device ≡ None) where
    none_performed : (meant : Event) (row : List Entry) (next : World D) → IsOperationOn device meant → DoesUnderHub here world hub meant row next → ⊥
    none_performed _ _ _ is (DoesUnderHub.begins caller) = is
    none_performed _ _ _ is (DoesUnderHub.answers call front said asked snap cause keeps) = is
    none_performed _ _ _ is (DoesUnderHub.queues it front snap same lawful closed apart new within made number slot) = is
    none_performed _ _ _ is (DoesUnderHub.turns_away place it said there first mended cause) = is
    none_performed _ _ _ is (DoesUnderHub.admits place it sets there first mended passes known) = is
    none_performed _ _ _ is (DoesUnderHub.performs other due happened on unheard possible way) = none-some due (sym none ∙ ap (due_on hub) (sym is) ∙ on)
    none_performed _ _ _ is (DoesUnderHub.leaves_unsent other changes on unheard) = none-some (op.Edit changes) (sym none ∙ ap (due_on hub) (sym is) ∙ on)
    none_performed _ _ _ is (DoesUnderHub.reports other kind reply unheard) = is
    none_performed _ _ _ is (DoesUnderHub.commits place it there least due prepared valid) = is
    none_performed _ _ _ is (DoesUnderHub.aborts place it said there least due cause) = is
    none_performed _ _ _ is (DoesUnderHub.settles place it there least settling) = is
    none_performed _ _ _ is DoesUnderHub.stops = is
    none_performed _ _ _ is (DoesUnderHub.mends numbers idle unsettled) = is
    none_performed _ _ _ is (DoesUnderHub.mended numbers mends free unheard unsettled) = is
    none_performed _ _ _ is (DoesUnderHub.finds_no_memory mends free unheard) = is
    none_performed _ _ _ is (DoesUnderHub.fails_to_mend met mends unheard) = is

  pub no_admission_so : NoAdmission here
  no_admission_so world hub meant row next none is does = none_admitted world (record_of hub) none meant row next is does

  pub no_decision_so : NoDecision here
  no_decision_so world hub meant row next none is does = none_decided world (record_of hub) none meant row next is does

  pub nothing_ordered_so : NothingOrdered here
  nothing_ordered_so world hub device meant row next none is does = none_performed world (record_of hub) device none meant row next is does
