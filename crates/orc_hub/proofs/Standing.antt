-- A call under way whose decision is due may be committed.
use Rattle.std.proofs.Common.{◌≡◌, List, [], ◌∷◌, ◌++◌, None, take, drop, sym, ap, subst, ◌∙◌}
use Rattle.std.proofs.lemmas.List.{take-append-drop}
use Rattle.orc_call.specs.declared.call.Call.{Call}
use Rattle.orc_datastore.specs.Histories.{fold_from}
use Rattle.orc_datastore.specs.Legal.{IsNew, state_of}
use Rattle.orc_datastore.specs.States.{Datastore, opening}
use Rattle.orc_datastore.proofs.Legality.{fold_from-append, legal_last}
use Rattle.orc_decls.specs.Declarations.{AreDecls}
use Rattle.orc_decls.specs.declared.declarations.Decls.{Decls}
use Rattle.orc_plans.specs.Plans.{PlanStands, UnclashedStands}
use Rattle.orc_plans.proofs.Agreeing.{unrefused_parts}
use Rattle.orc_rules.specs.Standing.{IsAdmitted}
use Rattle.orc_rules.specs.declared.transaction.Transaction.{Transaction}
use Rattle.orc_rules.proofs.Standings.{still_stands}
use Rattle.orc_state.specs.Checks.{CanCommit, clash_of}

-- the state after a history, from that after a prefix of it on
state_since : (decls : Decls) (history : List Call) (it : Transaction)
    → fold_from decls (state_of decls (take it.since history)) (drop it.since history) ≡ state_of decls history
state_since decls history it =
    sym (fold_from-append decls (opening decls) (take it.since history) (drop it.since history))
    ∙ ap (state_of decls) (take-append-drop it.since history)

pub may_commit : UnclashedStands → PlanStands → (decls : Decls) (history : List Call) (it : Transaction) → AreDecls decls
    → IsAdmitted decls history it → IsNew history it.call → CanCommit decls history it.call it.plan
may_commit unclashed law decls history it are own fresh = record { new = fresh; planned = own.planned; stands = still_stands law decls history it are own; apart = apart }
  where
    early : Datastore
    early = state_of decls (take it.since history)

    free : clash_of decls early it.call ≡ None
    free = (unrefused_parts decls early it.call (legal_last decls (take it.since history) it.call own.legal).1.unrefused).1

    apart : clash_of decls (state_of decls history) it.call ≡ None
    apart = subst (λ (s : Datastore). clash_of decls s it.call ≡ None) (state_since decls history it)
        (unclashed decls early it.call it.plan (drop it.since history) own.stood own.fitting free)
