-- What an entry writes, and what its plan holds.
use Rattle.std.proofs.Common.{◌≡◌, All, IsTrue, None}
use Rattle.std.proofs.lemmas.List.Sums.{AllPass-from_list_all}
use Rattle.orc_path.specs.declared.item.Write.{Write}
use Rattle.orc_path.specs.declared.item.Write.TheVariants as write
use Rattle.orc_decls.specs.Calls.{is_action, is_call}
use Rattle.orc_datastore.specs.Actions.{data_after}
use Rattle.orc_datastore.specs.Legal.{IsDue, state_of}
use Rattle.orc_datastore.specs.Next.{existence, invalid}
use Rattle.orc_datastore.specs.States.{Datastore}
use Rattle.orc_datastore.specs.declared.plan.Plan.{Plan}
use Rattle.orc_plans.specs.Plans.{ChangesAreHeld, IsWriteOf, PlannedStands}
use Rattle.orc_laws.specs.Entries.{EntryWritesAreHeld, IsHeldWrite}
use Rattle.orc_decls.proofs.Fits.{call-actions}
use Rattle.orc_datastore.proofs.Agreement.{or_none}
use Rattle.orc_datastore.proofs.Legality.{legal_last}

-- the call is planned there with what the plan holds, whose front says nothing of that
pub entry_writes_held : PlannedStands → ChangesAreHeld → EntryWritesAreHeld
entry_writes_held law_planned law_held decls history call plan written legal stands is = on written is
  where
    state : Datastore
    state = state_of decls history

    last : IsTrue (is_call decls call) × IsDue decls history call
    last = legal_last decls history call legal

    lawful : All (λ action. IsTrue (is_action decls action)) call.actions
    lawful = AllPass-from_list_all (is_action decls) call.actions (call-actions decls call last.0)

    valid : invalid decls.data_schema (data_after call.actions state.data) ≡ None
    valid =
        (or_none (invalid decls.data_schema (data_after call.actions state.data)) _
        (or_none (existence state.live call.actions) _ last.1.unrefused).1).0

    here : Plan
    here = record { front = 0; held = plan.held; expansions = plan.expansions; next = data_after call.actions state.data }

    on : (other : Write) → IsWriteOf state call other → IsHeldWrite plan other
    on (write.At path) differs =
        (law_held decls state 0 call here lawful ((law_planned decls state 0 call plan).1 stands valid)).0 path differs
    on (write.Service id) named =
        (law_held decls state 0 call here lawful ((law_planned decls state 0 call plan).1 stands valid)).1 id named
