-- The history that the rules see, and snapshots of it.
use Rattle.std.proofs.Common.{[], ◌≡◌, ℕ, List, ◌∷◌, ◌++◌, All, sym, ap, subst, ◌∙◌}
use Rattle.std.proofs.lemmas.List.Elements.{All-weaker}
use Rattle.orc_call.specs.declared.call.Call.{Call}
use Rattle.orc_decls.specs.declared.declarations.Decls.{Decls}
use Rattle.orc_disk.specs.Stops.{Stopping}
use Rattle.orc_hub.specs.declared.hub.Hub.{Hub}
use Rattle.orc_hub_laws.specs.Under.{IsWorldOf}
use Rattle.orc_rules.specs.Journals.{Journal, history_read}
use Rattle.orc_rules.specs.Worlds.{Setting, World as Seen}
use Rattle.orc_state.specs.Laws.{SnapshotStaysAtFront}
use Rattle.orc_state.specs.States.{IsSnapshotAt}
use Rattle.orc_scene.specs.declared.snapshots.Taken.{Taken}

-- the history that is read is that of the hub's state
pub history_seen : {D : Type 0} (here : Setting D) (seen : Seen D) (hub : Hub (Stopping D)) → IsWorldOf here seen hub
    → history_read seen.journal ≡ hub.state.history
history_seen {D} here seen hub is = ap (λ (j : Journal D). history_read j) is.journal ∙ is.sound.history

-- snapshots of it are snapshots of a longer one
pub fronts_stay : SnapshotStaysAtFront → (decls : Decls) (history more longer : List Call) (taken : List Taken) → longer ≡ history ++ more
    → All (λ one. IsSnapshotAt decls history one.snapshot) taken → All (λ one. IsSnapshotAt decls longer one.snapshot) taken
fronts_stay law decls history more longer taken is all =
    All-weaker (λ one. IsSnapshotAt decls history one.snapshot) (λ one. IsSnapshotAt decls longer one.snapshot)
    (λ one at. subst (λ (h : List Call). IsSnapshotAt decls h one.snapshot) (sym is) (law decls history more one.snapshot at)) taken all
