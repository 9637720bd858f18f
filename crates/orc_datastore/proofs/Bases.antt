-- The bases of devices after actions.
use Rattle.std.proofs.Common.{◌≡◌, ℕ, zero, suc, List, [], ◌∷◌, length, All, refl, ap, ◌∙◌}
use Rattle.std.specs.List.{fold}
use Rattle.std.proofs.lemmas.List.Elements.{All-head, All-tail}
use Rattle.orc_path.specs.Configurations.{Config}
use Rattle.orc_call.specs.declared.call.Action.{Action}
use Rattle.orc_datastore.specs.States.{config_of}
use Rattle.orc_decls.specs.Devices.{name_of}
use Rattle.orc_datastore.specs.Actions.{base_step, bases_after}

-- an action keeps what is so of the base of the device of this name
abbrev pub KeepsBase : (Config → Type 0) → List ℕ → Action → Type 0
KeepsBase P name action = (base : Config) → P base → P (base_step name base action)

-- then actions that each keep it keep it
fold_kept : (P : Config → Type 0) (name : List ℕ) (actions : List Action) (base : Config) → All (KeepsBase P name) actions
    → P base → P (fold (base_step name) base actions)
fold_kept P name [] base h p = p
fold_kept P name (action ∷ actions) base h p =
    fold_kept P name actions (base_step name base action) (All-tail (KeepsBase P name) action actions h)
    (All-head (KeepsBase P name) action actions h base p)

pub base_kept : (P : Config → Type 0) (names : List (List ℕ)) (actions : List Action) (bases : List Config) (d : ℕ)
    → All (KeepsBase P (name_of names d)) actions → P (config_of bases d) → P (config_of (bases_after names actions bases) d)
base_kept P names actions [] d h p = p
base_kept P [] actions (base ∷ bases) d h p = p
base_kept P (name ∷ names) actions (base ∷ bases) zero h p = fold_kept P name actions base h p
base_kept P (name ∷ names) actions (base ∷ bases) (suc d) h p = base_kept P names actions bases d h p

-- there are as many
pub bases-count : (names : List (List ℕ)) (actions : List Action) (bases : List Config) → length (bases_after names actions bases) ≡ length bases
bases-count names actions [] = refl
bases-count [] actions (base ∷ bases) = refl
bases-count (name ∷ names) actions (base ∷ bases) = ap suc (bases-count names actions bases)

-- an action that edits no base leaves them
pub bases_still : (action : Action) → ((name : List ℕ) (base : Config) → base_step name base action ≡ base)
    → (names : List (List ℕ)) (bases : List Config) → bases_after names (action ∷ []) bases ≡ bases
bases_still action still names [] = refl
bases_still action still [] (base ∷ bases) = refl
bases_still action still (name ∷ names) (base ∷ bases) =
    ap (λ (b : Config). b ∷ bases_after names (action ∷ []) bases) (still name base)
    ∙ ap (λ (l : List Config). base ∷ l) (bases_still action still names bases)
