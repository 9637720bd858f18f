-- A history is the list of the committed calls.
use Rattle.std.specs.Prelude.{◌≡◌, List, [], ◌∷◌}
use Rattle.std.specs.declared.option.Option.TheVariants.{None}
use Rattle.orc_datastore.specs.Next.{after, refusal}
use Rattle.orc_call.specs.declared.call.Call.{Call}
use Rattle.orc_decls.specs.declared.declarations.Decls.{Decls}
use Rattle.orc_datastore.specs.States.{Datastore}

-- the state after the calls of a history, from a state on
abbrev pub fold_from : Decls → Datastore → List Call → Datastore
fold_from decls state [] = state
fold_from decls state (call ∷ calls) = fold_from decls (after decls state call) calls

-- no call of the history is refused where it stands
abbrev pub IsUnrefused : Decls → Datastore → List Call → Type 0
IsUnrefused decls state [] = Unit {0}
IsUnrefused decls state (call ∷ calls) =
    (refusal decls state call ≡ None) × IsUnrefused decls (after decls state call) calls
