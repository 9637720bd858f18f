-- One entry more.
use Rattle.std.proofs.Common.{◌≡◌, ℕ, List, [], ◌∷◌, ◌++◌, Some, None, take, length, IsTrue, OnErr, OnOk, ◌<◌, get_or, refl, sym, ap, subst, ◌∙◌, arith}
use Rattle.std.specs.declared.result.Result.{Result}
use Rattle.std.specs.declared.result.Result.TheVariants.{Ok, Err}
use Rattle.std.specs.Prelude.{Option, slice_get, unwrap_or}
use Rattle.std.proofs.lemmas.List.{length-append}
use Rattle.std.proofs.lemmas.Option.{same_Some, slice_get_read}
use Rattle.std.proofs.Math.Seq.{take-append_seam}
use Rattle.orc_path.specs.Configurations.{Config}
use Rattle.orc_path.specs.declared.item.Write.{Write}
use Rattle.orc_call.specs.declared.call.Action.{Action}
use Rattle.orc_call.specs.declared.call.Call.{Call}
use Rattle.orc_decls.specs.Calls.{is_call}
use Rattle.orc_datastore.specs.Histories.{fold_from}
use Rattle.orc_datastore.specs.Legal.{IsNew}
use Rattle.orc_datastore.specs.Next.{IsDataAfter, IsStateOf, after, expanded_call, refusal}
use Rattle.orc_datastore.specs.States.{Datastore, opening}
use Rattle.orc_decls.specs.declared.declarations.Decls.{Decls}
use Rattle.orc_datastore.proofs.Legality.{fold_from-push, legal_more}
use Rattle.orc_state.specs.Checks.{clash_of}
use Rattle.orc_state.specs.Commits.{IsCommitted}
use Rattle.orc_state.specs.inside.Entering.{Enters}
use Rattle.orc_state.specs.States.{IsStateUnder, State}
use Rattle.orc_state.specs.Writes.{AreWritesAlong, AreWritesOf}
use Rattle.orc_state.proofs.Checking.{unrefused_by}

along_push : (decls : Decls) (s : Datastore) (calls : List Call) (rows : List (List Write)) (call : Call) (row : List Write) → AreWritesAlong decls s calls rows
    → AreWritesOf (fold_from decls s calls) call row → AreWritesAlong decls s (calls ++ call ∷ []) (rows ++ row ∷ [])
along_push decls s [] [] call row h one = (one, tt)
along_push decls s [] (r ∷ rows) call row h one = absurd h
along_push decls s (c ∷ calls) [] call row h one = absurd h
along_push decls s (c ∷ calls) (r ∷ rows) call row h one = (h.0, along_push decls (after decls s c) calls rows call row h.1 one)

last_at : {X : Type 0} (xs : List X) (x : X) → slice_get (xs ++ x ∷ []) (length xs) ≡ Some x
last_at [] x = refl
last_at (y ∷ xs) x = last_at xs x

-- the last entry
pub entry_last : (list xs : List Call) (call entry : Call) (n : ℕ) → list ≡ xs ++ call ∷ [] → n ≡ length xs → entry ≡ get_or list n entry → entry ≡ call
entry_last list xs call entry n whole at is =
    let within : n < length list = omega (arith, at, ap (λ (l : List Call). length l) whole, length-append xs (call ∷ [])) in
    same_Some entry call
    (sym (slice_get_read list _ n entry refl within is) ∙ ap (λ (l : List Call). slice_get l n) whole ∙ ap (slice_get (xs ++ call ∷ [])) at ∙ last_at xs call)

-- an entered call comes to the actions that were made of its own ones, else to these
pub comes_as_entered : (decls : Decls) (s : Datastore) (call entry : Call) (made : Option (List Action)) (actions : List Action) → entry ≡ call
    → expanded_call decls s call ≡ Ok (unwrap_or made call.actions) → actions ≡ unwrap_or made entry.actions → expanded_call decls s entry ≡ Ok actions
comes_as_entered decls s call entry made actions same comes is =
    subst (λ (e : Call). actions ≡ unwrap_or made e.actions → expanded_call decls s e ≡ Ok actions) (sym same)
    (λ own. comes ∙ ap (λ (l : List Action). Ok l) (sym own)) is

pub entered : {E : Type 0} (decls : Decls) (before : State) (call entry : Call) (row : List Write) (result : Result (Unit {0}) E) (state : Datastore) (history : List Call)
    (writes : List (List Write)) → history ≡ before.history ++ call ∷ [] → writes ≡ before.writes ++ row ∷ [] → length before.writes ≡ length before.history
    → entry ≡ call → OnOk result (state ≡ after decls before.datastore entry) → OnErr result (state ≡ before.datastore) → IsStateOf decls state
    → Enters decls before call row result (record { datastore = state; history = history; writes = writes })
entered decls before call entry row (Ok tt) state history writes hs ws count same done still kept = (
  ap (λ (s : Datastore). record { datastore = s; history = history; writes = writes }) (done ∙ ap (after decls before.datastore) same)
      ∙ ap (λ (h : List Call). record { datastore = after decls before.datastore call; history = h; writes = writes }) hs
      ∙ ap (λ (w : List (List Write)). record { datastore = after decls before.datastore call; history = before.history ++ call ∷ []; writes = w }) ws,
  kept,
)
entered decls before call entry row (Err fault) state history writes hs ws count same done still kept = (
  still,
  ap (take (length before.history)) hs ∙ take-append_seam before.history (call ∷ []),
  ap (λ n. take n writes) (sym count) ∙ ap (take (length before.writes)) ws ∙ take-append_seam before.writes (row ∷ []),
)

module _ (decls : Decls) (before : State) (state : IsStateUnder decls before) (call : Call) (lawful : IsTrue (is_call decls call)) (row : List Write) (next : Config) (made : List Action)
    (new : IsNew before.history call) (behind : IsDataAfter decls before.datastore call (Ok next)) (comes : expanded_call decls before.datastore call ≡ Ok made)
    (apart : clash_of decls before.datastore call ≡ None) (writes : AreWritesOf before.datastore call row) where
  unrefused : refusal decls before.datastore call ≡ None
  unrefused = unrefused_by decls call before.datastore next made behind comes apart

  one_more : IsStateOf decls (after decls before.datastore call)
      → IsStateUnder decls (record { datastore = after decls before.datastore call; history = before.history ++ call ∷ []; writes = before.writes ++ row ∷ [] })
  one_more kept = record {
    legal = legal_more decls before.history call state.legal lawful
        (record { new = new; unrefused = subst (λ (s : Datastore). refusal decls s call ≡ None) state.datastore unrefused });
    datastore = ap (λ (s : Datastore). after decls s call) state.datastore ∙ sym (fold_from-push decls (opening decls) before.history call);
    kept = kept;
    writes = along_push decls (opening decls) before.history before.writes call row state.writes (subst (λ (s : Datastore). AreWritesOf s call row) state.datastore writes);
  }

  pub committed : {E : Type 0} (result : Result (Unit {0}) E) (done : Unit {0}) (after_it : State) (number : ℕ) → result ≡ Ok done → Enters decls before call row result after_it
      → number ≡ length after_it.history → IsCommitted decls before call number after_it
  committed {E} result done after_it number is enters last = on (subst (λ (r : Result (Unit {0}) E). Enters decls before call row r after_it) is enters)
    where
      on : Enters {E = E} decls before call row (Ok done) after_it → IsCommitted decls before call number after_it
      on both = record {
        valid = behind.2;
        history = ap (λ (p : State). p.history) both.0;
        last = last;
        state = subst (IsStateUnder decls) (sym both.0) (one_more (subst (λ (p : State). IsStateOf decls p.datastore) both.0 both.1));
      }
