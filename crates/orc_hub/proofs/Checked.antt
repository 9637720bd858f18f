-- What passes the state's check, in the words of the rules.
use Rattle.std.proofs.Common.{◌≡◌, ℕ, ◌<◌, List, [], ◌∷◌, map, length, All, refl, ap, ◌∙◌, arith}
use Rattle.std.specs.Prelude.{IfOk, Result}
use Rattle.std.specs.List.{range_with_len}
use Rattle.std.proofs.lemmas.List.Elements.{All-filter, All-from_get_or, All-map, All-weaker}
use Rattle.std.proofs.lemmas.List.FromFn.{length-range_with_len, get_or-range_with_len}
use Rattle.orc_call.specs.declared.answer.Answer.{Answer}
use Rattle.orc_call.specs.declared.call.Call.{Call}
use Rattle.orc_datastore.specs.Legal.{state_of}
use Rattle.orc_datastore.specs.Next.{after, expanded_call, expanded_to}
use Rattle.orc_datastore.specs.Sets.{set_between}
use Rattle.orc_datastore.specs.Touched.{is_touched_among, touched_devices}
use Rattle.orc_datastore.specs.declared.plan.Plan.{Plan}
use Rattle.orc_decls.specs.declared.declarations.Decls.{Decls}
use Rattle.orc_queue.specs.declared.held.Held.{Held}
use Rattle.orc_rules.specs.Admissions.{IsSetOf, Passes}
use Rattle.orc_state.specs.Checks.{Checks, clashes, conflicts, early, passes}
use Rattle.orc_tree.specs.declared.change.ChangeSet.{ChangeSet}

firsts : {X : Type 0} (g : ℕ → X) (ds : List ℕ) → map (λ (one : ℕ × X). one.0) (map (λ d. (d, g d)) ds) ≡ ds
firsts g [] = refl
firsts g (d ∷ ds) = ap (λ l. d ∷ l) (firsts g ds)

module _ (decls : Decls) (history : List Call) (call : Call) (plan : Plan) where
  abbrev set_on : ℕ → ChangeSet
  set_on d = record { changes = set_between (state_of decls history) (after decls (state_of decls history) call) d }

  declared_ones : All (λ d. d < length decls.names) (touched_devices decls (state_of decls history) call)
  declared_ones =
      All-filter (is_touched_among decls.names (state_of decls history) (expanded_to (expanded_call decls (state_of decls history) call)))
      (λ d. d < length decls.names) (range_with_len 0 (length decls.names))
      (All-from_get_or (λ d. d < length decls.names) (range_with_len 0 (length decls.names)) 0
      (λ i within. let lt : i < length decls.names = omega (arith, length-range_with_len 0 (length decls.names), within) in
      omega (arith, get_or-range_with_len 0 (length decls.names) i 0 lt, lt)))

  pub passed : (answer : Result (List (ℕ × ChangeSet)) Answer) → Checks decls history call plan answer → IfOk answer (Passes decls history call plan)
  passed answer (early given is) = tt
  passed answer (conflicts place written none is) = tt
  passed answer (clashes given none unread is) = tt
  passed answer (passes unread none stands) = record {
    unrefused = none;
    unread = unread;
    stands = stands;
    devices = firsts set_on (touched_devices decls (state_of decls history) call) ∙ ap (λ (h : Held). h.devices) stands.held;
    within = All-map (λ (one : ℕ × ChangeSet). one.0 < length decls.names) (λ d. (d, set_on d)) (touched_devices decls (state_of decls history) call) declared_ones;
    exact = All-map (IsSetOf decls history call) (λ d. (d, set_on d)) (touched_devices decls (state_of decls history) call)
        (All-weaker (λ d. d < length decls.names) (λ d. IsSetOf decls history call (d, set_on d)) (λ d h. refl) (touched_devices decls (state_of decls history) call) declared_ones);
  }
