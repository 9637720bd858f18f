-- By a report the hub learns what the network knows since the operation: nothing moves.
use Rattle.std.proofs.Common.{◌≡◌, ◌⊎◌, inl, inr, ℕ, Bool, true, false, cond, ◌&&◌, nat_eq, List, [], ◌∷◌, Option, Some, None, map, refl, sym, ap, subst, ◌∙◌, eq-eqb, eqb-true, zero, suc}
use Rattle.std.specs.Prelude.{slice_get, slice_set}
use Rattle.std.specs.List.{find}
use Rattle.std.specs.Option.{option_map, option_map_or}
use Rattle.std.proofs.Math.Path.{fun_ext}
use Rattle.std.proofs.lemmas.Bool.{false≢true}
use Rattle.orc_call.specs.declared.call.Call.{Call}
use Rattle.orc_call.specs.declared.answer.Why.{Why}
use Rattle.orc_device.specs.Nodes.{NodeState}
use Rattle.orc_device.specs.declared.kind.OpKind.{OpKind}
use Rattle.orc_device.specs.declared.reply.Reply.{Reply}
use Rattle.orc_journal.specs.declared.entry.Entry.{Entry}
use Rattle.orc_decls.specs.declared.declarations.Decls.{Decls}
use Rattle.orc_rules.specs.Cells.{DeviceRole, updated_at}
use Rattle.orc_rules.specs.Duties.{duty_took, stale_by}
use Rattle.orc_rules.specs.Hubs.{Hub, with_changed, duty_on, hub_reported}
use Rattle.orc_rules.specs.Kept.{NetworkKept, Shadow, heard as then_heard, is_stale, local_of, network_of, plan_of, role_of, role_on, stale_on, stale_then}
use Rattle.orc_rules.specs.Network.{Local, Plan as Named}
use Rattle.orc_rules.specs.Told.{told_by}
use Rattle.orc_rules.specs.Transactions.{are_over, transaction_ended, has_lost, is_preparing, is_told, retired}
use Rattle.orc_rules.specs.Worlds.{Link, over}
use Rattle.orc_rules.specs.declared.duty.Duty.{Duty}
use Rattle.orc_rules.specs.declared.duty.Duty.TheVariants as duty
use Rattle.orc_rules.specs.declared.transaction.Phase.{Phase}
use Rattle.orc_rules.specs.declared.transaction.Phase.TheVariants as phase
use Rattle.orc_rules.specs.declared.transaction.Transaction.{Transaction}

-- an element changed, and the others

pub get_changed : {X : Type 0} (f : X → X) (i : ℕ) (xs : List X) → slice_get (with_changed f i xs) i ≡ option_map f (slice_get xs i)
get_changed f zero [] = refl
get_changed f (suc i) [] = refl
get_changed f zero (x ∷ xs) = refl
get_changed {X = X} f (suc i) (x ∷ xs) = at (slice_get xs i) refl ∙ get_changed f i xs
  where
    at : (o : Option X) → slice_get xs i ≡ o → slice_get (option_map_or (λ y. slice_set (x ∷ xs) (suc i) (f y)) o (x ∷ xs)) (suc i) ≡ slice_get (option_map_or (λ y. slice_set xs i (f y)) o xs) i
    at None is = refl
    at (Some y) is = refl

pub set_other : {X : Type 0} (k l : ℕ) (ys : List X) (v : X) → (k ≡ l → ⊥) → slice_get (slice_set ys k v) l ≡ slice_get ys l
set_other k l [] v h = refl
set_other zero zero (y ∷ ys) v h = absurd (h refl)
set_other zero (suc l) (y ∷ ys) v h = refl
set_other (suc k) zero (y ∷ ys) v h = refl
set_other (suc k) (suc l) (y ∷ ys) v h = set_other k l ys v (λ e. h (ap suc e))

pub get_other : {X : Type 0} (f : X → X) (i j : ℕ) (xs : List X) → (i ≡ j → ⊥) → slice_get (with_changed f i xs) j ≡ slice_get xs j
get_other {X = X} f i j xs apart = on (slice_get xs i)
  where
    on : (o : Option X) → slice_get (option_map_or (λ y. slice_set xs i (f y)) o xs) j ≡ slice_get xs j
    on None = refl
    on (Some y) = set_other i j xs (f y) apart

-- who is preparing under a number is so after a report

pub and_false : (a b : Bool) → b ≡ false → (a && b) ≡ false
and_false true b h = h
and_false false b h = refl

told_not : (p : Phase) → is_told p ≡ true → is_preparing p ≡ false
told_not phase.Preparing h = cc
told_not phase.Decided h = refl
told_not phase.Aborted h = refl
told_not phase.Settling h = refl
told_not phase.Left h = refl

pub first_so : (a b : Bool) → (a && b) ≡ true → a ≡ true
first_so true b h = refl
first_so false b h = cc

same_or_done : (duties : List Duty) (x : Transaction) → (retired duties x ≡ x) ⊎ ((is_preparing (retired duties x).phase ≡ false) × (is_preparing x.phase ≡ false))
same_or_done duties x = on (is_told x.phase && are_over duties x.t x.plan.held.devices) refl
  where
    ends : (b : Bool) → is_preparing (cond b phase.Left phase.Settling) ≡ false
    ends true = refl
    ends false = refl

    on : (b : Bool) → (is_told x.phase && are_over duties x.t x.plan.held.devices) ≡ b → (retired duties x ≡ x) ⊎ ((is_preparing (retired duties x).phase ≡ false) × (is_preparing x.phase ≡ false))
    on true is = inr (
      ap (λ (b : Bool). is_preparing (cond b (transaction_ended duties x) x).phase) is ∙ ends (has_lost duties x.t x.plan.held.devices),
      told_not x.phase (first_so (is_told x.phase) (are_over duties x.t x.plan.held.devices) is),
    )
    on false is = inl (ap (λ (b : Bool). cond b (transaction_ended duties x) x) is)

abbrev pub is_of : ℕ → Transaction → Bool
is_of t it = nat_eq it.t t && is_preparing it.phase

pub find_retired : (duties : List Duty) (t : ℕ) (xs : List Transaction) → option_map plan_of (find (is_of t) (map (retired duties) xs)) ≡ option_map plan_of (find (is_of t) xs)
find_retired duties t [] = refl
find_retired duties t (x ∷ xs) = step (same_or_done duties x) (find_retired duties t xs)
  where
    step : (retired duties x ≡ x) ⊎ ((is_preparing (retired duties x).phase ≡ false) × (is_preparing x.phase ≡ false))
        → option_map plan_of (find (is_of t) (map (retired duties) xs)) ≡ option_map plan_of (find (is_of t) xs)
        → option_map plan_of (cond (is_of t (retired duties x)) (Some (retired duties x)) (find (is_of t) (map (retired duties) xs)))
        ≡ option_map plan_of (cond (is_of t x) (Some x) (find (is_of t) xs))
    step (inl same) rest =
        ap (λ (y : Transaction). option_map plan_of (cond (is_of t y) (Some y) (find (is_of t) (map (retired duties) xs)))) same ∙ other (is_of t x) rest
      where
        other : (b : Bool) → option_map plan_of (find (is_of t) (map (retired duties) xs)) ≡ option_map plan_of (find (is_of t) xs)
            → option_map plan_of (cond b (Some x) (find (is_of t) (map (retired duties) xs))) ≡ option_map plan_of (cond b (Some x) (find (is_of t) xs))
        other true rest = refl
        other false rest = rest
    step (inr none) rest =
        ap (λ (b : Bool). option_map plan_of (cond b (Some (retired duties x)) (find (is_of t) (map (retired duties) xs)))) (and_false (nat_eq (retired duties x).t t) (is_preparing (retired duties x).phase) none.0)
        ∙ rest ∙ sym (ap (λ (b : Bool). option_map plan_of (cond b (Some x) (find (is_of t) xs))) (and_false (nat_eq x.t t) (is_preparing x.phase) none.1))

module _ (decls : Decls) (shadow : ℕ → Shadow) (entries : List Entry) where
  pub reports_keep : (hub : Hub) (nodes : ℕ → NodeState) (links : ℕ → Link) (device : ℕ) (op : OpKind) (reply : Reply) → (links device).unheard ≡ Some (op, reply)
      → NetworkKept decls (network_of decls shadow entries (Some hub) nodes links)
      → NetworkKept decls (network_of decls shadow entries (Some (hub_reported device reply (links device).faults hub)) nodes (updated_at links device (record (links device) { unheard = None })))
  reports_keep hub nodes links device op reply unheard kept =
      subst (λ (l : ℕ → Local Call). NetworkKept decls (record (network_of decls shadow entries (Some hub') nodes links) { locals = l })) (fun_ext each)
      (subst (λ (a : ℕ → Option (Named Call)). NetworkKept decls (record (network_of decls shadow entries (Some hub) nodes links) { active = a }))
      (fun_ext (λ t. sym (find_retired (with_changed (λ duty. duty_took duty reply (links device).faults) device hub.duties) t hub.active))) kept)
    where
      hub' : Hub
      hub' = hub_reported device reply (links device).faults hub

      link' : Link
      link' = record (links device) { unheard = None }

      took_at : (o : Option Duty) → option_map_or (λ d. d) (option_map (λ d. duty_took d reply (links device).faults) o) duty.Free ≡ duty_took (option_map_or (λ d. d) o duty.Free) reply (links device).faults
      took_at None = refl
      took_at (Some d) = refl

      stale_at : (o : Option (Option Why)) → is_stale (option_map (λ b. b) (option_map (stale_by (duty_on hub.duties device) reply (links device).faults) o)) ≡ is_stale (option_map (stale_by (duty_on hub.duties device) reply (links device).faults) o)
      stale_at None = refl
      stale_at (Some x) = refl

      role_here : role_on decls shadow entries (Some hub) device (links device) ≡ role_on decls shadow entries (Some hub') device link'
      role_here =
          ap (λ (u : Option (OpKind × Reply)). role_of (over decls device) (told_by entries) device (then_heard u (links device).faults (duty_on hub.duties device))) unheard
          ∙ ap (λ (d : Duty). role_of (over decls device) (told_by entries) device d)
          (sym (ap (λ (o : Option Duty). option_map_or (λ d. d) o duty.Free) (get_changed (λ d. duty_took d reply (links device).faults) device hub.duties) ∙ took_at (slice_get hub.duties device)))

      stale_here : stale_on decls shadow entries (Some hub) device (links device) ≡ stale_on decls shadow entries (Some hub') device link'
      stale_here =
          ap (λ (u : Option (OpKind × Reply)). is_stale (option_map (stale_then u (links device).faults (duty_on hub.duties device)) (slice_get hub.stale device))) unheard
          ∙ sym (ap (λ (o : Option (Option Why)). is_stale (option_map (λ b. b) o)) (get_changed (stale_by (duty_on hub.duties device) reply (links device).faults) device hub.stale) ∙ stale_at (slice_get hub.stale device))

      same : (old : Local Call) (role : DeviceRole Call) (stale : Bool) → old.role ≡ role → old.stale ≡ stale → old ≡ record old { role = role; stale = stale }
      same old role stale e f = ap (λ (r : DeviceRole Call). record old { role = r }) e ∙ ap (λ (b : Bool). record old { role = role; stale = b }) f

      each : (x : ℕ) → local_of decls shadow entries (Some hub) x (nodes x) (links x) ≡ local_of decls shadow entries (Some hub') x (nodes x) (updated_at links device link' x)
      each x = on (nat_eq device x) refl
        where
          on : (b : Bool) → nat_eq device x ≡ b → local_of decls shadow entries (Some hub) x (nodes x) (links x) ≡ local_of decls shadow entries (Some hub') x (nodes x) (cond b link' (links x))
          on true is = subst (λ (y : ℕ). local_of decls shadow entries (Some hub) y (nodes y) (links y) ≡ local_of decls shadow entries (Some hub') y (nodes y) link') (eqb-true device x is)
              (same (local_of decls shadow entries (Some hub) device (nodes device) (links device)) (role_on decls shadow entries (Some hub') device link') (stale_on decls shadow entries (Some hub') device link') role_here stale_here)
          on false is =
              let apart : device ≡ x → ⊥ = λ e. false≢true (sym is ∙ eq-eqb device x e) in
              same (local_of decls shadow entries (Some hub) x (nodes x) (links x)) (role_on decls shadow entries (Some hub') x (links x)) (stale_on decls shadow entries (Some hub') x (links x))
              (ap (λ (o : Option Duty). role_of (over decls x) (told_by entries) x (then_heard (links x).unheard (links x).faults (option_map_or (λ d. d) o duty.Free))) (sym (get_other (λ d. duty_took d reply (links device).faults) device x hub.duties apart)))
              (ap (λ (o : Option (Option Why)). is_stale (option_map (stale_then (links x).unheard (links x).faults (duty_on hub.duties x)) o)) (sym (get_other (stale_by (duty_on hub.duties device) reply (links device).faults) device x hub.stale apart))
              ∙ ap (λ (o : Option Duty). is_stale (option_map (stale_then (links x).unheard (links x).faults (option_map_or (λ d. d) o duty.Free)) (slice_get hub'.stale x))) (sym (get_other (λ d. duty_took d reply (links device).faults) device x hub.duties apart)))
