-- What the decision on a transaction, and the end of workers, leave of the transactions.
use Rattle.std.proofs.Common.{◌≡◌, ◌⊎◌, inl, inr, ℕ, Bool, true, false, ◌&&◌, nat_eq, cond, List, [], ◌∷◌, get_or, Option, None, Some, map, refl, sym, ap, subst, ◌∙◌}
use Rattle.std.specs.Prelude.{slice_get, option_map}
use Rattle.std.specs.List.{list_all}
use Rattle.std.proofs.lemmas.Bool.{false≢true}
use Rattle.std.proofs.lemmas.Option.{slice_get-map, same_Some}
use Rattle.std.proofs.lemmas.List.Elements.{All-nil}
use Rattle.orc_expr.specs.Touches.{Covers}
use Rattle.orc_expr.specs.declared.read.Read.{Read}
use Rattle.orc_queue.specs.Fitting.{CoversNone, FitTogether}
use Rattle.orc_queue.specs.declared.held.Held.{Held}
use Rattle.orc_rules.specs.Standing.{AreFit}
use Rattle.orc_rules.specs.Transactions.{are_over, transaction_ended, has_lost, in_phase, is_preparing, is_told, nothing_held, retired}
use Rattle.orc_rules.specs.declared.duty.Duty.{Duty}
use Rattle.orc_rules.specs.declared.transaction.Phase.{Phase}
use Rattle.orc_rules.specs.declared.transaction.Phase.TheVariants as phase
use Rattle.orc_rules.specs.declared.transaction.Transaction.{Transaction}

-- one that is still preparing is as it was

pub still_in : (duties : List Duty) (it : Transaction) → is_preparing (retired duties it).phase ≡ true → retired duties it ≡ it
still_in duties it h = on (is_told it.phase && are_over duties it.t it.plan.held.devices) refl
  where
    gone : (b : Bool) → is_preparing (cond b phase.Left phase.Settling) ≡ true → ⊥
    gone true e = false≢true e
    gone false e = false≢true e

    on : (b : Bool) → (is_told it.phase && are_over duties it.t it.plan.held.devices) ≡ b → retired duties it ≡ it
    on true is = absurd (gone (has_lost duties it.t it.plan.held.devices) (subst (λ (b : Bool). is_preparing (cond b (transaction_ended duties it) it).phase ≡ true) is h))
    on false is = ap (λ (b : Bool). cond b (transaction_ended duties it) it) is

pub not_told : (t : ℕ) (to : Phase) (it : Transaction) → is_preparing to ≡ false → is_preparing (in_phase t to it).phase ≡ true
    → (in_phase t to it ≡ it) × (nat_eq it.t t ≡ false)
not_told t to it other h = on (nat_eq it.t t) refl
  where
    on : (b : Bool) → nat_eq it.t t ≡ b → (in_phase t to it ≡ it) × (nat_eq it.t t ≡ false)
    on true is = absurd (false≢true (sym other ∙ subst (λ (b : Bool). is_preparing (cond b (record it { phase = to }) it).phase ≡ true) is h))
    on false is = (ap (λ (b : Bool). cond b (record it { phase = to }) it) is, is)

-- what it holds is what it held, or nothing

held_by : (duties : List Duty) (it : Transaction) → ((retired duties it).plan.held ≡ it.plan.held) ⊎ ((retired duties it).plan.held ≡ nothing_held)
held_by duties it = on (is_told it.phase && are_over duties it.t it.plan.held.devices) refl
  where
    on : (b : Bool) → (is_told it.phase && are_over duties it.t it.plan.held.devices) ≡ b
        → ((retired duties it).plan.held ≡ it.plan.held) ⊎ ((retired duties it).plan.held ≡ nothing_held)
    on true is = inr (ap (λ (b : Bool). (cond b (transaction_ended duties it) it).plan.held) is)
    on false is = inl (ap (λ (b : Bool). (cond b (transaction_ended duties it) it).plan.held) is)

same_held : (t : ℕ) (to : Phase) (it : Transaction) → (in_phase t to it).plan.held ≡ it.plan.held
same_held t to it = on (nat_eq it.t t) refl
  where
    on : (b : Bool) → nat_eq it.t t ≡ b → (in_phase t to it).plan.held ≡ it.plan.held
    on true is = ap (λ (b : Bool). (cond b (record it { phase = to }) it).plan.held) is
    on false is = ap (λ (b : Bool). (cond b (record it { phase = to }) it).plan.held) is

-- what holds nothing fits

all_so : {X : Type 0} (xs : List X) → list_all (λ x. true) xs ≡ true
all_so [] = refl
all_so (x ∷ xs) = all_so xs

nothing_fits : (held : Held) → FitTogether nothing_held held
nothing_fits held = record {
  devices = refl;
  services = refl;
  reads_kept = All-nil (CoversNone held.reads.reads);
  keeps_reads = λ k d within. All-nil (λ (reading : Read). Covers (get_or held.targets k d) reading → ⊥);
}

pub fits_nothing : (held : Held) → FitTogether held nothing_held
fits_nothing held = record {
  devices = all_so held.devices;
  services = all_so held.services;
  reads_kept = λ k d within. All-nil (λ (reading : Read). Covers (get_or held.targets k d) reading → ⊥);
  keeps_reads = All-nil (CoversNone held.reads.reads);
}

-- the element of a mapped list
pub of_map : {X : Type 0} (f : X → X) (xs : List X) (i : ℕ) (y : X) → slice_get (map f xs) i ≡ Some y → (x : X) × (slice_get xs i ≡ Some x) × (y ≡ f x)
of_map {X = X} f xs i y is = on (slice_get xs i) refl
  where
    on : (o : Option X) → slice_get xs i ≡ o → (x : X) × (slice_get xs i ≡ Some x) × (y ≡ f x)
    on None none = absurd (let no : Some y ≡ None = sym is ∙ slice_get-map f xs i ∙ ap (option_map f) none in cc)
    on (Some x) some = (x, some, same_Some y (f x) (sym is ∙ slice_get-map f xs i ∙ ap (option_map f) some))

pub retired_fit : (duties : List Duty) (active : List Transaction) → AreFit active → AreFit (map (retired duties) active)
retired_fit duties active fit i j it other is is' apart =
    let one = of_map (retired duties) active i it is in
    let two = of_map (retired duties) active j other is' in
    subst (λ (a : Transaction). FitTogether a.plan.held other.plan.held) (sym one.2)
    (subst (λ (b : Transaction). FitTogether (retired duties one.0).plan.held b.plan.held) (sym two.2)
    (on one.0 two.0 (held_by duties one.0) (held_by duties two.0) (fit i j one.0 two.0 one.1 two.1 apart)))
  where
    on : (x y : Transaction) → ((retired duties x).plan.held ≡ x.plan.held) ⊎ ((retired duties x).plan.held ≡ nothing_held)
        → ((retired duties y).plan.held ≡ y.plan.held) ⊎ ((retired duties y).plan.held ≡ nothing_held)
        → FitTogether x.plan.held y.plan.held → FitTogether (retired duties x).plan.held (retired duties y).plan.held
    on x y (inr none) q f = subst (λ (h : Held). FitTogether h (retired duties y).plan.held) (sym none) (nothing_fits (retired duties y).plan.held)
    on x y p (inr none) f = subst (λ (h : Held). FitTogether (retired duties x).plan.held h) (sym none) (fits_nothing (retired duties x).plan.held)
    on x y (inl same) (inl same') f = subst (λ (h : Held). FitTogether h (retired duties y).plan.held) (sym same) (subst (λ (h : Held). FitTogether x.plan.held h) (sym same') f)

pub told_fit : (t : ℕ) (to : Phase) (active : List Transaction) → AreFit active → AreFit (map (in_phase t to) active)
told_fit t to active fit i j it other is is' apart =
    let one = of_map (in_phase t to) active i it is in
    let two = of_map (in_phase t to) active j other is' in
    subst (λ (h : Held). FitTogether h other.plan.held) (sym (ap (λ (a : Transaction). a.plan.held) one.2 ∙ same_held t to one.0))
    (subst (λ (h : Held). FitTogether one.0.plan.held h) (sym (ap (λ (a : Transaction). a.plan.held) two.2 ∙ same_held t to two.0)) (fit i j one.0 two.0 one.1 two.1 apart))

-- One that is still preparing after the report or the decision was so before. By a decision it isn't the one decided.
pub was_there : (duties : List Duty) (active : List Transaction) (i : ℕ) (it : Transaction) → slice_get (map (retired duties) active) i ≡ Some it
    → is_preparing it.phase ≡ true → slice_get active i ≡ Some it
was_there duties active i it is h =
    let one = of_map (retired duties) active i it is in
    let same = still_in duties one.0 (subst (λ (a : Transaction). is_preparing a.phase ≡ true) one.2 h) in
    one.1 ∙ ap Some (sym (one.2 ∙ same))

pub was_other : (t : ℕ) (to : Phase) (active : List Transaction) (i : ℕ) (it : Transaction) → is_preparing to ≡ false
    → slice_get (map (in_phase t to) active) i ≡ Some it → is_preparing it.phase ≡ true → (slice_get active i ≡ Some it) × (nat_eq it.t t ≡ false)
was_other t to active i it other is h =
    let one = of_map (in_phase t to) active i it is in
    let same = not_told t to one.0 other (subst (λ (a : Transaction). is_preparing a.phase ≡ true) one.2 h) in
    let whole : it ≡ one.0 = one.2 ∙ same.0 in
    (one.1 ∙ ap Some (sym whole), ap (λ (a : Transaction). nat_eq a.t t) whole ∙ same.1)
