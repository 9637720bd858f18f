-- What each event leaves of the hub, over the entries with those that it appends.
use Rattle.std.proofs.Common.{◌≡◌, ◌≢◌, ◌⊎◌, inl, inr, ⊎_elim, ℕ, Bool, true, false, ◌&&◌, ◌||◌, nat_eq, cond, List, [], ◌∷◌, ◌++◌, None, Some, map, length, All, refl, sym, ap, subst, ◌∙◌, eqb-true, zero, suc}
use Rattle.std.specs.Prelude.{slice_get}
use Rattle.std.proofs.lemmas.Bool.{false≢true}
use Rattle.std.proofs.lemmas.Option.{same_Some}
use Rattle.std.proofs.lemmas.List.Elements.{All-append, All-cons, All-head, All-nil, All-tail, All-weaker}
use Rattle.orc_call.specs.declared.call.Call.{Call}
use Rattle.orc_journal.specs.Entries.{number_of}
use Rattle.orc_journal.specs.Laws.{HasIntent, IsUnnamed, MayFollow}
use Rattle.orc_journal.specs.declared.entry.Entry.{Entry}
use Rattle.orc_journal.specs.declared.entry.Entry.TheVariants as entry
use Rattle.orc_plans.specs.Plans.{PlanStands, StandsOn}
use Rattle.orc_queue.specs.Fitting.{FitTogether}
use Rattle.orc_decls.specs.Declarations.{AreDecls}
use Rattle.orc_datastore.specs.Legal.{IsLegal, IsNew, IsSame, refusal_of, state_of}
use Rattle.orc_decls.specs.declared.declarations.Decls.{Decls}
use Rattle.orc_rules.specs.Admissions.{transaction_begun, without}
use Rattle.orc_rules.specs.Kept.{HubKept, IsOpenIn, is_unsettled}
use Rattle.orc_rules.specs.Standing.{IsAdmitted, IsWaiting}
use Rattle.orc_rules.specs.Transactions.{are_over, transaction_ended, in_phase, is_preparing, is_settling, is_told, retired}
use Rattle.orc_rules.specs.declared.duty.Duty.{Duty}
use Rattle.orc_rules.specs.declared.transaction.Phase.{Phase}
use Rattle.orc_rules.specs.declared.transaction.Phase.TheVariants as phase
use Rattle.orc_rules.specs.declared.transaction.Transaction.{Transaction}
use Rattle.orc_rules.specs.declared.transaction.Waiting.{Waiting}
use Rattle.orc_rules.specs.Cells.{updated_at}
use Rattle.orc_rules.proofs.Entering.{All-at, All-without, Differ, apart_from, apart_of, apart_push, apart_without, named_by, open_new, open_push, settle_push, to_settle, unnamed_push}
use Rattle.orc_queue.proofs.Mutual.{fit_other}
use Rattle.orc_rules.proofs.Recording.{given_at}
use Rattle.orc_rules.proofs.Retiring.{of_map, retired_fit, told_fit, was_other, was_there}
use Rattle.orc_rules.proofs.Standings.{comes_admitted, stays_admitted, stays_planned}

-- who is to be settled after a report was so before

unsettled_before : (duties : List Duty) (x : Transaction) → is_unsettled (retired duties x).phase ≡ true → (is_unsettled x.phase ≡ true) × ((retired duties x).t ≡ x.t)
unsettled_before duties x h = on (is_told x.phase && are_over duties x.t x.plan.held.devices) refl
  where
    told_so : (a b : Bool) → (a && b) ≡ true → a ≡ true
    told_so true b e = refl
    told_so false b e = cc

    or_so : (a b : Bool) → a ≡ true → (a || b) ≡ true
    or_so true b e = refl
    or_so false b e = cc

    on : (b : Bool) → (is_told x.phase && are_over duties x.t x.plan.held.devices) ≡ b → (is_unsettled x.phase ≡ true) × ((retired duties x).t ≡ x.t)
    on true is = (or_so (is_told x.phase) (is_settling x.phase) (told_so (is_told x.phase) _ is), ap (λ (b : Bool). (cond b (transaction_ended duties x) x).t) is)
    on false is =
        let same : retired duties x ≡ x = ap (λ (b : Bool). cond b (transaction_ended duties x) x) is in
        (ap (λ (a : Transaction). is_unsettled a.phase) (sym same) ∙ h, ap (λ (a : Transaction). a.t) same)

both : {X : Type 0} (P Q R : X → Type 0) → ((x : X) → P x → Q x → R x) → (xs : List X) → All P xs → All Q xs → All R xs
both P Q R f [] p q = All-nil R
both P Q R f (x ∷ xs) p q =
    All-cons R x xs (f x (All-head P x xs p) (All-head Q x xs q)) (both P Q R f xs (All-tail P x xs p) (All-tail Q x xs q))

pub unsettled_so : (p : Phase) → is_settling p ≡ true → is_unsettled p ≡ true
unsettled_so phase.Settling h = refl
unsettled_so phase.Decided h = refl
unsettled_so phase.Aborted h = refl
unsettled_so phase.Preparing h = cc
unsettled_so phase.Left h = cc

module _ (decls : Decls) (entries : List Entry) (history : List Call) (active : List Transaction) (waiting : List Waiting) (taken : ℕ → Bool)
    (own : HubKept decls entries history active waiting taken) where
  pub report_keeps : (duties : List Duty) → HubKept decls entries history (map (retired duties) active) waiting taken
  report_keeps duties = record {
    intents = λ place it is h. own.intents place it (was_there duties active place it is h) h;
    settle = λ place it is h.
        let one = of_map (retired duties) active place it is in
        let before = unsettled_before duties one.0 (subst (λ (a : Transaction). is_unsettled a.phase ≡ true) one.2 h) in
        subst (λ (t : ℕ). MayFollow entries (entry.Settled t)) (sym (ap (λ (a : Transaction). a.t) one.2 ∙ before.1)) (own.settle place one.0 one.1 before.0);
    admitted = λ place it is h. own.admitted place it (was_there duties active place it is h) h;
    fresh = λ place it is h. own.fresh place it (was_there duties active place it is h) h;
    fit = retired_fit duties active own.fit;
    apart = λ i j it other is is' h h'. own.apart i j it other (was_there duties active i it is h) (was_there duties active j other is' h') h h';
    waits_apart = λ place it is h. own.waits_apart place it (was_there duties active place it is h) h;
    waits = own.waits;
    unused = own.unused;
    numbered = own.numbered;
    waiting_apart = own.waiting_apart;
  }

  -- After an entry of a transaction that has its intent, by which it comes to another phase.
  module _ (it : Transaction) (e : Entry) (number : number_of e ≡ it.t) (to : Phase) (other : is_preparing to ≡ false) (intent : HasIntent entries it.t) where
    unnumbered : (u : ℕ) → (it.t ≡ u → ⊥) → number_of e ≡ u → ⊥
    unnumbered u apart same = apart (sym number ∙ same)

    was : (i : ℕ) (x : Transaction) → slice_get (map (in_phase it.t to) active) i ≡ Some x → is_preparing x.phase ≡ true
        → (slice_get active i ≡ Some x) × (nat_eq x.t it.t ≡ false)
    was i x there h = was_other it.t to active i x other there h

    to_settle_now : (i : ℕ) (x : Transaction) → (is_unsettled to ≡ true → MayFollow (entries ++ e ∷ []) (entry.Settled it.t)) → slice_get active i ≡ Some x
        → is_unsettled (in_phase it.t to x).phase ≡ true → MayFollow (entries ++ e ∷ []) (entry.Settled (in_phase it.t to x).t)
    to_settle_now i x settle_it there h = on (nat_eq x.t it.t) refl
      where
        on : (b : Bool) → nat_eq x.t it.t ≡ b → MayFollow (entries ++ e ∷ []) (entry.Settled (in_phase it.t to x).t)
        on true is =
            let same : in_phase it.t to x ≡ record x { phase = to } = ap (λ (b : Bool). cond b (record x { phase = to }) x) is in
            subst (λ (t : ℕ). MayFollow (entries ++ e ∷ []) (entry.Settled t)) (sym (ap (λ (a : Transaction). a.t) same ∙ eqb-true x.t it.t is))
            (settle_it (ap (λ (a : Transaction). is_unsettled a.phase) (sym same) ∙ h))
        on false is =
            let same : in_phase it.t to x ≡ x = ap (λ (b : Bool). cond b (record x { phase = to }) x) is in
            subst (λ (a : Transaction). MayFollow (entries ++ e ∷ []) (entry.Settled a.t)) (sym same)
            (settle_push x.t entries e (λ same'. unnumbered x.t (apart_of x.t it.t is) (ap number_of same')) (own.settle i x there (ap (λ (a : Transaction). is_unsettled a.phase) (sym same) ∙ h)))

    pub phase_keeps : (history' : List Call)
        → ((i : ℕ) (x : Transaction) → slice_get active i ≡ Some x → is_preparing x.phase ≡ true → nat_eq x.t it.t ≡ false → IsAdmitted decls history' x × IsNew history' x.call)
        → All (IsWaiting decls history') waiting
        → (is_unsettled to ≡ true → MayFollow (entries ++ e ∷ []) (entry.Settled it.t))
        → HubKept decls (entries ++ e ∷ []) history' (map (in_phase it.t to) active) waiting taken
    phase_keeps history' still waits settle_it = record {
      intents = λ i x there h. let old = was i x there h in open_push entries e x (unnumbered x.t (apart_of x.t it.t old.1)) (own.intents i x old.0 h);
      settle = λ i x there h.
          let one = of_map (in_phase it.t to) active i x there in
          subst (λ (a : Transaction). MayFollow (entries ++ e ∷ []) (entry.Settled a.t)) (sym one.2)
          (to_settle_now i one.0 settle_it one.1 (subst (λ (a : Transaction). is_unsettled a.phase ≡ true) one.2 h));
      admitted = λ i x there h. let old = was i x there h in (still i x old.0 h old.1).0;
      fresh = λ i x there h. let old = was i x there h in (still i x old.0 h old.1).1;
      fit = told_fit it.t to active own.fit;
      apart = λ i j x y there there' h h'. own.apart i j x y (was i x there h).0 (was j y there' h').0 h h';
      waits_apart = λ i x there h. own.waits_apart i x (was i x there h).0 h;
      waits = waits;
      unused = All-weaker (λ (one : Waiting). IsUnnamed entries one.t) (λ (one : Waiting). IsUnnamed (entries ++ e ∷ []) one.t)
          (λ one none. unnamed_push one.t entries e (unnumbered one.t (named_by it.t one.t entries intent none)) none) waiting own.unused;
      numbered = own.numbered;
      waiting_apart = own.waiting_apart;
    }

  module _ (place : ℕ) (it : Transaction) (is : slice_get active place ≡ Some it) where
    pub abort_keeps : is_preparing it.phase ≡ true → (duties : List Duty)
        → HubKept decls (entries ++ entry.Abort it.t ∷ []) history (map (in_phase it.t phase.Aborted) active) waiting taken
    abort_keeps preparing duties =
        let open_in = own.intents place it is preparing in
        phase_keeps it (entry.Abort it.t) refl phase.Aborted refl open_in.undecided.0 history (λ i x there h apart. (own.admitted i x there h, own.fresh i x there h)) own.waits
        (λ _. to_settle entries (entry.Abort it.t) it (λ e. cc) open_in)

    pub settle_keeps : is_settling it.phase ≡ true
        → HubKept decls (entries ++ entry.Settled it.t ∷ []) history (map (in_phase it.t phase.Left) active) waiting taken
    settle_keeps settling =
        phase_keeps it (entry.Settled it.t) refl phase.Left refl (own.settle place it is (unsettled_so it.phase settling)).0 history (λ i x there h apart. (own.admitted i x there h, own.fresh i x there h)) own.waits
        (λ e. absurd (false≢true e))

    -- after a commit the others' calls are as they were
    pub commit_keeps : PlanStands → AreDecls decls → is_preparing it.phase ≡ true
        → HubKept decls (entries ++ entry.Decide it.t ∷ []) (history ++ it.call ∷ []) (map (in_phase it.t phase.Decided) active) waiting taken
    commit_keeps law are preparing =
        let open_in = own.intents place it is preparing in
        phase_keeps it (entry.Decide it.t) refl phase.Decided refl open_in.undecided.0 (history ++ it.call ∷ [])
        (λ i x there h apart. (
          stays_admitted law decls history x it are (own.admitted i x there h) (own.admitted place it is preparing)
              (own.fit i place x it there is (place_apart i x there apart)) (same_not i x there h apart),
          All-append (λ e. IsSame e x.call → ⊥) history (it.call ∷ []) (own.fresh i x there h)
              (All-cons (λ e. IsSame e x.call → ⊥) it.call [] (same_not i x there h apart) (All-nil (λ e. IsSame e x.call → ⊥))),
        ))
        (both (IsWaiting decls history) (λ (one : Waiting). it.call.caller ≢ one.call.caller) (IsWaiting decls (history ++ it.call ∷ [])) still_waiting waiting own.waits (own.waits_apart place it is preparing))
        (λ _. to_settle entries (entry.Decide it.t) it (λ e. cc) open_in)
      where
        place_apart : (i : ℕ) (x : Transaction) → slice_get active i ≡ Some x → nat_eq x.t it.t ≡ false → i ≡ place → ⊥
        place_apart i x there apart e =
            apart_of x.t it.t apart (ap (λ (a : Transaction). a.t) (same_Some it x (sym is ∙ ap (slice_get active) (sym e) ∙ there)))

        same_not : (i : ℕ) (x : Transaction) → slice_get active i ≡ Some x → is_preparing x.phase ≡ true → nat_eq x.t it.t ≡ false → IsSame it.call x.call → ⊥
        same_not i x there h apart = own.apart i place x it there is h preparing (λ e. apart_of x.t it.t apart (sym e))

        still_waiting : (one : Waiting) → IsWaiting decls history one → (it.call.caller ≢ one.call.caller) → IsWaiting decls (history ++ it.call ∷ []) one
        still_waiting one waits apart = record {
          lawful = waits.lawful;
          planned = stays_planned decls history (it.call ∷ []) one.call one.plan waits.planned;
          fresh = All-append (λ e. IsSame e one.call → ⊥) history (it.call ∷ []) waits.fresh
              (All-cons (λ e. IsSame e one.call → ⊥) it.call [] (λ same. apart same.0) (All-nil (λ e. IsSame e one.call → ⊥)));
        }

pub push_cases : {X : Type 0} (xs : List X) (b : X) (i : ℕ) (x : X) → slice_get (xs ++ b ∷ []) i ≡ Some x → (slice_get xs i ≡ Some x) ⊎ ((i ≡ length xs) × (b ≡ x))
push_cases [] b zero x is = inr (refl, same_Some b x is)
push_cases [] b (suc i) x is = absurd cc
push_cases (y ∷ xs) b zero x is = inl is
push_cases (y ∷ xs) b (suc i) x is = ⊎_elim (λ old. inl old) (λ new. inr (ap suc new.0, new.1)) (push_cases xs b i x is)

module _ (decls : Decls) (entries : List Entry) (history : List Call) (active : List Transaction) (waiting : List Waiting) (taken : ℕ → Bool)
    (own : HubKept decls entries history active waiting taken) where
  -- a waiting call gets its Intent
  pub admit_keeps : (place : ℕ) (it : Waiting) → slice_get waiting place ≡ Some it → All (λ other. FitTogether it.plan.held other.plan.held) active
      → IsLegal decls history → refusal_of decls history it.call ≡ None → StandsOn decls (state_of decls history) it.call it.plan
      → HubKept decls (entries ++ entry.Intent it.t it.call it.plan.held.devices ∷ []) history (active ++ transaction_begun (length history) it ∷ []) (without place waiting) taken
  admit_keeps place it is fits legal unrefused stands = record {
    intents = λ i x there h. ⊎_elim
        (λ old. open_push entries e x (unnumbered x (own.intents i x old h)) (own.intents i x old h))
        (λ new. subst (λ (a : Transaction). IsOpenIn (entries ++ e ∷ []) a) new.1 (open_new entries b it.plan.held.devices none)) (push_cases active b i x there);
    settle = λ i x there h. ⊎_elim
        (λ old. settle_push x.t entries e (λ s. cc) (own.settle i x old h))
        (λ new. absurd (false≢true (ap (λ (a : Transaction). is_unsettled a.phase) new.1 ∙ h))) (push_cases active b i x there);
    admitted = λ i x there h. ⊎_elim (λ old. own.admitted i x old h) (λ new. subst (IsAdmitted decls history) new.1 comes) (push_cases active b i x there);
    fresh = λ i x there h. ⊎_elim (λ old. own.fresh i x old h) (λ new. subst (λ (a : Transaction). IsNew history a.call) new.1 waits.fresh) (push_cases active b i x there);
    fit = λ i j x y there there' differ. ⊎_elim
        (λ old. ⊎_elim (λ old'. own.fit i j x y old old' differ)
        (λ new'. subst (λ (a : Transaction). FitTogether x.plan.held a.plan.held) new'.1 (fit_other it.plan.held x.plan.held (All-at (λ other. FitTogether it.plan.held other.plan.held) active i x fits old))) (push_cases active b j y there'))
        (λ new. ⊎_elim (λ old'. subst (λ (a : Transaction). FitTogether a.plan.held y.plan.held) new.1 (All-at (λ other. FitTogether it.plan.held other.plan.held) active j y fits old'))
        (λ new'. absurd (differ (new.0 ∙ sym new'.0))) (push_cases active b j y there')) (push_cases active b i x there);
    apart = λ i j x y there there' h h' differ same. ⊎_elim
        (λ old. ⊎_elim (λ old'. own.apart i j x y old old' h h' differ same)
        (λ new'. All-at (λ one. x.call.caller ≢ one.call.caller) waiting place it (own.waits_apart i x old h) is (sym (same.0) ∙ ap (λ (a : Transaction). a.call.caller) (sym new'.1))) (push_cases active b j y there'))
        (λ new. ⊎_elim (λ old'. All-at (λ one. y.call.caller ≢ one.call.caller) waiting place it (own.waits_apart j y old' h') is (same.0 ∙ ap (λ (a : Transaction). a.call.caller) (sym new.1)))
        (λ new'. differ (ap (λ (a : Transaction). a.t) (sym new.1 ∙ new'.1))) (push_cases active b j y there')) (push_cases active b i x there);
    waits_apart = λ i x there h. ⊎_elim
        (λ old. All-without (λ one. x.call.caller ≢ one.call.caller) place waiting (own.waits_apart i x old h))
        (λ new. subst (λ (a : Transaction). All (λ (one : Waiting). a.call.caller ≢ one.call.caller) (without place waiting)) new.1
        (All-weaker (Differ it) (λ (one : Waiting). it.call.caller ≢ one.call.caller) (λ one d. d.1) (without place waiting) (apart_from place waiting it own.waiting_apart is))) (push_cases active b i x there);
    waits = All-without (IsWaiting decls history) place waiting own.waits;
    unused = both (λ (one : Waiting). IsUnnamed entries one.t) (Differ it) (λ (one : Waiting). IsUnnamed (entries ++ e ∷ []) one.t)
        (λ one no differ. unnamed_push one.t entries e differ.0 no) (without place waiting) (All-without (λ (one : Waiting). IsUnnamed entries one.t) place waiting own.unused)
        (apart_from place waiting it own.waiting_apart is);
    numbered = All-without (λ one. taken one.t ≡ true) place waiting own.numbered;
    waiting_apart = apart_without place waiting own.waiting_apart;
  }
    where
      e : Entry
      e = entry.Intent it.t it.call it.plan.held.devices

      b : Transaction
      b = transaction_begun (length history) it

      waits : IsWaiting decls history it
      waits = All-at (IsWaiting decls history) waiting place it own.waits is

      none : IsUnnamed entries it.t
      none = All-at (λ (one : Waiting). IsUnnamed entries one.t) waiting place it own.unused is

      unnumbered : (x : Transaction) → IsOpenIn entries x → number_of e ≡ x.t → ⊥
      unnumbered x open_in same = named_by x.t it.t entries open_in.undecided.0 none (sym same)

      comes : IsAdmitted decls history b
      comes = comes_admitted decls history b refl waits.lawful waits.planned legal (record { new = waits.fresh; unrefused = unrefused }) stands

  -- a call comes to wait
  pub queue_keeps : (it : Waiting) → IsWaiting decls history it → IsUnnamed entries it.t → taken it.t ≡ false
      → All (λ one. one.call.caller ≢ it.call.caller) waiting → All (λ x. is_preparing x.phase ≡ true → x.call.caller ≢ it.call.caller) active
      → HubKept decls entries history active (waiting ++ it ∷ []) (updated_at taken it.t true)
  queue_keeps it waits unused new apart apart' = record {
    intents = own.intents;
    settle = own.settle;
    admitted = own.admitted;
    fresh = own.fresh;
    fit = own.fit;
    apart = own.apart;
    waits_apart = λ i x there h. All-append (λ one. x.call.caller ≢ one.call.caller) waiting (it ∷ []) (own.waits_apart i x there h)
        (All-cons (λ one. x.call.caller ≢ one.call.caller) it [] (All-at (λ y. is_preparing y.phase ≡ true → y.call.caller ≢ it.call.caller) active i x apart' there h) (All-nil (λ one. x.call.caller ≢ one.call.caller)));
    waits = All-append (IsWaiting decls history) waiting (it ∷ []) own.waits (All-cons (IsWaiting decls history) it [] waits (All-nil (IsWaiting decls history)));
    unused = All-append (λ one. IsUnnamed entries one.t) waiting (it ∷ []) own.unused (All-cons (λ one. IsUnnamed entries one.t) it [] unused (All-nil (λ one. IsUnnamed entries one.t)));
    numbered = All-append (λ one. updated_at taken it.t true one.t ≡ true) waiting (it ∷ [])
        (All-weaker (λ one. taken one.t ≡ true) (λ one. updated_at taken it.t true one.t ≡ true) (λ one h. still one.t h) waiting own.numbered)
        (All-cons (λ one. updated_at taken it.t true one.t ≡ true) it [] (given_at taken it.t true) (All-nil (λ one. updated_at taken it.t true one.t ≡ true)));
    waiting_apart = apart_push waiting it own.waiting_apart
        (both (λ one. taken one.t ≡ true) (λ one. one.call.caller ≢ it.call.caller) (λ one. Differ one it)
        (λ one h no. ((λ e. false≢true (sym new ∙ ap taken (sym e) ∙ h)), no)) waiting own.numbered apart);
  }
    where
      still : (t : ℕ) → taken t ≡ true → updated_at taken it.t true t ≡ true
      still t h = on (nat_eq it.t t)
        where
          on : (c : Bool) → cond c true (taken t) ≡ true
          on true = refl
          on false = h

  pub turn_away_keeps : (place : ℕ) → HubKept decls entries history active (without place waiting) taken
  turn_away_keeps place = record {
    intents = own.intents;
    settle = own.settle;
    admitted = own.admitted;
    fresh = own.fresh;
    fit = own.fit;
    apart = own.apart;
    waits_apart = λ i x there h. All-without (λ one. x.call.caller ≢ one.call.caller) place waiting (own.waits_apart i x there h);
    waits = All-without (IsWaiting decls history) place waiting own.waits;
    unused = All-without (λ one. IsUnnamed entries one.t) place waiting own.unused;
    numbered = All-without (λ one. taken one.t ≡ true) place waiting own.numbered;
    waiting_apart = apart_without place waiting own.waiting_apart;
  }
