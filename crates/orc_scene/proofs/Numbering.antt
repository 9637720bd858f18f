-- No two transactions under way have one number, whatever comes.
use Rattle.std.proofs.Common.{[], ◌≡◌, ◌&&◌, ℕ, nat_eq, Bool, true, false, cond, Option, Some, List, ◌∷◌, ◌++◌, All, map, refl, sym, ap, subst, ◌∙◌, append-nil}
use Rattle.std.specs.Prelude.{◌≢◌}
use Rattle.std.specs.List.{filter}
use Rattle.std.proofs.lemmas.List.Elements.{All-append, All-cons, All-head, All-nil, All-tail, All-weaker}
use Rattle.orc_journal.specs.Entries.{number_of}
use Rattle.orc_journal.specs.Laws.{IsUnnamed}
use Rattle.orc_journal.specs.declared.entry.Entry.{Entry}
use Rattle.orc_rules.specs.Admissions.{intent_entry}
use Rattle.orc_rules.specs.Events.{DoesAnyway, DoesUnderHub, Steps}
use Rattle.orc_rules.specs.Hubs.{Hub}
use Rattle.orc_rules.specs.Transactions.{are_over, in_phase, is_other, is_told, retired, transaction_ended}
use Rattle.orc_rules.specs.Worlds.{Setting, World as Seen}
use Rattle.orc_rules.specs.declared.duty.Duty.{Duty}
use Rattle.orc_rules.specs.declared.event.Event.{Event}
use Rattle.orc_rules.specs.declared.transaction.Phase.{Phase}
use Rattle.orc_rules.specs.declared.transaction.Transaction.{Transaction}
use Rattle.orc_rules.specs.declared.transaction.Waiting.{Waiting}
use Rattle.orc_rules.proofs.Entering.{All-at}
use Rattle.orc_scene.specs.Stands.{AreNumbered, AreOnce, HasEntry, numbers_of}

-- a change that keeps each number keeps them all
numbers_mapped : (f : Transaction → Transaction) → ((it : Transaction) → (f it).t ≡ it.t) → (active : List Transaction) → numbers_of (map f active) ≡ numbers_of active
numbers_mapped f same [] = refl
numbers_mapped f same (it ∷ active) =
    ap (λ (t : ℕ). t ∷ numbers_of (map f active)) (same it) ∙ ap (λ (ts : List ℕ). it.t ∷ ts) (numbers_mapped f same active)

numbers_pushed : (active : List Transaction) (it : Transaction) → numbers_of (active ++ it ∷ []) ≡ numbers_of active ++ it.t ∷ []
numbers_pushed [] it = refl
numbers_pushed (one ∷ active) it = ap (λ (ts : List ℕ). one.t ∷ ts) (numbers_pushed active it)

retired_number : (duties : List Duty) (it : Transaction) → (retired duties it).t ≡ it.t
retired_number duties it = on (is_told it.phase && are_over duties it.t it.plan.held.devices)
  where
    on : (b : Bool) → (cond b (transaction_ended duties it) it).t ≡ it.t
    on true = refl
    on false = refl

phase_number : (t : ℕ) (phase : Phase) (it : Transaction) → (in_phase t phase it).t ≡ it.t
phase_number t phase it = on (nat_eq it.t t)
  where
    on : (b : Bool) → (cond b (record it { phase = phase }) it).t ≡ it.t
    on true = refl
    on false = refl

-- some of them
some_all : (P : ℕ → Type 0) (p : Transaction → Bool) (active : List Transaction) → All P (numbers_of active) → All P (numbers_of (filter p active))
some_all P p [] all = all
some_all P p (it ∷ active) all = on (p it) (some_all P p active (All-tail P it.t (numbers_of active) all))
  where
    on : (b : Bool) → All P (numbers_of (filter p active)) → All P (numbers_of (cond b (it ∷ filter p active) (filter p active)))
    on true rest = All-cons P it.t (numbers_of (filter p active)) (All-head P it.t (numbers_of active) all) rest
    on false rest = rest

some_once : (p : Transaction → Bool) (active : List Transaction) → AreOnce (numbers_of active) → AreOnce (numbers_of (filter p active))
some_once p [] once = tt
some_once p (it ∷ active) once = on (p it) (some_all (λ other. it.t ≢ other) p active once.0) (some_once p active once.1)
  where
    on : (b : Bool) → All (λ other. it.t ≢ other) (numbers_of (filter p active)) → AreOnce (numbers_of (filter p active))
        → AreOnce (numbers_of (cond b (it ∷ filter p active) (filter p active)))
    on true apart rest = (apart, rest)
    on false apart rest = rest

-- numbers that stand once do so with a new one after them
pushed_once : (ts : List ℕ) (t : ℕ) → AreOnce ts → All (λ other. other ≢ t) ts → AreOnce (ts ++ t ∷ [])
pushed_once [] t once apart = (All-nil (λ other. t ≢ other), tt)
pushed_once (one ∷ ts) t once apart = (
  All-append (λ other. one ≢ other) ts (t ∷ []) once.0 (All-cons (λ other. one ≢ other) t [] (All-head (λ other. other ≢ t) one ts apart) (All-nil (λ other. one ≢ other))),
  pushed_once ts t once.1 (All-tail (λ other. other ≢ t) one ts apart),
)

-- an entry stays among more
front_all : (P : Entry → Type 0) (xs ys : List Entry) → All P (xs ++ ys) → All P xs
front_all P [] ys all = All-nil P
front_all P (x ∷ xs) ys all = All-cons P x xs (All-head P x (xs ++ ys) all) (front_all P xs ys (All-tail P x (xs ++ ys) all))

back_all : (P : Entry → Type 0) (xs ys : List Entry) → All P (xs ++ ys) → All P ys
back_all P [] ys all = all
back_all P (x ∷ xs) ys all = back_all P xs ys (All-tail P x (xs ++ ys) all)

entry_stays : (entries row : List Entry) (t : ℕ) → HasEntry entries t → HasEntry (entries ++ row) t
entry_stays entries row t has none = has (front_all (λ e. number_of e ≡ t → ⊥) entries row none)

entries_stay : (entries row : List Entry) (ts : List ℕ) → All (HasEntry entries) ts → All (HasEntry (entries ++ row)) ts
entries_stay entries row ts all = All-weaker (HasEntry entries) (HasEntry (entries ++ row)) (λ t has. entry_stays entries row t has) ts all

module _ (entries row : List Entry) (active : List Transaction) (so : AreOnce (numbers_of active) × All (HasEntry entries) (numbers_of active)) where
  abbrev Numbered : List Transaction → Type 0
  Numbered others = AreOnce (numbers_of others) × All (HasEntry (entries ++ row)) (numbers_of others)

  numbered_same : Numbered active
  numbered_same = (so.0, entries_stay entries row (numbers_of active) so.1)

  numbered_mapped : (f : Transaction → Transaction) → ((it : Transaction) → (f it).t ≡ it.t) → Numbered (map f active)
  numbered_mapped f same = subst (λ (ts : List ℕ). AreOnce ts × All (HasEntry (entries ++ row)) ts) (sym (numbers_mapped f same active)) numbered_same

  numbered_some : (p : Transaction → Bool) → Numbered (filter p active)
  numbered_some p = (some_once p active so.0, some_all (HasEntry (entries ++ row)) p active numbered_same.1)

  numbered_none : Numbered []
  numbered_none = (tt, All-nil (HasEntry (entries ++ row)))

-- an admission
numbered_begun : (entries : List Entry) (active : List Transaction) (waiting : Waiting) (it : Transaction) → it.t ≡ waiting.t → IsUnnamed entries waiting.t
    → AreOnce (numbers_of active) × All (HasEntry entries) (numbers_of active)
    → AreOnce (numbers_of (active ++ it ∷ [])) × All (HasEntry (entries ++ intent_entry waiting ∷ [])) (numbers_of (active ++ it ∷ []))
numbered_begun entries active waiting it number unnamed so =
    subst (λ (ts : List ℕ). AreOnce ts × All P ts) (sym (numbers_pushed active it)) (
      pushed_once (numbers_of active) it.t so.0
          (All-weaker (HasEntry entries) (λ other. other ≢ it.t) (λ other has same. has (subst (IsUnnamed entries) (sym (same ∙ number)) unnamed)) (numbers_of active) so.1),
      All-append P (numbers_of active) (it.t ∷ []) (entries_stay entries (intent_entry waiting ∷ []) (numbers_of active) so.1) (All-cons P it.t [] last (All-nil P)),
    )
  where
    P : ℕ → Type 0
    P = HasEntry (entries ++ intent_entry waiting ∷ [])

    last : P it.t
    last none = All-head (λ e. number_of e ≡ it.t → ⊥) (intent_entry waiting) [] (back_all (λ e. number_of e ≡ it.t → ⊥) entries (intent_entry waiting ∷ []) none) (sym number)

module _ {D : Type 0} (here : Setting D) (world : Seen D) (hub : Hub) (unused : All (λ one. IsUnnamed world.journal.synced one.t) hub.waiting)
    (so : AreNumbered (Some hub) world.journal.synced) where
  abbrev Behind : List Entry → Option Hub → Type 0
  Behind row next = AreNumbered next (world.journal.synced ++ row)

  same : (row : List Entry) → AreOnce (numbers_of hub.active) × All (HasEntry (world.journal.synced ++ row)) (numbers_of hub.active)
  same row = numbered_same world.journal.synced row hub.active so

  told : (row : List Entry) (duties : List Duty) (t : ℕ) (phase : Phase)
      → AreOnce (numbers_of (map (retired duties) (map (in_phase t phase) hub.active))) × All (HasEntry (world.journal.synced ++ row)) (numbers_of (map (retired duties) (map (in_phase t phase) hub.active)))
  told row duties t phase =
      subst (λ (ts : List ℕ). AreOnce ts × All (HasEntry (world.journal.synced ++ row)) ts) (sym (numbers_mapped (retired duties) (retired_number duties) (map (in_phase t phase) hub.active)))
      (numbered_mapped world.journal.synced row hub.active so (in_phase t phase) (phase_number t phase))

  does_number : (meant : Event) (row : List Entry) (next : Seen D) → DoesUnderHub here world hub meant row next → world.hub ≡ Some hub → Behind row next.hub
  does_number meant row next (DoesUnderHub.begins caller) up = subst (Behind []) (sym up) (same [])
  does_number meant row next (DoesUnderHub.answers call front said asked snap why keeps) up = same []
  does_number meant row next (DoesUnderHub.queues it front snap same_one lawful closed apart new within made number slot) up = same []
  does_number meant row next (DoesUnderHub.turns_away place it said there fits mends turned) up = same []
  does_number meant row next (DoesUnderHub.admits place it sets there fits mends passes known) up =
      numbered_begun world.journal.synced hub.active it _ refl (All-at (λ one. IsUnnamed world.journal.synced one.t) hub.waiting place it unused there) so
  does_number meant row next (DoesUnderHub.performs device op happened due unheard possible way) up = subst (Behind []) (sym up) (same [])
  does_number meant row next (DoesUnderHub.leaves_unsent device changes due unheard) up = subst (Behind []) (sym up) (same [])
  does_number meant row next (DoesUnderHub.reports device op reply unheard) up =
      numbered_mapped world.journal.synced [] hub.active so (retired _) (retired_number _)
  does_number meant row next (DoesUnderHub.commits place it there least due prepared valid) up = told row _ it.t _
  does_number meant row next (DoesUnderHub.aborts place it said there least due given_up) up = told row _ it.t _
  does_number meant row next (DoesUnderHub.settles place it there least settling) up = numbered_some world.journal.synced row hub.active so (is_other it.t)
  does_number meant row next DoesUnderHub.stops up = tt
  does_number meant row next (DoesUnderHub.mends numbers idle unsettled) up = same []
  does_number meant row next (DoesUnderHub.mended numbers met busy heard unsettled) up = numbered_none world.journal.synced row hub.active so
  does_number meant row next (DoesUnderHub.finds_no_memory met busy heard) up = same []
  does_number meant row next (DoesUnderHub.fails_to_mend met failed heard) up = same []

any_number : {D : Type 0} (old : Seen D) (meant : Event) (new : Seen D) → DoesAnyway old meant new → AreNumbered old.hub old.journal.synced → AreNumbered new.hub new.journal.synced
any_number old meant new (DoesAnyway.ticks seconds) so = so
any_number old meant new (DoesAnyway.restarts device) so = so
any_number old meant new (DoesAnyway.answers_down call front down) so = so

module _ {D : Type 0} (here : Setting D) where
  -- what a hub under which it went on has under way
  pub numbered_on : (old : Seen D) (meant : Event) (seen : Option Event) (new : Seen D) → Steps here old meant seen new
      → ((hub : Hub) → old.hub ≡ Some hub → All (λ one. IsUnnamed old.journal.synced one.t) hub.waiting) → AreNumbered old.hub old.journal.synced → AreNumbered new.hub new.journal.synced
  numbered_on old meant seen new (Steps.done hub row next _ up does appends is) unused so =
      let numbered : AreNumbered (Some hub) old.journal.synced = subst (λ (h : Option Hub). AreNumbered h old.journal.synced) up so in
      let behind : AreNumbered next.hub (old.journal.synced ++ row) = does_number here old hub (unused hub up) numbered meant row next does up in
      let all_done : row ≡ appends.done = appends.parts ∙ ap (λ (l : List Entry). appends.done ++ l) appends.ends.0 ∙ append-nil appends.done in
      subst (λ (h : Option Hub). AreNumbered h new.journal.synced) (sym (ap (λ (w : Seen D). w.hub) is))
      (subst (λ (l : List Entry). AreNumbered next.hub l) (ap (λ (l : List Entry). old.journal.synced ++ l) all_done ∙ sym appends.synced) behind)
  numbered_on old meant seen new (Steps.cut hub row next _ up does appends is) unused so = subst (λ (h : Option Hub). AreNumbered h new.journal.synced) (sym (ap (λ (w : Seen D). w.hub) is)) tt
  numbered_on old meant seen new (Steps.failed hub row next _ up does appends is) unused so = subst (λ (h : Option Hub). AreNumbered h new.journal.synced) (sym (ap (λ (w : Seen D). w.hub) is)) tt
  numbered_on old meant seen new (Steps.full hub row next len _ up does appends is) unused so = subst (λ (h : Option Hub). AreNumbered h new.journal.synced) (sym (ap (λ (w : Seen D). w.hub) is)) tt
  numbered_on old meant seen new (Steps.anyway _ does) unused so = any_number old meant new does so
  numbered_on old meant seen new (Steps.unopened _ down recovers closed is) unused so =
      subst (λ (h : Option Hub). AreNumbered h new.journal.synced) (sym (ap (λ (w : Seen D). w.hub) is ∙ down)) tt
  numbered_on old meant seen new (Steps.recovers _ down recovers opens is) unused so =
      subst (λ (h : Option Hub). AreNumbered h new.journal.synced) (sym (ap (λ (w : Seen D). w.hub) is)) (tt, All-nil (HasEntry new.journal.synced))
