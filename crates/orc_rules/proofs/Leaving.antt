-- Transactions leave the list of those under way: what is kept of the others stays so.
use Rattle.std.proofs.Common.{◌≡◌, ℕ, ◌+◌, ◌≤◌, Bool, true, false, cond, not, nat_eq, arith, List, [], ◌∷◌, Option, Some, None, map, refl, sym, ap, subst, ◌∙◌, zero, suc}
use Rattle.std.specs.Prelude.{filter, slice_get}
use Rattle.std.specs.List.{find}
use Rattle.std.proofs.lemmas.Bool.{false≢true}
use Rattle.std.proofs.lemmas.Option.{same_Some}
use Rattle.orc_call.specs.declared.answer.RecFault.{RecFault}
use Rattle.orc_call.specs.declared.answer.Why.{Why}
use Rattle.orc_call.specs.declared.call.Call.{Call}
use Rattle.orc_decls.specs.declared.declarations.Decls.{Decls}
use Rattle.orc_device.specs.Nodes.{DeviceKind}
use Rattle.orc_journal.specs.declared.entry.Entry.{Entry}
use Rattle.orc_rules.specs.Acceptance.{Replies}
use Rattle.orc_rules.specs.Kept.{HubKept, Shadow}
use Rattle.orc_rules.specs.Transactions.{in_phase, is_other}
use Rattle.orc_rules.specs.Turns.{sum_of}
use Rattle.orc_rules.specs.UnderHub.{MendingKept, UnderHub, is_under_way}
use Rattle.orc_rules.specs.Worlds.{Link}
use Rattle.orc_rules.specs.declared.duty.Duty.{Duty}
use Rattle.orc_rules.specs.declared.transaction.Phase.{Phase}
use Rattle.orc_rules.specs.declared.transaction.Transaction.{Transaction}
use Rattle.orc_rules.specs.declared.transaction.Waiting.{Waiting}
use Rattle.orc_rules.proofs.Retiring.{of_map}

-- places

-- where an element of the list that is left was
abbrev pub place_in : {X : Type 0} → (X → Bool) → List X → ℕ → ℕ
place_in p [] i = i
place_in p (x ∷ xs) zero = cond (p x) zero (suc (place_in p xs zero))
place_in p (x ∷ xs) (suc i) = cond (p x) (suc (place_in p xs i)) (suc (place_in p xs (suc i)))

-- what stands there stood there before, and stays
pub record Stayed {X : Type 0} (p : X → Bool) (xs : List X) (i : ℕ) (x : X) : Type 0 where
  pub there : slice_get xs (place_in p xs i) ≡ Some x
  pub stays : p x ≡ true

pub stayed : {X : Type 0} (p : X → Bool) (xs : List X) (i : ℕ) (x : X) → slice_get (filter p xs) i ≡ Some x → Stayed p xs i x
stayed p [] i x there = absurd cc
stayed p (y ∷ xs) zero x there = on (p y) refl there (stayed p xs zero x)
  where
    on : (b : Bool) → p y ≡ b → slice_get (cond b (y ∷ filter p xs) (filter p xs)) zero ≡ Some x → (slice_get (filter p xs) zero ≡ Some x → Stayed p xs zero x)
        → Stayed p (y ∷ xs) zero x
    on true e h rest = record {
      there = ap (λ (b : Bool). slice_get (y ∷ xs) (cond b zero (suc (place_in p xs zero)))) e ∙ h;
      stays = ap p (sym (same_Some y x h)) ∙ e;
    }
    on false e h rest =
        let r = rest h in record { there = ap (λ (b : Bool). slice_get (y ∷ xs) (cond b zero (suc (place_in p xs zero)))) e ∙ r.there; stays = r.stays }
stayed p (y ∷ xs) (suc i) x there = on (p y) refl there (stayed p xs i x) (stayed p xs (suc i) x)
  where
    on : (b : Bool) → p y ≡ b → slice_get (cond b (y ∷ filter p xs) (filter p xs)) (suc i) ≡ Some x → (slice_get (filter p xs) i ≡ Some x → Stayed p xs i x)
        → (slice_get (filter p xs) (suc i) ≡ Some x → Stayed p xs (suc i) x) → Stayed p (y ∷ xs) (suc i) x
    on true e h next later =
        let r = next h in record { there = ap (λ (b : Bool). slice_get (y ∷ xs) (cond b (suc (place_in p xs i)) (suc (place_in p xs (suc i))))) e ∙ r.there; stays = r.stays }
    on false e h next later =
        let r = later h in record { there = ap (λ (b : Bool). slice_get (y ∷ xs) (cond b (suc (place_in p xs i)) (suc (place_in p xs (suc i))))) e ∙ r.there; stays = r.stays }

-- who stays has a place
pub finds_place : {X : Type 0} (p : X → Bool) (xs : List X) (j : ℕ) (x : X) → slice_get xs j ≡ Some x → p x ≡ true → (i : ℕ) × (slice_get (filter p xs) i ≡ Some x)
finds_place p [] j x there h = absurd cc
finds_place p (y ∷ xs) zero x there h =
    (zero, ap (λ (b : Bool). slice_get (cond b (y ∷ filter p xs) (filter p xs)) zero) (ap p (same_Some y x there) ∙ h) ∙ there)
finds_place p (y ∷ xs) (suc j) x there h = on (p y) refl (finds_place p xs j x there h)
  where
    on : (b : Bool) → p y ≡ b → (i : ℕ) × (slice_get (filter p xs) i ≡ Some x) → (i : ℕ) × (slice_get (filter p (y ∷ xs)) i ≡ Some x)
    on true e r = (suc r.0, ap (λ (b : Bool). slice_get (cond b (y ∷ filter p xs) (filter p xs)) (suc r.0)) e ∙ r.1)
    on false e r = (r.0, ap (λ (b : Bool). slice_get (cond b (y ∷ filter p xs) (filter p xs)) r.0) e ∙ r.1)

-- two stood at one place only where they do now
pub places_apart : {X : Type 0} (p : X → Bool) (xs : List X) (i j : ℕ) → place_in p xs i ≡ place_in p xs j → i ≡ j
places_apart p [] i j e = e
places_apart p (x ∷ xs) zero zero e = refl
places_apart p (x ∷ xs) zero (suc j) e = on (p x) e (places_apart p xs zero (suc j))
  where
    on : (b : Bool) → cond b zero (suc (place_in p xs zero)) ≡ cond b (suc (place_in p xs j)) (suc (place_in p xs (suc j))) → (place_in p xs zero ≡ place_in p xs (suc j) → zero ≡ suc j) → zero ≡ suc j
    on true h rest = absurd (omega (arith, h))
    on false h rest = rest (omega (arith, h))
places_apart p (x ∷ xs) (suc i) zero e = on (p x) e (places_apart p xs (suc i) zero)
  where
    on : (b : Bool) → cond b (suc (place_in p xs i)) (suc (place_in p xs (suc i))) ≡ cond b zero (suc (place_in p xs zero)) → (place_in p xs (suc i) ≡ place_in p xs zero → suc i ≡ zero) → suc i ≡ zero
    on true h rest = absurd (omega (arith, h))
    on false h rest = rest (omega (arith, h))
places_apart p (x ∷ xs) (suc i) (suc j) e = on (p x) e (places_apart p xs i j) (places_apart p xs (suc i) (suc j))
  where
    on : (b : Bool) → cond b (suc (place_in p xs i)) (suc (place_in p xs (suc i))) ≡ cond b (suc (place_in p xs j)) (suc (place_in p xs (suc j)))
        → (place_in p xs i ≡ place_in p xs j → i ≡ j) → (place_in p xs (suc i) ≡ place_in p xs (suc j) → suc i ≡ suc j) → suc i ≡ suc j
    on true h next later = ap suc (next (omega (arith, h)))
    on false h next later = later (omega (arith, h))

-- who is found stays
pub find_stays : {X : Type 0} (q p : X → Bool) (xs : List X) → ((place : ℕ) (x : X) → slice_get xs place ≡ Some x → q x ≡ true → p x ≡ true) → find q (filter p xs) ≡ find q xs
find_stays q p [] stays = refl
find_stays q p (x ∷ xs) stays = on (p x) refl (q x) refl (find_stays q p xs (λ place y there h. stays (suc place) y there h))
  where
    on : (b : Bool) → p x ≡ b → (c : Bool) → q x ≡ c → find q (filter p xs) ≡ find q xs → find q (cond b (x ∷ filter p xs) (filter p xs)) ≡ cond c (Some x) (find q xs)
    on true e c h rest = ap (λ (d : Bool). cond d (Some x) (find q (filter p xs))) h ∙ ap (cond c (Some x)) rest
    on false e true h rest = absurd (false≢true (sym e ∙ stays zero x refl h))
    on false e false h rest = rest

-- sums are no more
pub sum_stays : {X : Type 0} (f : X → ℕ) (p : X → Bool) (xs : List X) → sum_of f (filter p xs) ≤ sum_of f xs
sum_stays f p [] = omega arith
sum_stays f p (x ∷ xs) = on (p x) (sum_stays f p xs)
  where
    on : (b : Bool) → sum_of f (filter p xs) ≤ sum_of f xs → sum_of f (cond b (x ∷ filter p xs) (filter p xs)) ≤ f x + sum_of f xs
    on true rest = omega (arith, rest)
    on false rest = omega (arith, rest)

-- transactions

-- the phase of one that leaves makes nothing
pub phase_leaves : (t : ℕ) (to : Phase) (xs : List Transaction) → filter (is_other t) (map (in_phase t to) xs) ≡ filter (is_other t) xs
phase_leaves t to [] = refl
phase_leaves t to (x ∷ xs) = on (nat_eq x.t t) refl (phase_leaves t to xs)
  where
    on : (b : Bool) → nat_eq x.t t ≡ b → filter (is_other t) (map (in_phase t to) xs) ≡ filter (is_other t) xs
        → filter (is_other t) (in_phase t to x ∷ map (in_phase t to) xs) ≡ filter (is_other t) (x ∷ xs)
    on true e rest =
        let moved : in_phase t to x ≡ record x { phase = to } = ap (λ (b : Bool). cond b (record x { phase = to }) x) e in
        ap (λ (y : Transaction). filter (is_other t) (y ∷ map (in_phase t to) xs)) moved
        ∙ ap (λ (b : Bool). cond (not b) (record x { phase = to } ∷ filter (is_other t) (map (in_phase t to) xs)) (filter (is_other t) (map (in_phase t to) xs))) e
        ∙ rest ∙ sym (ap (λ (b : Bool). cond (not b) (x ∷ filter (is_other t) xs) (filter (is_other t) xs)) e)
    on false e rest =
        let moved : in_phase t to x ≡ x = ap (λ (b : Bool). cond b (record x { phase = to }) x) e in
        ap (λ (y : Transaction). filter (is_other t) (y ∷ map (in_phase t to) xs)) moved
        ∙ ap (λ (l : List Transaction). cond (is_other t x) (x ∷ l) l) rest

-- who isn't in that phase is another one
pub other_phase : (t : ℕ) (to : Phase) (xs : List Transaction) (q : Phase → Bool) → q to ≡ false → (place : ℕ) (x : Transaction)
    → slice_get (map (in_phase t to) xs) place ≡ Some x → q x.phase ≡ true → is_other t x ≡ true
other_phase t to xs q none place x there h =
    let one = of_map (in_phase t to) xs place x there in
    subst (λ (y : Transaction). is_other t y ≡ true) (sym one.2) (on one.0 (nat_eq one.0.t t) refl (subst (λ (y : Transaction). q y.phase ≡ true) one.2 h))
  where
    on : (y : Transaction) (b : Bool) → nat_eq y.t t ≡ b → q (in_phase t to y).phase ≡ true → is_other t (in_phase t to y) ≡ true
    on y true e h' = absurd (false≢true (sym none ∙ ap (λ (b : Bool). q (cond b (record y { phase = to }) y).phase) (sym e) ∙ h'))
    on y false e h' =
        ap (λ (z : Transaction). is_other t z) (ap (λ (b : Bool). cond b (record y { phase = to }) y) e) ∙ ap not e

module _ (decls : Decls) (entries : List Entry) (history : List Call) (active : List Transaction) (waiting : List Waiting) (taken : ℕ → Bool)
    (own : HubKept decls entries history active waiting taken) where
  pub leaves_hub : (p : Transaction → Bool) → HubKept decls entries history (filter p active) waiting taken
  leaves_hub p = record {
    intents = λ i x there h. own.intents (place_in p active i) x (stayed p active i x there).there h;
    settle = λ i x there h. own.settle (place_in p active i) x (stayed p active i x there).there h;
    admitted = λ i x there h. own.admitted (place_in p active i) x (stayed p active i x there).there h;
    fresh = λ i x there h. own.fresh (place_in p active i) x (stayed p active i x there).there h;
    fit = λ i j x y there there' apart. own.fit (place_in p active i) (place_in p active j) x y (stayed p active i x there).there (stayed p active j y there').there
        (λ e. apart (places_apart p active i j e));
    apart = λ i j x y there there' h h'. own.apart (place_in p active i) (place_in p active j) x y (stayed p active i x there).there (stayed p active j y there').there h h';
    waits_apart = λ i x there h. own.waits_apart (place_in p active i) x (stayed p active i x there).there h;
    waits = own.waits;
    unused = own.unused;
    numbered = own.numbered;
    waiting_apart = own.waiting_apart;
  }

module _ (decls : Decls) (shadow : ℕ → Shadow) (entries : List Entry) (active : List Transaction) (duties : List Duty) (stale : List (Option Why))
    (mends : Option (Option RecFault)) (links : ℕ → Link) (own : UnderHub decls shadow entries active duties stale mends links) where
  pub leaves_under : (p : Transaction → Bool) → ((place : ℕ) (it : Transaction) → slice_get active place ≡ Some it → is_under_way it.phase ≡ true → p it ≡ true)
      → UnderHub decls shadow entries (filter p active) duties stale mends links
  leaves_under p stays = record {
    duties_sized = own.duties_sized;
    stale_sized = own.stale_sized;
    due = own.due;
    agree = own.agree;
    worked = own.worked;
    owned = λ device worker is goes.
        let o = own.owned device worker is goes in
        let found = finds_place p active o.place o.it o.there (stays o.place o.it o.there o.under_way) in
        record {
          place = found.0;
          it = o.it;
          there = found.1;
          number = o.number;
          under_way = o.under_way;
          names = o.names;
          noted = o.noted;
          known = o.known;
          plan = o.plan;
          set = o.set;
        };
    before = λ i it there h device worker is same. own.before (place_in p active i) it (stayed p active i it there).there h device worker is same;
    noted = λ i it there h. own.noted (place_in p active i) it (stayed p active i it there).there h;
    numbers = λ i j it other there there' same.
        places_apart p active i j (own.numbers (place_in p active i) (place_in p active j) it other (stayed p active i it there).there (stayed p active j other there').there same);
    intent = λ i it there. own.intent (place_in p active i) it (stayed p active i it there).there;
    clear = own.clear;
    settling = λ i it there h device b known named. own.settling (place_in p active i) it (stayed p active i it there).there h device b known named;
    mending = mending mends own.mending;
  }
    where
      mending : (m : Option (Option RecFault)) → MendingKept decls entries active duties stale m → MendingKept decls entries (filter p active) duties stale m
      mending None h = h
      mending (Some met) h = record {
        left = λ i it there. h.left (place_in p active i) it (stayed p active i it there).there;
        all = h.all;
        stand = h.stand;
        done = h.done;
      }

pub leaves_replies : (decls : Decls) (kinds : ℕ → DeviceKind) (history : List Call) (active : List Transaction) (duties : List Duty) (links : ℕ → Link)
    → Replies decls kinds history active duties links → (p : Transaction → Bool) → Replies decls kinds history (filter p active) duties links
leaves_replies decls kinds history active duties links own p = record {
  opened = own.opened;
  tells = λ i it there h device worker named is same. own.tells (place_in p active i) it (stayed p active i it there).there h device worker named is same;
  honest = own.honest;
}
