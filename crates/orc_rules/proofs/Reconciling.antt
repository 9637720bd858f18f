-- A reconciliation begins and ends.
use Rattle.std.proofs.Common.{◌≡◌, inr, ℕ, ◌+◌, Bool, true, false, cond, ◌&&◌, ◌||◌, nat_eq, nat_lt, lt-ltb, List, [], ◌∷◌, ◌++◌, Option, Some, None, All, Contains, map, length, is_some, refl, sym, ap, subst, ◌∙◌, append-nil, append_assoc, eq-eqb, eqb-true, zero, suc, arith}
use Rattle.std.specs.Prelude.{slice_get}
use Rattle.std.specs.List.{list_any, range_with_len}
use Rattle.std.specs.Option.{option_map, option_map_or}
use Rattle.std.proofs.Math.Path.{fun_ext}
use Rattle.std.proofs.lemmas.Bool.{false≢true}
use Rattle.std.proofs.lemmas.Option.{slice_get-map}
use Rattle.orc_path.specs.Configurations.{Config}
use Rattle.orc_call.specs.declared.answer.RecFault.{RecFault}
use Rattle.orc_call.specs.declared.answer.Why.{Why}
use Rattle.orc_call.specs.declared.call.Call.{Call}
use Rattle.orc_decls.specs.declared.declarations.Decls.{Decls}
use Rattle.orc_device.specs.Nodes.{DeviceKind, NodeState}
use Rattle.orc_device.specs.declared.kind.OpKind.{OpKind}
use Rattle.orc_device.specs.declared.reply.Reply.{Reply}
use Rattle.orc_journal.specs.Laws.{HasIntent}
use Rattle.orc_journal.specs.declared.entry.Entry.{Entry}
use Rattle.orc_journal.specs.declared.entry.Entry.TheVariants as entry
use Rattle.orc_recover.specs.Menders.{MenderState, is_mending, new_mender}
use Rattle.orc_recover.specs.declared.stage.MendStage.TheVariants as mend_stage
use Rattle.orc_worker.specs.Workers.{is_due}
use Rattle.orc_worker.specs.declared.stage.Stage.{Stage}
use Rattle.orc_worker.specs.declared.stage.Stage.TheVariants as stage
use Rattle.orc_worker.specs.declared.worker.Worker.{Worker}
use Rattle.orc_rules.specs.Agreement.{mender_of, with_decisions}
use Rattle.orc_rules.specs.Cells.{DeviceRole, updated_at}
use Rattle.orc_rules.specs.Cells.DeviceRole.{Free, Works, Mends}
use Rattle.orc_rules.specs.Duties.{is_busy, is_over}
use Rattle.orc_rules.specs.Events.{mender_freed, mender_on}
use Rattle.orc_rules.specs.Hubs.{Hub, duty_on}
use Rattle.orc_rules.specs.Invariant.{Invariant, IsLawful, IsNotOn, MayRest, RoleFacts}
use Rattle.orc_rules.specs.Kept.{FitAt, NetworkKept, Shadow, StandsAt, ValidAt, active_under, heard as then_heard, is_stale, local_of, mend_at, mends_at, network_of, plan_of, role_of, role_on, stale_on, stale_then, works_at}
use Rattle.orc_rules.specs.Network.{Local, Network, Noted, Plan as Named, Planning, cell, cell_of, intent_seen, seen_plan}
use Rattle.orc_rules.specs.Network.Happening.{Settles}
use Rattle.orc_rules.specs.Told.{Told, told_by}
use Rattle.orc_rules.specs.Transactions.{is_preparing, is_settling}
use Rattle.orc_rules.specs.UnderHub.{AreMending, IsOfHub, MendingKept, UnderHub, is_under_way}
use Rattle.orc_rules.specs.Works.{Intent, Mend}
use Rattle.orc_rules.specs.Works.Mend.{Mopening}
use Rattle.orc_rules.specs.Worlds.{AreUnsettled, Link, declared, numbers_naming, over, to_resolve}
use Rattle.orc_rules.specs.declared.duty.Duty.{Duty}
use Rattle.orc_rules.specs.declared.duty.Duty.TheVariants as duty
use Rattle.orc_rules.specs.declared.transaction.Phase.{Phase}
use Rattle.orc_rules.specs.declared.transaction.Phase.TheVariants as phase
use Rattle.orc_rules.specs.declared.transaction.Transaction.{Transaction}
use Rattle.orc_datastore.proofs.LeastClash.{any_of}
use Rattle.orc_rules.proofs.Entering.{All-at}
use Rattle.orc_rules.proofs.Moving.{happening}
use Rattle.orc_rules.proofs.Recording.{mending_keeps, released_keeps}
use Rattle.orc_rules.proofs.Settling.{find_absent}
use Rattle.orc_rules.proofs.Slots.{below_none, lower, lower_not, mends_not_free, slot_there, slot_within, works_not_free}
use Rattle.orc_rules.proofs.Telling.{net_at, told_push}
use Rattle.orc_rules.proofs.Working.{no_id}

-- the duties of declared devices

slot_at : {X : Type 0} (f : ℕ → X) (first count i : ℕ) → nat_lt i count ≡ true → slice_get (map f (range_with_len first count)) i ≡ Some (f (first + i))
slot_at f first zero i h = absurd (below_none i h)
slot_at f first (suc count) zero h = ap (λ (n : ℕ). Some (f n)) (same first)
  where
    same : (n : ℕ) → n ≡ n + 0
    same n = omega arith
slot_at f first (suc count) (suc i) h = slot_at f (first + 1) count i (lower i count h) ∙ ap (λ (n : ℕ). Some (f n)) (more first i)
  where
    more : (n m : ℕ) → (n + 1) + m ≡ n + suc m
    more n m = omega arith

slot_past : {X : Type 0} (f : ℕ → X) (first count i : ℕ) → nat_lt i count ≡ false → slice_get (map f (range_with_len first count)) i ≡ None
slot_past f first zero i h = refl
slot_past f first (suc count) zero h = absurd (false≢true (sym h ∙ lt-ltb 0 (suc count) (omega arith)))
slot_past f first (suc count) (suc i) h = slot_past f (first + 1) count i (lower_not i count h)

pub range_length : {X : Type 0} (f : ℕ → X) (first count : ℕ) → length (map f (range_with_len first count)) ≡ count
range_length f first zero = refl
range_length f first (suc count) = ap suc (range_length f (first + 1) count)

from_zero : (n : ℕ) → 0 + n ≡ n
from_zero n = omega arith

-- as a reconciliation begins each declared device has its mender, and no other has one
pub mender_there : (over : ℕ → List Call → Config) (told : Told) (decls : Decls) (numbers : List ℕ) (device : ℕ) → nat_lt device (length decls.names) ≡ true
    → duty_on (map (mender_on over told numbers) (declared decls)) device ≡ mender_on over told numbers device
mender_there over told decls numbers device within =
    ap (λ (o : Option Duty). option_map_or (λ d. d) o duty.Free)
    (slot_at (mender_on over told numbers) 0 (length decls.names) device within ∙ ap (λ (n : ℕ). Some (mender_on over told numbers n)) (from_zero device))

pub nobody_past : (over : ℕ → List Call → Config) (told : Told) (decls : Decls) (numbers : List ℕ) (device : ℕ) → nat_lt device (length decls.names) ≡ false
    → duty_on (map (mender_on over told numbers) (declared decls)) device ≡ duty.Free
nobody_past over told decls numbers device past =
    ap (λ (o : Option Duty). option_map_or (λ d. d) o duty.Free) (slot_past (mender_on over told numbers) 0 (length decls.names) device past)

-- of a list of transactions those that name the device

among : (numbers : List ℕ) (t : ℕ) → Contains numbers t → list_any (nat_eq t) numbers ≡ true
among numbers t h = any_of (nat_eq t) numbers t h (eq-eqb t t refl)

naming_all : (told : Told) (device : ℕ) (numbers : List ℕ) (t : ℕ) → list_any (nat_eq t) numbers ≡ true
    → option_map_or (λ noted. noted.plan.names device) (told.intents t) false ≡ true → list_any (nat_eq t) (numbers_naming told device numbers) ≡ true
naming_all told device [] t here named = absurd (false≢true here)
naming_all told device (x ∷ xs) t here named = on (nat_eq t x) refl here (λ h. naming_all told device xs t h named)
  where
    or_left : (a b : Bool) → a ≡ true → (a || b) ≡ true
    or_left true b e = refl
    or_left false b e = absurd (false≢true e)

    or_right : (a b : Bool) → b ≡ true → (a || b) ≡ true
    or_right true b e = refl
    or_right false b e = e

    kept : (c : Bool) → list_any (nat_eq t) (numbers_naming told device xs) ≡ true → list_any (nat_eq t) (cond c (x ∷ numbers_naming told device xs) (numbers_naming told device xs)) ≡ true
    kept true h = or_right (nat_eq t x) (list_any (nat_eq t) (numbers_naming told device xs)) h
    kept false h = h

    on : (b : Bool) → nat_eq t x ≡ b → (b || list_any (nat_eq t) xs) ≡ true → (list_any (nat_eq t) xs ≡ true → list_any (nat_eq t) (numbers_naming told device xs) ≡ true)
        → list_any (nat_eq t) (cond (option_map_or (λ noted. noted.plan.names device) (told.intents x) false) (x ∷ numbers_naming told device xs) (numbers_naming told device xs)) ≡ true
    on true e h rest =
        ap (λ (c : Bool). list_any (nat_eq t) (cond c (x ∷ numbers_naming told device xs) (numbers_naming told device xs)))
        (sym (ap (λ (n : ℕ). option_map_or (λ noted. noted.plan.names device) (told.intents n) false) (eqb-true t x e)) ∙ named)
        ∙ or_left (nat_eq t x) (list_any (nat_eq t) (numbers_naming told device xs)) e
    on false e h rest = kept (option_map_or (λ noted. noted.plan.names device) (told.intents x) false) (rest h)

numbers_of : (told : Told) (ts : List ℕ) → map (λ one. one.0) (map (to_resolve told) ts) ≡ ts
numbers_of told [] = refl
numbers_of told (t ∷ ts) = ap (λ (l : List ℕ). t ∷ l) (numbers_of told ts)

decisions_of : (told : Told) (ts : List ℕ) → map (to_resolve told) ts ≡ with_decisions told.place ts
decisions_of told [] = refl
decisions_of told (t ∷ ts) = ap (λ (l : List (ℕ × Bool)). (t, is_some (told.place t)) ∷ l) (decisions_of told ts)

-- each device did what settlings ask
abbrev pub all_clear : (ℕ → Shadow) → ℕ → Shadow
all_clear shadow device = record { clear = λ t. true; at = (shadow device).at }

-- what is due where nothing is heard

quiet_slot : (on : Duty) (f : ℕ) (u : Option (OpKind × Reply)) → u ≡ None → (s : Option (Option Why)) → is_stale (option_map (stale_then u f on) s) ≡ is_stale s
quiet_slot on f u none s = ap (λ (v : Option (OpKind × Reply)). is_stale (option_map (stale_then v f on) s)) none ∙ at s
  where
    at : (o : Option (Option Why)) → is_stale (option_map (stale_then None f on) o) ≡ is_stale o
    at None = refl
    at (Some b) = refl

-- Nothing is under way, and there are no menders: no device has anything to do.
module _ (decls : Decls) (shadow : ℕ → Shadow) (entries : List Entry) (active : List Transaction) (duties : List Duty) (stale : List (Option Why))
    (mends : Option (Option RecFault)) (links : ℕ → Link) (own : UnderHub decls shadow entries active duties stale mends links)
    (left : (place : ℕ) (it : Transaction) → slice_get active place ≡ Some it → is_under_way it.phase ≡ false)
    (none : (device : ℕ) (mender : MenderState) → duty_on duties device ≡ duty.Mends mender → ⊥) where
  over_all : (device : ℕ) (worker : Worker) → duty_on duties device ≡ duty.Works worker → is_over worker.stage ≡ true
  over_all device worker is = on (is_over worker.stage) refl
    where
      on : (b : Bool) → is_over worker.stage ≡ b → is_over worker.stage ≡ true
      on true h = h
      on false h = let o = own.owned device worker is h in absurd (false≢true (sym (left o.place o.it o.there) ∙ o.under_way))

  pub all_heard : (device : ℕ) → (links device).unheard ≡ None
  all_heard device = on (links device).unheard refl
    where
      not_due : (st : Stage) → is_over st ≡ true → is_due st ≡ false
      not_due stage.Over h = refl
      not_due st h = absurd (false≢true h)

      by_duty : (on : Duty) → duty_on duties device ≡ on → is_busy on ≡ false
      by_duty duty.Free is = refl
      by_duty (duty.Mends mender) is = absurd (none device mender is)
      by_duty (duty.Works worker) is = not_due worker.stage (over_all device worker is)

      on : (u : Option (OpKind × Reply)) → (links device).unheard ≡ u → (links device).unheard ≡ None
      on None h = h
      on (Some one) h = absurd (false≢true (sym (by_duty (duty_on duties device) refl) ∙ own.due device one h))

  pub all_free : (told : Told) (device : ℕ) → role_of (over decls device) told device (then_heard (links device).unheard (links device).faults (duty_on duties device)) ≡ Free
  all_free told device =
      ap (λ (u : Option (OpKind × Reply)). role_of (over decls device) told device (then_heard u (links device).faults (duty_on duties device))) (all_heard device)
      ∙ by_duty (duty_on duties device) refl
    where
      shown : (s : Option (Intent Call)) (st : Stage) → is_over st ≡ true → works_at s st ≡ Free
      shown None st h = refl
      shown (Some o) st h = ap (λ (c : Bool). cond c Free (Works o st)) h

      by_duty : (on : Duty) → duty_on duties device ≡ on → role_of (over decls device) told device on ≡ Free
      by_duty duty.Free is = refl
      by_duty (duty.Mends mender) is = absurd (none device mender is)
      by_duty (duty.Works worker) is = shown (intent_seen (over decls device) device worker.t (told.intents worker.t)) worker.stage (over_all device worker is)

module _ (decls : Decls) (kinds : ℕ → DeviceKind) (are : (device : ℕ) → IsOfHub (kinds device)) (lawful : (device : ℕ) → IsLawful (kinds device) (over decls device))
    (planning : Planning (over decls) (StandsAt decls) (FitAt decls) (ValidAt decls))
    (shadow : ℕ → Shadow) (entries : List Entry) (hub : Hub) (nodes : ℕ → NodeState) (links : ℕ → Link)
    (own : UnderHub decls shadow entries hub.active hub.duties hub.stale hub.mends links) (kept : NetworkKept decls (network_of decls shadow entries (Some hub) nodes links)) where
  abbrev net : Network Call
  net = network_of decls shadow entries (Some hub) nodes links

  abbrev now : Told
  now = told_by entries

  -- it begins
  module _ (numbers : List ℕ) (left : (place : ℕ) (it : Transaction) → slice_get hub.active place ≡ Some it → it.phase ≡ phase.Left) (idle : hub.mends ≡ None)
      (unsettled : AreUnsettled now numbers) where
    abbrev duties' : List Duty
    duties' = map (mender_on (over decls) now numbers) (declared decls)

    abbrev begun : Hub
    begun = record hub { duties = duties'; mends = Some None }

    not_under_way : (place : ℕ) (it : Transaction) → slice_get hub.active place ≡ Some it → is_under_way it.phase ≡ false
    not_under_way place it there = ap is_under_way (left place it there)

    none : (device : ℕ) (mender : MenderState) → duty_on hub.duties device ≡ duty.Mends mender → ⊥
    none = subst (λ (m : Option (Option RecFault)). MendingKept decls entries hub.active hub.duties hub.stale m) idle own.mending

    heard : (device : ℕ) → (links device).unheard ≡ None
    heard = all_heard decls shadow entries hub.active hub.duties hub.stale hub.mends links own not_under_way none

    free : (device : ℕ) → role_on decls shadow entries (Some hub) device (links device) ≡ Free
    free device = all_free decls shadow entries hub.active hub.duties hub.stale hub.mends links own not_under_way none now device

    -- each declared device has its mender, and no other has one
    mender_at : (device : ℕ) → nat_lt device (length decls.names) ≡ true → duty_on duties' device ≡ mender_on (over decls) now numbers device
    mender_at device within = mender_there (over decls) now decls numbers device within

    free_past : (device : ℕ) → nat_lt device (length decls.names) ≡ false → duty_on duties' device ≡ duty.Free
    free_past device past = nobody_past (over decls) now decls numbers device past

    mends_now : (device : ℕ) → nat_lt device (length decls.names) ≡ true
        → role_on decls shadow entries (Some begun) device (links device) ≡ Mends (Mopening (numbers_naming now device numbers))
    mends_now device within =
        ap (λ (u : Option (OpKind × Reply)). role_of (over decls device) now device (then_heard u (links device).faults (duty_on duties' device))) (heard device)
        ∙ ap (λ (d : Duty). role_of (over decls device) now device d) (mender_at device within)
        ∙ ap (λ (l : List ℕ). Mends (Mopening l)) (numbers_of now (numbers_naming now device numbers))

    free_now : (device : ℕ) → nat_lt device (length decls.names) ≡ false → role_on decls shadow entries (Some begun) device (links device) ≡ Free
    free_now device past =
        ap (λ (u : Option (OpKind × Reply)). role_of (over decls device) now device (then_heard u (links device).faults (duty_on duties' device))) (heard device)
        ∙ ap (λ (d : Duty). role_of (over decls device) now device d) (free_past device past)

    stale_same : (device : ℕ) → stale_on decls shadow entries (Some hub) device (links device) ≡ stale_on decls shadow entries (Some begun) device (links device)
    stale_same device =
        quiet_slot (duty_on hub.duties device) (links device).faults (links device).unheard (heard device) (slice_get hub.stale device)
        ∙ sym (quiet_slot (duty_on duties' device) (links device).faults (links device).unheard (heard device) (slice_get hub.stale device))

    local_so : (device : ℕ) (role : DeviceRole Call) → role ≡ role_on decls shadow entries (Some begun) device (links device)
        → record (net.locals device) { role = role } ≡ local_of decls shadow entries (Some begun) device (nodes device) (links device)
    local_so device role is =
        ap (λ (r : DeviceRole Call). record (net.locals device) { role = r }) is
        ∙ ap (λ (b : Bool). record (net.locals device) { role = role_on decls shadow entries (Some begun) device (links device); stale = b }) (stale_same device)

    -- the unsettled intents that name a device are among its mender's
    known_here : (device t : ℕ) (o : Intent Call) → intent_seen (over decls device) device t (now.intents t) ≡ Some o → list_any (nat_eq t) (numbers_naming now device numbers) ≡ true
    known_here device t o is = on (now.intents t) refl is
      where
        on : (n : Option (Noted Call)) → now.intents t ≡ n → intent_seen (over decls device) device t n ≡ Some o → list_any (nat_eq t) (numbers_naming now device numbers) ≡ true
        on None e h = cc
        on (Some b) e h =
            naming_all now device numbers t (among numbers t ((unsettled.all t).1 (λ no. let both : ◌≡◌ {A = Option (Noted Call)} (Some b) None = sym e ∙ no in cc)))
            (ap (λ (n : Option (Noted Call)). option_map_or (λ noted. noted.plan.names device) n false) e ∙ by (b.plan.names device) refl h)
          where
            by : (c : Bool) → b.plan.names device ≡ c → seen_plan (over decls device) t b c ≡ Some o → b.plan.names device ≡ true
            by true e' h' = e'
            by false e' h' = cc

    pub mends_keep : NetworkKept decls (network_of decls shadow entries (Some begun) nodes links)
    mends_keep = record {
      each = λ device. each device (nat_lt device (length decls.names)) refl;
      stands = kept.stands;
      fit = kept.fit;
      noted = kept.noted;
      working = λ device o st e h. absurd (idle_role device (nat_lt device (length decls.names)) refl o st e);
    }
      where
        each : (device : ℕ) (b : Bool) → nat_lt device (length decls.names) ≡ b
            → Invariant (over decls device) (cell_of (over decls) net device (local_of decls shadow entries (Some begun) device (nodes device) (links device)))
        each device true within =
            subst (λ (l : Local Call). Invariant (over decls device) (cell_of (over decls) net device l))
            (local_so device (Mends (Mopening (numbers_naming now device numbers))) (sym (mends_now device within)))
            (mending_keeps (over decls device) (cell (over decls) net device) (kept.each device) (numbers_naming now device numbers)
            (record { free = free device; all = λ t o is. known_here device t o is }))
        each device false past =
            subst (λ (l : Local Call). Invariant (over decls device) (cell_of (over decls) net device l))
            (local_so device (role_on decls shadow entries (Some hub) device (links device)) (free device ∙ sym (free_now device past)))
            (kept.each device)

        idle_role : (device : ℕ) (b : Bool) → nat_lt device (length decls.names) ≡ b → (o : Intent Call) (st : Stage)
            → role_on decls shadow entries (Some begun) device (links device) ≡ Works o st → ⊥
        idle_role device true within o st e = let both : ◌≡◌ {A = DeviceRole Call} (Mends (Mopening (numbers_naming now device numbers))) (Works o st) = sym (mends_now device within) ∙ e in cc
        idle_role device false past o st e = let both : ◌≡◌ {A = DeviceRole Call} Free (Works o st) = sym (free_now device past) ∙ e in cc

    pub mends_under : UnderHub decls shadow entries hub.active duties' hub.stale (Some None) links
    mends_under = record {
      duties_sized = range_length (mender_on (over decls) now numbers) 0 (length decls.names);
      stale_sized = own.stale_sized;
      due = λ device one h. absurd (let no : ◌≡◌ {A = Option (OpKind × Reply)} (Some one) None = sym h ∙ heard device in cc);
      agree = λ device worker is. absurd (no_worker device worker is);
      worked = λ device worker is. absurd (no_worker device worker is);
      owned = λ device worker is goes. absurd (no_worker device worker is);
      before = λ place it there h device worker is same. absurd (no_worker device worker is);
      noted = own.noted;
      numbers = own.numbers;
      intent = own.intent;
      clear = λ device worker is h. absurd (no_worker device worker
          (sym (ap (λ (u : Option (OpKind × Reply)). then_heard u (links device).faults (duty_on duties' device)) (heard device)) ∙ is));
      settling = own.settling;
      mending = record {
        left = left;
        all = λ device within. (new_mender (map (to_resolve now) (numbers_naming now device numbers)) (over decls device now.history), mender_at device within);
        stand = λ device mender is. inr (Mopening (numbers_naming now device numbers), stands device mender is (nat_lt device (length decls.names)) refl);
        done = λ e device mender is over. absurd (goes device mender is over (nat_lt device (length decls.names)) refl);
      };
    }
      where
        no_worker : (device : ℕ) (worker : Worker) → duty_on duties' device ≡ duty.Works worker → ⊥
        no_worker device worker is = on (nat_lt device (length decls.names)) refl
          where
            on : (b : Bool) → nat_lt device (length decls.names) ≡ b → ⊥
            on true within = let no : mender_on (over decls) now numbers device ≡ duty.Works worker = sym (mender_at device within) ∙ is in cc
            on false past = let no : duty.Free ≡ duty.Works worker = sym (free_past device past) ∙ is in cc

        which : (device : ℕ) (mender : MenderState) → duty_on duties' device ≡ duty.Mends mender → (b : Bool) → nat_lt device (length decls.names) ≡ b
            → mender ≡ new_mender (map (to_resolve now) (numbers_naming now device numbers)) (over decls device now.history)
        which device mender is true within =
            let both : mender_on (over decls) now numbers device ≡ duty.Mends mender = sym (mender_at device within) ∙ is in cc
        which device mender is false past = absurd (let no : duty.Free ≡ duty.Mends mender = sym (free_past device past) ∙ is in cc)

        stands : (device : ℕ) (mender : MenderState) → duty_on duties' device ≡ duty.Mends mender → (b : Bool) → nat_lt device (length decls.names) ≡ b
            → mender ≡ mender_of now.place (over decls device now.history) (Mopening (numbers_naming now device numbers))
        stands device mender is b e =
            which device mender is b e
            ∙ ap (λ (l : List (ℕ × Bool)). record { left = l; due = over decls device now.history; stage = mend_stage.Opening }) (decisions_of now (numbers_naming now device numbers))

        goes : (device : ℕ) (mender : MenderState) → duty_on duties' device ≡ duty.Mends mender → is_mending mender.stage ≡ false → (b : Bool) → nat_lt device (length decls.names) ≡ b → ⊥
        goes device mender is over b e = false≢true (sym over ∙ ap (λ (m : MenderState). is_mending m.stage) (which device mender is b e))

  -- it ends
  module _ (met : Option RecFault) (mends : hub.mends ≡ Some met) (heard : (device : ℕ) → (links device).unheard ≡ None) where
    abbrev freed_all : List Duty
    freed_all = map mender_freed hub.duties

    are_mending : AreMending decls entries hub.active hub.duties hub.stale met
    are_mending = subst (λ (m : Option (Option RecFault)). MendingKept decls entries hub.active hub.duties hub.stale m) mends own.mending

    no_works : (device : ℕ) (worker : Worker) → duty_on hub.duties device ≡ duty.Works worker → ⊥
    no_works device worker is =
        let within : nat_lt device (length decls.names) ≡ true = sym (ap (λ (n : ℕ). nat_lt device n) own.duties_sized) ∙ slot_within hub.duties device (duty.Works worker) is (works_not_free worker) in
        let a = are_mending.all device within in
        let no : duty.Mends a.0 ≡ duty.Works worker = sym a.1 ∙ is in cc

    -- all are free
    pub freed_is : (device : ℕ) → duty_on freed_all device ≡ duty.Free
    freed_is device = ap (λ (o : Option Duty). option_map_or (λ d. d) o duty.Free) (slice_get-map mender_freed hub.duties device) ∙ on (slice_get hub.duties device) refl
      where
        on : (o : Option Duty) → slice_get hub.duties device ≡ o → option_map_or (λ d. d) (option_map mender_freed o) duty.Free ≡ duty.Free
        on None e = refl
        on (Some duty.Free) e = refl
        on (Some (duty.Mends mender)) e = refl
        on (Some (duty.Works worker)) e = absurd (no_works device worker (ap (λ (o : Option Duty). option_map_or (λ d. d) o duty.Free) e))

    role_freed : (told : Told) (device : ℕ) → role_of (over decls device) told device (then_heard (links device).unheard (links device).faults (duty_on freed_all device)) ≡ Free
    role_freed told device =
        ap (λ (u : Option (OpKind × Reply)). role_of (over decls device) told device (then_heard u (links device).faults (duty_on freed_all device))) (heard device)
        ∙ ap (λ (d : Duty). role_of (over decls device) told device d) (freed_is device)

    rests_so : (device : ℕ) → MayRest (over decls device) (role_on decls shadow entries (Some hub) device (links device))
    rests_so device =
        subst (MayRest (over decls device))
        (sym (ap (λ (u : Option (OpKind × Reply)). role_of (over decls device) now device (then_heard u (links device).faults (duty_on hub.duties device))) (heard device)))
        (by_duty (duty_on hub.duties device) refl)
      where
        mends_rest : (m : Option Mend) → MayRest (over decls device) (mends_at m)
        mends_rest None = tt
        mends_rest (Some m) = tt

        by_duty : (on : Duty) → duty_on hub.duties device ≡ on → MayRest (over decls device) (role_of (over decls device) now device on)
        by_duty duty.Free is = tt
        by_duty (duty.Mends mender) is = mends_rest (mend_at (map (λ one. one.0) mender.left) mender.stage)
        by_duty (duty.Works worker) is = absurd (no_works device worker is)

    -- the devices let go, under a hub with these transactions
    freed_keep : (hub' : Hub) → hub'.duties ≡ freed_all → hub'.stale ≡ hub.stale → ((t : ℕ) → active_under (Some hub') t ≡ None)
        → NetworkKept decls (network_of decls shadow entries (Some hub') nodes links)
    freed_keep hub' duties stales nobody = record {
      each = λ device.
          subst (λ (l : Local Call). Invariant (over decls device) (cell_of (over decls) net device l)) (local_so device)
          (released_keeps (over decls device) (cell (over decls) net device) (kept.each device) (rests_so device));
      stands = λ t p e. absurd (let no : ◌≡◌ {A = Option (Named Call)} None (Some p) = sym (nobody t) ∙ e in cc);
      fit = λ t u p q e f ne. absurd (let no : ◌≡◌ {A = Option (Named Call)} None (Some p) = sym (nobody t) ∙ e in cc);
      noted = λ t p e. absurd (let no : ◌≡◌ {A = Option (Named Call)} None (Some p) = sym (nobody t) ∙ e in cc);
      working = λ device o st e h. absurd (let no : ◌≡◌ {A = DeviceRole Call} Free (Works o st) = sym (role_so device) ∙ e in cc);
    }
      where
        role_so : (device : ℕ) → role_on decls shadow entries (Some hub') device (links device) ≡ Free
        role_so device = ap (λ (ds : List Duty). role_of (over decls device) now device (then_heard (links device).unheard (links device).faults (duty_on ds device))) duties ∙ role_freed now device

        stale_so : (device : ℕ) → stale_on decls shadow entries (Some hub) device (links device) ≡ stale_on decls shadow entries (Some hub') device (links device)
        stale_so device =
            quiet_slot (duty_on hub.duties device) (links device).faults (links device).unheard (heard device) (slice_get hub.stale device)
            ∙ ap (λ (ss : List (Option Why)). is_stale (slice_get ss device)) (sym stales)
            ∙ sym (quiet_slot (duty_on hub'.duties device) (links device).faults (links device).unheard (heard device) (slice_get hub'.stale device))

        local_so : (device : ℕ) → record (net.locals device) { role = Free } ≡ local_of decls shadow entries (Some hub') device (nodes device) (links device)
        local_so device =
            ap (λ (r : DeviceRole Call). record (net.locals device) { role = r }) (sym (role_so device))
            ∙ ap (λ (b : Bool). record (net.locals device) { role = role_on decls shadow entries (Some hub') device (links device); stale = b }) (stale_so device)

    -- what is kept of the work on devices, where none is under way
    freed_under : (entries' : List Entry) (sh : ℕ → Shadow) (active' : List Transaction)
        → ((place : ℕ) (it : Transaction) → slice_get active' place ≡ Some it → (slice_get hub.active place ≡ Some it) × HasIntent entries' it.t)
        → UnderHub decls sh entries' active' freed_all hub.stale None links
    freed_under entries' sh active' from = record {
      duties_sized = map_length mender_freed hub.duties ∙ own.duties_sized;
      stale_sized = own.stale_sized;
      due = λ device one h. absurd (let no : ◌≡◌ {A = Option (OpKind × Reply)} (Some one) None = sym h ∙ heard device in cc);
      agree = λ device worker is. absurd (no_worker device worker is);
      worked = λ device worker is. absurd (no_worker device worker is);
      owned = λ device worker is goes. absurd (no_worker device worker is);
      before = λ place it there h device worker is same. absurd (no_worker device worker is);
      noted = λ place it there h. absurd (false≢true (sym (ap is_under_way (are_mending.left place it (from place it there).0)) ∙ h));
      numbers = λ i j x y there there' same. own.numbers i j x y (from i x there).0 (from j y there').0 same;
      intent = λ place it there. (from place it there).1;
      clear = λ device worker is h. absurd (no_worker device worker
          (sym (ap (λ (u : Option (OpKind × Reply)). then_heard u (links device).faults (duty_on freed_all device)) (heard device)) ∙ is));
      settling = λ place it there h. absurd (false≢true (sym (ap is_settling (are_mending.left place it (from place it there).0)) ∙ h));
      mending = λ device mender is. absurd (let no : duty.Free ≡ duty.Mends mender = sym (freed_is device) ∙ is in cc);
    }
      where
        map_length : {X Y : Type 0} (f : X → Y) (xs : List X) → length (map f xs) ≡ length xs
        map_length f [] = refl
        map_length f (x ∷ xs) = ap suc (map_length f xs)

        no_worker : (device : ℕ) (worker : Worker) → duty_on freed_all device ≡ duty.Works worker → ⊥
        no_worker device worker is = let no : duty.Free ≡ duty.Works worker = sym (freed_is device) ∙ is in cc

    -- where it met a failure
    pub fails_keep : NetworkKept decls (network_of decls shadow entries (Some (record hub { mends = None; duties = freed_all })) nodes links)
    fails_keep = freed_keep (record hub { mends = None; duties = freed_all }) refl refl nobody
      where
        nobody : (t : ℕ) → active_under (Some (record hub { mends = None; duties = freed_all })) t ≡ None
        nobody t = ap (option_map plan_of) (find_absent t hub.active
            (λ place x there. ap (λ (p : Phase). nat_eq x.t t && is_preparing p) (are_mending.left place x there) ∙ and_none (nat_eq x.t t)))
          where
            and_none : (b : Bool) → (b && false) ≡ false
            and_none true = refl
            and_none false = refl

    pub fails_under : UnderHub decls shadow entries hub.active freed_all hub.stale None links
    fails_under = freed_under entries shadow hub.active (λ place it there. (there, own.intent place it there))

    -- where it is well
    module _ (well : met ≡ None) (busy : All (λ duty. is_busy duty ≡ false) hub.duties)
        (resting : (device : ℕ) → nat_lt device (length decls.names) ≡ false → (nodes device).pending ≡ None) where
      abbrev clear_shadow : ℕ → Shadow
      clear_shadow = all_clear shadow

      abbrev mended_hub : Hub
      mended_hub = record hub { active = []; mends = None; duties = freed_all }

      -- no declared device is stale
      pub fresh_slot : (device : ℕ) → nat_lt device (length decls.names) ≡ true → slice_get hub.stale device ≡ Some None
      fresh_slot device within =
          let a = are_mending.all device within in
          are_mending.done well device a.0 a.1
          (All-at (λ (d : Duty). is_busy d ≡ false) hub.duties device (duty.Mends a.0) busy (slot_there hub.duties device (duty.Mends a.0) a.1 (mends_not_free a.0)))

      -- so nothing is pending
      none_pending : (device : ℕ) → (nodes device).pending ≡ None
      none_pending device = on (nat_lt device (length decls.names)) refl
        where
          quiet : nat_lt device (length decls.names) ≡ true → (r : DeviceRole Call) → role_on decls shadow entries (Some hub) device (links device) ≡ r
              → MayRest (over decls device) r → RoleFacts (over decls device) (cell (over decls) net device) r → (nodes device).pending ≡ None
          quiet within Free is may facts = (facts (fresh within)).none
            where
              fresh : nat_lt device (length decls.names) ≡ true → stale_on decls shadow entries (Some hub) device (links device) ≡ false
              fresh within' =
                  quiet_slot (duty_on hub.duties device) (links device).faults (links device).unheard (heard device) (slice_get hub.stale device)
                  ∙ ap is_stale (fresh_slot device within')
          quiet within (Mends m) is may facts = (facts.0 (fresh within)).none
            where
              fresh : nat_lt device (length decls.names) ≡ true → stale_on decls shadow entries (Some hub) device (links device) ≡ false
              fresh within' =
                  quiet_slot (duty_on hub.duties device) (links device).faults (links device).unheard (heard device) (slice_get hub.stale device)
                  ∙ ap is_stale (fresh_slot device within')
          quiet within (Works o st) is may facts = absurd (no_role o st is)
            where
              mends_not : (m : Option Mend) (o : Intent Call) (at : Stage) → mends_at m ≡ Works o at → ⊥
              mends_not None o at e = cc
              mends_not (Some m) o at e = cc

              by_duty : (on : Duty) → duty_on hub.duties device ≡ on → (o : Intent Call) (at : Stage) → role_of (over decls device) now device on ≡ Works o at → ⊥
              by_duty duty.Free is' o at e = cc
              by_duty (duty.Mends mender) is' o at e = mends_not (mend_at (map (λ one. one.0) mender.left) mender.stage) o at e
              by_duty (duty.Works worker) is' o at e = no_works device worker is'

              no_role : (o : Intent Call) (st : Stage) → role_on decls shadow entries (Some hub) device (links device) ≡ Works o st → ⊥
              no_role o st e =
                  by_duty (duty_on hub.duties device) refl o st
                  (sym (ap (λ (u : Option (OpKind × Reply)). role_of (over decls device) now device (then_heard u (links device).faults (duty_on hub.duties device))) (heard device)) ∙ e)

          on : (b : Bool) → nat_lt device (length decls.names) ≡ b → (nodes device).pending ≡ None
          on true within = quiet within (role_on decls shadow entries (Some hub) device (links device)) refl (rests_so device) (kept.each device).role
          on false past = resting device past

      -- where nothing is pending or done each intent is clear
      cleared : NetworkKept decls (network_of decls clear_shadow entries (Some mended_hub) nodes links)
      cleared =
          let k = freed_keep mended_hub refl refl (λ t. refl) in
          record {
            each = λ device. let i = k.each device in
                record {
                  locks = i.locks;
                  at = i.at;
                  kept_at = i.kept_at;
                  known = λ t e. absurd (no_id (nodes device).pending t (none_pending device) e);
                  number = i.number;
                  placed = λ t n o e f g. absurd (false≢true (sym g));
                  role = subst (RoleFacts (over decls device) (cell_of (over decls) net device (local_of decls clear_shadow entries (Some mended_hub) device (nodes device) (links device))))
                      (sym (role_freed now device))
                      (subst (RoleFacts (over decls device) (cell_of (over decls) net device (local_of decls shadow entries (Some mended_hub) device (nodes device) (links device))))
                      (role_freed now device) i.role);
                };
            stands = k.stands;
            fit = k.fit;
            noted = k.noted;
            working = k.working;
          }

      -- and may be settled
      settled_one : (es : List Entry) (t : ℕ) → NetworkKept decls (network_of decls clear_shadow es (Some mended_hub) nodes links)
          → NetworkKept decls (network_of decls clear_shadow (es ++ entry.Settled t ∷ []) (Some mended_hub) nodes links)
      settled_one es t k =
          subst (λ (x : Told). NetworkKept decls (net_at decls clear_shadow x mended_hub nodes links)) (sym (told_push es (entry.Settled t)))
          (subst (λ (l : ℕ → Local Call). NetworkKept decls (record (net_at decls clear_shadow next mended_hub nodes links) { locals = l })) (fun_ext local_so)
          (happening decls kinds are lawful planning (network_of decls clear_shadow es (Some mended_hub) nodes links) (Settles t) k
          (record { clear = λ device b known named. (refl, subst (IsNotOn (over decls device) t) (sym (role_freed (told_by es) device)) tt); inactive = refl })))
        where
          next : Told
          next = record (told_by es) { intents = updated_at (told_by es).intents t None }

          local_so : (device : ℕ) → (network_of decls clear_shadow es (Some mended_hub) nodes links).locals device ≡ (net_at decls clear_shadow next mended_hub nodes links).locals device
          local_so device =
              ap (λ (r : DeviceRole Call). record ((network_of decls clear_shadow es (Some mended_hub) nodes links).locals device) { role = r })
              (role_freed (told_by es) device ∙ sym (role_freed next device))

      pub settled_all : (es : List Entry) (ts : List ℕ) → NetworkKept decls (network_of decls clear_shadow es (Some mended_hub) nodes links)
          → NetworkKept decls (network_of decls clear_shadow (es ++ map entry.Settled ts) (Some mended_hub) nodes links)
      settled_all es [] k = subst (λ (l : List Entry). NetworkKept decls (network_of decls clear_shadow l (Some mended_hub) nodes links)) (sym (append-nil es)) k
      settled_all es (t ∷ ts) k =
          subst (λ (l : List Entry). NetworkKept decls (network_of decls clear_shadow l (Some mended_hub) nodes links))
          (append_assoc es (entry.Settled t ∷ []) (map entry.Settled ts)) (settled_all (es ++ entry.Settled t ∷ []) ts (settled_one es t k))

      -- for any prefix of what is to be settled
      pub mended_keep : (ts : List ℕ) → NetworkKept decls (network_of decls clear_shadow (entries ++ map entry.Settled ts) (Some mended_hub) nodes links)
      mended_keep ts = settled_all entries ts cleared

      pub mended_under : (ts : List ℕ) → UnderHub decls clear_shadow (entries ++ map entry.Settled ts) [] freed_all hub.stale None links
      mended_under ts = freed_under (entries ++ map entry.Settled ts) clear_shadow [] (λ place it there. absurd (let no : ◌≡◌ {A = Option Transaction} None (Some it) = there in cc))
