-- A transaction is settled: its intent is gone, and nothing else moves.
use Rattle.std.proofs.Common.{◌≡◌, ℕ, Bool, true, false, cond, not, filter, ◌&&◌, nat_eq, List, [], ◌∷◌, ◌++◌, Option, Some, None, map, refl, sym, ap, subst, ◌∙◌, eq-eqb, eqb-true, zero, suc}
use Rattle.std.specs.Prelude.{slice_get}
use Rattle.std.specs.List.{find}
use Rattle.std.specs.Option.{option_map}
use Rattle.std.proofs.Math.Path.{fun_ext}
use Rattle.std.proofs.lemmas.Bool.{false≢true}
use Rattle.std.proofs.lemmas.Option.{same_Some, slice_get-map}
use Rattle.orc_call.specs.declared.answer.RecFault.{RecFault}
use Rattle.orc_call.specs.declared.answer.Why.{Why}
use Rattle.orc_call.specs.declared.call.Call.{Call}
use Rattle.orc_decls.specs.declared.declarations.Decls.{Decls}
use Rattle.orc_device.specs.Nodes.{DeviceKind, NodeState}
use Rattle.orc_tree.specs.Sameness.{equal_configs}
use Rattle.orc_device.specs.declared.kind.OpKind.{OpKind}
use Rattle.orc_device.specs.declared.reply.Reply.{Reply}
use Rattle.orc_journal.specs.Laws.{HasIntent}
use Rattle.orc_journal.specs.declared.entry.Entry.{Entry}
use Rattle.orc_journal.specs.declared.entry.Entry.TheVariants as entry
use Rattle.orc_recover.specs.Menders.{MenderState, mender_took}
use Rattle.orc_worker.specs.declared.stage.Stage.{Stage}
use Rattle.orc_worker.specs.declared.worker.Worker.{Worker}
use Rattle.orc_rules.specs.Cells.{DeviceRole, updated_at}
use Rattle.orc_rules.specs.Cells.DeviceRole.{Free, Works}
use Rattle.orc_rules.specs.Duties.{is_busy, is_over}
use Rattle.orc_rules.specs.Hubs.{Hub, duty_on}
use Rattle.orc_rules.specs.Invariant.{IsLawful, IsNotOn}
use Rattle.orc_rules.specs.Kept.{FitAt, NetworkKept, Shadow, StandsAt, ValidAt, active_under, heard as then_heard, mend_at, mends_at, network_of, plan_of, role_of, role_on, works_at}
use Rattle.orc_rules.specs.Network.{Local, Network, Noted, Plan as Named, Planning, intent_seen}
use Rattle.orc_rules.specs.Network.Happening.{Settles}
use Rattle.orc_rules.specs.Told.{Told, told_by}
use Rattle.orc_rules.specs.Transactions.{in_phase, is_other, is_preparing, is_settling}
use Rattle.orc_rules.specs.UnderHub.{IsOfHub, MendingKept, UnderHub, is_under_way}
use Rattle.orc_rules.specs.Works.{Intent, Mend}
use Rattle.orc_rules.specs.Worlds.{Link, over}
use Rattle.orc_rules.specs.declared.duty.Duty.{Duty}
use Rattle.orc_rules.specs.declared.duty.Duty.TheVariants as duty
use Rattle.orc_rules.specs.declared.transaction.Phase.{Phase}
use Rattle.orc_rules.specs.declared.transaction.Phase.TheVariants as phase
use Rattle.orc_rules.specs.declared.transaction.Transaction.{Transaction}
use Rattle.orc_rules.proofs.Courses.{due_not_over}
use Rattle.orc_rules.proofs.Entering.{intent_push}
use Rattle.orc_rules.proofs.Moving.{happening}
use Rattle.orc_rules.proofs.Recording.{given_other}
use Rattle.orc_rules.proofs.Reporting.{is_of}
use Rattle.orc_rules.proofs.Retiring.{of_map}
use Rattle.orc_rules.proofs.Leaving.{find_stays, leaves_under, other_phase, phase_leaves}
use Rattle.orc_rules.proofs.Slots.{both_true}
use Rattle.orc_rules.proofs.Telling.{HeardStage, flip, net_at, seen_number, told_push}

pub find_absent : (t : ℕ) (xs : List Transaction) → ((place : ℕ) (x : Transaction) → slice_get xs place ≡ Some x → is_of t x ≡ false) → find (is_of t) xs ≡ None
find_absent t [] none = refl
find_absent t (x ∷ xs) none =
    ap (λ (b : Bool). cond b (Some x) (find (is_of t) xs)) (none zero x refl) ∙ find_absent t xs (λ place y there. none (suc place) y there)

settling_not : (p : Phase) → is_settling p ≡ true → (is_preparing p ≡ false) × (is_under_way p ≡ false)
settling_not phase.Preparing h = absurd (false≢true h)
settling_not phase.Decided h = absurd (false≢true h)
settling_not phase.Aborted h = absurd (false≢true h)
settling_not phase.Settling h = (refl, refl)
settling_not phase.Left h = absurd (false≢true h)

module _ (decls : Decls) (shadow : ℕ → Shadow) (entries : List Entry) (active : List Transaction) (duties : List Duty) (stale : List (Option Why))
    (mends : Option (Option RecFault)) (links : ℕ → Link) (own : UnderHub decls shadow entries active duties stale mends links)
    (place : ℕ) (it : Transaction) (there : slice_get active place ≡ Some it) (settling : is_settling it.phase ≡ true) where
  is_it : (place' : ℕ) (other : Transaction) → slice_get active place' ≡ Some other → other.t ≡ it.t → other ≡ it
  is_it place' other there' same = same_Some other it (sym there' ∙ ap (slice_get active) (own.numbers place' place other it there' there same) ∙ there)

  -- none under way has its number
  not_under_way : (place' : ℕ) (other : Transaction) → slice_get active place' ≡ Some other → is_under_way other.phase ≡ true → nat_eq other.t it.t ≡ false
  not_under_way place' other there' h = on (nat_eq other.t it.t) refl
    where
      on : (b : Bool) → nat_eq other.t it.t ≡ b → nat_eq other.t it.t ≡ false
      on true is = absurd (false≢true (sym (settling_not it.phase settling).1 ∙ ap (λ (a : Transaction). is_under_way a.phase) (sym (is_it place' other there' (eqb-true other.t it.t is))) ∙ h))
      on false is = is

  -- a worker of it has ended
  pub mine_over : (device : ℕ) (worker : Worker) → duty_on duties device ≡ duty.Works worker → worker.t ≡ it.t → is_over worker.stage ≡ true
  mine_over device worker is same = on (is_over worker.stage) refl
    where
      on : (b : Bool) → is_over worker.stage ≡ b → is_over worker.stage ≡ true
      on true h = h
      on false h =
          let o = own.owned device worker is h in
          absurd (false≢true (sym (not_under_way o.place o.it o.there o.under_way) ∙ eq-eqb o.it.t it.t (o.number ∙ same)))

  pub over_unheard : (device : ℕ) (worker : Worker) → duty_on duties device ≡ duty.Works worker → is_over worker.stage ≡ true → (links device).unheard ≡ None
  over_unheard device worker is h = on (links device).unheard refl
    where
      on : (u : Option (OpKind × Reply)) → (links device).unheard ≡ u → (links device).unheard ≡ None
      on None e = e
      on (Some one) e = absurd (false≢true (sym (due_not_over worker.stage (sym (ap is_busy is) ∙ own.due device one e)) ∙ h))

  abbrev e : Entry
  e = entry.Settled it.t

  intents_now : (told_by (entries ++ e ∷ [])).intents ≡ updated_at (told_by entries).intents it.t None
  intents_now = ap (λ (x : Told). x.intents) (told_push entries e)

  intent_of : (t : ℕ) → nat_eq t it.t ≡ false → (told_by (entries ++ e ∷ [])).intents t ≡ (told_by entries).intents t
  intent_of t apart = ap (λ (f : ℕ → Option (Noted Call)). f t) intents_now ∙ given_other (told_by entries).intents it.t None t (flip t it.t false apart)

  stays : (x : Transaction) → nat_eq x.t it.t ≡ false → in_phase it.t phase.Left x ≡ x
  stays x apart = ap (λ (b : Bool). cond b (record x { phase = phase.Left }) x) apart

  number_so : (x : Transaction) → (in_phase it.t phase.Left x).t ≡ x.t
  number_so x = on (nat_eq x.t it.t)
    where
      on : (b : Bool) → (cond b (record x { phase = phase.Left }) x).t ≡ x.t
      on true = refl
      on false = refl

  -- who isn't Left is as it was, and another
  was_so : (x : Transaction) (p : Phase → Bool) → p phase.Left ≡ false → p (in_phase it.t phase.Left x).phase ≡ true → (nat_eq x.t it.t ≡ false) × (p x.phase ≡ true)
  was_so x p other h = on (nat_eq x.t it.t) refl
    where
      on : (b : Bool) → nat_eq x.t it.t ≡ b → (nat_eq x.t it.t ≡ false) × (p x.phase ≡ true)
      on true is = absurd (false≢true (sym other ∙ ap (λ (b : Bool). p (cond b (record x { phase = phase.Left }) x).phase) (sym is) ∙ h))
      on false is = (is, ap (λ (b : Bool). p (cond b (record x { phase = phase.Left }) x).phase) (sym is) ∙ h)

  mending_none : (m : Option (Option RecFault)) → MendingKept decls entries active duties stale m → MendingKept decls (entries ++ e ∷ []) (map (in_phase it.t phase.Left) active) duties stale m
  mending_none None h = h
  mending_none (Some met) h = absurd (false≢true (sym (ap is_settling (h.left place it there)) ∙ settling))

  settles_under : UnderHub decls shadow (entries ++ e ∷ []) (map (in_phase it.t phase.Left) active) duties stale mends links
  settles_under = record {
    duties_sized = own.duties_sized;
    stale_sized = own.stale_sized;
    due = own.due;
    agree = own.agree;
    worked = λ device worker is. intent_push worker.t entries e (own.worked device worker is);
    owned = λ device worker is goes.
        let o = own.owned device worker is goes in
        let apart = not_under_way o.place o.it o.there o.under_way in
        record {
          place = o.place;
          it = o.it;
          there = slice_get-map (in_phase it.t phase.Left) active o.place ∙ ap (option_map (in_phase it.t phase.Left)) o.there ∙ ap Some (stays o.it apart);
          number = o.number;
          under_way = o.under_way;
          names = o.names;
          noted = o.noted;
          known = intent_of worker.t (ap (λ (n : ℕ). nat_eq n it.t) (sym o.number) ∙ apart) ∙ o.known;
          plan = o.plan;
          set = o.set;
        };
    before = λ place' it' there' h device worker is same.
        let one = of_map (in_phase it.t phase.Left) active place' it' there' in
        let was = was_so one.0 is_preparing refl (subst (λ (a : Transaction). is_preparing a.phase ≡ true) one.2 h) in
        own.before place' one.0 one.1 was.1 device worker is (same ∙ ap (λ (a : Transaction). a.t) (one.2 ∙ stays one.0 was.0));
    noted = λ place' it' there' h.
        let one = of_map (in_phase it.t phase.Left) active place' it' there' in
        let was = was_so one.0 is_under_way refl (subst (λ (a : Transaction). is_under_way a.phase ≡ true) one.2 h) in
        let same : it' ≡ one.0 = one.2 ∙ stays one.0 was.0 in
        let known = own.noted place' one.0 one.1 was.1 in (
          known.0,
          ap (told_by (entries ++ e ∷ [])).intents (ap (λ (a : Transaction). a.t) same) ∙ intent_of one.0.t was.0 ∙ known.1,
          known.2 ∙ ap plan_of (sym same),
        );
    numbers = λ i j x y there' there'' same.
        let one = of_map (in_phase it.t phase.Left) active i x there' in
        let two = of_map (in_phase it.t phase.Left) active j y there'' in
        own.numbers i j one.0 two.0 one.1 two.1
        (sym (number_so one.0) ∙ sym (ap (λ (a : Transaction). a.t) one.2) ∙ same ∙ ap (λ (a : Transaction). a.t) two.2 ∙ number_so two.0);
    intent = λ place' it' there'.
        let one = of_map (in_phase it.t phase.Left) active place' it' there' in
        subst (λ (n : ℕ). HasIntent (entries ++ e ∷ []) n) (sym (ap (λ (a : Transaction). a.t) one.2 ∙ number_so one.0))
        (intent_push one.0.t entries e (own.intent place' one.0 one.1));
    clear = own.clear;
    settling = λ place' it' there' h device b known named.
        let one = of_map (in_phase it.t phase.Left) active place' it' there' in
        let was = was_so one.0 is_settling refl (subst (λ (a : Transaction). is_settling a.phase ≡ true) one.2 h) in
        let number : it'.t ≡ one.0.t = ap (λ (a : Transaction). a.t) (one.2 ∙ stays one.0 was.0) in
        ap (shadow device).clear number
        ∙ own.settling place' one.0 one.1 was.1 device b (sym (intent_of one.0.t was.0) ∙ ap (told_by (entries ++ e ∷ [])).intents (sym number) ∙ known) named;
    mending = mending_none mends own.mending;
  }

  -- it leaves
  pub settled_under : UnderHub decls shadow (entries ++ e ∷ []) (filter (is_other it.t) active) duties stale mends links
  settled_under =
      subst (λ (xs : List Transaction). UnderHub decls shadow (entries ++ e ∷ []) xs duties stale mends links) (phase_leaves it.t phase.Left active)
      (leaves_under decls shadow (entries ++ e ∷ []) (map (in_phase it.t phase.Left) active) duties stale mends links settles_under (is_other it.t)
      (λ place' x there' h. other_phase it.t phase.Left active is_under_way refl place' x there' h))

  -- the role is the same without the intent, and nobody works for it
  module _ (device : ℕ) (next : Told) (so : next.intents ≡ updated_at (told_by entries).intents it.t None) where
    abbrev now : Told
    now = told_by entries

    abbrev R : Told → Duty → DeviceRole Call
    R told on = role_of (over decls device) told device on

    abbrev Both : DeviceRole Call → DeviceRole Call → Type 0
    Both old new = (old ≡ new) × IsNotOn (over decls device) it.t old

    free_over : (s : Option (Intent Call)) (st : Stage) → is_over st ≡ true → works_at s st ≡ Free
    free_over None st h = refl
    free_over (Some o) st h = ap (λ (b : Bool). cond b Free (Works o st)) h

    not_on_shown : (s : Option (Intent Call)) (st : Stage) → ((o : Intent Call) → s ≡ Some o → nat_eq it.t o.t ≡ false) → IsNotOn (over decls device) it.t (works_at s st)
    not_on_shown None st h = tt
    not_on_shown (Some o) st h = on (is_over st)
      where
        on : (b : Bool) → IsNotOn (over decls device) it.t (cond b Free (Works o st))
        on true = tt
        on false = h o refl

    mends_so : (m : Option Mend) → IsNotOn (over decls device) it.t (mends_at m)
    mends_so None = tt
    mends_so (Some m) = tt

    works_so : (worker : Worker) → duty_on duties device ≡ duty.Works worker → (u : Option (OpKind × Reply)) → (links device).unheard ≡ u
        → Both (works_at (intent_seen (over decls device) device worker.t (now.intents worker.t)) (HeardStage u worker.stage))
        (works_at (intent_seen (over decls device) device worker.t (next.intents worker.t)) (HeardStage u worker.stage))
    works_so worker is u heard = on (nat_eq worker.t it.t) refl
      where
        on : (b : Bool) → nat_eq worker.t it.t ≡ b → Both (works_at (intent_seen (over decls device) device worker.t (now.intents worker.t)) (HeardStage u worker.stage))
            (works_at (intent_seen (over decls device) device worker.t (next.intents worker.t)) (HeardStage u worker.stage))
        on true same =
            let ended = mine_over device worker is (eqb-true worker.t it.t same) in
            let quiet : u ≡ None = sym heard ∙ over_unheard device worker is ended in
            subst (λ (v : Option (OpKind × Reply)). Both (works_at (intent_seen (over decls device) device worker.t (now.intents worker.t)) (HeardStage v worker.stage))
            (works_at (intent_seen (over decls device) device worker.t (next.intents worker.t)) (HeardStage v worker.stage))) (sym quiet) (
              free_over (intent_seen (over decls device) device worker.t (now.intents worker.t)) worker.stage ended
                  ∙ sym (free_over (intent_seen (over decls device) device worker.t (next.intents worker.t)) worker.stage ended),
              subst (IsNotOn (over decls device) it.t) (sym (free_over (intent_seen (over decls device) device worker.t (now.intents worker.t)) worker.stage ended)) tt,
            )
        on false apart = (
          ap (λ (n : Option (Noted Call)). works_at (intent_seen (over decls device) device worker.t n) (HeardStage u worker.stage))
              (sym (ap (λ (f : ℕ → Option (Noted Call)). f worker.t) so ∙ given_other now.intents it.t None worker.t (flip worker.t it.t false apart))),
          not_on_shown (intent_seen (over decls device) device worker.t (now.intents worker.t)) (HeardStage u worker.stage)
              (λ o e'. ap (nat_eq it.t) (seen_number (over decls device) device worker.t (now.intents worker.t) o e') ∙ flip worker.t it.t false apart),
        )

    pub role_so : (on : Duty) → duty_on duties device ≡ on → (u : Option (OpKind × Reply)) → (links device).unheard ≡ u → (f : ℕ)
        → Both (R now (then_heard u f on)) (R next (then_heard u f on))
    role_so duty.Free is None heard f = (refl, tt)
    role_so duty.Free is (Some one) heard f = (refl, tt)
    role_so (duty.Mends mender) is None heard f = (refl, mends_so (mend_at (map (λ one. one.0) mender.left) mender.stage))
    role_so (duty.Mends mender) is (Some one) heard f =
        let m : MenderState = mender_took equal_configs mender one.1 in (refl, mends_so (mend_at (map (λ one. one.0) m.left) m.stage))
    role_so (duty.Works worker) is None heard f = works_so worker is None heard
    role_so (duty.Works worker) is (Some one) heard f = works_so worker is (Some one) heard

module _ (decls : Decls) (kinds : ℕ → DeviceKind) (are : (device : ℕ) → IsOfHub (kinds device)) (lawful : (device : ℕ) → IsLawful (kinds device) (over decls device))
    (planning : Planning (over decls) (StandsAt decls) (FitAt decls) (ValidAt decls))
    (shadow : ℕ → Shadow) (entries : List Entry) (hub : Hub) (nodes : ℕ → NodeState) (links : ℕ → Link)
    (own : UnderHub decls shadow entries hub.active hub.duties hub.stale hub.mends links) (kept : NetworkKept decls (network_of decls shadow entries (Some hub) nodes links))
    (place : ℕ) (it : Transaction) (there : slice_get hub.active place ≡ Some it) (settling : is_settling it.phase ≡ true) where
  pub settles_keep : NetworkKept decls (network_of decls shadow (entries ++ entry.Settled it.t ∷ []) (Some (record hub { active = filter (is_other it.t) hub.active })) nodes links)
  settles_keep =
      subst (λ (x : Told). NetworkKept decls (net_at decls shadow x hub' nodes links)) (sym (told_push entries (entry.Settled it.t)))
      (subst (λ (a : ℕ → Option (Named Call)). NetworkKept decls (record (net_at decls shadow next hub' nodes links) { active = a })) (fun_ext active_so)
      (subst (λ (l : ℕ → Local Call). NetworkKept decls (record (net_at decls shadow next hub' nodes links) { active = active_under (Some hub); locals = l })) (fun_ext local_so)
      (happening decls kinds are lawful planning net (Settles it.t) kept (record { clear = clears; inactive = inactive }))))
    where
      net : Network Call
      net = network_of decls shadow entries (Some hub) nodes links

      hub' : Hub
      hub' = record hub { active = filter (is_other it.t) hub.active }

      next : Told
      next = record (told_by entries) { intents = updated_at (told_by entries).intents it.t None }

      both : (device : ℕ) → (role_on decls shadow entries (Some hub) device (links device)
          ≡ role_of (over decls device) next device (then_heard (links device).unheard (links device).faults (duty_on hub.duties device)))
          × IsNotOn (over decls device) it.t (role_on decls shadow entries (Some hub) device (links device))
      both device =
          role_so decls shadow entries hub.active hub.duties hub.stale hub.mends links own place it there settling device next refl
          (duty_on hub.duties device) refl (links device).unheard refl (links device).faults

      inactive : active_under (Some hub) it.t ≡ None
      inactive = ap (option_map plan_of) (find_absent it.t hub.active absent)
        where
          absent : (place' : ℕ) (x : Transaction) → slice_get hub.active place' ≡ Some x → is_of it.t x ≡ false
          absent place' x there' = on (nat_eq x.t it.t) refl
            where
              on : (b : Bool) → nat_eq x.t it.t ≡ b → (b && is_preparing x.phase) ≡ false
              on true is =
                  let same : x ≡ it = same_Some x it (sym there' ∙ ap (slice_get hub.active) (own.numbers place' place x it there' there (eqb-true x.t it.t is)) ∙ there) in
                  ap (λ (a : Transaction). is_preparing a.phase) same ∙ (settling_not it.phase settling).0
              on false is = refl

      clears : (device : ℕ) (b : Noted Call) → (told_by entries).intents it.t ≡ Some b → b.plan.names device ≡ true
          → ((shadow device).clear it.t ≡ true) × IsNotOn (over decls device) it.t (role_on decls shadow entries (Some hub) device (links device))
      clears device b known named = (own.settling place it there settling device b known named, (both device).1)

      active_so : (u : ℕ) → active_under (Some hub) u ≡ active_under (Some hub') u
      active_so u = sym (ap (option_map plan_of) (find_stays (is_of u) (is_other it.t) hub.active stays))
        where
          stays : (place' : ℕ) (x : Transaction) → slice_get hub.active place' ≡ Some x → is_of u x ≡ true → is_other it.t x ≡ true
          stays place' x there' h = on (nat_eq x.t it.t) refl
            where
              on : (b : Bool) → nat_eq x.t it.t ≡ b → not b ≡ true
              on true is =
                  let same : x ≡ it = same_Some x it (sym there' ∙ ap (slice_get hub.active) (own.numbers place' place x it there' there (eqb-true x.t it.t is)) ∙ there) in
                  absurd (false≢true (sym (settling_not it.phase settling).0 ∙ ap (λ (a : Transaction). is_preparing a.phase) (sym same)
                  ∙ (both_true (nat_eq x.t u) (is_preparing x.phase) h).1))
              on false is = refl

      local_so : (device : ℕ) → net.locals device ≡ (net_at decls shadow next hub' nodes links).locals device
      local_so device = ap (λ (r : DeviceRole Call). record (net.locals device) { role = r }) (both device).0
