-- What submissions and admissions keep of the hub.
use Rattle.std.proofs.Common.{◌≡◌, ◌≢◌, ◌⊎◌, inl, inr, ⊎_elim, ℕ, ◌+◌, ◌<◌, ◌≤◌, Bool, true, false, not, ◌&&◌, cond, nat_eq, nat_lt, List, [], ◌∷◌, ◌++◌, Option, None, Some, Err, Ok, All, IsTrue, length, take, get_or, set, append-nil, refl, sym, ap, subst, ◌∙◌, arith, lt-ltb, ltb-true, eqb-true, eq-eqb}
use Rattle.std.specs.Prelude.{Result, slice_get}
use Rattle.std.specs.Cmp.{first_so, second_so}
use Rattle.std.proofs.lemmas.Bool.{false≢true}
use Rattle.std.proofs.lemmas.List.{length-set}
use Rattle.std.proofs.lemmas.List.Elements.{All-push, All-weaker}
use Rattle.std.proofs.lemmas.Option.{none-some, same_Some, slice_get-get_or}
use Rattle.orc_call.specs.declared.answer.Answer.{Answer}
use Rattle.orc_call.specs.declared.answer.Answer.TheVariants as answer
use Rattle.orc_call.specs.declared.call.Call.{Call}
use Rattle.orc_datastore.specs.Legal.{IsNew, state_of}
use Rattle.orc_datastore.specs.Plans.{planned}
use Rattle.orc_datastore.specs.declared.plan.Plan.{Plan}
use Rattle.orc_decls.specs.Calls.{is_call}
use Rattle.orc_disk.specs.Meanings.{DiskMeaning}
use Rattle.orc_journal.specs.Entries.{number_of}
use Rattle.orc_journal.specs.Laws.{IsUnnamed, KeepsOrder}
use Rattle.orc_journal.specs.declared.entry.Entry.{Entry}
use Rattle.orc_queue.specs.Fitting.{FitTogether}
use Rattle.orc_rules.specs.Admissions.{Passes, intent_entry, started, transaction_begun, without}
use Rattle.orc_rules.specs.Asked.{KeepsAnswer, last_at, open_of, slot_of, slot_set, with_answer, with_open}
use Rattle.orc_rules.specs.Asked.KeepsAnswer.{kept, wanting}
use Rattle.orc_rules.specs.Cells.{updated_at}
use Rattle.orc_rules.specs.Fits.{IsFirstFit}
use Rattle.orc_rules.specs.Hubs.{answered}
use Rattle.orc_rules.specs.Kept.{HubKept}
use Rattle.orc_rules.specs.Standing.{IsWaiting}
use Rattle.orc_rules.specs.Transactions.{is_preparing}
use Rattle.orc_rules.specs.declared.asked.Asked.{Asked}
use Rattle.orc_rules.specs.declared.duty.Duty.{Duty}
use Rattle.orc_rules.specs.declared.duty.Duty.TheVariants.{Works}
use Rattle.orc_rules.specs.declared.transaction.Transaction.{Transaction}
use Rattle.orc_rules.specs.declared.transaction.Waiting.{Waiting}
use Rattle.orc_rules.proofs.Entering.{All-at, All-without, Differ, apart_from}
use Rattle.orc_rules.proofs.Legality.{same_history}
use Rattle.orc_rules.proofs.Legally.{admit_keeps, push_cases, queue_keeps, turn_away_keeps}
use Rattle.orc_state.specs.Laws.{PlanIsAtFront}
use Rattle.orc_tree.specs.declared.change.ChangeSet.{ChangeSet}
use Rattle.orc_worker.specs.Workers.{new_worker}
use Rattle.orc_hub.specs.Admits.{TurnsAway, WritesIntent, row_by, waiting_name}
use Rattle.orc_hub.specs.Hubs.{record_of, with_record}
use Rattle.orc_hub_parts.specs.Numbered.{AreNumbers}
use Rattle.orc_hub.specs.Keeps.{AreAskers, IsAsker, IsHub}
use Rattle.orc_hub.specs.Submits.{HasKept, IsQueued, Submits}
use Rattle.orc_hub.specs.Writes.{HasWritten}
use Rattle.orc_hub.specs.declared.hub.Admit.{Admit}
use Rattle.orc_hub.specs.declared.hub.Admit.TheVariants as admit
use Rattle.orc_hub.specs.declared.hub.Hub.{Hub}
use Rattle.orc_hub.specs.declared.hub.Submitted.{Submitted}
use Rattle.orc_hub.specs.declared.hub.Submitted.TheVariants as submitted
use Rattle.orc_hub_parts.specs.declared.numbers.Numbers.{Numbers}
use Rattle.orc_hub_parts.specs.Numbered.{GivesNumber, IsLeastFree, is_given, is_noted}
use Rattle.orc_hub.proofs.Asking.{asks_beside, asks_noted, asks_now, asks_still, none_open}
use Rattle.orc_hub.proofs.Keeping.{log_more, numbers_more}
use Rattle.orc_hub.proofs.Submissions.{next_number}

length_started : (t : ℕ) (sets : List (ℕ × ChangeSet)) (duties : List Duty) → length (started t sets duties) ≡ length duties
length_started t [] duties = refl
length_started t (one ∷ sets) duties =
    length_started t sets (set duties one.0 (Works (new_worker t one.1))) ∙ length-set duties one.0 (Works (new_worker t one.1))

-- numbers

one_truth : (a b : Bool) → (a ≡ true → b ≡ true) → (b ≡ true → a ≡ true) → a ≡ b
one_truth true true f g = refl
one_truth false false f g = refl
one_truth true false f g = absurd (false≢true (f refl))
one_truth false true f g = absurd (false≢true (g refl))

module _ (old new : Numbers) (t : ℕ) (least : IsLeastFree old t) (gives : GivesNumber old new t) where
  noted_same : (u : ℕ) → is_noted new u ≡ is_noted old u
  noted_same u = ap (λ s. is_noted (record old { noted = s }) u) gives.noted

  is_so : (u : ℕ) → is_noted old u ≡ false → 1 ≤ u → u < t + 1 → is_given new u ≡ true
  is_so u unnoted positive below =
      ap (λ (b : Bool). not b && nat_lt 0 u && nat_lt u new.next) (noted_same u ∙ unnoted)
      ∙ ap (λ (b : Bool). b && nat_lt u new.next) (lt-ltb 0 u (omega (arith, positive)))
      ∙ lt-ltb u new.next (subst (λ (n : ℕ). u < n) (sym gives.next) below)

  parts : (n a b : Bool) → (not n && a && b) ≡ true → (n ≡ false) × (a ≡ true) × (b ≡ true)
  parts false true true h = (refl, refl, refl)
  parts false true false h = absurd (false≢true h)
  parts false false b h = absurd (false≢true h)
  parts true a b h = absurd (false≢true h)

  given_still : (u : ℕ) → is_given old u ≡ true → is_given new u ≡ true
  given_still u h =
      let so = parts (is_noted old u) (nat_lt 0 u) (nat_lt u old.next) h in
      let positive = ltb-true 0 u so.1 in
      let below = ltb-true u old.next so.2 in
      let behind = least.behind in
      is_so u so.0 (omega (arith, positive)) (omega (arith, below, behind))

  given_more : (u : ℕ) → updated_at (is_given old) t true u ≡ true → is_given new u ≡ true
  given_more u h = on (nat_eq t u) refl h
    where
      on : (b : Bool) → nat_eq t u ≡ b → cond b true (is_given old u) ≡ true → is_given new u ≡ true
      on true e so = subst (λ (n : ℕ). is_given new n ≡ true) (eqb-true t u e) (is_so t least.unnoted least.positive (omega arith))
      on false e so = given_still u so

  -- those that are given are those that were, and this one
  given_less : (u : ℕ) → is_given new u ≡ true → updated_at (is_given old) t true u ≡ true
  given_less u h = on (nat_eq t u) refl
    where
      so : (is_noted new u ≡ false) × (nat_lt 0 u ≡ true) × (nat_lt u new.next ≡ true)
      so = parts (is_noted new u) (nat_lt 0 u) (nat_lt u new.next) h

      was : nat_eq t u ≡ false → is_given old u ≡ true
      was e =
          let positive = ltb-true 0 u so.1 in
          let below = ltb-true u new.next so.2 in
          let apart : t ≡ u → ⊥ = λ same. false≢true (sym e ∙ eq-eqb t u same) in
          let next = gives.next in
          let less : u < t = omega (arith, below, next, apart) in
          ⊎_elim (λ given. given) (λ noted. absurd (false≢true (sym so.0 ∙ noted_same u ∙ noted))) (least.least u (omega (arith, positive)) less)

      on : (b : Bool) → nat_eq t u ≡ b → cond b true (is_given old u) ≡ true
      on true e = refl
      on false e = was e

  pub given_same : (u : ℕ) → is_given new u ≡ updated_at (is_given old) t true u
  given_same u = one_truth (is_given new u) (updated_at (is_given old) t true u) (given_less u) (given_more u)

  pub numbers_given : (entries : List Entry) → AreNumbers old entries → AreNumbers new entries
  numbers_given entries own = record {
    taken = All-weaker (λ (e : Entry). (is_noted old (number_of e) ≡ true) ⊎ (is_given old (number_of e) ≡ true)) (λ (e : Entry). (is_noted new (number_of e) ≡ true) ⊎ (is_given new (number_of e) ≡ true))
        (λ e taken. ⊎_elim (λ noted. inl (noted_same (number_of e) ∙ noted)) (λ given. inr (given_still (number_of e) given)) taken) entries own.taken;
    noted = λ u h none. own.noted u (sym (noted_same u) ∙ h) none;
  }

module _ {D : Type 0} (disk : DiskMeaning D) (hub : Hub D) (entries : List Entry) (own : IsHub disk hub entries) where
  -- a waiting call is answered
  module _ (place : ℕ) (it : Waiting) (there : slice_get hub.waiting place ≡ Some it) where
    asks : IsAsker hub.askers it.asker it.call
    asks = All-at (λ (one : Waiting). IsAsker hub.askers one.asker one.call) hub.waiting place it own.askers.waits there

    turned : (said : Answer) → IsHub disk (with_record (record hub { waiting = without place hub.waiting })
        (answered it.asker said (record_of (record hub { waiting = without place hub.waiting })))) entries
    turned said = record {
      decls = own.decls;
      log = own.log;
      history = own.history;
      state = own.state;
      kept = turn_away_keeps hub.decls entries hub.state.history hub.active hub.waiting (is_given hub.numbers) own.kept place;
      numbers = own.numbers;
      askers = record {
        waits = λ k d within.
            asks_still hub.askers it.asker said it.call asks _ _ (λ same. (apart_from place hub.waiting it own.kept.waiting_apart there k d within).1 same.0)
            (All-without (λ (one : Waiting). IsAsker hub.askers one.asker one.call) place hub.waiting own.askers.waits k d within);
        prepares = λ p x x_there h.
            asks_still hub.askers it.asker said it.call asks x.asker x.call
            (λ same. All-at (λ (one : Waiting). x.call.caller ≢ one.call.caller) hub.waiting place it (own.kept.waits_apart p x x_there h) there (sym same.0))
            (own.askers.prepares p x x_there h);
      };
      duties = own.duties;
      stale = own.stale;
      mending = own.mending;
    }

    pub turns_away_so : (given : Answer) (result : Admit) (new : Hub D) → TurnsAway (record hub { waiting = without place hub.waiting }) it.asker (waiting_name it) given result new
        → IsHub disk new entries
    turns_away_so given (admit.Answered caller number said) new w = subst (λ (h : Hub D). IsHub disk h entries) (sym w.2) (turned said)
    turns_away_so given (admit.Admitted t) new w = absurd w
    turns_away_so given (admit.Full len) new w = absurd w
    turns_away_so given admit.Nothing new w = absurd w

    -- it gets its Intent
    begun : KeepsOrder → hub.mends ≡ None → IsFirstFit hub.active hub.waiting place → (sets : List (ℕ × ChangeSet)) → Passes hub.decls hub.state.history it.call it.plan sets → (new : Hub D)
        → HasWritten disk (record hub { waiting = without place hub.waiting }) (intent_entry it) new
        → new ≡ record hub {
          log = new.log;
          waiting = without place hub.waiting;
          active = hub.active ++ transaction_begun (length hub.state.history) it ∷ [];
          duties = started it.t sets hub.duties;
        }
        → IsHub disk new (entries ++ intent_entry it ∷ [])
    begun law mended first sets passes new w is =
        let e = intent_entry it in
        let unnamed : IsUnnamed entries it.t = All-at (λ (one : Waiting). IsUnnamed entries one.t) hub.waiting place it own.kept.unused there in
        let given : is_given hub.numbers it.t ≡ true = All-at (λ (one : Waiting). is_given hub.numbers one.t ≡ true) hub.waiting place it own.kept.numbered there in
        let fits : All (λ other. FitTogether it.plan.held other.plan.held) hub.active =
        subst (λ (x : Waiting). All (λ (other : Transaction). FitTogether x.plan.held other.plan.held) hub.active) (same_Some first.it it (sym first.fits.there ∙ there)) first.fits.active_ones in
        subst (λ (h : Hub D). IsHub disk h (entries ++ e ∷ [])) (sym is) (record {
          decls = own.decls;
          log = log_more disk law (record hub { waiting = without place hub.waiting }) new hub.decls.text entries e own.log unnamed w;
          history = same_history entries e refl ∙ own.history;
          state = own.state;
          kept = admit_keeps hub.decls entries hub.state.history hub.active hub.waiting (is_given hub.numbers) own.kept place it there fits own.state.legal passes.unrefused passes.stands;
          numbers = numbers_more hub.numbers entries e own.numbers (inr given);
          askers = record {
            waits = All-without (λ (one : Waiting). IsAsker hub.askers one.asker one.call) place hub.waiting own.askers.waits;
            prepares = λ p x x_there h. ⊎_elim (λ old. own.askers.prepares p x old h)
                (λ latest. subst (λ (a : Transaction). IsAsker hub.askers a.asker a.call) latest.1 asks)
                (push_cases hub.active (transaction_begun (length hub.state.history) it) p x x_there);
          };
          duties = length_started it.t sets hub.duties ∙ own.duties;
          stale = own.stale;
          mending = λ met mends. absurd (none-some met (sym mended ∙ mends));
        })

    pub begins_so : KeepsOrder → hub.mends ≡ None → IsFirstFit hub.active hub.waiting place → (sets : List (ℕ × ChangeSet)) → Passes hub.decls hub.state.history it.call it.plan sets
        → (result : Admit) (new : Hub D) → WritesIntent disk (record hub { waiting = without place hub.waiting }) it sets result new → new.down ≡ false
        → IsHub disk new (entries ++ row_by result it)
    begins_so law mended first sets passes (admit.Admitted t) new w up = begun law mended first sets passes new w.1 w.2
    begins_so law mended first sets passes (admit.Answered caller number said) new w up =
        subst (IsHub disk new) (sym (append-nil entries))
        (⊎_elim (λ memory. subst (λ (h : Hub D). IsHub disk h entries) (sym memory.1) (turned said)) (λ broken. absurd (false≢true (sym up ∙ broken.1.down))) w.1)
    begins_so law mended first sets passes (admit.Full len) new w up = absurd (false≢true (sym up ∙ w.down))
    begins_so law mended first sets passes admit.Nothing new w up = absurd w

  -- a submission
  module _ (call : Call) where
    askers_beside : open_of hub.askers call.caller ≡ None → (last : Option Answer) (is_open : Bool)
        → AreAskers (slot_set hub.askers call (slot_of hub.askers call) last is_open) hub.waiting hub.active
    askers_beside closed last is_open = record {
      waits = All-weaker (λ (one : Waiting). IsAsker hub.askers one.asker one.call) (λ (one : Waiting). IsAsker (slot_set hub.askers call (slot_of hub.askers call) last is_open) one.asker one.call)
          (λ one asks'. asks_beside hub.askers call closed last is_open (slot_of hub.askers call) refl one.asker one.call asks') hub.waiting own.askers.waits;
      prepares = λ p x there h. asks_beside hub.askers call closed last is_open (slot_of hub.askers call) refl x.asker x.call (own.askers.prepares p x there h);
    }

    with_askers : (asked : List Asked) → AreAskers asked hub.waiting hub.active → (new : Hub D) → new ≡ record hub { askers = new.askers } → new.askers ≡ asked → IsHub disk new entries
    with_askers asked askers new is same =
        subst (λ (h : Hub D). IsHub disk h entries) (sym (is ∙ ap (λ (l : List Asked). record hub { askers = l }) same)) (record {
          decls = own.decls;
          log = own.log;
          history = own.history;
          state = own.state;
          kept = own.kept;
          numbers = own.numbers;
          askers = askers;
          duties = own.duties;
          stale = own.stale;
          mending = own.mending;
        })

    answered_so : (said : Answer) (asked : List Asked) → KeepsAnswer call said hub.askers asked → AreAskers asked hub.waiting hub.active
    answered_so said asked kept = record {
      waits = All-weaker (λ (one : Waiting). IsAsker hub.askers one.asker one.call) (λ (one : Waiting). IsAsker (with_answer call said hub.askers) one.asker one.call)
          (λ one asks'. asks_noted hub.askers call said (slot_of hub.askers call) refl one.asker one.call asks') hub.waiting own.askers.waits;
      prepares = λ p x there h. asks_noted hub.askers call said (slot_of hub.askers call) refl x.asker x.call (own.askers.prepares p x there h);
    }
    answered_so said asked (wanting memory none) = own.askers

    kept_so : (said : Answer) (new : Hub D) → HasKept hub call said new → IsHub disk new entries
    kept_so said new k = with_askers new.askers (answered_so said new.askers k.kept) new k.rest refl

    queued_so : PlanIsAtFront → IsTrue (is_call hub.decls call) → (front : ℕ) → front ≤ length hub.state.history → (plan : Plan)
        → planned hub.decls (state_of hub.decls (take front hub.state.history)) front call ≡ Ok plan
        → open_of hub.askers call.caller ≡ None → IsNew hub.state.history call → (t : ℕ) (new : Hub D) → IsQueued hub call plan t new → IsHub disk new entries
    queued_so law lawful front within plan made closed fresh t new q =
        let it : Waiting = record { t = t; call = call; plan = plan; asker = q.asker } in
        let at = law hub.decls hub.state.history front call plan within made in
        let next = next_number disk hub entries t own q.least in
        let waits : IsWaiting hub.decls hub.state.history it = record { lawful = lawful; planned = at; fresh = fresh } in
        let apart : All (λ one. one.call.caller ≢ it.call.caller) hub.waiting =
        All-weaker (λ (one : Waiting). IsAsker hub.askers one.asker one.call) (λ (one : Waiting). one.call.caller ≢ call.caller)
        (λ one a same. none_open hub.askers call.caller closed one.asker a.slot a.there a.is_open (a.caller ∙ same)) hub.waiting own.askers.waits in
        let apart' : All (λ x. is_preparing x.phase ≡ true → x.call.caller ≢ it.call.caller) hub.active =
        λ k d within' h same. (let a = own.askers.prepares k (get_or hub.active k d) (slice_get-get_or hub.active k d within') h in
        none_open hub.askers call.caller closed (get_or hub.active k d).asker a.slot a.there a.is_open (a.caller ∙ same)) in
        let k = queue_keeps hub.decls entries hub.state.history hub.active hub.waiting (is_given hub.numbers) own.kept it waits next.unused next.new apart apart' in
        let last = last_at hub.askers (slot_of hub.askers call) in
        let beside = askers_beside closed last true in
        subst (λ (h : Hub D). IsHub disk h entries) (sym q.waits) (record {
          decls = own.decls;
          log = own.log;
          history = own.history;
          state = own.state;
          kept = record {
            intents = k.intents;
            settle = k.settle;
            admitted = k.admitted;
            fresh = k.fresh;
            fit = k.fit;
            apart = k.apart;
            waits_apart = k.waits_apart;
            waits = k.waits;
            unused = k.unused;
            numbered = All-weaker (λ (one : Waiting). updated_at (is_given hub.numbers) t true one.t ≡ true) (λ (one : Waiting). is_given new.numbers one.t ≡ true)
                (λ one h. given_more hub.numbers new.numbers t q.least q.given one.t h) (hub.waiting ++ it ∷ []) k.numbered;
            waiting_apart = k.waiting_apart;
          };
          numbers = numbers_given hub.numbers new.numbers t q.least q.given entries own.numbers;
          askers = record {
            waits = All-push (λ (one : Waiting). IsAsker (with_open call hub.askers) one.asker one.call) hub.waiting it beside.waits
                (asks_now hub.askers call last (slot_of hub.askers call) refl q.asker q.slot);
            prepares = beside.prepares;
          };
          duties = own.duties;
          stale = own.stale;
          mending = own.mending;
        })

    pub submits_so : PlanIsAtFront → IsTrue (is_call hub.decls call) → (front : ℕ) → front ≤ length hub.state.history → (plan : Result Plan Answer)
        → (plan ≡ Err answer.Memory) ⊎ (plan ≡ planned hub.decls (state_of hub.decls (take front hub.state.history)) front call)
        → (result : Submitted) (new : Hub D) → Submits hub call front plan result new → IsHub disk new entries
    submits_so law lawful front within plan of (submitted.Answered said) new s =
        ⊎_elim (λ down. kept_so said new down.2) (λ up. kept_so said new up.2) s
    submits_so law lawful front within plan of (submitted.Queued t) new s =
        ⊎_elim
        (λ memory. absurd (let no : Ok s.2.0 ≡ Err answer.Memory = sym s.2.1 ∙ memory in cc))
        (λ is. queued_so law lawful front within s.2.0 (sym is ∙ s.2.1) s.1.closed s.1.new t new s.2.2) of
