-- When a call is committed, and when it is admitted.
use Rattle.std.proofs.Common.{◌≡◌, ◌≢◌, ℕ, zero, suc, ◌+◌, Bool, true, false, cond, Option, Some, None, List, [], ◌∷◌, ◌++◌, Contains, inl, inr, refl, sym, ap, subst, ◌∙◌, append-nil, arith}
use Rattle.std.specs.Prelude.{length, slice_get, is_some, ◌&&◌, ◌||◌, ◌⊎◌}
use Rattle.std.specs.List.{list_any}
use Rattle.std.specs.Option.{option_map, option_map_or, option_or}
use Rattle.std.proofs.lemmas.Option.{same_Some}
use Rattle.orc_journal.specs.Rows.{HasSomeOf}
use Rattle.orc_journal.specs.declared.outcome.Appended.TheVariants as appended
use Rattle.orc_call.specs.declared.answer.Answer.{Answer}
use Rattle.orc_call.specs.declared.answer.Answer.TheVariants as answer
use Rattle.orc_call.specs.declared.answer.Why.{Why}
use Rattle.orc_datastore.specs.Actions.{data_after}
use Rattle.orc_datastore.specs.Legal.{state_of}
use Rattle.orc_journal.specs.Journals.{IsGated}
use Rattle.orc_journal.specs.declared.entry.Entry.{Entry}
use Rattle.orc_journal.specs.declared.entry.Entry.TheVariants as entry
use Rattle.orc_rules.specs.Due.{is_decision_due}
use Rattle.orc_rules.specs.Courses.{agrees, is_hindered, stands_undecided}
use Rattle.orc_rules.specs.Duties.{duty_outcome, outcome_on}
use Rattle.orc_rules.specs.Events.{Comes, DoesAnyway, DoesUnderHub, IsGivenUpFor, Steps, Turn, seen_failing}
use Rattle.orc_rules.specs.Fits.{first_stale, stale_one}
use Rattle.orc_rules.specs.Hubs.{Hub, duty_on}
use Rattle.orc_rules.specs.Journals.{AppendsRow, Journal, entries_read, history_read}
use Rattle.orc_rules.specs.Transactions.{is_lost, is_preparing}
use Rattle.orc_rules.specs.UnderHub.{Attends, DevicesKept}
use Rattle.orc_rules.specs.Verdicts.{are_heard, first_answer, is_short, lost_answer, refused_by, verdict}
use Rattle.orc_rules.specs.Worlds.{Setting, World}
use Rattle.orc_rules.specs.declared.duty.Duty.{Duty}
use Rattle.orc_rules.specs.declared.duty.Duty.TheVariants as duty
use Rattle.orc_rules.proofs.Slots.{outcome_worker}
use Rattle.orc_rules.proofs.Telling.{prepared_at}
use Rattle.orc_worker.specs.declared.stage.Stage.{Stage}
use Rattle.orc_worker.specs.declared.stage.Stage.TheVariants as stage
use Rattle.orc_worker.specs.declared.worker.Worker.{Worker}
use Rattle.std.proofs.lemmas.Bool.{false≢true}
use Rattle.orc_rules.specs.declared.event.Event.{Event}
use Rattle.orc_rules.specs.declared.event.Event.TheVariants as event
use Rattle.orc_rules.specs.declared.transaction.Transaction.{Transaction}
use Rattle.orc_rules.proofs.Refusing.{invalid_uncommitted, verdict_uncommitted}
use Rattle.orc_worker.specs.declared.report.Outcome.{Outcome}
use Rattle.orc_worker.specs.declared.report.Outcome.TheVariants as outcome
use Rattle.orc_run_cases.specs.Refused.{AdmitsFresh, CommitsNext, CommitsPrepared, CommitsSynced, CommitsWhenReady, IsPrepared, WaitsInSync, IsPreparedFor, IsReadyToCommit, is_hindrance}

-- what lists hold

-- x stands in the list
abbrev In : List ℕ → ℕ → Type 0
In [] x = ⊥
In (y ∷ ys) x = (y ≡ x) ⊎ In ys x

in_list : (xs : List ℕ) (x : ℕ) → Contains xs x → In xs x
in_list [] x (k, less, same) = absurd (omega (arith, less))
in_list (y ∷ ys) x (zero, less, same) = inl same
in_list (y ∷ ys) x (suc k, less, same) = inr (in_list ys x (k, omega (arith, less), same))

true_left : (a b : Bool) → (a && b) ≡ true → a ≡ true
true_left true b is = refl
true_left false b is = absurd cc

true_right : (a b : Bool) → (a && b) ≡ true → b ≡ true
true_right true b is = is
true_right false b is = absurd cc

-- the verdict

none_left : (a b : Option Answer) → option_or a b ≡ None → a ≡ None
none_left None b is = refl
none_left (Some x) b is = absurd cc

none_right : (a b : Option Answer) → option_or a b ≡ None → b ≡ None
none_right None b is = is
none_right (Some x) b is = absurd cc

module _ (duties : List Duty) (t : ℕ) where
  -- nothing gives the transaction up on any of these devices
  record IsSpared (device : ℕ) : Type 0 where
    fed : is_short (outcome_on duties t device) ≡ false
    accepted : refused_by device (outcome_on duties t device) ≡ None
    reached : lost_answer device (outcome_on duties t device) ≡ None

  all_fed : (devices : List ℕ) (device : ℕ) → list_any (λ d. is_short (outcome_on duties t d)) devices ≡ false → In devices device → is_short (outcome_on duties t device) ≡ false
  all_fed [] device none among = absurd among
  all_fed (d ∷ devices) device none among = on (is_short (outcome_on duties t d)) refl among (λ later. all_fed devices device later)
    where
      rest : Bool
      rest = list_any (λ e. is_short (outcome_on duties t e)) devices

      on : (b : Bool) → is_short (outcome_on duties t d) ≡ b → (d ≡ device) ⊎ In devices device → (rest ≡ false → In devices device → is_short (outcome_on duties t device) ≡ false)
          → is_short (outcome_on duties t device) ≡ false
      on true is at later = absurd (let both : true ≡ false = sym (ap (λ (c : Bool). c || rest) is) ∙ none in cc)
      on false is (inl same) later = subst (λ (e : ℕ). is_short (outcome_on duties t e) ≡ false) same is
      on false is (inr among) later = later (sym (ap (λ (c : Bool). c || rest) is) ∙ none) among

  all_none : (by : ℕ → Option Outcome → Option Answer) (devices : List ℕ) (device : ℕ) → first_answer by duties t devices ≡ None → In devices device
      → by device (outcome_on duties t device) ≡ None
  all_none by [] device none among = absurd among
  all_none by (d ∷ devices) device none (inl same) =
      subst (λ (e : ℕ). by e (outcome_on duties t e) ≡ None) same (none_left (by d (outcome_on duties t d)) (first_answer by duties t devices) none)
  all_none by (d ∷ devices) device none (inr later) =
      all_none by devices device (none_right (by d (outcome_on duties t d)) (first_answer by duties t devices) none) later

  no_short : (devices : List ℕ) → verdict duties t devices ≡ None → list_any (λ d. is_short (outcome_on duties t d)) devices ≡ false
  no_short devices none = on (list_any (λ d. is_short (outcome_on duties t d)) devices) refl
    where
      on : (b : Bool) → list_any (λ d. is_short (outcome_on duties t d)) devices ≡ b → list_any (λ d. is_short (outcome_on duties t d)) devices ≡ false
      on false is = is
      on true is = absurd (
          let both : ◌≡◌ {A = Option Answer} (Some answer.Memory) None =
          sym (ap (λ (c : Bool). cond c (Some answer.Memory) (option_or (first_answer refused_by duties t devices) (first_answer lost_answer duties t devices))) is) ∙ none in cc)

  rest_none : (devices : List ℕ) → verdict duties t devices ≡ None → option_or (first_answer refused_by duties t devices) (first_answer lost_answer duties t devices) ≡ None
  rest_none devices none =
      sym (ap (λ (c : Bool). cond c (Some answer.Memory) (option_or (first_answer refused_by duties t devices) (first_answer lost_answer duties t devices))) (no_short devices none)) ∙ none

  spared : (devices : List ℕ) (device : ℕ) → verdict duties t devices ≡ None → In devices device → IsSpared device
  spared devices device none among = record {
    fed = all_fed devices device (no_short devices none) among;
    accepted = all_none refused_by devices device (none_left (first_answer refused_by duties t devices) (first_answer lost_answer duties t devices) (rest_none devices none)) among;
    reached = all_none lost_answer devices device (none_right (first_answer refused_by duties t devices) (first_answer lost_answer duties t devices) (rest_none devices none)) among;
  }

  heard_of : (devices : List ℕ) (device : ℕ) → are_heard duties t devices ≡ true → In devices device → is_some (outcome_on duties t device) ≡ true
  heard_of [] device all among = absurd among
  heard_of (d ∷ devices) device all (inl same) =
      subst (λ (e : ℕ). is_some (outcome_on duties t e) ≡ true) same (true_left (is_some (outcome_on duties t d)) (are_heard duties t devices) all)
  heard_of (d ∷ devices) device all (inr later) = heard_of devices device (true_right (is_some (outcome_on duties t d)) (are_heard duties t devices) all) later

  no_hindrance : (device : ℕ) (one : Outcome) → is_short (Some one) ≡ false → refused_by device (Some one) ≡ None → lost_answer device (Some one) ≡ None → is_hindrance one ≡ false
  no_hindrance device (outcome.Refused tag) fed accepted reached = absurd cc
  no_hindrance device (outcome.Lost count) fed accepted reached = absurd cc
  no_hindrance device outcome.Short fed accepted reached = absurd cc
  no_hindrance device other fed accepted reached = refl

  is_ready : (device : ℕ) → is_some (outcome_on duties t device) ≡ true → IsSpared device → IsPreparedFor duties t device
  is_ready device heard spare = on (outcome_on duties t device) refl
    where
      on : (o : Option Outcome) → outcome_on duties t device ≡ o → IsPreparedFor duties t device
      on None is = absurd (let both : false ≡ true = sym (ap is_some is) ∙ heard in cc)
      on (Some one) is = record {
        outcome = one;
        answered = is;
        well = no_hindrance device one (sym (ap is_short is) ∙ spare.fed) (sym (ap (refused_by device) is) ∙ spare.accepted) (sym (ap (lost_answer device) is) ∙ spare.reached);
      }

  pub each_ready : (devices : List ℕ) → are_heard duties t devices ≡ true → verdict duties t devices ≡ None → (device : ℕ) → Contains devices device → IsPreparedFor duties t device
  each_ready devices heard none device among =
      let at = in_list devices device among in is_ready device (heard_of devices device heard at) (spared devices device none at)

-- staleness

fresh_one : (devices : List ℕ) (stale : List (Option Why)) (device : ℕ) → first_stale devices stale ≡ None → In devices device → stale_one device stale ≡ None
fresh_one [] stale device none among = absurd among
fresh_one (d ∷ devices) stale device none (inl same) =
    subst (λ (e : ℕ). stale_one e stale ≡ None) same (none_left (stale_one d stale) (first_stale devices stale) none)
fresh_one (d ∷ devices) stale device none (inr later) = fresh_one devices stale device (none_right (stale_one d stale) (first_stale devices stale) none) later

not_stale : (stale : List (Option Why)) (device : ℕ) (cause : Why) → stale_one device stale ≡ None → slice_get stale device ≢ Some (Some cause)
not_stale stale device cause none is =
    let both : ◌≡◌ {A = Option Answer} (Some (answer.OutOfSync device cause)) None =
    sym (ap (λ (o : Option (Option Why)). option_map_or (option_map (λ why. answer.OutOfSync device why)) o None) is) ∙ none in cc

-- the worker whose outcome is looked at
slot_outcome : (duties : List Duty) (t device : ℕ) (o : Outcome) → outcome_on duties t device ≡ Some o
    → (worker : Worker) × (duty_on duties device ≡ duty.Works worker) × (worker.t ≡ t) × (worker.outcome ≡ Some o)
slot_outcome duties t device o is = on (slice_get duties device) refl
  where
    on : (slot : Option Duty) → slice_get duties device ≡ slot → (worker : Worker) × (duty_on duties device ≡ duty.Works worker) × (worker.t ≡ t) × (worker.outcome ≡ Some o)
    on None at = absurd (let no : ◌≡◌ {A = Option Outcome} None (Some o) = sym (ap (λ s. option_map_or (duty_outcome t) s None) at) ∙ is in cc)
    on (Some one) at =
        let w = outcome_worker t one o (sym (ap (λ s. option_map_or (duty_outcome t) s None) at) ∙ is) in
        (w.0, ap (λ s. option_map_or (λ (d : Duty). d) s duty.Free) at ∙ w.1, w.2, w.3)

module _ {D : Type 0} (here : Setting D) where
  -- a turn in which a call is committed
  pub record IsCommitting (old new : World D) (t number : ℕ) (hub : Hub) : Type 0 where
    pub place : ℕ
    pub it : Transaction
    pub there : slice_get hub.active place ≡ Some it
    pub named : it.t ≡ t
    pub due : is_decision_due hub.duties it ≡ true
    pub prepared : verdict hub.duties it.t it.plan.held.devices ≡ None
    pub counted : number ≡ length (history_read old.journal) + 1
    pub appends : AppendsRow here.disk here.decls.text here.limit old.journal (entry.Decide it.t ∷ []) appended.Done new.journal

  not_committed : (world : World D) (hub : Hub) (it : Transaction) (said : Answer) (number : ℕ) → IsGivenUpFor here world hub it said → said ≡ answer.Committed number → ⊥
  not_committed world hub it said number (inl memory) is = let no : answer.Memory ≡ answer.Committed number = sym memory ∙ is in cc
  not_committed world hub it said number (inr (inl refused)) is = verdict_uncommitted hub.duties it.t it.plan.held.devices number (refused ∙ ap Some is)
  not_committed world hub it said number (inr (inr broken)) is =
      invalid_uncommitted here.decls.data_schema (data_after it.call.actions (state_of here.decls (history_read world.journal)).data) number (broken.1 ∙ ap Some is)

  does_commit : (world : World D) (hub : Hub) (meant : Event) (row : List Entry) (next new : World D) → DoesUnderHub here world hub meant row next
      → AppendsRow here.disk here.decls.text here.limit world.journal row appended.Done new.journal
      → (t number : ℕ) → meant ≡ event.Decide t (answer.Committed number) → IsCommitting world new t number hub
  does_commit world hub meant row next new (DoesUnderHub.commits place it there least due prepared valid) appends t number is = record {
    place = place;
    it = it;
    there = there;
    named = let same : it.t ≡ t = cc in same;
    due = due;
    prepared = prepared;
    counted = let same : length (history_read world.journal) + 1 ≡ number = cc in sym same;
    appends = appends;
  }
  does_commit world hub meant row next new (DoesUnderHub.aborts place it said there least due why) appends t number is =
      absurd (not_committed world hub it said number why (let same : said ≡ answer.Committed number = cc in same))
  does_commit world hub meant row next new does appends t number is = absurd cc

  failing_commits : (meant : Event) (t number : ℕ) → seen_failing meant ≡ Some (event.Decide t (answer.Committed number)) → ⊥
  failing_commits (event.Admit u given) t number is = cc
  failing_commits (event.Decide u given) t number is = cc
  failing_commits (event.Reconcile result) t number is = cc
  failing_commits other t number is = cc

  pub committing : (old new : World D) (meant : Event) (seen : Option Event) (t number : ℕ) → Steps here old meant seen new
      → seen ≡ Some (event.Decide t (answer.Committed number)) → (hub : Hub) × (old.hub ≡ Some hub) × IsCommitting old new t number hub
  committing old new meant seen t number (Steps.done hub row next _ up does appends is) e =
      (hub, up, does_commit old hub meant row next new does appends t number (same_Some meant (event.Decide t (answer.Committed number)) e))
  committing old new meant seen t number (Steps.cut hub row next _ up does appends is) e = absurd cc
  committing old new meant seen t number (Steps.failed hub row next _ up does appends is) e = absurd (failing_commits meant t number e)
  committing old new meant seen t number (Steps.full hub row next len _ up does appends is) e = absurd cc
  committing old new meant seen t number (Steps.anyway _ (DoesAnyway.ticks seconds)) e = absurd cc
  committing old new meant seen t number (Steps.anyway _ (DoesAnyway.restarts device)) e = absurd cc
  committing old new meant seen t number (Steps.anyway _ (DoesAnyway.answers_down call front down)) e = absurd cc
  committing old new meant seen t number (Steps.unopened _ down recover same is) e = absurd cc
  committing old new meant seen t number (Steps.recovers _ down recover reopens is) e =
      absurd (let both : event.Recover ≡ event.Decide t (answer.Committed number) = sym recover ∙ same_Some meant (event.Decide t (answer.Committed number)) e in cc)

  pub commits_when_ready : CommitsWhenReady here
  commits_when_ready turn hub t number comes up seen =
      let so = committing turn.before turn.behind turn.meant turn.seen t number comes seen in
      let c = so.2 in
      let same : so.0 ≡ hub = same_Some so.0 hub (sym so.1 ∙ up) in
      subst (λ (h : Hub). IsReadyToCommit h t) same (record {
        it = c.it;
        place = c.place;
        active = c.there;
        number = c.named;
        ready = subst (λ (u : ℕ). (device : ℕ) → Contains c.it.plan.held.devices device → IsPreparedFor so.0.duties u device) c.named
            (each_ready so.0.duties c.it.t c.it.plan.held.devices (true_right (is_preparing c.it.phase) (are_heard so.0.duties c.it.t c.it.plan.held.devices) c.due) c.prepared);
      })

  -- what a worker's outcome is once it is prepared
  prepared_only : (o : Outcome) → agrees stage.Prepared (Some o) ≡ true → o ≡ outcome.Prepared
  prepared_only outcome.Prepared h = refl
  prepared_only o h = absurd (false≢true h)

  hindrance_none : (device : ℕ) (o : Outcome) → is_hindrance o ≡ false → (is_hindered (Some o) ≡ false) × (is_lost (Some o) ≡ false)
  hindrance_none device (outcome.Refused tag) h = absurd (false≢true (sym h))
  hindrance_none device (outcome.Lost count) h = absurd (false≢true (sym h))
  hindrance_none device outcome.Short h = absurd (false≢true (sym h))
  hindrance_none device outcome.Prepared h = (refl, refl)
  hindrance_none device outcome.Confirmed h = (refl, refl)
  hindrance_none device outcome.Gone h = (refl, refl)
  hindrance_none device outcome.Cancelled h = (refl, refl)

  pub commits_prepared : (turn : Turn D) → Comes here turn → DevicesKept here.decls turn.before → CommitsPrepared here turn
  commits_prepared turn comes own hub t number up seen =
      let so = committing turn.before turn.behind turn.meant turn.seen t number comes seen in
      subst (λ (h : Hub). IsPrepared h t) (same_Some so.0 hub (sym so.1 ∙ up)) (by so.0 so.1 so.2)
    where
      by : (h : Hub) → turn.before.hub ≡ Some h → IsCommitting turn.before turn.behind t number h → IsPrepared h t
      by h is c = record { it = c.it; place = c.place; active = c.there; number = c.named; prepared = subst (λ (u : ℕ). (device : ℕ) → Contains c.it.plan.held.devices device → outcome_on h.duties u device ≡ Some outcome.Prepared) c.named each }
        where
          under : Attends here.decls own.shadow (entries_read turn.before.journal) h turn.before.links
          under = own.under h is

          each : (device : ℕ) → Contains c.it.plan.held.devices device → outcome_on h.duties c.it.t device ≡ Some outcome.Prepared
          each device among =
              let ready = each_ready h.duties c.it.t c.it.plan.held.devices (true_right (is_preparing c.it.phase) (are_heard h.duties c.it.t c.it.plan.held.devices) c.due) c.prepared device among in
              let slot = slot_outcome h.duties c.it.t device ready.outcome ready.answered in
              let agree : agrees slot.0.stage (Some ready.outcome) ≡ true = ap (agrees slot.0.stage) (sym slot.3) ∙ under.agree device slot.0 slot.1 in
              let before : stands_undecided slot.0.stage (Some ready.outcome) ≡ true = ap (stands_undecided slot.0.stage) (sym slot.3)
              ∙ under.before c.place c.it c.there (true_left (is_preparing c.it.phase) (are_heard h.duties c.it.t c.it.plan.held.devices) c.due) device slot.0 slot.1 slot.2 in
              let none = hindrance_none device ready.outcome ready.well in
              let stage_is = prepared_at slot.0.stage ready.outcome agree before (record { hindered = none.0; lost = none.1 }) in
              ready.answered ∙ ap (λ (o : Outcome). Some o) (prepared_only ready.outcome (ap (λ (s : Stage). agrees s (Some ready.outcome)) (sym stage_is) ∙ agree))

  pub commits_next : CommitsNext here
  commits_next turn t number comes seen = (committing turn.before turn.behind turn.meant turn.seen t number comes seen).2.counted

  -- what is synced after a row was appended, and what a crash leaves then
  synced_row : (old new : Journal D) (row : List Entry) → AppendsRow here.disk here.decls.text here.limit old row appended.Done new → new.synced ≡ old.synced ++ row
  synced_row old new row a = a.synced ∙ ap (λ (l : List Entry). old.synced ++ l) (sym (a.parts ∙ ap (λ (l : List Entry). a.done ++ l) a.ends.0 ∙ append-nil a.done))

  nothing_more : (text file : List ℕ) (entries cut : List Entry) → cut ≡ [] → HasSomeOf text entries cut file → IsGated file text entries
  nothing_more text file entries cut none some =
      subst (λ (l : List Entry). IsGated file text l) (ap (λ (l : List Entry). entries ++ l) (no_front some.front some.rest (sym none ∙ some.parts)) ∙ append-nil entries) some.gated
    where
      no_front : (front rest : List Entry) → [] ≡ front ++ rest → front ≡ []
      no_front [] rest is = refl
      no_front (e ∷ front) rest is = absurd cc

  pub commits_synced : CommitsSynced here
  commits_synced turn t number comes seen =
      let c = (committing turn.before turn.behind turn.meant turn.seen t number comes seen).2 in
      let synced : turn.behind.journal.synced ≡ turn.before.journal.synced ++ entry.Decide t ∷ [] =
      synced_row turn.before.journal turn.behind.journal (entry.Decide c.it.t ∷ []) c.appends
      ∙ ap (λ (u : ℕ). turn.before.journal.synced ++ entry.Decide u ∷ []) c.named in (
        synced,
        λ file left. subst (λ (l : List Entry). IsGated file here.decls.text l) synced
            (nothing_more here.decls.text file turn.behind.journal.synced turn.behind.journal.cut c.appends.ends.1 (c.appends.outlives.holds.crash file left)),
      )

  -- a call is admitted

  does_admit : (world : World D) (hub : Hub) (meant : Event) (row : List Entry) (next : World D) → DoesUnderHub here world hub meant row next
      → (t : ℕ) → meant ≡ event.Admit t None → WaitsInSync hub t
  does_admit world hub meant row next (DoesUnderHub.admits place it sets there first idle passes fresh) t is = record {
    it = it;
    place = place;
    waits = there;
    number = let same : it.t ≡ t = cc in same;
    fresh = λ device cause among. not_stale hub.stale device cause (fresh_one it.plan.held.devices hub.stale device fresh (in_list it.plan.held.devices device among));
  }
  does_admit world hub meant row next does t is = absurd cc

  failing_admits : (meant : Event) (t : ℕ) → seen_failing meant ≡ Some (event.Admit t None) → ⊥
  failing_admits (event.Admit u given) t is = cc
  failing_admits (event.Decide u given) t is = cc
  failing_admits (event.Reconcile result) t is = cc
  failing_admits other t is = cc

  admitting : (old new : World D) (meant : Event) (seen : Option Event) (t : ℕ) → Steps here old meant seen new → seen ≡ Some (event.Admit t None)
      → (hub : Hub) × (old.hub ≡ Some hub) × WaitsInSync hub t
  admitting old new meant seen t (Steps.done hub row next _ up does appends is) e =
      (hub, up, does_admit old hub meant row next does t (same_Some meant (event.Admit t None) e))
  admitting old new meant seen t (Steps.cut hub row next _ up does appends is) e = absurd cc
  admitting old new meant seen t (Steps.failed hub row next _ up does appends is) e = absurd (failing_admits meant t e)
  admitting old new meant seen t (Steps.full hub row next len _ up does appends is) e = absurd cc
  admitting old new meant seen t (Steps.anyway _ (DoesAnyway.ticks seconds)) e = absurd cc
  admitting old new meant seen t (Steps.anyway _ (DoesAnyway.restarts device)) e = absurd cc
  admitting old new meant seen t (Steps.anyway _ (DoesAnyway.answers_down call front down)) e = absurd cc
  admitting old new meant seen t (Steps.unopened _ down recover same is) e = absurd cc
  admitting old new meant seen t (Steps.recovers _ down recover reopens is) e =
      absurd (let both : event.Recover ≡ event.Admit t None = sym recover ∙ same_Some meant (event.Admit t None) e in cc)

  pub admits_fresh : AdmitsFresh here
  admits_fresh turn hub t comes up seen =
      let so = admitting turn.before turn.behind turn.meant turn.seen t comes seen in
      subst (λ (h : Hub). WaitsInSync h t) (same_Some so.0 hub (sym so.1 ∙ up)) so.2
