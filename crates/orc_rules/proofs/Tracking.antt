-- Each event keeps what is kept of devices, however its append comes out.
use Rattle.std.proofs.Common.{◌≡◌, inl, inr, ℕ, Bool, true, false, cond, List, [], ◌∷◌, ◌++◌, Option, Some, None, map, length, refl, sym, ap, subst, ◌∙◌, append-nil, append_assoc}
use Rattle.std.proofs.lemmas.Option.{same_Some}
use Rattle.orc_decls.specs.declared.declarations.Decls.{Decls}
use Rattle.orc_rules.specs.Coming.{came_by}
use Rattle.orc_rules.specs.declared.event.Event.TheVariants as event
use Rattle.orc_journal.specs.declared.outcome.Appended.{Appended}
use Rattle.orc_journal.specs.declared.outcome.Appended.TheVariants as appended
use Rattle.orc_call.specs.declared.answer.Why.TheVariants as why
use Rattle.orc_datastore.specs.Legal.{IsLegal}
use Rattle.orc_decls.specs.Declarations.{AreDecls}
use Rattle.orc_device.specs.Nodes.{NodeState, PendingCommit, dropped, restarted, reverted_by, ticked, ticked_by}
use Rattle.orc_journal.specs.Committed.{history_of}
use Rattle.orc_journal.specs.declared.entry.Entry.{Entry}
use Rattle.orc_journal.specs.declared.entry.Entry.TheVariants as entry
use Rattle.orc_plans.specs.Plans.{PlanStands}
use Rattle.orc_rules.specs.Cells.{updated_at}
use Rattle.orc_rules.specs.Events.{DoesUnderHub, DoesAnyway, Steps, seen_failing}
use Rattle.orc_rules.specs.Hubs.{Hub}
use Rattle.orc_rules.specs.Invariant.{IsLawful}
use Rattle.orc_rules.specs.Journals.{AppendsRow, CutsFirst, Journal, StaysClosed, entries_read}
use Rattle.orc_rules.specs.Kept.{FitAt, HistoryKept, HubKept, NetworkKept, Shadow, StandsAt, ValidAt, network, network_of}
use Rattle.orc_rules.specs.Network.{Planning}
use Rattle.orc_rules.specs.UnderHub.{Attends, DevicesKept, IsOfHub, Leads, UndeclaredRest}
use Rattle.orc_rules.specs.Worlds.{Setting, World, declared, new_hub, over, stopped, unheard_of, without_hub}
use Rattle.orc_rules.specs.declared.duty.Duty.TheVariants as duty
use Rattle.orc_rules.specs.declared.event.Event.{Event}
use Rattle.orc_rules.proofs.Devices.{recovers_keep, restarts_keep, stops_keep, ticks_keep, without_keep}
use Rattle.orc_rules.proofs.Legality.{front_none}
use Rattle.orc_rules.proofs.Moves.{does_came, does_leads, mended_came, mended_front}
use Rattle.orc_rules.proofs.Reconciling.{range_length}
use Rattle.orc_rules.proofs.Recording.{either, given_at, given_other}
use Rattle.orc_rules.proofs.Starting.{new_under}
use Rattle.orc_rules.proofs.Turning.{uncut_read}

some_not : {X : Type 0} {x : X} → ◌≡◌ {A = Option X} (Some x) None → ⊥
some_not e = cc

-- prefixes of rows
pub nil_front : (front rest : List Entry) → [] ≡ front ++ rest → front ≡ []
nil_front [] rest e = refl
nil_front (x ∷ front) rest e = cc

same_head : (x y : Entry) (xs ys : List Entry) → x ∷ xs ≡ y ∷ ys → (x ≡ y) × (xs ≡ ys)
same_head x y xs ys e = (cc, cc)

pub map_front : (f : ℕ → Entry) (numbers : List ℕ) (front rest : List Entry) → map f numbers ≡ front ++ rest → (ts : List ℕ) × (front ≡ map f ts)
map_front f numbers [] rest e = ([], refl)
map_front f [] (x ∷ front) rest e = cc
map_front f (n ∷ numbers) (x ∷ front) rest e =
    let parts = same_head (f n) x (map f numbers) (front ++ rest) e in
    let later = map_front f numbers front rest parts.1 in
    (n ∷ later.0, ap (λ (y : Entry). y ∷ front) (sym parts.0) ∙ ap (λ (l : List Entry). f n ∷ l) later.1)

-- what a read gives of an append
pub record IsRead {D : Type 0} (old : Journal D) (row : List Entry) (new : Journal D) : Type 0 where
  pub front : List Entry
  pub rest : List Entry
  pub parts : row ≡ front ++ rest
  pub read : entries_read new ≡ entries_read old ++ front

-- where the first of the rest was cut a read may give it
cut_read : {D : Type 0} (here : Setting D) (old new : Journal D) (row done rest : List Entry) → row ≡ done ++ rest → new.synced ≡ old.synced ++ done → old.cut ≡ []
    → CutsFirst rest new → IsRead old row new
cut_read here old new row done rest parts synced before cuts = on new.cut_is_read refl
  where
    old_read : old.synced ≡ entries_read old
    old_read = sym (uncut_read old before)

    on : (b : Bool) → new.cut_is_read ≡ b → IsRead old row new
    on true is = record {
      front = done ++ cuts.0 ∷ [];
      rest = cuts.1;
      parts = parts ∙ ap (λ (l : List Entry). done ++ l) cuts.2 ∙ sym (append_assoc done (cuts.0 ∷ []) cuts.1);
      read = ap (λ (b : Bool). cond b (new.synced ++ new.cut) new.synced) is ∙ ap (λ (l : List Entry). new.synced ++ l) cuts.3
          ∙ ap (λ (l : List Entry). l ++ cuts.0 ∷ []) (synced ∙ ap (λ (l : List Entry). l ++ done) old_read) ∙ append_assoc (entries_read old) done (cuts.0 ∷ []);
    }
    on false is = record {
      front = done;
      rest = rest;
      parts = parts;
      read = ap (λ (b : Bool). cond b (new.synced ++ new.cut) new.synced) is ∙ synced ∙ ap (λ (l : List Entry). l ++ done) old_read;
    }

module _ {D : Type 0} (here : Setting D) where
  pub read_by : (old new : Journal D) (row : List Entry) (out : Appended) → AppendsRow here.disk here.decls.text here.limit old row out new → IsRead old row new
  read_by old new row appended.Done a = record {
    front = a.done;
    rest = a.rest;
    parts = a.parts;
    read = uncut_read new a.ends.1 ∙ a.synced ∙ ap (λ (l : List Entry). l ++ a.done) (sym (uncut_read old a.before));
  }
  read_by old new row (appended.Full len) a = record {
    front = a.done;
    rest = a.rest;
    parts = a.parts;
    read = uncut_read new a.ends.0 ∙ a.synced ∙ ap (λ (l : List Entry). l ++ a.done) (sym (uncut_read old a.before));
  }
  read_by old new row appended.Stopped a = cut_read here old new row a.done a.rest a.parts a.synced a.before a.ends.0
  read_by old new row appended.Failed a = cut_read here old new row a.done a.rest a.parts a.synced a.before a.ends.0
  read_by old new row appended.Memory a = record {
    front = [];
    rest = row;
    parts = refl;
    read = ap entries_read a.ends ∙ sym (append-nil (entries_read old));
  }

-- a journal that wasn't opened again is read as before
pub stays_read : {D : Type 0} (here : Setting D) (a b : Journal D) → StaysClosed here.disk here.decls.text here.limit a b → entries_read a ≡ entries_read b
stays_read here a b s =
    ap (λ (c : Bool). cond c (a.synced ++ a.cut) a.synced) (sym s.cut.1)
    ∙ ap (λ (l : List Entry). cond b.cut_is_read (a.synced ++ l) a.synced) (sym s.cut.0)
    ∙ ap (λ (l : List Entry). cond b.cut_is_read (l ++ b.cut) l) (sym s.synced)

-- what is kept of devices in one world is kept in another that is the same
kept_along : {D : Type 0} (decls : Decls) (one other : World D) → one ≡ other → DevicesKept decls one → DevicesKept decls other
kept_along decls one other same own = record {
  shadow = own.shadow;
  kept = subst (λ w. NetworkKept decls (network decls own.shadow w)) same own.kept;
  silent = subst (λ w. w.hub ≡ None → (device : ℕ) → (w.links device).unheard ≡ None) same own.silent;
  under = subst (λ w. (hub : Hub) → w.hub ≡ Some hub → Attends decls own.shadow (entries_read w.journal) hub w.links) same own.under;
  rests = subst (λ w. UndeclaredRest decls w.nodes) same own.rests;
}

module _ {D : Type 0} (here : Setting D) (are_decls : AreDecls here.decls) (plans : PlanStands) (are : (device : ℕ) → IsOfHub (here.kinds device))
    (lawful : (device : ℕ) → IsLawful (here.kinds device) (over here.decls device)) (planning : Planning (over here.decls) (StandsAt here.decls) (FitAt here.decls) (ValidAt here.decls)) where
  -- the hub knows what a read gives, which is legal
  pub known_at : (world : World D) (hub : Hub) → HistoryKept here world → world.hub ≡ Some hub
      → HubKept here.decls (entries_read world.journal) (history_of (entries_read world.journal)) hub.active hub.waiting hub.given
      × IsLegal here.decls (history_of (entries_read world.journal))
  known_at world hub kept up =
      let own = kept.hub hub up in
      let read : world.journal.synced ≡ entries_read world.journal = sym (uncut_read world.journal own.0) in (
        subst (λ (l : List Entry). HubKept here.decls l (history_of l) hub.active hub.waiting hub.given) read own.1,
        subst (λ (l : List Entry). IsLegal here.decls (history_of l)) read (front_none here.decls world.journal.synced world.journal.cut kept.journal.fronts).1,
      )

  led : (world : World D) (hub : Hub) (meant : Event) (row : List Entry) (next : World D) → HistoryKept here world → DevicesKept here.decls world
      → world.hub ≡ Some hub → DoesUnderHub here world hub meant row next → Leads here.decls world row next
  led world hub meant row next kept own up does =
      let known = known_at world hub kept up in
      does_leads here are_decls plans are lawful planning world hub kept own up known.0 known.1 meant row next does

  -- where no hub is up after an event that was done, it was the stop
  silent_done : (world : World D) (hub : Hub) (meant : Event) (row : List Entry) (next : World D) → world.hub ≡ Some hub → DoesUnderHub here world hub meant row next
      → next.hub ≡ None → (device : ℕ) → (next.links device).unheard ≡ None
  silent_done world hub meant row next up (DoesUnderHub.begins caller) none device = absurd (let no : Some hub ≡ None = sym up ∙ none in cc)
  silent_done world hub meant row next up DoesUnderHub.stops none device = refl
  silent_done world hub meant row next up (DoesUnderHub.performs d op happened due unheard possible way) none device = absurd (let no : Some hub ≡ None = sym up ∙ none in cc)
  silent_done world hub meant row next up (DoesUnderHub.leaves_unsent d changes due unheard) none device = absurd (let no : Some hub ≡ None = sym up ∙ none in cc)
  silent_done world hub meant row next up does none device = absurd (some_not none)

  -- What a read gives of a row that wasn't done happened on devices that nothing else touched.

  abbrev Front : World D → List Entry → Type 0
  Front world front = (sh : ℕ → Shadow) × (h : Option Hub) × NetworkKept here.decls (network_of here.decls sh (entries_read world.journal ++ front) h world.nodes world.links)

  no_front : (world : World D) (own : DevicesKept here.decls world) (front : List Entry) → front ≡ [] → Front world front
  no_front world own front none = (
    own.shadow,
    world.hub,
    subst (λ (l : List Entry). NetworkKept here.decls (network_of here.decls own.shadow l world.hub world.nodes world.links))
        (sym (append-nil (entries_read world.journal)) ∙ ap (λ (l : List Entry). entries_read world.journal ++ l) (sym none)) own.kept,
  )

  one_front : (world : World D) (own : DevicesKept here.decls world) (e : Entry) (sh : ℕ → Shadow) (h : Option Hub)
      → NetworkKept here.decls (network_of here.decls sh (entries_read world.journal ++ e ∷ []) h world.nodes world.links)
      → (front rest : List Entry) → e ∷ [] ≡ front ++ rest → Front world front
  one_front world own e sh h k [] rest is = no_front world own [] refl
  one_front world own e sh h k (x ∷ front) rest is =
      let parts = same_head e x [] (front ++ rest) is in (
        sh,
        h,
        subst (λ (l : List Entry). NetworkKept here.decls (network_of here.decls sh (entries_read world.journal ++ l) h world.nodes world.links))
            (ap (λ (y : Entry). y ∷ []) parts.0 ∙ ap (λ (l : List Entry). x ∷ l) (sym (nil_front front rest parts.1))) k,
      )

  front_led : (world : World D) (hub : Hub) (meant : Event) (row : List Entry) (next : World D) → HistoryKept here world → DevicesKept here.decls world
      → world.hub ≡ Some hub → DoesUnderHub here world hub meant row next → (front rest : List Entry) → row ≡ front ++ rest → Front world front
  front_led world hub meant row next kept own up (DoesUnderHub.admits place it sets there first idle passes fresh) front rest is =
      let l = led world hub meant row next kept own up (DoesUnderHub.admits place it sets there first idle passes fresh) in
      one_front world own _ l.shadow next.hub l.kept front rest is
  front_led world hub meant row next kept own up (DoesUnderHub.commits place it there least due prepared valid) front rest is =
      let l = led world hub meant row next kept own up (DoesUnderHub.commits place it there least due prepared valid) in
      one_front world own _ l.shadow next.hub l.kept front rest is
  front_led world hub meant row next kept own up (DoesUnderHub.aborts place it said there least due why) front rest is =
      let l = led world hub meant row next kept own up (DoesUnderHub.aborts place it said there least due why) in
      one_front world own _ l.shadow next.hub l.kept front rest is
  front_led world hub meant row next kept own up (DoesUnderHub.settles place it there least settling) front rest is =
      let l = led world hub meant row next kept own up (DoesUnderHub.settles place it there least settling) in
      one_front world own _ l.shadow next.hub l.kept front rest is
  front_led world hub meant row next kept own up (DoesUnderHub.mended numbers met busy heard unsettled) front rest is =
      let known = known_at world hub kept up in
      let some = map_front entry.Settled numbers front rest is in
      let k = mended_front here are_decls plans are lawful planning world hub kept own up known.0 known.1 met heard busy some.0 in
      (k.0, k.1, subst (λ (l : List Entry). NetworkKept here.decls (network_of here.decls k.0 (entries_read world.journal ++ l) k.1 world.nodes world.links)) (sym some.1) k.2)
  front_led world hub meant row next kept own up does front rest is = no_front world own front (nil_front front rest is)

  -- and then no hub was up
  cut_devices : (world : World D) (hub : Hub) (meant : Event) (row : List Entry) (next : World D) (out : Appended) (journal : Journal D)
      → HistoryKept here world → DevicesKept here.decls world → world.hub ≡ Some hub → DoesUnderHub here world hub meant row next
      → AppendsRow here.disk here.decls.text here.limit world.journal row out journal
      → DevicesKept here.decls (stopped (record world { journal = journal })) × DevicesKept here.decls (without_hub (record world { journal = journal }))
  cut_devices world hub meant row next out journal kept own up does appends =
      let r = read_by here world.journal journal row out appends in
      let f = front_led world hub meant row next kept own up does r.front r.rest r.parts in (
        record {
          shadow = f.0;
          kept = subst (λ (l : List Entry). NetworkKept here.decls (network_of here.decls f.0 l None (λ device. dropped (world.nodes device)) (λ device. unheard_of (world.links device))))
              (sym r.read) (stops_keep here.decls here.kinds lawful planning f.0 (entries_read world.journal ++ r.front) f.1 world.nodes world.links f.2);
          silent = λ none device. refl;
          under = λ h e. absurd (let no : ◌≡◌ {A = Option Hub} None (Some h) = e in cc);
          rests = own.rests;
        },
        record {
          shadow = f.0;
          kept = subst (λ (l : List Entry). NetworkKept here.decls (network_of here.decls f.0 l None world.nodes (λ device. unheard_of (world.links device))))
              (sym r.read) (without_keep here.decls here.kinds lawful planning f.0 (entries_read world.journal ++ r.front) f.1 world.nodes world.links f.2);
          silent = λ none device. refl;
          under = λ h e. absurd (let no : ◌≡◌ {A = Option Hub} None (Some h) = e in cc);
          rests = own.rests;
        },
      )

  -- after what was done a read gives what it gave, and the row
  pub done_read : (old new : Journal D) (row : List Entry) → AppendsRow here.disk here.decls.text here.limit old row appended.Done new → entries_read old ++ row ≡ entries_read new
  done_read old new row a =
      let whole : row ≡ a.done = a.parts ∙ ap (λ (l : List Entry). a.done ++ l) a.ends.0 ∙ append-nil a.done in
      ap (λ (l : List Entry). l ++ row) (uncut_read old a.before) ∙ ap (λ (l : List Entry). old.synced ++ l) whole ∙ sym a.synced ∙ sym (uncut_read new a.ends.1)

  -- what time and restarts leave
  ticked_rests : (n : NodeState) (seconds : ℕ) → n.pending ≡ None → (ticked n seconds).pending ≡ None
  ticked_rests n seconds none = ap (λ (p : Option PendingCommit). (ticked_by n seconds p).pending) none ∙ none

  restarted_rests : (n : NodeState) → n.pending ≡ None → (restarted n).pending ≡ None
  restarted_rests n none = ap (λ (p : Option PendingCommit). (reverted_by n p).pending) none ∙ none

  pub steps_devices : (old new : World D) (meant : Event) (seen : Option Event) → HistoryKept here old → DevicesKept here.decls old → Steps here old meant seen new
      → DevicesKept here.decls new
  steps_devices old new meant seen kept own (Steps.done hub row next _ up does appends is) =
      let l = led old hub meant row next kept own up does in
      let read = done_read old.journal new.journal row appends in
      kept_along here.decls _ new (sym is) (record {
        shadow = l.shadow;
        kept = subst (λ (es : List Entry). NetworkKept here.decls (network_of here.decls l.shadow es next.hub next.nodes next.links)) read l.kept;
        silent = λ none device. silent_done old hub meant row next up does none device;
        under = λ h e. subst (λ (es : List Entry). Attends here.decls l.shadow es h next.links) read (l.under h e);
        rests = l.rests;
      })
  steps_devices old new meant seen kept own (Steps.cut hub row next _ up does appends is) =
      kept_along here.decls _ new (sym is) (cut_devices old hub meant row next appended.Stopped new.journal kept own up does appends).0
  steps_devices old new meant seen kept own (Steps.failed hub row next _ up does appends is) =
      kept_along here.decls _ new (sym is) (cut_devices old hub meant row next appended.Failed new.journal kept own up does appends).1
  steps_devices old new meant seen kept own (Steps.full hub row next len _ up does appends is) =
      kept_along here.decls _ new (sym is) (cut_devices old hub meant row next (appended.Full len) new.journal kept own up does appends).1
  steps_devices old new meant seen kept own (Steps.anyway _ (DoesAnyway.ticks seconds)) = record {
    shadow = own.shadow;
    kept = ticks_keep here.decls here.kinds lawful planning own.shadow (entries_read old.journal) old.hub old.nodes old.links seconds own.kept;
    silent = own.silent;
    under = own.under;
    rests = λ device past. ticked_rests (old.nodes device) seconds (own.rests device past);
  }
  steps_devices old new meant seen kept own (Steps.anyway _ (DoesAnyway.restarts device)) = record {
    shadow = own.shadow;
    kept = restarts_keep here.decls here.kinds lawful planning own.shadow (entries_read old.journal) old.hub old.nodes old.links device own.kept;
    silent = own.silent;
    under = own.under;
    rests = λ x past. elim (either device x) [
      | inl s ↦ subst (λ (y : ℕ). (updated_at old.nodes device (restarted (old.nodes device)) y).pending ≡ None) s
          (ap (λ (n : NodeState). n.pending) (given_at old.nodes device (restarted (old.nodes device)))
          ∙ restarted_rests (old.nodes device) (ap (λ (y : ℕ). (old.nodes y).pending) s ∙ own.rests x past))
      | inr ne ↦ ap (λ (n : NodeState). n.pending) (given_other old.nodes device (restarted (old.nodes device)) x ne) ∙ own.rests x past
    ];
  }
  steps_devices old new meant seen kept own (Steps.anyway _ (DoesAnyway.answers_down call front down)) = own
  steps_devices old new meant seen kept own (Steps.unopened _ down recover same is) =
      kept_along here.decls _ new (sym is) (record {
        shadow = own.shadow;
        kept = subst (λ (l : List Entry). NetworkKept here.decls (network_of here.decls own.shadow l old.hub old.nodes old.links)) (stays_read here old.journal new.journal same) own.kept;
        silent = own.silent;
        under = λ h e. absurd (let no : ◌≡◌ {A = Option Hub} None (Some h) = sym down ∙ e in cc);
        rests = own.rests;
      })
  steps_devices old new meant seen kept own (Steps.recovers _ down recover reopens is) =
      kept_along here.decls _ new (sym is) (record {
        shadow = own.shadow;
        kept = recovers_keep here.decls here.kinds lawful planning own.shadow (entries_read new.journal) old.nodes old.links (own.silent down)
            (subst (λ (h : Option Hub). NetworkKept here.decls (network_of here.decls own.shadow (entries_read new.journal) h old.nodes old.links)) down
            (subst (λ (l : List Entry). NetworkKept here.decls (network_of here.decls own.shadow l old.hub old.nodes old.links)) (sym (uncut_read new.journal reopens.cut ∙ reopens.synced kept.journal.read_back)) own.kept));
        silent = λ none device. own.silent down device;
        under = λ h e. subst (λ (x : Hub). Attends here.decls own.shadow (entries_read new.journal) x old.links)
            (same_Some (new_hub (map (λ device. duty.Free) (declared here.decls)) (map (λ device. Some why.Recovered) (declared here.decls))) h e)
            (new_under here.decls own.shadow (entries_read new.journal) (map (λ device. Some why.Recovered) (declared here.decls)) old.links
            (range_length (λ device. Some why.Recovered) 0 (length here.decls.names)) (own.silent down));
        rests = own.rests;
      })

  -- How far along the history each device has come.

  abbrev Comes : (old new : World D) → DevicesKept here.decls old → DevicesKept here.decls new → Option Event → ℕ → Type 0
  Comes old new own own' seen x = (own'.shadow x).at ≡ came_by here old x (own.shadow x).at seen

  does_come : (world : World D) (hub : Hub) (meant : Event) (row : List Entry) (next : World D) (kept : HistoryKept here world) (own : DevicesKept here.decls world)
      (up : world.hub ≡ Some hub) (does : DoesUnderHub here world hub meant row next) (x : ℕ)
      → ((led world hub meant row next kept own up does).shadow x).at ≡ came_by here world x (own.shadow x).at (Some meant)
  unfolding led
  does_come world hub meant row next kept own up does x =
      let known = known_at world hub kept up in
      does_came here are_decls plans are lawful planning world hub kept own up known.0 known.1 meant row next does x

  one_came : (world : World D) (own : DevicesKept here.decls world) (e : Entry) (sh : ℕ → Shadow) (h : Option Hub)
      (k : NetworkKept here.decls (network_of here.decls sh (entries_read world.journal ++ e ∷ []) h world.nodes world.links)) (x : ℕ) → (sh x).at ≡ (own.shadow x).at
      → (front rest : List Entry) (is : e ∷ [] ≡ front ++ rest) → ((one_front world own e sh h k front rest is).0 x).at ≡ (own.shadow x).at
  unfolding one_front no_front
  one_came world own e sh h k x same [] rest is = refl
  one_came world own e sh h k x same (y ∷ front) rest is = same

  -- a row that wasn't done moves none
  front_came : (world : World D) (hub : Hub) (meant : Event) (row : List Entry) (next : World D) (kept : HistoryKept here world) (own : DevicesKept here.decls world)
      (up : world.hub ≡ Some hub) (does : DoesUnderHub here world hub meant row next) (front rest : List Entry) (is : row ≡ front ++ rest) (x : ℕ)
      → ((front_led world hub meant row next kept own up does front rest is).0 x).at ≡ (own.shadow x).at
  unfolding front_led no_front
  front_came world hub meant row next kept own up (DoesUnderHub.admits place it sets there first idle passes fresh) front rest is x =
      one_came world own _ _ _ _ x (does_come world hub meant row next kept own up (DoesUnderHub.admits place it sets there first idle passes fresh) x) front rest is
  front_came world hub meant row next kept own up (DoesUnderHub.commits place it there least due prepared valid) front rest is x =
      one_came world own _ _ _ _ x (does_come world hub meant row next kept own up (DoesUnderHub.commits place it there least due prepared valid) x) front rest is
  front_came world hub meant row next kept own up (DoesUnderHub.aborts place it said there least due why) front rest is x =
      one_came world own _ _ _ _ x (does_come world hub meant row next kept own up (DoesUnderHub.aborts place it said there least due why) x) front rest is
  front_came world hub meant row next kept own up (DoesUnderHub.settles place it there least settling) front rest is x =
      one_came world own _ _ _ _ x (does_come world hub meant row next kept own up (DoesUnderHub.settles place it there least settling) x) front rest is
  front_came world hub meant row next kept own up (DoesUnderHub.mended numbers met busy heard unsettled) front rest is x =
      let known = known_at world hub kept up in
      mended_came here are_decls plans are lawful planning world hub kept own up known.0 known.1 met heard busy (map_front entry.Settled numbers front rest is).0 x
  front_came world hub meant row next kept own up does front rest is x = refl

  pub failing_came : (world : World D) (x at : ℕ) (meant : Event) → at ≡ came_by here world x at (seen_failing meant)
  failing_came world x at (event.Admit t said) = refl
  failing_came world x at (event.Decide t said) = refl
  failing_came world x at (event.Reconcile result) = refl
  failing_came world x at other = refl

  pub steps_come : (old new : World D) (meant : Event) (seen : Option Event) (kept : HistoryKept here old) (own : DevicesKept here.decls old) (steps : Steps here old meant seen new) (x : ℕ)
      → Comes old new own (steps_devices old new meant seen kept own steps) seen x
  unfolding steps_devices kept_along cut_devices
  steps_come old new meant seen kept own (Steps.done hub row next _ up does appends is) x = does_come old hub meant row next kept own up does x
  steps_come old new meant seen kept own (Steps.cut hub row next _ up does appends is) x =
      let r = read_by here old.journal new.journal row appended.Stopped appends in front_came old hub meant row next kept own up does r.front r.rest r.parts x
  steps_come old new meant seen kept own (Steps.failed hub row next _ up does appends is) x =
      let r = read_by here old.journal new.journal row appended.Failed appends in
      front_came old hub meant row next kept own up does r.front r.rest r.parts x ∙ failing_came old x (own.shadow x).at meant
  steps_come old new meant seen kept own (Steps.full hub row next len _ up does appends is) x =
      let r = read_by here old.journal new.journal row (appended.Full len) appends in front_came old hub meant row next kept own up does r.front r.rest r.parts x
  steps_come old new meant seen kept own (Steps.anyway _ (DoesAnyway.ticks seconds)) x = refl
  steps_come old new meant seen kept own (Steps.anyway _ (DoesAnyway.restarts device)) x = refl
  steps_come old new meant seen kept own (Steps.anyway _ (DoesAnyway.answers_down call front down)) x = refl
  steps_come old new meant seen kept own (Steps.unopened _ down recover same is) x = refl
  steps_come old new meant seen kept own (Steps.recovers _ down recover reopens is) x = ap (λ (m : Event). came_by here old x (own.shadow x).at (Some m)) (sym recover)
