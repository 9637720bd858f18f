-- A call of the hub that goes on is a turn of the world.
use Rattle.std.proofs.Common.{[], ◌≡◌, ◌⊎◌, ℕ, zero, suc, nat_eq, Bool, true, false, cond, not, Option, Some, None, List, ◌∷◌, ◌++◌, All, length, map, refl, sym, ap, subst, ◌∙◌, append-nil, eq-eqb, eqb-true, inl, inr, arith}
use Rattle.std.specs.List.{find}
use Rattle.std.specs.Prelude.{◌≢◌, ◌==◌, Err, IfErr, MatchResult, Ok, OnOk, Result, codes, slice_get}
use Rattle.std.specs.Option.{option_map, option_map_or}
use Rattle.std.specs.Cmp.Lexicographic.{bytes_decides}
use Rattle.std.proofs.lemmas.Bool.{false≢true}
use Rattle.std.proofs.Math.Path.{fun_ext}
use Rattle.std.proofs.lemmas.List.Elements.{All-cons, All-contains, All-head, All-nil, All-tail, All-weaker}
use Rattle.std.proofs.lemmas.Option.{none-some, same_Some, slice_get-map}
use Rattle.orc_decls.specs.Devices.{is_same_text}
use Rattle.orc_call.specs.declared.answer.Answer.{Answer}
use Rattle.orc_call.specs.declared.call.Call.{Call}
use Rattle.orc_disk.specs.Stops.{Stopping}
use Rattle.orc_hub.specs.Hubs.{record_of}
use Rattle.orc_hub.specs.declared.hub.Hub.{Hub}
use Rattle.orc_hub_laws.specs.Under.{GoesDown, GoesOnUnder, IsWorldOf, LacksRoomFor, with_journal}
use Rattle.orc_hub_laws.specs.Turns.{world_answered}
use Rattle.orc_io.specs.Counts.{Rose}
use Rattle.orc_links.specs.Logs.{noted_on}
use Rattle.orc_device.specs.Nodes.{NodeState, dropped}
use Rattle.orc_device.specs.declared.reply.Logged.{Logged}
use Rattle.orc_links.specs.Networks.{AreLinksOf, absent_link, heard_link, link_dropped, link_states, node_states}
use Rattle.orc_links.specs.declared.links.Links.{Links}
use Rattle.orc_links.proofs.States.{links_mapped, nodes_dropped}
use Rattle.orc_node.specs.LinkStates.{LinkState}
use Rattle.orc_journal.specs.Entries.{number_of}
use Rattle.orc_journal.specs.Laws.{IsUnnamed}
use Rattle.orc_journal.specs.declared.entry.Entry.{Entry}
use Rattle.orc_journal.specs.declared.entry.Entry.TheVariants as entry
use Rattle.orc_print.specs.Printed.{answer_line}
use Rattle.orc_rules.specs.Events.{Turn, seen_failing}
use Rattle.orc_rules.specs.Hubs.{Hub as HubState}
use Rattle.orc_rules.specs.Journals.{history_read}
use Rattle.orc_rules.specs.Kept.{AreWaitingApart}
use Rattle.orc_rules.specs.Transactions.{is_preparing}
use Rattle.orc_rules.specs.Worlds.{Link, Setting, World as Seen, stopped, unheard_of, with_snapshot, without_hub}
use Rattle.orc_rules.specs.declared.event.Event.{Event}
use Rattle.orc_rules.specs.declared.event.Event.TheVariants as event
use Rattle.orc_rules.specs.declared.transaction.Transaction.{Transaction}
use Rattle.orc_rules.specs.declared.transaction.Waiting.{Waiting}
use Rattle.orc_rules.proofs.Entering.{All-at}
use Rattle.orc_runs.specs.Ends.{EndedBecause}
use Rattle.orc_runs.specs.Laws.{RunsAreCarried}
use Rattle.orc_runs.specs.Runs.{EndsRun, operation_of}
use Rattle.orc_runs.specs.Scripts.{IsCalledFor, IsOf, Part, call_on_way, call_under, said}
use Rattle.orc_script.specs.declared.step.ScriptStep.TheVariants as step
use Rattle.orc_state.specs.Laws.{SnapshotStaysAtFront}
use Rattle.orc_state.specs.States.{IsSnapshotAt}
use Rattle.orc_scene.specs.inside.Effects.{AnswersCaller, LetsGoWith, Stops, place_without}
use Rattle.orc_scene.specs.Courses.{DoesTurn, EndAtLast, EndsTurn, MayEndTurn, PrintsMost, event_list, operations_in, told_in}
use Rattle.orc_scene.specs.Snapshots.{fronts_of, is_taken_by, taken_by_others}
use Rattle.orc_scene.specs.Stands.{AreNumbered, AreOnce, HasDisk, IsPlaceSeenAs, IsSeenAs, numbers_of}
use Rattle.orc_scene.specs.RunEnds.{end_of_run}
use Rattle.orc_scene.specs.declared.stop.WorldStop.{WorldStop}
use Rattle.orc_scene.specs.declared.stop.WorldStop.TheVariants as stop
use Rattle.orc_scene.specs.declared.snapshots.Snapshots.{Snapshots}
use Rattle.orc_scene.specs.declared.snapshots.Taken.{Taken}
use Rattle.orc_scene.specs.declared.scene.Place.{Place}
use Rattle.orc_scene.specs.declared.scene.Place.TheVariants.{Up, Down}
use Rattle.orc_scene.specs.declared.scene.Scene.{Scene}
use Rattle.orc_scene.proofs.Carrying.{carried_on}
use Rattle.orc_scene.proofs.Histories.{fronts_stay, history_seen}
use Rattle.orc_scene.proofs.Numbering.{numbered_on}
use Rattle.orc_scene.proofs.Times.{accepts_mapped}
use Rattle.orc_scene.proofs.Unsaid.{all_told, last_untold}

module _ {D : Type 0} (here : Setting D) where
  -- the hub that is up is the one that the rules see
  pub under_hub : (seen : Seen D) (old : Scene D) (hub : Hub (Stopping D)) → IsSeenAs here seen old → old.place ≡ Up hub → IsWorldOf here seen hub
  under_hub seen old hub is up = subst (IsPlaceSeenAs here seen) up is.place

  -- no entry has the number of a call that waits under it
  pub unused_there : (seen : Seen D) (hub : Hub (Stopping D)) → IsWorldOf here seen hub → (other : HubState) → seen.hub ≡ Some other
      → All (λ one. IsUnnamed seen.journal.synced one.t) other.waiting
  unused_there seen hub own other up =
      subst (λ (h : HubState). All (λ one. IsUnnamed seen.journal.synced one.t) h.waiting) (same_Some (record_of hub) other (sym own.is ∙ up)) own.sound.kept.unused

  -- snapshots stay those of the history, as the hub went on
  pub fronts_behind : SnapshotStaysAtFront → (seen next : Seen D) (meant : Event) (hub behind : Hub (Stopping D)) → IsWorldOf here seen hub → (went : GoesOnUnder here seen next meant behind)
      → (more : List Call) → behind.state.history ≡ hub.state.history ++ more → (taken : List Taken) → All (λ one. IsSnapshotAt here.decls (history_read seen.journal) one.snapshot) taken
      → All (λ one. IsSnapshotAt here.decls (history_read went.journal) one.snapshot) taken
  fronts_behind stays seen next meant hub behind own went more grew taken all =
      fronts_stay stays here.decls (history_read seen.journal) more (history_read went.journal) taken
      (history_seen here (with_journal went.journal next) behind went.is ∙ grew ∙ ap (λ (h : List Call). h ++ more) (sym (history_seen here seen hub own))) all

  module _ (carried : RunsAreCarried here) (seen next : Seen D) (meant : Event) (old new : Scene D) (hub behind : Hub (Stopping D))
      (is : IsSeenAs here seen old) (up : old.place ≡ Up hub) (went : GoesOnUnder here seen next meant behind)
      (nodes : next.nodes ≡ seen.nodes) (links : next.links ≡ seen.links) (taken : (caller : List ℕ) → next.snapshots caller ≡ fronts_of new.snapshots.taken caller)
      (fronts : All (λ one. IsSnapshotAt here.decls (history_read went.journal) one.snapshot) new.snapshots.taken)
      (limit : new.limit ≡ old.limit) (place : new.place ≡ Up behind) (same_links : new.links ≡ old.links) where
    -- the turn
    abbrev pub hub_turn : Turn D
    hub_turn = record { before = seen; meant = meant; seen = Some meant; behind = with_journal went.journal next }

    -- the rules see the world after it
    pub seen_after : IsSeenAs here (with_journal went.journal next) new
    seen_after = record {
      decls = is.decls;
      short = is.short;
      limit = (limit ∙ is.limit.0, is.limit.1);
      place = subst (IsPlaceSeenAs here (with_journal went.journal next)) (sym place) went.is;
      snapshots = taken;
      fronts = fronts;
      nodes = nodes ∙ is.nodes ∙ ap (λ (l : Links). node_states l.links) (sym same_links);
      links = links ∙ is.links ∙ ap (λ (l : Links). link_states l.links) (sym same_links);
      accepts = subst (λ (l : Links). AreLinksOf here.decls l.links) (sym same_links) is.accepts;
      logs = ap (λ (l : Links). length l.logs) same_links ∙ is.logs;
      numbered = numbered_on here seen meant (Some meant) (with_journal went.journal next) went.comes (unused_there seen hub (under_hub seen old hub is up)) is.numbered;
      kept = carried_on here carried seen (with_journal went.journal next) meant (Some meant) is.kept went.comes;
    }

    goes_on : EndsRun hub_turn → ⊥
    goes_on (inl none) = none-some meant (sym none)
    goes_on (inr ends) = none-some (record_of behind) (sym ends.2 ∙ went.is.is)

    -- the turn of the hub is one of a part
    pub hub_turn_done : (before after : List ℕ) (one : Part) → IsOf one meant → IsCalledFor here seen one → ((device : ℕ) → operations_in device (hub_turn ∷ []) ≡ [])
        → new.events.items.items ≡ old.events.items.items ++ meant ∷ [] → after ≡ before ++ told_in here.decls (hub_turn ∷ [])
        → DoesTurn here seen old new before after one
    hub_turn_done before after one is_of called none events printed = record {
      turn = hub_turn;
      first = refl;
      is_of = is_of;
      called = called;
      comes = went.comes;
      through = record {
        is = seen_after;
        limit = limit;
        events = events;
        logs = λ device. ap (λ (l : Links). noted_on l.logs device) same_links ∙ sym (append-nil (noted_on old.links.logs device))
            ∙ ap (λ rows. noted_on old.links.logs device ++ rows) (sym (none device));
        goes_on = (goes_on, tt);
      };
      prints = printed;
    }

  -- the hub went down, and the run ends

  pub at_last_one : (turn : Turn D) → EndAtLast (turn ∷ [])
  at_last_one turn [] later one is ends = let rest : [] ≡ later = cc in sym rest
  at_last_one turn (first ∷ earlier) later one is ends = absurd (no_more earlier later one (let rest : [] ≡ earlier ++ one ∷ later = cc in rest))
    where
      no_more : (xs ys : List (Turn D)) (x : Turn D) → [] ≡ xs ++ x ∷ ys → ⊥
      no_more [] ys x e = absurd cc
      no_more (y ∷ xs) ys x e = absurd cc

  module _ (seen : Seen D) (meant : Event) (old new : Scene D) (behind : Hub (Stopping D)) (place : new.place ≡ Down behind.log.journal.disk.inner behind.decls) where
    -- the disk is that which is left
    there : (disk : D) → disk ≡ behind.log.journal.disk.inner → HasDisk new.place disk
    there disk is = subst (λ (p : Place D). HasDisk p disk) (sym place) (sym is)

    -- the disk failed
    pub fault_because : (gone : GoesDown here seen (without_hub seen) meant (seen_failing meant) behind)
        → Rose (here.disk.faults seen.journal.disk) (here.disk.faults behind.log.journal.disk.inner)
        → EndedBecause here (record { before = seen; meant = meant; seen = seen_failing meant; behind = with_journal gone.journal (without_hub seen) } ∷ []) (end_of_run stop.JournalFault)
    fault_because gone rose =
        let turn : Turn D = record { before = seen; meant = meant; seen = seen_failing meant; behind = with_journal gone.journal (without_hub seen) } in
        ([], turn, refl, (refl, subst (λ (d : D). Rose (here.disk.faults seen.journal.disk) (here.disk.faults d)) (sym gone.disk) rose))

    -- the failed turn is why the run ended, or memory ran out before that was said
    pub ends_failed : (why : WorldStop) (gone : GoesDown here seen (without_hub seen) meant (seen_failing meant) behind)
        → EndedBecause here (record { before = seen; meant = meant; seen = seen_failing meant; behind = with_journal gone.journal (without_hub seen) } ∷ []) (end_of_run why)
        → (before after : List ℕ) (one : Part) → IsOf one meant → IsCalledFor here seen one
        → let turn : Turn D = record { before = seen; meant = meant; seen = seen_failing meant; behind = with_journal gone.journal (without_hub seen) } in
        new.events.items.items ≡ old.events.items.items ++ event_list (seen_failing meant) → PrintsMost here.decls why before after (turn ∷ [])
        → EndsTurn here seen old new before after one why
    ends_failed why gone because before after one is_of called events printed =
        let turn : Turn D = record { before = seen; meant = meant; seen = seen_failing meant; behind = with_journal gone.journal (without_hub seen) } in
        record {
          turn = turn;
          first = refl;
          is_of = is_of;
          called = called;
          comes = gone.comes;
          because = because;
          ended = record {
            disk = there gone.journal.disk gone.disk;
            events = events ∙ ap (λ (l : List Event). old.events.items.items ++ l) (sym (append-nil (event_list (seen_failing meant))));
            at_last = at_last_one turn;
          };
          prints = printed;
        }

    -- an entry had no room
    pub ends_full : (len : ℕ) → LacksRoomFor here seen meant len behind → (before after : List ℕ) (one : Part) → IsOf one meant → IsCalledFor here seen one
        → new.events.items.items ≡ old.events.items.items → after ≡ before → EndsTurn here seen old new before after one (stop.Full len)
    ends_full len lacks before after one is_of called events printed =
        let gone = lacks.1 in
        let turn : Turn D = record { before = seen; meant = meant; seen = None; behind = with_journal gone.journal (without_hub seen) } in
        record {
          turn = turn;
          first = refl;
          is_of = is_of;
          called = called;
          comes = gone.comes;
          because = ([], turn, refl, inl (refl, (lacks.2, lacks.3, lacks.4, lacks.5, lacks.6, lacks.7)));
          ended = record { disk = there gone.journal.disk gone.disk; events = events ∙ sym (append-nil old.events.items.items); at_last = at_last_one turn };
          prints = printed ∙ sym (append-nil before);
        }

-- the controller stopped as an entry was appended

-- no reply is unheard on a link all of whose replies were heard
unheard_same : (links : List LinkState) → (λ (device : ℕ). unheard_of (link_states links device)) ≡ link_states links
unheard_same links = fun_ext (λ device. on (slice_get links device))
  where
    on : (o : Option LinkState) → unheard_of (option_map_or heard_link o absent_link) ≡ option_map_or heard_link o absent_link
    on None = refl
    on (Some link) = refl

module _ {D : Type 0} (here : Setting D) (carried : RunsAreCarried here) (seen : Seen D) (meant : Event) (old middle new : Scene D) (behind : Hub (Stopping D))
    (is : IsSeenAs here seen old) (gone : GoesDown here seen (stopped seen) meant (Some event.Stop) behind)
    (same_limit : middle.limit ≡ old.limit) (same_links : middle.links ≡ old.links) (same_events : middle.events.items.items ≡ old.events.items.items)
    (at : middle.place ≡ Up behind) (decls : behind.decls ≡ here.decls) (stops : Stops middle new) where
  abbrev pub stop_turn : Turn D
  stop_turn = record { before = seen; meant = meant; seen = Some event.Stop; behind = with_journal gone.journal (stopped seen) }

  links_after : new.links ≡ record old.links { links = map link_dropped old.links.links }
  links_after = stops.links ∙ ap (λ (l : Links). record l { links = map link_dropped l.links }) same_links

  place_after : new.place ≡ Down behind.log.journal.disk.inner behind.decls
  place_after = stops.place ∙ ap (λ (p : Place D). place_without p) at

  -- the rules see the world after it
  pub stop_seen : IsSeenAs here (with_journal gone.journal (stopped seen)) new
  stop_seen = record {
    decls = is.decls;
    short = is.short;
    limit = (stops.limit ∙ same_limit ∙ is.limit.0, is.limit.1);
    place = subst (IsPlaceSeenAs here (with_journal gone.journal (stopped seen))) (sym place_after) (refl, decls, gone.disk, gone.holds, λ caller. refl);
    snapshots = λ caller. ap (λ (taken : List Taken). fronts_of taken caller) (sym stops.taken);
    fronts = subst (λ (taken : List Taken). All (λ one. IsSnapshotAt here.decls (history_read gone.journal) one.snapshot) taken) (sym stops.taken)
        (All-nil (λ (one : Taken). IsSnapshotAt here.decls (history_read gone.journal) one.snapshot));
    nodes = ap {B = ℕ → NodeState} (λ (f : ℕ → NodeState) (d : ℕ). dropped (f d)) is.nodes ∙ sym (nodes_dropped old.links.links)
        ∙ ap (λ (l : Links). node_states l.links) (sym links_after);
    links = ap {B = ℕ → Link} (λ (f : ℕ → Link) (d : ℕ). unheard_of (f d)) is.links ∙ unheard_same old.links.links
        ∙ sym (links_mapped link_dropped (λ link. refl) old.links.links) ∙ ap (λ (l : Links). link_states l.links) (sym links_after);
    accepts = ap (λ (l : Links). map (λ link. link.node.accept) l.links) links_after
        ∙ accepts_mapped link_dropped (λ link. refl) old.links.links ∙ is.accepts;
    logs = ap (λ (l : Links). length l.logs) links_after ∙ is.logs;
    numbered = tt;
    kept = carried_on here carried seen (with_journal gone.journal (stopped seen)) meant (Some event.Stop) is.kept gone.comes;
  }

  no_end : EndsRun stop_turn → ⊥
  no_end (inl none) = none-some event.Stop (sym none)
  no_end (inr ends) = ends.3 refl

  -- the turn of a stop is one of a part
  pub stop_done : (before after : List ℕ) (one : Part) → IsOf one meant → IsCalledFor here seen one
      → after ≡ before ++ told_in here.decls (stop_turn ∷ []) → DoesTurn here seen old new before after one
  stop_done before after one is_of called printed = record {
    turn = stop_turn;
    first = refl;
    is_of = is_of;
    called = called;
    comes = gone.comes;
    through = record {
      is = stop_seen;
      limit = stops.limit ∙ same_limit;
      events = stops.events ∙ ap (λ (es : List Event). es ++ event.Stop ∷ []) same_events;
      logs = λ device. ap (λ (l : Links). noted_on l.logs device) links_after ∙ sym (append-nil (noted_on old.links.logs device));
      goes_on = (no_end, tt);
    };
    prints = printed;
  }

  -- a stop came, and memory ran out before that was said
  pub stop_unsaid : (before after : List ℕ) (one : Part) → IsOf one meant → IsCalledFor here seen one → after ≡ before
      → EndsTurn here seen old new before after one stop.Memory
  stop_unsaid before after one is_of called printed = record {
    turn = stop_turn;
    first = refl;
    is_of = is_of;
    called = called;
    comes = gone.comes;
    because = tt;
    ended = record {
      disk = subst (λ (p : Place D). HasDisk p gone.journal.disk) (sym place_after) (sym gone.disk);
      events = stops.events ∙ ap (λ (es : List Event). es ++ event.Stop ∷ []) same_events;
      at_last = at_last_one here stop_turn;
    };
    prints = ([], stop_turn ∷ [], refl, omega (arith), printed ∙ sym (append-nil before));
  }

-- snapshots

-- a caller's snapshot is dropped
pub find_dropped : (caller other : List ℕ) (taken : List Taken)
    → find (is_taken_by other) (taken_by_others caller taken) ≡ cond (is_same_text other caller) None (find (is_taken_by other) taken)
find_dropped caller other [] = none (is_same_text other caller)
  where
    none : (b : Bool) → ◌≡◌ {A = Option Taken} None (cond b None None)
    none true = refl
    none false = refl
find_dropped caller other (one ∷ taken) = on (is_same_text caller one.caller) refl (find_dropped caller other taken)
  where
    -- the first is the caller's, and is dropped
    mine : (b : Bool) → is_same_text other caller ≡ b → one.caller ≡ caller
        → find (is_taken_by other) (taken_by_others caller taken) ≡ cond (is_same_text other caller) None (find (is_taken_by other) taken)
        → find (is_taken_by other) (taken_by_others caller taken) ≡ cond (is_same_text other caller) None (cond (is_same_text other one.caller) (Some one) (find (is_taken_by other) taken))
    mine true e same ih = ih ∙ ap (λ (b : Bool). cond b None (find (is_taken_by other) taken)) e ∙ sym (ap (λ (b : Bool). cond b None (cond (is_same_text other one.caller) (Some one) (find (is_taken_by other) taken))) e)
    mine false e same ih =
        ih ∙ ap (λ (b : Bool). cond b None (find (is_taken_by other) taken)) e
        ∙ sym (ap (λ (b : Bool). cond b None (cond (is_same_text other one.caller) (Some one) (find (is_taken_by other) taken))) e
        ∙ ap (λ (b : Bool). cond b (Some one) (find (is_taken_by other) taken)) (ap (is_same_text other) same ∙ e))

    -- the snapshot is another caller's, and stays
    theirs : (b : Bool) → is_same_text other one.caller ≡ b → is_same_text caller one.caller ≡ false
        → find (is_taken_by other) (taken_by_others caller taken) ≡ cond (is_same_text other caller) None (find (is_taken_by other) taken)
        → cond (is_same_text other one.caller) (Some one) (find (is_taken_by other) (taken_by_others caller taken))
        ≡ cond (is_same_text other caller) None (cond (is_same_text other one.caller) (Some one) (find (is_taken_by other) taken))
    theirs true e apart ih =
        ap (λ (b : Bool). cond b (Some one) (find (is_taken_by other) (taken_by_others caller taken))) e
        ∙ sym (ap (λ (b : Bool). cond (is_same_text other caller) None (cond b (Some one) (find (is_taken_by other) taken))) e
        ∙ ap (λ (b : Bool). cond b None (Some one)) (not_mine (is_same_text other caller) refl))
      where
        not_mine : (b : Bool) → is_same_text other caller ≡ b → is_same_text other caller ≡ false
        not_mine false same = same
        not_mine true same =
            absurd (false≢true (sym apart ∙ (bytes_decides caller one.caller).1
            (sym ((bytes_decides other caller).0 same) ∙ (bytes_decides other one.caller).0 e)))
    theirs false e apart ih =
        ap (λ (b : Bool). cond b (Some one) (find (is_taken_by other) (taken_by_others caller taken))) e ∙ ih
        ∙ sym (ap (λ (b : Bool). cond (is_same_text other caller) None (cond b (Some one) (find (is_taken_by other) taken))) e)

    on : (b : Bool) → is_same_text caller one.caller ≡ b
        → find (is_taken_by other) (taken_by_others caller taken) ≡ cond (is_same_text other caller) None (find (is_taken_by other) taken)
        → find (is_taken_by other) (cond (not (is_same_text caller one.caller)) (one ∷ taken_by_others caller taken) (taken_by_others caller taken))
        ≡ cond (is_same_text other caller) None (cond (is_same_text other one.caller) (Some one) (find (is_taken_by other) taken))
    on true e ih =
        ap (λ (b : Bool). find (is_taken_by other) (cond (not b) (one ∷ taken_by_others caller taken) (taken_by_others caller taken))) e
        ∙ mine (is_same_text other caller) refl (sym ((bytes_decides caller one.caller).0 e)) ih
    on false e ih =
        ap (λ (b : Bool). find (is_taken_by other) (cond (not b) (one ∷ taken_by_others caller taken) (taken_by_others caller taken))) e
        ∙ theirs (is_same_text other one.caller) refl e ih

-- a caller's front is dropped with its snapshot
pub fronts_dropped : (caller other : List ℕ) (taken : List Taken) (snapshots : List ℕ → Option ℕ) → snapshots other ≡ fronts_of taken other
    → with_snapshot snapshots caller None other ≡ fronts_of (taken_by_others caller taken) other
fronts_dropped caller other taken snapshots is =
    ap (λ (o : Option ℕ). cond (is_same_text other caller) None o) is
    ∙ out (is_same_text other caller) ∙ sym (ap (λ (o : Option Taken). option_map (λ (one : Taken). one.snapshot.front) o) (find_dropped caller other taken))
  where
    out : (b : Bool) → cond b None (option_map (λ (one : Taken). one.snapshot.front) (find (is_taken_by other) taken))
        ≡ option_map (λ (one : Taken). one.snapshot.front) (cond b None (find (is_taken_by other) taken))
    out true = refl
    out false = refl

-- the snapshots that stay are some of those that were
pub others_stay : (P : Taken → Type 0) (caller : List ℕ) (taken : List Taken) → All P taken → All P (taken_by_others caller taken)
others_stay P caller [] all = all
others_stay P caller (one ∷ taken) all = on (not (is_taken_by caller one)) (others_stay P caller taken (All-tail P one taken all))
  where
    on : (b : Bool) → All P (taken_by_others caller taken) → All P (cond b (one ∷ taken_by_others caller taken) (taken_by_others caller taken))
    on true rest = All-cons P one (taken_by_others caller taken) (All-head P one taken all) rest
    on false rest = rest

-- calls on their way

same_number : (t : ℕ) → (t == t) ≡ true
same_number t = let same : nat_eq t t ≡ true = eq-eqb t t refl in same

other_number : (a b : ℕ) → a ≢ b → (a == b) ≡ false
other_number a b differ = on (nat_eq a b) refl
  where
    on : (x : Bool) → nat_eq a b ≡ x → nat_eq a b ≡ false
    on true e = absurd (differ (eqb-true a b e))
    on false e = e

-- a waiting call is the first of its number
waiting_first : (waiting : List Waiting) (place : ℕ) (it : Waiting) → AreWaitingApart waiting → slice_get waiting place ≡ Some it → find (λ (one : Waiting). one.t == it.t) waiting ≡ Some it
waiting_first [] place it apart there = absurd (none-some it there)
waiting_first (one ∷ later) zero it apart there =
    let same : one ≡ it = same_Some one it there in
    ap (λ (b : Bool). cond b (Some one) (find (λ (x : Waiting). x.t == it.t) later)) (ap (λ (x : Waiting). x.t == it.t) same ∙ same_number it.t) ∙ ap (λ (x : Waiting). Some x) same
waiting_first (one ∷ later) (suc place) it apart there =
    let differ : one.t ≢ it.t = (All-at (λ (other : Waiting). (one.t ≢ other.t) × (one.call.caller ≢ other.call.caller)) later place it apart.0 there).0 in
    ap (λ (b : Bool). cond b (Some one) (find (λ (x : Waiting). x.t == it.t) later)) (other_number one.t it.t differ) ∙ waiting_first later place it apart.1 there

none_waits : (waiting : List Waiting) (t : ℕ) → All (λ one. one.t ≢ t) waiting → find (λ (one : Waiting). one.t == t) waiting ≡ None
none_waits [] t all = refl
none_waits (one ∷ later) t all =
    ap (λ (b : Bool). cond b (Some one) (find (λ (x : Waiting). x.t == t) later)) (other_number one.t t (All-head (λ (x : Waiting). x.t ≢ t) one later all))
    ∙ none_waits later t (All-tail (λ (x : Waiting). x.t ≢ t) one later all)

-- one under way is the first of its number, where no two have one
active_first : (active : List Transaction) (place : ℕ) (it : Transaction) → slice_get active place ≡ Some it → AreOnce (numbers_of active)
    → find (λ (one : Transaction). one.t == it.t) active ≡ Some it
active_first [] place it there once = absurd (none-some it there)
active_first (one ∷ later) zero it there once =
    let same : one ≡ it = same_Some one it there in
    ap (λ (b : Bool). cond b (Some one) (find (λ (x : Transaction). x.t == it.t) later)) (ap (λ (x : Transaction). x.t == it.t) same ∙ same_number it.t) ∙ ap (λ (x : Transaction). Some x) same
active_first (one ∷ later) (suc place) it there once =
    let number : Transaction → ℕ = λ x. x.t in
    let differ : one.t ≢ it.t = All-at (λ (other : ℕ). one.t ≢ other) (numbers_of later) place it.t once.0 (slice_get-map number later place ∙ ap (option_map number) there) in
    ap (λ (b : Bool). cond b (Some one) (find (λ (x : Transaction). x.t == it.t) later)) (other_number one.t it.t differ) ∙ active_first later place it there once.1

module _ {D : Type 0} (here : Setting D) (seen : Seen D) (hub : Hub (Stopping D)) (own : IsWorldOf here seen hub) where
  -- the call that waits under a number
  pub waiting_call : (place : ℕ) (it : Waiting) → slice_get hub.waiting place ≡ Some it → call_under seen it.t ≡ Some it.call
  waiting_call place it there =
      ap (λ (o : Option HubState). option_map_or (λ (h : HubState). call_on_way h it.t) o None) own.is
      ∙ ap (λ (o : Option Waiting). option_map_or (λ (one : Waiting). Some one.call) o (option_map (λ (one : Transaction). one.call) (find (λ (one : Transaction). one.t == it.t) hub.active)))
      (waiting_first hub.waiting place it own.sound.kept.waiting_apart there)

  -- and the call under way
  pub active_call : AreNumbered seen.hub seen.journal.synced → (place : ℕ) (it : Transaction) → slice_get hub.active place ≡ Some it → is_preparing it.phase ≡ true → call_under seen it.t ≡ Some it.call
  active_call numbered place it there preparing =
      let under : AreNumbered (Some (record_of hub)) seen.journal.synced = subst (λ (h : Option HubState). AreNumbered h seen.journal.synced) own.is numbered in
      let intent = (own.sound.kept.intents place it there preparing).undecided.0 in
      let unnamed : All (λ one. one.t ≢ it.t) hub.waiting = All-weaker (λ (one : Waiting). IsUnnamed seen.journal.synced one.t) (λ (one : Waiting). one.t ≢ it.t)
      (λ one free same. All-contains (λ (e : Entry). number_of e ≡ one.t → ⊥) seen.journal.synced (entry.Intent it.t intent.0 intent.1) free intent.2 (sym same)) hub.waiting own.sound.kept.unused in
      ap (λ (o : Option HubState). option_map_or (λ (h : HubState). call_on_way h it.t) o None) own.is
      ∙ ap (λ (o : Option Waiting). option_map_or (λ (one : Waiting). Some one.call) o (option_map (λ (one : Transaction). one.call) (find (λ (one : Transaction). one.t == it.t) hub.active)))
      (none_waits hub.waiting it.t unnamed)
      ∙ ap (λ (o : Option Transaction). option_map (λ (one : Transaction). one.call) o) (active_first hub.active place it there under.0)

-- what a call of the hub that gave an answer is in the world

module _ {D : Type 0} (here : Setting D) (carried : RunsAreCarried here) (seen : Seen D) (old middle new : Scene D) (hub behind : Hub (Stopping D))
    (is : IsSeenAs here seen old) (same_limit : middle.limit ≡ old.limit) (same_links : middle.links ≡ old.links) (same_snapshots : middle.snapshots ≡ old.snapshots)
    (same_events : middle.events.items.items ≡ old.events.items.items) (at : middle.place ≡ Up behind) (decls : behind.decls ≡ here.decls)
    (caller : List ℕ) (number : ℕ) (given : Answer) (told : Event) (before after : List ℕ) (one : Part) (called : IsCalledFor here seen one)
    (line : (turn : Turn D) → turn.before ≡ seen → said here.decls.names step.Settle turn (Some told) ≡ answer_line here.decls.names caller number given) where
  abbrev pub OneOrEnd : Result (Unit {0}) WorldStop → Type 0
  OneOrEnd result = MatchResult result (λ value. DoesTurn here seen old new before after one) (λ why. MayEndTurn here seen old new before after one why)

  -- the line of the answer is what is said of its event
  said_line : (turn : Turn D) → turn.before ≡ seen → turn.seen ≡ Some told → after ≡ before ++ answer_line here.decls.names caller number given
      → after ≡ before ++ told_in here.decls (turn ∷ [])
  said_line turn first is_told printed =
      let words : said here.decls.names step.Settle turn turn.seen ≡ answer_line here.decls.names caller number given =
      ap (λ (o : Option Event). said here.decls.names step.Settle turn o) is_told ∙ line turn first in
      printed ∙ ap (λ (text : List ℕ). before ++ text) (sym words ∙ sym (append-nil (said here.decls.names step.Settle turn turn.seen)))

  -- The answer was given, and the world goes on, unless there is no memory for its line.
  pub given_turn : (stays : SnapshotStaysAtFront) (up : old.place ≡ Up hub) (more : List Call) (grew : behind.state.history ≡ hub.state.history ++ more)
      (went : GoesOnUnder here seen (world_answered caller behind seen) told behind) → IsOf one told
      → ((device : ℕ) (turn : Turn D) → operation_of device turn (Some told) ≡ []) → AnswersCaller middle caller told new
      → (result : Result (Unit {0}) WorldStop) → OnOk result (after ≡ before ++ answer_line here.decls.names caller number given)
      → IfErr result (λ why. (why ≡ stop.Memory) × (after ≡ before)) → OneOrEnd result
  given_turn stays up more grew went is_of quiet answers (Ok value) said_ok said_err =
      let kept : new.snapshots.taken ≡ taken_by_others caller old.snapshots.taken = answers.taken ∙ ap (λ (s : Snapshots). taken_by_others caller s.taken) same_snapshots in
      let turn : Turn D = record { before = seen; meant = told; seen = Some told; behind = with_journal went.journal (world_answered caller behind seen) } in
      hub_turn_done here carried seen (world_answered caller behind seen) told old new hub behind is up went refl refl
      (λ other. fronts_dropped caller other old.snapshots.taken seen.snapshots (is.snapshots other) ∙ ap (λ (taken : List Taken). fronts_of taken other) (sym kept))
      (subst (λ (taken : List Taken). All (λ one. IsSnapshotAt here.decls (history_read went.journal) one.snapshot) taken) (sym kept)
      (others_stay (λ one. IsSnapshotAt here.decls (history_read went.journal) one.snapshot) caller old.snapshots.taken
      (fronts_behind here stays seen (world_answered caller behind seen) told hub behind (under_hub here seen old hub is up) went more grew old.snapshots.taken is.fronts)))
      (answers.limit ∙ same_limit) (answers.place ∙ at) (answers.links ∙ same_links) before after one is_of called
      (λ device. ap (λ (rows : List Logged). rows ++ []) (quiet device turn))
      (answers.events ∙ ap (λ (es : List Event). es ++ told ∷ []) same_events)
      (said_line turn refl refl said_ok)
  given_turn stays up more grew went is_of quiet answers (Err why) said_ok said_err =
      let turn : Turn D = record { before = seen; meant = told; seen = Some told; behind = with_journal went.journal (world_answered caller behind seen) } in
      inl (record {
        turn = turn;
        first = refl;
        is_of = is_of;
        called = called;
        comes = went.comes;
        because = subst (λ (w : WorldStop). EndedBecause here (turn ∷ []) (end_of_run w)) (sym said_err.0) tt;
        ended = record {
          disk = subst (λ (p : Place D). HasDisk p went.journal.disk) (sym (answers.place ∙ at)) (sym (ap (λ j. j.disk) went.is.journal));
          events = answers.events ∙ ap (λ (es : List Event). es ++ told ∷ []) same_events;
          at_last = at_last_one here turn;
        };
        prints = last_untold here.decls why before after turn said_err.0 said_err.1;
      })

  -- An append of it failed: the stop came, and the world goes on, or the run ends.
  pub stopped_turn : (meant : Event) → IsOf one meant → GoesDown here seen (stopped seen) meant (Some event.Stop) behind → Stops middle new
      → (result : Result (Unit {0}) WorldStop) → OnOk result (after ≡ before ++ codes "stopped\n")
      → IfErr result (λ why. (why ≡ stop.Memory) × (after ≡ before)) → OneOrEnd result
  stopped_turn meant is_of gone stops (Ok value) said_ok said_err =
      stop_done here carried seen meant old middle new behind is gone same_limit same_links same_events at decls stops before after one is_of called
      (said_ok ∙ ap (λ (text : List ℕ). before ++ text) (sym (append-nil (codes "stopped\n"))))
  stopped_turn meant is_of gone stops (Err why) said_ok said_err =
      inl (subst (λ (w : WorldStop). EndsTurn here seen old new before after one w) (sym said_err.0)
      (stop_unsaid here carried seen meant old middle new behind is gone same_limit same_links same_events at decls stops before after one is_of called said_err.1))

  -- the disk failed, and the run ends
  pub failed_turn : (meant : Event) → IsOf one meant → seen_failing meant ≡ Some told → GoesDown here seen (without_hub seen) meant (seen_failing meant) behind
      → Rose (here.disk.faults seen.journal.disk) (here.disk.faults behind.log.journal.disk.inner) → LetsGoWith middle new (told ∷ [])
      → (result : Result (Unit {0}) WorldStop)
      → IfErr result (λ why. ((why ≡ stop.JournalFault) × (after ≡ before ++ answer_line here.decls.names caller number given)) ⊎ ((why ≡ stop.Memory) × (after ≡ before)))
      → OnOk result ⊥ → OneOrEnd result
  failed_turn meant is_of failing gone rose let_go (Ok value) said_err said_ok = absurd said_ok
  failed_turn meant is_of failing gone rose let_go (Err why) said_err said_ok = on said_err
    where
      turn : Turn D
      turn = record { before = seen; meant = meant; seen = seen_failing meant; behind = with_journal gone.journal (without_hub seen) }

      place_after : new.place ≡ Down behind.log.journal.disk.inner behind.decls
      place_after = let_go.place ∙ ap (λ (p : Place D). place_without p) at

      events_after : new.events.items.items ≡ old.events.items.items ++ event_list (seen_failing meant)
      events_after = let_go.events_are ∙ ap (λ (es : List Event). es ++ told ∷ []) same_events
          ∙ ap (λ (o : Option Event). old.events.items.items ++ event_list o) (sym failing)

      on : ((why ≡ stop.JournalFault) × (after ≡ before ++ answer_line here.decls.names caller number given)) ⊎ ((why ≡ stop.Memory) × (after ≡ before))
          → MayEndTurn here seen old new before after one why
      on (inl fault) = inl (ends_failed here seen meant old new behind place_after why gone
          (subst (λ (w : WorldStop). EndedBecause here (turn ∷ []) (end_of_run w)) (sym fault.0) (fault_because here seen meant old new behind place_after gone rose))
          before after one is_of called events_after (all_told here.decls why before after (turn ∷ []) (said_line turn refl failing fault.1)))
      on (inr wanting) = inl (ends_failed here seen meant old new behind place_after why gone
          (subst (λ (w : WorldStop). EndedBecause here (turn ∷ []) (end_of_run w)) (sym wanting.0) tt)
          before after one is_of called events_after (last_untold here.decls why before after turn wanting.0 wanting.1))
