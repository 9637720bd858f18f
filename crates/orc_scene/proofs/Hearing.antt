-- An operation came on a device, and the hub heard of it.
use Rattle.std.proofs.Common.{[], ◌≡◌, ◌<◌, ◌⊎◌, inl, inr, nat_eq, ℕ, zero, suc, Bool, true, false, Option, Some, None, List, ◌∷◌, ◌++◌, All, length, refl, sym, ap, subst, ◌∙◌, append-nil, append_assoc, eq-eqb, arith}
use Rattle.std.specs.Prelude.{◌==◌, IsTrue, MatchOption, slice_get, if◌then◌else◌}
use Rattle.std.specs.Option.{option_map, option_map_or}
use Rattle.std.proofs.lemmas.Bool.{false≢true}
use Rattle.std.proofs.lemmas.Option.{none-some}
use Rattle.orc_call.specs.declared.call.Call.{Call}
use Rattle.orc_device.specs.Links.{Way, link_fails, is_stranded, way_reply, way_session}
use Rattle.orc_device.specs.Listings.{kind_of_op, listed_when, without_first}
use Rattle.orc_device.specs.Nodes.{DeviceKind, NodeState, op_refusal}
use Rattle.orc_device.specs.Operations.{mark_of}
use Rattle.orc_device.specs.declared.kind.OpKind.{OpKind}
use Rattle.orc_device.specs.declared.kind.OpKind.TheVariants as kind
use Rattle.orc_device.specs.declared.op.Op.{Op}
use Rattle.orc_device.specs.declared.op.Op.TheVariants as op
use Rattle.orc_device.specs.declared.reply.Logged.{Logged}
use Rattle.orc_device.specs.declared.reply.Mark.{Mark}
use Rattle.orc_device.specs.declared.reply.Mark.TheVariants as mark
use Rattle.orc_device.specs.declared.reply.Reply.{Reply}
use Rattle.orc_device.specs.declared.reply.Reply.TheVariants as reply
use Rattle.orc_disk.specs.Meanings.{DiskMeaning}
use Rattle.orc_disk.specs.Stops.{Stopping}
use Rattle.orc_hub.specs.Hubs.{record_of, with_record}
use Rattle.orc_hub.specs.Orders.{is_awaited}
use Rattle.orc_hub.specs.declared.hub.Hub.{Hub}
use Rattle.orc_hub_laws.specs.Turns.{OrderIsPerformed, OrderIsUnsent, ReportIsEvent, world_heard}
use Rattle.orc_hub_laws.specs.Under.{GoesOnUnder, IsWorldOf, with_journal}
use Rattle.orc_links.specs.Logs.{PerformsLogged, logged_as, noted_on, with_line}
use Rattle.orc_links.specs.Networks.{AreLinksOf, heard_link, link_states, node_states}
use Rattle.orc_links.specs.declared.links.Links.{Links}
use Rattle.orc_node.specs.LinkStates.{LinkState, counted, due_way, link_kind, listed_way}
use Rattle.orc_recover.specs.Menders.{differences, is_mending, mend_order}
use Rattle.orc_recover.specs.declared.stage.MendStage.{MendStage}
use Rattle.orc_recover.specs.declared.stage.MendStage.TheVariants as mend_stage
use Rattle.orc_path.specs.Configurations.{Config}
use Rattle.orc_tree.specs.declared.change.ChangeSet.{ChangeSet}
use Rattle.orc_rules.specs.Acceptance.{declared_kind}
use Rattle.orc_rules.specs.Cells.{updated_at}
use Rattle.orc_rules.specs.Duties.{duty_order, is_busy}
use Rattle.orc_rules.specs.Events.{Turn, link_behind, performed, unsent, way_due}
use Rattle.orc_rules.specs.Hubs.{Hub as HubState, due_on, hub_reported, order_on}
use Rattle.orc_rules.specs.Journals.{history_read}
use Rattle.orc_rules.specs.Worlds.{Link, Setting, World as Seen, unheard_of}
use Rattle.orc_rules.specs.declared.duty.Duty.{Duty}
use Rattle.orc_rules.specs.declared.duty.Duty.TheVariants as duty
use Rattle.orc_rules.specs.declared.event.Event.{Event}
use Rattle.orc_rules.specs.declared.event.Event.TheVariants as event
use Rattle.orc_rules.proofs.Courses.{order_due}
use Rattle.orc_rules.proofs.Moving.{due_is}
use Rattle.orc_rules.proofs.Recording.{either, given_at}
use Rattle.orc_rules.proofs.Reporting.{get_changed, get_other}
use Rattle.orc_rules.proofs.Slots.{changed_length}
use Rattle.orc_runs.specs.Laws.{RunsAreCarried}
use Rattle.orc_runs.specs.Runs.{EndsRun, operation_of, operation_with}
use Rattle.orc_runs.specs.Scripts.{IsOf, Part as part}
use Rattle.orc_state.specs.States.{IsSnapshotAt}
use Rattle.orc_scene.specs.Effects.{hub_in}
use Rattle.orc_scene.specs.inside.Effects.{HearsReply}
use Rattle.orc_scene.specs.Courses.{DoesOperation, HasEvents}
use Rattle.orc_scene.specs.Snapshots.{fronts_of}
use Rattle.orc_scene.specs.Stands.{IsCarried, IsPlaceSeenAs, IsSeenAs, IsSoundScene, run_setting}
use Rattle.orc_scene.specs.declared.snapshots.Snapshots.{Snapshots}
use Rattle.orc_scene.specs.declared.scene.Place.{Place}
use Rattle.orc_scene.specs.declared.scene.Place.TheVariants.{Up, Down, Ended, Moved}
use Rattle.orc_scene.specs.declared.scene.Scene.{Scene}
use Rattle.orc_scene.proofs.Carrying.{carried_on}
use Rattle.orc_scene.proofs.Histories.{history_seen}
use Rattle.orc_scene.proofs.Allowed.{links_long}
use Rattle.orc_scene.proofs.HubTurns.{unused_there}
use Rattle.orc_scene.proofs.Numbering.{numbered_on}
use Rattle.orc_scene.proofs.Operating.{accepts_after, kind_is, link_is, link_seen, links_after, may_happen, node_is, nodes_after, updated_twice}
use Rattle.orc_scene.proofs.Seeing.{updated_same}

up_same : {D : Type 0} (one other : Hub (Stopping D)) → ◌≡◌ {A = Place D} (Up one) (Up other) → one ≡ other
up_same one other same = cc

module _ {D : Type 0} (here : Setting D) (carried : RunsAreCarried here) (reported : ReportIsEvent here) (seen next : Seen D) (old new : Scene D) (hub : Hub (Stopping D))
    (device : ℕ) (one : Event) (kind : OpKind) (reply : Reply) (faults : ℕ)
    (is : IsSeenAs here seen old) (up : old.place ≡ Up hub) (went : GoesOnUnder here seen next one hub)
    (unheard : (next.links device).unheard ≡ Some (kind, reply)) (count : faults ≡ (next.links device).faults)
    (place : new.place ≡ Up (with_record hub (hub_reported device reply faults (record_of hub))))
    (links : updated_at next.links device (unheard_of (next.links device)) ≡ link_states new.links.links) where
  -- the rules see this before the hub hears of it
  abbrev seen_between : Seen D
  seen_between = with_journal went.journal next

  -- the hub that has heard of it
  abbrev hub_behind : Hub (Stopping D)
  hub_behind = with_record hub (hub_reported device reply (next.links device).faults (record_of hub))

  abbrev hearing_event : Event
  hearing_event = event.Report device kind (mark_of reply) (next.links device).faults

  pub hearing : GoesOnUnder here seen_between (world_heard device hub_behind seen_between) hearing_event hub_behind
  hearing = reported seen_between hub hub_behind device kind reply went.is unheard refl

  -- the world once the reply was heard
  abbrev seen_behind : Seen D
  seen_behind = with_journal hearing.journal (world_heard device hub_behind seen_between)

  under : IsWorldOf here seen hub
  under = subst (IsPlaceSeenAs here seen) up is.place

  place_is : new.place ≡ Up hub_behind
  place_is = place ∙ ap {B = Place D} (λ (n : ℕ). Up (with_record hub (hub_reported device reply n (record_of hub)))) count

  kept_middle : IsCarried here seen_between
  kept_middle = carried_on here carried seen seen_between one (Some one) is.kept went.comes

  same_history : history_read seen.journal ≡ history_read hearing.journal
  same_history = history_seen here seen hub under ∙ sym (history_seen here seen_behind hub_behind hearing.is)

  seen_last : new.limit ≡ old.limit → next.snapshots ≡ seen.snapshots → new.snapshots ≡ old.snapshots → next.nodes ≡ node_states new.links.links
      → AreLinksOf here.decls new.links.links → length new.links.logs ≡ length here.decls.names → IsSeenAs here seen_behind new
  seen_last limit fronts taken nodes accepts long = record {
    decls = is.decls;
    short = is.short;
    limit = (limit ∙ is.limit.0, is.limit.1);
    place = subst (IsPlaceSeenAs here seen_behind) (sym place_is) hearing.is;
    snapshots = λ caller. ap {B = Option ℕ} (λ (f : List ℕ → Option ℕ). f caller) fronts ∙ is.snapshots caller ∙ ap (λ (s : Snapshots). fronts_of s.taken caller) (sym taken);
    fronts = subst (λ (s : Snapshots). All (λ it. IsSnapshotAt here.decls (history_read hearing.journal) it.snapshot) s.taken) (sym taken)
        (subst (λ (history : List Call). All (λ it. IsSnapshotAt here.decls history it.snapshot) old.snapshots.taken) same_history is.fronts);
    nodes = nodes;
    links = links;
    accepts = accepts;
    logs = long;
    numbered = numbered_on here seen_between hearing_event (Some hearing_event) seen_behind hearing.comes (unused_there here seen_between hub went.is)
        (numbered_on here seen one (Some one) seen_between went.comes (unused_there here seen hub under) is.numbered);
    kept = carried_on here carried seen_between seen_behind hearing_event (Some hearing_event) kept_middle hearing.comes;
  }

  abbrev first_turn : Turn D
  first_turn = record { before = seen; meant = one; seen = Some one; behind = seen_between }

  abbrev second_turn : Turn D
  second_turn = record { before = seen_between; meant = hearing_event; seen = Some hearing_event; behind = seen_behind }

  first_on : EndsRun first_turn → ⊥
  first_on (inl none) = none-some one (sym none)
  first_on (inr ends) = none-some (record_of hub) (sym ends.2 ∙ went.is.is)

  second_on : EndsRun second_turn → ⊥
  second_on (inl none) = none-some hearing_event (sym none)
  second_on (inr ends) = none-some (record_of hub_behind) (sym ends.2 ∙ hearing.is.is)

  -- the operation came, and the hub heard of it
  pub operation_done : IsSeenAs here seen_behind new → new.limit ≡ old.limit → IsOf (part.Operation device) one
      → new.events.items.items ≡ (old.events.items.items ++ one ∷ []) ++ event.Report device kind (mark_of reply) faults ∷ []
      → ((other : ℕ) (turn : Turn D) → turn.before ≡ seen → noted_on new.links.logs other ≡ noted_on old.links.logs other ++ operation_of other turn (Some one))
      → DoesOperation here seen old new [] [] device
  operation_done after limit is_of events logs = record {
    turn = first_turn;
    first = refl;
    is_of = is_of;
    comes = went.comes;
    hearing = second_turn;
    second = refl;
    hears = refl;
    heard = hearing.comes;
    through = record {
      is = after;
      limit = limit;
      events = events ∙ append_assoc old.events.items.items (one ∷ []) (event.Report device kind (mark_of reply) faults ∷ [])
          ∙ ap (λ (n : ℕ). old.events.items.items ++ one ∷ event.Report device kind (mark_of reply) n ∷ []) count;
      logs = λ other. logs other first_turn refl ∙ ap (λ (rows : List Logged). noted_on old.links.logs other ++ rows) (sym (append-nil (operation_of other first_turn (Some one))));
      goes_on = (first_on, (second_on, tt));
    };
    printed = refl;
  }

-- the log of a device

-- one element there
pub there_is : {X : Type 0} (xs : List X) (i : ℕ) → i < length xs → (x : X) × (slice_get xs i ≡ Some x)
there_is [] i within = absurd (omega arith)
there_is (x ∷ xs) zero within = (x, refl)
there_is (x ∷ xs) (suc i) within = there_is xs i (omega arith)

-- an operation on a device is noted in its log, and in no other
noted_more : (logs : List (List Logged)) (device other : ℕ) (line : Logged) (ordered : ℕ → List Logged) → device < length logs → ordered device ≡ line ∷ []
    → noted_on (with_line device line logs) other ≡ noted_on logs other ++ (if device == other then ordered other else [])
noted_more logs device other line ordered within is = on other (either device other)
  where
    more : List Logged → List Logged
    more log = log ++ line ∷ []

    same_there : (o : Option (List Logged)) (log : List Logged) → o ≡ Some log → option_map_or (λ log. log) (option_map more o) [] ≡ option_map_or (λ log. log) o [] ++ line ∷ []
    same_there None log e = absurd cc
    same_there (Some rows) log e = refl

    mine : noted_on (with_line device line logs) device ≡ noted_on logs device ++ line ∷ []
    mine = let found = there_is logs device within in
        ap (λ (o : Option (List Logged)). option_map_or (λ log. log) o []) (get_changed more device logs) ∙ same_there (slice_get logs device) found.0 found.1

    on : (other : ℕ) → (device ≡ other) ⊎ (nat_eq device other ≡ false)
        → noted_on (with_line device line logs) other ≡ noted_on logs other ++ (if device == other then ordered other else [])
    on other (inl same) = subst (λ (at : ℕ). noted_on (with_line device line logs) at ≡ noted_on logs at ++ (if device == at then ordered at else [])) same
        (mine ∙ ap (λ (rows : List Logged). noted_on logs device ++ rows) (sym is)
        ∙ ap (λ (b : Bool). noted_on logs device ++ (if b then ordered device else [])) (sym (let same : nat_eq device device ≡ true = eq-eqb device device refl in same)))
    on other (inr apart) =
        ap (λ (o : Option (List Logged)). option_map_or (λ log. log) o []) (get_other more device other logs (λ e. false≢true (sym apart ∙ eq-eqb device other e)))
        ∙ sym (append-nil (noted_on logs other))
        ∙ ap (λ (b : Bool). noted_on logs other ++ (if b then ordered other else [])) (sym (let is_apart : nat_eq device other ≡ false = apart in is_apart))

-- what is ordered

mends_busy : (between : Config → Config → ChangeSet) (left : List (ℕ × Bool)) (due : Config) (stage : MendStage) (op : Op) → mend_order between left due stage ≡ Some op → is_mending stage ≡ true
mends_busy between left due mend_stage.Over op e = cc
mends_busy between left due stage op e = refl

busy_of_order : (on : Duty) (op : Op) → duty_order on ≡ Some op → is_busy on ≡ true
busy_of_order duty.Free op e = absurd (none-some op e)
busy_of_order (duty.Works worker) op e = (order_due worker.t worker.set worker.stage op e).0
busy_of_order (duty.Mends mender) op e = mends_busy differences mender.left mender.due mender.stage op e

-- the reply of a device with an operation due is awaited
awaited_of_due : (hub : HubState) (device : ℕ) (op : Op) → due_on hub device ≡ Some op → IsTrue (is_awaited hub device)
awaited_of_due hub device op due = on (slice_get hub.duties device) (due_is hub device op due)
  where
    on : (o : Option Duty) → option_map_or duty_order o None ≡ Some op → option_map_or is_busy o false ≡ true
    on None e = absurd (none-some op e)
    on (Some it) e = busy_of_order it op e

-- as many duties and causes as declared devices
duties_within : {D : Type 0} (here : Setting D) (seen : Seen D) (hub : Hub (Stopping D)) (device : ℕ) → IsWorldOf here seen hub → device < length here.decls.names
    → (device < length hub.duties) × (device < length hub.stale)
duties_within here seen hub device is within =
    let named : length hub.decls.names ≡ length here.decls.names = ap (λ d. length d.names) is.decls in
    let duties : length hub.duties ≡ length hub.decls.names = is.sound.duties in
    let stale : length hub.stale ≡ length hub.decls.names = is.sound.stale in
    (omega (arith, named, duties, within), omega (arith, named, stale, within))

-- no reply is unheard on the link of a device
pub heard_there : {D : Type 0} (here : Setting D) (seen : Seen D) (old : Scene D) (device : ℕ) → IsSeenAs here seen old → device < length old.links.links → (seen.links device).unheard ≡ None
heard_there here seen old device is within = let found = there_is old.links.links device within in
    ap {B = Option (OpKind × Reply)} (λ (f : ℕ → Link). (f device).unheard) is.links ∙ ap (λ (l : Link). l.unheard) (link_seen old.links.links device found.0 found.1)

-- what is so where an operation of a device is due under a hub that is up
module _ {D : Type 0} (here : Setting D) (seen : Seen D) (old : Scene D) (hub : Hub (Stopping D)) (device : ℕ)
    (is : IsSeenAs here seen old) (up : old.place ≡ Up hub) (within : device < length old.links.links) where
  pub hub_seen : IsWorldOf here seen hub
  hub_seen = subst (IsPlaceSeenAs here seen) up is.place

  pub log_within : device < length old.links.logs
  log_within = subst (λ (n : ℕ). device < n) (links_long here seen old is ∙ sym is.logs) within

  pub declared_within : device < length here.decls.names
  declared_within = subst (λ (n : ℕ). device < n) (links_long here seen old is) within

  -- the hub may hear of it
  pub awaits : (op : Op) → due_on (record_of hub) device ≡ Some op → IsTrue (is_awaited (record_of hub) device) × (device < length hub.duties) × (device < length hub.stale)
  awaits op due = let within = duties_within here seen hub device hub_seen declared_within in (awaited_of_due (record_of hub) device op due, within.0, within.1)

-- the hub that is up, of which this is so
pub hub_there : {D : Type 0} (place : Place D) (P : Hub (Stopping D) → Type 0) → MatchOption (hub_in place) ⊥ P → (hub : Hub (Stopping D)) × (place ≡ Up hub) × P hub
hub_there (Up hub) P is = (hub, refl, is)
hub_there (Down disk decls) P is = absurd is
hub_there (Ended disk) P is = absurd is
hub_there Moved P is = absurd is

-- there is a log for each link
pub logs_within : {D : Type 0} (disk : DiskMeaning D) (old : Scene D) (device : ℕ) → IsSoundScene disk old → device < length old.links.links → device < length old.links.logs
logs_within disk old device sound within =
    subst (λ (n : ℕ). device < n) (links_long (run_setting disk sound.0 old.limit sound.1) sound.2 old sound.3 ∙ sym sound.3.logs) within

-- there are as many links after an operation as before
pub performed_within : (links after : List LinkState) (logs logs_after : List (List Logged)) (device : ℕ) (op : Op) (reply : Reply) → PerformsLogged links logs device op reply after logs_after
    → device < length links → device < length after
performed_within links after logs logs_after device op reply did within =
    subst (λ (n : ℕ). device < n) (sym (ap (λ (l : List LinkState). length l) did.links_are ∙ changed_length (λ (one : LinkState). did.after) device links)) within

-- the hub may hear of what is due
pub awaited_there : {D : Type 0} (disk : DiskMeaning D) (old : Scene D) (place : Place D) (device : ℕ) (op : Op) → IsSoundScene disk old → device < length old.links.links
    → (hub : Hub (Stopping D)) × (old.place ≡ Up hub) × (due_on (record_of hub) device ≡ Some op) → place ≡ old.place
    → MatchOption (hub_in place) ⊥ (λ hub. IsTrue (is_awaited (record_of hub) device) × (device < length hub.duties) × (device < length hub.stale))
awaited_there {D} disk old place device op sound within due same =
    subst (λ (p : Place D). MatchOption (hub_in p) ⊥ (λ hub. IsTrue (is_awaited (record_of hub) device) × (device < length hub.duties) × (device < length hub.stale))) (sym (same ∙ due.1))
    (awaits (run_setting disk sound.0 old.limit sound.1) sound.2 old due.0 device sound.3 due.1 within op due.2)

-- An operation was performed, and the hub heard of it.
module _ {D : Type 0} (here : Setting D) (carried : RunsAreCarried here) (performs : OrderIsPerformed here) (reported : ReportIsEvent here)
    (kinds : (device : ℕ) → here.kinds device ≡ declared_kind here.decls device)
    (seen : Seen D) (old middle new : Scene D) (links : Links) (hub : Hub (Stopping D)) (device : ℕ) (op : Op) (reply : Reply) (faults : ℕ)
    (is : IsSeenAs here seen old) (up : old.place ≡ Up hub) (within : device < length old.links.links) (due : due_on (record_of hub) device ≡ Some op)
    (did : PerformsLogged old.links.links old.links.logs device op reply links.links links.logs)
    (count : MatchOption (slice_get links.links device) ⊥ (λ link. faults ≡ link.faults))
    (sort : OpKind) (word : Mark) (sort_is : sort ≡ kind_of_op op) (word_is : word ≡ mark_of reply)
    (kept_as : HasEvents (record old { links = links }) middle (old.events.items.items ++ event.Perform device sort word faults ∷ []))
    (heard_as : HearsReply middle device sort word reply faults new) where
  kept : HasEvents (record old { links = links }) middle (old.events.items.items ++ event.Perform device (kind_of_op op) (mark_of reply) faults ∷ [])
  kept = subst (λ (k : OpKind). HasEvents (record old { links = links }) middle (old.events.items.items ++ event.Perform device k (mark_of reply) faults ∷ [])) sort_is
      (subst (λ (m : Mark). HasEvents (record old { links = links }) middle (old.events.items.items ++ event.Perform device sort m faults ∷ [])) word_is kept_as)

  heard : HearsReply middle device (kind_of_op op) (mark_of reply) reply faults new
  heard = subst (λ (k : OpKind). HearsReply middle device k (mark_of reply) reply faults new) sort_is
      (subst (λ (m : Mark). HearsReply middle device sort m reply faults new) word_is heard_as)

  abbrev next_performed : Seen D
  next_performed = performed here seen device op did.performs.way

  abbrev event_performed : Event
  event_performed = event.Perform device (kind_of_op op) (mark_of reply) faults

  node_same : seen.nodes device ≡ did.link.node.state
  node_same = node_is here seen old is kinds device op reply links.links links.logs did

  link_same : seen.links device ≡ heard_link did.link
  link_same = link_is here seen old is kinds device op reply links.links links.logs did

  kind_same : here.kinds device ≡ link_kind did.link
  kind_same = kind_is here seen old is kinds device op reply links.links links.logs did

  way_same : way_due here seen device op ≡ due_way did.link op
  way_same =
      let made : DeviceKind → NodeState → Link → Way = λ kind state link.
      (if is_stranded state link.session op then Way.Stranded else listed_way (listed_when (kind_of_op op) link.listed) (op_refusal kind state link.session op)) in
      ap (λ (kind : DeviceKind). made kind (seen.nodes device) (seen.links device)) kind_same
      ∙ ap (λ (state : NodeState). made (link_kind did.link) state (seen.links device)) node_same
      ∙ ap (λ (link : Link). made (link_kind did.link) did.link.node.state link) link_same

  happens : (did.performs.way ≡ way_due here seen device op) ⊎ (did.performs.way ≡ Way.NoMemory)
  happens = elim did.performs.due [
    | inl is_due ↦ inl (is_due ∙ sym way_same)
    | inr none ↦ inr none
  ]

  reply_same : way_reply (seen.nodes device) op did.performs.way ≡ reply
  reply_same = ap (λ (state : NodeState). way_reply state op did.performs.way) node_same ∙ sym did.performs.answered

  link_next : next_performed.links device ≡ link_behind (without_first (kind_of_op op) (seen.links device).listed) (seen.links device)
      (way_session (seen.nodes device) (seen.links device).session op did.performs.way) op did.performs.way (way_reply (seen.nodes device) op did.performs.way)
  link_next = given_at seen.links device (link_behind (without_first (kind_of_op op) (seen.links device).listed) (seen.links device)
      (way_session (seen.nodes device) (seen.links device).session op did.performs.way) op did.performs.way (way_reply (seen.nodes device) op did.performs.way))

  unheard_next : (next_performed.links device).unheard ≡ Some (kind_of_op op, reply)
  unheard_next = ap (λ (l : Link). l.unheard) link_next ∙ ap {B = Option (OpKind × Reply)} (λ (r : Reply). Some (kind_of_op op, r)) reply_same

  after_there : slice_get links.links device ≡ Some did.after
  after_there = ap (λ (ls : List LinkState). slice_get ls device) did.links_are ∙ get_changed (λ one. did.after) device old.links.links
      ∙ ap (option_map (λ (one : LinkState). did.after)) did.there

  faults_next : faults ≡ (next_performed.links device).faults
  faults_next =
      let counts : faults ≡ did.after.faults = subst (λ (o : Option LinkState). MatchOption o ⊥ (λ link. faults ≡ link.faults)) after_there count in
      let one_more : ℕ → ℕ = λ n. counted (link_fails did.performs.way) n in
      let led : did.after.faults ≡ one_more did.link.faults = ap (λ (l : LinkState). l.faults) did.performs.leads in
      let on_link : one_more did.link.faults ≡ one_more (seen.links device).faults = ap (λ (l : Link). one_more l.faults) (sym link_same) in
      let there : one_more (seen.links device).faults ≡ (next_performed.links device).faults = sym (ap (λ (l : Link). l.faults) link_next) in
      counts ∙ led ∙ on_link ∙ there

  came : GoesOnUnder here seen next_performed event_performed hub
  came = subst (λ (e : Event). GoesOnUnder here seen next_performed e hub)
      (ap (λ (r : Reply). event.Perform device (kind_of_op op) (mark_of r) (next_performed.links device).faults) reply_same
      ∙ ap (λ (n : ℕ). event.Perform device (kind_of_op op) (mark_of reply) n) (sym faults_next))
      (performs seen hub device op did.performs.way (hub_seen here seen old hub device is up within) due (heard_there here seen old device is within)
      (may_happen here seen old is kinds device op reply links.links links.logs did) happens)

  hub_same : heard.hub ≡ hub
  hub_same = up_same heard.hub hub (sym heard.was ∙ kept.place ∙ up)

  place_new : new.place ≡ Up (with_record hub (hub_reported device reply faults (record_of hub)))
  place_new = heard.place ∙ ap {B = Place D} (λ (h : Hub (Stopping D)). Up (with_record h (hub_reported device reply faults (record_of h)))) hub_same

  links_new : new.links ≡ links
  links_new = heard.links ∙ kept.links

  seen_links : updated_at next_performed.links device (unheard_of (next_performed.links device)) ≡ link_states new.links.links
  seen_links = links_after here seen old is kinds device op reply links.links links.logs did ∙ ap (λ (l : Links). link_states l.links) (sym links_new)

  noted : (other : ℕ) (turn : Turn D) → turn.before ≡ seen → noted_on new.links.logs other ≡ noted_on old.links.logs other ++ operation_of other turn (Some event_performed)
  noted other turn first =
      let ordered : ℕ → List Logged = λ at. operation_with at turn.before (mark_of reply) in
      let line : Op → List Logged = λ one. record { op = one; mark = mark_of reply } ∷ [] in
      let is_line : ordered device ≡ logged_as op reply ∷ [] =
      ap {B = List Logged} (λ (w : Seen D). operation_with device w (mark_of reply)) first
      ∙ ap (λ (o : Option HubState). option_map_or (λ (h : HubState). option_map_or line (order_on h device) []) o []) (hub_seen here seen old hub device is up within).is
      ∙ ap (λ (o : Option Op). option_map_or line o []) (due_is (record_of hub) device op due) in
      ap (λ (l : Links). noted_on l.logs other) links_new ∙ ap (λ (rows : List (List Logged)). noted_on rows other) did.logs_are
      ∙ noted_more old.links.logs device other (logged_as op reply) ordered (log_within here seen old hub device is up within) is_line

  pub performed_and_heard : DoesOperation here seen old new [] [] device
  performed_and_heard =
      operation_done here carried reported seen next_performed old new hub device event_performed (kind_of_op op) reply faults is up came unheard_next faults_next place_new seen_links
      (seen_last here carried reported seen next_performed old new hub device event_performed (kind_of_op op) reply faults is up came unheard_next faults_next place_new seen_links
      (heard.limit ∙ kept.limit) refl (heard.snapshots ∙ kept.snapshots)
      (nodes_after here seen old is kinds device op reply links.links links.logs did ∙ ap (λ (l : Links). node_states l.links) (sym links_new))
      (subst (λ (l : Links). AreLinksOf here.decls l.links) (sym links_new) (accepts_after here seen old is kinds device op reply links.links links.logs did))
      (ap (λ (l : Links). length l.logs) links_new ∙ ap (λ (rows : List (List Logged)). length rows) did.logs_are
      ∙ changed_length (λ (log : List Logged). log ++ logged_as op reply ∷ []) device old.links.logs ∙ is.logs))
      (heard.limit ∙ kept.limit) refl (heard.events ∙ ap (λ (es : List Event). es ++ event.Report device (kind_of_op op) (mark_of reply) faults ∷ []) kept.events_are) noted

-- An edit wasn't sent, and the hub heard that memory ran out.
module _ {D : Type 0} (here : Setting D) (carried : RunsAreCarried here) (leaves : OrderIsUnsent here) (reported : ReportIsEvent here)
    (seen : Seen D) (old middle new : Scene D) (hub : Hub (Stopping D)) (device : ℕ) (changes : ChangeSet) (faults : ℕ)
    (is : IsSeenAs here seen old) (up : old.place ≡ Up hub) (within : device < length old.links.links) (due : due_on (record_of hub) device ≡ Some (op.Edit changes))
    (count : MatchOption (slice_get old.links.links device) ⊥ (λ link. faults ≡ link.faults))
    (kept : HasEvents old middle (old.events.items.items ++ event.Unsent device ∷ []))
    (heard : HearsReply middle device kind.Edit mark.Memory reply.Memory faults new) where
  abbrev next_unsent : Seen D
  next_unsent = unsent here seen device changes

  found_link : (link : LinkState) × (slice_get old.links.links device ≡ Some link)
  found_link = there_is old.links.links device within

  link_of_it : seen.links device ≡ heard_link found_link.0
  link_of_it = ap (λ (f : ℕ → Link). f device) is.links ∙ link_seen old.links.links device found_link.0 found_link.1

  link_unsent : next_unsent.links device ≡ link_behind (seen.links device).listed (seen.links device) (seen.links device).session (op.Edit changes) Way.NoMemory reply.Memory
  link_unsent = given_at seen.links device (link_behind (seen.links device).listed (seen.links device) (seen.links device).session (op.Edit changes) Way.NoMemory reply.Memory)

  faults_unsent : faults ≡ (next_unsent.links device).faults
  faults_unsent =
      let counts : faults ≡ found_link.0.faults = subst (λ (o : Option LinkState). MatchOption o ⊥ (λ link. faults ≡ link.faults)) found_link.1 count in
      counts ∙ ap (λ (l : Link). l.faults) (sym link_of_it) ∙ sym (ap (λ (l : Link). l.faults) link_unsent)

  went_unsent : GoesOnUnder here seen next_unsent (event.Unsent device) hub
  went_unsent = leaves seen hub device changes (hub_seen here seen old hub device is up within) due (heard_there here seen old device is within)

  hub_unsent : heard.hub ≡ hub
  hub_unsent = up_same heard.hub hub (sym heard.was ∙ kept.place ∙ up)

  place_unsent : new.place ≡ Up (with_record hub (hub_reported device reply.Memory faults (record_of hub)))
  place_unsent = heard.place ∙ ap {B = Place D} (λ (h : Hub (Stopping D)). Up (with_record h (hub_reported device reply.Memory faults (record_of h)))) hub_unsent

  links_unsent : new.links ≡ old.links
  links_unsent = heard.links ∙ kept.links

  seen_unsent : updated_at next_unsent.links device (unheard_of (next_unsent.links device)) ≡ link_states new.links.links
  seen_unsent =
      let made : Link → Link = λ link. link_behind link.listed link link.session (op.Edit changes) Way.NoMemory reply.Memory in
      let same : unheard_of (made (seen.links device)) ≡ seen.links device =
      ap {B = Link} (λ (l : Link). unheard_of (made l)) link_of_it ∙ sym link_of_it in
      updated_twice seen.links device (made (seen.links device)) unheard_of
      ∙ ap {B = ℕ → Link} (λ (l : Link). updated_at seen.links device l) same
      ∙ updated_same seen.links device (seen.links device) refl
      ∙ is.links ∙ ap (λ (l : Links). link_states l.links) (sym links_unsent)

  pub unsent_and_heard : DoesOperation here seen old new [] [] device
  unsent_and_heard =
      operation_done here carried reported seen next_unsent old new hub device (event.Unsent device) kind.Edit reply.Memory faults is up went_unsent (ap (λ (l : Link). l.unheard) link_unsent) faults_unsent place_unsent seen_unsent
      (seen_last here carried reported seen next_unsent old new hub device (event.Unsent device) kind.Edit reply.Memory faults is up went_unsent (ap (λ (l : Link). l.unheard) link_unsent) faults_unsent place_unsent seen_unsent
      (heard.limit ∙ kept.limit) refl (heard.snapshots ∙ kept.snapshots)
      (updated_same seen.nodes device (seen.nodes device) refl ∙ is.nodes ∙ ap (λ (l : Links). node_states l.links) (sym links_unsent))
      (subst (λ (l : Links). AreLinksOf here.decls l.links) (sym links_unsent) is.accepts)
      (ap (λ (l : Links). length l.logs) links_unsent ∙ is.logs))
      (heard.limit ∙ kept.limit) refl (heard.events ∙ ap (λ (es : List Event). es ++ event.Report device kind.Edit mark.Memory faults ∷ []) kept.events_are)
      (λ other turn first. ap (λ (l : Links). noted_on l.logs other) links_unsent ∙ sym (append-nil (noted_on old.links.logs other)))
