-- The world of a bundle begins.
use Rattle.std.proofs.Common.{[], ◌≡◌, ◌<◌, ◌≤◌, ◌+◌, ◌-◌, ◌⊎◌, inl, ℕ, nat_lt, Bool, true, false, Option, Some, None, List, ◌∷◌, ◌++◌, All, length, map, refl, sym, ap, subst, ◌∙◌, append-nil, arith}
use Rattle.std.specs.Prelude.{◌^◌, IfSome, filter, slice_get, if◌then◌else◌}
use Rattle.std.specs.FinMap.{empty}
use Rattle.std.specs.Option.{option_map, option_map_or}
use Rattle.std.proofs.lemmas.Bool.{false≢true, ltb-true}
use Rattle.std.proofs.lemmas.List.{length-map}
use Rattle.std.proofs.lemmas.List.FromFn.{length-range_with_len}
use Rattle.std.proofs.lemmas.List.Elements.{All-nil}
use Rattle.std.proofs.lemmas.Option.{none-some, slice_get-map}
use Rattle.orc_call.specs.declared.answer.Why.{Why}
use Rattle.orc_call.specs.declared.call.Call.{Call}
use Rattle.orc_check.specs.declared.acceptance.Accept.{Accept}
use Rattle.orc_datastore.specs.Legal.{IsLegal, state_of}
use Rattle.orc_datastore.specs.States.{tree_due}
use Rattle.orc_decls.specs.Calls.{is_call}
use Rattle.orc_decls.specs.Declarations.{AreDecls, accept_of}
use Rattle.orc_decls.specs.Openings.{declared_base}
use Rattle.orc_decls.specs.declared.declarations.Decls.{Decls}
use Rattle.orc_decls.specs.declared.declarations.Device.{Device}
use Rattle.orc_device.specs.Nodes.{NodeState}
use Rattle.orc_device.specs.declared.reply.Logged.{Logged}
use Rattle.orc_disk.specs.Meanings.{DiskMeaning}
use Rattle.orc_disk.specs.Stops.{Stopping}
use Rattle.orc_hub.specs.Hubs.{record_of}
use Rattle.orc_hub.specs.Starts.{known_at_start}
use Rattle.orc_hub.specs.declared.hub.Hub.{Hub}
use Rattle.orc_hub_laws.specs.Under.{IsWorldOf, journal_of}
use Rattle.orc_journal.specs.Committed.{history_of}
use Rattle.orc_journal.specs.Journals.{IsGated}
use Rattle.orc_journal.specs.Opened.{OpenJournal}
use Rattle.orc_journal.specs.declared.entry.Entry.{Entry}
use Rattle.orc_links.specs.Logs.{noted_on}
use Rattle.orc_links.specs.Networks.{AreLinksOf, absent_link, absent_node, heard_link, link_of_device, link_states, links_at_first, node_states}
use Rattle.orc_links.specs.declared.links.Links.{Links}
use Rattle.orc_node.specs.LinkStates.{LinkState}
use Rattle.orc_path.specs.Configurations.{Config}
use Rattle.orc_rules.specs.Hubs.{Hub as HubState}
use Rattle.orc_rules.specs.Journals.{HoldsEntries, IsReadBack, history_read}
use Rattle.orc_rules.specs.Laws.{DevicesAreAsDeclared}
use Rattle.orc_rules.specs.Worlds.{World as Seen, declared, new_hub, over}
use Rattle.orc_rules.specs.declared.duty.Duty.TheVariants as duty
use Rattle.orc_runs.specs.Starts.{StartsRun, cause_at_first, each_stale, link_at_first, node_at_base}
use Rattle.orc_state.specs.States.{IsSnapshotAt}
use Rattle.orc_scene.specs.Begins.{HasBegun}
use Rattle.orc_scene.specs.inside.Openings.{IsPlacedOver}
use Rattle.orc_scene.specs.Laws.{SceneIsCarried}
use Rattle.orc_scene.specs.Snapshots.{fronts_of}
use Rattle.orc_scene.specs.Stands.{AreNumbered, HasEntry, IsPlaceSeenAs, IsSeenAs, IsNotReconciling, run_setting}
use Rattle.orc_scene.specs.declared.snapshots.Taken.{Taken}
use Rattle.orc_scene.specs.declared.scene.Place.{Place}
use Rattle.orc_scene.specs.declared.scene.Scene.{Scene}
use Rattle.orc_scene.proofs.Hearing.{there_is}

-- why each device is stale as a run begins
same_cause : (fresh : Bool) → known_at_start fresh ≡ cause_at_first fresh
same_cause true = refl
same_cause false = refl

-- no line is in the log of any device
abbrev no_lines : ℕ → List Logged
no_lines device = []

-- a list of empty logs notes nothing
noted_none : (logs : List (List Logged)) (xs : List ℕ) (device : ℕ) → logs ≡ map no_lines xs → noted_on logs device ≡ []
noted_none logs xs device is =
    ap (λ (all : List (List Logged)). option_map_or (λ log. log) (slice_get all device) []) is
    ∙ ap (λ (o : Option (List Logged)). option_map_or (λ log. log) o []) (slice_get-map no_lines xs device) ∙ on (slice_get xs device)
  where
    on : (o : Option ℕ) → option_map_or (λ (log : List Logged). log) (option_map no_lines o) [] ≡ []
    on None = refl
    on (Some x) = refl

module _ (decls : Decls) (are : AreDecls decls) where
  devices_named : length decls.devices ≡ length decls.names
  devices_named = sym (length-map decls.devices (λ (device : Device). device.name)) ∙ ap (λ (names : List (List ℕ)). length names) (sym are.named)

  link_first : (device : ℕ) → slice_get (links_at_first decls) device ≡ option_map (λ (one : Device). link_of_device (declared_base one) (accept_of decls.schemas one)) (slice_get decls.devices device)
  link_first device = slice_get-map (λ (one : Device). link_of_device (declared_base one) (accept_of decls.schemas one)) decls.devices device

  -- each device runs its base, without a session
  nodes_first : DevicesAreAsDeclared → (device : ℕ) → node_states (links_at_first decls) device ≡ node_at_base decls device
  nodes_first law device = ap (λ (o : Option LinkState). option_map_or (λ link. link.node.state) o absent_node) (link_first device) ∙ on (slice_get decls.devices device) refl
    where
      based : Config → NodeState
      based base = record { running = base; candidate = base; running_lock = None; candidate_lock = None; pending = None; live = []; last = 0 }

      undeclared : slice_get decls.devices device ≡ None → over decls device [] ≡ empty
      undeclared none = at (nat_lt device (length decls.names)) refl
        where
          at : (b : Bool) → nat_lt device (length decls.names) ≡ b → over decls device [] ≡ empty
          at true e = absurd (let found = there_is decls.devices device (subst (λ (n : ℕ). device < n) (sym devices_named) (ltb-true device (length decls.names) e)) in
              none-some found.0 (sym none ∙ found.1))
          at false e = ap (λ (b : Bool). if b then tree_due (state_of decls (filter (is_call decls) [])) device else empty) e

      on : (o : Option Device) → slice_get decls.devices device ≡ o
          → option_map_or (λ (link : LinkState). link.node.state) (option_map (λ (one : Device). link_of_device (declared_base one) (accept_of decls.schemas one)) o) absent_node ≡ node_at_base decls device
      on None is = sym (ap based (undeclared is))
      on (Some one) is = sym (ap based ((law decls device are).3 one is))

  links_first : (device : ℕ) → link_states (links_at_first decls) device ≡ link_at_first
  links_first device = ap (λ (o : Option LinkState). option_map_or heard_link o absent_link) (link_first device) ∙ on (slice_get decls.devices device)
    where
      on : (o : Option Device) → option_map_or heard_link (option_map (λ (one : Device). link_of_device (declared_base one) (accept_of decls.schemas one)) o) absent_link ≡ link_at_first
      on None = refl
      on (Some one) = refl

  accepts_first : AreLinksOf decls (links_at_first decls)
  accepts_first = each decls.devices
    where
      each : (devices : List Device) → map (λ (link : LinkState). link.node.accept) (map (λ (one : Device). link_of_device (declared_base one) (accept_of decls.schemas one)) devices) ≡ map (accept_of decls.schemas) devices
      each [] = refl
      each (one ∷ devices) = ap (λ (l : List Accept). accept_of decls.schemas one ∷ l) (each devices)

module _ {D : Type 0} (disk : DiskMeaning D) (decls : Decls) (from : D) (limit : ℕ) (are : AreDecls decls) (short : length decls.text < 2 ^ 32) (most : limit < 2 ^ 32)
    (carried : SceneIsCarried disk) (law : DevicesAreAsDeclared)
    (links : Links) (world : Scene D) (over_it : IsPlacedOver disk decls from limit links world) (links_are : links.links ≡ links_at_first decls) (logs_are : links.logs ≡ map no_lines (declared decls)) where
  abbrev hub_first : Hub (Stopping D)
  hub_first = over_it.hub

  -- the rules see this
  abbrev seen_first : Seen D
  seen_first = record {
    journal = journal_of hub_first over_it.started.entries;
    hub = Some (record_of hub_first);
    snapshots = λ caller. None;
    nodes = node_states world.links.links;
    links = link_states world.links.links;
  }

  world_links : world.links.links ≡ links_at_first decls
  world_links = ap (λ (l : Links). l.links) over_it.links_are ∙ links_are

  world_logs : world.links.logs ≡ map no_lines (declared decls)
  world_logs = ap (λ (l : Links). l.logs) over_it.links_are ∙ logs_are

  journal_same : hub_first.log.journal ≡ over_it.started.journal
  journal_same = over_it.started.started.journal_is

  no_mends : hub_first.mends ≡ None
  no_mends = ap (λ (h : HubState). h.mends) over_it.started.started.hub_is

  runs_on : over_it.started.journal.disk.stopped ≡ false
  runs_on = over_it.started.opened.course.1.runs refl refl

  unarmed_first : hub_first.log.journal.disk.op ≡ 0
  unarmed_first =
      let passed = (over_it.started.opened.course.1.passes refl runs_on).0 in
      let none : over_it.started.journal.disk.op ≡ 0 = omega (arith, passed) in
      ap (λ (j : OpenJournal (Stopping D)). j.disk.op) journal_same ∙ none

  holds_first : HoldsEntries disk decls.text limit (journal_of hub_first over_it.started.entries)
  holds_first = subst (λ (j : OpenJournal (Stopping D)). HoldsEntries disk decls.text limit (record {
    disk = j.disk.inner;
    synced = over_it.started.entries;
    cut = [];
    cut_is_read = false;
    armed = j.disk.op;
    bytes = j.disk.bytes;
  })) (sym journal_same)
      (record {
        read = over_it.started.opened.holds.file;
        crash = λ file may. record {
          front = [];
          rest = [];
          parts = refl;
          gated = subst (λ (es : List Entry). IsGated file decls.text es) (sym (append-nil over_it.started.entries))
              (subst (λ (o : Option (List ℕ)). IfSome o (λ (f : List ℕ). IsGated f decls.text over_it.started.entries)) (over_it.started.opened.holds.durable file may) over_it.started.opened.holds.file);
        };
      })

  legal_first : IsLegal decls (history_of over_it.started.entries)
  legal_first = subst (λ (d : Decls). IsLegal d (history_of over_it.started.entries)) over_it.started.started.decls_are
      (subst (λ (history : List Call). IsLegal hub_first.decls history) (sym over_it.started.sound.history) over_it.started.sound.state.legal)

  -- a run begins so
  abbrev starts_first : (granted : Bool) → IsReadBack disk decls.text limit granted seen_first.journal.disk → StartsRun (run_setting disk decls limit granted) seen_first
  starts_first granted back = record {
    holds = holds_first;
    uncut = refl;
    unarmed = unarmed_first;
    read_back = back;
    ordered = over_it.started.opened.ordered;
    legal = legal_first;
    file = over_it.started.opened.file;
    opened = over_it.started.opened.read;
    fresh = over_it.started.journal.fresh;
    empty = over_it.started.opened.fresh;
    hub = ap {B = Option HubState} (λ (h : HubState). Some h) (over_it.started.started.hub_is
        ∙ ap (λ (cause : Option Why). new_hub (map (λ device. duty.Free) (declared decls)) (each_stale decls cause)) (same_cause over_it.started.journal.fresh));
    snapshots = λ caller. refl;
    nodes = λ device. ap (λ (l : List LinkState). node_states l device) world_links ∙ nodes_first decls are law device;
    links = λ device. ap (λ (l : List LinkState). link_states l device) world_links ∙ links_first decls are device;
  }

  under_first : (granted : Bool) → IsWorldOf (run_setting disk decls limit granted) seen_first hub_first
  under_first granted = record {
    up = over_it.started.started.up;
    is = refl;
    decls = over_it.started.started.decls_are;
    journal = refl;
    limit = ap (λ (j : OpenJournal (Stopping D)). j.limit) journal_same ∙ over_it.started.opened.limited;
    running = ap (λ (j : OpenJournal (Stopping D)). j.disk.stopped) journal_same ∙ runs_on;
    met = λ met begun. absurd (none-some (Some met) (sym no_mends ∙ begun));
    sound = over_it.started.sound;
  }

  is_first : (granted : Bool) → IsSeenAs (run_setting disk decls limit granted) seen_first world
  is_first granted = record {
    decls = are;
    short = short;
    limit = (over_it.limit_is, most);
    place = subst (IsPlaceSeenAs (run_setting disk decls limit granted) seen_first) (sym over_it.place) (under_first granted);
    snapshots = λ caller. ap (λ (taken : List Taken). fronts_of taken caller) (sym over_it.taken);
    fronts = subst (λ (taken : List Taken). All (λ one. IsSnapshotAt decls (history_read seen_first.journal) one.snapshot) taken) (sym over_it.taken)
        (All-nil (λ (one : Taken). IsSnapshotAt decls (history_read seen_first.journal) one.snapshot));
    nodes = refl;
    links = refl;
    accepts = subst (λ (l : List LinkState). AreLinksOf decls l) (sym world_links) (accepts_first decls are);
    logs = ap (λ (rows : List (List Logged)). length rows) world_logs ∙ length-map (declared decls) no_lines ∙ length-range_with_len 0 (length decls.names);
    numbered = subst (λ (h : HubState). AreNumbered (Some h) over_it.started.entries) (sym over_it.started.started.hub_is) (tt, All-nil (HasEntry over_it.started.entries));
    kept = λ back. ((carried decls limit granted are).starts seen_first (starts_first granted back)).0;
  }

  pub has_begun : HasBegun disk decls from limit world
  has_begun = record {
    hub = hub_first;
    place = over_it.place;
    started = over_it.started;
    seen = seen_first;
    entries_are = refl;
    starts = starts_first true (inl refl);
    file_is = refl;
    is = is_first;
    unmended = subst (λ (p : Place D). IsNotReconciling p) (sym over_it.place) no_mends;
    limit_is = over_it.limit_is;
    events = over_it.events;
    noted = λ device. noted_none world.links.logs (declared decls) device world_logs;
  }
