-- Lines that show something.
use Rattle.std.proofs.Common.{[], ◌≡◌, ◌<◌, ℕ, zero, suc, Bool, true, false, ◌==◌, ◌&&◌, nat_lt, Option, Some, None, List, ◌∷◌, ◌++◌, Result, Ok, Err, length, codes, refl, sym, ap, subst, ◌∙◌, arith}
use Rattle.std.specs.Prelude.{MatchOption, MatchResult, slice_get, if◌then◌else◌}
use Rattle.std.specs.Global.{Vec}
use Rattle.std.specs.List.{slice_set}
use Rattle.std.specs.Option.{option_map_or}
use Rattle.std.specs.Result.{IfOk}
use Rattle.std.specs.Cmp.{first_so}
use Rattle.std.proofs.lemmas.Bool.{ltb-true}
use Rattle.orc_datastore.specs.Legal.{state_of}
use Rattle.orc_datastore.specs.Metas.{IsMeta}
use Rattle.orc_datastore.specs.States.{Datastore}
use Rattle.orc_decls.specs.Devices.{name_of}
use Rattle.orc_decls.specs.declared.declarations.Decls.{Decls}
use Rattle.orc_device.specs.Nodes.{NodeState}
use Rattle.orc_device.specs.declared.reply.Logged.{Logged}
use Rattle.orc_disk.specs.Meanings.{DiskMeaning}
use Rattle.orc_disk.specs.Stops.{Stopping}
use Rattle.orc_call.specs.declared.call.Call.{Call}
use Rattle.orc_hub.specs.declared.hub.Hub.{Hub}
use Rattle.orc_hub_laws.specs.Under.{IsWorldOf}
use Rattle.orc_links.specs.Logs.{cleared_log, noted_on}
use Rattle.orc_links.specs.Networks.{node_states}
use Rattle.orc_path.specs.Steps.{PathStep}
use Rattle.orc_refs.specs.declared.moves.Meta.{Meta}
use Rattle.orc_print.specs.Logs.{log_text}
use Rattle.orc_print.specs.Printed.{IsJsonGroup, data_text, history_text, meta_group}
use Rattle.orc_rules.specs.Hubs.{Hub as SeenHub}
use Rattle.orc_rules.specs.Journals.{history_read}
use Rattle.orc_rules.specs.Worlds.{Setting, World as Seen}
use Rattle.orc_runs.specs.Scripts.{ShowsMeta, if_up, schema_on, set_by}
use Rattle.orc_script.specs.declared.step.ScriptStep.{ScriptStep}
use Rattle.orc_script.specs.declared.step.ScriptStep.TheVariants as step
use Rattle.orc_scene.specs.Effects.{PrintsText, hub_in}
use Rattle.orc_world.specs.Lines.{DoesLine, EndsInLine}
use Rattle.orc_world.specs.inside.Shown.{ShowsJsonOf, ShowsLogOf, ShowsMetaOf}
use Rattle.orc_scene.specs.Stands.{IsPlaceSeenAs, IsSeenAs, IsSoundScene, IsNotReconciling, decls_in, run_setting}
use Rattle.orc_scene.specs.declared.stop.WorldStop.{WorldStop}
use Rattle.orc_scene.specs.declared.scene.Place.{Place}
use Rattle.orc_scene.specs.declared.scene.Place.TheVariants.{Up, Down, Ended, Moved}
use Rattle.orc_scene.specs.declared.scene.Scene.{Scene}
use Rattle.orc_world.proofs.Allowed.{allowed_there}
use Rattle.orc_scene.proofs.Histories.{history_seen}
use Rattle.orc_world.proofs.Looks.{quiet_line}
use Rattle.orc_world.proofs.Times.{ends_at_once}

-- logs

zero_apart : (b : ℕ) → (zero == suc b) ≡ false
zero_apart b = grind arith

apart_zero : (a : ℕ) → (suc a == zero) ≡ false
apart_zero a = grind arith

both_less : (a b : ℕ) → (a == b) ≡ (suc a == suc b)
both_less a b = grind arith

-- the log of one device is empty, and those of the others are as they were
noted_cleared : (logs : List (List Logged)) (device other : ℕ) → noted_on (cleared_log device logs) other ≡ (if device == other then [] else noted_on logs other)
noted_cleared [] device other = on (device == other)
  where
    on : (b : Bool) → [] ≡ (if b then [] else noted_on [] other)
    on true = refl
    on false = refl
noted_cleared (log ∷ logs) zero zero = refl
noted_cleared (log ∷ logs) zero (suc other) = ap (λ (b : Bool). if b then [] else noted_on logs other) (sym (zero_apart other))
noted_cleared (log ∷ logs) (suc device) zero = on (slice_get logs device) ∙ ap (λ (b : Bool). if b then [] else log) (sym (apart_zero device))
  where
    on : (o : Option (List Logged)) → noted_on (option_map_or (λ x. slice_set (log ∷ logs) (suc device) []) o (log ∷ logs)) zero ≡ log
    on None = refl
    on (Some x) = refl
noted_cleared (log ∷ logs) (suc device) (suc other) =
    on (slice_get logs device) ∙ noted_cleared logs device other
    ∙ ap (λ (b : Bool). if b then [] else noted_on logs other) (both_less device other)
  where
    on : (o : Option (List Logged)) → noted_on (option_map_or (λ x. slice_set (log ∷ logs) (suc device) []) o (log ∷ logs)) (suc other)
        ≡ noted_on (option_map_or (λ x. slice_set logs device []) o logs) other
    on None = refl
    on (Some x) = refl

set_length : {X : Type 0} (xs : List X) (i : ℕ) (x : X) → length (slice_set xs i x) ≡ length xs
set_length [] i x = refl
set_length (y ∷ xs) zero x = refl
set_length (y ∷ xs) (suc i) x = ap suc (set_length xs i x)

cleared_length : (logs : List (List Logged)) (device : ℕ) → length (cleared_log device logs) ≡ length logs
cleared_length logs device = on (slice_get logs device)
  where
    on : (o : Option (List Logged)) → length (option_map_or (λ x. slice_set logs device []) o logs) ≡ length logs
    on None = refl
    on (Some x) = set_length logs device []

-- what is asked first of what a line names
pub allowed_first : (o : Option Decls) (P Q : Decls → Bool) → MatchOption o ⊥ (λ d. (P d && Q d) ≡ true) → MatchOption o ⊥ (λ d. P d ≡ true)
allowed_first None P Q h = h
allowed_first (Some d) P Q h = first_so (P d) (Q d) h

-- a device that the declarations have has a log
pub log_within : {D : Type 0} (disk : DiskMeaning D) (world : Scene D) (device : ℕ) → IsSoundScene disk world
    → MatchOption (decls_in world.place) ⊥ (λ decls. nat_lt device (length decls.names) ≡ true) → device < length world.links.logs
log_within {D = D} disk world device sound allowed =
    let here : Setting D = run_setting disk sound.0 world.limit sound.1 in
    let is : IsSeenAs here sound.2 world = sound.3 in
    let within : nat_lt device (length here.decls.names) ≡ true =
    allowed_there here sound.2 world.place (λ decls. nat_lt device (length decls.names) ≡ true) is.place allowed in
    subst (λ (count : ℕ). device < count) (sym is.logs) (ltb-true device (length here.decls.names) within)

-- a text that was printed is there, and is the one that was to be shown
pub said_so : {M : Type 0} (before after : List ℕ) (text : Result (Vec ℕ) M) (Shown : List ℕ → Type 0)
    → IfOk text (λ bytes. Shown bytes.items) → MatchResult text (λ bytes. after ≡ before ++ bytes.items) (λ none. ⊥)
    → (bytes : List ℕ) × Shown bytes × (after ≡ before ++ bytes)
said_so before after (Ok bytes) Shown says printed = (bytes.items, says, printed)
said_so before after (Err e) Shown says none = absurd none

-- what a hub knows of a path of a device
abbrev ShowsKnown : {D : Type 0} → Hub D → ℕ → List PathStep → List ℕ → Type 0
ShowsKnown hub device path text = (meta : Option Meta) × IsMeta hub.state.datastore device path meta
    × (text ≡ meta_group (name_of hub.decls.names device) path meta)

module _ {D : Type 0} (here : Setting D) where
  -- a text is said in a line in which nothing comes, or memory ran out for it
  pub said_line : {M : Type 0} (line : ScriptStep) (seen : Seen D) (world : Scene D) (before after : List ℕ) (text : Result (Vec ℕ) M)
      (result : Result (Unit {0}) WorldStop) (Shown : List ℕ → Type 0)
      → IfOk text (λ bytes. Shown bytes.items) → PrintsText text before result after → IsSeenAs here seen world
      → (set_by line seen).journal.disk ≡ seen.journal.disk
      → ((bytes : List ℕ) → Shown bytes → after ≡ before ++ bytes → DoesLine here line seen world world before after)
      → MatchResult result (λ value. DoesLine here line seen world world before after) (λ why. EndsInLine here line seen world world before after why)
  said_line {M = M} line seen world before after text (Ok done) Shown says prints is disk does = on text says prints.0
    where
      on : (t : Result (Vec ℕ) M) → IfOk t (λ bytes. Shown bytes.items) → MatchResult t (λ bytes. after ≡ before ++ bytes.items) (λ none. ⊥)
          → DoesLine here line seen world world before after
      on (Ok bytes) says printed = does bytes.items says printed
      on (Err e) says none = absurd none
  said_line line seen world before after text (Err why) Shown says prints is disk does =
      ends_at_once here line seen world world before after why prints.1.0 is
      (record { alloc = refl; limit = refl; place = refl; links = refl; snapshots = refl; events_are = refl }) prints.1.1 disk

  -- what is said of the trees that the devices run is said of those that the rules see
  pub json_line : (seen : Seen D) (world : Scene D) (device : ℕ) (before after text : List ℕ) → IsSeenAs here seen world
      → IsNotReconciling world.place → ShowsJsonOf world device text → after ≡ before ++ text
      → DoesLine here (step.Json device) seen world world before after
  json_line seen world device before after text is unmended shows printed =
      quiet_line here (step.Json device) seen seen world world before after text refl refl
      (subst (λ (nodes : ℕ → NodeState). IsJsonGroup (name_of here.decls.names device) (schema_on here.decls device) (nodes device).running text) (sym is.nodes)
      (allowed_there here seen world.place
      (λ decls. IsJsonGroup (name_of decls.names device) (schema_on decls device) (node_states world.links.links device).running text) is.place shows))
      is unmended refl refl (λ other. refl) (λ other wrong. absurd cc) printed

  -- the state of the hub is that of the history that the rules see
  state_there : (seen : Seen D) (hub : Hub (Stopping D)) → IsWorldOf here seen hub → hub.state.datastore ≡ state_of here.decls (history_read seen.journal)
  state_there seen hub is =
      is.sound.state.datastore ∙ ap (λ (d : Decls). state_of d hub.state.history) is.decls
      ∙ ap (λ (h : List Call). state_of here.decls h) (sym (history_seen here seen hub is))

  -- what the hub shows that is up, or that none is, is what a line shows
  shown_there : (seen : Seen D) (place : Place D) (Of : Hub (Stopping D) → List ℕ → Type 0) (Shown : List ℕ → Type 0) (text : List ℕ) → IsPlaceSeenAs here seen place
      → ((hub : Hub (Stopping D)) → IsWorldOf here seen hub → Of hub text → Shown text)
      → MatchOption (hub_in place) (text ≡ codes "down\n") (λ hub. Of hub text) → if_up seen.hub Shown text
  shown_there seen (Up hub) Of Shown text is of shows = subst (λ (o : Option SeenHub). if_up o Shown text) (sym is.is) (of hub is shows)
  shown_there seen (Down disk decls) Of Shown text is of shows = subst (λ (o : Option SeenHub). if_up o Shown text) (sym is.0) shows
  shown_there seen (Ended disk) Of Shown text is of shows = absurd is
  shown_there seen Moved Of Shown text is of shows = absurd is

  pub meta_line : (seen : Seen D) (world : Scene D) (device : ℕ) (path : List PathStep) (before after text : List ℕ) → IsSeenAs here seen world
      → IsNotReconciling world.place → ShowsMetaOf world device path text → after ≡ before ++ text
      → DoesLine here (step.Meta device path) seen world world before after
  meta_line seen world device path before after text is unmended shows printed =
      quiet_line here (step.Meta device path) seen seen world world before after text refl refl
      (shown_there seen world.place (λ hub shown. ShowsKnown hub device path shown)
      (ShowsMeta here.decls (history_read seen.journal) device path) text is.place
      (λ hub there of. (
        of.0,
        subst (λ (s : Datastore). IsMeta s device path of.0) (state_there seen hub there) of.1,
        of.2 ∙ ap (λ (d : Decls). meta_group (name_of d.names device) path of.0) there.decls,
      )) shows)
      is unmended refl refl (λ other. refl) (λ other wrong. absurd cc) printed

  pub data_line : (seen : Seen D) (world : Scene D) (before after text : List ℕ) → IsSeenAs here seen world → IsNotReconciling world.place
      → MatchOption (hub_in world.place) (text ≡ codes "down\n") (λ hub. text ≡ data_text hub.state.datastore.data) → after ≡ before ++ text
      → DoesLine here step.ShowData seen world world before after
  data_line seen world before after text is unmended shows printed =
      quiet_line here step.ShowData seen seen world world before after text refl refl
      (shown_there seen world.place (λ hub shown. shown ≡ data_text hub.state.datastore.data)
      (λ shown. shown ≡ data_text (state_of here.decls (history_read seen.journal)).data) text is.place
      (λ hub there of. of ∙ ap (λ (s : Datastore). data_text s.data) (state_there seen hub there)) shows)
      is unmended refl refl (λ other. refl) (λ other wrong. absurd cc) printed

  pub history_line : (seen : Seen D) (world : Scene D) (before after text : List ℕ) → IsSeenAs here seen world → IsNotReconciling world.place
      → MatchOption (hub_in world.place) (text ≡ codes "down\n") (λ hub. text ≡ history_text hub.state.history) → after ≡ before ++ text
      → DoesLine here step.History seen world world before after
  history_line seen world before after text is unmended shows printed =
      quiet_line here step.History seen seen world world before after text refl refl
      (shown_there seen world.place (λ hub shown. shown ≡ history_text hub.state.history)
      (λ shown. shown ≡ history_text (history_read seen.journal)) text is.place
      (λ hub there of. of ∙ ap (λ (h : List Call). history_text h) (sym (history_seen here seen hub there))) shows)
      is unmended refl refl (λ other. refl) (λ other wrong. absurd cc) printed

  -- the log of a device, which begins anew
  pub log_line : (seen : Seen D) (old new : Scene D) (device : ℕ) (before after text : List ℕ) → IsSeenAs here seen old → IsNotReconciling old.place
      → ShowsLogOf old device text → new ≡ record old { links = record old.links { logs = cleared_log device old.links.logs } } → after ≡ before ++ text
      → DoesLine here (step.Log device) seen old new before after
  log_line seen old new device before after text is unmended shows made printed =
      let cleared : Scene D = record old { links = record old.links { logs = cleared_log device old.links.logs } } in
      let said : text ≡ log_text (name_of here.decls.names device) (noted_on old.links.logs device) =
      allowed_there here seen old.place (λ decls. text ≡ log_text (name_of decls.names device) (noted_on old.links.logs device)) is.place shows in
      let now : IsSeenAs here seen cleared = record {
        decls = is.decls;
        short = is.short;
        limit = is.limit;
        place = is.place;
        snapshots = is.snapshots;
        fronts = is.fronts;
        nodes = is.nodes;
        links = is.links;
        accepts = is.accepts;
        logs = cleared_length old.links.logs device ∙ is.logs;
        numbered = is.numbered;
        kept = is.kept;
      } in
      subst (λ (w : Scene D). DoesLine here (step.Log device) seen old w before after) (sym made)
      (quiet_line here (step.Log device) seen seen old cleared before after text refl refl tt now unmended refl refl
      (λ other. noted_cleared old.links.logs device other)
      (λ other same. said ∙ ap (λ (d : ℕ). log_text (name_of here.decls.names d) (noted_on old.links.logs d)) (let one : device ≡ other = cc in one)) printed)
