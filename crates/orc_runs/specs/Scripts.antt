-- What each line of a script does, and what it prints.
use Rattle.std.specs.Prelude.{[], ◌≡◌, ◌⊎◌, ℕ, ◌≤◌, ◌==◌, Bool, true, false, Option, Some, None, List, ◌∷◌, ◌++◌, codes, length, map}
use Rattle.std.specs.List.{flat_map, find}
use Rattle.std.specs.Option.{option_map, option_map_or}
use Rattle.orc_call.specs.declared.call.Call.{Call}
use Rattle.orc_call.specs.declared.answer.Answer.{Answer}
use Rattle.orc_call.specs.declared.answer.RecFault.{RecFault}
use Rattle.orc_journal.specs.declared.entry.Entry.{Entry}
use Rattle.orc_path.specs.Steps.{PathStep}
use Rattle.orc_print.specs.Printed.{IsJsonGroup, answer_line, data_text, history_text, mended_line, meta_group, recovered_line, tree_text}
use Rattle.orc_refs.specs.declared.moves.Meta.{Meta}
use Rattle.orc_rules.specs.Cells.{updated_at}
use Rattle.orc_rules.specs.Events.{Comes, DoesUnderHub, DoesAnyway, Turn}
use Rattle.orc_rules.specs.Hubs.{Hub}
use Rattle.orc_rules.specs.Journals.{history_read}
use Rattle.orc_rules.specs.Worlds.{Setting, World, declared}
use Rattle.orc_rules.specs.declared.event.Event.{Event}
use Rattle.orc_rules.specs.declared.event.Event.TheVariants as event
use Rattle.orc_datastore.specs.Legal.{state_of}
use Rattle.orc_datastore.specs.Metas.{IsMeta}
use Rattle.orc_decls.specs.Calls.{schema_named}
use Rattle.orc_decls.specs.Devices.{name_of}
use Rattle.orc_decls.specs.declared.declarations.Decls.{Decls}
use Rattle.orc_schema_nodes.specs.Schemas.{SchemaTable}
use Rattle.orc_script.specs.declared.step.ScriptStep.{ScriptStep}
use Rattle.orc_script.specs.declared.step.ScriptStep.TheVariants as step

-- The parts of what a line does. Each is an event of a kind, or all that come of a kind, or the rounds of `settle`.
pub data Part : Type 0 where
  Snapshot : List ℕ → Part  -- this caller takes a snapshot
  FirstSnapshot : List ℕ → Part  -- this caller takes a snapshot, where it has none
  Submission : Call → Part  -- the call is submitted
  Admission : Part  -- one that waits is admitted, or turned away
  Admissions : Part  -- those that wait are admitted or turned away, until none fits
  Operation : ℕ → Part  -- the device does the operation due, or that is an edit which isn't sent
  Operations : ℕ → Part  -- the device does what is due, each heard of by the hub, until none is
  Hearing : ℕ → Part  -- the hub hears of a device's operation
  Decisions : Part  -- what is due in the journal is written, until nothing is
  Rounds : Part  -- rounds, until one has nothing to do
  Ticking : ℕ → Part  -- so many seconds pass
  Restarting : ℕ → Part  -- the device restarts
  Stopping : Part  -- the controller stops
  Recovery : Part  -- the controller opens its journal again
  Beginning : Part  -- a reconciliation begins
  Ending : Part  -- a reconciliation ends

-- each line of a script as a row of these; a line that isn't here makes nothing happen
abbrev pub line_parts : Decls → ScriptStep → List Part
line_parts decls (step.Begin caller) = Snapshot caller ∷ []
line_parts decls (step.Call call) = FirstSnapshot call.caller ∷ Submission call ∷ []
line_parts decls step.Admit = Admission ∷ []
line_parts decls (step.Step device) = Operation device ∷ Hearing device ∷ []
line_parts decls step.Decide = Decisions ∷ []
line_parts decls step.Settle = Rounds ∷ []
line_parts decls (step.Tick seconds) = Ticking seconds ∷ []
line_parts decls (step.Restart device) = Restarting device ∷ []
line_parts decls step.Stop = Stopping ∷ []
line_parts decls step.Recover = Stopping ∷ Recovery ∷ []
line_parts decls step.Reconcile = Rounds ∷ Beginning ∷ map Operations (declared decls) ++ Ending ∷ []
line_parts decls other = []

-- one round: all that fit are admitted, each device does the operation that is due, and what is due is decided
abbrev pub round : Decls → List Part
round decls =
    Admissions ∷ flat_map (λ device. Operation device ∷ Hearing device ∷ []) (declared decls) ++ Decisions ∷ []

-- the event is one of the part
abbrev pub IsOf : Part → Event → Type 0
IsOf (Snapshot caller) (event.Begin other front) = other ≡ caller
IsOf (FirstSnapshot caller) (event.Begin other front) = other ≡ caller
IsOf (Submission call) (event.Submit other front given) = other ≡ call
IsOf Admission (event.Admit t given) = Unit {0}
IsOf Admissions (event.Admit t given) = Unit {0}
IsOf (Operation device) (event.Perform other op reply count) = other ≡ device
IsOf (Operation device) (event.Unsent other) = other ≡ device
IsOf (Hearing device) (event.Report other op reply count) = other ≡ device
IsOf (Operations device) (event.Perform other op reply count) = other ≡ device
IsOf (Operations device) (event.Unsent other) = other ≡ device
IsOf (Operations device) (event.Report other op reply count) = other ≡ device
IsOf Decisions (event.Decide t given) = Unit {0}
IsOf Decisions (event.Settle t) = Unit {0}
IsOf (Ticking seconds) (event.Tick other) = other ≡ seconds
IsOf (Restarting device) (event.Restart other) = other ≡ device
IsOf Stopping event.Stop = Unit {0}
IsOf Recovery event.Recover = Unit {0}
IsOf Beginning (event.Reconcile None) = Unit {0}
IsOf Ending (event.Reconcile (Some result)) = Unit {0}
IsOf part other = ⊥

-- all that come of its kind belong to the part, one after the other until none may; to another part one does
abbrev pub comes_again : Part → Bool
comes_again Admissions = true
comes_again (Operations device) = true
comes_again Decisions = true
comes_again part = false

module _ {D : Type 0} (here : Setting D) where
  -- the event may come now: under the hub that is up, or whether one is up or not, or since none is
  abbrev pub MayCome : World D → Event → Type 0
  MayCome world one = ((hub : Hub) × (row : List Entry) × (next : World D)
      × (world.hub ≡ Some hub) × DoesUnderHub here world hub one row next)
      ⊎ ((next : World D) × DoesAnyway world one next)
      ⊎ ((one ≡ event.Recover) × (world.hub ≡ None))

  -- None of the part may. A first snapshot isn't taken where no hub is up, or by a caller that has one. Rounds are done, or
  -- nothing is left for them. A reconciliation begins where a hub is up, and one that began ends.
  abbrev pub NoneOf : World D → Part → Type 0
  NoneOf world Rounds = ⊥
  NoneOf world (FirstSnapshot caller) =
      (hub : Hub) → world.hub ≡ Some hub → world.snapshots caller ≡ None → ⊥
  NoneOf world Beginning = (hub : Hub) → world.hub ≡ Some hub → ⊥
  NoneOf world Ending = (hub : Hub) (met : Option RecFault) → world.hub ≡ Some hub → hub.mends ≡ Some met → ⊥
  NoneOf world part = (one : Event) → IsOf part one → MayCome world one → ⊥

  -- The part is called for in this world: a first snapshot is taken only by a caller that has none, and any other part
  -- always is.
  abbrev pub IsCalledFor : World D → Part → Type 0
  IsCalledFor world (FirstSnapshot caller) = world.snapshots caller ≡ None
  IsCalledFor world part = Unit {0}

  -- nothing is left for a round: no call may be admitted, no device has an operation due or one that isn't heard, and
  -- nothing is due in the journal
  abbrev pub IsStill : World D → Type 0
  IsStill world = (device : ℕ)
      → NoneOf world Admission × NoneOf world (Operation device) × NoneOf world (Hearing device)
      × NoneOf world Decisions

  -- These turns are what a row of parts does, up to its end, or up to where the run ended.
  pub data Goes (ended : Bool) : List Part → World D → List (Turn D) → World D → Type 0 where
    whole : (world : World D) → Goes ended [] world [] world
    broken : (parts : List Part) (world : World D) → ended ≡ true → Goes ended parts world [] world
    once : (part : Part) (parts : List Part) (turn : Turn D) (turns : List (Turn D)) (last : World D)
        → comes_again part ≡ false → IsOf part turn.meant → IsCalledFor turn.before part → Comes here turn
        → Goes ended parts turn.behind turns last → Goes ended (part ∷ parts) turn.before (turn ∷ turns) last
    again : (part : Part) (parts : List Part) (turn : Turn D) (turns : List (Turn D)) (last : World D)
        → comes_again part ≡ true → IsOf part turn.meant → Comes here turn
        → Goes ended (part ∷ parts) turn.behind turns last → Goes ended (part ∷ parts) turn.before (turn ∷ turns) last
    none : (part : Part) (parts : List Part) (world last : World D) (turns : List (Turn D))
        → NoneOf world part → Goes ended parts world turns last → Goes ended (part ∷ parts) world turns last
    round_more : (parts : List Part) (world last : World D) (turns : List (Turn D))
        → Goes ended (round here.decls ++ Rounds ∷ parts) world turns last
        → Goes ended (Rounds ∷ parts) world turns last
    still : (parts : List Part) (world last : World D) (turns : List (Turn D))
        → IsStill world
        → Goes ended parts world turns last → Goes ended (Rounds ∷ parts) world turns last

-- what a line sets before it does that: a stop in the journal's disk, a fault of a link
abbrev pub set_by : {D : Type 0} → ScriptStep → World D → World D
set_by (step.StopAt count bytes) world =
    option_map_or (λ hub. record world { journal = record world.journal { armed = count; bytes = bytes } }) world.hub
    world
set_by (step.Fault device op at) world = record world {
  links = updated_at world.links device
      (record (world.links device) { listed = (world.links device).listed ++ (op, at) ∷ [] });
}
set_by other world = world

-- what is printed

-- the call of a number, while it is on its way
abbrev pub call_on_way : Hub → ℕ → Option Call
call_on_way hub t =
    option_map_or (λ it. Some it.call) (find (λ it. it.t == t) hub.waiting)
    (option_map (λ it. it.call) (find (λ it. it.t == t) hub.active))

-- the call of a number on its way in a world
abbrev pub call_under : {D : Type 0} → World D → ℕ → Option Call
call_under world t = option_map_or (λ hub. call_on_way hub t) world.hub None

-- the line of the answer to a call that was on its way
abbrev pub answer_to : List (List ℕ) → Option Call → Answer → List ℕ
answer_to names None given = []
answer_to names (Some call) given = answer_line names call.caller call.number given

-- What is said of what is seen in a line: an answer, the end of a reconciliation, that the controller stopped, but not
-- where it is recovered at once, and that it is there again.
abbrev pub said : {D : Type 0} → List (List ℕ) → ScriptStep → Turn D → Option Event → List ℕ
said names at turn (Some (event.Submit call front (Some given))) = answer_line names call.caller call.number given
said names at turn (Some (event.Admit t (Some given))) = answer_to names (call_under turn.before t) given
said names at turn (Some (event.Decide t given)) = answer_to names (call_under turn.before t) given
said names at turn (Some (event.Reconcile (Some result))) = mended_line names result
said names step.Recover turn (Some event.Stop) = []
said names at turn (Some event.Stop) = codes "stopped\n"
said names at turn (Some event.Recover) = recovered_line (length (history_read turn.behind.journal))
said names at turn other = []

-- what is said in a line
abbrev pub said_in : {D : Type 0} → Decls → ScriptStep → List (Turn D) → List ℕ
said_in decls at turns = flat_map (λ turn. said decls.names at turn turn.seen) turns

-- the schema of a device
abbrev pub schema_on : Decls → ℕ → SchemaTable
schema_on decls device = schema_named decls.schemas decls.devices (name_of decls.names device)

-- what a hub that is up shows; and where none is up, that it is down
abbrev pub if_up : Option Hub → (List ℕ → Type 0) → List ℕ → Type 0
if_up None IsShown text = text ≡ codes "down\n"
if_up (Some hub) IsShown text = IsShown text

-- what is known of a path of a device, after a history
abbrev pub ShowsMeta : Decls → List Call → ℕ → List PathStep → List ℕ → Type 0
ShowsMeta decls history device path text = (meta : Option Meta) × IsMeta (state_of decls history) device path meta
    × (text ≡ meta_group (name_of decls.names device) path meta)

-- What a line prints in which nothing came: a `stop` that the controller is stopped, and a `reconcile` that it is down,
-- where no hub is up.
abbrev pub idle_words : ScriptStep → Option Hub → List ℕ
idle_words step.Stop hub = codes "stopped\n"
idle_words step.Reconcile None = codes "reconcile down\n"
idle_words other hub = []

-- What is shown after a line: a tree as the device runs it, in lines or as JSON; the history, the data, and what is
-- known of a path, where a hub is up. (The text of a `log` needs the lines before it: it is said of whole runs.)
abbrev pub Shows : {D : Type 0} → Decls → ScriptStep → List (Turn D) → World D → List ℕ → Type 0
Shows decls (step.Show device) turns world text =
    text ≡ tree_text (name_of decls.names device) (world.nodes device).running
Shows decls (step.Json device) turns world text =
    IsJsonGroup (name_of decls.names device) (schema_on decls device) (world.nodes device).running text
Shows decls (step.Log device) turns world text = Unit {0}
Shows decls (step.Meta device path) turns world text =
    if_up world.hub (ShowsMeta decls (history_read world.journal) device path) text
Shows decls step.ShowData turns world text =
    if_up world.hub (λ shown. shown ≡ data_text (state_of decls (history_read world.journal)).data) text
Shows decls step.History turns world text =
    if_up world.hub (λ shown. shown ≡ history_text (history_read world.journal)) text
Shows decls at [] world text = text ≡ idle_words at world.hub
Shows decls at turns world text = text ≡ []

-- a line that is done prints what is said in it, and then what is shown
pub record PrintsAll {D : Type 0} (decls : Decls) (at : ScriptStep) (turns : List (Turn D)) (behind : World D)
    (text : List ℕ) : Type 0 where
  pub after : List ℕ
  pub printed : text ≡ said_in decls at turns ++ after
  pub shows : Shows decls at turns behind after

-- What a line prints. One in which the run ended shows nothing, and may lack what is said of its last turn, where memory
-- ran out for that. (Where the run ended for the journal it lacks nothing: that is said beside the cause.)
abbrev pub Prints : {D : Type 0} → Decls → Bool → ScriptStep → List (Turn D) → World D → List ℕ → Type 0
Prints decls false at turns behind text = PrintsAll decls at turns behind text
Prints {D} decls true at turns behind text = (front rest : List (Turn D))
    × (turns ≡ front ++ rest) × (length rest ≤ 1) × (text ≡ said_in decls at front)
