-- The network: what the journal says, what the hub has active, and each device.
use Rattle.std.specs.Prelude.{ℕ, ◌+◌, ◌≡◌, ◌≤◌, Bool, true, false, nat_eq, Option, Some, None, List, [], ◌∷◌, ◌++◌, length, take}
use Rattle.std.specs.List.{list_any}
use Rattle.orc_device.specs.Nodes.{DeviceKind, NodeState, ticked, restarted, kept_tree}
use Rattle.orc_device.specs.Links.{Way}
use Rattle.orc_rules.specs.Facts.{Quiet, pending_id}
use Rattle.orc_worker.specs.declared.stage.Stage.{Stage}
use Rattle.orc_rules.specs.Works.{Intent}
use Rattle.orc_worker.specs.declared.stage.Stage.TheVariants.{Prepared}
use Rattle.orc_rules.specs.Cells.{Cell, DeviceRole, updated_at, performed, due_op, PossibleDue, cell_admitted, decided, aborted, released, stopped, mending, at_node}
use Rattle.orc_rules.specs.Cells.DeviceRole.{Free, Works}
use Rattle.orc_rules.specs.Invariant.{Invariant, MayRest, is_open, is_preparing_stage, IsNotOn}
use Rattle.orc_path.specs.Configurations.{Config}

-- a call and the devices that it names
pub record Plan (Call : Type 0) : Type 0 where
  pub call : Call
  pub names : ℕ → Bool

-- an intent of the journal, and the history before it
pub record Noted (Call : Type 0) : Type 0 where
  pub plan : Plan Call
  pub base : List Call

-- What is asked of plans after a history. One stands: made afresh there, it would be this. Two fit: so made, they may be
-- active at once. One is valid: the data is valid with its call.
pub record Planning {Call : Type 0} (over : ℕ → List Call → Config) (Stands : List Call → Plan Call → Type 0)
    (Fits : List Call → Plan Call → Plan Call → Type 0) (Valid : List Call → Plan Call → Type 0) : Type 0 where
  pub frame : (history : List Call) (plan : Plan Call) (device : ℕ) → Stands history plan → Valid history plan
      → plan.names device ≡ false
      → over device (history ++ plan.call ∷ []) ≡ over device history
  pub stands : (history : List Call) (plan another : Plan Call) → Stands history plan → Stands history another
      → Fits history plan another → Stands (history ++ another.call ∷ []) plan
  pub stable : (history : List Call) (plan another : Plan Call) (device : ℕ) → Stands history plan
      → Stands history another → Fits history plan another → plan.names device ≡ true
      → over device ((history ++ another.call ∷ []) ++ plan.call ∷ []) ≡ over device (history ++ plan.call ∷ [])
  pub fits : (history : List Call) (plan another third : Plan Call) → Stands history plan → Stands history another
      → Stands history third → Fits history plan another → Fits history plan third
      → Fits history another third → Fits (history ++ third.call ∷ []) plan another
  pub mutual_fit : (history : List Call) (plan another : Plan Call) → Fits history plan another
      → Fits history another plan

-- what is a device's own: its node, session, and what is done there; whether it is stale, and what it came to
pub record Local (Call : Type 0) : Type 0 where
  pub node : NodeState
  pub session : ℕ
  pub clear : ℕ → Bool
  pub role : DeviceRole Call
  pub stale : Bool
  pub at : ℕ

-- what the journal says, which plans the hub has active, and each device's own part
pub record Network (Call : Type 0) : Type 0 where
  pub history : List Call
  pub place : ℕ → Option ℕ
  pub intents : ℕ → Option (Noted Call)  -- the unsettled ones
  pub active : ℕ → Option (Plan Call)  -- those that this hub admitted, and neither decided nor aborted
  pub locals : ℕ → Local Call

-- an intent on a device that its plan names
abbrev pub seen_plan : {Call : Type 0} → (List Call → Config) → ℕ → Noted Call → Bool → Option (Intent Call)
seen_plan over t noted true =
    Some (record {
      t = t;
      call = noted.plan.call;
      before = over noted.base;
      due =
          over (noted.base ++ noted.plan.call ∷ []);
    })
seen_plan over t noted false = None

-- an intent as a device sees it
abbrev pub intent_seen : {Call : Type 0} → (List Call → Config) → ℕ → ℕ → Option (Noted Call) → Option (Intent Call)
intent_seen over device t None = None
intent_seen over device t (Some noted) = seen_plan over t noted (noted.plan.names device)

-- one device of the world, its own part given
abbrev pub cell_of : {Call : Type 0} → (ℕ → List Call → Config) → Network Call → ℕ → Local Call → Cell Call
cell_of over network device here =
    record {
      node = here.node;
      session = here.session;
      history = network.history;
      open_intent = λ t. intent_seen (over device) device t (network.intents t);
      place = network.place;
      clear = here.clear;
      role = here.role;
      stale = here.stale;
      at = here.at;
    }

-- one device of the world
abbrev pub cell : {Call : Type 0} → (ℕ → List Call → Config) → Network Call → ℕ → Cell Call
cell over network device = cell_of over network device (network.locals device)

-- a device's own part
abbrev pub local : {Call : Type 0} → Cell Call → Local Call
local one =
    record {
      node = one.node;
      session = one.session;
      clear = one.clear;
      role = one.role;
      stale = one.stale;
      at =
          one.at;
    }

-- what may happen
pub data Happening (Call : Type 0) : Type 0 where
  Performs : ℕ → Way → Happening Call
  Admits : ℕ → Plan Call → Happening Call
  Decides : ℕ → Plan Call → Happening Call
  Aborts : ℕ → Happening Call
  Settles : ℕ → Happening Call
  Releases : ℕ → Happening Call
  Ticks : ℕ → Happening Call
  Restarts : ℕ → Happening Call
  Stops : Happening Call
  Reconciles : (ℕ → List ℕ) → Happening Call

-- the own part of a device after an Intent, by whether that names it
abbrev pub admitted_local : {Call : Type 0} → (List Call → Config) → Cell Call → ℕ → Call → Bool → Local Call
admitted_local over one t call true = local (cell_admitted over one t call)
admitted_local over one t call false = local one

-- the network after a happening
abbrev pub happens : {Call : Type 0} → (ℕ → DeviceKind) → (ℕ → List Call → Config) → Network Call → Happening Call
    → Network Call
happens kinds over network (Performs device way) =
    record network {
      locals =
          updated_at network.locals device (local (performed (kinds device) (over device) (cell over network device)
          (network.locals device).role way));
    }
happens kinds over network (Admits t plan) =
    record network {
      intents = updated_at network.intents t (Some (record { plan = plan; base = network.history }));
      active = updated_at network.active t (Some plan);
      locals = λ device. admitted_local (over device) (cell over network device) t plan.call (plan.names device);
    }
happens kinds over network (Decides t plan) =
    record network {
      history = network.history ++ plan.call ∷ [];
      place = updated_at network.place t (Some (length network.history + 1));
      active = updated_at network.active t None;
      locals = λ device. local (decided (cell over network device) t plan.call);
    }
happens kinds over network (Aborts t) =
    record network {
      active = updated_at network.active t None;
      locals =
          λ device. local (aborted (cell over network device) t);
    }
happens kinds over network (Settles t) = record network { intents = updated_at network.intents t None }
happens kinds over network (Releases device) =
    record network { locals = updated_at network.locals device (local (released (cell over network device))) }
happens kinds over network (Ticks seconds) =
    record network {
      locals =
          λ device. local (at_node (cell over network device) (ticked (network.locals device).node seconds));
    }
happens kinds over network (Restarts device) =
    record network {
      locals =
          updated_at network.locals device (local (at_node (cell over network device)
          (restarted (network.locals device).node)));
    }
happens kinds over network Stops =
    record network { active = λ t. None; locals = λ device. local (stopped (cell over network device)) }
happens kinds over network (Reconciles ts) =
    record network { locals = λ device. local (mending (cell over network device) (ts device)) }

-- when it may happen
module _ {Call : Type 0} (kinds : ℕ → DeviceKind) (over : ℕ → List Call → Config)
    (Stands : List Call → Plan Call → Type 0) (Fits : List Call → Plan Call → Plan Call → Type 0)
    (Valid : List Call → Plan Call → Type 0) where
  pub record MayAdmitPlan (network : Network Call) (t : ℕ) (plan : Plan Call) : Type 0 where
    pub stands : Stands network.history plan
    pub fits : (other : ℕ) (another : Plan Call) → network.active other ≡ Some another
        → Fits network.history plan another
    pub ready : (device : ℕ) → plan.names device ≡ true → ((network.locals device).role ≡ Free)
        × ((network.locals device).stale ≡ false)
    pub unused : network.intents t ≡ None
    pub unplaced : network.place t ≡ None

  pub record MayDecidePlan (network : Network Call) (t : ℕ) (plan : Plan Call) : Type 0 where
    pub active : network.active t ≡ Some plan
    pub valid : Valid network.history plan
    pub prepared : (device : ℕ) → plan.names device ≡ true → (intent : Intent Call)
        × ((network.locals device).role ≡ Works intent Prepared) × (intent.t ≡ t)

  pub record MaySettleIntent (network : Network Call) (t : ℕ) : Type 0 where
    pub clear : (device : ℕ) (noted : Noted Call) → network.intents t ≡ Some noted → noted.plan.names device ≡ true
        → ((network.locals device).clear t ≡ true) × IsNotOn (over device) t (network.locals device).role
    pub inactive : network.active t ≡ None

  -- when a happening may come
  abbrev pub May : Network Call → Happening Call → Type 0
  May network (Performs device way) = PossibleDue (kinds device)
      (network.locals device).node (network.locals device).session (due_op (kinds device) (over device)
      (cell over network device) (network.locals device).role) way
  May network (Admits t plan) = MayAdmitPlan network t plan
  May network (Decides t plan) = MayDecidePlan network t plan
  May network (Aborts t) = (device : ℕ) (intent : Intent Call) (stage : Stage)
      → (network.locals device).role ≡ Works intent stage → nat_eq t intent.t ≡ true
      → is_preparing_stage stage ≡ false
  May network (Settles t) = MaySettleIntent network t
  May network (Releases device) = MayRest (over device) (network.locals device).role
  May network (Ticks seconds) = Unit {0}
  May network (Restarts device) = Unit {0}
  May network Stops = Unit {0}
  May network (Reconciles ts) = (device : ℕ) → ((network.locals device).role ≡ Free)
      × ((t : ℕ) (intent : Intent Call) → (cell over network device).open_intent t ≡ Some intent → list_any (nat_eq t)
      (ts device) ≡ true)

module _ {Call : Type 0} (over : ℕ → List Call → Config) (Stands : List Call → Plan Call → Type 0)
    (Fits : List Call → Plan Call → Plan Call → Type 0) (Valid : List Call → Plan Call → Type 0) where
  -- what is kept of the network
  pub record Kept (network : Network Call) : Type 0 where
    pub each : (device : ℕ) → Invariant (over device) (cell over network device)
    -- what this hub has active stands after the history, and fits
    pub stands : (t : ℕ) (plan : Plan Call) → network.active t ≡ Some plan → Stands network.history plan
    pub fit : (t other : ℕ) (plan another : Plan Call) → network.active t ≡ Some plan
        → network.active other ≡ Some another → nat_eq t other ≡ false
        → Fits network.history plan another
    pub noted : (t : ℕ) (plan : Plan Call) → network.active t ≡ Some plan → (note : Noted Call)
        × (network.intents t ≡ Some note) × (note.plan ≡ plan)
    -- who works with the decision open works for an active one
    pub working : (device : ℕ) (intent : Intent Call) (stage : Stage)
        → (network.locals device).role ≡ Works intent stage → is_open stage ≡ true
        → (plan : Plan Call) × (network.active intent.t ≡ Some plan) × (plan.names device ≡ true)
        × (plan.call ≡ intent.call)

-- A start over a journal that may hold anything legal: each node has its base, and is stale unless the journal is fresh.
abbrev pub start_local : {Call : Type 0} → Config → Bool → Local Call
start_local base stale =
    record {
      node = record {
        running = base;
        candidate = base;
        running_lock = None;
        candidate_lock = None;
        pending = None;
        live = [];
        last = 0;
      };
      session = 0;
      clear = λ t. true;
      role = Free;
      stale = stale;
      at = 0;
    }

abbrev pub start : {Call : Type 0} → (ℕ → List Call → Config) → List Call → (ℕ → Option ℕ) → (ℕ → Option (Noted Call))
    → Bool → Network Call
start over history place intents stale =
    record {
      history = history;
      place = place;
      intents = intents;
      active = λ t. None;
      locals = λ device. start_local (over device []) stale;
    }

-- What is promised at each moment.
module _ {Call : Type 0} (over : ℕ → List Call → Config) (network : Network Call) where
  -- each device comes back to the tree of a prefix of the history
  abbrev pub ComesBack : Type 0
  ComesBack = (device : ℕ) → (n : ℕ) × (n ≤ length network.history)
      × (kept_tree (network.locals device).node ≡ over device (take n network.history))

  -- what is pending is an unsettled intent's that names the device, and the tree running is the one due by it
  abbrev pub PendsKnown : Type 0
  PendsKnown = (device t : ℕ) → pending_id (network.locals device).node.pending ≡ Some t →
      (noted : Noted Call) × (network.intents t ≡ Some noted) × (noted.plan.names device ≡ true)
      × ((network.locals device).node.running ≡ over device (noted.base ++ noted.plan.call ∷ []))

  abbrev pub IsAtWork : DeviceRole Call → Bool
  IsAtWork (Works intent stage) = true
  IsAtWork role = false

  -- a device that isn't stale and that no transaction works on has the tree of the history
  abbrev pub IsEqual : Type 0
  IsEqual = (device : ℕ) → (network.locals device).stale ≡ false → IsAtWork (network.locals device).role ≡ false
      → Quiet (network.locals device).node (over device network.history)
