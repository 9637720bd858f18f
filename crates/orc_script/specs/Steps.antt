-- What the steps of a script are, after declarations.
use Rattle.std.specs.Prelude.{ℕ, ◌≤◌, ◌^◌, Bool, true, ◌&&◌, not, nat_le, nat_lt, List, [], ◌∷◌, length, IsTrue}
use Rattle.std.specs.List.{list_all}
use Rattle.orc_decls.specs.Calls.{is_call, is_lawful_name, schema_named}
use Rattle.orc_decls.specs.Devices.{name_of}
use Rattle.orc_decls.specs.declared.declarations.Decls.{Decls}
use Rattle.orc_lines.specs.Names.{with_name}
use Rattle.orc_script.specs.Places.{is_node_path}
use Rattle.orc_script.specs.declared.script.TheConstants.{LONGEST_TICK, MOST_CALLERS, MOST_STEPS}
use Rattle.orc_script.specs.declared.step.ScriptStep.{ScriptStep}
use Rattle.orc_script.specs.declared.step.ScriptStep.TheVariants.{Begin, Admit, Step, Decide, Settle, Tick, Restart, Fault, Stop, StopAt, Recover, Reconcile, Show, Json, Log, Meta, ShowData, History}
use Rattle.orc_script.specs.declared.step.ScriptStep.TheVariants as script_step

-- what a bundle has

-- The seconds of a line `tick`: one at least, and a day at most.
abbrev pub is_tick : ℕ → Bool
is_tick seconds = nat_le 1 seconds && nat_le seconds LONGEST_TICK

-- A step of a script after these declarations: devices are declared ones, `json` names a device with a type, and `meta`
-- a path that the device may have.
abbrev pub is_step : Decls → ScriptStep → Bool
is_step decls (Begin caller) = is_lawful_name caller
is_step decls (script_step.Call call) = is_call decls call
is_step decls Admit = true
is_step decls (Step device) = nat_lt device (length decls.names)
is_step decls Decide = true
is_step decls Settle = true
is_step decls (Tick seconds) = is_tick seconds
is_step decls (Restart device) = nat_lt device (length decls.names)
is_step decls (Fault device operation at) = nat_lt device (length decls.names)
is_step decls Stop = true
is_step decls (StopAt count bytes) = nat_lt count (2 ^ 64) && nat_lt bytes (2 ^ 64)
is_step decls Recover = true
is_step decls Reconcile = true
is_step decls (Show device) = nat_lt device (length decls.names)
is_step decls (Json device) = nat_lt device (length decls.names)
    && not (schema_named decls.schemas decls.devices (name_of decls.names device)).plain
is_step decls (Log device) = nat_lt device (length decls.names)
is_step decls (Meta device path) = nat_lt device (length decls.names)
    && is_node_path (schema_named decls.schemas decls.devices (name_of decls.names device)) path
is_step decls ShowData = true
is_step decls History = true

-- these callers, and the one that a step `begin` or `call` names
abbrev pub callers_with : List (List ℕ) → ScriptStep → List (List ℕ)
callers_with callers (Begin caller) = with_name callers caller
callers_with callers (script_step.Call call) = with_name callers call.caller
callers_with callers other = callers

-- these callers and those that steps name, each once
abbrev pub callers_behind : List (List ℕ) → List ScriptStep → List (List ℕ)
callers_behind callers [] = callers
callers_behind callers (step ∷ steps) = callers_behind (callers_with callers step) steps

-- Each step is one that these declarations allow, and there are no more steps and callers than can be.
pub record IsScript (decls : Decls) (steps : List ScriptStep) : Type 0 where
  pub allowed : IsTrue (list_all (is_step decls) steps)
  pub few : length steps ≤ MOST_STEPS
  pub callers : length (callers_behind [] steps) ≤ MOST_CALLERS
