-- The steps that were read so far are lawful.
use Rattle.std.specs.Prelude.{◌≡◌, ◌≤◌, ◌+◌, ◌^◌, ℕ, Bool, true, not, ◌&&◌, nat_le, nat_lt, length, IsTrue, OnOk, Result}
use Rattle.std.specs.List.{list_all}
use Rattle.orc_call.specs.declared.call.TheConstants.{MOST_ACTIONS}
use Rattle.orc_decls.specs.Calls.{is_service_among, services_once}
use Rattle.orc_decls.specs.Calls.{is_action, is_lawful_name, is_write}
use Rattle.orc_decls.specs.declared.declarations.Decls.{Decls}
use Rattle.orc_decls.specs.declared.lawful.TheConstants.{MOST_WRITES}
use Rattle.orc_lines.specs.declared.fault.LineFault.{LineFault}
use Rattle.orc_script.specs.Steps.{is_step}
use Rattle.orc_script.specs.declared.script.Script.{Script}
use Rattle.orc_script.specs.declared.script.Part.{Part}
use Rattle.orc_script.specs.declared.script.Part.TheVariants as part

-- the open call has a lawful caller and number
abbrev pub has_caller : Script → Bool
has_caller s = is_lawful_name s.caller && nat_lt s.number (2 ^ 64)

-- the open call has so many lawful actions at most, which name each service once
abbrev pub are_begun : Decls → Script → Bool
are_begun decls s = nat_le (length s.actions) MOST_ACTIONS
    && (list_all (is_action decls) s.actions && services_once s.actions)

-- the literal that is open has a lawful name, which is new, and lawful writes; the call has room for it
abbrev pub is_literal_begun : Decls → Script → Bool
is_literal_begun decls s = is_lawful_name s.name && list_all (is_write decls) s.writes
    && (nat_lt (length s.actions) MOST_ACTIONS && not (is_service_among s.actions s.name))

-- the open call, and its actions
abbrev pub is_open : Decls → Script → Part → Bool
is_open decls s part.Steps = true
is_open decls s part.Call = has_caller s && are_begun decls s
is_open decls s part.Literal = has_caller s && are_begun decls s && is_literal_begun decls s

-- the steps so far, and the open call; there are at most so many writes
pub record AreSteps (decls : Decls) (most : ℕ) (s : Script) : Type 0 where
  pub steps : IsTrue (list_all (is_step decls) s.steps)
  pub call : IsTrue (is_open decls s s.part)
  pub few : length s.writes ≤ most

-- what a line that is no fault leaves lawful: the steps so far, ..
abbrev pub StaysLawful : {T : Type 0} → Decls → Script → Script → Result T LineFault → Type 0
StaysLawful decls old new result = (most : ℕ) → AreSteps decls most old → OnOk result (AreSteps decls most new)

-- .. where it stands in an open call, ..
abbrev pub StaysInCall : {T : Type 0} → Decls → Script → Script → Result T LineFault → Type 0
StaysInCall decls old new result =
    (most : ℕ) → AreSteps decls most old → old.part ≡ part.Call → OnOk result (AreSteps decls most new)

-- .. and where it may stand anywhere, so that it may hold one write more
abbrev pub StaysAnywhere : {T : Type 0} → Decls → Script → Script → Result T LineFault → Type 0
StaysAnywhere decls old new result =
    (most : ℕ) → AreSteps decls most old → most ≤ MOST_WRITES → OnOk result (AreSteps decls (most + 1) new)
