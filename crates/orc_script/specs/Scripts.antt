-- What each form of a script's line makes of the steps so far, after declarations.
use Rattle.std.specs.Prelude.{ℕ, Bool, true, false, not, ◌&&◌, ◌||◌, ◌==◌, nat_eq, nat_le, List, [], ◌∷◌, ◌++◌, drop, length, Option, is_some, Result, if◌then◌else◌, ◌+◌}
use Rattle.std.specs.declared.option.Option.TheVariants.{None, Some}
use Rattle.std.specs.declared.result.Result.TheVariants.{Ok, Err}
use Rattle.std.specs.List.{list_any}
use Rattle.std.specs.Str.{is_utf8}
use Rattle.orc_path.specs.Alphabet.{is_identifier}
use Rattle.orc_path.specs.Limits.{is_long_name}
use Rattle.orc_call.specs.declared.call.Action.{Action}
use Rattle.orc_call.specs.declared.call.Action.TheVariants as action
use Rattle.orc_call.specs.declared.call.DevicePut.{DevicePut}
use Rattle.orc_call.specs.declared.call.Put.{Put}
use Rattle.orc_path.specs.Texts.{path_text}
use Rattle.std.specs.Option.{option_map_or}
use Rattle.orc_script.specs.Bodies.{body_of, is_long_body, kept_body}
use Rattle.orc_call.specs.declared.call.TheConstants.{MOST_ACTIONS}
use Rattle.orc_decls.specs.Calls.{is_service_among}
use Rattle.orc_decls.specs.Calls.{schema_named}
use Rattle.orc_decls.specs.declared.rule.Rule.{Rule}
use Rattle.orc_decls.specs.declared.rule.Rule.TheVariants as rule
use Rattle.orc_lines.specs.Rules.{checked, or_rule, on_ok}
use Rattle.orc_lines.specs.Lines.{is_end, is_large, is_skipped, lines_of, seen, text_of}
use Rattle.orc_lines.specs.Words.{cut_at, first_word, number_in}
use Rattle.orc_lines.specs.Keywords.{keyword_of}
use Rattle.orc_lines.specs.Names.{is_among, place_of, with_name}
use Rattle.orc_lines.specs.Items.{data_path_of, put_of, service_path_of}
use Rattle.orc_device.specs.declared.kind.OpKind.{OpKind}
use Rattle.orc_device.specs.declared.kind.When.{When}
use Rattle.orc_script.specs.Operations.{moment_named, operation_named}
use Rattle.orc_script.specs.Places.{device_item_of, device_node_of, device_path_of}
use Rattle.orc_script.specs.Steps.{is_tick}
use Rattle.orc_decls.specs.declared.declarations.Decls.{Decls}
use Rattle.orc_script.specs.declared.step.ScriptStep.{ScriptStep}
use Rattle.orc_script.specs.declared.step.ScriptStep.TheVariants as step
use Rattle.orc_lines.specs.declared.keyword.Keyword.{Keyword}
use Rattle.orc_lines.specs.declared.keyword.Keyword.TheVariants as keyword
use Rattle.orc_script.specs.declared.script.Script.{Script}
use Rattle.orc_script.specs.declared.script.Part.{Part}
use Rattle.orc_script.specs.declared.script.Part.TheVariants as part
use Rattle.orc_script.specs.declared.script.TheConstants.{MOST_CALLERS, MOST_STEPS}
use Rattle.orc_lines.specs.Rules.{on_line}

-- no step, and no call is open
abbrev pub no_steps : Script
no_steps = record {
  part = part.Steps;
  callers = [];
  steps = [];
  caller = [];
  number = 0;
  actions = [];
  name = [];
  writes = [];
}

-- steps of one line

-- no step more can stand
abbrev pub is_full : Script → Bool
is_full script = nat_le MOST_STEPS (length script.steps)

-- a step more
abbrev pub with_step : Script → ScriptStep → Script
with_step script step = record script { steps = script.steps ++ step ∷ [] }

-- a step of one word
abbrev pub after_bare : Script → ScriptStep → Result Script Rule
after_bare script step = checked ((is_full script, rule.Size) ∷ []) (Ok (with_step script step))

-- `D`, the name of a device, in a step more
abbrev pub step_name_of : Script → List ℕ → Result (List ℕ) Rule
step_name_of script rest =
    checked ((not (is_identifier rest), rule.Line) ∷ (is_long_name rest || is_full script, rule.Size) ∷ []) (Ok rest)

-- the steps that name a device and nothing more, by the first word of their line
abbrev pub step_on_device : Keyword → ℕ → ScriptStep
step_on_device keyword.Step device = step.Step device
step_on_device keyword.Restart device = step.Restart device
step_on_device keyword.Log device = step.Log device
step_on_device _ device = step.Show device

-- `step D`, `restart D`, `log D` and `show D`, after these declarations
unfoldable pub after_on_device : Keyword → Decls → Script → List ℕ → Result Script Rule
after_on_device word decls script rest =
    on_ok (step_name_of script rest) (λ name.
    or_rule (place_of decls.names name) rule.Unknown (λ device. Ok (with_step script (step_on_device word device))))

-- `json D`, of a device with a type
unfoldable pub after_json : Decls → Script → List ℕ → Result Script Rule
after_json decls script rest =
    on_ok (step_name_of script rest) (λ name.
    checked (((schema_named decls.schemas decls.devices name).plain, rule.Unknown) ∷ [])
    (or_rule (place_of decls.names name) rule.Unknown (λ device. Ok (with_step script (step.Json device)))))

-- `meta D PATH`
unfoldable pub after_meta : Decls → Script → List ℕ → Result Script Rule
after_meta decls script rest =
    on_ok (device_node_of decls (is_full script) rest) (λ node. Ok (with_step script (step.Meta node.0 node.1)))

-- `stop K B`
abbrev pub stop_words : Script → Option (List ℕ × List ℕ) → Result Script Rule
stop_words script None = Err rule.Line
stop_words script (Some words) =
    or_rule (number_in words.0) rule.Line (λ count.
    or_rule (number_in words.1) rule.Line (λ bytes.
    after_bare script (step.StopAt count bytes)))

unfoldable pub after_stop : Script → List ℕ → Result Script Rule
after_stop script rest = stop_words script (cut_at 32 rest)

-- `tick N`
unfoldable pub after_tick : Script → List ℕ → Result Script Rule
after_tick script rest =
    or_rule (number_in rest) rule.Line (λ seconds.
    checked ((not (is_tick seconds), rule.Size) ∷ []) (after_bare script (step.Tick seconds)))

-- `OP before` and `OP after`
abbrev pub fault_words : Option (List ℕ × List ℕ) → Result (OpKind × When) Rule
fault_words None = Err rule.Line
fault_words (Some words) =
    or_rule (operation_named words.0) rule.Line (λ operation.
    or_rule (moment_named words.1) rule.Line (λ moment. Ok (operation, moment)))

unfoldable pub link_fault_of : List ℕ → Result (OpKind × When) Rule
link_fault_of rest = fault_words (cut_at 32 rest)

-- `fault D OP before` and `fault D OP after`
abbrev pub fault_line : Decls → Script → Option (List ℕ × List ℕ) → Result Script Rule
fault_line decls script None = Err rule.Line
fault_line decls script (Some words) =
    on_ok (link_fault_of words.1) (λ fault.
    on_ok (step_name_of script words.0) (λ name.
    or_rule (place_of decls.names name) rule.Unknown (λ device.
    Ok (with_step script (step.Fault device fault.0 fault.1)))))

unfoldable pub after_fault : Decls → Script → List ℕ → Result Script Rule
after_fault decls script rest = fault_line decls script (cut_at 32 rest)

-- calls

-- a caller more than can be
abbrev pub is_caller_more : Script → List ℕ → Bool
is_caller_more script name = not (is_among script.callers name) && nat_le MOST_CALLERS (length script.callers)

-- `begin C`
unfoldable pub after_begin : Script → List ℕ → Result Script Rule
after_begin script rest =
    checked (
    (not (is_identifier rest), rule.Line)
    ∷ (is_long_name rest || is_full script || is_caller_more script rest, rule.Size)
    ∷ [])
    (Ok (record script { callers = with_name script.callers rest; steps = script.steps ++ step.Begin rest ∷ [] }))

-- What the line with this first word needs of the lines after it: `call`, that one is `end`; any other, nothing.
unfoldable pub is_followed : Keyword → List (List ℕ) → Bool
is_followed keyword.Call later = list_any is_end later
is_followed _ later = true

-- `call C N`, followed or not
abbrev pub call_words : Script → Bool → Option (List ℕ × List ℕ) → Result Script Rule
call_words script followed None = Err rule.Line
call_words script followed (Some words) =
    or_rule (number_in words.1) rule.Line (λ number.
    checked (
    (not (is_identifier words.0), rule.Line)
    ∷ (is_long_name words.0 || is_full script || is_caller_more script words.0, rule.Size)
    ∷ (not followed, rule.Line)
    ∷ [])
    (Ok (record script {
      part = part.Call;
      callers = with_name script.callers words.0;
      caller = words.0;
      number = number;
      actions = [];
    })))

unfoldable pub after_call : Script → List ℕ → Bool → Result Script Rule
after_call script rest followed = call_words script followed (cut_at 32 rest)

-- no action more can stand in the open call
abbrev pub is_call_full : Script → Bool
is_call_full script = nat_le MOST_ACTIONS (length script.actions)

-- what follows for the id of a service, which no other action of the call names
abbrev pub on_service : {X : Type 0} → Script → List ℕ → Result X Rule → Result X Rule
on_service script id answer = checked ((is_service_among script.actions id, rule.Duplicate) ∷ []) answer

-- `NAME`, the id of a service, in an action more: the call has room, and names it once
abbrev pub new_name_of : Script → List ℕ → Result (List ℕ) Rule
new_name_of script name =
    checked ((not (is_identifier name) || is_call_full script, rule.Line) ∷ (is_long_name name, rule.Size) ∷ [])
    (on_service script name (Ok name))

-- a literal whose writes are to come
abbrev pub with_literal_open : Script → List ℕ → Script
with_literal_open script name = record script { part = part.Literal; name = name; writes = [] }

-- `literal NAME`
unfoldable pub after_literal : Script → List ℕ → Result Script Rule
after_literal script rest = on_ok (new_name_of script rest) (λ name. Ok (with_literal_open script name))

-- an action more
abbrev pub with_action : Script → Action → Script
with_action script action = record script { actions = script.actions ++ action ∷ [] }

-- `PATH`, the entry of a service: its id is the path's text
abbrev pub service_id_of : Decls → Script → List ℕ → Result (List ℕ) Rule
service_id_of decls script rest =
    checked ((is_call_full script || is_some (cut_at 32 rest), rule.Line) ∷ [])
    (on_ok (service_path_of decls.services decls.data_schema rest) (λ path.
    on_service script (path_text path) (Ok (path_text path))))

-- `redeploy PATH`
unfoldable pub after_redeploy : Decls → Script → List ℕ → Result Script Rule
after_redeploy decls script rest =
    on_ok (service_id_of decls script rest) (λ id. Ok (with_action script (action.Redeploy id)))

-- the text begins as that of a path does, and a name doesn't
abbrev pub begins_as_path : List ℕ → Bool
begins_as_path [] = false
begins_as_path (b ∷ bs) = b == 47

-- `NAME` and `PATH`, the id of any service
abbrev pub named_or_listed : Decls → Script → List ℕ → Result (List ℕ) Rule
named_or_listed decls script rest =
    if begins_as_path rest then service_id_of decls script rest else new_name_of script rest

-- `delete NAME` and `delete PATH`
unfoldable pub after_delete : Decls → Script → List ℕ → Result Script Rule
after_delete decls script rest =
    on_ok (named_or_listed decls script rest) (λ id. Ok (with_action script (action.Delete id)))

-- `PATH JSON`, the entry of a service and its body. A limit goes before a service that is named twice; a body that is
-- none passes no limit.
abbrev pub body_words : Decls → Script → Option (List ℕ × List ℕ) → Result (List ℕ × List Put) Rule
body_words decls script None = Err rule.Line
body_words decls script (Some words) =
    checked ((nat_eq (length words.1) 0, rule.Line) ∷ [])
    (on_ok (service_path_of decls.services decls.data_schema words.0) (λ path.
    checked ((option_map_or is_long_body (body_of decls.data_schema path words.1) false, rule.Size) ∷ [])
    (on_service script (path_text path)
    (on_ok (kept_body decls.data_schema path (body_of decls.data_schema path words.1)) (λ body.
    Ok (path_text path, body))))))

abbrev pub service_body_of : Decls → Script → List ℕ → Result (List ℕ × List Put) Rule
service_body_of decls script rest =
    checked ((is_call_full script, rule.Line) ∷ []) (body_words decls script (cut_at 32 rest))

-- the action of a line with this first word that names a service and its body
abbrev pub bodied_action : Keyword → List ℕ → List Put → Action
bodied_action keyword.Modify id body = action.Modify id body
bodied_action _ id body = action.Create id body

-- `create PATH JSON` and `modify PATH JSON`, by their first word
unfoldable pub after_bodied : Keyword → Decls → Script → List ℕ → Result Script Rule
after_bodied word decls script rest =
    on_ok (service_body_of decls script rest) (λ made. Ok (with_action script (bodied_action word made.0 made.1)))

-- `set ITEM`
unfoldable pub after_set : Decls → Script → List ℕ → Result Script Rule
after_set decls script rest =
    checked ((is_call_full script, rule.Line) ∷ [])
    (on_ok (put_of (Some decls.services) decls.data_schema false rest) (λ put.
    Ok (with_action script (action.Set put))))

-- `unset PATH`
unfoldable pub after_unset : Decls → Script → List ℕ → Result Script Rule
after_unset decls script rest =
    checked ((is_call_full script || is_some (cut_at 32 rest), rule.Line) ∷ [])
    (on_ok (data_path_of decls.services decls.data_schema rest) (λ path.
    Ok (with_action script (action.Unset path))))

-- `base D ITEM`
unfoldable pub after_base_put : Decls → Script → List ℕ → Result Script Rule
after_base_put decls script rest =
    checked ((is_call_full script, rule.Line) ∷ [])
    (on_ok (device_item_of decls rest) (λ put. Ok (with_action script (action.BasePut put))))

-- `unbase D PATH`
unfoldable pub after_base_remove : Decls → Script → List ℕ → Result Script Rule
after_base_remove decls script rest =
    checked ((is_call_full script, rule.Line) ∷ [])
    (on_ok (device_path_of decls rest) (λ named. Ok (with_action script (action.BaseRemove named.0 named.1))))

-- the open literal gets its writes: the call has it as an action
abbrev pub with_literal : Script → Script
with_literal script = record script {
  part = part.Call;
  actions = script.actions ++ action.Literal script.name script.writes ∷ [];
  name = [];
  writes = [];
}

-- a write more of the open literal
abbrev pub with_write : Script → DevicePut → Script
with_write script write = record script { writes = script.writes ++ write ∷ [] }

-- `write D ITEM`
unfoldable pub after_write : Decls → Script → List ℕ → Result Script Rule
after_write decls script rest = on_ok (device_item_of decls rest) (λ write. Ok (with_write script write))

-- the call with its actions is a step
abbrev pub with_call : Script → Script
with_call script = record script {
  part = part.Steps;
  steps = script.steps
      ++ step.Call (record { caller = script.caller; number = script.number; actions = script.actions }) ∷ [];
  caller = [];
  actions = [];
}

-- `end`, after at least one action
unfoldable pub after_end : Script → Result Script Rule
after_end script = checked ((nat_eq (length script.actions) 0, rule.Line) ∷ []) (Ok (with_call script))

-- which forms stand where

-- of more than one word, where no call is open
unfoldable pub a_step : Keyword → Decls → Script → List ℕ → Bool → Result Script Rule
a_step keyword.Begin decls script rest followed = after_begin script rest
a_step keyword.Step decls script rest followed = after_on_device keyword.Step decls script rest
a_step keyword.Tick decls script rest followed = after_tick script rest
a_step keyword.Restart decls script rest followed = after_on_device keyword.Restart decls script rest
a_step keyword.Fault decls script rest followed = after_fault decls script rest
a_step keyword.Show decls script rest followed = after_on_device keyword.Show decls script rest
a_step keyword.Log decls script rest followed = after_on_device keyword.Log decls script rest
a_step keyword.Json decls script rest followed = after_json decls script rest
a_step keyword.Meta decls script rest followed = after_meta decls script rest
a_step keyword.Stop decls script rest followed = after_stop script rest
a_step keyword.Call decls script rest followed = after_call script rest followed
a_step _ decls script rest followed = Err rule.Line

-- of one word
unfoldable pub bare_step : Keyword → Script → Result Script Rule
bare_step keyword.Admit script = after_bare script step.Admit
bare_step keyword.Decide script = after_bare script step.Decide
bare_step keyword.Settle script = after_bare script step.Settle
bare_step keyword.Stop script = after_bare script step.Stop
bare_step keyword.Recover script = after_bare script step.Recover
bare_step keyword.Reconcile script = after_bare script step.Reconcile
bare_step keyword.History script = after_bare script step.History
bare_step keyword.Data script = after_bare script step.ShowData
bare_step _ script = Err rule.Line

-- an action of the open call
unfoldable pub an_action : Keyword → Decls → Script → List ℕ → Result Script Rule
an_action keyword.Create decls script rest = after_bodied keyword.Create decls script rest
an_action keyword.Modify decls script rest = after_bodied keyword.Modify decls script rest
an_action keyword.Redeploy decls script rest = after_redeploy decls script rest
an_action keyword.Literal decls script rest = after_literal script rest
an_action keyword.Delete decls script rest = after_delete decls script rest
an_action keyword.Set decls script rest = after_set decls script rest
an_action keyword.Unset decls script rest = after_unset decls script rest
an_action keyword.Base decls script rest = after_base_put decls script rest
an_action keyword.Unbase decls script rest = after_base_remove decls script rest
an_action _ decls script rest = Err rule.Line

-- a line of a literal, or the action after it
unfoldable pub behind_literal : Keyword → Decls → Script → List ℕ → Result Script Rule
behind_literal keyword.Write decls script rest = after_write decls script rest
behind_literal word decls script rest = an_action word decls (with_literal script) rest

-- the line that ends the open call
unfoldable pub call_end : Keyword → Script → Result Script Rule
call_end keyword.End script = after_end script
call_end _ script = Err rule.Line

-- a line of more than one word
unfoldable pub words_at : Part → Keyword → Decls → Script → List ℕ → Bool → Result Script Rule
words_at part.Steps word decls script rest followed = a_step word decls script rest followed
words_at part.Call word decls script rest followed = an_action word decls script rest
words_at part.Literal word decls script rest followed = behind_literal word decls script rest

-- a line of one word
unfoldable pub word_at : Part → Keyword → Script → Result Script Rule
word_at part.Steps word script = bare_step word script
word_at part.Call word script = call_end word script
word_at part.Literal word script = call_end word (with_literal script)

-- a line with this first word
abbrev pub step_words : Decls → Script → Keyword → Bool → Option (List ℕ × List ℕ) → Result Script Rule
step_words decls script word followed None = word_at script.part word script
step_words decls script word followed (Some words) = words_at script.part word decls script words.1 followed

-- a line that is not skipped, with the lines after it
unfoldable pub after_step : Decls → Script → List ℕ → List (List ℕ) → Result Script Rule
after_step decls script text later =
    step_words decls script (keyword_of (first_word text)) (is_followed (keyword_of (first_word text)) later)
    (cut_at 32 text)

-- a line with the lines after it; so many bytes stand before it
unfoldable pub scripted_at : Decls → Script → ℕ → List ℕ → List (List ℕ) → Result Script Rule
scripted_at decls script at line later =
    checked ((is_large at line, rule.Size) ∷ (not (is_utf8 (text_of line)), rule.Utf8) ∷ [])
    (if is_skipped (text_of line) then Ok script else after_step decls script (text_of line) later)

-- the steps in lines, after these declarations
abbrev pub script_steps : Decls → Script → ℕ → ℕ → List (List ℕ) → Result (List ScriptStep) (ℕ × Rule)
script_steps decls script at number [] = Ok script.steps
script_steps decls script at number (line ∷ later) =
    on_line (number + 1) (scripted_at decls script at line later) (λ new.
    script_steps decls new (at + length line) (number + 1) later)

-- the script of a bundle: the steps in the lines after so many bytes and so many lines of what is seen of its text
abbrev pub script_of : Decls → List ℕ → ℕ → ℕ → Result (List ScriptStep) (ℕ × Rule)
script_of decls bytes rest number = script_steps decls no_steps rest number (lines_of (drop rest (seen bytes)))
