-- What the calls answer, as definitions have it.
use Rattle.std.specs.Prelude.{ℕ, List, Option, None, Result, if◌then◌else◌}
use Rattle.std.specs.Option.{option_map_or}
use Rattle.std.specs.Result.{result_map_both}
use Rattle.std.specs.Str.{is_utf8}
use Rattle.serde_json.specs.Data.{Data, null}
use Rattle.serde_json.specs.Read.{read}
use Rattle.orc_call.specs.declared.call.Put.{Put}
use Rattle.orc_template.specs.declared.expansion.Expansion.{Expansion}
use Rattle.orc_template.specs.declared.fault.TemplateFault.{TemplateFault}
use Rattle.orc_template.specs.declared.fault.ExpandFault.{ExpandFault}

-- the JSON value that bytes are the text of, where they are one
abbrev pub json_value : List ℕ → Option Data
json_value bytes = if is_utf8 bytes then read bytes else None

-- a template is the text of its JSON
abbrev pub template_json : List ℕ → Data
template_json text = option_map_or (λ json. json) (json_value text) null

abbrev pub read_result : Result (List ℕ) TemplateFault → Result Data TemplateFault
read_result result = result_map_both template_json (λ fault. fault) result

abbrev pub parts_result : Result Expansion ExpandFault → Result (List (ℕ × List Put)) ExpandFault
parts_result result = result_map_both (λ expansion. expansion.parts) (λ fault. fault) result
