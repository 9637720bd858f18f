-- The body of a service, of a JSON text.
use Rattle.std.specs.Prelude.{ℕ, Bool, not, ◌||◌, nat_lt, List, [], ◌∷◌, length, map, Option, Result}
use Rattle.std.specs.declared.result.Result.TheVariants.{Ok}
use Rattle.std.specs.Option.{option_and_then, option_map}
use Rattle.std.specs.Result.{result_ok}
use Rattle.std.specs.List.{list_any}
use Rattle.serde_json.specs.Data.{Data}
use Rattle.orc_path.specs.Limits.{is_long_path}
use Rattle.orc_path.specs.Steps.{PathStep}
use Rattle.orc_path.specs.declared.item.Item.{Item}
use Rattle.orc_schema_nodes.specs.Schemas.{SchemaTable}
use Rattle.orc_json.specs.Readings.{outcome, reading, rows_below}
use Rattle.orc_template.specs.Said.{json_value}
use Rattle.orc_call.specs.declared.call.Put.{Put}
use Rattle.orc_decls.specs.Calls.{is_body}
use Rattle.orc_decls.specs.declared.lawful.TheConstants.{MOST_WRITES}
use Rattle.orc_decls.specs.declared.rule.Rule.{Rule}
use Rattle.orc_decls.specs.declared.rule.Rule.TheVariants as rule
use Rattle.orc_lines.specs.Rules.{checked, or_rule}
use Rattle.orc_lines.specs.Items.{is_long_item}

-- rows of a configuration as items
abbrev pub puts_of : List (List PathStep × Item) → List Put
puts_of rows = map (λ row. record { path = row.0; item = row.1 }) rows

-- what a JSON value says below the entry of a service, in path order, where it is a body of that
abbrev pub body_in : SchemaTable → List PathStep → Data → Option (List Put)
body_in schema entry json =
    option_map (λ config. puts_of (rows_below entry config)) (result_ok (outcome (reading schema entry json)))

-- what a JSON text says below the entry of a service, where it is a body of that
abbrev pub body_of : SchemaTable → List PathStep → List ℕ → Option (List Put)
body_of schema entry text = option_and_then (body_in schema entry) (json_value text)

-- an item passes a limit
abbrev pub is_long_put : Put → Bool
is_long_put put = is_long_path put.path || is_long_item put.item

-- one of a body does, or they are too many
abbrev pub is_long_body : List Put → Bool
is_long_body body = nat_lt MOST_WRITES (length body) || list_any is_long_put body

-- What is kept of a body that keeps the limits. It is looked at once more, and is then one of the service, which no law
-- says yet.
abbrev pub kept_body : SchemaTable → List PathStep → Option (List Put) → Result (List Put) Rule
kept_body schema entry found =
    or_rule found rule.Json (λ body. checked ((not (is_body schema entry body), rule.Json) ∷ []) (Ok body))
