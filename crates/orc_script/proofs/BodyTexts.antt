-- What the text of a body is read as.
use Rattle.std.proofs.Common.{◌≡◌, ℕ, List, Some, None, Err, ap, sym, subst, ◌∙◌}
use Rattle.std.specs.Option.{option_and_then, option_map}
use Rattle.std.specs.Result.{result_ok}
use Rattle.serde_json.specs.Data.{Data}
use Rattle.orc_path.specs.Configurations.{Config}
use Rattle.orc_path.specs.Steps.{PathStep}
use Rattle.orc_path.specs.declared.item.Item.{Item}
use Rattle.orc_schema_nodes.specs.Schemas.{SchemaTable}
use Rattle.orc_json.specs.Readings.{IsJson, IsNoJson, JsonGives, outcome, reading, rows_below}
use Rattle.orc_json.specs.declared.fault.JsonFault.{JsonFault}
use Rattle.orc_json.specs.declared.fault.JsonFault.TheVariants.{Bad, Syntax}
use Rattle.orc_template.proofs.Texts.{value_is, value_is_none}
use Rattle.orc_script.specs.Bodies.{body_in, body_of, puts_of}

module _ (s : SchemaTable) (entry : List PathStep) (text : List ℕ) where
  of_outcome : (d : Data) → IsJson text d → body_of s entry text
      ≡ option_map (λ (config : Config). puts_of (rows_below entry config)) (result_ok (outcome (reading s entry d)))
  of_outcome d is = ap (option_and_then (body_in s entry)) (value_is text d is)

  -- a body that was read of the text
  pub body_found : (d : Data) (config : Config) (rows : List (List PathStep × Item)) → IsJson text d → result_ok (outcome (reading s entry d)) ≡ Some config
      → rows ≡ rows_below entry config → Some (puts_of rows) ≡ body_of s entry text
  body_found d config rows is gives same =
      ap (λ (rs : List (List PathStep × Item)). Some (puts_of rs)) same
      ∙ sym (of_outcome d is ∙ ap (option_map (λ (c : Config). puts_of (rows_below entry c))) gives)

  -- a text that is no body
  pub body_at_fault : (d : Data) → IsJson text d → result_ok (outcome (reading s entry d)) ≡ None → None ≡ body_of s entry text
  body_at_fault d is gives = sym (of_outcome d is ∙ ap (option_map (λ (c : Config). puts_of (rows_below entry c))) gives)

  -- a text that is no JSON
  pub no_body : IsNoJson text → None ≡ body_of s entry text
  no_body h = sym (ap (option_and_then (body_in s entry)) (value_is_none text h))

  -- what is known of an answer at fault, which says nothing of what would be answered else
  abbrev pub Fails : JsonFault → Type 0
  Fails fault = JsonGives {X = Unit {0}} (λ config none. Unit {0}) s entry text (Err fault)

  pub no_json_given : (fault : JsonFault) → fault ≡ Syntax → Fails fault → None ≡ body_of s entry text
  no_json_given fault is h = no_body (subst Fails is h)

  pub fault_given : (fault : JsonFault) (path : List PathStep) (rule : ℕ) → fault ≡ Bad path rule → Fails fault → None ≡ body_of s entry text
  fault_given fault path rule is h =
      let given : Fails (Bad path rule) = subst Fails is h in
      body_at_fault given.0 given.1 (ap (λ r. result_ok r) given.2)
