-- Lists of the data that may get templates, and what the reader of a block makes of its text.
use Rattle.std.specs.Prelude.{ℕ, ◌-◌, Bool, not, ◌&&◌, List, [], ◌∷◌, length, take, Result}
use Rattle.std.specs.declared.result.Result.TheVariants.{Ok, Err}
use Rattle.std.specs.List.{list_all}
use Rattle.orc_path.specs.Steps.{PathStep, has_keys}
use Rattle.orc_schema_nodes.specs.Schemas.{SchemaTable, node_at, path_names}
use Rattle.orc_decls.specs.Declarations.{is_list_node}
use Rattle.orc_typed.specs.Typed.{stand}
use Rattle.orc_decls.specs.declared.rule.Rule.{Rule}
use Rattle.orc_decls.specs.declared.rule.Rule.TheVariants as rule
use Rattle.orc_lines.specs.Rules.{checked}
use Rattle.orc_declarations.specs.Declarations.{is_template_of}

abbrev pub template_of : SchemaTable → List PathStep → List ℕ → Result (List ℕ) Rule
template_of schema list text = checked ((not (is_template_of schema list text), rule.Template) ∷ []) (Ok text)

-- a list that is reached through containers alone
abbrev pub is_reached : SchemaTable → List PathStep → Bool
is_reached schema list = list_all (λ step. not (has_keys step)) list
    && (stand schema [] (take (length list - 1) list) && is_list_node (node_at schema (path_names list)))
