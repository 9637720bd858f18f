-- What is read at nodes.
use Rattle.std.specs.Prelude.{ℕ, List, [], ◌∷◌, Option, map}
use Rattle.std.specs.List.{flat_map, filter}
use Rattle.std.specs.declared.option.Option.TheVariants.{None, Some}
use Rattle.orc_path.specs.Steps.{PathStep}
use Rattle.orc_path.specs.Configurations.{Config}
use Rattle.orc_expr.specs.Looks.{look_on, nodes_under, leaf_texts, is_present}
use Rattle.orc_expr.specs.declared.looked.Looked.{Looked}
use Rattle.orc_expr.specs.declared.step.LastStep.{LastStep}
use Rattle.orc_expr.specs.declared.nodes.ReadKind.{ReadKind}
use Rattle.orc_expr.specs.declared.nodes.ReadKind.TheVariants as kind
use Rattle.orc_expr.specs.declared.choosing.Only.{Only}
use Rattle.orc_expr.specs.declared.choosing.Only.TheVariants as only
use Rattle.orc_expr.specs.declared.read.Read.{Read}
use Rattle.orc_expr.specs.declared.read.Read.TheVariants as read

-- the item at the node, or the entries of the list that it is
abbrev pub read_as : ReadKind → List PathStep → Read
read_as kind.Item node = read.Item node
read_as kind.Keys node = read.Keys node

-- the one text that was found, or that there is none, or more than one
abbrev pub only_of : Option (List (List ℕ)) → Only
only_of None = only.Many
only_of (Some []) = only.Nothing
only_of (Some (text ∷ [])) = only.One text
only_of (Some (text ∷ other ∷ more)) = only.Many

-- the nodes of a step, and that their items or entries are read
abbrev pub read_look : LastStep → ReadKind → Looked (List PathStep)
read_look step kind = look_on step.before (nodes_under step.name [])
    (λ places. map (read_as kind) (nodes_under step.name [] places))

-- the texts of a step to a leaf
abbrev pub leaf_look : Config → LastStep → Option (List ℕ) → Looked (List ℕ)
leaf_look items step default = look_on step.before
    (λ places. flat_map (leaf_texts items default) (nodes_under step.name [] places))
    (λ places. map read.Item (nodes_under step.name [] places))

-- the leaves of a step that are present
abbrev pub present_look : Config → LastStep → Looked (List PathStep)
present_look items step = look_on step.before
    (λ places. filter (is_present items) (nodes_under step.name [] places))
    (λ places. map read.Item (nodes_under step.name [] places))

-- these were found, and the item of the context was read
abbrev pub read_here : {X : Type 0} → List PathStep → List X → Looked X
read_here here found = record { found = Some found; reads = read.Item here ∷ [] }
