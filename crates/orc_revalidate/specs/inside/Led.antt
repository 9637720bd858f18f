-- Which changes may take an instance from a leafref elsewhere (RFC 7950 section 9.9).
use Rattle.std.specs.Prelude.{ℕ, zero, suc, Bool, false, not, ◌&&◌, ◌||◌, List, take, is_some, is_none, option_and_then}
use Rattle.std.specs.List.{list_any}
use Rattle.std.specs.Option.{option_map_or}
use Rattle.std.specs.FinMap.{get}
use Rattle.orc_path.specs.Steps.{PathStep, ends_in_keys}
use Rattle.orc_path.specs.Configurations.{Config}
use Rattle.orc_path.specs.declared.item.Item.{Item}
use Rattle.orc_schema_nodes.specs.Schemas.{SchemaTable, path_names, node_at}
use Rattle.orc_schema_nodes.specs.declared.line.SchemaLine.{SchemaLine}
use Rattle.orc_schema_nodes.specs.declared.line.Target.{Target as LeafrefTarget}
use Rattle.orc_check.specs.Validity.{behind, default_in, target_in}
use Rattle.orc_expr.specs.declared.read.Target.{Target}
use Rattle.orc_revalidate.specs.inside.Inside.{rows_inside}
use Rattle.orc_revalidate.specs.inside.Looked.{has_row}

-- one of the entries that the path's first n steps are, or fewer, isn't there
abbrev pub is_cut_off : Config → List PathStep → ℕ → Bool
is_cut_off c path zero = false
is_cut_off c path (suc n) =
    (ends_in_keys (take (suc n) path) && is_none (get c (take (suc n) path))) || is_cut_off c path n

-- the target's node is that of the path, or stands below it
abbrev pub is_at_or_below : List PathStep → LeafrefTarget → Bool
is_at_or_below path target = is_some (behind path target.names)

-- A leafref of this target may lead there from a row that is there: the entries that both share are.
abbrev pub may_reach : Config → List PathStep → LeafrefTarget → Bool
may_reach c path target = is_at_or_below path target && not (is_cut_off c path target.shared)

abbrev pub leads_into : Config → List PathStep → SchemaLine → Bool
leads_into c path line = option_map_or (may_reach c path) (target_in line.node) false

-- a leafref of a row that is there may lead to the node of the path, or to one below it
abbrev pub is_led_to : SchemaTable → Config → List PathStep → Bool
is_led_to s c path = list_any (leads_into c path) s.lines

-- the leaf at the path has a default, which counts where it is missing
abbrev pub has_default_at : SchemaTable → List PathStep → Bool
has_default_at s path = is_some (option_and_then default_in (node_at s (path_names path)))

-- with a row that went, an instance may have gone: its own values, and the defaults that count below it
abbrev pub may_take : SchemaTable → Config → (List PathStep × Item) → Bool
may_take s new row = not (has_row new row) && is_led_to s new row.0

-- with a leaf that came, its default no longer counts
abbrev pub may_cover : SchemaTable → Config → Config → (List PathStep × Item) → Bool
may_cover s old new row = not (has_row old row) && (has_default_at s row.0 && is_led_to s new row.0)

abbrev pub target_takes : SchemaTable → Config → Config → Target → Bool
target_takes s old new target = list_any (may_take s new) (rows_inside old target)
    || list_any (may_cover s old new) (rows_inside new target)

-- an instance of some leafref's target may have gone
abbrev pub may_lose : SchemaTable → Config → Config → List Target → Bool
may_lose s old new targets = list_any (target_takes s old new) targets
