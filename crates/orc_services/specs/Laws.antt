-- What services rest on.
use Rattle.std.specs.Prelude.{◌≡◌, ◌≢◌, false, ℕ, List}
use Rattle.std.specs.FinMap.{get}
use Rattle.orc_path.specs.Steps.{PathStep}
use Rattle.orc_path.specs.Configurations.{Config}
use Rattle.orc_path.specs.Views.{Viewed}
use Rattle.orc_path.specs.declared.item.Write.TheVariants as write
use Rattle.orc_path.specs.declared.shape.Shape.{Shape}
use Rattle.orc_expr.specs.Reads.{IsFixedByReads}
use Rattle.orc_expr.specs.Touches.{write_touches_any}
use Rattle.orc_call.specs.declared.call.Action.{Action}
use Rattle.orc_template.specs.Devices.{DeviceTable}
use Rattle.orc_services.specs.Services.{Serving}
use Rattle.orc_services.specs.Expanded.{ExpandedTo, expanded_actions}
use Rattle.orc_services.specs.declared.list.ServiceList.{ServiceList}

-- Two views of the data that share what a call's expansions read give the same actions, the same refusal and the same
-- reads.
abbrev pub ExpandedIsFixedByReads : Type 0
ExpandedIsFixedByReads =
    (lists : List ServiceList) (devices : DeviceTable) (actions : List Action) (view : Viewed)
    → IsFixedByReads (λ v. expanded_actions (record { lists = lists; devices = devices; view = v }) actions)
    (λ expanded. expanded.reads) view

-- What the actions of a call come to on data stands on other data under the same schema, where no path at which the two
-- differ touches what was read.
abbrev pub ExpandedStands : Type 0
ExpandedStands =
    (lists : List ServiceList) (devices : DeviceTable) (actions : List Action)
    (shapes : List PathStep → List ℕ → Shape) (old new : Config)
    → let on : Config → ExpandedTo (List Action) = λ items. expanded_actions
    (record { lists = lists; devices = devices; view = record { items = items; shapes = shapes } }) actions in
    ((path : List PathStep) → get old path ≢ get new path
    → write_touches_any (on old).reads (write.At path) ≡ false)
    → on new ≡ on old
