use Rattle.std.proofs.Common.{◌≡◌, drop}
use Rattle.serde_json.specs.View.{items_view, members_view}
use Rattle.orc_template.specs.Templates.{items_resolve, members_resolve}
use Rattle.orc_template.specs.inside.Machine.{site}
use Rattle.orc_template.proofs.checking.+resolving.Given as goal

abbrev pub invariant-items_resolve-loop-item : goal.invariant-items_resolve-loop-item
invariant-items_resolve-loop-item g l =
    items_resolve (site (g.V.DataView.viewed l.fn.view).shapes l.fn.node) (items_view (drop l.item-index l.item-items))
    ≡ items_resolve (site (g.V.DataView.viewed l.fn.view).shapes l.fn.node) (items_view l.fn.items.items)

abbrev pub invariant-members_resolve-loop-name : goal.invariant-members_resolve-loop-name
invariant-members_resolve-loop-name g l =
    members_resolve (site (g.V.DataView.viewed l.fn.view).shapes l.fn.node) (members_view l._name-iterator)
    ≡ members_resolve (site (g.V.DataView.viewed l.fn.view).shapes l.fn.node) (members_view l.fn.members.entries)
