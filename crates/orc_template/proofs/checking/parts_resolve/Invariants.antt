use Rattle.std.proofs.Common.{◌≡◌, drop}
use Rattle.std.specs.List.{list_all}
use Rattle.orc_template.specs.Templates.{part_resolves}
use Rattle.orc_template.specs.inside.Machine.{site}
use Rattle.orc_template.proofs.checking.parts_resolve.Given as goal

abbrev pub invariant-loop-part : goal.invariant-loop-part
invariant-loop-part g l =
    list_all (part_resolves (site (g.V.DataView.viewed l.view).shapes l.node)) (drop l.part-index l.parts)
    ≡ list_all (part_resolves (site (g.V.DataView.viewed l.view).shapes l.node)) l.parts
