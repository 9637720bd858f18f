use Rattle.std.proofs.Common.{◌≡◌, [], drop}
use Rattle.std.specs.String.{string_bytes}
use Rattle.orc_template.specs.Values.{parts_done}
use Rattle.orc_template.specs.inside.Machine.{scene}
use Rattle.orc_template.proofs.filling.parts_text.Given as goal

-- the parts that are left, after the text so far
abbrev pub invariant-loop-part : goal.invariant-loop-part
invariant-loop-part g l =
    parts_done (scene (g.V.DataView.viewed l.view) l.here) (string_bytes l.text) (drop l.part-index l.parts) l.reads.reads
    ≡ parts_done (scene (g.V.DataView.viewed l.view) l.here) [] l.parts l.fn.reads.reads
