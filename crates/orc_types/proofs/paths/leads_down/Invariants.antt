use Rattle.std.proofs.Common.{◌≡◌, length}
use Rattle.std.specs.Str.{IsUtf8}
use Rattle.std.specs.List.{slice_split}
use Rattle.orc_types.specs.Paths.{is_step_mark, leads_down}
use Rattle.orc_types.proofs.paths.leads_down.Given as goal

abbrev pub invariant-loop-part : goal.invariant-loop-part
invariant-loop-part l = record {
  utf8 : IsUtf8 l.rest;
  left : leads_down (slice_split is_step_mark l.rest) ≡ leads_down (slice_split is_step_mark l.text);
}

abbrev pub decreases-loop-part : goal.decreases-loop-part
decreases-loop-part l = length l.rest
