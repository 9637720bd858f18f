use Rattle.std.proofs.Common.{◌≡◌, length}
use Rattle.std.specs.Str.{IsUtf8}
use Rattle.std.specs.List.{list_all, slice_split}
use Rattle.orc_types.specs.Paths.{is_step_mark, is_reference}
use Rattle.orc_types.proofs.paths.all_references.Given as goal

abbrev pub invariant-loop-part : goal.invariant-loop-part
invariant-loop-part l = record {
  utf8 : IsUtf8 l.rest;
  left : list_all is_reference (slice_split is_step_mark l.rest) ≡ list_all is_reference (slice_split is_step_mark l.text);
}

abbrev pub decreases-loop-part : goal.decreases-loop-part
decreases-loop-part l = length l.rest
