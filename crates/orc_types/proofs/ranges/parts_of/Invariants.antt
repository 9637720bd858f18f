use Rattle.std.proofs.Common.{◌≡◌, length}
use Rattle.std.specs.Str.{IsUtf8}
use Rattle.orc_types.specs.Ranges.{parts_of}
use Rattle.orc_types.proofs.Parts.{behind}
use Rattle.orc_types.proofs.ranges.parts_of.Given as goal

abbrev pub invariant-loop-part : goal.invariant-loop-part
invariant-loop-part l = record {
  utf8 : IsUtf8 l.rest;
  left : behind l.ranges (parts_of l.ends l.rest) ≡ parts_of l.ends l.text;
}

abbrev pub decreases-loop-part : goal.decreases-loop-part
decreases-loop-part l = length l.rest
