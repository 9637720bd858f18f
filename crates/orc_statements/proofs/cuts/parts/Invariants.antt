use Rattle.std.proofs.Common.{◌≡◌, ◌++◌, length}
use Rattle.std.specs.Str.{IsUtf8}
use Rattle.orc_statements.specs.Cuts.{parts}
use Rattle.orc_statements.proofs.cuts.parts.Given as goal

abbrev pub invariant-loop-part : goal.invariant-loop-part
invariant-loop-part l = record {
  utf8 : IsUtf8 l.rest;
  left : l.all ++ parts l.mark l.rest ≡ parts l.mark l.text;
}

abbrev pub decreases-loop-part : goal.decreases-loop-part
decreases-loop-part l = length l.rest
