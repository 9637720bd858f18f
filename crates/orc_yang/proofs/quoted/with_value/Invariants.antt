use Rattle.std.proofs.Common.{◌≡◌, ◌++◌, length}
use Rattle.orc_yang.specs.Quoted.{string_value}
use Rattle.orc_yang.specs.inside.Valuing.{valued_with, KnowsBlanks}
use Rattle.orc_yang.proofs.quoted.with_value.Given as goal

-- what is made so far becomes the whole value, once the rest is taken
abbrev pub invariant-loop-rest : goal.invariant-loop-rest
invariant-loop-rest l = record {
  value : valued_with l.column l.value l.rest ≡ l.fn.argument ++ string_value l.column l.raw;
  blanks : KnowsBlanks l.value l.rest;
}

abbrev pub decreases-loop-rest : goal.decreases-loop-rest
decreases-loop-rest l = length l.rest
