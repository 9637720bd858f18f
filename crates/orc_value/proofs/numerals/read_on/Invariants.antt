use Rattle.std.proofs.Common.{◌≡◌, ◌<◌, ◌^◌, drop}
use Rattle.std.specs.Str.Parse.{digits_value_after}
use Rattle.orc_value.proofs.numerals.read_on.Given as goal

abbrev pub invariant-loop-digit : goal.invariant-loop-digit
invariant-loop-digit l = record {
  fits : l.number < 2 ^ 64;
  reads : digits_value_after 10 l.number (drop l.digit-index l.digits) ≡ digits_value_after 10 l.start l.digits;
}
