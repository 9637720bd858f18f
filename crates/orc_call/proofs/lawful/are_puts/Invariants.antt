use Rattle.std.proofs.Common.{take}
use Rattle.std.specs.declared.option.Option.TheVariants.{None}
use Rattle.orc_call.specs.Fields.{AreLawful}
use Rattle.orc_call.specs.Encoding.{puts_fields}
use Rattle.orc_call.proofs.lawful.are_puts.Given as goal

abbrev pub invariant-loop-i : goal.invariant-loop-i
invariant-loop-i l = AreLawful (puts_fields None (take l.i l.puts))
