use Rattle.std.proofs.Common.{◌≡◌, drop}
use Rattle.orc_lines.specs.Names.{repeats, repeats_behind}
use Rattle.orc_lines.proofs.names.repeated_name.Given as goal

abbrev pub invariant-loop-name : goal.invariant-loop-name
invariant-loop-name l = repeats_behind l.before (drop l.name-index l.names) ≡ repeats l.names
