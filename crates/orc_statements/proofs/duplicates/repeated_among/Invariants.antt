-- Those before are kept once each, and what is left decides.
use Rattle.std.proofs.Common.{◌≡◌, [], take, drop}
use Rattle.orc_statements.specs.Names.{repeated_among}
use Rattle.orc_statements.specs.inside.Seen.{HasSame}
use Rattle.orc_statements.proofs.duplicates.repeated_among.Given as goal

abbrev pub invariant-loop-name : goal.invariant-loop-name
invariant-loop-name l = record {
  same : HasSame l.earlier (take l.name-index l.names);
  left : repeated_among (take l.name-index l.names) (drop l.name-index l.names) ≡ repeated_among [] l.names;
}
