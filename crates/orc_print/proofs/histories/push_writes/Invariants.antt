use Rattle.std.proofs.Common.{◌≡◌, ◌++◌, codes, take}
use Rattle.std.specs.String.{string_bytes}
use Rattle.std.specs.List.{flat_map}
use Rattle.orc_decls.specs.Texts.{write_line}
use Rattle.orc_print.proofs.histories.push_writes.Given as goal

abbrev pub invariant-loop-write : goal.invariant-loop-write
invariant-loop-write l = string_bytes l.out ≡ string_bytes l.initial.out ++ flat_map (write_line (codes "  ")) (take l.write-index l.writes)
