use Rattle.std.proofs.Common.{◌≡◌, ◌++◌, codes, take}
use Rattle.std.specs.String.{string_bytes}
use Rattle.std.specs.List.{flat_map}
use Rattle.orc_decls.specs.Texts.{body_line}
use Rattle.orc_print.proofs.histories.push_body.Given as goal

abbrev pub invariant-loop-put : goal.invariant-loop-put
invariant-loop-put l = string_bytes l.out ≡ string_bytes l.initial.out ++ flat_map (body_line (codes "  ")) (take l.put-index l.body)
