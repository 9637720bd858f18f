use Rattle.std.proofs.Common.{◌≡◌, ◌+◌, length, take}
use Rattle.std.specs.List.{flat_map}
use Rattle.orc_text.specs.Counts.{capped}
use Rattle.orc_path.specs.Texts.{escape}
use Rattle.orc_path.proofs.length.key_len.Given as goal

-- the brackets, and the bytes so far
abbrev pub invariant-loop-byte : goal.invariant-loop-byte
invariant-loop-byte l = l.len ≡ capped (2 + length (flat_map escape (take l.byte-index l.key)))
