use Rattle.std.proofs.Common.{◌≡◌, length, take}
use Rattle.std.specs.List.{flat_map}
use Rattle.orc_text.specs.Counts.{capped}
use Rattle.orc_path.specs.Texts.{key_text}
use Rattle.orc_path.proofs.length.keys_len.Given as goal

-- the keys so far
abbrev pub invariant-loop-key : goal.invariant-loop-key
invariant-loop-key l = l.len ≡ capped (length (flat_map key_text (take l.key-index l.keys)))
