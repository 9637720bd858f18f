use Rattle.std.proofs.Common.{◌≡◌, ◌++◌, ◌∷◌, take}
use Rattle.std.specs.String.{string_bytes}
use Rattle.std.specs.List.{flat_map}
use Rattle.orc_path.specs.Texts.{key_text}
use Rattle.orc_path.proofs.text.push_step.Given as goal

abbrev pub invariant-loop-key : goal.invariant-loop-key
invariant-loop-key l = string_bytes l.out ≡ string_bytes l.fn.out ++ 47 ∷ l.step.node ++ flat_map key_text (take l.key-index l.step.keys)
