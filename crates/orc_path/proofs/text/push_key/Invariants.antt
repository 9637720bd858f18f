use Rattle.std.proofs.Common.{◌≡◌, ◌++◌, ◌∷◌}
use Rattle.std.specs.String.{string_bytes}
use Rattle.std.specs.List.{flat_map}
use Rattle.orc_path.specs.Texts.{escape}
use Rattle.orc_path.proofs.text.push_key.Given as goal

-- what is written, and what is left
abbrev pub invariant-loop-character : goal.invariant-loop-character
invariant-loop-character l =
    string_bytes l.out ++ flat_map escape l.character-iterator.rest.now ≡ string_bytes l.fn.out ++ 91 ∷ flat_map escape l.key
