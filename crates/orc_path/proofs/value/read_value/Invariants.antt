use Rattle.std.proofs.Common.{◌≡◌}
use Rattle.orc_path.specs.inside.ValueReading.{unescaped, ahead}
use Rattle.orc_path.proofs.value.read_value.Given as goal

-- from here on the rest gives what the whole text gives
abbrev pub invariant-loop-character : goal.invariant-loop-character
invariant-loop-character l = ahead l.reader l.character-iterator.rest.now ≡ unescaped l.text
